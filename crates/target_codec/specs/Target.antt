-- What a log is synced to: its spelling, and which target goes on from which.
use Rattle.std.proofs.Common.{◌≡◌, ℕ, ◌-◌, ◌<◌, ◌≤◌, Bool, true, false, cond, List, ◌++◌, ◌+◌, ◌^◌, length, Result, Ok, Err, refl, subst, arith}
use Rattle.std.specs.Prelude.{IsTrue, nat_lt, nat_le, ◌&&◌, if◌then◌else◌}
use Rattle.codec_base.specs.declared.error.CodecError.{CodecError}
use Rattle.codec_base.specs.declared.error.CodecError.TheVariants.{Invalid}
use Rattle.codec_base.specs.declared.error.InvalidAt.TheVariants as at
use Rattle.codec_base.specs.Codec.{Reading, ◌>>=◌, IsBytes, IsLawful}
use Rattle.codec_base.specs.Varint.{varint, varint_at}
use Rattle.codec_base.specs.VarintLaws.{varint_lawful}
use Rattle.codec_base.specs.Laws.{below_64, bind_ok, ok_is}
use Rattle.codec_base.specs.Combine.{pair_spelling, pair_admits, pair_at, pair_lawful, through_at, through_lawful}
use Rattle.target_codec.specs.declared.target.Target.{Target}
use Rattle.target_codec.specs.declared.target.CompactTarget.{CompactTarget}
use Rattle.target_codec.specs.declared.target.EngineError.{EngineError}
use Rattle.target_codec.specs.declared.target.EngineError.TheVariants.{InvalidTarget}
use Rattle.std.proofs.lemmas.List.{length-append}

-- ---- a value that passes a test

abbrev pub tested_at : {A : Type 0} → (A → Bool) → CodecError → (List ℕ → Reading A) → List ℕ → Reading A
tested_at test fault reads bytes = reads bytes >>= λ x. if test x.0 then Ok (x.0, x.1) else Err fault

abbrev pub tested_admits : {A : Type 0} → (A → Bool) → (A → Type 0) → A → Type 0
tested_admits test admits x = admits x × IsTrue (test x)

module _ {A : Type 0} (test : A → Bool) (fault : CodecError) (sa : A → List ℕ) (pa : A → Type 0) (ra : List ℕ → Reading A) (la : IsLawful sa pa ra) where
  passed : (b : Bool) (r : Result (A × List ℕ) CodecError) (y : A × List ℕ) → cond b r (Err fault) ≡ Ok y → (b ≡ true) × (r ≡ Ok y)
  passed true r y e = (refl, e)
  passed false r y e = absurd cc

  tested_exact : (bytes : List ℕ) (x : A) (rest : List ℕ) → IsBytes bytes → tested_at test fault ra bytes ≡ Ok (x, rest) → (bytes ≡ sa x ++ rest) × tested_admits test pa x
  tested_exact bytes x rest fits e =
      let a = bind_ok (ra bytes) (λ y. cond (test y.0) (Ok (y.0, y.1)) (Err fault)) (x, rest) e in
      let ea = la.exact bytes a.0.0 a.0.1 fits a.1 in
      let g = passed (test a.0.0) (Ok (a.0.0, a.0.1)) (x, rest) a.2 in
      subst (λ (y : A × List ℕ). (bytes ≡ sa y.0 ++ y.1) × tested_admits test pa y.0) (ok_is (a.0.0, a.0.1) (x, rest) g.1) (ea.0, (ea.1, g.0))

  tested_again : (x : A) (rest : List ℕ) → tested_admits test pa x → tested_at test fault ra (sa x ++ rest) ≡ Ok (x, rest)
  tested_again x rest h =
      let e = la.again x rest h.0 in
      let t : test x ≡ true = h.1 in
      rw (e, t) refl

  pub tested_lawful : IsLawful sa (tested_admits test pa) (tested_at test fault ra)
  tested_lawful = record { exact = tested_exact; again = tested_again }

-- ---- a start and an end as varints: the start is below the end, and both are numbers of leaves of a tree

abbrev pub range_spelling : ℕ × ℕ → List ℕ
range_spelling = pair_spelling varint varint

abbrev pub is_nonempty : ℕ × ℕ → Bool
is_nonempty r = nat_lt r.0 r.1

abbrev pub is_of_a_tree : ℕ × ℕ → Bool
is_of_a_tree r = nat_le r.1 (2 ^ 62)

abbrev pub range_admits : ℕ × ℕ → Type 0
range_admits = tested_admits is_of_a_tree (tested_admits is_nonempty (pair_admits below_64 below_64))

abbrev pub range_at : List ℕ → Reading (ℕ × ℕ)
range_at = tested_at is_of_a_tree (Invalid at.Target) (tested_at is_nonempty (Invalid at.NonEmptyRange) (pair_at varint_at varint_at))

range_lawful : IsLawful range_spelling range_admits range_at
range_lawful = tested_lawful is_of_a_tree (Invalid at.Target) _ _ _ (tested_lawful is_nonempty (Invalid at.NonEmptyRange) _ _ _ (pair_lawful varint varint below_64 below_64 varint_at varint_at varint_lawful varint_lawful))

-- ---- a size as a varint, from 1 to the most leaves of a tree

abbrev pub is_a_size : ℕ → Bool
is_a_size n = nat_lt 0 n && nat_le n (2 ^ 62)

abbrev pub size_admits : ℕ → Type 0
size_admits = tested_admits is_a_size below_64

abbrev pub size_at : List ℕ → Reading ℕ
size_at = tested_at is_a_size (Invalid at.CompactTarget) varint_at

size_lawful : IsLawful varint size_admits size_at
size_lawful = tested_lawful is_a_size (Invalid at.CompactTarget) varint below_64 varint_at varint_lawful

module _ {F D : Type 0} where
  -- the root, and the start and the end
  abbrev pub parts : Target F D → D × (ℕ × ℕ)
  parts t = (t.root, (t.start, t.end))

  abbrev pub of_parts : D × (ℕ × ℕ) → Target F D
  of_parts p = record { root = p.0; start = p.1.0; end = p.1.1 }

  -- the root and the size
  abbrev pub compact_parts : CompactTarget F D → D × ℕ
  compact_parts t = (t.root, t.size)

  abbrev pub of_compact_parts : D × ℕ → CompactTarget F D
  of_compact_parts p = record { root = p.0; size = p.1 }

  -- the last operation of a size alone
  abbrev pub target_of : CompactTarget F D → Result (Target F D) (EngineError F)
  target_of t = if is_a_size t.size then Ok (record { root = t.root; start = t.size - 1; end = t.size }) else Err (InvalidTarget 0 t.size)

  -- it ends later than another, and starts no earlier
  pub record Advances (target from : Target F D) : Type 0 where
    pub of_a_tree : target.end ≤ 2 ^ 62
    pub longer : from.end < target.end
    pub later : from.start ≤ target.start

  pub advances_not_itself : (t : Target F D) → Advances t t → ⊥
  advances_not_itself t h = absurd (let longer = h.longer in omega arith)

  pub advances_on : (a b c : Target F D) → Advances a b → Advances b c → Advances a c
  advances_on a b c p q =
      let p1 = p.longer in
      let q1 = q.longer in
      let p2 = p.later in
      let q2 = q.later in
      record { of_a_tree = p.of_a_tree; longer = omega arith; later = omega arith }

  module _ (spelling : D → List ℕ) (admits : D → Type 0) (reads : List ℕ → Reading D) (lawful : IsLawful spelling admits reads) where
    pub target_lawful : IsLawful (λ t. pair_spelling spelling range_spelling (parts t)) (λ t. pair_admits admits range_admits (parts t)) (through_at of_parts (pair_at reads range_at))
    target_lawful = through_lawful parts of_parts (λ t. refl) (λ p. refl) _ _ _ (pair_lawful _ _ _ _ _ _ lawful range_lawful)

    pub compact_lawful : IsLawful (λ t. pair_spelling spelling varint (compact_parts t)) (λ t. pair_admits admits size_admits (compact_parts t)) (through_at of_compact_parts (pair_at reads size_at))
    compact_lawful = through_lawful compact_parts of_compact_parts (λ t. refl) (λ p. refl) _ _ _ (pair_lawful _ _ _ _ _ _ lawful size_lawful)

-- ---- lengths, for the code's sizes

pub both_sizes : (text more : List ℕ) → length (text ++ more) ≡ length text + length more
both_sizes text more = length-append text more

pub ruleset lengths = (both_sizes)

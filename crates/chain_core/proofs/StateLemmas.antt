-- States of fronts of lists, and where the present list stands by them.
use Rattle.std.proofs.Common.{◌≡◌, ◌⊎◌, inl, inr, Bool, true, false, ◌||◌, cond, zero, suc, List, [], ◌∷◌, ◌++◌, length, take, Option, Some, None, refl, sym, ◌∙◌, ap, subst, arith}
use Rattle.std.specs.Prelude.{nat_lt, Contains, IfSome}
use Rattle.std.specs.Bool.{Decides}
use Rattle.std.specs.List.{list_any}
use Rattle.std.specs.Option.{option_map}
use Rattle.std.proofs.Math.Seq.{take-length}
use Rattle.std.proofs.lemmas.List.{length-append, take-append-le}
use Rattle.chain_core.specs.Commitments.{later_state, is_same, is_same_equivalence, is_same-exact}
use Rattle.chain_core.specs.Sealing.{is_at}
use Rattle.chain_core.specs.States.{sizes, commitment_of, same_state, IsStateIn, AreStatesIn}
use Rattle.chain_core.specs.declared.commitment.Commitment.{Commitment}
use Rattle.tree_shape.specs.Hashing.{Hashing}
use Rattle.tree_shape.specs.Shape.{Shape}
use Rattle.log_model.specs.Machine.{State, stands_at}
use Rattle.log_model.specs.Meaning.{Meaning}
use Rattle.log_model.specs.Reach.{stands_on, later}
use Rattle.log_model.proofs.ReachLemmas.{Begins, front_of}

or_either : (a b : Bool) → (a || b) ≡ true → (a ≡ true) ⊎ (b ≡ true)
or_either true b e = inl refl
or_either false b e = inr e

or_second : (a b : Bool) → b ≡ true → (a || b) ≡ true
or_second true b e = refl
or_second false b e = e

or_decides : {X : Type 0} (a b : Bool) (x : X) (xs : List X) (y : X) → Decides a (x ≡ y) → Decides b (Contains xs y) → Decides (a || b) (Contains (x ∷ xs) y)
or_decides {X} a b x xs y d e = (found, told)
  where
    found : (a || b) ≡ true → Contains (x ∷ xs) y
    found t = elim (or_either a b t) [
      | inl first ↦ (0, omega arith, d.0 first)
      | inr rest ↦ let at = e.0 rest in (suc at.0, omega (arith, at.1), at.2)
    ]

    told : Contains (x ∷ xs) y → (a || b) ≡ true
    told (zero, within, is) = rw (d.1 is) refl
    told (suc k, within, is) = or_second a b (e.1 (k, omega (arith, within), is))

-- ---- lists that begin others

module _ {Op : Type 0} where
  pub whole : (xs : List Op) → Begins xs xs
  whole xs = (omega arith, sym (take-length xs))

  pub longer : (xs ys : List Op) → Begins xs (xs ++ ys)
  longer xs ys = let l = length-append xs ys in (omega (arith, l), sym (take-append-le (length xs) xs ys (omega arith) ∙ take-length xs))

-- ---- the later of two states

module _ {F D : Type 0} where
  -- it is by its size the later one
  later_size-picked : (b : Bool) (x y : Commitment F D) → (cond b y x).size ≡ cond b y.size x.size
  later_size-picked true x y = refl
  later_size-picked false x y = refl

  pub later_size : (inherited : Commitment F D) (oldest : Option (Commitment F D)) → (later_state inherited oldest).size ≡ later inherited.size (option_map (λ c. c.size) oldest)
  later_size inherited None = refl
  later_size inherited (Some base) = later_size-picked (nat_lt inherited.size base.size) inherited base

module _ {F D Op V : Type 0} (s : Shape) (h : Hashing D) (m : Meaning Op V) where
  abbrev In : List Op → Commitment F D → Type 0
  In list c = IsStateIn s h m list c

  abbrev AllIn : List Op → List (Commitment F D) → Type 0
  AllIn list cs = AreStatesIn s h m list cs

  -- ---- states of fronts

  module _ (xs ys : List Op) where
    pub state_longer : (c : Commitment F D) → In xs c → In (xs ++ ys) c
    state_longer c k = let l = length-append xs ys in (omega (arith, k.0, l), k.1 ∙ ap (commitment_of s h m) (sym (take-append-le c.size xs ys k.0)))

    pub states_longer : (cs : List (Commitment F D)) → AllIn xs cs → AllIn (xs ++ ys) cs
    states_longer [] k = tt
    states_longer (c ∷ cs) k = (state_longer c k.0, states_longer cs k.1)

    module _ (begins : Begins xs ys) where
      pub state_of_front : In ys (commitment_of s h m xs)
      state_of_front = (begins.0, ap (commitment_of s h m) begins.1)

      pub state_behind : (c : Commitment F D) → In xs c → In ys c
      state_behind c k = (omega (arith, k.0, begins.0), k.1 ∙ ap (commitment_of s h m) (front_of xs ys c.size begins k.0))

  later_in-picked : (list : List Op) (b : Bool) (x y : Commitment F D) → In list x → In list y → In list (cond b y x)
  later_in-picked list true x y k l = l
  later_in-picked list false x y k l = k

  -- the later of two states of fronts is one of a front
  pub later_in : (list : List Op) (inherited : Commitment F D) (oldest : Option (Commitment F D)) → In list inherited → IfSome oldest (In list) → In list (later_state inherited oldest)
  later_in list inherited None k l = k
  later_in list inherited (Some base) k l = later_in-picked list (nat_lt inherited.size base.size) inherited base k l

  -- ---- where the present list stands

  module _ (exact : (a b : D) → h.bytes a ≡ h.bytes b → a ≡ b) (now : State Op) (list : List Op) where
    abbrev Now : Commitment F D
    Now = commitment_of s h m now.ops

    state_decides : (c : Commitment F D) → In list c → Decides (stands_at (same_state F s h m) now list c.size) (c ≡ Now)
    state_decides c k = (
      λ t. k.1 ∙ sym (is_same-exact h.bytes exact Now (commitment_of s h m (take c.size list)) t),
      λ e. subst (λ d. is_same h.bytes Now d ≡ true) (sym e ∙ k.1) ((is_same_equivalence h.bytes).refl Now),
    )

    any_decides : (cs : List (Commitment F D)) → AllIn list cs → Decides (list_any (stands_at (same_state F s h m) now list) (sizes cs)) (Contains cs Now)
    any_decides [] k = (λ t. absurd (cc), λ c. absurd (omega (arith, c.1)))
    any_decides (c ∷ cs) k =
        or_decides (stands_at (same_state F s h m) now list c.size) (list_any (stands_at (same_state F s h m) now list) (sizes cs)) c cs Now (state_decides c k.0) (any_decides cs k.1)

    -- it stands there where its state is the boundary or a tip
    pub stands_decides : (db : Commitment F D) (tips : List (Commitment F D)) → In list db → AllIn list tips
        → Decides (stands_on (same_state F s h m) now list db.size (sizes tips)) (Contains (db ∷ tips) Now)
    stands_decides db tips k ks =
        or_decides (stands_at (same_state F s h m) now list db.size) (list_any (stands_at (same_state F s h m) now list) (sizes tips)) db tips Now (state_decides db k) (any_decides tips ks)

  -- ---- whether the present state is one of several, by a test of states and by one of lists

  module _ (now : State Op) (list : List Op) where
    same_there : (c : Commitment F D) → In list c → is_same h.bytes (commitment_of s h m now.ops) c ≡ stands_at (same_state F s h m) now list c.size
    same_there c k = ap (is_same h.bytes (commitment_of s h m now.ops)) k.1

    any_there : (cs : List (Commitment F D)) → AllIn list cs → is_at h.bytes (commitment_of s h m now.ops) cs ≡ list_any (stands_at (same_state F s h m) now list) (sizes cs)
    any_there [] k = refl
    any_there (c ∷ cs) k = rw (same_there c k.0, any_there cs k.1) refl

    pub stands_there : (db : Commitment F D) (tips : List (Commitment F D)) → In list db → AllIn list tips
        → is_at h.bytes (commitment_of s h m now.ops) (db ∷ tips) ≡ stands_on (same_state F s h m) now list db.size (sizes tips)
    stands_there db tips k ks = rw (same_there db k, any_there tips ks) refl

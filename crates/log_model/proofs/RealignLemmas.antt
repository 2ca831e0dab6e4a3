-- The sizes at which both databases open, one after another.
use Rattle.std.proofs.Common.{◌≡◌, ◌⊎◌, inl, inr, ℕ, ◌+◌, ◌≤◌, Bool, true, false, cond, ◌&&◌, List, [], ◌∷◌, length, refl, sym, subst, arith}
use Rattle.std.specs.Prelude.{nat_le, min, Contains}
use Rattle.tree_shape.specs.Hashing.{Hashing}
use Rattle.tree_shape.specs.Shape.{Shape}
use Rattle.volume_base.specs.Log.{Log, end_of}
use Rattle.volume_base.specs.Moments.{Image}
use Rattle.log_model.specs.Meaning.{Meaning}
use Rattle.log_model.specs.Machine.{State}
use Rattle.log_model.specs.Good.{IsGood}
use Rattle.log_model.specs.Stored.{DatabaseNames, StandsFor}
use Rattle.log_model.specs.Opening.{has, last_kept, opens_at, last_commit, Realigned}
use Rattle.log_model.proofs.LogLemmas.{ends_at}
use Rattle.log_model.proofs.SizeLemmas.{either, le_is}
use Rattle.log_model.proofs.OpeningLemmas.{opens_applied, opens_past, opens_at_cap, commit_below, commit_past, applied_some, rise_all, rises_from_zero}

-- what is chosen is within the cap
last_within : (most : ℕ) (witness : Log) (before i : ℕ) (ns : List ℕ) → before ≤ most → last_kept most witness before i ns ≤ most
last_within most witness before i [] le = le
last_within most witness before i (n ∷ ns) le =
    last_within most witness (cond (nat_le n most && has witness i) n before) (i + 1) ns
    (either (λ x. x ≤ most) (nat_le n most && has witness i) n before (λ e. first (nat_le n most) (has witness i) refl e) (λ e. le))
  where
    first : (x y : Bool) → nat_le n most ≡ x → (x && y) ≡ true → n ≤ most
    first true y e f = le_is n most e
    first false y e f = absurd cc

module _ {D Op V : Type 0} (s : Shape) (h : Hashing D) (spelling : D → List ℕ) (m : Meaning Op V) (among : List Op → Type 0) (allowed : V → Type 0) (first : Op) (names : DatabaseNames) (state : State Op) (image : Image)
    (g : IsGood m among allowed first state) (stands : StandsFor s h spelling m names state image) (some : 1 ≤ state.durable) where
  commit_is : (n most : ℕ) → Contains state.sizes n → n ≤ most → n ≤ last_commit m most state.ops
  commit_is n most c le =
      let one = applied_some (length state.ops) n state.sizes g.log.sizes c in
      let high = rise_all 0 (length state.ops) n state.sizes (rises_from_zero (length state.ops) state.sizes g.log.sizes) c in
      let past = commit_past m most 0 0 state.ops n one high (omega (arith, le)) (ends_at m among allowed first state.ops state.sizes c.0 n n g.log.commits c.1 c.2) in
      omega (arith, past)

  abbrev End : ℕ
  End = end_of (image.log names.log)

  pub realigned : Realigned m names state image (last_commit m End state.ops) (last_kept (last_commit m End state.ops) (image.log names.witness) 1 0 state.sizes)
  realigned = record { opens = opens; past = past; within = within; again = again }
    where
      f : ℕ
      f = last_commit m End state.ops

      c : ℕ
      c = last_kept f (image.log names.witness) 1 0 state.sizes

      opens : c ≡ opens_at names state image
      opens = sym (opens_at_cap m first names state image g.log)

      past : state.durable ≤ c
      past = let le = opens_past s h spelling m among allowed first names state image g stands in omega (arith, opens, le)

      durable : state.durable ≤ f
      durable = by g.log.durable
        where
          by : Contains state.sizes state.durable ⊎ ((state.durable ≡ 0) × (state.sizes ≡ 1 ∷ [])) → state.durable ≤ f
          by (inl d) = commit_is state.durable End d stands.full.operations.end_low
          by (inr p) = absurd (let none = p.0 in omega (arith, none, some))

      within : c ≤ f
      within = last_within f (image.log names.witness) 1 0 state.sizes (omega (arith, durable, some))

      applied : Contains state.sizes c
      applied = subst (Contains state.sizes) (sym opens) (opens_applied s h spelling m among allowed first names state image g)

      again : last_commit m (min c f) state.ops ≡ c
      again =
          let same : min c f ≡ c = omega (arith, within) in
          let low = commit_is c (min c f) applied (omega (arith, same)) in
          let high = commit_below m (min c f) 0 0 state.ops (omega arith) in
          omega (arith, low, high, same)

-- A database whose state stays, beside a journal that goes on.
use Rattle.std.proofs.Common.{◌≡◌, ℕ, zero, suc, ◌≤◌, ◌<◌, Bool, List, [], ◌∷◌, length, Some, Ok, refl, sym, ◌∙◌, ap, subst, arith}
use Rattle.std.specs.Prelude.{Result}
use Rattle.volume_base.specs.Log.{Log, pruned_to}
use Rattle.volume_base.specs.Moments.{Image}
use Rattle.volume_base.specs.Volume.{State}
use Rattle.tree_shape.specs.Hashing.{Hashing}
use Rattle.tree_shape.specs.Shape.{Shape}
use Rattle.auth_journal.specs.Durable.{IsFlushed, IsStarted, IsPrunedTo}
use Rattle.auth_journal.specs.Joined.{Joined, IsJoinedOf}
use Rattle.log_model.specs.Meaning.{Meaning}
use Rattle.log_model.specs.Good.{EndsWithCommit}
use Rattle.chain_core.specs.declared.commitment.Commitment.{Commitment}
use Rattle.auth_journal.proofs.ReadingLemmas.{run_end}
use Rattle.journal_base.specs.View.{View, IsHeld, log_of}
use Rattle.keyless_db.specs.DbView.{DbView, IsDbOf, IsHeldFor, IsSoundDb, SameState}

-- ---- soundness

module _ {F D Cfg : Type 0} (j k : Joined D Cfg) (state : Commitment F D) (sound : IsSoundDb j state) where
  pub sound_flushed : IsFlushed j k → IsSoundDb k state
  sound_flushed did = record {
    size = did.tree.leaves ∙ sound.size;
    few = sound.few;
    folded = did.bagging ∙ sound.folded;
  }

  pub sound_started : (fails : Bool) → IsStarted j k fails → IsSoundDb k state
  sound_started fails did = record {
    size = did.tree.leaves ∙ sound.size;
    few = sound.few;
    folded = did.bagging ∙ sound.folded;
  }

  pub sound_pruned : IsPrunedTo j k → IsSoundDb k state
  sound_pruned did = record {
    size = did.tree.leaves ∙ sound.size;
    few = sound.few;
    folded = did.bagging ∙ sound.folded;
  }

-- ---- held

module _ {F D Op V Cfg : Type 0} (s : Shape) (h : Hashing D) (m : Meaning Op V) (digest : D → List ℕ) (admits : D → Type 0) (spelling : Op → List ℕ) (ops : List Op) where
  pub db_kept : (old new : DbView F D Op Cfg) → SameState old new → IsDbOf s h m ops old → IsDbOf s h m ops new
  db_kept old new same of = record {
    ends = of.ends;
    few = of.few;
    state_is = same.state ∙ of.state_is;
    commit_is = of.commit_is ∙ ap Some (sym same.commit);
  }

  -- the journal goes on, and isn't pruned in memory past its log
  pub held_kept : (old new : DbView F D Op Cfg) (a b : Image) → SameState old new → IsHeldFor s h m digest admits spelling ops old a
      → IsJoinedOf s h digest admits spelling ops new.journal b → new.journal.tree.boundary ≤ new.journal.items.start → IsHeldFor s h m digest admits spelling ops new b
  held_kept old new a b same held journal low = record { db_of = db_kept old new same held.db_of; journal = journal; low = low }

pub low_flushed : {D Cfg : Type 0} (j k : Joined D Cfg) → IsFlushed j k → j.tree.boundary ≤ j.items.start → k.tree.boundary ≤ k.items.start
low_flushed {Cfg = Cfg} j k did low = omega (arith, did.tree.boundary, ap (λ (v : View Cfg). v.start) did.items, low)

pub low_started : {D Cfg : Type 0} (j k : Joined D Cfg) (fails : Bool) → IsStarted j k fails → j.tree.boundary ≤ j.items.start → k.tree.boundary ≤ k.items.start
low_started {Cfg = Cfg} j k fails did low = omega (arith, did.tree.boundary, ap (λ (v : View Cfg). v.start) did.items, low)

-- ---- pruned

-- answers that are one have one journal
pub ok_first : {A B E : Type 0} (x y : A) (p q : B) → (let r : Result (A × B) E = Ok (x, p) in r) ≡ Ok (y, q) → x ≡ y
ok_first {A} {B} x y p q e = let pair : (let r : A × B = (x, p) in r) ≡ (y, q) = cc in ap (λ (z : A × B). z.0) pair

pub some_ops : {Op V : Type 0} (m : Meaning Op V) (ops : List Op) → EndsWithCommit m ops → 0 < length ops
some_ops m [] ends = absurd ends
some_ops m (op ∷ ops) ends = omega arith

module _ {F D Cfg : Type 0} (j k : Joined D Cfg) (moved : 0 < j.items.end → IsPrunedTo j k) (stays : j.items.end ≡ 0 → k ≡ j) where
  pub sound_prune : (state : Commitment F D) → IsSoundDb j state → IsSoundDb k state
  sound_prune state sound = by j.items.end refl
    where
      by : (n : ℕ) → n ≡ j.items.end → IsSoundDb k state
      by zero none = subst (λ (x : Joined D Cfg). IsSoundDb x state) (sym (stays (sym none))) sound
      by (suc n) some = sound_pruned j k state sound (moved (subst (λ e. 0 < e) some (omega arith)))

pub low_pruned : {D Cfg : Type 0} (j k : Joined D Cfg) → IsPrunedTo j k → (a b : State) (point : ℕ) → IsHeld j.items a → IsHeld k.items b → log_of j.items b ≡ pruned_to (log_of j.items a) point
    → j.tree.boundary ≤ j.items.start → k.tree.boundary ≤ k.items.start
low_pruned {Cfg = Cfg} j k did a b point was is pruned low =
    let name = ap (λ (v : View Cfg). (log_of v b).start) did.items in
    let start = ap (λ (l : Log). l.start) pruned in
    omega (arith, did.tree.boundary, was.start_is, is.start_is, name, start, low)

pub end_of_held : {F D Op V Cfg : Type 0} (s : Shape) (h : Hashing D) (m : Meaning Op V) (digest : D → List ℕ) (admits : D → Type 0) (spelling : Op → List ℕ) (ops : List Op)
    (db : DbView F D Op Cfg) (image : Image) → IsHeldFor s h m digest admits spelling ops db image → db.journal.items.end ≡ length ops
end_of_held s h m digest admits spelling ops db image held = held.journal.end_is ∙ run_end spelling ops _ held.journal.items

-- A store that commits, and then drops what is below: what is said of the committed one, of the store itself.
use Rattle.std.proofs.Common.{◌≡◌, ℕ, max, List, length, sym, subst, arith}
use Rattle.std.specs.Prelude.{Result}
use Rattle.journal_base.specs.Blobs.{blob_start}
use Rattle.journal_base.specs.View.{View, log_of, left_of, SameLog, IsDurable, IsHeld}
use Rattle.volume_base.specs.Log.{Log, pruned_to, Advances, Stays}
use Rattle.volume_base.specs.Moments.{LogHas, LogLeft, Steps}
use Rattle.volume_base.specs.Volume.{State, LogCall}
use Rattle.witness_store.specs.StoreView.{HasWitnesses}
use Rattle.witness_store.specs.declared.witness.Witness.{Witness}
use Rattle.witness_store.specs.Witness.{text_of, IsAllowed}
use Rattle.witness_store.specs.Witnesses.{witnesses_of, Keeps, kept_from}
use Rattle.witness_store.proofs.KeepLemmas.{kept_in, keeps_pruned}
use Rattle.witness_store.proofs.StoreLemmas.{held_later, part_pruned, blob_low}

module _ {F D : Type 0} (spelling : D → List ℕ) (admits : D → Type 0) (view inside : View (Unit {0})) (is : inside ≡ view) (boundary : ℕ) (a b c : State) (same : SameLog view a b) (held : IsHeld view a) (ws : List (Witness F D)) (keeps : Keeps (witnesses_of spelling admits view a) ws) where
  abbrev point : View (Unit {0}) → ℕ
  point v = blob_start v.blob (kept_from ws v.start boundary)

  later : Keeps (witnesses_of spelling admits view b) ws
  later = subst (λ (l : Log). Keeps (kept_in (text_of spelling) (IsAllowed admits) l) ws) (sym same) keeps

  committed : (P : View (Unit {0}) → Type 0) → (IsHeld inside b → Keeps (witnesses_of spelling admits inside b) ws → P inside) → P view
  committed P says = subst (λ (v : View (Unit {0})). IsHeld v b → Keeps (witnesses_of spelling admits v b) ws → P v) is says (held_later view a b same held) later

  -- the log keeps the witnesses of the same list
  pub pruned_keeps : (IsHeld inside b → Keeps (witnesses_of spelling admits inside b) ws → log_of inside c ≡ pruned_to (log_of inside b) (blob_start inside.blob (kept_from ws inside.start boundary))) → Keeps (witnesses_of spelling admits view c) ws
  pruned_keeps says =
      let pruned = committed (λ (v : View (Unit {0})). log_of v c ≡ pruned_to (log_of v b) (point v)) says in
      let low = blob_low view.blob (kept_from ws view.start boundary) in
      subst (λ (l : Log). Keeps (kept_in (text_of spelling) (IsAllowed admits) l) ws) (sym pruned) (keeps_pruned (text_of spelling) (IsAllowed admits) ws (log_of view b) later (point view) (omega (arith, low)))

  -- up to a turn the images are those of before, and from it on they have all witnesses but for a front
  pub pruned_images : {T E : Type 0} (result : Result T E) (greatest least : ℕ) → LogCall view.name Stays a b → LogHas a view.name (HasWitnesses spelling ws greatest least) → left_of view a (log_of view a) → IsDurable view b
      → (IsHeld inside b → Keeps (witnesses_of spelling admits inside b) ws → LogCall inside.name (Advances (blob_start inside.blob (kept_from ws inside.start boundary))) b c)
      → Steps (LogLeft view.name) (HasWitnesses spelling ws greatest least) (HasWitnesses spelling ws (max greatest (kept_from ws view.start boundary)) (length ws)) a c result
  pruned_images result greatest least synced has here only says =
      let moved = committed (λ (v : View (Unit {0})). LogCall v.name (Advances (point v)) b c) says in
      part_pruned (text_of spelling) ws view.name greatest least (kept_from ws view.start boundary) (point view) a b c result synced.images has here same keeps.spelled only (blob_low view.blob (kept_from ws view.start boundary)) moved.images

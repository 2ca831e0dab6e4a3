-- A tree after a started sync.
use Rattle.std.proofs.Common.{◌≡◌, ℕ, Bool, List, Ok, Err, sym, ◌∙◌, ap, subst}
use Rattle.std.specs.Prelude.{Result}
use Rattle.std.specs.Result.{IsErrAnd}
use Rattle.volume_base.specs.Moments.{Image}
use Rattle.volume_base.specs.Volume.{State, Writes}
use Rattle.volume_base.proofs.JoinLemmas.{writes_joins}
use Rattle.journal_base.specs.View.{after_sync}
use Rattle.journal_base.specs.declared.ticket.SyncTicket.{SyncTicket}
use Rattle.tree_shape.specs.Hashing.{Hashing}
use Rattle.tree_shape.specs.Shape.{Shape}
use Rattle.tree_store.specs.declared.error.Error.{Error}
use Rattle.tree_store.specs.declared.error.Error.TheVariants as tree
use Rattle.merkle_full.specs.Flushing.{IsSameTree, after_start, outcome}
use Rattle.merkle_full.specs.Full.{Full, Rests}
use Rattle.merkle_full.specs.Lists.{IsFullOf}

pub started_same : {D : Type 0} (t u v : Full D) (failed : Bool) → IsSameTree t u → v ≡ after_start u failed → IsSameTree (after_start t failed) v
started_same t u v failed same is = subst (λ x. IsSameTree (after_start t failed) x) (sym is) (record { leaves = same.leaves; boundary = same.boundary; log = ap (λ l. after_sync l failed) same.log; metadata = same.metadata })

pub started_rests : {D : Type 0} (s : Shape) (u v : Full D) (failed : Bool) → Rests s u → v ≡ after_start u failed → Rests s v
started_rests s u v failed rests is = subst (λ x. Rests s x) (sym is) (record { boundary = rests.boundary; exact = rests.exact })

pub started_full : {D : Type 0} (s : Shape) (h : Hashing D) (spelling : D → List ℕ) (admits : D → Type 0) (all : List D) (u v : Full D) (failed : Bool) (image : Image)
    → v ≡ after_start u failed → IsFullOf s h spelling admits all u image → IsFullOf s h spelling admits all v image
started_full s h spelling admits all u v failed image is full = subst (λ x. IsFullOf s h spelling admits all x image) (sym is) (record {
  digests = full.digests;
  tree = full.tree;
  start_is = full.start_is;
  end_is = full.end_is;
  nodes = full.nodes;
  low = full.low;
  pins = full.pins;
})

-- where the sync has no memory
pub started_fails : {F T X : Type 0} (tells : Type 0) (a b c : State) (x : X) (r : Result (T × SyncTicket) (Error F)) (e : Error F) → IsErrAnd r (λ d. d ≡ e) → Writes {T = X} {E = Error F} tells tree.Volume a b (Ok x)
    → Writes {T = Unit {0}} {E = Error F} tells tree.Volume b c (Err e) → Writes {T = Unit {0}} {E = Error F} tells tree.Volume a c (outcome r)
started_fails tells a b c x (Ok y) e is ab bc = absurd is
started_fails {F = F} tells a b c x (Err d) e is ab bc = writes_joins tells tree.Volume tree.Volume tree.Volume a b c x (Err e) (Err d) ab bc (λ f. ap Err (sym is) ∙ f) (λ k. k)

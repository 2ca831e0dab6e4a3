-- A tree with later leaves in memory.
use Rattle.std.proofs.Common.{◌≡◌, ℕ, ◌+◌, ◌<◌, List, ◌++◌, length, take, Ok, Err, sym, ◌∙◌, ap, subst, arith}
use Rattle.std.specs.Prelude.{is_some, Result, IfErr, IsErrOf}
use Rattle.std.specs.Result.{IsErrAnd}
use Rattle.volume_base.specs.Moments.{Image}
use Rattle.volume_base.specs.Volume.{State, Reads}
use Rattle.volume_base.proofs.ReadLemmas.{OnlyRead, reads_of}
use Rattle.journal_base.specs.Items.{Spells}
use Rattle.tree_shape.specs.Hashing.{Hashing}
use Rattle.tree_shape.specs.Shape.{Shape, made, IsLawful}
use Rattle.tree_shape.specs.Slow.{nodes}
use Rattle.tree_shape.proofs.NeededLemmas.{made_le}
use Rattle.tree_store.specs.Stored.{IsMapOf}
use Rattle.tree_store.proofs.StoredLemmas.{front_nodes, map_of_longer}
use Rattle.tree_store.specs.declared.error.Error.{Error}
use Rattle.tree_store.specs.declared.error.Error.TheVariants as tree
use Rattle.tree_core.specs.Tree.{IsOf, IsSound, rests}
use Rattle.tree_core.specs.Applied.{IsLonger}
use Rattle.merkle_full.specs.Full.{Full, IsKept, IsBeside}
use Rattle.merkle_full.specs.Lists.{AreDigests, IsFullOf}

-- the error behind a `?` that leaves it as it is
pub err_same : {T E : Type 0} (r : Result T E) (e : E) (P : E → Type 0) → IsErrAnd r (λ d. d ≡ e) → P e → IfErr r P
err_same (Ok x) e P is p = tt
err_same (Err d) e P is p = subst P (sym is) p

-- want of memory is no failure of the volume
pub memory_alone : {F T : Type 0} (r : Result T (Error F)) (e : Error F) → IsErrAnd r (λ d. d ≡ e) → e ≡ tree.Memory → IsErrOf r tree.Volume → ⊥
memory_alone (Ok x) e is memory fault = is
memory_alone (Err d) e is memory fault = absurd cc

-- what has only read and answers Ok
pub reads_ok : {T E : Type 0} (tells : Type 0) (fault : E) (a b : State) (x : T) → OnlyRead tells a b → Reads tells fault a b (Ok x)
reads_ok tells fault a b x only = reads_of tells fault a b (Ok x) only (λ is. absurd cc)

pub grown_kept : {D : Type 0} (s : Shape) (n : ℕ) (t u : Full D) → IsKept s t → IsLonger s n t.tree u.tree → IsSound s u.tree → u.boundary ≡ t.boundary → IsKept s u
grown_kept s n t u kept longer sound same = record {
  sound = sound;
  low = omega (arith, same, kept.low, longer.boundary);
  exact = λ p lt.
      let below : p < length (made s t.tree.boundary) = omega (arith, lt, ap (λ b. length (made s b)) longer.boundary) in
      let past : p < length (made s t.tree.leaves) = omega (arith, below, made_le s t.tree.boundary t.tree.leaves kept.sound.within) in
      ap is_some (longer.nodes p past) ∙ kept.exact p below ∙ ap (λ b. rests s b t.boundary p) (sym longer.boundary) ∙ ap (λ b. rests s u.tree.boundary b p) (sym same);
}

pub grown_full : {D : Type 0} (s : Shape) (h : Hashing D) (spelling : D → List ℕ) (admits : D → Type 0) (all more : List D) (n : ℕ) (t u : Full D) (image : Image)
    → IsLawful s → IsKept s t → IsLonger s n t.tree u.tree → IsBeside t u → AreDigests s h admits (all ++ more) → IsOf s h (all ++ more) u.tree
    → IsFullOf s h spelling admits all t image → IsFullOf s h spelling admits (all ++ more) u image
grown_full {D = D} s h spelling admits all more n t u image w kept longer beside digests of full =
    let name = ap (λ v. v.name) beside.log in
    let count : t.tree.leaves ≡ length all = full.tree.count in
    let front : take (length (made s t.tree.boundary)) (nodes s h (all ++ more)) ≡ take (length (made s t.tree.boundary)) (nodes s h all) = front_nodes s h all more t.tree.boundary w (omega (arith, count, kept.sound.within)) in
    let run : Spells spelling (take (length (made s t.tree.boundary)) (nodes s h (all ++ more))) (image.log t.log.name) = subst (λ (l : List D). Spells spelling l (image.log t.log.name)) (sym front) full.nodes in
    record {
      digests = digests;
      tree = of;
      start_is = ap (λ v. v.start) beside.log ∙ full.start_is ∙ ap (λ (k : List ℕ). (image.log k).start) (sym name);
      end_is = ap (λ v. v.end) beside.log ∙ full.end_is ∙ ap (λ (k : List ℕ). (image.log k).start + length (image.log k).items) (sym name);
      nodes = subst (λ (b : ℕ). Spells spelling (take (length (made s b)) (nodes s h (all ++ more))) (image.log u.log.name)) (sym longer.boundary)
          (subst (λ (k : List ℕ). Spells spelling (take (length (made s t.tree.boundary)) (nodes s h (all ++ more))) (image.log k)) (sym name) run);
      low = omega (arith, full.low, ap (λ v. v.start) beside.log, ap (λ b. length (made s b)) beside.boundary);
      pins = subst (λ (b : ℕ). IsMapOf s h spelling (all ++ more) b (image.map u.metadata)) (sym beside.boundary)
          (subst (λ (k : List ℕ). IsMapOf s h spelling (all ++ more) t.boundary (image.map k)) (sym beside.metadata) (map_of_longer s h spelling all more t.boundary (image.map t.metadata) w full.pins));
    }

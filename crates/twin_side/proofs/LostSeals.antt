-- Seals that lose their batch.
use Rattle.std.proofs.Common.{◌≡◌, true, Some, refl, subst}
use Rattle.chain_core.specs.Sealing.{refusal_of}
use Rattle.chain_core.specs.declared.error.Error.{Error}
use Rattle.chain_core.specs.declared.error.Error.TheVariants as error
use Rattle.log_model.specs.declared.refusal.Refusal.{Refusal}
use Rattle.log_model.specs.declared.refusal.Refusal.TheVariants as refusal
use Rattle.tree_store.specs.declared.error.Error.TheVariants as tree_error
use Rattle.list_machine.specs.Laws.{loses_batch}

-- a seal that its place refuses loses its batch
pub refusal_loses : {F : Type 0} (e : Error F) (r : Refusal) → refusal_of e ≡ Some r → loses_batch r ≡ true
refusal_loses error.StaleBatch r is =
    let same : refusal.StaleBatch ≡ r = cc in subst (λ (x : Refusal). loses_batch x ≡ true) same refl
refusal_loses (error.Merkle (tree_error.LocationOverflow size)) r is =
    let same : refusal.LocationOverflow size ≡ r = cc in subst (λ (x : Refusal). loses_batch x ≡ true) same refl
refusal_loses (error.FloorRegressed floor below) r is =
    let same : refusal.FloorRegressed floor below ≡ r = cc in subst (λ (x : Refusal). loses_batch x ≡ true) same refl
refusal_loses (error.FloorBeyondSize floor location) r is =
    let same : refusal.FloorBeyondSize floor location ≡ r = cc in subst (λ (x : Refusal). loses_batch x ≡ true) same refl
refusal_loses _ r is = absurd (cc)

use Rattle.std.proofs.Common.{◌≡◌, ◌<◌, ℕ, Some}
use Rattle.std.specs.Prelude.{slice_get, IsSome}
use Rattle.std.specs.BTreeMap.{get}
use Rattle.std.specs.Ordering.{nat_cmp}
use Rattle.merkle_full.specs.Pinning.{IsPinAt}
use Rattle.merkle_full.proofs.repin.pin_map.Given as goal

abbrev pub invariant-loop-i : goal.invariant-loop-i
invariant-loop-i g l = record {
  among : (p : ℕ) (d : _) → get nat_cmp l.pinned p ≡ Some d → IsPinAt l.positions l.digests p d;
  all : (i p : ℕ) → i < l.i → slice_get l.positions i ≡ Some p → IsSome (get nat_cmp l.pinned p);
}

-- Tests of equality that decide it.
use Rattle.std.proofs.Common.{◌≡◌, ℕ, List, refl}
use Rattle.std.specs.Prelude.{nat_eq}
use Rattle.std.specs.Bool.{Decides}
use Rattle.std.specs.Cmp.Lexicographic.{pointwise}
use Rattle.std.proofs.lemmas.Bool.Decides.{Decides-eqb}
use Rattle.std.proofs.lemmas.Slice.Eq.{slice_eq-Decides}

pub bytes_decide : (v w : List ℕ) → Decides (pointwise nat_eq v w) (v ≡ w)
bytes_decide v w = slice_eq-Decides Decides-eqb v w _ refl

pub number_decide : (m n : ℕ) → Decides (nat_eq m n) (m ≡ n)
number_decide = Decides-eqb

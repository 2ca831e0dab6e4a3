-- Names that are told apart differ.
use Rattle.std.proofs.Common.{◌≡◌, ◌≢◌, ℕ, Bool, true, false, ◌||◌, List, refl, sym, ◌∙◌}
use Rattle.std.specs.Cmp.Lexicographic.{bytes_decides}
use Rattle.list_machine.specs.ConfigNames.{same_name, are_names_same}

pub told_apart : (a b : List ℕ) → same_name a b ≡ false → (a ≡ b → ⊥)
told_apart a b e is = absurd (let never : false ≡ true = sym e ∙ (bytes_decides a b).1 is in cc)

none : (a b c d e f : Bool) → (a || b || c || d || e || f) ≡ false → (a ≡ false) × (b ≡ false) × (c ≡ false) × (d ≡ false) × (e ≡ false) × (f ≡ false)
none true b c d e f h = absurd (let never : true ≡ false = h in cc)
none false true c d e f h = absurd (let never : true ≡ false = h in cc)
none false false true d e f h = absurd (let never : true ≡ false = h in cc)
none false false false true e f h = absurd (let never : true ≡ false = h in cc)
none false false false false true f h = absurd (let never : true ≡ false = h in cc)
none false false false false false true h = absurd (let never : true ≡ false = h in cc)
none false false false false false false h = (refl, refl, refl, refl, refl, refl)

pub apart : (log nodes metadata witness : List ℕ) → are_names_same log nodes metadata witness ≡ false → (log ≢ nodes) × (log ≢ metadata) × (log ≢ witness) × (nodes ≢ metadata) × (nodes ≢ witness) × (metadata ≢ witness)
apart log nodes metadata witness e =
    let t = none (same_name log nodes) (same_name log metadata) (same_name log witness) (same_name nodes metadata) (same_name nodes witness) (same_name metadata witness) e in (
      told_apart log nodes t.0,
      told_apart log metadata t.1,
      told_apart log witness t.2,
      told_apart nodes metadata t.3,
      told_apart nodes witness t.4,
      told_apart metadata witness t.5,
    )

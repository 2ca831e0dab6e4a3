-- Inputs of two trees that clash.
use Rattle.std.proofs.Common.{ℕ, List, ◌++◌}
use Rattle.std.specs.List.{Contains}
use Rattle.std.proofs.lemmas.List.Elements.{Contains-append_left, Contains-append_right}
use Rattle.tree_shape.specs.Hashing.{Hashing}
use Rattle.tree_proof.specs.Inputs.{Clash}
use Rattle.tree_evidence.specs.Evidence.{IsClash}

module _ {D : Type 0} (h : Hashing D) where
  -- they are two members of all inputs
  pub to_clash : (ones others : List (List ℕ)) (x y : List ℕ) → IsClash h ones others x y → Clash h (ones ++ others)
  to_clash ones others x y c = record {
    first = x;
    second = y;
    has_first = Contains-append_left ones others x c.has_first;
    has_second = Contains-append_right ones others y c.has_second;
    differ = c.differ;
    same_digest = c.same_digest;
  }

  -- each of these is one of those
  abbrev pub Within : List (List ℕ) → List (List ℕ) → Type 0
  Within ms ns = (m : List ℕ) → Contains ms m → Contains ns m

  -- so they clash among more inputs
  pub among_more : (ones others more_ones more_others : List (List ℕ)) (x y : List ℕ) → Within ones more_ones → Within others more_others → IsClash h ones others x y → IsClash h more_ones more_others x y
  among_more ones others more_ones more_others x y i j c =
      record { has_first = i x c.has_first; has_second = j y c.has_second; differ = c.differ; same_digest = c.same_digest }

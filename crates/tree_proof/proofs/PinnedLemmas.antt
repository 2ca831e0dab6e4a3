-- Pins against the nodes of a cover.
use Rattle.std.proofs.Common.{◌≡◌, ℕ, List, [], length, take, Some, None, Option, sym, ◌∙◌, ap}
use Rattle.std.proofs.lemmas.Option.{same_Some}
use Rattle.tree_shape.specs.Hashing.{Hashing}
use Rattle.tree_shape.specs.Shape.{Shape}
use Rattle.tree_shape.specs.Slow.{leaf}
use Rattle.tree_proof.specs.declared.proof.Proof.{Proof}
use Rattle.tree_proof.specs.Check.{wholly_rebuilt}
use Rattle.tree_proof.specs.Pinned.{above_pins, left_cover, HasPins}
use Rattle.tree_proof.proofs.RebuildLemmas.{length-wholly_rebuilt}

module _ {F D : Type 0} (s : Shape) (h : Hashing D) (proof : Proof F D) (a count : ℕ) (pins : List D) (nodes : List (ℕ × ℕ)) where
  abbrev pub hashed_to : Option (List D)
  hashed_to = wholly_rebuilt s h (above_pins s a) (λ x. leaf s h x []) nodes pins

  same_hash : nodes ≡ left_cover s proof a count → hashed_to ≡ wholly_rebuilt s h (above_pins s a) (λ x. leaf s h x []) (left_cover s proof a count) pins
  same_hash e = ap (λ ps. wholly_rebuilt s h (above_pins s a) (λ x. leaf s h x []) ps pins) e

  no_some : (o : Option (List D)) (ds : List D) → None ≡ o → o ≡ Some ds → ⊥
  no_some o ds n e = absurd (cc)

  pub no_pins : nodes ≡ left_cover s proof a count → None ≡ hashed_to → HasPins s h proof a count pins → ⊥
  no_pins e none p = no_some hashed_to (take (length (left_cover s proof a count)) proof.digests) none (same_hash e ∙ p.hashed)

  module _ (ds : List D) (e : nodes ≡ left_cover s proof a count) (some : Some ds ≡ hashed_to) where
    counts : length ds ≡ length (left_cover s proof a count)
    counts = length-wholly_rebuilt s h (above_pins s a) (λ x. leaf s h x []) nodes pins ds (sym some) ∙ ap length e

    pub has_pins : length pins ≡ length (s.heights a) → ds ≡ take (length ds) proof.digests → HasPins s h proof a count pins
    has_pins l front = record {
      counted = l;
      hashed = sym (same_hash e) ∙ sym some ∙ ap Some (front ∙ ap (λ n. take n proof.digests) counts);
    }

    pub are_front : HasPins s h proof a count pins → ds ≡ take (length ds) proof.digests
    are_front p = same_Some ds (take (length (left_cover s proof a count)) proof.digests) (some ∙ same_hash e ∙ p.hashed) ∙ sym (ap (λ n. take n proof.digests) counts)

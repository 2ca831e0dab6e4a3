-- Items that are read one after another.
use Rattle.std.proofs.Common.{◌≡◌, ℕ, ◌+◌, ◌<◌, List, [], ◌∷◌, ◌++◌, length, take, drop, get_or, sym, ◌∙◌, ap, add-one, drop-cons}
use Rattle.std.proofs.Math.Seq.{take-suc}
use Rattle.std.proofs.lemmas.List.{take-append-drop}
use Rattle.journal_base.specs.Items.{Items, Holds}
use Rattle.journal_base.specs.Reads.{AreItemsAt, IsFirstFailing}

-- one more behind them
pub items_more : {A : Type 0} (items : Items A) (positions : List ℕ) (xs : List A) (position : ℕ) (x : A) → AreItemsAt items positions xs → Holds items position x → items.admits x → AreItemsAt items (positions ++ position ∷ []) (xs ++ x ∷ [])
items_more items [] [] position x there here allowed = (here, allowed, tt)
items_more items (p ∷ positions) (y ∷ xs) position x there here allowed = (there.0, there.1, items_more items positions xs position x there.2 here allowed)
items_more items [] (y ∷ xs) position x there here allowed = absurd there
items_more items (p ∷ positions) [] position x there here allowed = absurd there

pub take_more : (positions : List ℕ) (i : ℕ) → i < length positions → take (i + 1) positions ≡ take i positions ++ get_or positions i 0 ∷ []
take_more positions i lt = rw add-one (take-suc positions i 0 lt)

split_at : (positions : List ℕ) (i : ℕ) → i < length positions → positions ≡ take i positions ++ get_or positions i 0 ∷ drop (i + 1) positions
split_at positions i lt =
    let rest : drop i positions ≡ get_or positions i 0 ∷ drop (i + 1) positions = rw (add-one, drop-cons positions i 0) in
    sym (take-append-drop i positions) ∙ ap (λ (r : List ℕ). take i positions ++ r) rest

-- those before this one were read
pub first_failing : {A : Type 0} (items : Items A) (positions : List ℕ) (i : ℕ) (xs : List A) (p : ℕ) → i < length positions → p ≡ get_or positions i 0 → AreItemsAt items (take i positions) xs → IsFirstFailing items positions p
first_failing items positions i xs p lt is there = record {
  before = take i positions;
  behind = drop (i + 1) positions;
  read = xs;
  split = split_at positions i lt ∙ ap (λ q. take i positions ++ q ∷ drop (i + 1) positions) (sym is);
  readable = there;
}

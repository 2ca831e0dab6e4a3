-- What reads of several items come to.
use Rattle.std.specs.Prelude.{◌≡◌, ℕ, List, [], ◌∷◌, ◌++◌}
use Rattle.journal_base.specs.Items.{Items, Holds}

-- At these positions stand these items, each of them allowed.
abbrev pub AreItemsAt : {A : Type 0} → Items A → List ℕ → List A → Type 0
AreItemsAt items [] [] = Unit {0}
AreItemsAt items (position ∷ positions) (x ∷ xs) =
    Holds items position x × items.admits x × AreItemsAt items positions xs
AreItemsAt items [] (x ∷ xs) = ⊥
AreItemsAt items (position ∷ positions) [] = ⊥

-- It is one of the positions, and before it stand items that are allowed.
pub record IsFirstFailing {A : Type 0} (items : Items A) (positions : List ℕ) (position : ℕ) : Type 0 where
  pub before : List ℕ
  pub behind : List ℕ
  pub read : List A
  pub split : positions ≡ before ++ position ∷ behind
  pub readable : AreItemsAt items before read

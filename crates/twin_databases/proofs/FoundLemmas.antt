-- The end at which a log of a list is opened is that of the list's last commit within the cap.
use Rattle.std.proofs.Common.{◌≡◌, ◌⊎◌, inl, inr, true, false, Bool, ℕ, zero, suc, ◌+◌, ◌-◌, ◌<◌, ◌≤◌, List, [], ◌∷◌, length, map, Option, Some, None, refl, sym, ◌∙◌, ap, subst, arith}
use Rattle.std.specs.Prelude.{slice_get, nat_lt, is_some, ◌&&◌, cond}
use Rattle.std.specs.Option.{option_map}
use Rattle.std.proofs.lemmas.Bool.{cases_lt}
use Rattle.std.proofs.lemmas.Option.{slice_get-map}
use Rattle.volume_base.specs.Log.{end_of}
use Rattle.journal_base.specs.Items.{Items, Holds, Spells}
use Rattle.journal_base.specs.Matches.{IsAnswered}
use Rattle.journal_base.specs.View.{capped}
use Rattle.merkle_full.proofs.ListLemmas.{logged_entry, there_is}
use Rattle.auth_journal.specs.Searching.{EndsAt}
use Rattle.auth_journal.proofs.ReadingLemmas.{run_end}
use Rattle.log_model.specs.Meaning.{Meaning}
use Rattle.log_model.specs.Opening.{commit_from, last_commit}
use Rattle.log_model.proofs.SizeLemmas.{lt_is, not_lt}

module _ {Op V : Type 0} (m : Meaning Op V) where
  -- whether an operation is said to be a commit, as it is
  abbrev pub IsSaid : Op → Bool → Type 0
  IsSaid op is = is ≡ is_some (m.floor op)

  -- of these operations none below the bound is a commit
  abbrev NoCommit : ℕ → ℕ → List Op → Type 0
  NoCommit most i ops = (k : ℕ) (op : Op) → slice_get ops k ≡ Some op → i + k < most → is_some (m.floor op) ≡ false

  unpicked : (most i found : ℕ) (op : Op) → (i < most → is_some (m.floor op) ≡ false)
      → cond (nat_lt i most && is_some (m.floor op)) (i + 1) found ≡ found
  unpicked most i found op none = by (nat_lt i most) refl
    where
      off : (y : Bool) → y ≡ false → cond (true && y) (i + 1) found ≡ found
      off false e = refl
      off true e = absurd cc

      by : (x : Bool) → nat_lt i most ≡ x → cond (x && is_some (m.floor op)) (i + 1) found ≡ found
      by false e = refl
      by true e = off (is_some (m.floor op)) (none (lt_is i most e))

  picked : (most i found : ℕ) (op : Op) → i < most → is_some (m.floor op) ≡ true
      → cond (nat_lt i most && is_some (m.floor op)) (i + 1) found ≡ i + 1
  picked most i found op lt is = by (nat_lt i most) refl
    where
      on : (y : Bool) → y ≡ true → cond (true && y) (i + 1) found ≡ i + 1
      on true e = refl
      on false e = absurd cc

      by : (x : Bool) → nat_lt i most ≡ x → cond (x && is_some (m.floor op)) (i + 1) found ≡ i + 1
      by true e = on (is_some (m.floor op)) is
      by false e = absurd (let le = not_lt i most e in omega (arith, le, lt))

  -- what was found stays, where no commit follows
  found_stays : (most i found : ℕ) (ops : List Op) → NoCommit most i ops → commit_from m most i found ops ≡ found
  found_stays most i found [] none = refl
  found_stays most i found (op ∷ ops) none =
      found_stays most (i + 1) (cond (nat_lt i most && is_some (m.floor op)) (i + 1) found) ops
      (λ k other at lt. none (suc k) other at (omega (arith, lt)))
      ∙ unpicked most i found op (λ lt. none 0 op refl (omega (arith, lt)))

  -- the last commit is found
  found_last : (most i found n : ℕ) (ops : List Op) (op : Op) → slice_get ops n ≡ Some op
      → is_some (m.floor op) ≡ true → i + n < most
      → ((k : ℕ) (other : Op) → slice_get ops k ≡ Some other → n < k → i + k < most → is_some (m.floor other) ≡ false)
      → commit_from m most i found ops ≡ i + n + 1
  found_last most i found n [] op at is lt none = absurd cc
  found_last most i found zero (first ∷ ops) op at is lt none =
      let same : first ≡ op = cc in
      let here : i < most = omega (arith, lt) in
      let now : cond (nat_lt i most && is_some (m.floor first)) (i + 1) found ≡ i + 1 =
      picked most i found first here (subst (λ (o : Op). is_some (m.floor o) ≡ true) (sym same) is) in
      let sum : i + 1 ≡ i + zero + 1 = omega arith in
      found_stays most (i + 1) (cond (nat_lt i most && is_some (m.floor first)) (i + 1) found) ops
      (λ k other there below. none (suc k) other there (omega arith) (omega (arith, below))) ∙ now ∙ sum
  found_last most i found (suc n) (first ∷ ops) op at is lt none =
      let sum : i + 1 + n + 1 ≡ i + suc n + 1 = omega arith in
      found_last most (i + 1) (cond (nat_lt i most && is_some (m.floor first)) (i + 1) found) n ops op at is
      (omega (arith, lt))
      (λ k other there past below. none (suc k) other there (omega (arith, past)) (omega (arith, below))) ∙ sum

  -- what is found is before a place from which on no commit follows
  pub found_before : (most i found start : ℕ) (ops : List Op) → found ≤ start
      → ((k : ℕ) (op : Op) → slice_get ops k ≡ Some op → start ≤ i + k → i + k < most → is_some (m.floor op) ≡ false)
      → commit_from m most i found ops ≤ start
  found_before most i found start [] le none = le
  found_before most i found start (op ∷ ops) le none =
      found_before most (i + 1) (cond (nat_lt i most && is_some (m.floor op)) (i + 1) found) start ops
      (next (cases_lt i start))
      (λ k other at low lt. none (suc k) other at (omega (arith, low)) (omega (arith, lt)))
    where
      either : (b : Bool) → i < start → cond b (i + 1) found ≤ start
      either true lt = omega (arith, lt)
      either false lt = le

      next : (i < start) ⊎ (start ≤ i) → cond (nat_lt i most && is_some (m.floor op)) (i + 1) found ≤ start
      next (inl lt) = either (nat_lt i most && is_some (m.floor op)) lt
      next (inr past) =
          let same = unpicked most i found op (λ lt. none 0 op refl (omega (arith, past)) (omega (arith, lt))) in
          omega (arith, same, le)

  -- an end under a cap is no further than without
  pub capped_le : (cap : Option ℕ) (end : ℕ) → capped cap end ≤ end
  capped_le None end = omega arith
  capped_le (Some most) end = grind arith

  -- The log has the list from its start on, and spellings tell the operations that are allowed.
  module _ (items : Items Op) (ops : List Op) (spelled : Spells items.spelling ops items.log)
      (once : (x y : Op) → items.admits x → items.admits y → items.spelling x ≡ items.spelling y → x ≡ y)
      (allowed : (i : ℕ) (op : Op) → slice_get ops i ≡ Some op → items.admits op) where
    item_is : (p : ℕ) (x op : Op) → Holds items p x → items.admits x → slice_get ops p ≡ Some op → x ≡ op
    item_is p x op here admits at =
        let bytes : Some (items.spelling x) ≡ Some (items.spelling op) =
        sym here.here ∙ logged_entry (map items.spelling ops) items.log p spelled.items here.low
        ∙ slice_get-map items.spelling ops p
        ∙ ap (option_map items.spelling) at in
        let same : items.spelling x ≡ items.spelling op = cc in
        once x op admits (allowed p op at) same

    pub said : (p : ℕ) (is : Bool) (op : Op) → IsAnswered items IsSaid p is → slice_get ops p ≡ Some op
        → is_some (m.floor op) ≡ is
    said p is op answer at =
        sym (answer.answered ∙ ap (λ (o : Op). is_some (m.floor o))
        (item_is p answer.item op answer.here answer.allowed at))

    pub ends_last_commit : (cap : Option ℕ) (end : ℕ) → (items.log.start < length ops) ⊎ (length ops ≡ 0)
        → EndsAt items IsSaid cap end
        → last_commit m (capped cap (length ops)) ops ≡ end
    ends_last_commit cap end some ends = subst (λ (n : ℕ). last_commit m (capped cap n) ops ≡ end)
        (run_end items.spelling ops items.log spelled) (by ends)
      where
        whole : end_of items.log ≡ length ops
        whole = run_end items.spelling ops items.log spelled

        empty : (list : List Op) → length list ≡ 0 → last_commit m (capped cap (end_of items.log)) list ≡ 0
        empty [] none = refl
        empty (op ∷ list) none = absurd (omega (arith, none))

        by : EndsAt items IsSaid cap end → last_commit m (capped cap (end_of items.log)) ops ≡ end
        by (inl (low, high, answer, none)) =
            let least = capped_le cap (end_of items.log) in
            let at = there_is ops (end - 1) (omega (arith, low, high, least, whole)) in
            let sum : 0 + (end - 1) + 1 ≡ end = omega (arith, low) in
            found_last (capped cap (end_of items.log)) 0 0 (end - 1) ops at.0 at.1
            (said (end - 1) true at.0 answer at.1) (omega (arith, low, high))
            (λ k op there past below. said k false op (none k (omega (arith, past, low)) (omega (arith, below)))
            there) ∙ sum
        by (inr (inl (zero_end, start, none))) =
            found_stays (capped cap (end_of items.log)) 0 0 ops
            (λ k op there below. said k false op (none k (omega arith) (omega (arith, below))) there) ∙ sym zero_end
        by (inr (inr (uncapped, start, is))) = nothing some
          where
            nothing : (items.log.start < length ops) ⊎ (length ops ≡ 0)
                → last_commit m (capped cap (end_of items.log)) ops ≡ end
            nothing (inl lt) = absurd (omega (arith, lt, start, whole))
            nothing (inr none) = empty ops none ∙ omega (arith, is, whole, none)

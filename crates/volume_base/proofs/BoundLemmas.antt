-- How bounds on the images of a log go on from call to call.
use Rattle.std.proofs.Common.{◌≡◌, ◌⊎◌, inl, inr, ℕ, ◌+◌, ◌-◌, ◌≤◌, min, max, List, ◌++◌, length, take, drop, sym, ◌∙◌, ap, subst, arith, length-append}
use Rattle.std.proofs.lemmas.List.{take_all, take-take, take-append-le, length-take, length-drop, drop-take, drop-drop, drop-append-le}
use Rattle.std.proofs.lemmas.Bool.{cases_lt}
use Rattle.std.proofs.Math.Seq.{take-append-add}
use Rattle.volume_base.specs.Log.{Log, end_of, no_log, appended, cut_to, pruned_to, Grows, Shrinks, Advances, Vanishes, BecomesOneOf}
use Rattle.volume_base.specs.Bounds.{IsRunOf, IsPartOf}
use Rattle.volume_base.specs.Moments.{LogHas}
use Rattle.volume_base.specs.Volume.{State, OnlyLeft}

length-run : (list : List (List ℕ)) (log : Log) → IsRunOf list log → end_of log ≡ length list
length-run list log run = omega (arith, ap length run.items, length-drop log.start list, run.within)

-- what a log holds has the closest bounds
pub part_of_run : (list : List (List ℕ)) (log : Log) → IsRunOf list log → IsPartOf list log.start (length list) log
part_of_run list log run = record {
  items = run.items ∙ sym (take_all (length log.items) (drop log.start list) (omega (arith, ap length run.items)));
  within = omega (arith, length-run list log run);
  start_high = omega arith;
  end_low = omega (arith, length-run list log run);
}

pub part_wider : (list : List (List ℕ)) (start start' end end' : ℕ) (log : Log) → start ≤ start' → end' ≤ end → IsPartOf list start end log → IsPartOf list start' end' log
part_wider list start start' end end' log le_start le_end part = record { items = part.items; within = part.within; start_high = omega (arith, part.start_high); end_low = omega (arith, part.end_low) }

-- the list grows behind it
pub part_of_longer : (list items : List (List ℕ)) (start end : ℕ) (log : Log) → IsPartOf list start end log → IsPartOf (list ++ items) start end log
part_of_longer list items start end log part =
    let low : log.start ≤ length list = omega (arith, part.within) in
    let fits : length log.items ≤ length (drop log.start list) = omega (arith, part.within, length-drop log.start list) in
    record {
      items = part.items ∙ sym (ap (take (length log.items)) (drop-append-le log.start list items low) ∙ take-append-le (length log.items) (drop log.start list) items fits);
      within = omega (arith, part.within, length-append list items);
      start_high = part.start_high;
      end_low = part.end_low;
    }

pub run_appended : (list items : List (List ℕ)) (log : Log) → IsRunOf list log → IsRunOf (list ++ items) (appended log items)
run_appended list items log run = record {
  items = ap (λ (l : List (List ℕ)). l ++ items) run.items ∙ sym (drop-append-le log.start list items run.within);
  within = omega (arith, run.within, length-append list items);
}

pub run_pruned : (list : List (List ℕ)) (log : Log) (to : ℕ) → to ≤ length list → IsRunOf list log → IsRunOf list (pruned_to log to)
run_pruned list log to le run = record {
  items = ap (drop (to - log.start)) run.items ∙ drop-drop (to - log.start) log.start list ∙ ap (λ (n : ℕ). drop n list) (omega arith);
  within = omega (arith, run.within);
}

pub run_cut : (list : List (List ℕ)) (log : Log) (end : ℕ) → log.start ≤ end → IsRunOf list log → IsRunOf (take end list) (cut_to log end)
run_cut list log end low run =
    let split : end ≡ log.start + (end - log.start) = omega (arith, low) in
    record {
      items = ap (take (end - log.start)) run.items ∙ sym (ap (λ (n : ℕ). drop log.start (take n list)) split ∙ drop-take log.start (end - log.start) list);
      within = omega (arith, low, run.within, length-take end list);
    }

take_min : (n : ℕ) (xs : List (List ℕ)) → take (min n (length xs)) xs ≡ take n xs
take_min n xs = elim (cases_lt n (length xs)) [
  | inl lt ↦ ap (λ (k : ℕ). take k xs) (let e : min n (length xs) ≡ n = omega arith in e)
  | inr ge ↦ ap (λ (k : ℕ). take k xs) (let e : min n (length xs) ≡ length xs = omega arith in e) ∙ take_all (length xs) xs (omega arith) ∙ sym (take_all n xs ge)
]

-- An append. Bounds stay, and the list has the items behind it.
pub part_grows : (list items : List (List ℕ)) (contents old new : Log) (start end : ℕ) → IsRunOf list contents → Grows contents items old new → IsPartOf list start end old → IsPartOf (list ++ items) start end new
part_grows list items contents old new start end run (inl same) part = subst (IsPartOf (list ++ items) start end) (sym same) (part_of_longer list items start end old part)
part_grows list items contents old new start end run (inr (from, count, le, is_back, is)) part =
    let old_end : end_of old ≡ length list = omega (arith, ap end_of is_back, length-run list contents run, length-drop (from - contents.start) contents.items) in
    let low : old.start ≤ length list = omega (arith, part.within) in
    let whole : old.items ≡ drop old.start list = part.items ∙ take_all (length old.items) (drop old.start list) (omega (arith, old_end, length-drop old.start list)) in
    let some : new.items ≡ old.items ++ take count items = ap (λ (l : Log). l.items) is in
    let few = length (take count items) in
    let same_start : new.start ≡ old.start = ap (λ (l : Log). l.start) is in
    let long : length new.items ≡ length old.items + few = ap length some ∙ length-append old.items (take count items) in
    let list_is : drop new.start (list ++ items) ≡ old.items ++ items =
    ap (λ (n : ℕ). drop n (list ++ items)) same_start ∙ drop-append-le old.start list items low ∙ ap (λ (l : List (List ℕ)). l ++ items) (sym whole) in
    let prefix : take few items ≡ take count items =
    ap (λ (n : ℕ). take n items) (length-take count items) ∙ take_min count items in
    record {
      items = some ∙ ap (λ (l : List (List ℕ)). old.items ++ l) (sym prefix) ∙ sym (take-append-add old.items items few) ∙ ap (λ (n : ℕ). take n (old.items ++ items)) (sym long) ∙ ap (take (length new.items)) (sym list_is);
      within = omega (arith, old_end, long, same_start, length-append list items, length-take count items);
      start_high = omega (arith, same_start, part.start_high);
      end_low = omega (arith, same_start, long, part.end_low);
    }

-- The same, where what was left may have been a part of the longer list already.
pub part_grows_whole : (list items : List (List ℕ)) (contents old new : Log) (start end : ℕ) → IsRunOf list contents → Grows contents items old new → IsPartOf (list ++ items) start end old → IsPartOf (list ++ items) start end new
part_grows_whole list items contents old new start end run (inl same) part = subst (IsPartOf (list ++ items) start end) (sym same) part
part_grows_whole list items contents old new start end run (inr (from, count, le, back, is)) part =
    let all : IsPartOf list contents.start (length list) contents = part_of_run list contents run in
    let back_run : IsRunOf list old = subst (IsRunOf list) (sym back) (run_pruned list contents from (omega (arith, le, all.within)) run) in
    let here : IsPartOf list old.start (length list) old = part_of_run list old back_run in
    let wider : IsPartOf list start end old = part_wider list old.start start (length list) end old part.start_high (omega (arith, part.end_low, here.within)) here in
    part_grows list items contents old new start end run (inr (from, count, le, back, is)) wider

-- A cut. The least end is at least the lesser.
pub part_shrinks : (list : List (List ℕ)) (old new : Log) (start end to : ℕ) → Shrinks to old new → IsPartOf list start end old → IsPartOf list start (min end to) new
part_shrinks list old new start end to (at, le, is) part =
    let same_start : new.start ≡ old.start = ap (λ (l : Log). l.start) is in
    let some : new.items ≡ take (at - old.start) old.items = ap (λ (l : Log). l.items) is in
    let long : length new.items ≡ min (at - old.start) (length old.items) = ap length some ∙ length-take (at - old.start) old.items in
    let few : length new.items ≤ length old.items = omega (arith, long) in
    let self : new.items ≡ take (length new.items) old.items = some ∙ sym (ap (λ (n : ℕ). take n old.items) long ∙ take_min (at - old.start) old.items) in
    record {
      items = self ∙ ap (take (length new.items)) part.items ∙ take-take (length new.items) (length old.items) (drop old.start list) few ∙ ap (λ (n : ℕ). take (length new.items) (drop n list)) (sym same_start);
      within = omega (arith, same_start, few, part.within);
      start_high = omega (arith, same_start, part.start_high);
      end_low = omega (arith, same_start, long, part.end_low, le);
    }

-- A prune. The greatest start is at most the greater.
pub part_advances : (list : List (List ℕ)) (old new : Log) (start end to : ℕ) → Advances to old new → IsPartOf list start end old → IsPartOf list (max start to) end new
part_advances list old new start end to (at, le, reach, is) part =
    let its_start : new.start ≡ max old.start at = ap (λ (l : Log). l.start) is in
    let some : new.items ≡ drop (at - old.start) old.items = ap (λ (l : Log). l.items) is in
    let long : length new.items ≡ length old.items - (at - old.start) = ap length some ∙ length-drop (at - old.start) old.items in
    let split : length old.items ≡ (at - old.start) + length new.items = omega (arith, long, reach) in
    let skip : old.start + (at - old.start) ≡ new.start = omega (arith, its_start) in
    record {
      items = some ∙ ap (drop (at - old.start)) (part.items ∙ ap (λ (n : ℕ). take n (drop old.start list)) split) ∙ drop-take (at - old.start) (length new.items) (drop old.start list) ∙ ap (take (length new.items)) (drop-drop (at - old.start) old.start list ∙ ap (λ (n : ℕ). drop n list) skip);
      within = omega (arith, its_start, long, reach, part.within);
      start_high = omega (arith, its_start, le, part.start_high);
      end_low = omega (arith, its_start, long, reach, part.end_low);
    }

-- A removal. Some items at the front are gone, or all is.
pub part_vanishes : (list : List (List ℕ)) (old new : Log) (start end : ℕ) → Vanishes old new → IsPartOf list start end old → IsPartOf list (length list) end new ⊎ (new ≡ no_log)
part_vanishes list old new start end (inl (to, reach, is)) part =
    let moved : IsPartOf list (max start to) end new = part_advances list old new start end to (to, omega arith, reach, is) part in
    inl (record { items = moved.items; within = moved.within; start_high = omega (arith, moved.within); end_low = moved.end_low })
part_vanishes list old new start end (inr gone) part = inr gone

-- A replacement: what the old one and the new one have, each one in between has.
pub becomes : {A : Type 0} (P : A → Type 0) (made old new : A) → BecomesOneOf made old new → P old → P made → P new
becomes P made old new (inl same) was is = subst P (sym same) was
becomes P made old new (inr this) was is = subst P (sym this) is

-- what a log holds, where nothing else is left of it
pub part_of_all : (list : List (List ℕ)) (name : List ℕ) (greatest : ℕ) (s : State) → IsRunOf list (s.log name) → (s.log name).start ≤ greatest → OnlyLeft (s.log_left s.clock name) (s.log name) → LogHas s name (IsPartOf list greatest (length list))
part_of_all list name greatest s run low only log left =
    subst (IsPartOf list greatest (length list)) (sym (only log left)) (part_wider list (s.log name).start greatest (length list) (length list) (s.log name) low (omega arith) (part_of_run list (s.log name) run))

-- How a database is opened.
use Rattle.std.proofs.Common.{◌≡◌, ◌⊎◌, inl, inr, ℕ, ◌-◌, ◌≤◌, true, false, List, [], ◌∷◌, length, map, drop, refl, sym, ◌∙◌, ap, subst, arith}
use Rattle.std.specs.Prelude.{slice_get}
use Rattle.std.specs.List.{AllByRecursion}
use Rattle.std.proofs.lemmas.List.{drop-map}
use Rattle.journal_base.specs.Answers.{IsOfRead, IsOfStart, IsOfSize, IsOfVolume}
use Rattle.journal_base.specs.Items.{Items, IsCorrupt}
use Rattle.volume_base.specs.Log.{Log, end_of, no_log}
use Rattle.volume_base.specs.declared.error.JournalError.{JournalError}
use Rattle.volume_base.specs.declared.error.JournalError.TheVariants as journal_error
use Rattle.volume_base.specs.declared.error.JournalError.TheVariants.{ItemPruned, ItemOutOfRange, EmptyAppend, SizeOverflow, Corruption, Tree}
use Rattle.volume_base.proofs.StepLemmas.{log_is}
use Rattle.chain_core.specs.declared.error.Error.TheVariants.{Journal}
use Rattle.chain_core.specs.Answers.{IsOutside}
use Rattle.chain_core.specs.Errors.{from_journal}
use Rattle.witness_store.specs.declared.witness.Witness.{Witness}
use Rattle.witness_store.specs.Witnesses.{Rises, sizes_of, Keeps}
use Rattle.compact_db.proofs.SizeLemmas.{all_at, got_map}

-- ---- logs

empty_of : (xs : List (List ℕ)) → length xs ≡ 0 → xs ≡ []
empty_of [] e = refl
empty_of (x ∷ xs) e = absurd (omega (arith, e))

-- a log without items at 0 is none
pub none_of : (log : Log) → log.start ≡ 0 → end_of log ≡ 0 → log ≡ no_log
none_of log start end = log_is log no_log start (empty_of log.items (omega (arith, end)))

pub empty_log : (log : Log) → end_of log ≤ log.start → log.items ≡ []
empty_log log le = empty_of log.items (omega (arith, le))

-- none is kept of an empty log
pub keeps_none : {F D : Type 0} (items : Items (Witness F D)) → items.log ≡ no_log → Keeps items []
keeps_none {F} {D} items none =
    let start : items.log.start ≡ 0 = ap (λ (l : Log). l.start) none in
    let behind : (X : Type 0) → (let xs : List X = drop items.log.start [] in xs) ≡ [] = λ X. ap (λ k. let xs : List X = drop k [] in xs) start in
    record {
      spelled = record { items = ap (λ (l : Log). l.items) none ∙ sym (behind (List ℕ)); within = omega (arith, start) };
      allowed = subst (λ (l : List (Witness F D)). AllByRecursion items.admits l) (sym (behind (Witness F D))) tt;
      rising = subst (λ (l : List (Witness F D)). Rises (sizes_of l)) (sym (behind (Witness F D))) tt;
    }

-- what is kept of a list is no other bytes
pub not_corrupt : {F D : Type 0} (items : Items (Witness F D)) (ws : List (Witness F D)) (p : ℕ) → Keeps items ws → IsCorrupt items p → ⊥
not_corrupt items ws p keeps bad =
    let k = p - items.log.start in
    let texts : items.log.items ≡ map items.spelling (drop items.log.start ws) = keeps.spelled.items ∙ drop-map items.spelling items.log.start ws in
    let got = got_map items.spelling (drop items.log.start ws) k bad.bytes (sym (ap (λ (l : List (List ℕ)). slice_get l k) texts) ∙ bad.here.here) in
    bad.unspelled got.0 (all_at items.admits (drop items.log.start ws) k got.0 keeps.allowed got.1) got.2

-- ---- errors

-- what a read of the log answers
pub read_why : {F D : Type 0} (items : Items (Witness F D)) (e : JournalError) → IsOfRead e → ((p : ℕ) → e ≡ ItemPruned p → ⊥) → ((p : ℕ) → e ≡ ItemOutOfRange p → ⊥)
    → ((p : ℕ) → e ≡ Corruption p → IsCorrupt items p) → IsOutside (from_journal {F = F} e) ⊎ ((p : ℕ) × IsCorrupt items p × (from_journal {F = F} e ≡ Journal (Corruption p)))
read_why items (ItemPruned p) of low high bad = absurd (low p refl)
read_why items (ItemOutOfRange p) of low high bad = absurd (high p refl)
read_why items EmptyAppend of low high bad = let k : false ≡ true = of in cc
read_why items SizeOverflow of low high bad = let k : false ≡ true = of in cc
read_why items (Corruption p) of low high bad = inr (p, bad p refl, refl)
read_why items (Tree x) of low high bad = let k : false ≡ true = of in cc
read_why items journal_error.Volume of low high bad = inl tt
read_why items journal_error.Memory of low high bad = inl tt

pub start_why : (F : Type 0) (e : JournalError) → IsOfStart e → ((p : ℕ) → e ≡ ItemPruned p → ⊥) → IsOutside (from_journal {F = F} e)
start_why F (ItemPruned p) of low = absurd (low p refl)
start_why F (ItemOutOfRange p) of low = let k : false ≡ true = of in cc
start_why F EmptyAppend of low = let k : false ≡ true = of in cc
start_why F SizeOverflow of low = let k : false ≡ true = of in cc
start_why F (Corruption p) of low = let k : false ≡ true = of in cc
start_why F (Tree x) of low = let k : false ≡ true = of in cc
start_why F journal_error.Volume of low = tt
start_why F journal_error.Memory of low = tt

pub size_why : (F : Type 0) (e : JournalError) → IsOfSize e → (e ≡ SizeOverflow → ⊥) → IsOutside (from_journal {F = F} e)
size_why F (ItemPruned p) of low = let k : false ≡ true = of in cc
size_why F (ItemOutOfRange p) of low = let k : false ≡ true = of in cc
size_why F EmptyAppend of low = let k : false ≡ true = of in cc
size_why F SizeOverflow of low = absurd (low refl)
size_why F (Corruption p) of low = let k : false ≡ true = of in cc
size_why F (Tree x) of low = let k : false ≡ true = of in cc
size_why F journal_error.Volume of low = tt
size_why F journal_error.Memory of low = tt

pub start_read : (e : JournalError) → IsOfStart e → IsOfRead e
start_read (ItemPruned p) of = refl
start_read (ItemOutOfRange p) of = let k : false ≡ true = of in cc
start_read EmptyAppend of = let k : false ≡ true = of in cc
start_read SizeOverflow of = let k : false ≡ true = of in cc
start_read (Corruption p) of = let k : false ≡ true = of in cc
start_read (Tree x) of = let k : false ≡ true = of in cc
start_read journal_error.Volume of = refl
start_read journal_error.Memory of = refl

pub volume_size : (e : JournalError) → IsOfVolume e → IsOfSize e
volume_size (ItemPruned p) of = let k : false ≡ true = of in cc
volume_size (ItemOutOfRange p) of = let k : false ≡ true = of in cc
volume_size EmptyAppend of = let k : false ≡ true = of in cc
volume_size SizeOverflow of = let k : false ≡ true = of in cc
volume_size (Corruption p) of = let k : false ≡ true = of in cc
volume_size (Tree x) of = let k : false ≡ true = of in cc
volume_size journal_error.Volume of = refl
volume_size journal_error.Memory of = refl

pub read_or_size : (e : JournalError) → IsOfStart e ⊎ IsOfSize e → IsOfRead e ⊎ IsOfSize e
read_or_size e (inl of) = inl (start_read e of)
read_or_size e (inr of) = inr of

-- a read of a log that keeps a list fails by the outside alone
pub read_outside : {F D : Type 0} (items : Items (Witness F D)) (ws : List (Witness F D)) → Keeps items ws → (e : JournalError) → IsOfRead e → ((p : ℕ) → e ≡ ItemPruned p → ⊥)
    → ((p : ℕ) → e ≡ ItemOutOfRange p → ⊥) → ((p : ℕ) → e ≡ Corruption p → IsCorrupt items p) → IsOutside (from_journal {F = F} e)
read_outside {F} items ws keeps e of low high bad = elim (read_why items e of low high bad) [
  | inl is ↦ is
  | inr why ↦ absurd (not_corrupt items ws why.0 keeps why.1)
]

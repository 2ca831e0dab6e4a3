-- Both databases of contents that stand for a good state: where the full one is opened first, and where it is opened
-- again.
use Rattle.std.proofs.Common.{◌≡◌, ◌⊎◌, ℕ, zero, suc, ◌<◌, ◌≤◌, min, List, [], ◌∷◌, length, take, drop, inl, inr, None, refl, sym, ◌∙◌, ap, subst, take-take, arith}
use Rattle.std.specs.List.{AllByRecursion}
use Rattle.std.proofs.lemmas.List.{length-take-le, take-append-drop}
use Rattle.volume_base.specs.Log.{Log, end_of}
use Rattle.volume_base.specs.Moments.{Image}
use Rattle.tree_shape.specs.Mmr.{mmr}
use Rattle.tree_shape.specs.Sha256Codec.{bytes_of}
use Rattle.tree_store.specs.Stored.{TreeStands}
use Rattle.auth_journal.specs.Joined.{leaves_of}
use Rattle.log_model.specs.Machine.{State}
use Rattle.log_model.specs.Opening.{last_commit, last_kept, opens_at}
use Rattle.compact_db.proofs.SizeLemmas.{all_at}
use Rattle.list_machine.specs.Config.{Config}
use Rattle.list_machine.specs.Operation.{Operation, meaning, sha}
use Rattle.list_machine.specs.Starts.{IsStart, names_in}
use Rattle.list_machine.specs.Step.{plain_commit}
use Rattle.list_machine.proofs.OpeningParts.{last_taken, part_run}
use Rattle.list_machine.proofs.StartParts as parts
use Rattle.list_machine.proofs.StateLaws.{Admits, admits_one, all_take}
use Rattle.twin_databases.specs.FullKind.{IsFullStart, full_end, opened_list}
use Rattle.twin_databases.specs.Reopening.{OpensAgain}
use Rattle.twin_databases.proofs.CompactSizes.{IsFound, found_last}
use Rattle.twin_databases.proofs.GoodStart.{admitted}

-- what is found is within the cap
found_within : (most : ℕ) (witness : Log) (sizes : List ℕ) → 1 ≤ most → last_kept most witness 1 0 sizes ≤ most
found_within most witness sizes one = by (found_last most witness 1 0 sizes)
  where
    by : IsFound most witness 1 0 sizes (last_kept most witness 1 0 sizes) → last_kept most witness 1 0 sizes ≤ most
    by (inl (j, is)) = is.within
    by (inr (same, none)) = omega (arith, same, one)

pub opened_some : (n : ℕ) (list : List Operation) → 0 < n → opened_list n list ≡ take n list
opened_some zero list some = absurd (omega (arith, some))
opened_some (suc n) list some = refl

opened_none : (n : ℕ) (list : List Operation) → n ≡ 0 → opened_list n list ≡ plain_commit ∷ []
opened_none zero list none = refl
opened_none (suc n) list none = absurd (omega (arith, none))

-- a number is 0 or not
some_or_none : (n : ℕ) (P : Type 0) → (0 < n → P) → (n ≡ 0 → P) → P
some_or_none zero P some none = none refl
some_or_none (suc n) P some none = some (omega arith)

module _ (config : Config) (s : State Operation) (image : Image) (start : IsStart config s image)
    (small : config.value_limit ≤ 16777216) where
  abbrev Limit : ℕ
  Limit = config.value_limit

  abbrev Allowed : List ℕ → Type 0
  Allowed v = length v ≤ Limit

  -- where the operation log begins and ends, which operations it has, and where its last commit ends
  abbrev pub Start : ℕ
  Start = (image.log config.log).start

  abbrev End : ℕ
  End = end_of (image.log config.log)

  abbrev pub Listed : List Operation
  Listed = take End s.ops

  abbrev Last : ℕ
  Last = last_commit meaning End s.ops

  abbrev Witness : Log
  Witness = image.log config.witness

  -- where both are opened
  abbrev pub Size : ℕ
  Size = opens_at (names_in config) s image

  -- the list of which the full database is, when it was opened first
  abbrev pub First : List Operation
  First = opened_list (full_end None Listed) Listed

  last_is : full_end None Listed ≡ Last
  last_is =
      parts.last_listed mmr sha bytes_of meaning Allowed plain_commit (names_in config) s image start.good start.stands

  last_high : Last ≤ End
  last_high =
      parts.last_high mmr sha bytes_of meaning Allowed plain_commit (names_in config) s image start.good start.stands

  reached : s.durable ≤ Last
  reached =
      parts.reached mmr sha bytes_of meaning Allowed plain_commit (names_in config) s image start.good start.stands

  pub size_low : 1 ≤ Size
  size_low =
      parts.size_low mmr sha bytes_of meaning Allowed plain_commit (names_in config) s image start.good start.stands

  pub size_high : Size ≤ length s.ops
  size_high =
      parts.size_high mmr sha bytes_of meaning Allowed plain_commit (names_in config) s image start.good start.stands

  all : AllByRecursion (Admits Limit) s.ops
  all = admitted Limit small s start.good

  pub first_start : IsFullStart config image None Listed
  first_start = record {
    rest = drop End s.ops;
    durable = s.node_durable;
    spelled = part_run meaning.encoding s.ops s.prune s.durable (image.log config.log) start.stands.full.operations;
    few = (let whole = ap length (take-append-drop End s.ops) in
        let few = start.good.ops.few in
        omega (arith, whole, few));
    allowed = λ i op at. all_at (Admits Limit) Listed i op (all_take (Admits Limit) End s.ops all) at;
    tree = subst (λ (ops : List Operation). TreeStands mmr sha bytes_of (leaves_of mmr sha meaning.encoding ops)
        s.node_durable Start (image.log config.nodes) (image.map config.metadata)) (sym (take-append-drop End s.ops))
        start.stands.full.tree;
    low = parts.low mmr sha bytes_of meaning Allowed plain_commit (names_in config) s image start.good start.stands;
    reached = (let nodes = start.good.log.nodes in omega (arith, nodes, reached, last_is));
    some = subst (λ (n : ℕ). (Start < n) ⊎ ((n ≡ 0) × (Start ≡ 0))) (sym last_is)
        (parts.starts_some mmr sha bytes_of meaning Allowed plain_commit (names_in config) s image start.good
        start.stands);
  }

  -- ---- the list that was opened first

  first_some : 0 < Last → First ≡ take Last s.ops
  first_some some =
      opened_some (full_end None Listed) Listed (omega (arith, some, last_is))
      ∙ ap (λ (n : ℕ). take n Listed) last_is ∙ take-take Last End s.ops last_high

  first_none : Last ≡ 0 → First ≡ plain_commit ∷ []
  first_none none = opened_none (full_end None Listed) Listed (last_is ∙ none)

  count_some : 0 < Last → length First ≡ Last
  count_some some =
      ap length (first_some some)
      ∙ length-take-le Last s.ops (parts.last_within mmr sha bytes_of meaning Allowed plain_commit (names_in config) s
      image start.good start.stands)

  count_none : Last ≡ 0 → length First ≡ 1
  count_none none = ap length (first_none none)

  pub first_low : 1 ≤ length First
  first_low =
      some_or_none Last (1 ≤ length First) (λ some. omega (arith, some, count_some some))
      (λ none. omega (arith, count_none none))

  pub first_past : s.durable ≤ length First
  first_past =
      some_or_none Last (s.durable ≤ length First) (λ some. omega (arith, reached, count_some some))
      (λ none. omega (arith, reached, none))

  -- under its size the compact database opens at the size
  pub kept_first : last_kept (length First) Witness 1 0 s.sizes ≡ Size
  kept_first =
      some_or_none Last (last_kept (length First) Witness 1 0 s.sizes ≡ Size)
      (λ some. ap (λ (n : ℕ). last_kept n Witness 1 0 s.sizes) (count_some some)
      ∙ parts.kept_last mmr sha bytes_of meaning Allowed plain_commit (names_in config) s image start.good start.stands)
      (λ none. parts.kept_one mmr sha bytes_of meaning Allowed plain_commit (names_in config) s image start.good
      start.stands none (length First))

  pub size_within : Size ≤ length First
  size_within = (let le = found_within (length First) Witness s.sizes first_low in omega (arith, le, kept_first))

  -- ---- it is opened again

  size_one : Last ≡ 0 → Size ≡ 1
  size_one none = omega (arith, size_low, size_within, count_none none)

  pub first_cut : take Size First ≡ take Size s.ops
  first_cut =
      some_or_none Last (take Size First ≡ take Size s.ops)
      (λ some. ap (take Size) (first_some some)
      ∙ take-take Size Last s.ops (omega (arith, size_within, count_some some)))
      (λ none. ap (take Size) (first_none none) ∙ ap (λ (n : ℕ). take n (plain_commit ∷ [])) (size_one none)
      ∙ sym start.good.ops.begins ∙ ap (λ (n : ℕ). take n s.ops) (sym (size_one none)))

  first_ends : last_commit meaning Size First ≡ Size
  first_ends =
      some_or_none Last (last_commit meaning Size First ≡ Size)
      (λ some. ap (last_commit meaning Size) (first_some some)
      ∙ last_taken meaning Size Last s.ops (omega (arith, size_within, count_some some))
      ∙ parts.size_again mmr sha bytes_of meaning Allowed plain_commit
      (names_in config) s image start.good start.stands)
      (λ none. ap (last_commit meaning Size) (first_none none)
      ∙ ap (λ (n : ℕ). last_commit meaning n (plain_commit ∷ [])) (size_one none) ∙ sym (size_one none))

  first_all : AllByRecursion (Admits Limit) First
  first_all =
      some_or_none Last (AllByRecursion (Admits Limit) First)
      (λ some. subst (AllByRecursion (Admits Limit)) (sym (first_some some)) (all_take (Admits Limit) Last s.ops all))
      (λ none. subst (AllByRecursion (Admits Limit)) (sym (first_none none))
      (admits_one Limit 0 0 plain_commit (omega (arith, small)) (omega arith) tt (omega arith, omega arith), tt))

  pub opens_again : OpensAgain config Start Size First
  opens_again = record {
    later = parts.starts_below mmr sha bytes_of meaning Allowed plain_commit (names_in config) s image start.good
        start.stands;
    ends =
        let same : min Size (length First) ≡ Size = omega (arith, size_within) in
        ap (λ (n : ℕ). last_commit meaning n First) same ∙ first_ends;
    allowed = λ i op at. all_at (Admits Limit) First i op first_all at;
  }

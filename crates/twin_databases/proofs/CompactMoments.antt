-- What a crash leaves of the compact database's log at each moment of a call: of one that makes the witnesses durable, of a prune, and
-- of an apply.
use Rattle.std.proofs.Common.{◌≡◌, ℕ, zero, suc, ◌+◌, ◌-◌, ◌<◌, ◌≤◌, Bool, true, false, List, [], ◌∷◌, ◌++◌, length, map, drop, min, max, refl, sym, ◌∙◌, ap, subst, append-nil, arith}
use Rattle.std.specs.Prelude.{nat_le, nat_lt, Result, Ok, Err, OnOk}
use Rattle.std.proofs.lemmas.List.{length-append, length-map, map-append, drop-map}
use Rattle.volume_base.specs.Bounds.{IsRunOf, IsPartOf}
use Rattle.volume_base.specs.Log.{Log, Stays}
use Rattle.volume_base.specs.Moments.{Image, present, LogLeft, NamesLeft, Now, LogHas, LogKeeps, Keeps, Steps}
use Rattle.volume_base.specs.Names.{log_alone}
use Rattle.volume_base.specs.Volume as volume
use Rattle.volume_base.proofs.BoundLemmas.{part_wider, part_of_all}
use Rattle.volume_base.proofs.JoinLemmas.{on_ok}
use Rattle.volume_base.proofs.MomentLemmas.{log_moves_wider}
use Rattle.volume_base.proofs.SyncLemmas.{log_synced}
use Rattle.volume_base.proofs.TurnLemmas.{keeps_none, keeps_weaker, keeps_of_part, steps_at_end, steps_weaker, steps_of_part}
use Rattle.journal_base.specs.View.{IsDurable}
use Rattle.tree_shape.specs.Mmr.{mmr}
use Rattle.tree_shape.specs.Sha256Codec.{bytes_of}
use Rattle.tree_shape.specs.declared.mmr.Mmr.{Mmr}
use Rattle.tree_shape.specs.declared.sha256.Sha256Digest.{Sha256Digest}
use Rattle.log_model.specs.AppliedSizes.{AreSizes, first_at_least}
use Rattle.log_model.specs.Good.{IsGoodLog}
use Rattle.log_model.specs.Machine.{State, committed, pruned, sizes_with}
use Rattle.log_model.specs.Stored.{CompactStands, durable_witnesses}
use Rattle.log_model.specs.Witness.{witness_text}
use Rattle.log_model.proofs.OpeningLemmas.{rises_from_zero}
use Rattle.log_model.proofs.SizeLemmas.{either, le_is, not_le, lt_is, not_lt, first_longer, first_higher}
use Rattle.log_model.proofs.StoredLemmas.{witnesses_same, witnesses_longer}
use Rattle.chain_core.specs.declared.commitment.Commitment.{Commitment}
use Rattle.chain_core.specs.declared.error.Error.{Error}
use Rattle.witness_store.specs.StoreView.{HasWitnesses}
use Rattle.witness_store.specs.Witness.{text_of}
use Rattle.witness_store.specs.Witnesses.{kept_from, sizes_of}
use Rattle.witness_store.specs.declared.witness.Witness.{Witness}
use Rattle.compact_db.specs.Batches.{IsMerkleizedOf}
use Rattle.compact_db.specs.DbView.{seen_log, waits}
use Rattle.compact_db.specs.WitnessOf.{witness_of}
use Rattle.compact_db.specs.Writing.{IsSettledLog, Settles, SyncsLog}
use Rattle.compact_db.specs.declared.database.WitnessLog.{WitnessLog}
use Rattle.compact_db.specs.declared.database.WitnessLog.TheVariants.{Open, Import}
use Rattle.compact_db.proofs.DbLemmas.{size_of_list}
use Rattle.list_machine.specs.Config.{Config}
use Rattle.list_machine.specs.Operation.{Operation, meaning, sha}
use Rattle.twin_batches.specs.Kind.{kept_of}
use Rattle.twin_batches.specs.Standing.{StepsTo, KeepsTo, with_ops}
use Rattle.twin_databases.specs.CompactKind.{CompactView, SealedView, IsHeldAt, IsCompactOf, at_rest, held_over, compact_kind}
use Rattle.twin_databases.proofs.CompactDurable.{first_behind, first_size, first_gone, sizes_are}
use Rattle.twin_databases.proofs.CompactStanding.{witnesses_at, texts_are}

-- ---- a log is all that its names have

module _ (name : List ℕ) where
  of_names : (s : volume.State) (t : ℕ) (image : Image) → NamesLeft (log_alone name) s t image → LogLeft name s t (image.log name)
  of_names s t image at = at.logs.0

  log_has : (P : Log → Type 0) (s : volume.State) → Now (NamesLeft (log_alone name)) (λ image. P (image.log name)) s → LogHas s name P
  log_has P s has log at = has (record { log = λ other. log; map = s.map }) (record { logs = (at, tt); maps = tt })

  names_step : {T E : Type 0} (P Q : Log → Type 0) (a b : volume.State) (result : Result T E) → Steps (LogLeft name) P Q a b result
      → Steps (NamesLeft (log_alone name)) (λ image. P (image.log name)) (λ image. Q (image.log name)) a b result
  names_step P Q a b result steps = steps_of_part (NamesLeft (log_alone name)) (LogLeft name) (λ image. image.log name) of_names P Q a b result steps

  names_keep : (P : Log → Type 0) (a b : volume.State) → LogKeeps name P a b → Keeps (NamesLeft (log_alone name)) (λ image. P (image.log name)) a b
  names_keep P a b keeps = keeps_of_part (NamesLeft (log_alone name)) (LogLeft name) (λ image. image.log name) of_names P a b keeps

-- where no import waits a sync leaves each log as it is
settled_stays : (log : WitnessLog Mmr Sha256Digest) (w : Witness Mmr Sha256Digest) (state : volume.State) → waits log ≡ false → (was is : Log) → Settles bytes_of log w state was is → Stays was is
settled_stays (Open store) w state here was is step = step
settled_stays (Import cfg) w state here was is step = absurd cc

-- ---- how many witnesses are durable

-- at most all, where the list is
all_durable : (total : ℕ) (sizes : List ℕ) → AreSizes total sizes → durable_witnesses sizes total ≤ length sizes
all_durable zero sizes are = omega arith
all_durable (suc d) sizes are = let lt = first_size (suc d) (suc d) sizes are (omega arith) in omega (arith, lt)

-- ---- where a prune lets witnesses begin

-- no later than at the first that is at least the greatest location
kept_low : (l p w total : ℕ) (sizes : List ℕ) → AreSizes total sizes → w ≤ first_at_least p sizes → w + first_at_least l (drop w sizes) ≤ first_at_least (max p l) sizes
kept_low l p w total sizes are le = by (nat_le w (first_at_least l sizes)) refl
  where
    by : (b : Bool) → nat_le w (first_at_least l sizes) ≡ b → w + first_at_least l (drop w sizes) ≤ first_at_least (max p l) sizes
    by true e =
        let place = first_behind l w sizes (le_is w (first_at_least l sizes) e) in
        let more = first_higher l (max p l) sizes (omega arith) in
        omega (arith, place, more)
    by false e =
        let lt = not_le w (first_at_least l sizes) e in
        let none = first_gone l w total sizes are (omega (arith, lt)) in
        let more = first_higher p (max p l) sizes (omega arith) in
        omega (arith, none, more, le)

-- ---- the sizes of a longer list

no_size : (sizes : List ℕ) (n : ℕ) → sizes_with sizes n n ≡ sizes
no_size sizes n = either (λ (ns : List ℕ). ns ≡ sizes) (nat_lt n n) _ _ (λ e. absurd (let lt = lt_is n n e in omega (arith, lt))) (λ e. refl)

one_size : (sizes : List ℕ) (before now : ℕ) → before < now → sizes_with sizes before now ≡ sizes ++ (now ∷ [])
one_size sizes before now lt =
    either (λ (ns : List ℕ). ns ≡ sizes ++ (now ∷ [])) (nat_lt before now) _ _ (λ e. refl)
    (λ e. absurd (let le = not_lt before now e in omega (arith, lt, le)))

module _ (db : CompactView) (old : volume.State) (s : State Operation) (good : IsGoodLog meaning s) (is : IsCompactOf (kept_of s) (present old) db) where
  abbrev pub Name : List ℕ
  Name = (seen_log db.log).name

  abbrev Held : List (Witness Mmr Sha256Digest)
  Held = witnesses_at s.ops s.sizes

  abbrev Texts : List (List ℕ)
  Texts = map (witness_text mmr sha meaning bytes_of s.ops) s.sizes

  abbrev Greatest : ℕ
  Greatest = first_at_least s.prune s.sizes

  abbrev Least : ℕ
  Least = durable_witnesses s.sizes s.durable

  -- the logs that stand for the state, pruned to a location, where so many operations are durable
  abbrev Stand : (prune durable : ℕ) → Log → Type 0
  Stand prune durable = CompactStands mmr sha bytes_of meaning s.ops s.sizes prune durable

  held_now : IsHeldAt s.ops s.sizes db old
  held_now = held_over s.ops s.sizes db (at_rest (present old)) old refl is.held

  run : IsRunOf Texts (old.log Name)
  run = subst (λ (ts : List (List ℕ)). IsRunOf ts (old.log Name)) (texts_are s.ops s.sizes) is.held.witnesses.spelled

  low : (old.log Name).start ≤ Greatest
  low =
      let begins : (old.log Name).start ≡ s.wstart = is.begins in
      let start = good.wstart in
      omega (arith, begins, start)

  all_texts : durable_witnesses s.sizes (length s.ops) ≤ length Texts
  all_texts =
      let few = all_durable (length s.ops) s.sizes good.sizes in
      let count = length-map s.sizes (witness_text mmr sha meaning bytes_of s.ops) in
      omega (arith, few, count)

  -- ---- made durable

  -- what a crash leaves of a log from which it takes nothing
  durable_now : (now : volume.State) → now.log Name ≡ old.log Name → volume.OnlyLeft (now.log_left now.clock Name) (now.log Name) → LogHas now Name (Stand s.prune (length s.ops))
  durable_now now same only log at =
      let start = ap (λ (l : Log). l.start) same in
      let here = low in
      part_wider Texts Greatest Greatest (length Texts) (durable_witnesses s.sizes (length s.ops)) log (omega arith) all_texts
      (part_of_all Texts Name Greatest now (subst (IsRunOf Texts) (sym same) run) (omega (arith, start, here)) only log at)

  sync_steps : {T E : Type 0} (now : volume.State) (result : Result T E) → volume.LogMoves Name Stays old now → now.log Name ≡ old.log Name
      → OnOk result (volume.OnlyLeft (now.log_left now.clock Name) (now.log Name)) → StepsTo compact_kind s (committed s) db old now result
  sync_steps now result moves same only = λ has.
      names_step Name (Stand s.prune s.durable) (Stand s.prune (length s.ops)) old now result
      (steps_at_end (LogLeft Name) (Stand s.prune s.durable) (Stand s.prune (length s.ops)) old now result
      (log_synced Name (Stand s.prune s.durable) old now moves (log_has Name (Stand s.prune s.durable) old has))
      (on_ok result _ _ (durable_now now same) only))

  -- By a call that makes the witnesses durable a crash leaves what it left, and after it what stands for the state with all durable.
  pub synced_steps : {T U E : Type 0} (tells : Type 0) (now : volume.State) (done : Result T (Error Mmr)) (result : Result U E)
      → SyncsLog tells bytes_of db.log db.tip.witness old now done → OnOk result (tells → IsDurable (seen_log db.log) now)
      → tells → StepsTo compact_kind s (committed s) db old now result
  synced_steps tells now done result syncs durable told =
      sync_steps now result
      (log_moves_wider Name (Settles bytes_of db.log db.tip.witness old) Stays old now (syncs.call told).images (settled_stays db.log db.tip.witness old is.held.opened))
      (syncs.contents is.held.opened told)
      (on_ok result _ _ (λ at. at told) durable)

  -- so it does where the call is done, and where it fails
  pub synced_done : {T U E : Type 0} (tells : Type 0) (now : volume.State) (done : Result T (Error Mmr)) (made : U)
      → SyncsLog tells bytes_of db.log db.tip.witness old now done → (tells → IsDurable (seen_log db.log) now)
      → tells → StepsTo compact_kind {E = E} s (committed s) db old now (Ok made)
  synced_done tells now done made syncs durable told = synced_steps tells now done (Ok made) syncs durable told

  pub synced_not : {T U E : Type 0} (tells : Type 0) (now : volume.State) (done : Result T (Error Mmr)) (e : E)
      → SyncsLog tells bytes_of db.log db.tip.witness old now done
      → tells → StepsTo compact_kind {T = U} s (committed s) db old now (Err e)
  synced_not tells now done e syncs told = synced_steps tells now done (Err e) syncs tt told

  -- ---- pruned

  module _ (l to : ℕ) (same : l ≡ to) where
    place : kept_from Held (seen_log db.log).start l
        ≡ min ((seen_log db.log).start + first_at_least to (drop (seen_log db.log).start s.sizes)) (length Held - 1)
    place =
        let from = (seen_log db.log).start in
        ap (λ (n : ℕ). kept_from Held from n) same
        ∙ ap (λ (ns : List ℕ). min (from + first_at_least to ns) (length Held - 1))
        (ap sizes_of (drop-map (witness_of {F = Mmr} mmr sha meaning s.ops) from s.sizes) ∙ sizes_are s.ops (drop from s.sizes))

    pruned_low : max Greatest (kept_from Held (seen_log db.log).start l) ≤ first_at_least (max s.prune to) s.sizes
    pruned_low =
        let begins : (seen_log db.log).start ≡ (old.log Name).start = is.held.bounds.start_is in
        let here = low in
        let less = kept_low to s.prune (seen_log db.log).start (length s.ops) s.sizes good.sizes (omega (arith, begins, here)) in
        let more = first_higher s.prune (max s.prune to) s.sizes (omega arith) in
        let at = place in
        omega (arith, less, more, at)

    pruned_log : (log : Log) → HasWitnesses bytes_of Held (max Greatest (kept_from Held (seen_log db.log).start l)) (length Held) log → Stand (max s.prune to) (length s.ops) log
    pruned_log log part =
        let few = all_durable (length s.ops) s.sizes good.sizes in
        let count = length-map s.sizes (witness_of {F = Mmr} mmr sha meaning s.ops) in
        let greatest = max Greatest (kept_from Held (seen_log db.log).start l) in
        part_wider Texts greatest (first_at_least (max s.prune to) s.sizes) (length Held) (durable_witnesses s.sizes (length s.ops)) log pruned_low (omega (arith, few, count))
        (subst (λ (ts : List (List ℕ)). IsPartOf ts greatest (length Held) log) (texts_are s.ops s.sizes) part)

    -- what a prune says of the log of a list
    abbrev pub LogPruned : {T E : Type 0} → Type 0 → volume.State → Result T E → Type 0
    LogPruned tells now result =
        tells → IsSettledLog db.log old → (ops : List Operation) (sizes : List ℕ) (greatest least : ℕ) → IsHeldAt ops sizes db old
        → LogHas old Name (HasWitnesses bytes_of (witnesses_at ops sizes) greatest least)
        → Steps (LogLeft Name) (HasWitnesses bytes_of (witnesses_at ops sizes) greatest least)
        (HasWitnesses bytes_of (witnesses_at ops sizes) (max greatest (kept_from (witnesses_at ops sizes) (seen_log db.log).start l)) (length (witnesses_at ops sizes)))
        old now result

    -- Where all is durable a crash leaves up to a turn what stands for the state, and from it on what stands for the state that is pruned.
    pub pruned_steps : {T E : Type 0} (tells : Type 0) (config : Config) (now : volume.State) (result : Result T E) → LogPruned tells now result
        → tells → IsDurable (seen_log db.log) old → StepsTo compact_kind s (pruned config.log_blob config.witness_blob s to) db old now result
    pruned_steps tells config now result steps told durable = λ has.
        names_step Name (Stand s.prune s.durable) (Stand (max s.prune to) (length s.ops)) old now result
        (steps_weaker (LogLeft Name)
        (HasWitnesses bytes_of Held Greatest Least) (Stand s.prune s.durable)
        (HasWitnesses bytes_of Held (max Greatest (kept_from Held (seen_log db.log).start l)) (length Held)) (Stand (max s.prune to) (length s.ops))
        old now result
        (λ log part. subst (λ (ts : List (List ℕ)). IsPartOf ts Greatest Least log) (texts_are s.ops s.sizes) part)
        pruned_log
        (steps told (λ committed. durable) s.ops s.sizes Greatest Least held_now
        (λ log at. subst (λ (ts : List (List ℕ)). IsPartOf ts Greatest Least log) (sym (texts_are s.ops s.sizes)) (log_has Name (Stand s.prune s.durable) old has log at))))

  -- ---- made longer

  -- what stands for the state with this list
  abbrev Longer : List Operation → Log → Type 0
  Longer list = CompactStands mmr sha bytes_of meaning list (sizes_with s.sizes (length s.ops) (length list)) s.prune s.durable

  same_list : (log : Log) → Stand s.prune s.durable log → Longer (s.ops ++ []) log
  same_list log stands =
      subst (λ (list : List Operation). Longer list log) (sym (append-nil s.ops))
      (subst (λ (ns : List ℕ). CompactStands mmr sha bytes_of meaning s.ops ns s.prune s.durable log) (sym (no_size s.sizes (length s.ops))) stands)

  module _ (more : List Operation) (some : 0 < length more) where
    abbrev Last : Witness Mmr Sha256Digest
    Last = witness_of {F = Mmr} mmr sha meaning (s.ops ++ more) (length (s.ops ++ more))

    texts_more : map (text_of bytes_of) (Held ++ (Last ∷ [])) ≡ map (witness_text mmr sha meaning bytes_of (s.ops ++ more)) (s.sizes ++ (length (s.ops ++ more) ∷ []))
    texts_more =
        let list = s.ops ++ more in
        let rise = rises_from_zero (length s.ops) s.sizes good.sizes in
        map-append (text_of bytes_of) Held (Last ∷ [])
        ∙ ap (λ (ts : List (List ℕ)). ts ++ (witness_text mmr sha meaning bytes_of list (length list) ∷ []))
        (texts_are s.ops s.sizes ∙ sym (witnesses_longer mmr sha bytes_of meaning s.ops more 0 s.sizes rise))
        ∙ sym (map-append (witness_text mmr sha meaning bytes_of list) s.sizes (length list ∷ []))

    longer_list : (log : Log) → HasWitnesses bytes_of (Held ++ (Last ∷ [])) Greatest Least log → Longer (s.ops ++ more) log
    longer_list log part =
        let list = s.ops ++ more in
        let sizes = s.sizes ++ (length list ∷ []) in
        let lt : length s.ops < length list = omega (arith, some, length-append s.ops more) in
        let count = witnesses_same (length s.ops) s.durable s.sizes (length list ∷ []) good.sizes good.within in
        subst (λ (ns : List ℕ). CompactStands mmr sha bytes_of meaning list ns s.prune s.durable log) (sym (one_size s.sizes (length s.ops) (length list) lt))
        (part_wider (map (witness_text mmr sha meaning bytes_of list) sizes) Greatest (first_at_least s.prune sizes) Least (durable_witnesses sizes s.durable) log
        (first_longer s.prune s.sizes (length list ∷ [])) (omega (arith, count))
        (subst (λ (ts : List (List ℕ)). IsPartOf ts Greatest Least log) texts_more part))

  module _ (tells : Type 0) (at : SealedView → Type 0) (now : volume.State) where
    -- what an apply says of the log of a batch of a longer list, and of one that isn't
    abbrev pub LogGrows : Type 0
    LogGrows = tells → (ops more : List Operation) (sizes : List ℕ) (b : SealedView) (greatest least : ℕ) → at b → IsHeldAt ops sizes db old
        → IsMerkleizedOf mmr sha meaning (ops ++ more) b → 0 < length more
        → LogHas old Name (HasWitnesses bytes_of (witnesses_at ops sizes) greatest least)
        → LogKeeps Name (HasWitnesses bytes_of (witnesses_at ops sizes ++ (witness_of {F = Mmr} mmr sha meaning (ops ++ more) (length (ops ++ more)) ∷ [])) greatest least) old now

    abbrev pub LogIdles : Type 1
    LogIdles = (b : SealedView) → at b → b.bounds.tip.size ≤ db.tip.witness.size → waits db.log ≡ false → (P : volume.State → Type 0) → P old → P now

    -- At each moment a crash leaves what stands for the longer list.
    pub applied_keeps : LogGrows → LogIdles → tells → (x : SealedView) → at x → (more : List Operation) → compact_kind.is_sealed (s.ops ++ more) x
        → KeepsTo compact_kind s (with_ops s (s.ops ++ more)) db old now
    applied_keeps grows idles told x there [] sealed = λ has.
        let tip : x.bounds.tip.size ≡ length (s.ops ++ []) = ap (λ (c : Commitment Mmr Sha256Digest). c.size) sealed.0.batch.bounds.tip in
        let size : db.tip.witness.size ≡ length s.ops = size_of_list mmr sha meaning s.ops db.tip db.tree db.commit is.held.list in
        let le : x.bounds.tip.size ≤ db.tip.witness.size = omega (arith, tip, size, length-append s.ops []) in
        idles x there le is.held.opened (λ state. Keeps (NamesLeft (log_alone Name)) (λ image. Longer (s.ops ++ []) (image.log Name)) old state)
        (keeps_none (NamesLeft (log_alone Name)) (λ image. Longer (s.ops ++ []) (image.log Name)) old (λ image left. same_list (image.log Name) (has image left)))
    applied_keeps grows idles told x there (op ∷ more) sealed = λ has.
        let list = op ∷ more in
        let some : 0 < length (op ∷ more) = omega arith in
        names_keep Name (Longer (s.ops ++ list)) old now
        (keeps_weaker (LogLeft Name) (HasWitnesses bytes_of (Held ++ (witness_of {F = Mmr} mmr sha meaning (s.ops ++ list) (length (s.ops ++ list)) ∷ [])) Greatest Least) (Longer (s.ops ++ list)) old now
        (longer_list list some)
        (grows told s.ops list s.sizes x Greatest Least there held_now sealed.0 some
        (λ log left. subst (λ (ts : List (List ℕ)). IsPartOf ts Greatest Least log) (sym (texts_are s.ops s.sizes)) (log_has Name (Stand s.prune s.durable) old has log left))))

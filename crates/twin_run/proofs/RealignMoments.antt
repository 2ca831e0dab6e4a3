-- What a crash leaves while both databases are opened.
use Rattle.std.proofs.Common.{◌≡◌, ℕ, ◌≤◌, List, length, Some, None, Ok, Err, sym, ◌∙◌, ap, subst, arith}
use Rattle.std.proofs.lemmas.List.{length-take-le}
use Rattle.volume_base.specs.Log.{Log}
use Rattle.volume_base.specs.Moments.{Image, EachMoment, EachNow, Keeps, LeftAt, LogHas, LogKeeps, LogLeft, NamesLeft, Steps, present}
use Rattle.volume_base.specs.Names.{AreApart, NamesCall}
use Rattle.volume_base.specs.Volume as volume
use Rattle.volume_base.specs.Volume.{OnlyLeft}
use Rattle.volume_base.proofs.NameLemmas.{agree_three, log_beside, names_beside, names_of_each, names_of_image}
use Rattle.volume_base.proofs.TurnLemmas.{keeps_joins, log_back, names_back, now_after, steps_at_end, steps_of_keeps}
use Rattle.tree_shape.specs.Mmr.{mmr}
use Rattle.tree_shape.specs.Sha256Codec.{bytes_of}
use Rattle.tree_shape.specs.declared.mmr.Mmr.{Mmr}
use Rattle.tree_shape.specs.declared.sha256.Sha256Digest.{Sha256Digest}
use Rattle.chain_core.specs.declared.commitment.Commitment.{Commitment}
use Rattle.log_model.specs.Machine.{State}
use Rattle.log_model.specs.Stored.{CompactStands, FullStands}
use Rattle.list_machine.specs.Config.{Config, AreNamesApart}
use Rattle.list_machine.specs.Operation.{Operation, meaning, sha}
use Rattle.list_machine.specs.Starts.{IsStart, compact_names, full_names, opened_from, names_in}
use Rattle.list_machine.specs.Step.{plain_commit}
use Rattle.list_machine.proofs.LeftStarts.{left_start}
use Rattle.list_machine.proofs.OpeningLaws.{opens_well}
use Rattle.list_machine.proofs.StartParts as parts
use Rattle.twin_batches.specs.Kind.{kept_of}
use Rattle.twin_databases.specs.CompactKind.{CompactView, compact_kind}
use Rattle.twin_databases.specs.FullKind.{FullView, full_kind}
use Rattle.twin_databases.specs.Standing.{KeepStanding, NamesStandFor, OpensGood, StandNow, settled_at}
use Rattle.twin_run.specs.Standing.{Stands}
use Rattle.twin_run.specs.Twins.{AreOpenedAs}
use Rattle.twin_run.proofs.HeldLog.{log_held, tree_held, witnesses_held}

module _ (config : Config) where
  -- by the configuration's names
  abbrev pub FullNow : State Operation → volume.State → Type 0
  FullNow = StandNow config.log config.nodes config.metadata

  abbrev pub FullKeeps : State Operation → volume.State → volume.State → Type 0
  FullKeeps = KeepStanding config.log config.nodes config.metadata

  abbrev Full : State Operation → Image → Type 0
  Full = NamesStandFor config.log config.nodes config.metadata

  abbrev pub Witnesses : State Operation → Log → Type 0
  Witnesses s log = CompactStands mmr sha bytes_of meaning s.ops s.sizes s.prune s.durable log

  -- Calls over which what a crash leaves stands for a state all along.
  pub record StandsAlong (s : State Operation) (a b : volume.State) : Type 0 where
    pub full : Keeps (NamesLeft (full_names config)) (Full s) a b
    pub witness : LogKeeps config.witness (Witnesses s) a b

  pub along_joins : (s : State Operation) (a b c : volume.State) → StandsAlong s a b → StandsAlong s b c
      → StandsAlong s a c
  along_joins s a b c ab bc = record {
    full = keeps_joins (NamesLeft (full_names config)) (names_back (full_names config)) (Full s) a b c ab.full bc.full;
    witness = keeps_joins (LogLeft config.witness) (log_back config.witness) (Witnesses s) a b c ab.witness bc.witness;
  }

  full_after : (s : State Operation) (a b : volume.State) → StandsAlong s a b → FullNow s b
  full_after s a b along = now_after (NamesLeft (full_names config)) (Full s) a b along.full

  witness_after : (s : State Operation) (a b : volume.State) → StandsAlong s a b
      → LogHas b config.witness (Witnesses s)
  witness_after s a b along = now_after (LogLeft config.witness) (Witnesses s) a b along.witness

  each_along : (s : State Operation) (a b : volume.State) → StandsAlong s a b → EachMoment (Stands config s) a b
  each_along s a b along = record {
    past = along.full.past;
    during = λ t image lo hi at. record {
      full = along.full.during t image lo hi (names_of_image (full_names config) b t image at);
      compact = along.witness.during t (image.log config.witness) lo hi (at.logs config.witness);
    };
  }

  -- so is it after an error, and after an opening behind which it stands for what is opened
  pub along_err : {T E : Type 0} (s now : State Operation) (a b : volume.State) (e : E) → StandsAlong s a b
      → Steps {T = T} LeftAt (Stands config s) (Stands config now) a b (Err e)
  along_err s now a b e along =
      steps_of_keeps LeftAt (Stands config s) (Stands config now) a b (Err e) tt (each_along s a b along)

  pub along_ok : {T E : Type 0} (s now : State Operation) (a b : volume.State) (made : T) → StandsAlong s a b
      → FullNow now b → LogHas b config.witness (Witnesses now)
      → Steps {E = E} LeftAt (Stands config s) (Stands config now) a b (Ok made)
  along_ok s now a b made along full witness =
      steps_at_end LeftAt (Stands config s) (Stands config now) a b (Ok made) (each_along s a b along)
      (λ image at. record {
        full = full image (names_of_image (full_names config) b b.clock image at);
        compact = witness (image.log config.witness) (at.logs config.witness);
      })

  -- what was made is of no account
  pub takes_ok : {S T E F : Type 0} (s now : State Operation) (a b : volume.State) (made : S) (other : T)
      → Steps {E = E} LeftAt (Stands config s) (Stands config now) a b (Ok made)
      → Steps {E = F} LeftAt (Stands config s) (Stands config now) a b (Ok other)
  takes_ok s now a b made other steps = record { past = steps.past; ok = steps.ok; err = tt }

  -- ---- at the beginning

  module _ (s : State Operation) (old : volume.State) (left : LeftAt old old.clock (present old))
      (each : EachNow (Stands config s) old) where
    pub full_first : FullNow s old
    full_first =
        names_of_each (full_names config) (Full s) old
        (λ one two agree is. agree_three config.log config.nodes config.metadata
        (FullStands mmr sha bytes_of meaning s.ops s.prune s.durable s.node_durable) one two agree is) left
        (λ image at. (each image at).full)

    pub witness_first : LogHas old config.witness (Witnesses s)
    witness_first log at =
        names_of_each (compact_names config) (λ image. Witnesses s (image.log config.witness)) old
        (λ one two agree is. subst (Witnesses s) (sym agree.logs.0) is) left (λ image at. (each image at).compact)
        (record { log = λ name. log; map = old.map }) (record { logs = (at, tt); maps = tt })

  -- ---- calls of one database

  module _ (apart : AreNamesApart config) where
    witness_apart : AreApart (compact_names config) (full_names config)
    witness_apart = record {
      logs = ((apart.log_witness, tt), ((apart.nodes_witness, tt), tt));
      maps = (tt, tt);
    }

    -- those of the full one, over which the witness log stays
    pub full_along : (s : State Operation) (a b : volume.State) → NamesCall (full_names config) a b
        → FullKeeps s a b → FullNow s a → LogHas a config.witness (Witnesses s) → StandsAlong s a b
    full_along s a b call keeps full witness = record {
      full = keeps full;
      witness = log_beside (full_names config) config.witness (Witnesses s) a b call.images
          ((λ e. apart.log_witness (sym e)), ((λ e. apart.nodes_witness (sym e)), tt)) witness;
    }

    -- and those of the compact one
    full_beside : (s : State Operation) (a b : volume.State) → NamesCall (compact_names config) a b → FullNow s a
        → Keeps (NamesLeft (full_names config)) (Full s) a b
    full_beside s a b call full =
        names_beside (compact_names config) (full_names config) (Full s) a b call.images witness_apart full

    pub compact_along : (s : State Operation) (a b : volume.State) → NamesCall (compact_names config) a b
        → (LogHas a config.witness (Witnesses s) → LogKeeps config.witness (Witnesses s) a b) → FullNow s a
        → LogHas a config.witness (Witnesses s) → StandsAlong s a b
    compact_along s a b call keeps full witness = record {
      full = full_beside s a b call full;
      witness = keeps witness;
    }

    pub full_stays_now : (s : State Operation) (a b : volume.State) → NamesCall (compact_names config) a b
        → FullNow s a → FullNow s b
    full_stays_now s a b call full =
        now_after (NamesLeft (full_names config)) (Full s) a b (full_beside s a b call full)

    -- ---- one call after another

    -- of the three calls: what each keeps, and what the full one has settled
    module _ (small : config.value_limit ≤ 16777216) (s : State Operation) (old : volume.State)
        (start : IsStart config s (present old)) (left : LeftAt old old.clock (present old))
        (each : EachNow (Stands config s) old) (mid : volume.State) (first : NamesCall (full_names config) old mid)
        (first_keeps : (x : State Operation) → OpensGood config.value_limit None x → FullKeeps x old mid) where
      pub opens_first : OpensGood config.value_limit None s
      opens_first = record { small = small; good = start.good; past = λ most is. absurd cc }

      pub along_first : StandsAlong s old mid
      along_first =
          full_along s old mid first (first_keeps s opens_first) (full_first s old left each)
          (witness_first s old left each)

      module _ (next : volume.State) (second : NamesCall (compact_names config) mid next)
          (second_keeps : LogHas mid config.witness (Witnesses s) → LogKeeps config.witness (Witnesses s) mid next)
        where
          pub along_second : StandsAlong s old next
          along_second =
              along_joins s old mid next along_first
              (compact_along s mid next second second_keeps (full_after s old mid along_first)
              (witness_after s old mid along_first))

          module _ (new : volume.State) (third : NamesCall (full_names config) next new) (size : ℕ)
              (opens : OpensGood config.value_limit (Some size) s)
              (third_keeps : (x : State Operation) → OpensGood config.value_limit (Some size) x → FullKeeps x next new)
            where
              pub along_third : StandsAlong s old new
              along_third =
                  along_joins s old next new along_second
                  (full_along s next new third (third_keeps s opens) (full_after s old next along_second)
                  (witness_after s old next along_second))

              pub settled_third : (f c : ℕ)
                  → ((x : State Operation) → OpensGood config.value_limit None x → FullNow x old
                  → FullNow (settled_at x f) mid)
                  → ((x : State Operation) → OpensGood config.value_limit (Some size) x → FullNow x next
                  → FullNow (settled_at x f) next → FullNow (settled_at x c) new)
                  → FullNow (settled_at s c) new
              settled_third f c settles lowers =
                  lowers s opens (full_after s old next along_second)
                  (full_stays_now (settled_at s f) mid next second (settles s opens_first (full_first s old left each)))

  -- ---- where both are opened

  -- it is opened under the size of the state that is opened
  pub opens_size : (small : config.value_limit ≤ 16777216) (s : State Operation) (old : volume.State)
      (start : IsStart config s (present old)) (size : ℕ) → size ≡ (opened_from config s (present old)).durable
      → OpensGood config.value_limit (Some size) s
  opens_size small s old start size is =
      let low = parts.size_low mmr sha bytes_of meaning (λ (v : List ℕ). length v ≤ config.value_limit) plain_commit
      (names_in config) s (present old) start.good start.stands in
      let past = parts.size_past mmr sha bytes_of meaning (λ (v : List ℕ). length v ≤ config.value_limit) plain_commit
      (names_in config) s (present old) start.good start.stands in
      record {
        small = small;
        good = start.good;
        past = λ most same. (
          (let e : size ≡ most = cc in omega (arith, e, is, low)),
          (let e : size ≡ most = cc in omega (arith, e, is, past)),
        );
      }

  module _ (s : State Operation) (old new : volume.State) (start : IsStart config s (present old)) (full : FullView)
      (compact : CompactView) (opened : AreOpenedAs (opened_from config s (present old)) (present new) full compact)
    where
      abbrev Opened : State Operation
      Opened = opened_from config s (present old)

      size_high : Opened.durable ≤ length s.ops
      size_high =
          parts.size_high mmr sha bytes_of meaning (λ (v : List ℕ). length v ≤ config.value_limit) plain_commit
          (names_in config) s (present old) start.good start.stands

      pub full_size : full.state.size ≡ Opened.durable
      full_size =
          ap (λ (k : Commitment Mmr Sha256Digest). k.size)
          (full_kind.state_is (kept_of Opened) (present new) full opened.full)
          ∙ length-take-le Opened.durable s.ops size_high

      pub full_now : FullNow (settled_at s full.state.size) new → FullNow Opened new
      full_now now = subst (λ (n : ℕ). FullNow (settled_at s n) new) full_size now

      -- a crash leaves the witness log as it is, and that stands for the state
      pub witness_now : full_kind.names full ≡ full_names config → compact_kind.names compact ≡ compact_names config
          → OnlyLeft (new.log_left new.clock config.witness) (new.log config.witness)
          → LogHas new config.witness (Witnesses Opened)
      witness_now full_named compact_named only log at =
          let image = present new in
          let again = left_start config Opened image (opens_well config s (present old) start).good
          (log_held config image full Opened full_named opened.full)
          (tree_held config image full Opened full_named opened.full)
          (witnesses_held config image compact Opened compact_named opened.compact) in
          subst (Witnesses Opened) (sym (only log at)) again.stands.compact

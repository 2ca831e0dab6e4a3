-- What commands make of both sides of a run.
use Rattle.std.proofs.Common.{◌≡◌, inl, inr, ℕ, ◌<◌, ◌≤◌, ◌^◌, [], ◌∷◌, Option, Some, None, Ok, Err, refl, sym, ◌∙◌, ap, subst}
use Rattle.std.specs.FinMap as finmap
use Rattle.std.specs.Prelude.{Result, IfOk, IfErr, IsOk}
use Rattle.std.proofs.lemmas.Bool.{cases_lt}
use Rattle.volume_base.specs.Log.{no_log}
use Rattle.volume_base.specs.Moments.{Image, present}
use Rattle.volume_base.specs.Names.{Names, AreApart, NamesCall, joined}
use Rattle.volume_base.specs.Volume as volume
use Rattle.volume_base.specs.Volume.{SameContents}
use Rattle.volume_base.proofs.CallLemmas.{names_call_joins}
use Rattle.log_model.specs.Good.{AnyList}
use Rattle.log_model.specs.Machine.{State, pruned}
use Rattle.log_model.specs.Operations.{floor_of}
use Rattle.log_model.specs.Refusals.{prune_refusal}
use Rattle.log_model.specs.declared.refusal.Refusal.{Refusal}
use Rattle.command_text.specs.declared.command.Answer.{Answer}
use Rattle.command_text.specs.declared.command.Answer.TheVariants as answer
use Rattle.command_text.specs.declared.command.Command.{Command}
use Rattle.command_text.specs.declared.command.Command.TheVariants as command
use Rattle.list_machine.specs.Config.{Config, AreNamesApart, config_of}
use Rattle.list_machine.specs.Operation.{Operation, meaning}
use Rattle.list_machine.specs.GoodRuns.{IsGoodState}
use Rattle.list_machine.specs.Starts.{full_names, compact_names, twin_names}
use Rattle.list_machine.specs.Step.{Outcome, step, refused, prune, prune_unless, reply}
use Rattle.list_machine.specs.Told.{IsTold}
use Rattle.list_machine.proofs.RunGood.{are_good}
use Rattle.twin_batches.specs.declared.numbers.Numbers.{Numbers}
use Rattle.twin_batches.specs.About.{IsDurableFor}
use Rattle.twin_batches.specs.Durability.{IsSettled}
use Rattle.twin_batches.specs.Kind.{Kind, kept_of}
use Rattle.twin_batches.specs.StateOf.{IsShaped, IsStateOf, StandsGood, Meets, Answers}
use Rattle.twin_batches.proofs.Commanding.{state_over}
use Rattle.twin_batches.proofs.Fronts.{lt_false}
use Rattle.twin_batches.proofs.Handlers.{counted_state}
use Rattle.twin_databases.specs.CompactKind.{CompactView, compact_kind}
use Rattle.twin_databases.specs.FullKind.{FullView, SealedView, UnsealedView, full_kind}
use Rattle.twin_run.specs.Faults.{IsCorrupt}
use Rattle.twin_run.specs.Twins.{AreShaped, AreSound, AreUnder, AreOf, AreKept, AreSettled, GoesOn, GoOn, IsTwinsOf, names_of, reply_of}
use Rattle.twin_run.specs.declared.ending.Fault.{Fault}
use Rattle.twin_run.specs.declared.sides.Twins.{Twins}
use Rattle.twin_run.proofs.Beside.{apart_swapped, call_first, call_second, state_beside, durable_beside, synced_beside, witnesses_beside}

-- ---- a database that goes on

module _ {Db S U : Type 0} (k : Kind Db S U) where
  pub goes_on_settled : (old new : Db) → IsSettled k old new → GoesOn k old new
  goes_on_settled old new settled =
      record { names = settled.names; under = settled.under; sound = settled.sound }

  pub goes_on_kept : (old new : Db) → k.is_sound old → new ≡ old → GoesOn k old new
  goes_on_kept old new sound kept = record {
    names = ap k.names kept;
    under = λ config is. subst (k.is_under config) (sym kept) is;
    sound = subst k.is_sound (sym kept) sound;
  }

-- some configuration under which values have at most this length
pub config_with : ℕ → Config
config_with limit = config_of [] [] [] [] 0 0 0 0 limit

pub config_limit : (limit : ℕ) → (config_with limit).value_limit ≡ limit
unfolding config_with
config_limit limit = refl

-- ---- both go on

module _ (old new : Twins) where
  pub are_of : (config : Config) → GoOn old new → AreOf config old → AreOf config new
  are_of config on of = record {
    under = record {
      full_names_are = on.full.names ∙ of.under.full_names_are;
      full_under = on.full.under config of.under.full_under;
      compact_names_are = on.compact.names ∙ of.under.compact_names_are;
      compact_under = on.compact.under config of.under.compact_under;
    };
    full_limit = on.full_limit ∙ of.full_limit;
    compact_limit = on.compact_limit ∙ of.compact_limit;
  }

  -- with the shape of their batches and one state they are shaped
  pub shaped_on : AreShaped old → GoOn old new → IsShaped full_kind new.full.numbers
      → IsShaped compact_kind new.compact.numbers → full_kind.state new.full.db ≡ compact_kind.state new.compact.db
      → AreShaped new
  shaped_on shaped on full compact equal = record {
    full = full;
    compact = compact;
    even = on.compact_taken ∙ shaped.even ∙ sym on.full_taken;
    sound = record { full = on.full.sound; compact = on.compact.sound };
    apart = subst (λ (n : Names). AreApart n (compact_kind.names new.compact.db)) (sym on.full.names)
        (subst (λ (n : Names). AreApart (full_kind.names old.full.db) n) (sym on.compact.names) shaped.apart);
    equal = equal;
  }

  pub on_kept : AreSound old.full.db old.compact.db → AreKept old new → new.full.limit ≡ old.full.limit
      → new.compact.limit ≡ old.compact.limit → new.full.numbers.taken ≡ old.full.numbers.taken
      → new.compact.numbers.taken ≡ old.compact.numbers.taken → GoOn old new
  on_kept sound kept full_limit compact_limit full_taken compact_taken = record {
    full = goes_on_kept full_kind old.full.db new.full.db sound.full kept.full;
    compact = goes_on_kept compact_kind old.compact.db new.compact.db sound.compact kept.compact;
    full_limit = full_limit;
    compact_limit = compact_limit;
    full_taken = full_taken;
    compact_taken = compact_taken;
  }

  pub equal_kept : AreKept old new → full_kind.state old.full.db ≡ compact_kind.state old.compact.db
      → full_kind.state new.full.db ≡ compact_kind.state new.compact.db
  equal_kept kept equal = ap full_kind.state kept.full ∙ equal ∙ sym (ap compact_kind.state kept.compact)

  pub on_settled : AreSettled old new → GoOn old new
  on_settled settled = record {
    full = goes_on_settled full_kind old.full.db new.full.db settled.full;
    compact = goes_on_settled compact_kind old.compact.db new.compact.db settled.compact;
    full_limit = settled.full_limit;
    compact_limit = settled.compact_limit;
    full_taken = ap (λ n. n.taken) settled.full_numbers;
    compact_taken = ap (λ n. n.taken) settled.compact_numbers;
  }

  pub shaped_settled : AreShaped old → AreSettled old new → AreShaped new
  shaped_settled shaped settled = shaped_on shaped (on_settled settled)
      (subst (IsShaped full_kind) (sym settled.full_numbers) shaped.full)
      (subst (IsShaped compact_kind) (sym settled.compact_numbers) shaped.compact)
      (settled.full.state ∙ shaped.equal ∙ sym settled.compact.state)

  -- both stand for a good state to which they have gone on
  pub both_stand : (config : Config) (was is : Image) (s t : State Operation) → GoOn old new
      → IsTwinsOf config was old s → IsGoodState AnyList config.value_limit t
      → IsStateOf full_kind is new.full.db new.full.numbers t
      → IsStateOf compact_kind is new.compact.db new.compact.numbers t → IsTwinsOf config is new t
  both_stand config was is s t on of good full compact = record {
    good = good;
    apart = of.apart;
    few = of.few;
    of = are_of config on of.of;
    full = full;
    compact = compact;
  }

pub settled_joins : (a b c : Twins) → AreSettled a b → AreSettled b c → AreSettled a c
settled_joins a b c ab bc = record {
  full = record {
    state = bc.full.state ∙ ab.full.state;
    floor = bc.full.floor ∙ ab.full.floor;
    names = bc.full.names ∙ ab.full.names;
    under = λ config is. bc.full.under config (ab.full.under config is);
    sound = bc.full.sound;
  };
  compact = record {
    state = bc.compact.state ∙ ab.compact.state;
    floor = bc.compact.floor ∙ ab.compact.floor;
    names = bc.compact.names ∙ ab.compact.names;
    under = λ config is. bc.compact.under config (ab.compact.under config is);
    sound = bc.compact.sound;
  };
  full_numbers = bc.full_numbers ∙ ab.full_numbers;
  compact_numbers = bc.compact_numbers ∙ ab.compact_numbers;
  full_limit = bc.full_limit ∙ ab.full_limit;
  compact_limit = bc.compact_limit ∙ ab.compact_limit;
}

-- ---- a state for which both stand

pub next_good : (config : Config) (s : State Operation) (c : Command) → IsGoodState AnyList config.value_limit s
    → IsGoodState AnyList config.value_limit (step config s c).1
next_good config s c good = are_good.runs config s (c ∷ []) good

module _ (config : Config) (image : Image) (t : Twins) (s : State Operation) where
  pub full_stands : IsTwinsOf config image t s → StandsGood full_kind config image t.full.db t.full.numbers s
  full_stands is = record {
    good = is.good;
    under = is.of.under.full_under;
    few = is.few;
    is = is.full;
  }

  pub compact_stands : IsTwinsOf config image t s
      → StandsGood compact_kind config image t.compact.db t.compact.numbers s
  compact_stands is = record {
    good = is.good;
    under = is.of.under.compact_under;
    few = is.few;
    is = is.compact;
  }

  -- both have its size and its root
  pub states_equal : IsTwinsOf config image t s → full_kind.state t.full.db ≡ compact_kind.state t.compact.db
  states_equal is = full_kind.state_is (kept_of s) image t.full.db is.full.log
      ∙ sym (compact_kind.state_is (kept_of s) image t.compact.db is.compact.log)

-- they stand for it over the same contents
pub twins_over : (config : Config) (was is : volume.State) (t : Twins) (s : State Operation) → SameContents was is
    → IsTwinsOf config (present was) t s → IsTwinsOf config (present is) t s
twins_over config was is t s same of = record {
  good = of.good;
  apart = of.apart;
  few = of.few;
  of = of.of;
  full = state_over full_kind was is same t.full.db t.full.numbers s of.full;
  compact = state_over compact_kind was is same t.compact.db t.compact.numbers s of.compact;
}

-- both tell the list for which they stand
pub made_reply : (config : Config) (image : Image) (t : Twins) (o : Outcome) (a : Answer) → a ≡ o.0
    → IsTwinsOf config image t o.1 → reply_of t a ≡ reply o
made_reply config image t o a e of i =
    let full = full_kind.state_is (kept_of o.1) image t.full.db of.full.log in
    let compact = compact_kind.state_is (kept_of o.1) image t.compact.db of.compact.log in
    record { answer = e i; size = (full i).size; full_root = (full i).root; compact_root = (compact i).root }

-- ---- a step is counted on both

module _ (t u : Twins)
    (full : u.full ≡ record { db = t.full.db; numbers = u.full.numbers; limit = t.full.limit })
    (compact : u.compact ≡ record { db = t.compact.db; numbers = u.compact.numbers; limit = t.compact.limit })
    (full_batches : u.full.numbers.batches ≡ t.full.numbers.batches)
    (full_pool : u.full.numbers.pool ≡ t.full.numbers.pool)
    (compact_batches : u.compact.numbers.batches ≡ t.compact.numbers.batches)
    (compact_pool : u.compact.numbers.pool ≡ t.compact.numbers.pool) where
  full_db : u.full.db ≡ t.full.db
  full_db = ap (λ x. x.db) full

  compact_db : u.compact.db ≡ t.compact.db
  compact_db = ap (λ x. x.db) compact

  pub counted_of : (config : Config) → AreOf config t → AreOf config u
  counted_of config of = record {
    under = record {
      full_names_are = ap full_kind.names full_db ∙ of.under.full_names_are;
      full_under = subst (full_kind.is_under config) (sym full_db) of.under.full_under;
      compact_names_are = ap compact_kind.names compact_db ∙ of.under.compact_names_are;
      compact_under = subst (compact_kind.is_under config) (sym compact_db) of.under.compact_under;
    };
    full_limit = ap (λ x. x.limit) full ∙ of.full_limit;
    compact_limit = ap (λ x. x.limit) compact ∙ of.compact_limit;
  }

  pub counted_twins : (config : Config) (image : Image) (s : State Operation) → IsTwinsOf config image t s
      → IsTwinsOf config image u s
  counted_twins config image s of = record {
    good = of.good;
    apart = of.apart;
    few = of.few;
    of = counted_of config of.of;
    full = subst (λ (d : FullView). IsStateOf full_kind image d u.full.numbers s) (sym full_db)
        (counted_state full_kind t.full.numbers u.full.numbers full_batches full_pool image t.full.db s of.full);
    compact = subst (λ (d : CompactView). IsStateOf compact_kind image d u.compact.numbers s) (sym compact_db)
        (counted_state compact_kind t.compact.numbers u.compact.numbers compact_batches compact_pool image
        t.compact.db s of.compact);
  }

-- ---- a command on batches

module _ (old new : Twins) (c : Command) (a other : Answer) (kept : AreKept old new) (on : GoOn old new)
    (full : (config : Config) → config.value_limit ≡ old.full.limit → Answers full_kind IsTold (λ s. step config s c)
    old.full.db old.full.numbers new.full.numbers a)
    (compact : (config : Config) → config.value_limit ≡ old.compact.limit → Answers compact_kind IsTold
    (λ s. step config s c) old.compact.db old.compact.numbers new.compact.numbers other) where
  abbrev Meet : Answer → Type 0
  Meet x = (config : Config) (image : Image) (s : State Operation) → IsTold s → IsTwinsOf config image old s
      → (x ≡ (step config s c).0) × IsTwinsOf config image new (step config s c).1

  full_meets : (config : Config) (image : Image) (s : State Operation) → IsTold s → IsTwinsOf config image old s
      → Meets full_kind (step config s c) image old.full.db new.full.numbers a
  full_meets config image s told of = (full config (sym of.of.full_limit) image).follows s told of.full

  compact_meets : (config : Config) (image : Image) (s : State Operation) → IsTold s → IsTwinsOf config image old s
      → Meets compact_kind (step config s c) image old.compact.db new.compact.numbers other
  compact_meets config image s told of =
      (compact config (sym of.of.compact_limit) image).follows s told of.compact

  both_meet : Meet a
  both_meet config image s told of =
      let here = full_meets config image s told of in
      let there = compact_meets config image s told of in (
        here.0,
        both_stand old new config image image s (step config s c).1 on of (next_good config s c of.good)
            (subst (λ (d : FullView). IsStateOf full_kind image d new.full.numbers (step config s c).1)
            (sym kept.full) here.1)
            (subst (λ (d : CompactView). IsStateOf compact_kind image d new.compact.numbers (step config s c).1)
            (sym kept.compact) there.1),
      )

  pub batches_shaped : AreShaped old → AreShaped new
  batches_shaped shaped =
      let image : Image = record { log = λ name. no_log; map = λ name. finmap.empty } in
      shaped_on old new shaped on (full (config_with old.full.limit) (config_limit old.full.limit) image).shaped
      (compact (config_with old.compact.limit) (config_limit old.compact.limit) image).shaped
      (equal_kept old new kept shaped.equal)

  pub agreed_meet : (r : Result Answer Fault) → IfOk r (λ x. x ≡ a) → IfOk r Meet
  agreed_meet (Ok x) same = subst Meet (sym same) both_meet
  agreed_meet (Err f) same = tt

  pub agreed_sound : (r : Result Answer Fault) → (a ≡ other → IsOk r)
      → IfErr r (λ f. (config : Config) (image : Image) (s : State Operation) → IsTold s
      → IsTwinsOf config image old s → IsCorrupt f → ⊥)
  agreed_sound (Ok x) ok = tt
  agreed_sound (Err f) ok = λ config image s told of is. absurd (
      let never = ok ((full_meets config image s told of).0 ∙ sym (compact_meets config image s told of).0) in cc)

pub if_ok : {A E : Type 0} (r : Result A E) (P : Type 0) → P → IfOk r (λ x. P)
if_ok (Ok x) P is = is
if_ok (Err e) P is = tt

-- ---- both after calls that leave their batches

pub on_changed : (old new : Twins) → GoesOn full_kind old.full.db new.full.db
    → GoesOn compact_kind old.compact.db new.compact.db → new.full.limit ≡ old.full.limit
    → new.compact.limit ≡ old.compact.limit → new.full.numbers ≡ old.full.numbers
    → new.compact.numbers ≡ old.compact.numbers → GoOn old new
on_changed old new full compact full_limit compact_limit full_numbers compact_numbers = record {
  full = full;
  compact = compact;
  full_limit = full_limit;
  compact_limit = compact_limit;
  full_taken = ap (λ n. n.taken) full_numbers;
  compact_taken = ap (λ n. n.taken) compact_numbers;
}

-- ---- a call on the full database, and one on the compact one

module _ (old : Twins) (shaped : AreShaped old) (a b : volume.State) where
  module _ (call : NamesCall (full_kind.names old.full.db) a b) where
    pub full_called : NamesCall (names_of old) a b
    full_called = call_first (full_kind.names old.full.db) (compact_kind.names old.compact.db) a b call

    -- the compact one waits
    pub compact_waits : (s : State Operation)
        → IsStateOf compact_kind (present a) old.compact.db old.compact.numbers s
        → IsStateOf compact_kind (present b) old.compact.db old.compact.numbers s
    compact_waits s of = state_beside (full_kind.names old.full.db) a b call compact_kind old.compact.db
        old.compact.numbers s shaped.apart of

    pub compact_lasts : compact_kind.is_durable old.compact.db a → compact_kind.is_durable old.compact.db b
    compact_lasts durable =
        witnesses_beside (full_kind.names old.full.db) a b call old.compact.db shaped.apart durable

  module _ (call : NamesCall (compact_kind.names old.compact.db) a b) where
    pub compact_called : NamesCall (names_of old) a b
    compact_called = call_second (full_kind.names old.full.db) (compact_kind.names old.compact.db) a b call

    -- and the full one stays
    module _ (db : FullView) (names : full_kind.names db ≡ full_kind.names old.full.db) where
      apart_from : AreApart (compact_kind.names old.compact.db) (full_kind.names db)
      apart_from = subst (λ (n : Names). AreApart (compact_kind.names old.compact.db) n) (sym names)
          (apart_swapped (full_kind.names old.full.db) (compact_kind.names old.compact.db) shaped.apart)

      pub full_stays : (n : Numbers SealedView UnsealedView) (s : State Operation)
          → IsStateOf full_kind (present a) db n s → IsStateOf full_kind (present b) db n s
      full_stays n s of =
          state_beside (compact_kind.names old.compact.db) a b call full_kind db n s apart_from of

      pub full_durable : (c : Command) → IsDurableFor full_kind c db a → IsDurableFor full_kind c db b
      full_durable command.Commit durable =
          durable_beside (compact_kind.names old.compact.db) a b call db apart_from durable
      full_durable command.Sync durable =
          synced_beside (compact_kind.names old.compact.db) a b call db apart_from durable
      full_durable command.StartSync durable =
          synced_beside (compact_kind.names old.compact.db) a b call db apart_from durable
      full_durable _ durable = tt

  pub both_called : (c : volume.State) → NamesCall (full_kind.names old.full.db) a b
      → NamesCall (compact_kind.names old.compact.db) b c → NamesCall (names_of old) a c
  both_called c first second = names_call_joins (names_of old) a b c (full_called first)
      (call_second (full_kind.names old.full.db) (compact_kind.names old.compact.db) b c second)

-- ---- outcomes of both

module _ (config : Config) (image : Image) (t : Twins) (s : State Operation) (a : Answer) where
  -- an answer, and both after it, are an outcome
  abbrev pub BothMeet : Outcome → Type 0
  BothMeet o = (a ≡ o.0) × IsTwinsOf config image t o.1

  pub named_meet : (o p : Outcome) → o ≡ p → BothMeet p → BothMeet o
  named_meet o p e meet = subst BothMeet (sym e) meet

  -- one that leaves the state
  pub kept_meet : (o : Outcome) → o.1 ≡ s → a ≡ o.0 → IsTwinsOf config image t s → BothMeet o
  kept_meet o same answers of = (
    answers,
    subst (λ (next : State Operation). IsTwinsOf config image t next) (sym same) of,
  )

  -- or that refuses
  pub refused_meet : (o : Outcome) (why : Refusal) → o ≡ refused s why → a ≡ answer.Refused why
      → IsTwinsOf config image t s → BothMeet o
  refused_meet o why e is of = named_meet o (refused s why) e (is, of)

pub each_ok : {A E : Type 0} (r : Result A E) (P : A → Type 0) → ((x : A) → P x) → IfOk r P
each_ok (Ok x) P is = is x
each_ok (Err e) P is = tt

pub kept_same : (old new : Twins) → new ≡ old → AreKept old new
kept_same old new same = record { full = ap (λ t. t.full.db) same; compact = ap (λ t. t.compact.db) same }

pub on_same : (t : Twins) → AreShaped t → GoOn t t
on_same t shaped = on_kept t t shaped.sound (record { full = refl; compact = refl }) refl refl refl refl

-- ---- both are opened

pub opened_twins : (config : Config) (image : Image) (t : Twins) (s : State Operation)
    → IsGoodState AnyList config.value_limit s → AreNamesApart config → config.value_limit < 2 ^ 64
    → AreOf config t → IsStateOf full_kind image t.full.db t.full.numbers s
    → IsStateOf compact_kind image t.compact.db t.compact.numbers s → IsTwinsOf config image t s
opened_twins config image t s good apart few of full compact = record {
  good = good;
  apart = apart;
  few = few;
  of = of;
  full = full;
  compact = compact;
}

-- logs and maps of a configuration are told apart
pub names_apart : (config : Config) (f : FullView) (c : CompactView) → AreNamesApart config → AreUnder config f c
    → AreApart (full_kind.names f) (compact_kind.names c)
names_apart config f c apart under =
    let names : AreApart (full_names config) (compact_names config) = record {
      logs = ((λ is. apart.log_witness (sym is), (λ is. apart.nodes_witness (sym is), tt)), tt);
      maps = tt;
    } in
    subst (λ (n : Names). AreApart n (compact_kind.names c)) (sym under.full_names_are)
    (subst (λ (n : Names). AreApart (full_names config) n) (sym under.compact_names_are) names)

-- of databases that were opened
module _ (t : Twins) (f : FullView) (c : CompactView) (full : t.full.db ≡ f) (compact : t.compact.db ≡ c) where
  with_both : (P : FullView → CompactView → Type 0) → P f c → P t.full.db t.compact.db
  with_both P is = subst (λ (d : FullView). P d t.compact.db) (sym full)
      (subst (λ (d : CompactView). P f d) (sym compact) is)

  pub opened_of : (config : Config) → AreUnder config f c → t.full.limit ≡ config.value_limit
      → t.compact.limit ≡ config.value_limit → AreOf config t
  opened_of config under full_limit compact_limit = record {
    under = with_both (AreUnder config) under;
    full_limit = full_limit;
    compact_limit = compact_limit;
  }

  pub opened_shaped : (config : Config) → IsShaped full_kind t.full.numbers → IsShaped compact_kind t.compact.numbers
      → t.full.numbers.taken ≡ 0 → t.compact.numbers.taken ≡ 0 → AreSound f c → AreNamesApart config
      → AreUnder config f c → full_kind.state f ≡ compact_kind.state c → AreShaped t
  opened_shaped config full_shaped compact_shaped full_taken compact_taken sound apart under equal = record {
    full = full_shaped;
    compact = compact_shaped;
    even = compact_taken ∙ sym full_taken;
    sound = with_both AreSound sound;
    apart = with_both (λ g d. AreApart (full_kind.names g) (compact_kind.names d)) (names_apart config f c apart under);
    equal = with_both (λ g d. full_kind.state g ≡ compact_kind.state d) equal;
  }

  pub opened_durable : (v : volume.State) → full_kind.is_synced f v × compact_kind.is_synced c v
      → full_kind.is_synced t.full.db v × compact_kind.is_synced t.compact.db v
  opened_durable v synced = with_both (λ g d. full_kind.is_synced g v × compact_kind.is_synced d v) synced

-- one state is one root
pub one_root : (t : Twins) (a : Answer) → full_kind.state t.full.db ≡ compact_kind.state t.compact.db
    → (reply_of t a).full_root ≡ (reply_of t a).compact_root
one_root t a equal = ap (λ d. d.root) equal

-- both stand after a call on the full database and one on the compact one
pub called_twins : (config : Config) (was mid is : volume.State) (old new : Twins) (s t : State Operation)
    → AreShaped old → GoOn old new → NamesCall (full_kind.names old.full.db) was mid
    → NamesCall (compact_kind.names old.compact.db) mid is → IsTwinsOf config (present was) old s
    → IsGoodState AnyList config.value_limit t
    → IsStateOf full_kind (present mid) new.full.db new.full.numbers t
    → (IsStateOf compact_kind (present mid) old.compact.db old.compact.numbers s
    → IsStateOf compact_kind (present is) new.compact.db new.compact.numbers t)
    → IsTwinsOf config (present is) new t
called_twins config was mid is old new s t shaped on first second of good full compact =
    both_stand old new config (present was) (present is) s t on of good
    (full_stays old shaped mid is second new.full.db on.full.names new.full.numbers t full)
    (compact (compact_waits old shaped was mid first s of.compact))

-- ---- a prune

-- what is pruned of a good state is good
pub pruned_good : (config : Config) (s : State Operation) (l : ℕ) → l ≤ floor_of meaning s.ops
    → IsGoodState AnyList config.value_limit s
    → IsGoodState AnyList config.value_limit (pruned config.log_blob config.witness_blob s l)
pruned_good config s l low good =
    let test = lt_false (floor_of meaning s.ops) l low in
    let next = pruned config.log_blob config.witness_blob s l in
    let done : prune config.log_blob config.witness_blob s l ≡ (answer.Pruned next.start, next) = rw test refl in
    subst (λ (o : Outcome). IsGoodState AnyList config.value_limit o.1) done (next_good config s (command.Prune l) good)

-- where nothing refuses it it is done
pub prune_unrefused : (log_blob witness_blob : ℕ) (s : State Operation) (l : ℕ) → None ≡ prune_refusal meaning s l
    → prune log_blob witness_blob s l
    ≡ (answer.Pruned (pruned log_blob witness_blob s l).start, pruned log_blob witness_blob s l)
prune_unrefused log_blob witness_blob s l none = ap (prune_unless log_blob witness_blob s l) (sym none)

-- and it is at most the floor
pub low_where : (l floor : ℕ) (r : Option Refusal) (why : Refusal) → (floor < l → r ≡ Some why) → r ≡ None
    → l ≤ floor
low_where l floor r why past none = elim (cases_lt floor l) [
  | inl lt ↦ absurd (let both = sym (past lt) ∙ none in cc)
  | inr le ↦ le
]

pub names_settled : (old new : Twins) → AreSettled old new → names_of new ≡ names_of old
names_settled old new settled =
    ap (λ (n : Names). joined n (compact_kind.names new.compact.db)) settled.full.names
    ∙ ap (λ (n : Names). joined (full_kind.names old.full.db) n) settled.compact.names

-- a call on the logs and maps of both is one on those of their configuration
pub called_config : (config : Config) (t : Twins) (a b : volume.State) → AreOf config t → NamesCall (names_of t) a b
    → NamesCall (twin_names config) a b
called_config config t a b of call =
    let full = ap (λ (n : Names). joined n (compact_kind.names t.compact.db)) of.under.full_names_are in
    let both = ap (λ (n : Names). joined (full_names config) n) of.under.compact_names_are in
    subst (λ (n : Names). NamesCall n a b) (full ∙ both) call

-- What calls on the two databases of a run, one after another, leave at each moment.
use Rattle.std.proofs.Common.{◌≡◌, ⊎_elim, ℕ, [], get_or, Ok, Err, refl, sym, subst, arith}
use Rattle.std.specs.Prelude.{Result}
use Rattle.volume_base.specs.Moments.{Image, LeftAt, NamesLeft, Between, Keeps, Turns, Steps, EachNow, present}
use Rattle.volume_base.specs.Names.{Names, NamesCall, joined}
use Rattle.volume_base.specs.Volume as volume
use Rattle.volume_base.specs.Volume.{PastStays}
use Rattle.volume_base.proofs.MomentLemmas.{past_same}
use Rattle.volume_base.proofs.NameLemmas.{names_of_image, names_beside, first_steps, second_steps, image_steps}
use Rattle.volume_base.proofs.TurnLemmas.{between_joins, between_weaker, turns_at_start, image_back, keeps_none, keeps_weaker, keeps_both, keeps_idle, keeps_joins, keeps_of_part, now_after, turned_after, steps_after, steps_at_start, steps_of_keeps, steps_of_turns, steps_then, steps_weaker}
use Rattle.log_model.specs.Machine.{State}
use Rattle.list_machine.specs.Config.{Config}
use Rattle.list_machine.specs.Operation.{Operation}
use Rattle.list_machine.specs.Step.{Outcome}
use Rattle.twin_batches.specs.Standing.{StandsNow, StepsTo, KeepsTo}
use Rattle.twin_databases.specs.CompactKind.{compact_kind}
use Rattle.twin_databases.specs.FullKind.{full_kind}
use Rattle.twin_run.specs.Standing.{Stands, TakesTo}
use Rattle.twin_run.specs.Twins.{AreShaped, AreOf}
use Rattle.twin_run.specs.declared.sides.Twins.{Twins}
use Rattle.twin_run.proofs.Beside.{apart_swapped}
use Rattle.twin_run.proofs.OneVolume.{FullPart, CompactPart, full_now, compact_now}

-- ---- one kind of what is left

module _ {A : Type 0} (left : volume.State → ℕ → A → Type 0) (P Q : A → Type 0) (a b : volume.State) where
  -- what turned to what has P too has it all along
  back_to : ((x : A) → Q x → P x) → Turns (left b) a.clock b.clock P Q → Between (left b) a.clock b.clock P
  back_to less turns = between_joins (left b) a.clock turns.turn b.clock P turns.first
      (between_weaker (left b) turns.turn b.clock Q P less turns.second)

  pub keeps_first : {T E : Type 0} (result : Result T E) → ((x : A) → Q x → P x) → Steps left P Q a b result
      → Keeps left P a b
  keeps_first (Ok x) less steps = record { past = steps.past; during = back_to less steps.ok }
  keeps_first (Err e) less steps =
      record { past = steps.past; during = ⊎_elim (λ during. during) (λ turns. back_to less turns) steps.err }

  -- and where what had P has Q too, that
  on_to : ((x : A) → P x → Q x) → Turns (left b) a.clock b.clock P Q → Between (left b) a.clock b.clock Q
  on_to more turns = between_joins (left b) a.clock turns.turn b.clock Q
      (between_weaker (left b) a.clock turns.turn P Q more turns.first) turns.second

  pub keeps_second : {T E : Type 0} (result : Result T E) → ((x : A) → P x → Q x) → Steps left P Q a b result
      → Keeps left Q a b
  keeps_second (Ok x) more steps = record { past = steps.past; during = on_to more steps.ok }
  keeps_second (Err e) more steps = record {
    past = steps.past;
    during = ⊎_elim (λ during. between_weaker (left b) a.clock b.clock P Q more during) (λ turns. on_to more turns)
        steps.err;
  }

  -- under another answer
  pub steps_ok : {S T E F : Type 0} (x : S) (y : T) → Steps {E = E} left P Q a b (Ok x)
      → Steps {E = F} left P Q a b (Ok y)
  steps_ok x y steps = record { past = steps.past; ok = steps.ok; err = tt }

  pub steps_err : {S T E F : Type 0} (e : E) (f : F) → Steps {T = S} left P Q a b (Err e)
      → Steps {T = T} left P Q a b (Err f)
  steps_err e f steps = record { past = steps.past; ok = tt; err = steps.err }

-- ---- a state, and the one after it

module _ (config : Config) (s next : State Operation) (a b : volume.State) where
  pub takes_ok : {S T E F : Type 0} (x : S) (y : T) → TakesTo {E = E} config s next a b (Ok x)
      → TakesTo {E = F} config s next a b (Ok y)
  takes_ok x y takes each = steps_ok LeftAt (Stands config s) (Stands config next) a b x y (takes each)

  pub takes_err : {S T E F : Type 0} (e : E) (f : F) → TakesTo {T = S} config s next a b (Err e)
      → TakesTo {T = T} config s next a b (Err f)
  takes_err e f takes each = steps_err LeftAt (Stands config s) (Stands config next) a b e f (takes each)

  module _ {T E : Type 0} (result : Result T E) where
    -- a volume that stays
    pub takes_idle : b.clock ≡ a.clock → PastStays a b
        → ((image : Image) → Stands config s image → Stands config next image) → TakesTo config s next a b result
    takes_idle clock past more each =
        let keeps = keeps_idle LeftAt image_back (Stands config s) a b clock past each in
        steps_at_start LeftAt (Stands config s) (Stands config next) a b result keeps
        (keeps_weaker LeftAt (Stands config s) (Stands config next) a b more keeps)

    -- what stands for the next state all along
    pub takes_at_start : (EachNow (Stands config s) a → Keeps LeftAt (Stands config next) a b)
        → TakesTo config s next a b result
    takes_at_start keep each =
        let keeps = keep each in
        steps_of_turns LeftAt (Stands config s) (Stands config next) a b result keeps.past
        (turns_at_start (LeftAt b) a.clock b.clock (Stands config s) (Stands config next) keeps.past.later
        (λ image at. each image (image_back a b keeps.past a.clock image (omega arith) at)) keeps.during)

    -- under the name of its command
    pub takes_named : (o : Outcome) → o.1 ≡ next → TakesTo config s next a b result
        → TakesTo config s o.1 a b result
    takes_named o e takes =
        subst (λ (t : State Operation). TakesTo config s t a b result) (sym e) takes

-- a volume that no call has touched
module _ (config : Config) (s next : State Operation) (a : volume.State) {T E : Type 0} where
  pub takes_here : (result : Result T E) → ((image : Image) → Stands config s image → Stands config next image)
      → TakesTo config s next a a result
  takes_here result more = takes_idle config s next a a result refl (past_same a) more

  -- where what was asked for was not done
  pub takes_nothing : (e : E) → TakesTo {T = T} config s next a a (Err e)
  takes_nothing e each = steps_of_keeps LeftAt (Stands config s) (Stands config next) a a (Err e) tt
      (keeps_none LeftAt (Stands config s) a each)

-- a call that failed, where what stands for the state to which it leads stands for the one before
pub takes_back : {S T E F : Type 0} (config : Config) (s mid next : State Operation) (a b : volume.State) (e : E)
    (f : F) → ((image : Image) → Stands config mid image → Stands config s image)
    → TakesTo {T = S} config s mid a b (Err e) → TakesTo {T = T} config s next a b (Err f)
takes_back config s mid next a b e f less takes each =
    steps_of_keeps LeftAt (Stands config s) (Stands config next) a b (Err f) tt
    (keeps_first LeftAt (Stands config s) (Stands config mid) a b (Err e) less (takes each))

-- ---- the parts of both databases

module _ (config : Config) (t : Twins) (shaped : AreShaped t) (of : AreOf config t) where
  abbrev pub Full : State Operation → Image → Type 0
  Full s image = full_kind.stands s t.full.db image

  abbrev pub Compact : State Operation → Image → Type 0
  Compact s image = compact_kind.stands s t.compact.db image

  abbrev pub FullLeft : volume.State → ℕ → Image → Type 0
  FullLeft = NamesLeft (full_kind.names t.full.db)

  abbrev pub CompactLeft : volume.State → ℕ → Image → Type 0
  CompactLeft = NamesLeft (compact_kind.names t.compact.db)

  abbrev pub FullCall : volume.State → volume.State → Type 0
  FullCall = NamesCall (full_kind.names t.full.db)

  abbrev pub CompactCall : volume.State → volume.State → Type 0
  CompactCall = NamesCall (compact_kind.names t.compact.db)

  -- what both parts of an image stand for, it does
  whole : (s : State Operation) (image : Image) → Full s image → Compact s image → Stands config s image
  whole s image full compact = record {
    full = subst (λ (n : Names). FullPart s (image.log (get_or n.logs 0 [])) (image.log (get_or n.logs 1 []))
        (image.map (get_or n.maps 0 []))) of.under.full_names_are full;
    compact = subst (λ (n : Names). CompactPart s (image.log (get_or n.logs 0 []))) of.under.compact_names_are
        compact;
  }

  module _ (s : State Operation) (a : volume.State) (now : LeftAt a a.clock (present a))
      (each : EachNow (Stands config s) a) where
    full_there : StandsNow full_kind s t.full.db a
    full_there = full_now config s a now each t.full.db of.under.full_names_are

    compact_there : StandsNow compact_kind s t.compact.db a
    compact_there = compact_now config s a now each t.compact.db of.under.compact_names_are

  -- ---- a call on one of both

  module _ (a b : volume.State) where
    both_keep : (s : State Operation) → Keeps FullLeft (Full s) a b → Keeps CompactLeft (Compact s) a b
        → Keeps LeftAt (Stands config s) a b
    both_keep s full compact = keeps_weaker LeftAt (λ image. Full s image × Compact s image) (Stands config s) a b
        (λ image both. whole s image both.0 both.1)
        (keeps_both LeftAt (Full s) (Compact s) a b
        (keeps_of_part LeftAt FullLeft (λ image. image) (names_of_image (full_kind.names t.full.db)) (Full s) a b full)
        (keeps_of_part LeftAt CompactLeft (λ image. image) (names_of_image (compact_kind.names t.compact.db))
        (Compact s) a b compact))

    -- the other stays
    compact_beside : (s : State Operation) → FullCall a b → StandsNow compact_kind s t.compact.db a
        → Keeps CompactLeft (Compact s) a b
    compact_beside s call has = names_beside (full_kind.names t.full.db) (compact_kind.names t.compact.db) (Compact s)
        a b call.images shaped.apart has

    full_beside : (s : State Operation) → CompactCall a b → StandsNow full_kind s t.full.db a
        → Keeps FullLeft (Full s) a b
    full_beside s call has = names_beside (compact_kind.names t.compact.db) (full_kind.names t.full.db) (Full s) a b
        call.images (apart_swapped (full_kind.names t.full.db) (compact_kind.names t.compact.db) shaped.apart) has

    module _ {T E : Type 0} (result : Result T E) where
      full_goes : (s next u : State Operation) → FullCall a b → StandsNow full_kind s t.full.db a
          → StandsNow compact_kind u t.compact.db a → StepsTo full_kind s next t.full.db a b result
          → Steps LeftAt (λ image. Full s image × Compact u image) (λ image. Full next image × Compact u image) a b
          result
      full_goes s next u call full compact steps =
          let names = full_kind.names t.full.db in
          let others = compact_kind.names t.compact.db in
          let both : (v : State Operation) → Image → Type 0 = λ v image. Full v image × Compact u image in
          image_steps (joined names others) others (both s)
          (both next) (Compact u) a b result
          (first_steps names others (Full s) (Full next) (Compact u) a b result call.images shaped.apart (steps full)
          compact)

      compact_goes : (s next u : State Operation) → CompactCall a b → StandsNow compact_kind s t.compact.db a
          → StandsNow full_kind u t.full.db a → StepsTo compact_kind s next t.compact.db a b result
          → Steps LeftAt (λ image. Compact s image × Full u image) (λ image. Compact next image × Full u image) a b
          result
      compact_goes s next u call compact full steps =
          let names = full_kind.names t.full.db in
          let others = compact_kind.names t.compact.db in
          let both : (v : State Operation) → Image → Type 0 = λ v image. Compact v image × Full u image in
          image_steps (joined names others) others (both s)
          (both next) (Full u) a b result
          (second_steps names others (Compact s) (Compact next) (Full u) a b result call.images
          (apart_swapped names others shaped.apart) (steps compact) full)

  -- ---- a command that makes durable

  module _ (s next : State Operation) (a b : volume.State) (now : LeftAt a a.clock (present a)) (call : FullCall a b)
      (less : (image : Image) → Full next image → Full s image) where
    -- the full one's call, whatever it answers
    kept_until : {T E : Type 0} (result : Result T E) → EachNow (Stands config s) a
        → StepsTo full_kind s next t.full.db a b result → Keeps LeftAt (Stands config s) a b
    kept_until result each steps = both_keep a b s
        (keeps_first FullLeft (Full s) (Full next) a b result less (steps (full_there s a now each)))
        (compact_beside a b s call (compact_there s a now each))

    pub store_stops : {S T E F : Type 0} (e : E) (f : F) → StepsTo full_kind {T = S} s next t.full.db a b (Err e)
        → TakesTo {T = T} config s next a b (Err f)
    store_stops e f steps each =
        steps_of_keeps LeftAt (Stands config s) (Stands config next) a b (Err f) tt (kept_until (Err e) each steps)

    -- and the compact one's behind it
    pub store_goes : {S T D E : Type 0} (x : S) (c : volume.State) (result : Result T E) → CompactCall b c
        → StepsTo full_kind {E = D} s next t.full.db a b (Ok x)
        → StepsTo compact_kind s next t.compact.db b c result → TakesTo config s next a c result
    store_goes x c result later first second each =
        let full = turned_after FullLeft (Full s) (Full next) a b (first (full_there s a now each)).ok in
        let compact = now_after CompactLeft (Compact s) a b (compact_beside a b s call (compact_there s a now each)) in
        steps_after LeftAt image_back (Stands config s) (Stands config next) a b c result
        (kept_until (Ok x) each first)
        (steps_weaker LeftAt (λ image. Compact s image × Full next image) (Stands config s)
        (λ image. Compact next image × Full next image) (Stands config next) b c result
        (λ image both. whole s image (less image both.1) both.0) (λ image both. whole next image both.1 both.0)
        (compact_goes b c result s next next later compact full second))

  -- ---- an apply

  module _ (s next : State Operation) (a b : volume.State) (now : LeftAt a a.clock (present a)) (call : FullCall a b)
      (longer : (image : Image) → Compact s image → Compact next image)
      (full : KeepsTo full_kind s next t.full.db a b) where
    applied_first : EachNow (Stands config s) a → Keeps LeftAt (Stands config next) a b
    applied_first each = both_keep a b next (full (full_there s a now each))
        (keeps_weaker CompactLeft (Compact s) (Compact next) a b longer
        (compact_beside a b s call (compact_there s a now each)))

    pub apply_stops : {T E : Type 0} (result : Result T E) → TakesTo config s next a b result
    apply_stops result = takes_at_start config s next a b result applied_first

    pub apply_goes : {T E : Type 0} (c : volume.State) (result : Result T E) → CompactCall b c
        → KeepsTo compact_kind s next t.compact.db b c → TakesTo config s next a c result
    apply_goes c result later second = takes_at_start config s next a c result (λ each.
        let there = now_after FullLeft (Full next) a b (full (full_there s a now each)) in
        let compact = now_after CompactLeft (Compact s) a b (compact_beside a b s call (compact_there s a now each)) in
        keeps_joins LeftAt image_back (Stands config next) a b c (applied_first each)
        (both_keep b c next (full_beside b c next later there) (second compact)))

  -- ---- a prune of a state of which all is durable

  module _ (s mid next : State Operation) (a b c : volume.State) (now : LeftAt b b.clock (present b))
      (call : FullCall b c) (less : (image : Image) → Stands config mid image → Stands config s image)
      (wider : (image : Image) → Compact mid image → Compact next image) where
    module _ {S D : Type 0} (x : S) (stored : TakesTo {E = D} config s mid a b (Ok x))
        (each : EachNow (Stands config s) a) where
      mid_now : EachNow (Stands config mid) b
      mid_now = turned_after LeftAt (Stands config s) (Stands config mid) a b (stored each).ok

      kept_before : Keeps LeftAt (Stands config s) a b
      kept_before = keeps_first LeftAt (Stands config s) (Stands config mid) a b (Ok x) less (stored each)

    -- the full one's call, whatever it answers, after the commit
    pub prune_goes : {S D T E : Type 0} (x : S) (result : Result T E) → TakesTo {E = D} config s mid a b (Ok x)
        → StepsTo full_kind mid next t.full.db b c result → TakesTo config s next a c result
    prune_goes x result stored full each =
        let there = mid_now x stored each in
        steps_after LeftAt image_back (Stands config s) (Stands config next) a b c result (kept_before x stored each)
        (steps_weaker LeftAt (λ image. Full mid image × Compact mid image) (Stands config s)
        (λ image. Full next image × Compact mid image) (Stands config next) b c result
        (λ image both. less image (whole mid image both.0 both.1))
        (λ image both. whole next image both.0 (wider image both.1))
        (full_goes b c result mid next mid call (full_there mid b now there) (compact_there mid b now there) full))

    -- and the compact one's behind it
    pub prune_ends : {S D R T E F : Type 0} (x : S) (y : R) (d : volume.State) (result : Result T F)
        → CompactCall c d → TakesTo {E = D} config s mid a b (Ok x)
        → StepsTo full_kind {E = E} mid next t.full.db b c (Ok y)
        → StepsTo compact_kind mid next t.compact.db c d result → TakesTo config s next a d result
    prune_ends x y d result later stored full compact each =
        let there = mid_now x stored each in
        let pruned = turned_after FullLeft (Full mid) (Full next) b c (full (full_there mid b now there)).ok in
        let waits = now_after CompactLeft (Compact mid) b c
        (compact_beside b c mid call (compact_there mid b now there)) in
        steps_then LeftAt image_back (Stands config s) (Stands config next) a c d y result
        (prune_goes x (Ok y) stored full each)
        (both_keep c d next (full_beside c d next later pruned)
        (keeps_second CompactLeft (Compact mid) (Compact next) c d result wider (compact waits)))

-- What is left over calls in sequence, where it keeps what it has and where it turns.
use Rattle.std.proofs.Common.{◌≡◌, ⊎_elim, inl, inr, ℕ, ◌≤◌, List, [], ◌∷◌, ◌++◌, Ok, Err, subst, arith, suc, refl, Some}
use Rattle.std.specs.Prelude.{Result, OnOk, slice_get}
use Rattle.std.proofs.lemmas.Bool.{cases_lt}
use Rattle.volume_base.specs.Log.{Log}
use Rattle.volume_base.specs.Volume.{State, Map, PastStays}
use Rattle.volume_base.specs.Moments.{Image, LeftAt, LogLeft, MapLeft, NamesLeft, Now, Between, Keeps, Turns, Steps, Covers}
use Rattle.volume_base.specs.Names.{Names, EachOf}
use Rattle.volume_base.proofs.MomentLemmas.{past_same, past_joins}

-- Moments of one volume.

module _ {A : Type 0} (left : ℕ → A → Type 0) where
  pub between_at : (t : ℕ) (P : A → Type 0) → ((x : A) → left t x → P x) → Between left t t P
  between_at t P has u x lo hi at = has x (subst (λ n. left n x) (let now : u ≡ t = omega (arith, lo, hi) in now) at)

  pub between_joins : (from mid to : ℕ) (P : A → Type 0) → Between left from mid P → Between left mid to P → Between left from to P
  between_joins from mid to P early late t x lo hi at = ⊎_elim (λ lt. early t x lo (omega (arith, lt)) at) (λ ge. late t x ge hi at) (cases_lt t mid)

  pub between_weaker : (from to : ℕ) (P Q : A → Type 0) → ((x : A) → P x → Q x) → Between left from to P → Between left from to Q
  between_weaker from to P Q weaker during t x lo hi at = weaker x (during t x lo hi at)

  pub between_within : (from from' to' to : ℕ) (P : A → Type 0) → from ≤ from' → to' ≤ to → Between left from to P → Between left from' to' P
  between_within from from' to' to P lower upper during t x lo hi at = during t x (omega (arith, lower, lo)) (omega (arith, upper, hi)) at

  pub between_both : (from to : ℕ) (P Q : A → Type 0) → Between left from to P → Between left from to Q → Between left from to (λ x. P x × Q x)
  between_both from to P Q one two t x lo hi at = (one t x lo hi at, two t x lo hi at)

  -- a turn between two runs, at the first moment, and at the last
  pub turns_between : (from mid to : ℕ) (P Q : A → Type 0) → from ≤ mid → mid ≤ to → Between left from mid P → Between left mid to Q → Turns left from to P Q
  turns_between from mid to P Q begun within first second = record { turn = mid; begun = begun; within = within; first = first; second = second }

  pub turns_at_start : (from to : ℕ) (P Q : A → Type 0) → from ≤ to → ((x : A) → left from x → P x) → Between left from to Q → Turns left from to P Q
  turns_at_start from to P Q le has during = turns_between from from to P Q (omega arith) le (between_at from P has) during

  pub turns_at_end : (from to : ℕ) (P Q : A → Type 0) → from ≤ to → Between left from to P → ((x : A) → left to x → Q x) → Turns left from to P Q
  turns_at_end from to P Q le during has = turns_between from to to P Q le (omega arith) during (between_at to Q has)

  -- a run before, or behind
  pub turns_after : (from mid to : ℕ) (P Q : A → Type 0) → from ≤ mid → Between left from mid P → Turns left mid to P Q → Turns left from to P Q
  turns_after from mid to P Q le during turns = let begun = turns.begun in
      turns_between from turns.turn to P Q (omega (arith, le, begun)) turns.within (between_joins from mid turns.turn P during turns.first) turns.second

  pub turns_before : (from mid to : ℕ) (P Q : A → Type 0) → mid ≤ to → Turns left from mid P Q → Between left mid to Q → Turns left from to P Q
  turns_before from mid to P Q le turns during = let within = turns.within in
      turns_between from turns.turn to P Q turns.begun (omega (arith, le, within)) turns.first (between_joins turns.turn mid to Q turns.second during)

  pub turns_weaker : (from to : ℕ) (P P' Q Q' : A → Type 0) → ((x : A) → P x → P' x) → ((x : A) → Q x → Q' x) → Turns left from to P Q → Turns left from to P' Q'
  turns_weaker from to P P' Q Q' first second turns =
      turns_between from turns.turn to P' Q' turns.begun turns.within (between_weaker from turns.turn P P' first turns.first) (between_weaker turns.turn to Q Q' second turns.second)

  -- beside what is so all along
  pub turns_beside : (from to : ℕ) (P Q R : A → Type 0) → Turns left from to P Q → Between left from to R → Turns left from to (λ x. P x × R x) (λ x. Q x × R x)
  turns_beside from to P Q R turns during =
      let begun = turns.begun in
      let within = turns.within in
      turns_between from turns.turn to (λ x. P x × R x) (λ x. Q x × R x) begun within
      (between_both from turns.turn P R turns.first (between_within from from turns.turn to R (omega arith) within during))
      (between_both turns.turn to Q R turns.second (between_within from turns.turn to to R begun (omega arith) during))

  -- at its end it has turned
  pub turned_now : (from to : ℕ) (P Q : A → Type 0) → Turns left from to P Q → (x : A) → left to x → Q x
  turned_now from to P Q turns x at = turns.second to x turns.within (omega arith) at

  -- a run of states, continued by a step that turns, or by a run over which nothing turns
  module _ {M : Type 0} (stands : M → A → Type 0) where
    pub covers_step : (from mid to : ℕ) (states : List M) (s next : M) → mid ≤ to → Covers left stands from mid (states ++ (s ∷ [])) → Turns left mid to (stands s) (stands next) → Covers left stands from to (states ++ (s ∷ next ∷ []))
    covers_step from mid to [] s next le h turns =
        let up = h.0 in
        let begun = turns.begun in
        (turns.turn, omega (arith, up, begun), turns.within, between_joins from mid turns.turn (stands s) h.1 turns.first, (turns.within, turns.second))
    covers_step from mid to (x ∷ []) s next le h turns = (h.0, h.1, (let within = h.2 in omega (arith, within, le)), h.3, covers_step h.0 mid to [] s next le h.4 turns)
    covers_step from mid to (x ∷ y ∷ states) s next le h turns = (h.0, h.1, (let within = h.2 in omega (arith, within, le)), h.3, covers_step h.0 mid to (y ∷ states) s next le h.4 turns)

    pub covers_more : (from mid to : ℕ) (states : List M) (s : M) → mid ≤ to → Covers left stands from mid (states ++ (s ∷ [])) → Between left mid to (stands s) → Covers left stands from to (states ++ (s ∷ []))
    covers_more from mid to [] s le h more = ((let up = h.0 in omega (arith, up, le)), between_joins from mid to (stands s) h.1 more)
    covers_more from mid to (x ∷ []) s le h more = (h.0, h.1, (let within = h.2 in omega (arith, within, le)), h.3, covers_more h.0 mid to [] s le h.4 more)
    covers_more from mid to (x ∷ y ∷ states) s le h more = (h.0, h.1, (let within = h.2 in omega (arith, within, le)), h.3, covers_more h.0 mid to (y ∷ states) s le h.4 more)

    -- at its end it stands at its last state
    pub covers_last : (from to : ℕ) (states : List M) (s : M) → Covers left stands from to (states ++ (s ∷ [])) → (x : A) → left to x → stands s x
    covers_last from to [] s h x at = h.1 to x h.0 (omega arith) at
    covers_last from to (y ∷ []) s h x at = covers_last h.0 to [] s h.4 x at
    covers_last from to (y ∷ z ∷ states) s h x at = covers_last h.0 to (z ∷ states) s h.4 x at

    -- Of two moments the later isn't in an earlier state: what is left at them stands for two of the states, in this order.
    abbrev pub StandsAt : List M → ℕ → ℕ → Type 0
    StandsAt states t i = (s : M) × (slice_get states i ≡ Some s) × ((x : A) → left t x → stands s x)

    later_state : (states : List M) (s : M) (t i : ℕ) → StandsAt states t i → StandsAt (s ∷ states) t (suc i)
    later_state states s t i at = (at.0, at.1, at.2)

    pub covers_at : (from to : ℕ) (states : List M) (t : ℕ) → from ≤ t → t ≤ to → Covers left stands from to states → (i : ℕ) × StandsAt states t i
    covers_at from to [] t lo hi h = absurd h
    covers_at from to (s ∷ []) t lo hi h = (0, (s, refl, λ x at. h.1 t x lo hi at))
    covers_at from to (s ∷ next ∷ rest) t lo hi h = ⊎_elim
        (λ past. let behind = covers_at h.0 to (next ∷ rest) t (omega (arith, past)) hi h.4 in (suc behind.0, later_state (next ∷ rest) s t behind.0 behind.1))
        (λ before. (0, (s, refl, λ x at. h.3 t x lo before at)))
        (cases_lt h.0 t)

    pub covers_order : (from to : ℕ) (states : List M) (one two : ℕ) → from ≤ one → one ≤ two → two ≤ to → Covers left stands from to states → (i j : ℕ) × (i ≤ j) × StandsAt states one i × StandsAt states two j
    covers_order from to [] one two lo le hi h = absurd h
    covers_order from to (s ∷ []) one two lo le hi h = (0, 0, omega arith, (s, refl, λ x at. h.1 one x lo (omega (arith, le, hi)) at), (s, refl, λ x at. h.1 two x (omega (arith, lo, le)) hi at))
    covers_order from to (s ∷ next ∷ rest) one two lo le hi h = ⊎_elim
        (λ past. let behind = covers_order h.0 to (next ∷ rest) one two (omega (arith, past)) le hi h.4 in
        (suc behind.0, suc behind.1, (let below = behind.2 in omega (arith, below)), later_state (next ∷ rest) s one behind.0 behind.3, later_state (next ∷ rest) s two behind.1 behind.4))
        (λ before. let behind = covers_at from to (s ∷ next ∷ rest) two (omega (arith, lo, le)) hi h in (0, behind.0, omega arith, (s, refl, λ x at. h.3 one x lo before at), behind.1))
        (cases_lt h.0 one)

-- What is left of one thing is left of a part of it: a log or map among names, names among more names, and names of a volume.
module _ {A B : Type 0} (whole : ℕ → A → Type 0) (part : ℕ → B → Type 0) (of : A → B) (is_part : (t : ℕ) (x : A) → whole t x → part t (of x)) where
  pub between_of_part : (from to : ℕ) (P : B → Type 0) → Between part from to P → Between whole from to (λ x. P (of x))
  between_of_part from to P during t x lo hi at = during t (of x) lo hi (is_part t x at)

  pub turns_of_part : (from to : ℕ) (P Q : B → Type 0) → Turns part from to P Q → Turns whole from to (λ x. P (of x)) (λ x. Q (of x))
  turns_of_part from to P Q turns = record {
    turn = turns.turn;
    begun = turns.begun;
    within = turns.within;
    first = between_of_part from turns.turn P turns.first;
    second = between_of_part turns.turn to Q turns.second;
  }

-- Moments up to one at which two volumes have the same left.
module _ {A : Type 0} (early late : ℕ → A → Type 0) (last : ℕ) (back : (t : ℕ) (x : A) → t ≤ last → late t x → early t x) where
  pub between_later : (from to : ℕ) (P : A → Type 0) → to ≤ last → Between early from to P → Between late from to P
  between_later from to P le during t x lo hi at = during t x lo hi (back t x (omega (arith, hi, le)) at)

  pub turns_later : (from to : ℕ) (P Q : A → Type 0) → to ≤ last → Turns early from to P Q → Turns late from to P Q
  turns_later from to P Q le turns = let within = turns.within in record {
    turn = turns.turn;
    begun = turns.begun;
    within = within;
    first = between_later from turns.turn P (omega (arith, within, le)) turns.first;
    second = between_later turns.turn to Q le turns.second;
  }

  pub covers_later : {M : Type 0} (stands : M → A → Type 0) (from to : ℕ) (states : List M) → to ≤ last → Covers early stands from to states → Covers late stands from to states
  covers_later stands from to [] le h = absurd h
  covers_later stands from to (s ∷ []) le h = (h.0, between_later from to (stands s) le h.1)
  covers_later stands from to (s ∷ next ∷ rest) le h =
      (h.0, h.1, h.2, between_later from h.0 (stands s) (let within = h.2 in omega (arith, within, le)) h.3, covers_later stands h.0 to (next ∷ rest) le h.4)

-- What was left at a moment of the past: of a log, a map, names, and the whole volume.
pub log_back : (name : List ℕ) (a b : State) → PastStays a b → (t : ℕ) (log : Log) → t ≤ a.clock → LogLeft name b t log → LogLeft name a t log
log_back name a b past t log le at = (past.logs t name log le).0 at

pub map_back : (name : List ℕ) (a b : State) → PastStays a b → (t : ℕ) (m : Map) → t ≤ a.clock → MapLeft name b t m → MapLeft name a t m
map_back name a b past t m le at = (past.maps t name m le).0 at

pub image_back : (a b : State) → PastStays a b → (t : ℕ) (image : Image) → t ≤ a.clock → LeftAt b t image → LeftAt a t image
image_back a b past t image le at = record { logs = λ name. log_back name a b past t (image.log name) le (at.logs name); maps = λ name. map_back name a b past t (image.map name) le (at.maps name) }

pub each_of_weaker : (P Q : List ℕ → Type 0) (names : List (List ℕ)) → ((name : List ℕ) → P name → Q name) → EachOf P names → EachOf Q names
each_of_weaker P Q [] weaker all = tt
each_of_weaker P Q (name ∷ names) weaker all = (weaker name all.0, each_of_weaker P Q names weaker all.1)

pub names_back : (names : Names) (a b : State) → PastStays a b → (t : ℕ) (image : Image) → t ≤ a.clock → NamesLeft names b t image → NamesLeft names a t image
names_back names a b past t image le at = record {
  logs = each_of_weaker (λ name. b.log_left t name (image.log name)) (λ name. a.log_left t name (image.log name)) names.logs (λ name. log_back name a b past t (image.log name) le) at.logs;
  maps = each_of_weaker (λ name. b.map_left t name (image.map name)) (λ name. a.map_left t name (image.map name)) names.maps (λ name. map_back name a b past t (image.map name) le) at.maps;
}

-- Calls in sequence. What `back` says, the four lemmas above say of each kind.
module _ {A : Type 0} (left : State → ℕ → A → Type 0) where
  pub keeps_none : (P : A → Type 0) (s : State) → Now left P s → Keeps left P s s
  keeps_none P s has = record { past = past_same s; during = between_at (left s) s.clock P has }

  pub keeps_weaker : (P Q : A → Type 0) (a b : State) → ((x : A) → P x → Q x) → Keeps left P a b → Keeps left Q a b
  keeps_weaker P Q a b weaker keeps = record { past = keeps.past; during = between_weaker (left b) a.clock b.clock P Q weaker keeps.during }

  pub keeps_both : (P Q : A → Type 0) (a b : State) → Keeps left P a b → Keeps left Q a b → Keeps left (λ x. P x × Q x) a b
  keeps_both P Q a b one two = record { past = one.past; during = between_both (left b) a.clock b.clock P Q one.during two.during }

  -- and so it has at the end
  pub now_after : (P : A → Type 0) (a b : State) → Keeps left P a b → Now left P b
  now_after P a b keeps x at = keeps.during b.clock x keeps.past.later (omega arith) at

  pub turned_after : (P Q : A → Type 0) (a b : State) → Turns (left b) a.clock b.clock P Q → Now left Q b
  turned_after P Q a b turns = turned_now (left b) a.clock b.clock P Q turns

  -- a call that has kept the one all along, or has turned to the other
  pub steps_of_keeps : {T E : Type 0} (P Q : A → Type 0) (a b : State) (result : Result T E) → OnOk result ⊥ → Keeps left P a b → Steps left P Q a b result
  steps_of_keeps P Q a b (Ok answer) failed keeps = absurd failed
  steps_of_keeps P Q a b (Err error) failed keeps = record { past = keeps.past; ok = tt; err = inl keeps.during }

  pub steps_of_turns : {T E : Type 0} (P Q : A → Type 0) (a b : State) (result : Result T E) → PastStays a b → Turns (left b) a.clock b.clock P Q → Steps left P Q a b result
  steps_of_turns P Q a b (Ok answer) past turns = record { past = past; ok = turns; err = tt }
  steps_of_turns P Q a b (Err error) past turns = record { past = past; ok = tt; err = inr turns }

  pub steps_at_start : {T E : Type 0} (P Q : A → Type 0) (a b : State) (result : Result T E) → Keeps left P a b → Keeps left Q a b → Steps left P Q a b result
  steps_at_start P Q a b result was is = steps_of_turns P Q a b result is.past (turns_at_start (left b) a.clock b.clock P Q is.past.later (λ x at. was.during a.clock x (omega arith) is.past.later at) is.during)

  pub steps_at_end : {T E : Type 0} (P Q : A → Type 0) (a b : State) (result : Result T E) → Keeps left P a b → OnOk result (Now left Q b) → Steps left P Q a b result
  steps_at_end P Q a b (Ok answer) keeps has = steps_of_turns P Q a b (Ok answer) keeps.past (turns_at_end (left b) a.clock b.clock P Q keeps.past.later keeps.during has)
  steps_at_end P Q a b (Err error) keeps has = steps_of_keeps P Q a b (Err error) tt keeps

  pub steps_weaker : {T E : Type 0} (P P' Q Q' : A → Type 0) (a b : State) (result : Result T E) → ((x : A) → P x → P' x) → ((x : A) → Q x → Q' x) → Steps left P Q a b result → Steps left P' Q' a b result
  steps_weaker P P' Q Q' a b (Ok answer) first second steps = record { past = steps.past; ok = turns_weaker (left b) a.clock b.clock P P' Q Q' first second steps.ok; err = tt }
  steps_weaker P P' Q Q' a b (Err error) first second steps = record {
    past = steps.past;
    ok = tt;
    err = ⊎_elim (λ during. inl (between_weaker (left b) a.clock b.clock P P' first during)) (λ turns. inr (turns_weaker (left b) a.clock b.clock P P' Q Q' first second turns)) steps.err;
  }

  -- beside what is so all along
  pub steps_beside : {T E : Type 0} (P Q R : A → Type 0) (a b : State) (result : Result T E) → Steps left P Q a b result → Keeps left R a b → Steps left (λ x. P x × R x) (λ x. Q x × R x) a b result
  steps_beside P Q R a b (Ok answer) steps keeps = record { past = steps.past; ok = turns_beside (left b) a.clock b.clock P Q R steps.ok keeps.during; err = tt }
  steps_beside P Q R a b (Err error) steps keeps = record {
    past = steps.past;
    ok = tt;
    err = ⊎_elim (λ during. inl (between_both (left b) a.clock b.clock P R during keeps.during)) (λ turns. inr (turns_beside (left b) a.clock b.clock P Q R turns keeps.during)) steps.err;
  }

  module _ (back : (a b : State) → PastStays a b → (t : ℕ) (x : A) → t ≤ a.clock → left b t x → left a t x) where
    pub keeps_joins : (P : A → Type 0) (a b c : State) → Keeps left P a b → Keeps left P b c → Keeps left P a c
    keeps_joins P a b c ab bc = record {
      past = past_joins a b c ab.past bc.past;
      during = between_joins (left c) a.clock b.clock c.clock P (between_later (left b) (left c) b.clock (back b c bc.past) a.clock b.clock P (omega arith) ab.during) bc.during;
    }

    -- calls that left the clock
    pub keeps_idle : (P : A → Type 0) (a b : State) → b.clock ≡ a.clock → PastStays a b → Now left P a → Keeps left P a b
    keeps_idle P a b clock past has = record {
      past = past;
      during = λ t x lo hi at. has x (back a b past a.clock x (omega arith) (subst (λ n. left b n x) (let now : t ≡ a.clock = omega (arith, lo, hi, clock) in now) at));
    }

    before : (P : A → Type 0) (a b c : State) → Keeps left P a b → PastStays b c → Between (left c) a.clock b.clock P
    before P a b c keeps past = between_later (left b) (left c) b.clock (back b c past) a.clock b.clock P (omega arith) keeps.during

    -- calls that keep the one, and then a call that turns
    pub steps_after : {T E : Type 0} (P Q : A → Type 0) (a b c : State) (result : Result T E) → Keeps left P a b → Steps left P Q b c result → Steps left P Q a c result
    steps_after P Q a b c (Ok answer) keeps steps = record {
      past = past_joins a b c keeps.past steps.past;
      ok = turns_after (left c) a.clock b.clock c.clock P Q keeps.past.later (before P a b c keeps steps.past) steps.ok;
      err = tt;
    }
    steps_after P Q a b c (Err error) keeps steps = record {
      past = past_joins a b c keeps.past steps.past;
      ok = tt;
      err = ⊎_elim
          (λ during. inl (between_joins (left c) a.clock b.clock c.clock P (before P a b c keeps steps.past) during))
          (λ turns. inr (turns_after (left c) a.clock b.clock c.clock P Q keeps.past.later (before P a b c keeps steps.past) turns))
          steps.err;
    }

    -- a call that turned, and then calls that keep the other, whatever they answer
    pub turns_then : (P Q : A → Type 0) (a b c : State) → Turns (left b) a.clock b.clock P Q → Keeps left Q b c → Turns (left c) a.clock c.clock P Q
    turns_then P Q a b c turns keeps =
        turns_before (left c) a.clock b.clock c.clock P Q keeps.past.later (turns_later (left b) (left c) b.clock (back b c keeps.past) a.clock b.clock P Q (omega arith) turns) keeps.during

    pub steps_then : {S T E F : Type 0} (P Q : A → Type 0) (a b c : State) (answer : S) (result : Result T F) → Steps {E = E} left P Q a b (Ok answer) → Keeps left Q b c → Steps left P Q a c result
    steps_then P Q a b c answer result steps keeps = steps_of_turns P Q a c result (past_joins a b c steps.past keeps.past) (turns_then P Q a b c steps.ok keeps)

    -- a turn between two runs of calls
    pub turns_at : (P Q : A → Type 0) (a b c : State) → Keeps left P a b → Keeps left Q b c → Turns (left c) a.clock c.clock P Q
    turns_at P Q a b c was is = turns_between (left c) a.clock b.clock c.clock P Q was.past.later is.past.later (before P a b c was is.past) is.during

-- Calls that speak of a part, in what they say of the whole.
module _ {A B : Type 0} (whole : State → ℕ → A → Type 0) (part : State → ℕ → B → Type 0) (of : A → B) (is_part : (s : State) (t : ℕ) (x : A) → whole s t x → part s t (of x)) where
  pub keeps_of_part : (P : B → Type 0) (a b : State) → Keeps part P a b → Keeps whole (λ x. P (of x)) a b
  keeps_of_part P a b keeps = record { past = keeps.past; during = between_of_part (whole b) (part b) of (is_part b) a.clock b.clock P keeps.during }

  pub steps_of_part : {T E : Type 0} (P Q : B → Type 0) (a b : State) (result : Result T E) → Steps part P Q a b result → Steps whole (λ x. P (of x)) (λ x. Q (of x)) a b result
  steps_of_part P Q a b (Ok answer) steps = record { past = steps.past; ok = turns_of_part (whole b) (part b) of (is_part b) a.clock b.clock P Q steps.ok; err = tt }
  steps_of_part P Q a b (Err error) steps = record {
    past = steps.past;
    ok = tt;
    err = ⊎_elim (λ during. inl (between_of_part (whole b) (part b) of (is_part b) a.clock b.clock P during)) (λ turns. inr (turns_of_part (whole b) (part b) of (is_part b) a.clock b.clock P Q turns)) steps.err;
  }

-- How a database begins in an empty log, from call to call.
use Rattle.std.proofs.Common.{◌≡◌, ◌⊎◌, inl, inr, ℕ, zero, suc, ◌-◌, ◌<◌, ◌≤◌, max, false, List, [], ◌∷◌, ◌++◌, length, map, take, reverse, Option, refl, sym, ◌∙◌, ap, subst, arith}
use Rattle.std.specs.Prelude.{Result, Ok, Err}
use Rattle.std.proofs.lemmas.Nat.{pow_pos}
use Rattle.std.proofs.lemmas.List.{drop_all}
use Rattle.codec_base.specs.declared.error.CodecError.{CodecError}
use Rattle.journal_base.specs.Answers.{IsOfVolume, IsOfStart, IsOfSize}
use Rattle.journal_base.specs.Items.{Items}
use Rattle.journal_base.specs.View.{View, SameButBounds, IsHeld, IsDurable, log_of}
use Rattle.volume_base.specs.Log.{Log, end_of, no_log, appended, pruned_to, cut_to, Grows, Shrinks}
use Rattle.volume_base.specs.Moments.{LogHas, LogKeeps}
use Rattle.volume_base.specs.Names.{log_alone, NamesCall}
use Rattle.volume_base.specs.Volume.{State, LogCall, Writes}
use Rattle.volume_base.specs.declared.error.JournalError.{JournalError}
use Rattle.volume_base.specs.declared.error.JournalError.TheVariants as journal_error
use Rattle.volume_base.proofs.CallLemmas.{log_call_wider, log_call_joins, names_call_log}
use Rattle.volume_base.proofs.JoinLemmas.{changes_of_writes}
use Rattle.volume_base.proofs.MomentLemmas.{past_same}
use Rattle.volume_base.proofs.StepLemmas.{log_is, cut_to_past}
use Rattle.tree_shape.specs.Hashing.{Hashing}
use Rattle.tree_shape.specs.Shape.{Shape, IsLawful, PeaksStand, peaks, peaks_down}
use Rattle.tree_core.specs.Tree.{Tree}
use Rattle.log_model.specs.Meaning.{Meaning}
use Rattle.chain_core.specs.Errors.{from_journal}
use Rattle.chain_core.specs.declared.error.Error.{Error}
use Rattle.chain_core.specs.declared.error.Error.TheVariants.{Volume, Memory}
use Rattle.witness_store.specs.StoreView.{StoreView, HasWitnesses, IsRestarted}
use Rattle.witness_store.specs.Witness.{text_of}
use Rattle.witness_store.specs.Witnesses.{Keeps}
use Rattle.witness_store.specs.declared.witness.Witness.{Witness}
use Rattle.compact_db.specs.DbView.{DbView}
use Rattle.compact_db.specs.Held.{HasStates}
use Rattle.compact_db.specs.Opening.{IsLatest, witnesses_in, IsOpeningFault, WhyNotOpened, IsFirstCommit, BeginsWith, Begins, Opens}
use Rattle.compact_db.specs.StateOf.{IsStateOf}
use Rattle.compact_db.specs.WitnessOf.{witness_of}
use Rattle.chain_core.specs.Answers.{IsOutside}
use Rattle.compact_db.specs.declared.database.WitnessLog.TheVariants.{Open}
use Rattle.compact_db.specs.declared.verified.VerifiedWitness.{VerifiedWitness}
use Rattle.compact_db.proofs.HeldLemmas.{last_witness, begun_held}
use Rattle.compact_db.proofs.OpenLemmas.{read_or_size}
use Rattle.compact_db.proofs.SettleLemmas.{outside_is, changes_passed, changes_none}
use Rattle.compact_db.proofs.StartLemmas.{latest_some, opens_not}

-- ---- no leaves

none_stand : (s : Shape) (cs : List (ℕ × ℕ)) (hs : List ℕ) → PeaksStand s cs 0 hs → hs ≡ []
none_stand s cs [] stand = refl
none_stand s cs (k ∷ ks) stand = let low = stand.0 in let some = pow_pos k in absurd (omega (arith, low, some))

pub no_heights : (s : Shape) → IsLawful s → s.heights 0 ≡ []
no_heights s lawful = none_stand s _ (s.heights 0) (lawful.peaks 0)

pub no_peaks : (s : Shape) → IsLawful s → peaks s 0 ≡ []
no_peaks s lawful = ap (λ (hs : List ℕ). reverse (peaks_down 0 hs)) (no_heights s lawful)

-- ---- images

pub shrinks_begins : (end : ℕ) (text : List ℕ) (old new : Log) → Shrinks end old new → BeginsWith text old new
shrinks_begins end text old new (to, le, is) = inl (to, omega arith, is)

one_behind : (count : ℕ) (text : List ℕ) (new : Log) → new ≡ appended no_log (take count (text ∷ [])) → IsRestarted 0 text new
one_behind zero text new is = inl is
one_behind (suc zero) text new is = inr is
one_behind (suc (suc count)) text new is = inr is

still_none : (start : ℕ) → start ≤ 0 → pruned_to no_log start ≡ no_log
still_none start le =
    let same : max 0 start ≡ 0 = omega (arith, le) in
    log_is (pruned_to no_log start) no_log same (drop_all (start - 0) [] (omega arith))

grows_begins : (end : ℕ) (text : List ℕ) (old mid new : Log) → Shrinks end old mid → Grows no_log (text ∷ []) mid new → BeginsWith text old new
grows_begins end text old mid new first (inl same) = subst (λ (l : Log). BeginsWith text old l) (sym same) (shrinks_begins end text old mid first)
grows_begins end text old mid new first (inr (start, count, le, back, is)) =
    let none : mid ≡ no_log = back ∙ still_none start (omega (arith, le)) in
    inr (one_behind count text new (is ∙ ap (λ (l : Log). appended l (take count (text ∷ []))) none))

pub begin_call : (name : List ℕ) (end : ℕ) (text : List ℕ) (a b c : State) → LogCall name (Shrinks end) a b → b.log name ≡ no_log → LogCall name (Grows (b.log name) (text ∷ [])) b c → LogCall name (BeginsWith text) a c
begin_call name end text a b c first none grown =
    log_call_joins name (Shrinks end) (Grows no_log (text ∷ [])) (BeginsWith text) a b c first (subst (λ (l : Log). LogCall name (Grows l (text ∷ [])) b c) none grown)
    (shrinks_begins end text) (grows_begins end text)

pub none_cut : (log cut : Log) → log ≡ no_log → cut ≡ cut_to log 0 → cut ≡ no_log
none_cut log cut none is = is ∙ ap (λ (l : Log). cut_to l 0) none ∙ cut_to_past no_log 0 (omega arith)

-- ---- the database of the first commit

-- want of memory
pub memory_not : {F : Type 0} (e : Error F) → e ≡ Memory → e ≡ Volume → ⊥
memory_not {F} e memory is =
    let v : Error F = Volume in
    let both : v ≡ Memory = sym is ∙ memory in
    absurd cc

pub memory_out : {F : Type 0} (e : Error F) → e ≡ Memory → IsOutside e
memory_out {F} e memory = subst (λ (x : Error F). IsOutside x) (sym memory) tt

kept_alone : {A : Type 0} (P : List A → Type 0) (x : A) → P (x ∷ []) → (xs : List A) → length xs ≡ 0 → P (xs ++ (x ∷ []))
kept_alone P x is [] none = is
kept_alone P x is (y ∷ ys) none = absurd (omega (arith, none))

module _ (F Cfg : Type 0) {D Op V : Type 0} (s : Shape) (h : Hashing D) (m : Meaning Op V) (spelling : D → List ℕ) (admits : D → Type 0)
    (decoded : List ℕ → Result Op CodecError) (allowed : Op → Type 0) (view : View (Unit {0})) (cap : Option ℕ) (tells : Type 0) where
  abbrev kept : State → Items (Witness F D)
  kept state = witnesses_in spelling admits (log_of view state)

  abbrev Here : State → State → Result (DbView F D Op Cfg) (Error F) → Type 0
  Here old new r = Opens s h m spelling admits decoded allowed view cap tells old new r

  -- nothing is called
  pub uncalled : (e : Error F) (a : State) → (e ≡ Volume → ⊥) → (tells → WhyNotOpened s m decoded (kept a) cap e) → IsOpeningFault D s m decoded cap e → Here a a (Err e)
  uncalled e a never why fault =
      let r : Result (DbView F D Op Cfg) (Error F) = Err e in
      opens_not F Cfg s h m spelling admits decoded allowed view cap tells e a a refl (λ told. past_same a) (λ told. record { logs = λ n. refl; maps = λ n. refl })
      (changes_none tells a r (λ is. never cc)) why fault

  module _ (lawful : IsLawful s) (op : Op) (commits : IsFirstCommit m op) (tip : VerifiedWitness F D) (tree : Tree D) (is : IsStateOf s h m (op ∷ []) tip tree op) (a b : State)
      (empty : tells → log_of view a ≡ no_log) (call : tells → LogCall view.name (BeginsWith (text_of spelling tip.witness)) a b) where
    witness_is : tip.witness ≡ witness_of s h m (op ∷ []) 1
    witness_is = last_witness s h m lawful (op ∷ []) tip tree op is

    begins_call : tells → LogCall view.name (Begins F s h m spelling) a b
    begins_call told = log_call_wider view.name (BeginsWith (text_of spelling tip.witness)) (Begins F s h m spelling) a b (call told)
        (λ old new step. inr (op, commits, subst (λ (w : Witness F D). BeginsWith (text_of spelling w) old new) witness_is step))

    begins_names : tells → NamesCall (log_alone view.name) a b
    begins_names told = names_call_log (log_alone view.name) view.name (BeginsWith (text_of spelling tip.witness)) a b (inl refl) (call told)

    never_some : {X : Type 0} → tells → 0 < length (log_of view a).items → X
    never_some told some = let none = ap (λ (l : Log). length l.items) (empty told) in absurd (omega (arith, some, none))

    begins_images : tells → (ops : List Op) (sizes : List ℕ) (count size greatest least : ℕ) → HasStates {F = F} s h m ops (take (end_of (log_of view a)) sizes) (kept a)
        → IsLatest (take (end_of (log_of view a)) sizes) (log_of view a).start cap count size → least ≤ count → LogHas a view.name (HasWitnesses spelling (map (witness_of {F = F} s h m ops) sizes) greatest least)
        → LogKeeps view.name (HasWitnesses spelling (map (witness_of {F = F} s h m ops) sizes) greatest least) a b
    begins_images told ops sizes count size greatest least states latest le has = never_some told (latest_some s h m (kept a) ops (take (end_of (log_of view a)) sizes) cap count size states latest)

    -- the log doesn't get it
    pub begins_not : {T : Type 0} (j : JournalError) → (tells → IsOfVolume j) → IsOfStart j ⊎ IsOfSize j → Writes {T = T} tells journal_error.Volume a b (Err j) → Here a b (Err (from_journal j))
    begins_not {T} j of any writes =
        let r : Result (DbView F D Op Cfg) (Error F) = Err (from_journal j) in
        let one : Result T JournalError = Err j in
        record {
          log = tt;
          contents = λ told. record {
            tip = tt;
            begun = tt;
            resumed = tt;
            held = tt;
            refused = inl (outside_is F j (of told));
            damaged = λ ops sizes count size states latest. inl (outside_is F j (of told));
          };
          unwritten = λ told. inl (outside_is F j (of told));
          names = begins_names;
          images = begins_images;
          first = λ told none. begins_call told;
          errors = inr (inr (inr (inl (j, read_or_size j any, refl))));
          changes = changes_passed tells a b one r refl (changes_of_writes tells journal_error.Volume a b one writes);
        }

    -- it has it alone
    pub begins : (store : StoreView) (codec : Cfg) → SameButBounds view store.log × (store.uncommitted ≡ false) → (tells → IsHeld store.log b)
        → (tells → log_of view b ≡ appended no_log (text_of spelling tip.witness ∷ [])) → (tells → Keeps (kept b) (tip.witness ∷ [])) → (tells → IsDurable view b)
        → Writes tells journal_error.Volume a b (let r : Result StoreView JournalError = Ok store in r)
        → Here a b (Ok (record { log = Open store; tip = tip; tree = tree; commit = op; codec = codec }))
    begins store codec made held written keeps durable writes =
        let db : DbView F D Op Cfg = record { log = Open store; tip = tip; tree = tree; commit = op; codec = codec } in
        let r : Result (DbView F D Op Cfg) (Error F) = Ok db in
        let one : Result StoreView JournalError = Ok store in
        record {
          log = record {
            opened = refl;
            committed = made.1;
            same = made.0;
            held = held;
            durable = durable;
          };
          contents = λ told. record {
            tip = λ none. ap (λ (l : Log). l.start) (empty told);
            begun = λ none. (
              commits,
              begun_held s h m lawful spelling admits db b view (ap (λ (v : View (Unit {0})). v.name) made.0) refl (held told) (op ∷ []) 0 is
                  (ap (λ (l : Log). l.start) (written told)) (kept_alone (Keeps (kept b)) tip.witness (keeps told)),
            );
            resumed = λ some. never_some told some;
            held = λ ops sizes count size states latest all. never_some told (latest_some s h m (kept a) ops sizes cap count size states latest);
            refused = tt;
            damaged = λ ops sizes count size states latest. tt;
          };
          unwritten = λ told. tt;
          names = begins_names;
          images = begins_images;
          first = λ told none. begins_call told;
          errors = tt;
          changes = changes_passed tells a b one r tt (changes_of_writes tells journal_error.Volume a b one writes);
        }

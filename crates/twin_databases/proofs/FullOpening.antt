-- What an opening of the full database gives the run.
use Rattle.std.proofs.Common.{◌≡◌, ◌⊎◌, inl, inr, ℕ, zero, suc, ◌<◌, ◌≤◌, ◌^◌, List, [], ◌∷◌, ◌++◌, length, take, Option, Some, None, refl, sym, ◌∙◌, ap, subst, arith}
use Rattle.std.specs.Prelude.{◌≢◌, slice_get, Result, Ok, Err, IfOk, IfErr}
use Rattle.std.specs.List.{AllByRecursion}
use Rattle.std.proofs.lemmas.List.{length-map}
use Rattle.codec_base.specs.Codec.{Reading, IsLawful}
use Rattle.codec_base.specs.Laws.{ok_is}
use Rattle.codec_base.specs.Parts.{byte_list, admits_bytes, byte_list_at}
use Rattle.codec_base.specs.PartsLaws.{byte_list_lawful}
use Rattle.codec_base.specs.declared.parts.LengthCfg.{LengthCfg}
use Rattle.volume_base.specs.Log.{Log, end_of}
use Rattle.volume_base.specs.Moments.{Image, present}
use Rattle.volume_base.specs.Volume.{State, Map}
use Rattle.journal_base.specs.Items.{Items, Spells, items_of}
use Rattle.journal_base.specs.View.{View, log_of, IsHeld}
use Rattle.tree_shape.specs.Mmr.{mmr}
use Rattle.tree_shape.specs.Sha256Codec.{bytes_of, IsDigest}
use Rattle.tree_shape.specs.declared.mmr.Mmr.{Mmr}
use Rattle.tree_store.specs.Stored.{TreeStands}
use Rattle.merkle_full.specs.Full.{Rests}
use Rattle.auth_journal.specs.Joined.{leaves_of}
use Rattle.auth_journal.specs.Searching.{EndsAt}
use Rattle.auth_journal.proofs.ReadingLemmas.{run_end}
use Rattle.op_codec.specs.Keyless.{parts, of_parts, of_parts_of, variable_admits, variable_at, variable_lawful, variable_spelling}
use Rattle.chain_core.specs.Answers.{IsOutside}
use Rattle.chain_core.specs.declared.error.Error.{Error}
use Rattle.keyless_db.specs.Opening.{IsInitOf, IsSaidCommit}
use Rattle.keyless_db.proofs.DbLemmas.{size_of_list}
use Rattle.keyless_db.proofs.HeldLemmas.{some_ops}
use Rattle.list_machine.specs.Operation.{Operation, meaning, sha}
use Rattle.twin_databases.specs.FullKind.{FullView, HasFullStart, IsHeldIn, IsFullDbOf, full_end, kept_full, opened_list}
use Rattle.twin_databases.proofs.CompactLemmas.{commit_by}
use Rattle.twin_databases.proofs.FoundLemmas.{ends_last_commit}
use Rattle.twin_databases.proofs.NodeReach.{reach_whole}

-- ---- spellings tell operations

lawful_once : {A : Type 0} (spelling : A → List ℕ) (admits : A → Type 0) (reads : List ℕ → Reading A)
    → IsLawful spelling admits reads
    → (x y : A) → admits x → admits y → spelling x ≡ spelling y → x ≡ y
lawful_once {A} spelling admits reads lawful x y one two same =
    ap (λ (p : A × List ℕ). p.0)
    (ok_is (x, []) (y, []) (sym (lawful.again x [] one) ∙ ap (λ (bytes : List ℕ). reads (bytes ++ [])) same
    ∙ lawful.again y [] two))

-- which operations a log may have
abbrev pub Admits : LengthCfg → Operation → Type 0
Admits cfg op = variable_admits (admits_bytes cfg.max) (parts op)

pub operation_once : (cfg : LengthCfg) (x y : Operation) → Admits cfg x → Admits cfg y
    → meaning.encoding x ≡ meaning.encoding y → x ≡ y
operation_once cfg x y one two same =
    sym (of_parts_of x)
    ∙ ap of_parts
    (lawful_once (variable_spelling byte_list) (variable_admits (admits_bytes cfg.max))
    (variable_at (byte_list_at cfg.max))
    (variable_lawful byte_list (admits_bytes cfg.max) (byte_list_at cfg.max) (byte_list_lawful cfg.max)) (parts x)
    (parts y) one two same)
    ∙ of_parts_of y

all_of : {A : Type 0} (P : A → Type 0) (xs : List A) → ((i : ℕ) (x : A) → slice_get xs i ≡ Some x → P x)
    → AllByRecursion P xs
all_of P [] each = tt
all_of P (x ∷ xs) each = (each 0 x refl, all_of P xs (λ i y at. each (suc i) y at))

-- ---- an opening

-- up to a size past 0 a list is opened to there
pub opened_some : (n : ℕ) (list : List Operation) → 0 < n → opened_list n list ≡ take n list
opened_some zero list some = absurd (omega (arith, some))
opened_some (suc n) list some = refl

module _ (view : View LengthCfg) (old new : State) (cap : Option ℕ) where
  abbrev pub Kept : Items Operation
  Kept = items_of meaning.encoding Admits view old

  -- the log begins where it did, and the volume has it
  abbrev pub StartsStill : FullView → Type 0
  StartsStill db = (db.journal.items.start ≡ (log_of view old).start) × IsHeld db.journal.items new

  -- at the last commit of a list it is the list's up to there; where there is none, that of the first commit alone
  abbrev pub IsAtLast : List Operation → List ℕ → ℕ → FullView → Type 0
  IsAtLast list sizes wstart db =
      IsFullDbOf (kept_full (opened_list (full_end cap list) list) sizes (log_of view old).start wstart) (present new)
      db

  opened_one : (db : FullView) (list : List Operation) (sizes : List ℕ) (wstart : ℕ) → StartsStill db
      → Rests mmr db.journal.tree
      → ((log_of view old).start ≡ end_of (log_of view old) → (log_of view old).start ≡ 0)
      → Spells meaning.encoding list (log_of view old)
      → ((i : ℕ) (op : Operation) → slice_get list i ≡ Some op → Admits view.codec op)
      → IsInitOf mmr sha meaning bytes_of IsDigest meaning.encoding Kept cap list db (present new)
      → IsAtLast list sizes wstart db
  opened_one db list sizes wstart starts rests past spelled allowed is = record {
    held = held is;
    begins = begins;
    reaches = omega (arith, reach_whole (opened_list (full_end cap list) list) db (present new) (held is) rests);
  }
    where
      begins : ((present new).log db.journal.items.name).start ≡ (log_of view old).start
      begins = sym starts.1.start_is ∙ starts.0

      whole : end_of (log_of view old) ≡ length list
      whole = run_end meaning.encoding list (log_of view old) spelled

      within : (log_of view old).start ≤ length list
      within = omega (arith, spelled.within, length-map list meaning.encoding)

      pick : (n k : ℕ) → n ≤ k → (n ≡ k → n ≡ 0) → (n < k) ⊎ (k ≡ 0)
      pick n k le zero_so = grind arith

      some : ((log_of view old).start < length list) ⊎ (length list ≡ 0)
      some = pick (log_of view old).start (length list) within (λ same. past (same ∙ sym whole))

      ends_at : (n : ℕ) → EndsAt Kept (IsSaidCommit meaning) cap n → full_end cap list ≡ n
      ends_at n ends = ends_last_commit meaning Kept list spelled (operation_once view.codec) allowed cap n some ends

      held : IsInitOf mmr sha meaning bytes_of IsDigest meaning.encoding Kept cap list db (present new)
          → IsHeldIn (opened_list (full_end cap list) list) db (present new)
      held (inl (ends, of)) =
          let size = size_of_list mmr sha meaning meaning.encoding (take db.state.size list) db of.db_of in
          let more = some_ops meaning (take db.state.size list) of.db_of.ends in
          let there = opened_some db.state.size list (omega (arith, size, more)) in
          let same : opened_list (full_end cap list) list ≡ take db.state.size list =
          ap (λ (n : ℕ). opened_list n list) (ends_at db.state.size ends) ∙ there in
          subst (λ (ops : List Operation). IsHeldIn ops db (present new)) (sym same) of
      held (inr (ends, first, of)) =
          let commit = commit_by db.commit None 0 first.floored first.valued in
          let same : opened_list (full_end cap list) list ≡ db.commit ∷ [] =
          ap (λ (n : ℕ). opened_list n list) (ends_at 0 ends) ∙ ap (λ (op : Operation). op ∷ []) (sym commit) in
          subst (λ (ops : List Operation). IsHeldIn ops db (present new)) (sym same) of

  pub opened_full : (tells : Type 0) (nodes : Log) (pins : Map) (r : Result FullView (Error Mmr))
      → IfOk r (λ db. tells → StartsStill db) → IfOk r (λ db. Rests mmr db.journal.tree)
      → IfOk r (λ db. tells → (log_of view old).start ≡ end_of (log_of view old) → (log_of view old).start ≡ 0)
      → IfOk r (λ db. tells → (list rest : List Operation) (durable : ℕ)
      → Spells meaning.encoding list (log_of view old) → length (list ++ rest) ≤ 2 ^ 62
      → TreeStands mmr sha bytes_of (leaves_of mmr sha meaning.encoding (list ++ rest)) durable
      (log_of view old).start nodes pins
      → AllByRecursion (Admits view.codec) list
      → IsInitOf mmr sha meaning bytes_of IsDigest meaning.encoding Kept cap list db (present new))
      → IfOk r (λ db. tells → (list : List Operation) (sizes : List ℕ) (wstart : ℕ)
      → HasFullStart view.codec.max (log_of view old) nodes pins cap list → IsAtLast list sizes wstart db)
  opened_full tells nodes pins (Ok db) starts rests past is = λ told list sizes wstart start.
      opened_one db list sizes wstart (starts told) rests (past told) start.spelled start.allowed
      (is told list start.rest start.durable start.spelled start.few start.tree
      (all_of (Admits view.codec) list start.allowed))
  opened_full tells nodes pins (Err e) starts rests past is = tt

-- ---- by a configuration

-- what is said of one name, and so on, is said of its equal
pub said_by : (P : List ℕ → List ℕ → List ℕ → ℕ → Option ℕ → Type 0) (log log' nodes nodes' map map' : List ℕ)
    (limit limit' : ℕ)
    (cap cap' : Option ℕ) → log ≡ log' → nodes ≡ nodes' → map ≡ map' → limit ≡ limit' → cap ≡ cap'
    → P log nodes map limit cap → P log' nodes' map' limit' cap'
said_by P log log' nodes nodes' map map' limit limit' cap cap' one two three four five is =
    subst (λ (o : Option ℕ). P log' nodes' map' limit' o) five
    (subst (λ (n : ℕ). P log' nodes' map' n cap) four
    (subst (λ (name : List ℕ). P log' nodes' name limit cap) three
    (subst (λ (name : List ℕ). P log' name map limit cap) two
    (subst (λ (name : List ℕ). P name nodes map limit cap) one is))))

module _ (tells : Type 0) (old new : Image) (r : Result FullView (Error Mmr)) where
  -- of the contents under these names it opens what is held there, and is refused from outside alone
  abbrev pub OpensHeld : (log nodes metadata : List ℕ) (limit : ℕ) (cap : Option ℕ) → Type 0
  OpensHeld log nodes metadata limit cap = IfOk r (λ db. tells → (list : List Operation) (sizes : List ℕ) (wstart : ℕ)
      → HasFullStart limit (old.log log) (old.log nodes) (old.map metadata) cap list
      → IsFullDbOf (kept_full (opened_list (full_end cap list) list) sizes (old.log log).start wstart) new db)

  abbrev pub OpensStanding : (log nodes metadata : List ℕ) (limit : ℕ) (cap : Option ℕ) → Type 0
  OpensStanding log nodes metadata limit cap = cap ≢ Some 0 → IfErr r (λ e. tells → (list : List Operation)
      → HasFullStart limit (old.log log) (old.log nodes) (old.map metadata) cap list → IsOutside e)

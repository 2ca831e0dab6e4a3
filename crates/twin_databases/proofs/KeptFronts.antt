-- What openings leave of any logs.
use Rattle.std.proofs.Common.{◌≡◌, ◌≢◌, inl, inr, ℕ, zero, suc, ◌-◌, ◌<◌, ◌≤◌, max, min, Bool, true, false, List, [], ◌∷◌, length, drop, Option, Some, None, refl, sym, ◌∙◌, ap, subst, arith, take-take}
use Rattle.std.specs.Prelude.{Result, Ok, Err, IfOk, IfErr}
use Rattle.std.proofs.lemmas.Result.{IfErr-weaker}
use Rattle.codec_base.specs.declared.error.CodecError.{CodecError}
use Rattle.codec_base.specs.declared.parts.LengthCfg.{LengthCfg}
use Rattle.volume_base.specs.Log.{Log, end_of, no_log, appended, cut_to}
use Rattle.volume_base.specs.Volume.{State}
use Rattle.journal_base.specs.Items.{items_of}
use Rattle.journal_base.specs.Matches.{IsAnswered}
use Rattle.journal_base.specs.View.{View, log_of}
use Rattle.tree_shape.specs.Mmr.{mmr}
use Rattle.tree_shape.specs.Sha256Codec.{bytes_of, IsDigest}
use Rattle.tree_shape.specs.declared.mmr.Mmr.{Mmr}
use Rattle.tree_shape.specs.declared.sha256.Sha256Digest.{Sha256Digest}
use Rattle.merkle_full.proofs.ListLemmas.{taken}
use Rattle.merkle_full.proofs.SettleLemmas.{end_cut}
use Rattle.auth_journal.specs.Searching.{EndsAt}
use Rattle.log_model.specs.Witness.{witness_text}
use Rattle.chain_core.specs.declared.error.Error.{Error}
use Rattle.chain_core.specs.declared.error.Error.TheVariants as error
use Rattle.keyless_db.specs.Opening.{GoesOn, IsBuiltAt, IsOfOpening, IsSaidCommit}
use Rattle.witness_store.specs.declared.witness.Witness.{Witness}
use Rattle.compact_db.specs.DbView.{seen_log}
use Rattle.compact_db.specs.Opening.{IsOpenedAt, Opens, witnesses_in}
use Rattle.compact_db.specs.Rebuild.{rebuild_answer}
use Rattle.compact_db.proofs.DbLemmas.{size_of_list}
use Rattle.list_machine.specs.Operation.{Operation, meaning, sha}
use Rattle.list_machine.specs.Step.{plain_commit}
use Rattle.twin_databases.specs.CompactKind.{CompactView, IsHeldAt}
use Rattle.twin_databases.specs.OpeningErrors.{IsOfFullOpening}
use Rattle.twin_databases.specs.FullKind.{FullView}
use Rattle.twin_databases.specs.Reopening.{KeepsOperations, KeepsWitnesses, operations_in}
use Rattle.twin_databases.proofs.CompactLemmas.{commit_by, same_name}
use Rattle.twin_databases.proofs.CompactOpening.{either_cap}
use Rattle.twin_databases.proofs.FullOpening.{Admits}

abbrev Says : Operation → Bool → Type 0
Says = IsSaidCommit meaning

-- ---- the log of operations

max_one : (end : ℕ) → 0 < end → max end 1 ≡ end
max_one end some = omega (arith, some)

-- a log is opened past its start, where it isn't empty past 0
later : (limit : ℕ) (cap : Option ℕ) (size end : ℕ) (log : Log) → EndsAt (operations_in limit log) Says cap end
    → size ≡ max end 1 → (log.start ≡ end_of log → log.start ≡ 0) → log.start < size
later limit cap size end log (inl is) sized past =
    let low = is.0 in
    let same = sized ∙ max_one end (omega (arith, low)) in
    omega (arith, low, same)
later limit cap size end log (inr (inl is)) sized past =
    let zero_end = is.0 in
    let zero_start = is.1 in
    let same : size ≡ 1 = sized ∙ ap (λ n. max n 1) zero_end in
    omega (arith, same, zero_start)
later limit cap size end log (inr (inr is)) sized past =
    let zero_start = past is.1 in
    let zero_end : end ≡ 0 = is.2 ∙ sym is.1 ∙ zero_start in
    let same : size ≡ 1 = sized ∙ ap (λ n. max n 1) zero_end in
    omega (arith, same, zero_start)

sized_by : (end : ℕ) (db : FullView) → IsBuiltAt plain_commit end db → db.state.size ≡ max end 1
sized_by end db (inl is) = is.1 ∙ sym (max_one end is.0)
sized_by end db (inr is) = is.1 ∙ sym (ap (λ n. max n 1) is.0)

-- an opening under a cap of 0 is refused as such, and else by these errors
pub full_errors : (cap : Option ℕ) (r : Result FullView (Error Mmr))
    → (cap ≡ Some 0 → r ≡ Err error.InvalidInitializationBound) → (cap ≢ Some 0 → IfErr r IsOfOpening)
    → IfErr r (IsOfFullOpening cap)
full_errors cap r bound errors =
    either_cap cap (IfErr r (IsOfFullOpening cap))
    (λ none. subst (λ (x : Result FullView (Error Mmr)). IfErr x (IsOfFullOpening cap)) (sym (bound none))
    (inr (none, refl)))
    (λ other. IfErr-weaker r IsOfOpening (IsOfFullOpening cap) (λ e of. inl of) (errors other))

-- what an opening says of any contents
pub opened_keeps : (tells : Type 0) (view : View LengthCfg) (old new : State) (cap : Option ℕ)
    (r : Result FullView (Error Mmr))
    → IfOk r (λ db. tells → (log_of view old).start ≡ end_of (log_of view old) → (log_of view old).start ≡ 0)
    → IfOk r (λ db. tells → (end : ℕ)
    × EndsAt (items_of meaning.encoding Admits view old) (IsSaidCommit meaning) cap end × IsBuiltAt plain_commit end db
    × GoesOn (meaning.encoding plain_commit) end (cut_to (log_of view old) end) (log_of view new))
    → IfOk r (λ db. tells → KeepsOperations view.codec.max cap db.state.size (log_of view old) (log_of view new))
opened_keeps tells view old new cap (Ok db) past opens = λ told.
    let o = opens told in
    let sized = sized_by o.0 db o.2 in
    record {
      end = o.0;
      ends = o.1;
      sized = sized;
      later = later view.codec.max cap db.state.size o.0 (log_of view old) o.1 sized (past told);
      goes_on = o.3;
    }
opened_keeps tells view old new cap (Err e) past opens = tt

-- ---- under the size at which it is opened it is opened likewise

module _ (limit n : ℕ) (old mid : Log) (is : KeepsOperations limit None n old mid) where
  ends_capped : EndsAt (operations_in limit old) Says None is.end
      → EndsAt (operations_in limit old) Says (Some n) is.end
  ends_capped (inl at) =
      let low = at.0 in
      let high = at.1 in
      let same = is.sized ∙ max_one is.end (omega (arith, low)) in
      inl (low, omega (arith, high, same), at.2, λ p from to. absurd (omega (arith, from, to, same)))
  ends_capped (inr (inl at)) =
      inr (inl (at.0, at.1, λ p from to. at.2 p from (omega (arith, to))))
  ends_capped (inr (inr at)) =
      let start = at.1 in
      let end = at.2 in
      let before = is.later in
      let sized = is.sized in
      let zero_end : is.end ≡ 0 = omega (arith, start, end, before, sized) in
      inr (inl (zero_end, omega (arith, start, end, zero_end), λ p from to. absurd (omega (arith, to, end, zero_end))))

  pub keeps_all : KeepsOperations limit (Some n) n old mid
  keeps_all = record {
    end = is.end;
    ends = ends_capped is.ends;
    sized = is.sized;
    later = is.later;
    goes_on = is.goes_on;
  }

-- ---- a front of a front

answered_cut : (limit : ℕ) (log : Log) (end p : ℕ) (answer : Bool)
    → IsAnswered (operations_in limit (cut_to log end)) Says p answer
    → IsAnswered (operations_in limit log) Says p answer
answered_cut limit log end p answer is = record {
  item = is.item;
  here = record {
    low = is.here.low;
    here = taken log.items (end - log.start) (p - log.start) (meaning.encoding is.item) is.here.here;
  };
  allowed = is.allowed;
  answered = is.answered;
}

cut_again : (log : Log) (end last : ℕ) → last ≤ end → cut_to (cut_to log end) last ≡ cut_to log last
cut_again log end last le =
    ap (λ (l : List (List ℕ)). let made : Log = record { start = log.start; items = l } in made)
    (take-take (last - log.start) (end - log.start) log.items (omega (arith, le)))

module _ (limit c : ℕ) (old new : Log) (end : ℕ) (low : old.start ≤ end) (high : end ≤ end_of old) (below : c ≤ end)
  where
    capped_cut : min c (end_of old) ≡ min c (end_of (cut_to old end))
    capped_cut = let same = end_cut old end low high in omega (arith, same, high, below)

    ends_lower : (last : ℕ) → EndsAt (operations_in limit (cut_to old end)) Says (Some c) last
        → EndsAt (operations_in limit old) Says (Some c) last × (last ≤ end)
    ends_lower last (inl at) =
        let same = capped_cut in
        let last_high = at.1 in (
          inl (
            at.0,
            omega (arith, last_high, same),
            answered_cut limit old end (last - 1) true at.2,
            λ p from to. answered_cut limit old end p false (at.3 p from (omega (arith, to, same))),
          ),
          omega (arith, last_high, below),
        )
    ends_lower last (inr (inl at)) =
        let same = capped_cut in
        let none = at.0 in (
          inr (inl (
            none,
            at.1,
            λ p from to. answered_cut limit old end p false (at.2 p from (omega (arith, to, same))),
          )),
          omega (arith, none),
        )
    ends_lower last (inr (inr at)) = absurd (let none = at.0 in cc)

    keeps_cut : (size : ℕ) → KeepsOperations limit (Some c) size (cut_to old end) new
        → KeepsOperations limit (Some c) size old new
    keeps_cut size is =
        let ends = ends_lower is.end is.ends in
        record {
          end = is.end;
          ends = ends.0;
          sized = is.sized;
          later = is.later;
          goes_on = subst (λ (l : Log). GoesOn (meaning.encoding plain_commit) is.end l new)
              (cut_again old end is.end ends.1) is.goes_on;
        }

-- of a front that was opened at a greater size, what is opened under a cap is a front of the log
module _ (limit c n : ℕ) (old mid new : Log) (some : 0 < c) (less : c < n) (is : KeepsOperations limit None n old mid)
  where
    whole : is.end ≡ n
    whole = (let sized = is.sized in omega (arith, sized, some, less))

    reached : EndsAt (operations_in limit old) Says None is.end → is.end ≤ end_of old
    reached (inl at) = at.1
    reached (inr (inl at)) = let none = at.0 in omega (arith, none)
    reached (inr (inr at)) = let end = at.2 in omega (arith, end)

    cut_there : GoesOn (meaning.encoding plain_commit) is.end (cut_to old is.end) mid → mid ≡ cut_to old is.end
    cut_there (inl on) = on.1
    cut_there (inr on) = absurd (let none = on.0 in let end = whole in omega (arith, none, end, less))

    pub keeps_lower : (size : ℕ) → KeepsOperations limit (Some c) size mid new
        → KeepsOperations limit (Some c) size old new
    keeps_lower size lower =
        let end = whole in
        let before = is.later in
        keeps_cut limit c old new is.end (omega (arith, before, end)) (reached is.ends) (omega (arith, less, end)) size
        (subst (λ (l : Log). KeepsOperations limit (Some c) size l new) (cut_there is.goes_on) lower)

-- so it is where the database is opened again
pub lower_keeps : (tells : Type 0) (limit c n : ℕ) (mid new : Log) → c < n → (r : Result FullView (Error Mmr))
    → IfOk r (λ db. 0 < db.state.size)
    → IfOk r (λ db. tells → KeepsOperations limit (Some c) db.state.size mid new)
    → IfOk r (λ db. tells → (first : Log) → db.state.size ≡ c → KeepsOperations limit None n first mid
    → KeepsOperations limit (Some c) c first new)
lower_keeps tells limit c n mid new less (Ok db) some keeps = λ told first same is.
    subst (λ (k : ℕ). KeepsOperations limit (Some c) k first new) same
    (keeps_lower limit c n first mid new (omega (arith, some, same)) less is db.state.size (keeps told))
lower_keeps tells limit c n mid new less (Err e) some keeps = tt

-- and where it stays
pub same_keeps : (limit c n : ℕ) (first mid : Log) → n ≡ c → KeepsOperations limit None n first mid
    → KeepsOperations limit (Some c) c first mid
same_keeps limit c n first mid same is =
    subst (λ (k : ℕ). KeepsOperations limit (Some k) k first mid) same (keeps_all limit n first mid is)

-- ---- the log of witnesses

-- a witness that rebuilds has operations
some_by : (decoded : List ℕ → Result Operation CodecError) (bytes : List ℕ) (size : ℕ) (pins : List Sha256Digest)
    (commit : Operation)
    → rebuild_answer mmr meaning decoded
    (let w : Witness Mmr Sha256Digest = record { op_bytes = bytes; size = size; pinned_nodes = pins } in w) ≡ Ok commit
    → 0 < size
some_by decoded bytes zero pins commit is = absurd cc
some_by decoded bytes (suc size) pins commit is = omega arith

rebuilt_some : (decoded : List ℕ → Result Operation CodecError) (w : Witness Mmr Sha256Digest) (commit : Operation)
    → rebuild_answer mmr meaning decoded w ≡ Ok commit → 0 < w.size
rebuilt_some decoded w commit is = some_by decoded w.op_bytes w.size w.pinned_nodes commit is

module _ (tells : Type 0) (decoded : List ℕ → Result Operation CodecError) (allowed : Operation → Type 0)
    (view : View (Unit {0})) (cap : Option ℕ) (old new : State) where
  abbrev First : List ℕ
  First = witness_text mmr sha meaning bytes_of (plain_commit ∷ []) 1

  one_item : (start : ℕ) (items : List (List ℕ)) → start < 1 → items ≡ drop start (First ∷ []) → items ≡ First ∷ []
  one_item start items low is =
      let none : start ≡ 0 = omega (arith, low) in is ∙ ap (λ (k : ℕ). drop k (First ∷ [])) none

  begun_keeps : (db : CompactView) → (seen_log db.log).name ≡ view.name
      → IsHeldAt (plain_commit ∷ []) (1 ∷ []) db new → old.log view.name ≡ no_log
      → KeepsWitnesses cap db.tip.witness.size (old.log view.name) (new.log view.name)
  begun_keeps db name held none =
      let low = held.some in
      let here = new.log (seen_log db.log).name in
      let start : here.start ≡ 0 = omega (arith, low) in
      let items = one_item here.start here.items low held.witnesses.spelled.items in
      let whole : here ≡ appended no_log (First ∷ []) = λ i. record { start = start i; items = items i } in
      let size : db.tip.witness.size ≡ 1 =
      size_of_list mmr sha meaning (plain_commit ∷ []) db.tip db.tree db.commit held.list in
      record {
        some = omega (arith, size);
        kept = inr (record { none = none; sized = size; begun = ap new.log (sym name) ∙ whole });
      }

  resumed_keeps : (db : CompactView)
      → IsOpenedAt mmr meaning decoded (witnesses_in bytes_of IsDigest (old.log view.name)) cap sha allowed db
      (new.log view.name)
      → KeepsWitnesses cap db.tip.witness.size (old.log view.name) (new.log view.name)
  resumed_keeps db is =
      let size : is.witness.size ≡ db.tip.witness.size =
      ap (λ (w : Witness Mmr Sha256Digest). w.size) (sym is.tip) in
      subst (λ (n : ℕ). KeepsWitnesses cap n (old.log view.name) (new.log view.name)) size
      (record {
        some = rebuilt_some decoded is.witness db.commit is.rebuilt;
        kept = inl (record {
          end = is.end;
          witness = is.witness;
          chosen = is.chosen.here;
          sized = refl;
          cut = is.cut;
        });
      })

  pub witnesses_keep : (r : Result CompactView (Error Mmr))
      → Opens mmr sha meaning bytes_of IsDigest decoded allowed view cap tells old new r
      → IfOk r (λ db. tells → KeepsWitnesses cap db.tip.witness.size (old.log view.name) (new.log view.name))
  witnesses_keep (Ok db) opens = λ told. by told (old.log view.name).items refl
    where
      by : tells → (items : List (List ℕ)) → (old.log view.name).items ≡ items
          → KeepsWitnesses cap db.tip.witness.size (old.log view.name) (new.log view.name)
      by told [] same =
          let contents = opens.contents told in
          let start = contents.tip same in
          let none : old.log view.name ≡ no_log = λ i. record { start = start i; items = same i } in
          let begun = contents.begun none in
          let commit = commit_by db.commit None 0 begun.0.floored begun.0.valued in
          begun_keeps db (same_name view (seen_log db.log) opens.log.same)
          (subst (λ (op : Operation). IsHeldAt (op ∷ []) (1 ∷ []) db new) commit begun.1) none
      by told (x ∷ xs) same =
          resumed_keeps db ((opens.contents told).resumed (let count = ap length same in omega (arith, count)))
  witnesses_keep (Err e) opens = tt

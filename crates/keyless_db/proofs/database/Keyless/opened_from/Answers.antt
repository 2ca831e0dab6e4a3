use Rattle.std.specs.Prelude.{Result}
use Rattle.std.proofs.Common.{◌≡◌, ◌∷◌, [], ◌-◌, ◌<◌, List, length, take, None, Some, Ok, Err, inl, inr, refl, sym, ◌∙◌, ap, subst, arith}
use Rattle.volume_base.specs.Log.{Log, appended, end_of}
use Rattle.volume_base.specs.Moments.{Image, present}
use Rattle.volume_base.proofs.CallLemmas.{names_call_idle}
use Rattle.codec_base.specs.Reads.{one_value}
use Rattle.journal_base.specs.Items.{Items, Holds, items_of}
use Rattle.journal_base.specs.View.{IsDurable, IsHeld}
use Rattle.merkle_full.proofs.ReadLemmas.{ReadRefused}
use Rattle.merkle_full.specs.Full.{Rests}
use Rattle.merkle_full.proofs.ListLemmas.{there_is, taken}
use Rattle.auth_journal.specs.Joined.{Joined, IsJoinedOf}
use Rattle.auth_journal.specs.Standing.{names_of}
use Rattle.auth_journal.proofs.ReadingLemmas.{run_end}
use Rattle.chain_core.specs.declared.error.Error.{Error}
use Rattle.keyless_db.specs.DbView.{IsHeldFor}
use Rattle.keyless_db.proofs.LocationLemmas.{nothing_taken}
use Rattle.keyless_db.specs.Opening.{BeginsStanding}
use Rattle.keyless_db.proofs.BeginningLemmas.{begins_done, begins_like}
use Rattle.keyless_db.proofs.OpenLemmas.{built_errors, built_refused, commit_there, durable_still, first_refused, if_err, if_ok, if_ok_both, read_errors, read_refused}
use Rattle.keyless_db.proofs.ReadLemmas.{all_at}
use Rattle.keyless_db.proofs.StillLemmas.{present_same}
use Rattle.keyless_db.proofs.database.Keyless.opened_from.Goals as goal

pub returns-then-size-eq0-clause-held : goal.returns-then-size-eq0-clause-held
returns-then-size-eq0-clause-held g c =
    let s = g.F.Family.shape in
    let h = g.H.Hasher.hash in
    let m = g.O.Logged.meaning in
    let digest = g.H.Digest.Spelled.spelling in
    let admits = g.H.Digest.Read.admits tt in
    let spelling = g.O.Spelled.spelling in
    let j = c.args.journal in
    let zero : j.items.end ≡ 0 = sym (c.as_u64-size.ensures ∙ c.size.ensures) ∙ c.if-size-eq0.true in
    if_ok_both _ _ _ c.built.result
    (λ d listed is. λ tells list opened all.
    let none : take j.items.end list ≡ [] = ap (λ n. take n list) zero ∙ nothing_taken list in
    let empty = subst (λ (xs : List g.row.O.Denot). IsJoinedOf s h digest admits spelling xs j (present (g.V.Volume.state c.args.vol.now))) none opened.joined in
    let begun = c.in-Ok.ensures.listed tells empty opened.low in
    let held = listed (c.commit-commit.result ∷ []) (present (g.V.Volume.state c.begun.new.vol)) begun.0 begun.1 refl in
    let commit = is ∙ c.commit-commit.ensures in
    inr (
      zero,
      record { floored = ap m.floor commit ∙ g.met.O.KeylessOperation.floored None 0; valued = ap m.value commit ∙ g.met.O.KeylessOperation.valued None 0 },
      subst (λ (op : g.row.O.Denot). IsHeldFor s h m digest admits spelling (op ∷ []) d (present (g.V.Volume.state c.begun.new.vol))) (sym is) held,
    ))
    c.built.ensures.listed c.built.ensures.commit

pub returns-in-Ok-read-clause-held : goal.returns-in-Ok-read-clause-held
returns-in-Ok-read-clause-held g c =
    let s = g.F.Family.shape in
    let h = g.H.Hasher.hash in
    let digest = g.H.Digest.Spelled.spelling in
    let admits = g.H.Digest.Read.admits tt in
    let spelling = g.O.Spelled.spelling in
    let j = c.args.journal in
    let n = c.as_u64-size.result in
    let end : n ≡ j.items.end = c.as_u64-size.ensures ∙ c.size.ensures in
    let some : 0 < n = omega (arith, c.if-size-eq0.false) in
    let read = c.in-Ok-read.ensures {u = tt} in
    if_ok_both _ _ _ c.built-in-Ok-read.result
    (λ d listed sized. λ tells list opened all.
    let ops = take j.items.end list in
    let count : length ops ≡ n = omega (arith, end, opened.joined.end_is, run_end spelling ops _ opened.joined.items) in
    let entry = there_is ops (n - 1) (omega (arith, count, some)) in
    let may = all_at (g.O.Read.admits j.items.codec) list (n - 1) entry.0 all (taken list j.items.end (n - 1) entry.0 entry.1) in
    let there = read.item tells in
    let is = read.listed tells ops entry.0 opened.joined.items there.low entry.1 may in
    let later = subst (λ (image : Image). IsJoinedOf s h digest admits spelling ops j image) (present_same _ _ (read.answers.contents tells)) opened.joined in
    inl (omega (arith, some, end), sized ∙ end, listed ops (present (g.V.Volume.state c.read.new.vol)) later opened.low (entry.1 ∙ ap Some (sym is))))
    c.built-in-Ok-read.ensures.listed c.built-in-Ok-read.ensures.size

pub returns-then-size-eq0-clause-at : goal.returns-then-size-eq0-clause-at
returns-then-size-eq0-clause-at g c =
    let none : c.args.journal.items.end ≡ 0 = sym (c.as_u64-size.ensures ∙ c.size.ensures) ∙ c.if-size-eq0.true in
    if_ok_both _ _ _ c.built.result (λ d sized is. inr (none, sized, is ∙ c.commit-commit.ensures)) c.built.ensures.size c.built.ensures.commit

pub returns-in-Ok-read-clause-names : goal.returns-in-Ok-read-clause-names
returns-in-Ok-read-clause-names g c tells =
    let read = (c.in-Ok-read.ensures {u = tt}).answers in
    names_call_idle (names_of c.args.journal) _ _ read.clock (read.past tells) (read.contents tells)

pub returns-in-Err-read-clause-names : goal.returns-in-Err-read-clause-names
returns-in-Err-read-clause-names g c tells =
    let read = (c.in-Err-read.ensures {u = tt}).answers in
    names_call_idle (names_of c.args.journal) _ _ read.clock (read.past tells) (read.contents tells)

pub returns-then-size-eq0-clause-durable : goal.returns-then-size-eq0-clause-durable
returns-then-size-eq0-clause-durable g c =
    let new = g.V.Volume.state c.begun.new.vol in
    if_ok _ _ c.built.result
    (λ d same. λ tells items nodes.
    let durable = c.in-Ok.ensures.durable tells in
    (subst (λ (j : Joined g.row.H-Digest.Denot g.row.O-Cfg.Denot). IsDurable j.items new) (sym same) durable.0, subst (λ (j : Joined g.row.H-Digest.Denot g.row.O-Cfg.Denot). IsDurable j.tree.log new) (sym same) durable.1))
    c.built.ensures.journal

pub returns-in-Ok-read-clause-durable : goal.returns-in-Ok-read-clause-durable
returns-in-Ok-read-clause-durable g c =
    let old = g.V.Volume.state c.args.vol.now in
    let new = g.V.Volume.state c.read.new.vol in
    let j = c.args.journal in
    let read = (c.in-Ok-read.ensures {u = tt}).answers in
    if_ok _ _ c.built-in-Ok-read.result
    (λ d same. λ tells items nodes. (
      subst (λ (x : Joined g.row.H-Digest.Denot g.row.O-Cfg.Denot). IsDurable x.items new) (sym same) (durable_still j.items old new read.clock (read.past tells) (read.contents tells) items),
      subst (λ (x : Joined g.row.H-Digest.Denot g.row.O-Cfg.Denot). IsDurable x.tree.log new) (sym same) (durable_still j.tree.log old new read.clock (read.past tells) (read.contents tells) nodes),
    ))
    c.built-in-Ok-read.ensures.journal

pub returns-then-size-eq0-clause-joined : goal.returns-then-size-eq0-clause-joined
returns-then-size-eq0-clause-joined g c =
    if_ok _ _ c.built.result (λ d same. ap (λ (j : Joined g.row.H-Digest.Denot g.row.O-Cfg.Denot). names_of j) same ∙ c.in-Ok.ensures.joined) c.built.ensures.journal

pub returns-then-size-eq0-clause-rests : goal.returns-then-size-eq0-clause-rests
returns-then-size-eq0-clause-rests g c =
    if_ok _ _ c.built.result (λ d same. λ rests. subst (λ (j : Joined g.row.H-Digest.Denot g.row.O-Cfg.Denot). Rests g.F.Family.shape j.tree) (sym same) c.in-Ok.ensures.rests) c.built.ensures.journal

pub returns-in-Ok-read-clause-joined : goal.returns-in-Ok-read-clause-joined
returns-in-Ok-read-clause-joined g c =
    if_ok _ _ c.built-in-Ok-read.result (λ d same. ap (λ (j : Joined g.row.H-Digest.Denot g.row.O-Cfg.Denot). names_of j) same) c.built-in-Ok-read.ensures.journal

pub returns-in-Ok-read-clause-rests : goal.returns-in-Ok-read-clause-rests
returns-in-Ok-read-clause-rests g c =
    if_ok _ _ c.built-in-Ok-read.result (λ d same. λ rests. subst (λ (j : Joined g.row.H-Digest.Denot g.row.O-Cfg.Denot). Rests g.F.Family.shape j.tree) (sym same) rests) c.built-in-Ok-read.ensures.journal

pub returns-then-size-eq0-clause-start : goal.returns-then-size-eq0-clause-start
returns-then-size-eq0-clause-start g c =
    let new = g.V.Volume.state c.begun.new.vol in
    if_ok _ _ c.built.result
    (λ d same. λ tells here.
    subst (λ (x : Joined g.row.H-Digest.Denot g.row.O-Cfg.Denot). (x.items.start ≡ c.args.journal.items.start) × IsHeld x.items new) (sym same) (c.in-Ok.ensures.start tells here))
    c.built.ensures.journal

pub returns-in-Ok-read-clause-start : goal.returns-in-Ok-read-clause-start
returns-in-Ok-read-clause-start g c =
    let new = g.V.Volume.state c.read.new.vol in
    let j = c.args.journal in
    let read = (c.in-Ok-read.ensures {u = tt}).answers in
    if_ok _ _ c.built-in-Ok-read.result
    (λ d same. λ tells here.
    let log = (read.contents tells).logs j.items.name in
    let later : IsHeld j.items new = record { start_is = here.start_is ∙ ap (λ (l : Log). l.start) (sym log); end_is = here.end_is ∙ ap end_of (sym log) } in
    subst (λ (x : Joined g.row.H-Digest.Denot g.row.O-Cfg.Denot). (x.items.start ≡ j.items.start) × IsHeld x.items new) (sym same) (refl, later))
    c.built-in-Ok-read.ensures.journal

pub returns-then-size-eq0-clause-past : goal.returns-then-size-eq0-clause-past
returns-then-size-eq0-clause-past g c =
    let none : c.args.journal.items.end ≡ 0 = sym (c.as_u64-size.ensures ∙ c.size.ensures) ∙ c.if-size-eq0.true in
    if_ok _ _ c.built.result (λ d same. λ tells here some. absurd (omega (arith, none, some))) c.built.ensures.journal

pub returns-in-Ok-read-clause-past : goal.returns-in-Ok-read-clause-past
returns-in-Ok-read-clause-past g c =
    let read = c.in-Ok-read.ensures {u = tt} in
    let end : c.as_u64-size.result ≡ c.args.journal.items.end = c.as_u64-size.ensures ∙ c.size.ensures in
    if_ok _ _ c.built-in-Ok-read.result
    (λ d same. λ tells here some. let there = read.item tells in omega (arith, there.low, here.start_is, end, some)) c.built-in-Ok-read.ensures.journal

pub returns-then-size-eq0-clause-blob : goal.returns-then-size-eq0-clause-blob
returns-then-size-eq0-clause-blob g c =
    if_ok _ _ c.built.result (λ d same. ap (λ (j : Joined g.row.H-Digest.Denot g.row.O-Cfg.Denot). j.tree.log.blob) same ∙ c.in-Ok.ensures.blob) c.built.ensures.journal

pub returns-in-Ok-read-clause-blob : goal.returns-in-Ok-read-clause-blob
returns-in-Ok-read-clause-blob g c =
    if_ok _ _ c.built-in-Ok-read.result (λ d same. ap (λ (j : Joined g.row.H-Digest.Denot g.row.O-Cfg.Denot). j.tree.log.blob) same) c.built-in-Ok-read.ensures.journal

pub returns-then-size-eq0-clause-log : goal.returns-then-size-eq0-clause-log
returns-then-size-eq0-clause-log g c =
    let j = c.args.journal in
    let old = g.V.Volume.state c.args.vol.now in
    let none : j.items.end ≡ 0 = sym (c.as_u64-size.ensures ∙ c.size.ensures) ∙ c.if-size-eq0.true in
    if_ok _ _ c.built.result
    (λ d same. λ tells.
    inr (none, c.in-Ok.ensures.log tells ∙ ap (λ (op : g.row.O.Denot). appended (old.log j.items.name) (g.O.Spelled.spelling op ∷ [])) c.commit-commit.ensures))
    c.built.ensures.journal

pub returns-in-Ok-read-clause-log : goal.returns-in-Ok-read-clause-log
returns-in-Ok-read-clause-log g c =
    let read = (c.in-Ok-read.ensures {u = tt}).answers in
    let end : c.as_u64-size.result ≡ c.args.journal.items.end = c.as_u64-size.ensures ∙ c.size.ensures in
    let some : 0 < c.args.journal.items.end = omega (arith, c.if-size-eq0.false, end) in
    if_ok _ _ c.built-in-Ok-read.result (λ d same. λ tells. inl (some, (read.contents tells).logs c.args.journal.items.name)) c.built-in-Ok-read.ensures.journal

pub returns-in-Err-clause-refused : goal.returns-in-Err-clause-refused
returns-in-Err-clause-refused g c tells here seated ends =
    let j = c.args.journal in
    let none : j.items.end ≡ 0 = sym (c.as_u64-size.ensures ∙ c.size.ensures) ∙ c.if-size-eq0.true in
    inl (c.in-Err.ensures.refused tells here none (c.requires.whole ∙ none) seated)

pub returns-then-size-eq0-clause-refused : goal.returns-then-size-eq0-clause-refused
returns-then-size-eq0-clause-refused g c tells here seated ends =
    let m = g.O.Logged.meaning in
    let is = ap m.floor c.commit-commit.ensures ∙ g.met.O.KeylessOperation.floored None 0 in
    if_err _ _ c.built.result
    (λ e why. first_refused _ c.args.journal.items.end (m.floor c.commit-commit.result) 0 e is why) c.built.ensures.refused

pub returns-in-Ok-read-clause-refused : goal.returns-in-Ok-read-clause-refused
returns-in-Ok-read-clause-refused g c tells here seated ends =
    let m = g.O.Logged.meaning in
    let j = c.args.journal in
    let old = g.V.Volume.state c.args.vol.now in
    let n = c.as_u64-size.result in
    let end : n ≡ j.items.end = c.as_u64-size.ensures ∙ c.size.ensures in
    let some : 0 < n = omega (arith, c.if-size-eq0.false) in
    let past : 0 < j.items.end = omega (arith, some, end) in
    let items : Items g.row.O.Denot = items_of g.O.Spelled.spelling g.O.Read.admits j.items old in
    let read = c.in-Ok-read.ensures {u = tt} in
    let op = c.in-Ok-read.last_commit in
    let there = subst (λ k. Holds items (k - 1) op) end (read.item tells) in
    let one = λ (x y : g.row.O.Denot). one_value _ _ _ (g.met.O.Read.lawful j.items.codec) x y in
    let commit = commit_there m items j.items.end op one there read.admitted past (ends past) in
    if_err _ _ c.built-in-Ok-read.result
    (λ e why. built_refused _ n j.items.end (m.floor op) e end commit why) c.built-in-Ok-read.ensures.refused

pub returns-in-Err-read-clause-refused : goal.returns-in-Err-read-clause-refused
returns-in-Err-read-clause-refused g c tells here seated ends =
    let m = g.O.Logged.meaning in
    let j = c.args.journal in
    let old = g.V.Volume.state c.args.vol.now in
    let n = c.as_u64-size.result in
    let end : n ≡ j.items.end = c.as_u64-size.ensures ∙ c.size.ensures in
    let some : 0 < n = omega (arith, c.if-size-eq0.false) in
    let past : 0 < j.items.end = omega (arith, some, end) in
    let items : Items g.row.O.Denot = items_of g.O.Spelled.spelling g.O.Read.admits j.items old in
    let read = c.in-Err-read.ensures {u = tt} in
    let refused : ReadRefused g.V.Volume.tells items (n - 1) c.in-Err-read.error = record {
      pruned = λ q is. read.pruned q (ap Err is);
      past = λ q is. read.out_of_range q (ap Err is);
      corrupt = λ q is. read.corrupt q (ap Err is);
      errors = read.errors;
    } in
    let why = subst (λ k. ReadRefused g.V.Volume.tells items (k - 1) c.in-Err-read.error) end refused in
    read_refused m g.V.Volume.tells tells items j.items.end c.in-Err-read.error _ c.from.ensures here.end_is past (ends past) why

pub returns-in-Err-clause-errors : goal.returns-in-Err-clause-errors
returns-in-Err-clause-errors g c = c.in-Err.ensures.errors

pub returns-then-size-eq0-clause-errors : goal.returns-then-size-eq0-clause-errors
returns-then-size-eq0-clause-errors g c =
    if_err _ _ c.built.result (λ e why. built_errors 1 (g.O.Logged.meaning.floor c.commit-commit.result) e why) c.built.ensures.refused

pub returns-in-Ok-read-clause-errors : goal.returns-in-Ok-read-clause-errors
returns-in-Ok-read-clause-errors g c =
    if_err _ _ c.built-in-Ok-read.result (λ e why. built_errors c.as_u64-size.result (g.O.Logged.meaning.floor c.in-Ok-read.last_commit) e why) c.built-in-Ok-read.ensures.refused

pub returns-in-Err-read-clause-errors : goal.returns-in-Err-read-clause-errors
returns-in-Err-read-clause-errors g c = read_errors c.in-Err-read.error _ c.from.ensures

pub returns-in-Err-clause-still : goal.returns-in-Err-clause-still
returns-in-Err-clause-still g c tells some =
    let zero : c.args.journal.items.end ≡ 0 = sym (c.as_u64-size.ensures ∙ c.size.ensures) ∙ c.if-size-eq0.true in
    absurd (omega (arith, some, zero))

pub returns-then-size-eq0-clause-still : goal.returns-then-size-eq0-clause-still
returns-then-size-eq0-clause-still g c tells some =
    let zero : c.args.journal.items.end ≡ 0 = sym (c.as_u64-size.ensures ∙ c.size.ensures) ∙ c.if-size-eq0.true in
    absurd (omega (arith, some, zero))

pub returns-in-Ok-read-clause-still : goal.returns-in-Ok-read-clause-still
returns-in-Ok-read-clause-still g c tells some =
    let read = (c.in-Ok-read.ensures {u = tt}).answers in
    (read.clock, read.past tells)

pub returns-in-Err-read-clause-still : goal.returns-in-Err-read-clause-still
returns-in-Err-read-clause-still g c tells some =
    let read = (c.in-Err-read.ensures {u = tt}).answers in
    (read.clock, read.past tells)

pub returns-in-Err-clause-begins : goal.returns-in-Err-clause-begins
returns-in-Err-clause-begins g c tells marks zero of =
    let j = c.args.journal in
    let a = g.V.Volume.state c.args.vol.now in
    let b = g.V.Volume.state c.begun.new.vol in
    let below : Result (Joined g.row.H-Digest.Denot g.row.O-Cfg.Denot) (Error g.row.F.Denot) = Err c.in-Err.error in
    begins_like g.F.Family.shape g.H.Hasher.hash g.H.Digest.Spelled.spelling g.O.Spelled.spelling (g.O.KeylessOperation.committed None 0) marks j.items.name j.tree.log.name j.tree.metadata a b below _ tt
    (subst (λ (op : g.row.O.Denot). BeginsStanding g.F.Family.shape g.H.Hasher.hash g.H.Digest.Spelled.spelling g.O.Spelled.spelling op marks j.items.name j.tree.log.name j.tree.metadata a b below) c.commit-commit.ensures (c.in-Err.ensures.images tells marks of))

pub returns-then-size-eq0-clause-begins : goal.returns-then-size-eq0-clause-begins
returns-then-size-eq0-clause-begins g c tells marks zero of =
    let j = c.args.journal in
    let a = g.V.Volume.state c.args.vol.now in
    let b = g.V.Volume.state c.begun.new.vol in
    let below : Result (Joined g.row.H-Digest.Denot g.row.O-Cfg.Denot) (Error g.row.F.Denot) = Ok c.in-Ok.begun in
    begins_done g.F.Family.shape g.H.Hasher.hash g.H.Digest.Spelled.spelling g.O.Spelled.spelling (g.O.KeylessOperation.committed None 0) marks j.items.name j.tree.log.name j.tree.metadata a b c.in-Ok.begun c.built.result
    (subst (λ (op : g.row.O.Denot). BeginsStanding g.F.Family.shape g.H.Hasher.hash g.H.Digest.Spelled.spelling g.O.Spelled.spelling op marks j.items.name j.tree.log.name j.tree.metadata a b below) c.commit-commit.ensures (c.in-Ok.ensures.images tells marks of))

pub returns-in-Ok-read-clause-begins : goal.returns-in-Ok-read-clause-begins
returns-in-Ok-read-clause-begins g c tells marks zero of =
    let end : c.as_u64-size.result ≡ c.args.journal.items.end = c.as_u64-size.ensures ∙ c.size.ensures in
    absurd (omega (arith, c.if-size-eq0.false, end, zero))

pub returns-in-Err-read-clause-begins : goal.returns-in-Err-read-clause-begins
returns-in-Err-read-clause-begins g c tells marks zero of =
    let end : c.as_u64-size.result ≡ c.args.journal.items.end = c.as_u64-size.ensures ∙ c.size.ensures in
    absurd (omega (arith, c.if-size-eq0.false, end, zero))

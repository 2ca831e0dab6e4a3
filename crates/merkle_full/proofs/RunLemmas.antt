-- Calls of a tree one after another.
use Rattle.std.proofs.Common.{◌≡◌, ℕ, List, Ok, Err, sym, ◌∙◌, ap, subst}
use Rattle.std.specs.Prelude.{Result, IsErrOf, OnOk}
use Rattle.std.specs.Result.{IsErrAnd}
use Rattle.volume_base.specs.Log.{Log}
use Rattle.volume_base.specs.Names.{Names, IsOneOf, NamesCall}
use Rattle.volume_base.specs.Volume.{State, LogCall, OnlyLeft}
use Rattle.volume_base.proofs.CallLemmas.{names_call_log, names_call_joins}

-- a call on a log behind others
pub names_then_log : (names : Names) (name other : List ℕ) (step : Log → Log → Type 0) (a b c : State) → IsOneOf name names.logs → other ≡ name → NamesCall names a b → LogCall other step b c → NamesCall names a c
names_then_log names name other step a b c one is ab bc =
    names_call_joins names a b c ab (names_call_log names name step b c one (subst (λ (n : List ℕ). LogCall n step b c) is bc))

-- what is so of a log by one name
pub renamed_durable : (name other : List ℕ) (s : State) → other ≡ name → OnlyLeft (s.log_left s.clock other) (s.log other) → OnlyLeft (s.log_left s.clock name) (s.log name)
renamed_durable name other s is only = subst (λ (n : List ℕ). OnlyLeft (s.log_left s.clock n) (s.log n)) is only

-- the error behind a `?`
pub same_fault : {T U E : Type 0} (r : Result T E) (last : Result U E) (e fault : E) → last ≡ Err e → IsErrAnd r (λ d. d ≡ e) → IsErrOf r fault → IsErrOf last fault
same_fault (Ok x) last e fault was is at = absurd is
same_fault (Err d) last e fault was is at = was ∙ ap Err (sym is ∙ err_of d fault at)
  where
    err_of : {T E : Type 0} (d fault : E) → IsErrOf {T = T} (Err d) fault → d ≡ fault
    err_of d fault at = cc

pub not_ok : {T E : Type 0} (r : Result T E) (P : E → Type 0) (Q : Type 0) → IsErrAnd r P → OnOk r Q
not_ok (Ok x) P Q is = absurd is
not_ok (Err d) P Q is = tt

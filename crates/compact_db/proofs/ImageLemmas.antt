-- What a crash leaves of the witness log, where nothing is written.
use Rattle.std.proofs.Common.{◌≡◌, inl, ℕ, List, ◌++◌, map, true, refl, sym, subst, arith}
use Rattle.std.specs.Prelude.{Result, Ok, Err, IfOk}
use Rattle.std.specs.Result.{IsErrAnd}
use Rattle.std.proofs.lemmas.List.{map-append}
use Rattle.volume_base.specs.Bounds.{IsPartOf}
use Rattle.volume_base.specs.Log.{Log}
use Rattle.volume_base.specs.Moments.{LogHas, LogKeeps}
use Rattle.volume_base.specs.Volume.{State, LogCall}
use Rattle.volume_base.proofs.BoundLemmas.{part_of_longer}
use Rattle.volume_base.proofs.CallLemmas.{log_call_none, log_call_wider}
use Rattle.volume_base.proofs.MomentLemmas.{past_same}
use Rattle.witness_store.specs.StoreView.{HasWitnesses}
use Rattle.witness_store.specs.Witness.{text_of}
use Rattle.witness_store.specs.declared.witness.Witness.{Witness}
use Rattle.compact_db.specs.DbView.{seen_log, waits}
use Rattle.compact_db.specs.Writing.{Extends, Settles}
use Rattle.compact_db.specs.declared.database.WitnessLog.{WitnessLog}
use Rattle.compact_db.specs.declared.database.WitnessLog.TheVariants.{Open, Import}

-- what was left is a part of a longer list too
pub images_none : {F D : Type 0} (spelling : D → List ℕ) (name : List ℕ) (ws more : List (Witness F D)) (greatest least : ℕ) (s : State)
    → LogHas s name (HasWitnesses spelling ws greatest least) → LogKeeps name (HasWitnesses spelling (ws ++ more) greatest least) s s
images_none spelling name ws more greatest least s has = record {
  past = past_same s;
  during = λ t log from to left.
      let at : t ≡ s.clock = omega (arith, from, to) in
      subst (λ (l : List (List ℕ)). IsPartOf l greatest least log) (sym (map-append (text_of spelling) ws more))
      (part_of_longer (map (text_of spelling) ws) (map (text_of spelling) more) greatest least log (has log (subst (λ (k : ℕ). s.log_left k name log) at left)));
}

-- ---- a log that gets one witness, or restarts with it

extends_same : {F D : Type 0} (spelling : D → List ℕ) (log : WitnessLog F D) (w : Witness F D) (s : State) (l : Log)
    → Extends spelling log w s l l
extends_same spelling (Open store) w s l = inl refl
extends_same spelling (Import cfg) w s l = inl refl

settles_same : {F D : Type 0} (spelling : D → List ℕ) (log : WitnessLog F D) (w : Witness F D) (s : State) (l : Log)
    → Settles spelling log w s l l
settles_same spelling (Open store) w s l = refl
settles_same spelling (Import cfg) w s l = inl refl

settles_extends : {F D : Type 0} (spelling : D → List ℕ) (log : WitnessLog F D) (w : Witness F D) (s : State)
    (old new : Log) → Settles spelling log w s old new → Extends spelling log w s old new
settles_extends spelling (Open store) w s old new is = inl is
settles_extends spelling (Import cfg) w s old new is = is

extends_settles : {F D : Type 0} (spelling : D → List ℕ) (log : WitnessLog F D) (w : Witness F D) (s : State)
    → waits log ≡ true → (old new : Log) → Extends spelling log w s old new → Settles spelling log w s old new
extends_settles spelling (Open store) w s waiting old new is = absurd cc
extends_settles spelling (Import cfg) w s waiting old new is = is

module _ {F D : Type 0} (spelling : D → List ℕ) (log : WitnessLog F D) (w : Witness F D) where
  pub call_none : (s : State) → LogCall (seen_log log).name (Extends spelling log w s) s s
  call_none s = log_call_none (seen_log log).name (Extends spelling log w s) s (extends_same spelling log w s)

  pub restarts_none : (s : State) → LogCall (seen_log log).name (Settles spelling log w s) s s
  restarts_none s = log_call_none (seen_log log).name (Settles spelling log w s) s (settles_same spelling log w s)

  pub call_settled : (a b : State) → LogCall (seen_log log).name (Settles spelling log w a) a b
      → LogCall (seen_log log).name (Extends spelling log w a) a b
  call_settled a b call =
      log_call_wider (seen_log log).name (Settles spelling log w a) (Extends spelling log w a) a b call
      (settles_extends spelling log w a)

  pub call_restarts : (a b : State) → waits log ≡ true → LogCall (seen_log log).name (Extends spelling log w a) a b
      → LogCall (seen_log log).name (Settles spelling log w a) a b
  call_restarts a b waiting call =
      log_call_wider (seen_log log).name (Extends spelling log w a) (Settles spelling log w a) a b call
      (extends_settles spelling log w a waiting)

-- an error is no result
pub no_result : {A E : Type 0} (r : Result A E) (P : E → Type 0) (Q : A → Type 0) → IsErrAnd r P → IfOk r Q
no_result (Ok x) P Q is = absurd is
no_result (Err e) P Q is = tt

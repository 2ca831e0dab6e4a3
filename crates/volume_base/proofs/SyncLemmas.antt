-- A sync of one log and a replacement of one map, and what turns at them.
use Rattle.std.proofs.Common.{◌≡◌, inl, inr, ℕ, ◌≤◌, true, false, max, List, length, refl, sym, ◌∙◌, subst, arith}
use Rattle.std.specs.Prelude.{◌⊎◌, Result, OnOk}
use Rattle.std.proofs.lemmas.Slice.Eq.{bytes_eq-Decides}
use Rattle.std.specs.Str.{bytes_eq}
use Rattle.volume_base.specs.Log.{Log, Advances, Stays, BecomesOneOf}
use Rattle.volume_base.specs.Bounds.{IsPartOf}
use Rattle.volume_base.specs.Moments.{Image, LogLeft, MapLeft, NamesLeft, LogHas, MapHas, LogKeeps, MapKeeps, LogTurns, Now, Keeps, Steps}
use Rattle.volume_base.specs.Names.{Names, IsOneOf}
use Rattle.volume_base.specs.Volume.{State, Map, LogMoves, MapMoves, OnlyLeft}
use Rattle.volume_base.proofs.BoundLemmas.{part_wider, part_advances, becomes}
use Rattle.volume_base.proofs.MomentLemmas.{log_moves, map_moves}
use Rattle.volume_base.proofs.NameLemmas.{log_of_names}
use Rattle.volume_base.proofs.TurnLemmas.{log_back, steps_of_keeps, steps_at_end, turns_at, each_of_weaker}

-- whatever a sync answers, what was left of the log stays
pub log_synced : (name : List ℕ) (P : Log → Type 0) (a b : State) → LogMoves name Stays a b → LogHas a name P → LogKeeps name P a b
log_synced name P a b moves has = log_moves name Stays P P a b moves has (λ old new was is. subst P (sym is) was)

-- and after Ok it is what the log holds
pub sync_steps : {T E : Type 0} (name : List ℕ) (P : Log → Type 0) (a b : State) (contents : Log) (result : Result T E) → LogMoves name Stays a b → LogHas a name P → OnOk result (OnlyLeft (b.log_left b.clock name) contents) → Steps (LogLeft name) P (λ log. log ≡ contents) a b result
sync_steps name P a b contents result moves has only = steps_at_end (LogLeft name) P (λ log. log ≡ contents) a b result (log_synced name P a b moves has) only

-- a map beside the one that is put in its place, and after Ok that alone
pub map_replaced : (name : List ℕ) (P : Map → Type 0) (made : Map) (a b : State) → MapMoves name (BecomesOneOf made) a b → MapHas a name P → MapKeeps name (λ m. P m ⊎ (m ≡ made)) a b
map_replaced name P made a b moves has = map_moves name (BecomesOneOf made) P (λ m. P m ⊎ (m ≡ made)) a b moves has (λ old new was is. becomes (λ m. P m ⊎ (m ≡ made)) made old new is (inl was) (inr refl))

pub replace_steps : {T E : Type 0} (name : List ℕ) (P : Map → Type 0) (made : Map) (a b : State) (result : Result T E) → MapMoves name (BecomesOneOf made) a b → MapHas a name P → OnOk result (OnlyLeft (b.map_left b.clock name) made) → Steps (MapLeft name) (λ m. P m ⊎ (m ≡ made)) (λ m. m ≡ made) a b result
replace_steps name P made a b result moves has only = steps_at_end (MapLeft name) (λ m. P m ⊎ (m ≡ made)) (λ m. m ≡ made) a b result (map_replaced name P made a b moves has) only

-- A sync, and then a prune: up to the sync's answer a crash leaves what it left, and from it on the whole log but for a front.
pub turns_at_sync : (name : List ℕ) (list : List (List ℕ)) (greatest least last to : ℕ) (s0 s1 s2 : State) → LogMoves name Stays s0 s1 → LogHas s0 name (IsPartOf list greatest least) → LogHas s1 name (IsPartOf list greatest (length list)) → to ≤ last → LogMoves name (Advances to) s1 s2
    → LogTurns name (IsPartOf list greatest least) (IsPartOf list (max greatest last) (length list)) s0 s2
turns_at_sync name list greatest least last to s0 s1 s2 synced has all low pruned =
    turns_at (LogLeft name) (log_back name) (IsPartOf list greatest least) (IsPartOf list (max greatest last) (length list)) s0 s1 s2
    (log_synced name (IsPartOf list greatest least) s0 s1 synced has)
    (log_moves name (Advances to) (IsPartOf list greatest (length list)) (IsPartOf list (max greatest last) (length list)) s1 s2 pruned all
    (λ old new part goes. part_wider list (max greatest to) (max greatest last) (length list) (length list) new (omega (arith, low)) (omega arith) (part_advances list old new greatest (length list) to goes part)))

-- the same, where the sync has failed
pub turns_not : {T E : Type 0} (name : List ℕ) (P Q : Log → Type 0) (a b : State) (result : Result T E) → OnOk result ⊥ → LogMoves name Stays a b → LogHas a name P → Steps (LogLeft name) P Q a b result
turns_not name P Q a b result failed moves has = steps_of_keeps (LogLeft name) P Q a b result failed (log_synced name P a b moves has)

-- Of the names of a store too what was left stays, whatever a sync of one of its logs answers.
pub names_synced : (names : Names) (name : List ℕ) (P : Image → Type 0) (a b : State) → IsOneOf name names.logs → LogMoves name Stays a b → Now (NamesLeft names) P a → Keeps (NamesLeft names) P a b
names_synced names name P a b one moves has = record {
  past = moves.past;
  during = λ t image lo hi at. has image (record {
    logs = each_of_weaker (λ n. b.log_left t n (image.log n)) (λ n. a.log_left a.clock n (image.log n)) names.logs (was t image lo hi (log_of_names names name one b t image at)) at.logs;
    maps = each_of_weaker (λ n. b.map_left t n (image.map n)) (λ n. a.map_left a.clock n (image.map n)) names.maps (λ n left. (moves.maps t n (image.map n) lo hi).0 left) at.maps;
  });
}
  where
    was : (t : ℕ) (image : Image) → a.clock ≤ t → t ≤ b.clock → b.log_left t name (image.log name) → (n : List ℕ) → b.log_left t n (image.log n) → a.log_left a.clock n (image.log n)
    was t image lo hi this n left = elim (bytes_eq name n) as (λ is. bytes_eq name n ≡ is → a.log_left a.clock n (image.log n)) [
      | true ↦ λ same. let from = moves.this t (image.log name) lo hi this in subst (λ k. a.log_left a.clock k (image.log k)) ((bytes_eq-Decides name n).0 same) (subst (λ (l : Log). a.log_left a.clock name l) (sym from.2) from.1)
      | false ↦ λ no. (moves.logs t n (image.log n) lo hi (λ same. let never : true ≡ false = sym ((bytes_eq-Decides name n).1 (sym same)) ∙ no in absurd cc)).0 left
    ] refl

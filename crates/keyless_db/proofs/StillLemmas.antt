-- A database that is held by a volume whose contents stay.
use Rattle.std.proofs.Common.{◌≡◌, ℕ, List, length, Ok, Err, sym, ◌∙◌, ap, subst}
use Rattle.std.specs.Prelude.{Result, IsErrOf}
use Rattle.std.specs.Result.{IsErrAnd}
use Rattle.volume_base.specs.Moments.{Image, present}
use Rattle.volume_base.specs.Volume.{State, SameContents, Reads}
use Rattle.volume_base.proofs.ReadLemmas.{OnlyRead, only_read_none, reads_joins, reads_of}
use Rattle.tree_shape.specs.Hashing.{Hashing}
use Rattle.tree_shape.specs.Shape.{Shape}
use Rattle.log_model.specs.Meaning.{Meaning}
use Rattle.chain_core.specs.declared.commitment.Commitment.{Commitment}
use Rattle.keyless_db.specs.DbView.{DbView, IsHeldFor}

pub present_same : (a b : State) → SameContents a b → present a ≡ present b
present_same a b same = sym (λ i. record { log = λ name. same.logs name i; map = λ name. same.maps name i })

pub held_still : {F D Op V Cfg : Type 0} (s : Shape) (h : Hashing D) (m : Meaning Op V) (digest : D → List ℕ) (admits : D → Type 0) (spelling : Op → List ℕ) (ops : List Op) (db : DbView F D Op Cfg) (a b : State)
    → SameContents a b → IsHeldFor s h m digest admits spelling ops db (present a) → IsHeldFor s h m digest admits spelling ops db (present b)
held_still s h m digest admits spelling ops db a b same held = subst (λ (image : Image). IsHeldFor s h m digest admits spelling ops db image) (present_same a b same) held

-- where the volume isn't called, and doesn't fail
pub reads_none : {T E : Type 0} (tells : Type 0) (fault : E) (a : State) (r : Result T E) → (IsErrOf r fault → ⊥) → Reads tells fault a a r
reads_none tells fault a r never = reads_of tells fault a a r (only_read_none tells a) never

-- calls that each answered Ok, and one that didn't, whose error was handed on
pub reads_err : {S T E : Type 0} (tells : Type 0) (fault : E) (a b c : State) (e : E) (r : Result T E) → OnlyRead tells a b → Reads {T = S} tells fault b c (Err e) → IsErrAnd r (λ d. d ≡ e) → Reads tells fault a c r
reads_err tells fault a b c e (Ok x) so last is = absurd is
reads_err {S = S} {E = E} tells fault a b c e (Err d) so last is =
    reads_joins tells fault a b c (Err e) (Err d) so last (λ at. subst (λ (x : E). IsErrOf {T = S} (Err x) fault) is (let same : d ≡ fault = cc in ap Err same)) tt

-- and then want of memory
pub reads_memory : {T E : Type 0} (tells : Type 0) (fault memory : E) (a b : State) (r : Result T E) → OnlyRead tells a b → IsErrAnd r (λ d. d ≡ memory) → (memory ≡ fault → ⊥) → Reads tells fault a b r
reads_memory tells fault memory a b (Ok x) so is apart = absurd is
reads_memory tells fault memory a b (Err d) so is apart = reads_of tells fault a b (Err d) so (λ at. let same : d ≡ fault = cc in apart (sym is ∙ same))

-- ---- the size of its list

pub held_size : {F D Op V Cfg : Type 0} {s : Shape} {h : Hashing D} {m : Meaning Op V} {digest : D → List ℕ} {admits : D → Type 0} {spelling : Op → List ℕ} {ops : List Op} {db : DbView F D Op Cfg} {image : Image}
    → IsHeldFor s h m digest admits spelling ops db image → db.state.size ≡ length ops
held_size {F = F} {D = D} held = ap (λ (c : Commitment F D). c.size) held.db_of.state_is

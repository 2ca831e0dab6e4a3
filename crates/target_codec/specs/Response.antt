-- When two answers to a request are equal.
use Rattle.std.specs.Prelude.{◌≡◌, Bool, false, ◌&&◌, List}
use Rattle.std.specs.Cmp.Lexicographic.{pointwise}
use Rattle.tree_proof.specs.declared.proof.Proof.{Proof}
use Rattle.target_codec.specs.declared.response.Response.{Response}
use Rattle.target_codec.specs.declared.response.Response.TheVariants.{Operations, Boundary}

-- a test of two answers goes by their kind, and then by their fields, which these tests compare
pub record IsFieldwise {F Op D : Type 0} (same_proof : Proof F D → Proof F D → Bool) (same_op : Op → Op → Bool)
    (same_digest : D → D → Bool) (same : Response F Op D → Response F Op D → Bool) : Type 0 where
  pub operations : (p q : Proof F D) (os rs : List Op) →
      same (Operations p os) (Operations q rs) ≡ (same_proof p q && pointwise same_op os rs)
  pub boundaries : (p q : Proof F D) (o r : Op) (ds es : List D) →
      same (Boundary p o ds) (Boundary q r es) ≡ (same_proof p q && (same_op o r && pointwise same_digest ds es))
  pub operations_first : (p q : Proof F D) (os : List Op) (r : Op) (es : List D) →
      same (Operations p os) (Boundary q r es) ≡ false
  pub boundary_first : (p q : Proof F D) (o : Op) (ds : List D) (rs : List Op) →
      same (Boundary p o ds) (Operations q rs) ≡ false

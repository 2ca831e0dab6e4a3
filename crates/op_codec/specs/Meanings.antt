-- What operations mean to the log; and when two are one, where a test of equality decides that of their values.
use Rattle.std.proofs.Common.{◌≡◌, ℕ, Bool, true, false, List, Some, None, Option, refl, sym, ap, subst}
use Rattle.std.specs.Prelude.{◌&&◌, ◌==◌}
use Rattle.std.specs.Bool.{Decides}
use Rattle.std.proofs.lemmas.Bool.Decides.{Decides-eqb, Decides-and, Decides-like}
use Rattle.log_model.specs.Meaning.{Meaning}
use Rattle.op_codec.specs.declared.keyless.Operation.{Operation}
use Rattle.op_codec.specs.declared.keyless.Operation.TheVariants.{Append, Commit}
use Rattle.op_codec.specs.Keyless.{Parts, parts, floor_of, value_of}

abbrev pub keyless_meaning : {F V A C : Type 0} → (Parts A → List ℕ) → Meaning (Operation F V A C) A
keyless_meaning spelling = record { encoding = λ op. spelling (parts op); floor = floor_of; value = value_of }

module _ {A : Type 0} (eq : A → A → Bool) where
  abbrev pub same_metadata : Option A → Option A → Bool
  same_metadata None None = true
  same_metadata (Some v) (Some w) = eq v w
  same_metadata None (Some w) = false
  same_metadata (Some v) None = false

  -- whether two operations are one
  abbrev pub same_operation : {F V C : Type 0} → Operation F V A C → Operation F V A C → Bool
  same_operation (Append v) (Append w) = eq v w
  same_operation (Commit m f) (Commit n g) = same_metadata m n && (f == g)
  same_operation (Append v) (Commit n g) = false
  same_operation (Commit m f) (Append w) = false

  module _ (decide : (v w : A) → Decides (eq v w) (v ≡ w)) where
    pub metadata_decide : (m n : Option A) → Decides (same_metadata m n) (m ≡ n)
    metadata_decide None None = (λ h. refl, λ e. refl)
    metadata_decide (Some v) (Some w) = Decides-like _ (λ e. ap Some e) (λ e. cc) (decide v w)
    metadata_decide None (Some w) = (λ h. absurd (cc), λ e. absurd (cc))
    metadata_decide (Some v) None = (λ h. absurd (cc), λ e. absurd (cc))

    pub operation_decide : {F V C : Type 0} → (a b : Operation F V A C) → Decides (same_operation a b) (a ≡ b)
    operation_decide (Append v) (Append w) = Decides-like _ (λ e. ap Append e) (λ e. cc) (decide v w)
    operation_decide (Commit m f) (Commit n g) =
        Decides-like _ (λ e. rw (e.0, e.1) refl) (λ e. (cc, cc))
        (Decides-and _ _ (metadata_decide m n) (Decides-eqb f g))
    operation_decide (Append v) (Commit n g) = (λ h. absurd (cc), λ e. absurd (cc))
    operation_decide (Commit m f) (Append w) = (λ h. absurd (cc), λ e. absurd (cc))

  -- a test that goes by the variant, and then by the fields
  pub record IsFieldwise {F V C : Type 0} (same : Operation F V A C → Operation F V A C → Bool) : Type 0 where
    pub appends : (v w : A) → same (Append v) (Append w) ≡ eq v w
    pub commits : (f g : ℕ) → same (Commit None f) (Commit None g) ≡ (f == g)
    pub with_metadata : (v w : A) (f g : ℕ) → same (Commit (Some v) f) (Commit (Some w) g) ≡ (eq v w && (f == g))
    pub one_has : (v : A) (f g : ℕ) → same (Commit (Some v) f) (Commit None g) ≡ false
    pub other_has : (w : A) (f g : ℕ) → same (Commit None f) (Commit (Some w) g) ≡ false
    pub append_first : (v : A) (n : Option A) (g : ℕ) → same (Append v) (Commit n g) ≡ false
    pub commit_first : (m : Option A) (f : ℕ) (w : A) → same (Commit m f) (Append w) ≡ false

  module _ {F V C : Type 0} (same : Operation F V A C → Operation F V A C → Bool) (fields : IsFieldwise same) where
    is_same_operation : (a b : Operation F V A C) → same_operation a b ≡ same a b
    is_same_operation (Append v) (Append w) = sym (fields.appends v w)
    is_same_operation (Commit None f) (Commit None g) = sym (fields.commits f g)
    is_same_operation (Commit (Some v) f) (Commit (Some w) g) = sym (fields.with_metadata v w f g)
    is_same_operation (Commit (Some v) f) (Commit None g) = sym (fields.one_has v f g)
    is_same_operation (Commit None f) (Commit (Some w) g) = sym (fields.other_has w f g)
    is_same_operation (Append v) (Commit n g) = sym (fields.append_first v n g)
    is_same_operation (Commit m f) (Append w) = sym (fields.commit_first m f w)

    pub fieldwise_decides : ((v w : A) → Decides (eq v w) (v ≡ w)) → (a b : Operation F V A C)
        → Decides (same a b) (a ≡ b)
    fieldwise_decides decide a b =
        subst (λ (t : Bool). Decides t (a ≡ b)) (is_same_operation a b) (operation_decide decide a b)

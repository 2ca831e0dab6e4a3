-- What immutable operations mean to the log; and when two are one, where tests of equality decide that of keys and values.
use Rattle.std.proofs.Common.{◌≡◌, ℕ, Bool, false, List, Some, None, Option, refl, sym, subst}
use Rattle.std.specs.Prelude.{◌&&◌, ◌==◌}
use Rattle.std.specs.Bool.{Decides}
use Rattle.std.proofs.lemmas.Bool.Decides.{Decides-eqb, Decides-and, Decides-like}
use Rattle.log_model.specs.Meaning.{Meaning}
use Rattle.op_codec.specs.declared.immutable.Operation.{Operation}
use Rattle.op_codec.specs.declared.immutable.Operation.TheVariants.{Set, Commit}
use Rattle.op_codec.specs.Immutable.{Parts, parts, floor_of, value_of}
use Rattle.op_codec.specs.Meanings.{same_metadata, metadata_decide}

abbrev pub immutable_meaning : {F K V D A C : Type 0} → (Parts K A → List ℕ) → Meaning (Operation F K V D A C) A
immutable_meaning spelling = record { encoding = λ op. spelling (parts op); floor = floor_of; value = value_of }

module _ {K A : Type 0} (same_key : K → K → Bool) (eq : A → A → Bool) where
  -- whether two operations are one
  abbrev pub same_operation : {F V D C : Type 0} → Operation F K V D A C → Operation F K V D A C → Bool
  same_operation (Set k v) (Set l w) = same_key k l && eq v w
  same_operation (Commit m f) (Commit n g) = same_metadata eq m n && (f == g)
  same_operation (Set k v) (Commit n g) = false
  same_operation (Commit m f) (Set l w) = false

  module _ (decide_key : (k l : K) → Decides (same_key k l) (k ≡ l))
      (decide : (v w : A) → Decides (eq v w) (v ≡ w)) where
    pub operation_decide : {F V D C : Type 0} → (a b : Operation F K V D A C) → Decides (same_operation a b) (a ≡ b)
    operation_decide (Set k v) (Set l w) =
        Decides-like _ (λ e. rw (e.0, e.1) refl) (λ e. (cc, cc)) (Decides-and _ _ (decide_key k l) (decide v w))
    operation_decide (Commit m f) (Commit n g) =
        Decides-like _ (λ e. rw (e.0, e.1) refl) (λ e. (cc, cc))
        (Decides-and _ _ (metadata_decide eq decide m n) (Decides-eqb f g))
    operation_decide (Set k v) (Commit n g) = (λ h. absurd (cc), λ e. absurd (cc))
    operation_decide (Commit m f) (Set l w) = (λ h. absurd (cc), λ e. absurd (cc))

  -- a test that goes by the variant, and then by the fields
  pub record IsFieldwise {F V D C : Type 0} (same : Operation F K V D A C → Operation F K V D A C → Bool) : Type 0 where
    pub sets : (k l : K) (v w : A) → same (Set k v) (Set l w) ≡ (same_key k l && eq v w)
    pub commits : (f g : ℕ) → same (Commit None f) (Commit None g) ≡ (f == g)
    pub with_metadata : (v w : A) (f g : ℕ) → same (Commit (Some v) f) (Commit (Some w) g) ≡ (eq v w && (f == g))
    pub one_has : (v : A) (f g : ℕ) → same (Commit (Some v) f) (Commit None g) ≡ false
    pub other_has : (w : A) (f g : ℕ) → same (Commit None f) (Commit (Some w) g) ≡ false
    pub set_first : (k : K) (v : A) (n : Option A) (g : ℕ) → same (Set k v) (Commit n g) ≡ false
    pub commit_first : (m : Option A) (f : ℕ) (l : K) (w : A) → same (Commit m f) (Set l w) ≡ false

  module _ {F V D C : Type 0} (same : Operation F K V D A C → Operation F K V D A C → Bool)
      (fields : IsFieldwise same) where
    is_same_operation : (a b : Operation F K V D A C) → same_operation a b ≡ same a b
    is_same_operation (Set k v) (Set l w) = sym (fields.sets k l v w)
    is_same_operation (Commit None f) (Commit None g) = sym (fields.commits f g)
    is_same_operation (Commit (Some v) f) (Commit (Some w) g) = sym (fields.with_metadata v w f g)
    is_same_operation (Commit (Some v) f) (Commit None g) = sym (fields.one_has v f g)
    is_same_operation (Commit None f) (Commit (Some w) g) = sym (fields.other_has w f g)
    is_same_operation (Set k v) (Commit n g) = sym (fields.set_first k v n g)
    is_same_operation (Commit m f) (Set l w) = sym (fields.commit_first m f l w)

    pub fieldwise_decides : ((k l : K) → Decides (same_key k l) (k ≡ l)) → ((v w : A) → Decides (eq v w) (v ≡ w))
        → (a b : Operation F K V D A C) → Decides (same a b) (a ≡ b)
    fieldwise_decides decide_key decide a b =
        subst (λ (t : Bool). Decides t (a ≡ b)) (is_same_operation a b) (operation_decide decide_key decide a b)

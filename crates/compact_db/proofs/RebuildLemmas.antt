-- What a witness rebuilds.
use Rattle.std.proofs.Common.{◌≡◌, ℕ, ◌-◌, ◌^◌, ◌<◌, ◌≤◌, true, List, [], ◌∷◌, ◌++◌, length, map, take, Some, refl, sym, ◌∙◌, ap, subst, arith, suc}
use Rattle.std.specs.Prelude.{slice_get, IsSome, nat_lt, nat_le, ◌==◌, Result, Ok, Err}
use Rattle.std.proofs.lemmas.Bool.Decides.{nat_tests}
use Rattle.std.proofs.lemmas.List.{length-take, length-append}
use Rattle.codec_base.specs.declared.error.CodecError.{CodecError}
use Rattle.tree_shape.specs.Hashing.{Hashing}
use Rattle.tree_shape.specs.Shape.{Shape, IsLawful, inactive, peaks}
use Rattle.tree_shape.specs.Slow.{leaf, node_of}
use Rattle.tree_proof.specs.Cover.{meets}
use Rattle.tree_proof.specs.SlowProof.{proof_of}
use Rattle.tree_proof.specs.declared.proof.Proof.{Proof}
use Rattle.tree_core.specs.Tree.{Tree, IsOf}
use Rattle.log_model.specs.Meaning.{Meaning}
use Rattle.log_model.specs.Operations.{floor_of, leaves_from}
use Rattle.log_model.specs.Good.{EndsWithCommit}
use Rattle.log_model.specs.Witness.{last_bytes}
use Rattle.log_model.proofs.OperationLemmas.{length-leaves_from}
use Rattle.witness_store.specs.declared.witness.Witness.{Witness}
use Rattle.compact_db.specs.Pinned.{ProvesCommit}
use Rattle.compact_db.specs.Rebuild.{operation_answer, rebuild_answer}
use Rattle.compact_db.specs.StateOf.{IsRestored, IsStateOf, verified_of}
use Rattle.compact_db.specs.Verified.{verified_leaves, IsShownOf}
use Rattle.compact_db.specs.WitnessOf.{witness_of}
use Rattle.compact_db.specs.declared.verified.VerifiedWitness.{VerifiedWitness}
use Rattle.compact_db.proofs.SealLemmas.{ends_last, floor_last}
use Rattle.compact_db.proofs.ListLemmas.{Parted, part, leaves_ended}
use Rattle.compact_db.proofs.WitnessLemmas.{made_is}

lt_true : (m n : ℕ) → m < n → nat_lt m n ≡ true
lt_true m n h = grind (arith, nat_tests)

le_true : (m n : ℕ) → m ≤ n → nat_le m n ≡ true
le_true m n h = grind (arith, nat_tests)

eq_true : (m n : ℕ) → m ≡ n → (m == n) ≡ true
eq_true m n h = grind (arith, nat_tests)

decoded_is : {F Op : Type 0} (r : Result Op CodecError) (op : Op) → operation_answer {F = F} r ≡ Ok op → r ≡ Ok op
decoded_is (Ok x) op e = let x_is : x ≡ op = cc in ap Ok x_is
decoded_is (Err f) op e = absurd cc

-- a witness rebuilds that passes the tests
pub answer_is : {F D Op V : Type 0} (s : Shape) (m : Meaning Op V) (decoded : List ℕ → Result Op CodecError) (w : Witness F D) (op : Op) (floor : ℕ)
    → 0 < w.size → w.size ≤ 2 ^ 62 → operation_answer {F = F} (decoded w.op_bytes) ≡ Ok op → m.floor op ≡ Some floor → floor ≤ w.size - 1
    → length w.pinned_nodes ≡ length (s.heights (w.size - 1)) → rebuild_answer s m decoded w ≡ Ok op
answer_is s m decoded w op floor some few told commits early pins =
    let a = lt_true 0 w.size some in
    let b = le_true w.size (2 ^ 62) few in
    let d = decoded_is (decoded w.op_bytes) op told in
    let e = le_true floor (w.size - 1) early in
    let f = eq_true (length w.pinned_nodes) (length (s.heights (w.size - 1))) pins in
    rw (a, b, d, commits, e, f) refl

module _ {F D Op V : Type 0} (s : Shape) (h : Hashing D) (m : Meaning Op V) (admits : Op → Type 0) (ops : List Op) (ends : EndsWithCommit m ops)
    (few : length ops ≤ 2 ^ 62) (all : (op : Op) → slice_get ops (length ops - 1) ≡ Some op → admits op) (w : Witness F D) (is : w ≡ witness_of s h m ops (length ops)) where
  abbrev Before : List Op
  Before = take (length ops - 1) ops

  pub parted : Parted s h m admits ops
  parted = part s h m admits ops ends all

  size_is : w.size ≡ length ops
  size_is = ap (λ (x : Witness F D). x.size) is

  pub front_count : (before : ℕ) → before ≡ w.size - 1 → before ≡ length (leaves_from s h m 0 Before)
  front_count before at =
      let n = length-leaves_from s h m 0 Before in omega (arith, at, size_is, n, length-take (length ops - 1) ops)

  pub front_pins : (before : ℕ) (pins : List D) → before ≡ w.size - 1 → pins ≡ w.pinned_nodes
      → pins ≡ map (node_of s h (leaves_from s h m 0 Before)) (peaks s before)
  front_pins before pins at are =
      let n : length ops - 1 ≡ before = omega (arith, at, size_is) in
      are ∙ ap (λ (x : Witness F D). x.pinned_nodes) is ∙ ap (λ k. map (node_of s h (leaves_from s h m 0 Before)) (peaks s k)) n

  pub last_is : w.op_bytes ≡ m.encoding parted.last
  last_is = ap (λ (x : Witness F D). x.op_bytes) is ∙ parted.bytes

  leaves_are : leaves_from s h m 0 Before ++ (leaf s h (length (leaves_from s h m 0 Before)) w.op_bytes ∷ []) ≡ leaves_from s h m 0 ops
  leaves_are =
      ap (λ bytes. leaves_from s h m 0 Before ++ (leaf s h (length (leaves_from s h m 0 Before)) bytes ∷ [])) last_is
      ∙ sym (leaves_ended s h m Before parted.last) ∙ ap (leaves_from s h m 0) (sym parted.parted)

  floor_is : (commit : Op) (floor : ℕ) → commit ≡ parted.last → m.floor commit ≡ Some floor → floor ≡ floor_of m ops
  floor_is commit floor here floored = sym (parted.floor ∙ floor_one (sym (ap m.floor here) ∙ floored))
    where
      floor_one : m.floor parted.last ≡ Some floor → floor_of m (parted.last ∷ []) ≡ floor
      floor_one e = rw e refl

  -- what is derived of the leaves before it and of its own is derived of the list
  pub verified_is : (commit : Op) (floor : ℕ) → commit ≡ parted.last → m.floor commit ≡ Some floor
      → verified_leaves {F = F} s h (leaves_from s h m 0 Before ++ (leaf s h (length (leaves_from s h m 0 Before)) w.op_bytes ∷ [])) w.op_bytes floor ≡ verified_of s h m ops
  verified_is commit floor here floored =
      let bytes : w.op_bytes ≡ last_bytes s h m ops (length ops) = ap (λ (x : Witness F D). x.op_bytes) is in
      ap (λ ds. verified_leaves {F = F} s h ds w.op_bytes floor) leaves_are
      ∙ ap (λ bs. verified_leaves {F = F} s h (leaves_from s h m 0 ops) bs floor) bytes
      ∙ ap (verified_leaves {F = F} s h (leaves_from s h m 0 ops) (last_bytes s h m ops (length ops))) (floor_is commit floor here floored)

  -- and the proof of its commit is the list's
  pub shown_is : IsLawful s → (commit : Op) (floor : ℕ) (v : Witness F D) (proof : Proof F D) → commit ≡ parted.last → m.floor commit ≡ Some floor → v ≡ w
      → ProvesCommit s h w floor proof → IsShownOf v proof (verified_of s h m ops)
  shown_is lawful commit floor v proof here floored same of =
      let leaves = leaves_from s h m 0 ops in
      let whole : w.size ≡ length leaves = size_is ∙ sym (length-leaves_from s h m 0 ops) in
      let proves = of.proves (leaves_from s h m 0 Before) (front_count (w.size - 1) refl) (front_pins (w.size - 1) w.pinned_nodes refl refl) in (
        same ∙ is ∙ sym (made_is s h m lawful ops),
        proves ∙ ap (λ ds. proof_of s h ds (inactive s w.size floor) (meets (w.size - 1) w.size)) leaves_are
            ∙ ap (λ f. proof_of s h leaves (inactive s w.size f) (meets (w.size - 1) w.size)) (floor_is commit floor here floored)
            ∙ ap (λ n. proof_of s h leaves (inactive s n (floor_of m ops)) (meets (n - 1) n)) whole,
      )

  pub commit_last : (commit : Op) → commit ≡ parted.last → slice_get ops (length ops - 1) ≡ Some commit
  commit_last commit here = parted.here ∙ ap Some (sym here)

  pub state_is : (commit : Op) (floor : ℕ) (tip : VerifiedWitness F D) (tree : Tree D) → commit ≡ parted.last → m.floor commit ≡ Some floor
      → IsRestored s h (leaves_from s h m 0 Before ++ (leaf s h (length (leaves_from s h m 0 Before)) w.op_bytes ∷ [])) w.op_bytes floor (tip, tree)
      → IsStateOf s h m ops tip tree commit
  state_is commit floor tip tree here floored made = record {
    ends = ends;
    few = few;
    tip_is = made.0 ∙ verified_is commit floor here floored;
    tree_of = subst (λ ds. IsOf s h ds tree) leaves_are made.1;
    commit_is = commit_last commit here;
  }

pub at_last : {X : Type 0} (xs : List X) (x : X) → slice_get (xs ++ (x ∷ [])) (length (xs ++ (x ∷ [])) - 1) ≡ Some x
at_last [] x = refl
at_last (y ∷ xs) x =
    let n : length (y ∷ (xs ++ (x ∷ []))) - 1 ≡ suc (length (xs ++ (x ∷ [])) - 1) = omega (arith, length-append xs (x ∷ [])) in
    rw n (at_last xs x)

-- ---- an operation behind a list

module _ {D Op V : Type 0} (s : Shape) (h : Hashing D) (m : Meaning Op V) where
  bytes_last : (xs : List Op) (op : Op) → last_bytes s h m (xs ++ (op ∷ [])) (length (xs ++ (op ∷ []))) ≡ m.encoding op
  bytes_last [] op = refl
  bytes_last (y ∷ xs) op =
      let n : length (y ∷ (xs ++ (op ∷ []))) - 1 ≡ suc (length (xs ++ (op ∷ [])) - 1) = omega (arith, length-append xs (op ∷ [])) in
      rw n (bytes_last xs op)

  pub imported_is : {F : Type 0} (before : List Op) (op : Op) (floor : ℕ) (bytes : List ℕ) (tip : VerifiedWitness F D) (tree : Tree D) → bytes ≡ m.encoding op
      → m.floor op ≡ Some floor → length before < 2 ^ 62
      → IsRestored s h (leaves_from s h m 0 before ++ (leaf s h (length (leaves_from s h m 0 before)) bytes ∷ [])) bytes floor (tip, tree)
      → IsStateOf s h m (before ++ (op ∷ [])) tip tree op
  imported_is before op floor bytes tip tree spelled floored few made =
      let leaves : leaves_from s h m 0 before ++ (leaf s h (length (leaves_from s h m 0 before)) bytes ∷ []) ≡ leaves_from s h m 0 (before ++ (op ∷ [])) =
      ap (λ bs. leaves_from s h m 0 before ++ (leaf s h (length (leaves_from s h m 0 before)) bs ∷ [])) spelled ∙ sym (leaves_ended s h m before op) in
      let last : bytes ≡ last_bytes s h m (before ++ (op ∷ [])) (length (before ++ (op ∷ []))) = spelled ∙ sym (bytes_last before op) in
      let low : floor ≡ floor_of m (before ++ (op ∷ [])) = sym (floor_last m before op floor floored) in
      record {
        ends = ends_last m before op (subst (λ o. IsSome o) (sym floored) refl);
        few = omega (arith, few, length-append before (op ∷ []));
        tip_is = made.0 ∙ ap (λ ds. verified_leaves s h ds bytes floor) leaves
            ∙ ap (λ bs. verified_leaves s h (leaves_from s h m 0 (before ++ (op ∷ []))) bs floor) last
            ∙ ap (verified_leaves s h (leaves_from s h m 0 (before ++ (op ∷ []))) (last_bytes s h m (before ++ (op ∷ [])) (length (before ++ (op ∷ []))))) low;
        tree_of = subst (λ ds. IsOf s h ds tree) leaves made.1;
        commit_is = at_last before op;
      }

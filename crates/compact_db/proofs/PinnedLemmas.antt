-- The pins of a witness, as nodes of its tree, and the proof of its commit.
use Rattle.std.proofs.Common.{◌≡◌, ℕ, zero, suc, ◌+◌, ◌-◌, ◌^◌, ◌<◌, ◌≤◌, inl, inr, List, [], ◌∷◌, ◌++◌, length, map, drop, Option, Some, None, refl, sym, ◌∙◌, ap, subst, arith}
use Rattle.std.specs.List.{AllByRecursion}
use Rattle.std.specs.Option.{option_map}
use Rattle.std.specs.Prelude.{slice_get, zip}
use Rattle.std.proofs.lemmas.Bool.Decides.{eqb_tells}
use Rattle.std.proofs.lemmas.List.{drop_all, length-append}
use Rattle.std.proofs.lemmas.Option.{slice_get_within, slice_get-map, same_Some}
use Rattle.tree_shape.specs.Hashing.{Hashing}
use Rattle.tree_shape.specs.Pins.{pins, position_of}
use Rattle.tree_shape.specs.Shape.{Shape, IsLawful, PeaksStand, Stands, inactive, made, peaks, peaks_down}
use Rattle.tree_shape.specs.Slow.{leaf, nodes, node_of}
use Rattle.tree_shape.proofs.PeakLemmas.{all-reverse}
use Rattle.tree_proof.specs.Cover.{meets}
use Rattle.tree_proof.specs.declared.proof.Proof.{Proof}
use Rattle.tree_store.specs.Stores.{IsTreeOf}
use Rattle.tree_verification.specs.Ranges.{HasForm, IsProofIn}
use Rattle.tree_core.specs.KeptNodes.{entry_at}
use Rattle.tree_core.specs.Tree.{Tree, IsOf, node_at}
use Rattle.tree_core.proofs.KeptNodesLemmas.{entry_here, entry_on}
use Rattle.tree_core.proofs.Later.{get_front, nodes-grow}
use Rattle.witness_store.specs.declared.witness.Witness.{Witness}
use Rattle.compact_db.specs.Derived.{ProvesLast}
use Rattle.compact_db.specs.Pinned.{pin_at, ProvesCommit}

-- ---- the pins are nodes of each tree before which they are the peaks

all_stand : (s : Shape) (cs : List (ℕ × ℕ)) (e : ℕ) (ks : List ℕ) → PeaksStand s cs e ks
    → AllByRecursion (λ c. Stands cs (position_of s c) c.0 c.1) (peaks_down e ks)
all_stand s cs e [] st = tt
all_stand s cs e (k ∷ ks) st = (st.1, all_stand s cs (e - 2 ^ k) ks st.2)

pin_stands : {D : Type 0} (s : Shape) (all cs : List (ℕ × ℕ)) (f : ℕ × ℕ → D) (p : ℕ) (d : D)
    → AllByRecursion (λ c. Stands all (position_of s c) c.0 c.1) cs
    → entry_at (zip (map (position_of s) cs) (map f cs)) p ≡ Some d → (c : ℕ × ℕ) × Stands all p c.0 c.1 × (f c ≡ d)
pin_stands s all [] f p d stand is = absurd cc
pin_stands s all (c ∷ cs) f p d stand is =
    let rest = zip (map (position_of s) cs) (map f cs) in
    elim (eqb_tells p (position_of s c)) [
      | inl t ↦ (c, subst (λ q. Stands all q c.0 c.1) (sym t.1) stand.0, same_Some (f c) d (sym (entry_here rest (position_of s c, f c) p t.1) ∙ is))
      | inr t ↦ pin_stands s all cs f p d stand.1 (sym (entry_on rest (position_of s c, f c) p t.1) ∙ is)
    ]

pub pins_tree : {D : Type 0} (s : Shape) (h : Hashing D) (all : List D) (last : D) (ds : List D) (n : ℕ) → IsLawful s → n ≡ length all
    → ds ≡ map (node_of s h all) (peaks s n) → IsTreeOf s h (all ++ (last ∷ [])) (n + 1) (pin_at s n ds)
pins_tree s h all last ds n w count are = record {
  count = omega (arith, count, length-append all (last ∷ []));
  right = λ p d is.
      let stand = all-reverse (λ c. Stands (made s n) (position_of s c) c.0 c.1) (peaks_down n (s.heights n)) (all_stand s (made s n) n (s.heights n) (w.peaks n)) in
      let one = pin_stands s (made s n) (peaks s n) (node_of s h all) p d stand (ap (λ xs. entry_at (zip (pins s n) xs) p) (sym are) ∙ is) in
      let there : slice_get (nodes s h all) p ≡ Some d =
      slice_get-map (node_of s h all) (made s (length all)) p ∙ ap (λ m. option_map (node_of s h all) (slice_get (made s m) p)) (sym count)
      ∙ ap (option_map (node_of s h all)) one.1 ∙ ap Some one.2 in
      ap (λ ns. slice_get ns p) (nodes-grow s h all (last ∷ []) w)
      ∙ get_front (nodes s h all) _ p (slice_get_within (nodes s h all) p d there) ∙ there;
}

-- ---- the proof of the commit

module _ {F D : Type 0} (s : Shape) (h : Hashing D) (w : Witness F D) (floor : ℕ) (proof : Proof F D) where
  -- a store that is a tree's, of each list before whose last leaf the pins are the peaks
  told_proof : (told : ℕ → Option D) → HasForm s w.size (inactive s w.size floor) (meets (w.size - 1) w.size) proof
      → IsProofIn s told w.size (inactive s w.size floor) (meets (w.size - 1) w.size) proof
      → ((all : List D) → w.size - 1 ≡ length all → w.pinned_nodes ≡ map (node_of s h all) (peaks s (w.size - 1))
      → IsTreeOf s h (all ++ (leaf s h (length all) w.op_bytes ∷ [])) w.size told) → ProvesCommit s h w floor proof
  told_proof told form is of = record {
    form = form;
    proves = λ all count are. is h (all ++ (leaf s h (length all) w.op_bytes ∷ [])) (of all count are);
  }

  -- by the pins
  pub pins_proof : (n first end size k : ℕ) (ds : List D) → IsLawful s → 0 < w.size → n ≡ w.size - 1 → first ≡ w.size - 1 → end ≡ w.size → size ≡ w.size
      → k ≡ inactive s w.size floor → ds ≡ w.pinned_nodes → HasForm s size k (meets first end) proof
      → IsProofIn s (pin_at s n ds) size k (meets first end) proof → ProvesCommit s h w floor proof
  pins_proof n first end size k ds lawful some before from up count folded pinned form is =
      let told : ℕ → Option D = pin_at s (w.size - 1) w.pinned_nodes in
      let there : IsProofIn s told w.size (inactive s w.size floor) (meets (w.size - 1) w.size) proof =
      subst (λ n. IsProofIn s (pin_at s n w.pinned_nodes) w.size (inactive s w.size floor) (meets (w.size - 1) w.size) proof) before
      (subst (λ ds. IsProofIn s (pin_at s n ds) w.size (inactive s w.size floor) (meets (w.size - 1) w.size) proof) pinned
      (subst (λ a. IsProofIn s (pin_at s n ds) w.size (inactive s w.size floor) (meets a w.size) proof) from
      (subst (λ b. IsProofIn s (pin_at s n ds) w.size (inactive s w.size floor) (meets first b) proof) up
      (subst (λ i. IsProofIn s (pin_at s n ds) w.size i (meets first end) proof) folded
      (subst (λ m. IsProofIn s (pin_at s n ds) m k (meets first end) proof) count is))))) in
      let formed : HasForm s w.size (inactive s w.size floor) (meets (w.size - 1) w.size) proof =
      subst (λ a. HasForm s w.size (inactive s w.size floor) (meets a w.size) proof) from
      (subst (λ b. HasForm s w.size (inactive s w.size floor) (meets first b) proof) up
      (subst (λ i. HasForm s w.size i (meets first end) proof) folded
      (subst (λ m. HasForm s m k (meets first end) proof) count form))) in
      let one : w.size - 1 + 1 ≡ w.size = omega (arith, some) in
      told_proof told formed there (λ all long are.
      subst (λ m. IsTreeOf s h (all ++ (leaf s h (length all) w.op_bytes ∷ [])) m told) one
      (pins_tree s h all (leaf s h (length all) w.op_bytes) w.pinned_nodes (w.size - 1) lawful long are))

  -- by a tree
  pub tree_proof : (t : Tree D) → t.leaves ≡ w.size → ProvesLast s t floor proof
      → ((all : List D) → w.size - 1 ≡ length all → w.pinned_nodes ≡ map (node_of s h all) (peaks s (w.size - 1))
      → IsOf s h (all ++ (leaf s h (length all) w.op_bytes ∷ [])) t) → ProvesCommit s h w floor proof
  tree_proof t count proves of =
      told_proof (node_at t)
      (subst (λ m. HasForm s m (inactive s m floor) (meets (m - 1) m) proof) count proves.form)
      (subst (λ m. IsProofIn s (node_at t) m (inactive s m floor) (meets (m - 1) m) proof) count proves.proof)
      (λ all long are. subst (λ m. IsTreeOf s h (all ++ (leaf s h (length all) w.op_bytes ∷ [])) m (node_at t)) count (of all long are))

-- ---- looking a pin up

-- it isn't the next one
pub pin_on : {D : Type 0} (left : List ℕ) (ds : List D) (i p q : ℕ) (back : List ℕ) → left ≡ q ∷ back → i < length ds → (p ≡ q → ⊥)
    → entry_at (zip left (drop i ds)) p ≡ entry_at (zip back (drop (suc i) ds)) p
pin_on {D} left ds i p q back is lt apart = ap (λ qs. entry_at (zip qs (drop i ds)) p) is ∙ on ds i lt
  where
    on : (xs : List D) (j : ℕ) → j < length xs → entry_at (zip (q ∷ back) (drop j xs)) p ≡ entry_at (zip back (drop (suc j) xs)) p
    on [] j less = absurd (omega (arith, less))
    on (x ∷ xs) zero less = entry_on (zip back xs) (q, x) p apart
    on (x ∷ xs) (suc j) less = on xs j (omega (arith, less))

-- none is left
pub no_pin : {D : Type 0} (left : List ℕ) (ds : List D) (i p : ℕ) → length ds ≤ i → entry_at (zip left (drop i ds)) p ≡ None
no_pin {D} left ds i p le = ap (λ xs. entry_at (zip left xs) p) (drop_all i ds le) ∙ none_beside left
  where
    none_beside : (qs : List ℕ) → entry_at (zip qs (let none : List D = [] in none)) p ≡ None
    none_beside [] = refl
    none_beside (q ∷ qs) = refl

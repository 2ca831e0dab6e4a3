-- What is read of a tree where peaks stand, of whichever list it is.
use Rattle.std.proofs.Common.{◌≡◌, ℕ, ◌-◌, ◌^◌, ◌<◌, inl, inr, List, [], ◌∷◌, ◌++◌, length, map, reverse, get_or, Option, Some, refl, sym, ◌∙◌, ap, subst, arith}
use Rattle.std.proofs.lemmas.List.{append-nil, same_lists, reverse-reverse}
use Rattle.std.proofs.lemmas.Option.{slice_get_within}
use Rattle.tree_shape.specs.Kept.{PeakIn, PeakOf}
use Rattle.tree_shape.specs.Pins.{pins, position_of}
use Rattle.tree_shape.specs.Hashing.{Hashing}
use Rattle.tree_shape.specs.Root.{root, root_over}
use Rattle.tree_shape.specs.Shape.{Shape, inactive, made, peaks_down, IsLawful}
use Rattle.tree_shape.specs.declared.bagging.Bagging.{Bagging}
use Rattle.tree_shape.specs.declared.bagging.Bagging.TheVariants.{ForwardFold}
use Rattle.tree_shape.proofs.NodeLemmas.{map-reverse}
use Rattle.tree_proof.specs.declared.proof.Proof.{Proof}
use Rattle.tree_core.specs.Reading.{ArePeaks}
use Rattle.tree_core.specs.Tree.{Tree, node_at}
use Rattle.tree_core.proofs.MarkLemmas.{mark_peaks}
use Rattle.tree_core.proofs.PrunedLemmas.{peak_stands}
use Rattle.witness_store.specs.declared.witness.Witness.{Witness}
use Rattle.compact_db.specs.Derived.{ArePinsIn, IsRootOver}
use Rattle.compact_db.specs.Verified.{root_under, IsShownOf}
use Rattle.compact_db.specs.declared.verified.VerifiedWitness.{VerifiedWitness}
use Rattle.compact_db.proofs.PinLemmas.{pins_are}

-- all positions were read
pub all_read : {D : Type 0} (s : Shape) (t : Tree D) (n : ℕ) (read : List D) (yielded left : List ℕ)
    → map Some read ≡ map (node_at t) yielded → left ≡ [] → yielded ++ left ≡ pins s n → ArePinsIn s t n read
all_read s t n read yielded left told end whole =
    told ∙ ap (map (node_at t)) (sym (append-nil yielded) ∙ ap (λ ps. yielded ++ ps) (sym end) ∙ whole)

-- two readers that agree at the peaks
read_alike : {D : Type 0} (f g : ℕ × ℕ → Option D) (e : ℕ) (ks : List ℕ)
    → ((x k : ℕ) → PeakIn e ks x k → f (x, k) ≡ g (x, k)) → map f (peaks_down e ks) ≡ map g (peaks_down e ks)
read_alike f g e [] same = refl
read_alike f g e (k ∷ ks) same =
    ap (λ o. o ∷ map f (peaks_down (e - 2 ^ k) ks)) (same (e - 2 ^ k) k (inl (refl, refl)))
    ∙ ap (λ os. g (e - 2 ^ k, k) ∷ os) (read_alike f g (e - 2 ^ k) ks (λ x j p. same x j (inr p)))

-- the peaks are read once
peaks_once : {D : Type 0} (s : Shape) (n : ℕ) (t : ℕ → ℕ → Option D) (ds es : List D) → ArePeaks s n t ds → ArePeaks s n t es → ds ≡ es
peaks_once s n t ds es first second =
    same_lists ds es (first.counted ∙ sym second.counted) (λ j d lt.
    let a = first.told j d (omega (arith, lt, first.counted)) in
    let b = second.told j d (omega (arith, lt, first.counted)) in
    let both : Some (get_or ds j d) ≡ Some (get_or es j d) = sym a ∙ b in
    cc)

-- pins of a tree are its peaks
pub pins_peaks : {D : Type 0} (s : Shape) (t : Tree D) (n : ℕ) (ds : List D) → ArePinsIn s t n ds → ArePeaks s n (λ x k. node_at t (s.position x k)) ds
pins_peaks {D} s t n ds are =
    let down : map Some (reverse ds) ≡ map (λ c. node_at t (position_of s c)) (peaks_down n (s.heights n)) =
    map-reverse Some ds ∙ ap reverse (are ∙ pins_are (node_at t) s n) ∙ reverse-reverse (map (λ c. node_at t (position_of s c)) (peaks_down n (s.heights n))) in
    subst (λ (xs : List D). ArePeaks s n (λ x k. node_at t (s.position x k)) xs) (reverse-reverse ds)
    (mark_peaks s n (λ x k. node_at t (s.position x k)) (reverse ds) down)

-- a peak stands among the nodes of its tree
peak_before : (s : Shape) (n x k : ℕ) → IsLawful s → PeakOf s n x k → s.position x k < length (made s n)
peak_before s n x k w peak =
    slice_get_within (made s n) (s.position x k) (x, k) (peak_stands s (made s n) n (s.heights n) x k (w.peaks n) peak)

-- the pins that a tree was made of are read of a longer one
pub pins_given : {D : Type 0} (s : Shape) (t u : Tree D) (n : ℕ) (given read : List D) → IsLawful s → t.leaves ≡ n
    → ArePeaks s n (λ x k. node_at t (s.position x k)) given → ((p : ℕ) → p < length (made s t.leaves) → node_at u p ≡ node_at t p)
    → ArePinsIn s u n read → read ≡ given
pins_given s t u n given read w at are same pinned =
    let alike = read_alike (λ c. node_at u (position_of s c)) (λ c. node_at t (position_of s c)) n (s.heights n)
    (λ x k peak. same (s.position x k) (subst (λ m. s.position x k < length (made s m)) (sym at) (peak_before s n x k w peak))) in
    let before : ArePinsIn s t n read =
    pinned ∙ pins_are (node_at u) s n ∙ ap reverse alike ∙ sym (pins_are (node_at t) s n) in
    peaks_once s n (λ x k. node_at t (s.position x k)) read given (pins_peaks s t n read before) are

-- a witness by its parts
pub witness_by : {F D : Type 0} (w : Witness F D) (bytes : List ℕ) (n : ℕ) (pins : List D) → w.op_bytes ≡ bytes → w.size ≡ n → w.pinned_nodes ≡ pins
    → w ≡ record { op_bytes = bytes; size = n; pinned_nodes = pins }
witness_by w bytes n pins p q r i = record { op_bytes = p i; size = q i; pinned_nodes = r i }

-- what is derived of a state, by what is shown of it and the root
pub verified_by : {F D : Type 0} (w : Witness F D) (d : D) (p : Proof F D) (v : VerifiedWitness F D) → IsShownOf w p v → d ≡ v.root
    → (let one : VerifiedWitness F D = record { witness = w; root = d; proof = p } in one) ≡ v
verified_by w d p v shown root i = record { witness = shown.0 i; root = root i; proof = shown.1 i }

-- the root of leaves under a floor, by the inactive peaks and the fold
pub root_under_is : {D : Type 0} (s : Shape) (h : Hashing D) (all : List D) (below floor k n : ℕ) (b : Bagging) (d : D) → k ≡ inactive s n below
    → n ≡ length all → below ≡ floor → b ≡ ForwardFold → d ≡ root s h all k b → d ≡ root_under s h all floor
root_under_is s h all below floor k n b d count size same forward is =
    is ∙ ap (λ j. root s h all j b) (count ∙ ap (λ m. inactive s m below) size ∙ ap (inactive s (length all)) same)
    ∙ ap (root s h all (inactive s (length all) floor)) forward

-- and that over a tree's peaks
pub root_over_is : {D : Type 0} (s : Shape) (h : Hashing D) (t : Tree D) (below floor k n : ℕ) (b : Bagging) (d : D) → k ≡ inactive s n below
    → n ≡ t.leaves → below ≡ floor → b ≡ ForwardFold
    → ((ds : List D) → ArePeaks s t.leaves (λ x j. node_at t (s.position x j)) ds → d ≡ root_over h t.leaves ds k b) → IsRootOver s h t floor d
root_over_is s h t below floor k n b d count size same forward is ds are =
    is ds are ∙ ap (λ j. root_over h t.leaves ds j b) (count ∙ ap (λ m. inactive s m below) size ∙ ap (inactive s t.leaves) same)
    ∙ ap (root_over h t.leaves ds (inactive s t.leaves floor)) forward

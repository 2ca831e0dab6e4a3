-- Segments from one of them on.
use Rattle.std.specs.Prelude.{not}
use Rattle.std.specs.Cmp.Lexicographic.{pointwise}
use Rattle.std.specs.Prelude.{nat_eq}
use Rattle.std.proofs.lemmas.Bool.Decides.{Decides-eqb}
use Rattle.std.proofs.lemmas.Slice.Eq.{slice_eq-Decides}
use Rattle.std.proofs.Common.{◌≡◌, Bool, true, false, ℕ, zero, suc, ◌+◌, ◌-◌, ◌^◌, ◌<◌, ◌≤◌, List, [], ◌∷◌, ◌++◌, length, map, take, drop, get_or, Some, Option, refl, sym, ◌∙◌, ap, subst, arith, length-append, length-drop, append_assoc}
use Rattle.std.specs.Prelude.{slice_get}
use Rattle.std.proofs.lemmas.List.{map-append, length-map}
use Rattle.std.proofs.lemmas.Option.{same_Some, slice_get-map}
use Rattle.std.specs.Option.{option_map}
use Rattle.tree_shape.specs.Hashing.{Hashing}
use Rattle.tree_shape.specs.Shape.{Shape, made, PeaksStand, IsLawful}
use Rattle.tree_shape.specs.Kept.{KeepsPeaks}
use Rattle.tree_shape.specs.Slow.{leaf_at, node_of, peak_digests}
use Rattle.tree_proof.proofs.RebuildLemmas.{append_nil}
use Rattle.tree_core.proofs.MemLemmas.{node-append, map-nodes-append}
use Rattle.tree_store.proofs.StoreLemmas.{take-next}
use Rattle.tree_core.specs.Pruned.{made_from, nodes_from, peaks_at, Extends, Continues}
use Rattle.tree_store.specs.Stores.{IsTreeOf}
use Rattle.tree_core.specs.Links.{ChainSegment, IsLinked, IsLinkedOf, joined_nodes, HasMark, IsChainOf, first_leaves}
use Rattle.tree_core.proofs.Later.{stands_since, get_past, get_front, made_from-split, nodes_same, peaks_at-append, tree_grown}

pub linked_from : {D : Type 0} (s : Shape) (n : ℕ) (gs : List (ChainSegment D)) (m i c : ℕ) (ps : List D) → IsLinked s n gs m → HasMark gs i c ps → IsLinked s c (drop i gs) m
linked_from s n [] m i c ps l k = absurd k
linked_from {D = D} s n (g ∷ gs) m zero c ps l k = let P : ℕ → Type 0 = λ j. IsLinked s j (g ∷ gs) m in subst P (sym l.0.starts ∙ k.0) l
linked_from s n (g ∷ gs) m (suc i) c ps l k = linked_from s (n + g.later) gs m i c ps l.1 k

pub linked_of_from : {D : Type 0} (s : Shape) (h : Hashing D) (all : List D) (n : ℕ) (gs : List (ChainSegment D)) (i c : ℕ) (ps : List D) → IsLinkedOf s h all n gs → HasMark gs i c ps
    → IsLinkedOf s h all c (drop i gs) × (ps ≡ peaks_at s h all c)
linked_of_from s h all n [] i c ps l k = absurd k
linked_of_from {D = D} s h all n (g ∷ gs) zero c ps l k =
    let P : ℕ → Type 0 = λ j. IsLinkedOf s h all j (g ∷ gs) in
    (subst P (sym l.0 ∙ k.0) l, sym k.1 ∙ l.1 ∙ ap (peaks_at s h all) (sym l.0 ∙ k.0))
linked_of_from s h all n (g ∷ gs) (suc i) c ps l k = linked_of_from s h all (n + g.later) gs i c ps l.3 k

pub joined_length : {D : Type 0} (s : Shape) (n : ℕ) (gs : List (ChainSegment D)) (m : ℕ) → IsLinked s n gs m → (n ≤ m) × (length (joined_nodes gs) ≡ length (made_from s n (m - n)))
unfolding made_from
joined_length s n [] m l = (omega (arith, l), (let e : m - n ≡ 0 = omega (arith, l) in rw e refl))
joined_length s n (g ∷ gs) m l =
    let r = joined_length s (n + g.later) gs m l.1 in
    let e : m - n ≡ g.later + (m - (n + g.later)) = omega (arith, r.0) in
    (omega (arith, r.0), rw e (length-append g.nodes (joined_nodes gs) ∙ omega (arith, l.0.counted, r.1, ap length (made_from-split s n g.later (m - (n + g.later))), length-append (made_from s n g.later) (made_from s (n + g.later) (m - (n + g.later))))))

pub joined_of : {D : Type 0} (s : Shape) (h : Hashing D) (all : List D) (n : ℕ) (gs : List (ChainSegment D)) → IsLinkedOf s h all n gs → (n ≤ length all) × (joined_nodes gs ≡ nodes_from s h all n (length all - n))
unfolding made_from
joined_of s h all n [] l = (omega (arith, l), (let e : length all - n ≡ 0 = omega (arith, l) in rw e refl))
joined_of s h all n (g ∷ gs) l =
    let r = joined_of s h all (n + g.later) gs l.3 in
    let e : length all - n ≡ g.later + (length all - (n + g.later)) = omega (arith, r.0) in (
      omega (arith, r.0),
      rw e (ap (λ ns. ns ++ joined_nodes gs) l.2 ∙ ap (λ ns. nodes_from s h all n g.later ++ ns) r.1
          ∙ sym (ap (map (node_of s h all)) (made_from-split s n g.later (length all - (n + g.later))) ∙ map-append (node_of s h all) (made_from s n g.later) (made_from s (n + g.later) (length all - (n + g.later))))),
    )

drop_leaf : {D : Type 0} (h : Hashing D) (all made : List D) (x : ℕ) → length all ≤ x → leaf_at h made x ≡ leaf_at h (all ++ drop (length all) made) x
drop_leaf h [] made x le = refl
drop_leaf h (a ∷ all) [] x le = past (a ∷ (all ++ [])) x (let l = length-append all [] in omega (arith, le, l))
  where
    past : (xs : List _) (i : ℕ) → length xs ≤ i → h.digest [] ≡ get_or xs i (h.digest [])
    past [] i le = refl
    past (y ∷ xs) zero le = absurd (omega arith)
    past (y ∷ xs) (suc i) le = past xs i (omega arith)
drop_leaf h (a ∷ all) (b ∷ made) zero le = absurd (omega arith)
drop_leaf h (a ∷ all) (b ∷ made) (suc x) le = drop_leaf h all made x (omega arith)

-- what a batch adds to a tree with the same mark
pub batch_applied : {D : Type 0} (s : Shape) (h : Hashing D) (all other : List D) (n first i m : ℕ) (ps : List D) (gs : List (ChainSegment D)) (f g : ℕ → Option D) → IsLawful s → KeepsPeaks s
    → IsTreeOf s h all n f → ps ≡ peaks_at s h all n → IsLinkedOf s h other first gs → HasMark gs i n ps → m ≡ length other
    → Extends f g (length (made s n)) (joined_nodes (drop i gs)) → IsTreeOf s h (all ++ drop (length all) other) m g
batch_applied s h all other n first i m ps gs f g w q t ep l k em x =
    let from = linked_of_from s h other first gs i n ps l k in
    let j = joined_of s h other n (drop i gs) from.0 in
    let en : n ≡ length all = t.count in
    let more : length (drop (length all) other) ≡ length other - n = length-drop (length all) other ∙ omega (arith, en) in
    let peaks : peaks_at s h other (length all) ≡ peaks_at s h (all ++ drop (length all) other) (length all) =
    ap (peaks_at s h other) (sym en) ∙ sym from.1 ∙ ep ∙ ap (peaks_at s h all) en ∙ sym (peaks_at-append s h all (drop (length all) other) w) in
    let told : joined_nodes (drop i gs) ≡ nodes_from s h (all ++ drop (length all) other) (length all) (length (drop (length all) other)) =
    j.1 ∙ ap (λ b. nodes_from s h other b (length other - n)) en ∙ ap (nodes_from s h other (length all)) (sym more)
    ∙ nodes_same s h other (all ++ drop (length all) other) (length all) (length (drop (length all) other)) w q (λ y le. drop_leaf h all other y le) peaks in
    tree_grown s h all (drop (length all) other) n m f g (joined_nodes (drop i gs)) w t (omega (arith, em, more, j.0)) told x.before x.since

pub same_step : {X : Type 0} (xs ys : List X) (i : ℕ) (x y : X) → length xs ≡ length ys → i < length xs → take i xs ≡ take i ys → slice_get xs i ≡ Some x → slice_get ys i ≡ Some y → x ≡ y → take (suc i) xs ≡ take (suc i) ys
same_step xs ys i x y l lt e ex ey q = take-next xs i x ex ∙ ap (λ zs. zs ++ (x ∷ [])) e ∙ ap (λ z. take i ys ++ (z ∷ [])) q ∙ sym (take-next ys i y ey)

pub mark_at : {D X : Type 0} (f : X → ChainSegment D) (xs : List X) (i n : ℕ) (x : X) (ps : List D) → slice_get xs i ≡ Some x → HasMark (map f xs) i n ps → ((f x).leaves ≡ n) × ((f x).peaks ≡ ps)
mark_at f [] i n x ps e k = absurd k
mark_at {D = D} f (y ∷ xs) zero n x ps e k = let q : y ≡ x = same_Some y x e in let P : _ → Type 0 = λ z. ((f z).leaves ≡ n) × ((f z).peaks ≡ ps) in subst P q k
mark_at f (y ∷ xs) (suc i) n x ps e k = mark_at f xs i n x ps e k

pub mark_within : {D : Type 0} (gs : List (ChainSegment D)) (i n : ℕ) (ps : List D) → HasMark gs i n ps → i < length gs
mark_within [] i n ps k = absurd k
mark_within (g ∷ gs) zero n ps k = omega arith
mark_within (g ∷ gs) (suc i) n ps k = let r = mark_within gs i n ps k in omega arith

pub joined_step : {D X : Type 0} (f : X → ChainSegment D) (xs : List X) (i : ℕ) (x : X) → slice_get xs i ≡ Some x → joined_nodes (drop i (map f xs)) ≡ (f x).nodes ++ joined_nodes (drop (suc i) (map f xs))
joined_step f [] i x e = absurd (cc)
joined_step f (y ∷ xs) zero x e = let q : y ≡ x = same_Some y x e in ap (λ z. (f z).nodes ++ joined_nodes (map f xs)) q
joined_step f (y ∷ xs) (suc i) x e = joined_step f xs i x e

not_false : (b : Bool) → false ≡ not b → b ≡ true
not_false true e = refl
not_false false e = absurd (cc)

pub bytes_same : (xs ys : List ℕ) → false ≡ not (pointwise nat_eq xs ys) → xs ≡ ys
bytes_same xs ys e = (slice_eq-Decides Decides-eqb xs ys (pointwise nat_eq xs ys) refl).0 (not_false (pointwise nat_eq xs ys) e)

pub mark_within_map : {D X : Type 0} (f : X → ChainSegment D) (xs : List X) (i n : ℕ) (ps : List D) → HasMark (map f xs) i n ps → i < length xs
mark_within_map f xs i n ps k = let w = mark_within (map f xs) i n ps k in let l = length-map xs f in omega (arith, w, l)

pub joined_past : {D X : Type 0} (f : X → ChainSegment D) (xs : List X) (i : ℕ) → length xs ≤ i → joined_nodes (drop i (map f xs)) ≡ []
joined_past f [] zero le = refl
joined_past f [] (suc i) le = refl
joined_past f (x ∷ xs) zero le = absurd (omega arith)
joined_past f (x ∷ xs) (suc i) le = joined_past f xs i (omega arith)

pub ends_with : {D : Type 0} (s : Shape) (h : Hashing D) (all : List D) (n : ℕ) (gs : List (ChainSegment D)) (m : ℕ) → IsLinked s n gs m → IsLinkedOf s h all n gs → m ≡ length all
ends_with s h all n [] m l k = sym l ∙ k
ends_with s h all n (g ∷ gs) m l k = ends_with s h all (n + g.later) gs m l.1 k.3

-- the peaks of the first n leaves, in a longer list
peaks_within : {D : Type 0} (s : Shape) (h : Hashing D) (all more : List D) (n : ℕ) → IsLawful s → n ≤ length all → peaks_at s h (all ++ more) n ≡ peaks_at s h all n
peaks_within s h all more n w le = along n (s.heights n) (w.peaks n) le
  where
    along : (e : ℕ) (hs : List ℕ) → PeaksStand s (made s n) e hs → e ≤ length all → peak_digests s h (all ++ more) e hs ≡ peak_digests s h all e hs
    along e [] p l = refl
    along e (c ∷ cs) p l = rw (node-append s h all more (e - 2 ^ c) c (omega (arith, p.0)), along (e - 2 ^ c) cs p.2 (omega arith)) refl

nodes_within : {D : Type 0} (s : Shape) (h : Hashing D) (all more : List D) (n j : ℕ) → IsLawful s → n + j ≤ length all → nodes_from s h (all ++ more) n j ≡ nodes_from s h all n j
nodes_within s h all more n j w le =
    map-nodes-append s h all more (made_from s n j) (λ i x k at. let b = (w.well_made (n + j)).within (length (made s n) + i) x k (stands_since s n j i x k at) in omega arith)

-- one more segment
pub linked_push : {D : Type 0} (s : Shape) (n : ℕ) (gs : List (ChainSegment D)) (m : ℕ) (g : ChainSegment D) → IsLinked s n gs m → g.leaves ≡ m → length g.nodes ≡ length (made_from s m g.later) → IsLinked s n (gs ++ (g ∷ [])) (m + g.later)
linked_push s n [] m g l e c = (record { starts = e ∙ sym l; counted = c ∙ ap (λ b. length (made_from s b g.later)) (sym l) }, ap (λ b. b + g.later) l)
linked_push s n (f ∷ fs) m g l e c = (l.0, linked_push s (n + f.later) fs m g l.1 e c)

pub linked_of_push : {D : Type 0} (s : Shape) (h : Hashing D) (all more : List D) (n : ℕ) (gs : List (ChainSegment D)) (g : ChainSegment D) → IsLawful s → IsLinkedOf s h all n gs
    → g.leaves ≡ length all → g.peaks ≡ peaks_at s h all (length all) → g.later ≡ length more → g.nodes ≡ nodes_from s h (all ++ more) (length all) (length more) → IsLinkedOf s h (all ++ more) n (gs ++ (g ∷ []))
linked_of_push s h all more n [] g w l e p j c = (
  e ∙ sym l,
  p ∙ sym (peaks_within s h all more (length all) w (omega arith)) ∙ ap (peaks_at s h (all ++ more)) (sym l),
  c ∙ ap (λ b. nodes_from s h (all ++ more) b (length more)) (sym l) ∙ ap (nodes_from s h (all ++ more) n) (sym j),
  omega (arith, l, j, length-append all more),
)
linked_of_push s h all more n (f ∷ fs) g w l e p j c =
    let r = joined_of s h all (n + f.later) fs l.3 in
    (l.0, l.1 ∙ sym (peaks_within s h all more n w (omega (arith, r.0))), l.2 ∙ sym (nodes_within s h all more n f.later w r.0), linked_of_push s h all more (n + f.later) fs g w l.3 e p j c)

pub batch_push : {D : Type 0} (s : Shape) (h : Hashing D) (all more : List D) (began : ℕ) (ps : List D) (n : ℕ) (gs : List (ChainSegment D)) (g : ChainSegment D) → IsLawful s → IsChainOf s h all began ps n gs
    → g.leaves ≡ length all → g.peaks ≡ peaks_at s h all (length all) → g.later ≡ length more → g.nodes ≡ nodes_from s h (all ++ more) (length all) (length more) → IsChainOf s h (all ++ more) began ps n (gs ++ (g ∷ []))
batch_push s h all more began ps n gs g w b e p j c = record {
  linked = linked_of_push s h all more n gs g w b.linked e p j c;
  before = b.before;
  boundary = b.boundary ∙ sym (peaks_within s h all more began w (let r = joined_of s h all n gs b.linked in let le = b.before in omega (arith, r.0)));
}

pub continues : {D : Type 0} (all more : List D) → Continues (all ++ more) (length all) more
continues all more = (length-append all more, λ i. get_past all more i)

pub linked_push_map : {D X : Type 0} (s : Shape) (f : X → ChainSegment D) (n m j : ℕ) (xs ys : List X) (x : X) → ys ≡ xs ++ (x ∷ []) → IsLinked s n (map f xs) m → (f x).leaves ≡ m → (f x).later ≡ j
    → length (f x).nodes ≡ length (made_from s m j) → IsLinked s n (map f ys) (m + j)
linked_push_map {D = D} {X = X} s f n m j xs ys x e l el ej en =
    let P : List X → ℕ → Type 0 = λ zs i. IsLinked s n (map f zs) (m + i) in
    let all : map f (xs ++ (x ∷ [])) ≡ map f xs ++ (f x ∷ []) = map-append f xs (x ∷ []) in
    let pushed : IsLinked s n (map f xs ++ (f x ∷ [])) (m + (f x).later) = linked_push s n (map f xs) m (f x) l el (en ∙ ap (λ i. length (made_from s m i)) (sym ej)) in
    let Q : List (ChainSegment D) → Type 0 = λ gs. IsLinked s n gs (m + (f x).later) in
    let R : ℕ → Type 0 = λ i. IsLinked s n (map f ys) (m + i) in
    let S : List X → Type 0 = λ zs. IsLinked s n (map f zs) (m + (f x).later) in
    subst R ej (subst S (sym e) (subst Q (sym all) pushed))

pub batch_push_map : {D X : Type 0} (s : Shape) (h : Hashing D) (all more : List D) (f : X → ChainSegment D) (began : ℕ) (ps : List D) (n : ℕ) (xs ys : List X) (x : X) → IsLawful s → ys ≡ xs ++ (x ∷ []) → IsChainOf s h all began ps n (map f xs)
    → (f x).leaves ≡ length all → (f x).peaks ≡ peaks_at s h all (length all) → (f x).later ≡ length more → (f x).nodes ≡ nodes_from s h (all ++ more) (length all) (length more) → IsChainOf s h (all ++ more) began ps n (map f ys)
batch_push_map {D = D} {X = X} s h all more f began ps n xs ys x w e b el ep ej en =
    let joined : map f (xs ++ (x ∷ [])) ≡ map f xs ++ (f x ∷ []) = map-append f xs (x ∷ []) in
    let Q : List (ChainSegment D) → Type 0 = λ gs. IsChainOf s h (all ++ more) began ps n gs in
    let S : List X → Type 0 = λ zs. IsChainOf s h (all ++ more) began ps n (map f zs) in
    subst S (sym e) (subst Q (sym joined) (batch_push s h all more began ps n (map f xs) (f x) w b el ep ej en))

pub peaks_longer : {D : Type 0} (s : Shape) (h : Hashing D) (all more : List D) (n : ℕ) → IsLawful s → n ≤ length all → peaks_at s h all n ≡ peaks_at s h (all ++ more) n
peaks_longer s h all more n w le = sym (peaks_within s h all more n w le)

pub record IsLast {D : Type 0} (s : Shape) (m : ℕ) (g : ChainSegment D) : Type 0 where
  pub ends : g.leaves + g.later ≡ m
  pub counted : length g.nodes ≡ length (made_from s g.leaves g.later)

pub last_link : {D : Type 0} (s : Shape) (n : ℕ) (gs : List (ChainSegment D)) (m i : ℕ) (g : ChainSegment D) → IsLinked s n gs m → slice_get gs i ≡ Some g → suc i ≡ length gs → IsLast s m g
last_link s n [] m i g l e q = absurd (omega arith)
last_link s n (f ∷ []) m zero g l e q =
    let same : f ≡ g = same_Some f g e in
    subst (IsLast s m) same (record { ends = ap (λ b. b + f.later) l.0.starts ∙ l.1; counted = l.0.counted ∙ ap (λ b. length (made_from s b f.later)) (sym l.0.starts) })
last_link s n (f ∷ []) m (suc i) g l e q = absurd (omega arith)
last_link s n (f ∷ k ∷ gs) m zero g l e q = absurd (omega arith)
last_link s n (f ∷ k ∷ gs) m (suc i) g l e q = last_link s (n + f.later) (k ∷ gs) m i g l.1 e (omega arith)

pub record IsLinkOf {D : Type 0} (s : Shape) (h : Hashing D) (all : List D) (g : ChainSegment D) : Type 0 where
  pub peaks : g.peaks ≡ peaks_at s h all g.leaves
  pub nodes : g.nodes ≡ nodes_from s h all g.leaves g.later

pub link_of : {D : Type 0} (s : Shape) (h : Hashing D) (all : List D) (n : ℕ) (gs : List (ChainSegment D)) (i : ℕ) (g : ChainSegment D) → IsLinkedOf s h all n gs → slice_get gs i ≡ Some g → IsLinkOf s h all g
link_of s h all n [] i g l e = absurd (cc)
link_of s h all n (f ∷ gs) zero g l e =
    let same : f ≡ g = same_Some f g e in
    subst (IsLinkOf s h all) same (record { peaks = l.1 ∙ ap (peaks_at s h all) (sym l.0); nodes = l.2 ∙ ap (λ b. nodes_from s h all b f.later) (sym l.0) })
link_of s h all n (f ∷ gs) (suc i) g l e = link_of s h all (n + f.later) gs i g l.3 e

pub get_map : {D X : Type 0} (f : X → ChainSegment D) (xs : List X) (i : ℕ) (x : X) → slice_get xs i ≡ Some x → slice_get (map f xs) i ≡ Some (f x)
get_map f xs i x e = slice_get-map f xs i ∙ ap (option_map f) e

pub last_link_map : {D X : Type 0} (s : Shape) (f : X → ChainSegment D) (n : ℕ) (xs : List X) (m i : ℕ) (x : X) → IsLinked s n (map f xs) m → slice_get xs i ≡ Some x → suc i ≡ length xs → IsLast s m (f x)
last_link_map s f n xs m i x l e q = last_link s n (map f xs) m i (f x) l (get_map f xs i x e) (q ∙ sym (length-map xs f))

pub link_of_map : {D X : Type 0} (s : Shape) (h : Hashing D) (all : List D) (f : X → ChainSegment D) (n : ℕ) (xs : List X) (i : ℕ) (x : X) → IsLinkedOf s h all n (map f xs) → slice_get xs i ≡ Some x → IsLinkOf s h all (f x)
link_of_map s h all f n xs i x l e = link_of s h all n (map f xs) i (f x) l (get_map f xs i x e)

pub linked_like : {D : Type 0} (s : Shape) (n m k : ℕ) (gs fs : List (ChainSegment D)) → fs ≡ gs → k ≡ m → IsLinked s n gs m → IsLinked s n fs k
linked_like {D = D} s n m k gs fs e q l = let P : List (ChainSegment D) → Type 0 = λ js. IsLinked s n js k in let Q : ℕ → Type 0 = λ j. IsLinked s n gs j in subst P (sym e) (subst Q (sym q) l)

pub batch_like : {D : Type 0} (s : Shape) (h : Hashing D) (all : List D) (began : ℕ) (ps : List D) (n : ℕ) (gs fs : List (ChainSegment D)) → fs ≡ gs → IsChainOf s h all began ps n gs → IsChainOf s h all began ps n fs
batch_like {D = D} s h all began ps n gs fs e b = let P : List (ChainSegment D) → Type 0 = λ js. IsChainOf s h all began ps n js in subst P (sym e) b

pub linked_drop : {D : Type 0} (s : Shape) (n : ℕ) (gs : List (ChainSegment D)) (m i : ℕ) → IsLinked s n gs m → IsLinked s (first_leaves (drop i gs) m) (drop i gs) m
linked_drop s n [] m zero l = refl
linked_drop s n [] m (suc i) l = refl
linked_drop {D = D} s n (g ∷ gs) m zero l = let P : ℕ → Type 0 = λ j. IsLinked s j (g ∷ gs) m in subst P (sym l.0.starts) l
linked_drop s n (g ∷ gs) m (suc i) l = linked_drop s (n + g.later) gs m i l.1

pub linked_of_drop : {D : Type 0} (s : Shape) (h : Hashing D) (all : List D) (n : ℕ) (gs : List (ChainSegment D)) (m i : ℕ) → m ≡ length all → IsLinkedOf s h all n gs
    → IsLinkedOf s h all (first_leaves (drop i gs) m) (drop i gs) × (n ≤ first_leaves (drop i gs) m)
linked_of_drop s h all n [] m zero q l = (q, omega (arith, q, l))
linked_of_drop s h all n [] m (suc i) q l = (q, omega (arith, q, l))
linked_of_drop {D = D} s h all n (g ∷ gs) m zero q l = let P : ℕ → Type 0 = λ j. IsLinkedOf s h all j (g ∷ gs) in (subst P (sym l.0) l, omega (arith, l.0))
linked_of_drop s h all n (g ∷ gs) m (suc i) q l = let r = linked_of_drop s h all (n + g.later) gs m i q l.3 in (r.0, omega (arith, r.1))

pub batch_drop : {D : Type 0} (s : Shape) (h : Hashing D) (all : List D) (began : ℕ) (ps : List D) (n m i : ℕ) (gs fs : List (ChainSegment D)) (f : ℕ) → m ≡ length all → fs ≡ drop i gs → f ≡ first_leaves (drop i gs) m
    → IsChainOf s h all began ps n gs → IsChainOf s h all began ps f fs
batch_drop s h all began ps n m i gs fs f q e ef b =
    let r = linked_of_drop s h all n gs m i q b.linked in
    rw (e, ef) (record { linked = r.0; before = (let le = b.before in omega (arith, r.1)); boundary = b.boundary })

pub linked_drop_at : {D : Type 0} (s : Shape) (n : ℕ) (gs fs : List (ChainSegment D)) (m i f : ℕ) → fs ≡ drop i gs → f ≡ first_leaves (drop i gs) m → IsLinked s n gs m → IsLinked s f fs m
linked_drop_at s n gs fs m i f e ef l = rw (e, ef) (linked_drop s n gs m i l)

pub first_here : {D X : Type 0} (f : X → ChainSegment D) (xs : List X) (i m : ℕ) (x : X) → slice_get xs i ≡ Some x → (f x).leaves ≡ first_leaves (drop i (map f xs)) m
first_here f [] i m x e = absurd (cc)
first_here f (y ∷ xs) zero m x e = let q : x ≡ y = sym (same_Some y x e) in ap (λ z. (f z).leaves) q
first_here f (y ∷ xs) (suc i) m x e = first_here f xs i m x e

pub first_past : {D X : Type 0} (f : X → ChainSegment D) (xs : List X) (i m : ℕ) → length xs ≤ i → m ≡ first_leaves (drop i (map f xs)) m
first_past f [] zero m le = refl
first_past f [] (suc i) m le = refl
first_past f (y ∷ xs) zero m le = absurd (omega arith)
first_past f (y ∷ xs) (suc i) m le = first_past f xs i m (omega arith)

pub share_next : {D X : Type 0} (f : X → ChainSegment D) (xs ys : List X) (i : ℕ) (zs : List (ChainSegment D)) (x y : X) → map f ys ++ drop i (map f xs) ≡ zs → slice_get xs i ≡ Some x → f y ≡ f x
    → map f (ys ++ (y ∷ [])) ++ drop (suc i) (map f xs) ≡ zs
share_next {D = D} {X = X} f xs ys i all x y e ex q =
    ap (λ gs. gs ++ drop (suc i) (map f xs)) (map-append f ys (y ∷ [])) ∙ append_assoc (map f ys) (f y ∷ []) (drop (suc i) (map f xs))
    ∙ ap (λ g. map f ys ++ (g ∷ drop (suc i) (map f xs))) q ∙ ap (λ gs. map f ys ++ gs) (sym (step xs i ex)) ∙ e
  where
    step : (zs : List X) (j : ℕ) → slice_get zs j ≡ Some x → drop j (map f zs) ≡ f x ∷ drop (suc j) (map f zs)
    step [] j p = absurd (cc)
    step (z ∷ zs) zero p = let r : z ≡ x = same_Some z x p in ap (λ w. f w ∷ map f zs) r
    step (z ∷ zs) (suc j) p = step zs j p

pub share_end : {D X : Type 0} (f : X → ChainSegment D) (xs ys : List X) (i : ℕ) (zs : List (ChainSegment D)) → length xs ≤ i → map f ys ++ drop i (map f xs) ≡ zs → map f ys ≡ zs
share_end {D = D} f xs ys i zs le e = sym (append_nil (map f ys)) ∙ ap (λ gs. map f ys ++ gs) (sym (past (map f xs) i (let l = length-map xs f in omega (arith, le, l)))) ∙ e
  where
    past : (gs : List (ChainSegment D)) (j : ℕ) → length gs ≤ j → drop j gs ≡ []
    past [] zero le = refl
    past [] (suc j) le = refl
    past (g ∷ gs) zero le = absurd (omega arith)
    past (g ∷ gs) (suc j) le = past gs j (omega arith)

pub some_map : {D X : Type 0} (f : X → ChainSegment D) (xs : List X) → 0 < length (map f xs) → 0 < length xs
some_map f xs lt = omega (arith, length-map xs f)

-- an empty batch with one segment
pub one_batch : {D : Type 0} (s : Shape) (h : Hashing D) (all : List D) (n began : ℕ) (ps : List D) (g : ChainSegment D) → g.leaves ≡ n → g.peaks ≡ peaks_at s h all n → g.later ≡ 0 → g.nodes ≡ [] → n ≡ length all → began ≡ n → ps ≡ peaks_at s h all n
    → IsChainOf s h all began ps n (g ∷ [])
unfolding made_from
one_batch s h all n began ps g el ep ej en count eb eps =
    let zero : n + g.later ≡ length all = omega (arith, ej, count) in
    record {
      linked = (el, ep, en ∙ ap (λ j. nodes_from s h all n j) (sym ej), zero);
      before = omega (arith, eb);
      boundary = eps ∙ ap (peaks_at s h all) (sym eb);
    }

pub nothing_linked : {D : Type 0} (s : Shape) (n m : ℕ) (gs : List (ChainSegment D)) → gs ≡ [] → n ≡ m → IsLinked s n gs m
nothing_linked s n m gs e q = rw e q

pub no_batch : {D : Type 0} (s : Shape) (h : Hashing D) (all : List D) (n began : ℕ) (ps : List D) (gs : List (ChainSegment D)) → gs ≡ [] → n ≡ length all → began ≡ n → ps ≡ peaks_at s h all n → IsChainOf s h all began ps n gs
no_batch s h all n began ps gs e count eb eps = rw e (record { linked = count; before = omega (arith, eb); boundary = eps ∙ ap (peaks_at s h all) (sym eb) })

pub none_made : (s : Shape) (b : ℕ) → 0 ≡ length (made_from s b 0)
unfolding made_from
none_made s b = refl

pub one_link : {D X : Type 0} (f : X → ChainSegment D) (ys xs : List X) (x : X) → ys ≡ xs ++ (x ∷ []) → xs ≡ [] → map f ys ≡ f x ∷ []
one_link f ys xs x e z = ap (map f) (e ∙ ap (λ zs. zs ++ (x ∷ [])) z)

pub node_here : {D X : Type 0} (f : X → ChainSegment D) (xs : List X) (i left : ℕ) (x : X) (nodes : List D) (d : D) → slice_get xs i ≡ Some x → nodes ≡ (f x).nodes → left < length nodes → slice_get nodes left ≡ Some d
    → slice_get (joined_nodes (drop i (map f xs))) left ≡ Some d
node_here f xs i left x nodes d ex en lt e =
    let l : left < length (f x).nodes = rw (← en) lt in
    ap (λ ns. slice_get ns left) (joined_step f xs i x ex) ∙ get_front (f x).nodes (joined_nodes (drop (suc i) (map f xs))) left l ∙ ap (λ ns. slice_get ns left) (sym en) ∙ e

pub node_past : {D X : Type 0} (f : X → ChainSegment D) (xs : List X) (i left : ℕ) (x : X) (nodes : List D) → slice_get xs i ≡ Some x → nodes ≡ (f x).nodes → length nodes ≤ left
    → slice_get (joined_nodes (drop (suc i) (map f xs))) (left - length nodes) ≡ slice_get (joined_nodes (drop i (map f xs))) left
node_past f xs i left x nodes ex en le =
    let l : length nodes ≡ length (f x).nodes = ap length en in
    let e : length (f x).nodes + (left - length nodes) ≡ left = omega arith in
    sym (get_past (f x).nodes (joined_nodes (drop (suc i) (map f xs))) (left - length nodes)) ∙ ap (slice_get ((f x).nodes ++ joined_nodes (drop (suc i) (map f xs)))) e ∙ ap (λ ns. slice_get ns left) (sym (joined_step f xs i x ex))

-- Where the nodes of a Merkle mountain range stand.
use Rattle.std.proofs.Common.{◌≡◌, ℕ, zero, suc, ◌+◌, ◌-◌, ◌*◌, ◌^◌, ◌≤◌, inl, inr, List, [], ◌∷◌, ◌++◌, length, refl, sym, ◌∙◌, ap, subst, arith, length-append, append_assoc, add-one}
use Rattle.std.proofs.Math.Nat.{pow-suc}
use Rattle.std.proofs.lemmas.Bool.Decides.{eqb_tells}
use Rattle.std.proofs.lemmas.Option.{slice_get_within}
use Rattle.tree_shape.specs.Shape.{Shape, made, Stands, ChildrenStand, IsWellMade, PeaksStand, IsLawful}
use Rattle.tree_shape.specs.Mmr.{joined, joins, mmr_heights, mmr_size, mmr}
use Rattle.tree_shape.specs.Places.{get-append, get-behind, before, here, place_of}
use Rattle.tree_shape.specs.MmrSize.{length-made_mmr}

pub children_stand-append : (s : Shape) (cs ds : List (ℕ × ℕ)) (i x h : ℕ) → ChildrenStand s cs i x h
    → ChildrenStand s (cs ++ ds) i x h
children_stand-append s cs ds i x zero c = tt
children_stand-append s cs ds i x (suc h) c = (get-append cs ds _ _ c.0, get-append cs ds _ _ c.1, c.2, c.3)

pub peaks_stand-append : (s : Shape) (cs ds : List (ℕ × ℕ)) (e : ℕ) (hs : List ℕ) → PeaksStand s cs e hs
    → PeaksStand s (cs ++ ds) e hs
peaks_stand-append s cs ds e [] p = p
peaks_stand-append s cs ds e (h ∷ hs) p = (p.0, get-append cs ds _ _ p.1, peaks_stand-append s cs ds (e - 2 ^ h) hs p.2)

-- one more node, at its position and behind its children
pub well_made-push : (s : Shape) (e : ℕ) (cs : List (ℕ × ℕ)) (x h : ℕ) → IsWellMade s e cs → s.position x h ≡ length cs
    → x + 2 ^ h ≤ e → ChildrenStand s cs (length cs) x h → IsWellMade s e (cs ++ ((x, h) ∷ []))
well_made-push s e cs x h w p le c = record {
  placed = λ i y k at. elim (place_of cs (x, h) i (y, k) at) [
    | before b ↦ w.placed i y k b
    | here q r ↦ rw (ap (λ (v : ℕ × ℕ). v.0) r, ap (λ (v : ℕ × ℕ). v.1) r) (p ∙ sym q)
  ];
  within = λ i y k at. elim (place_of cs (x, h) i (y, k) at) [
    | before b ↦ w.within i y k b
    | here q r ↦ rw (ap (λ (v : ℕ × ℕ). v.0) r, ap (λ (v : ℕ × ℕ). v.1) r) le
  ];
  behind = λ i y k at. elim (place_of cs (x, h) i (y, k) at) [
    | before b ↦ children_stand-append s cs _ i y k (w.behind i y k b)
    | here q r ↦ rw (q, ap (λ (v : ℕ × ℕ). v.0) r, ap (λ (v : ℕ × ℕ). v.1) r)
        (children_stand-append s cs _ (length cs) x h c)
  ];
}

pub append_nil : (cs : List (ℕ × ℕ)) → cs ++ [] ≡ cs
append_nil [] = refl
append_nil (c ∷ cs) = ap (λ ds. c ∷ ds) (append_nil cs)

-- the node of height h that ends with leaf n is the h-th behind it
pub mmr_position-last : (n e h : ℕ) → e ≡ suc n → 2 ^ h ≤ e → mmr_size (e - 2 ^ h + 2 ^ h - 1) + h ≡ mmr_size n + h
mmr_position-last n e h q le = let m : e - 2 ^ h + 2 ^ h - 1 ≡ n = omega arith in ap (λ x. mmr_size x + h) m

-- equal lists have these facts alike
pub at_lists : (s : Shape) (b e : ℕ) (cs ds : List (ℕ × ℕ)) (hs ks : List ℕ) → cs ≡ ds → hs ≡ ks
    → IsWellMade s b cs × PeaksStand s cs e hs → IsWellMade s b ds × PeaksStand s ds e ks
at_lists s b e cs ds hs ks p q h =
    subst (λ (xs : List (ℕ × ℕ)). IsWellMade s b xs × PeaksStand s xs e ks) p
    (subst (λ (ys : List ℕ). IsWellMade s b cs × PeaksStand s cs e ys) q h)

-- the last node of pre ends at e, and the peaks before it stand: the joins follow
push_joins : (n e h : ℕ) (pre : List (ℕ × ℕ)) (ks : List ℕ) → e ≡ suc n → 2 ^ h ≤ e → length pre ≡ suc (mmr_size n + h)
    → IsWellMade mmr e pre → Stands pre (mmr_size n + h) (e - 2 ^ h) h → PeaksStand mmr pre (e - 2 ^ h) ks
    → IsWellMade mmr e (pre ++ joins e h ks) × PeaksStand mmr (pre ++ joins e h ks) e (joined h ks)
push_joins n e h pre [] q le l w last p =
    at_lists mmr e e pre _ (h ∷ []) _ (sym (append_nil pre)) refl (w, (le, rw (mmr_position-last n e h q le) last, p))
push_joins n e h pre (k ∷ ks) q le l w last p = elim (eqb_tells h k) [
  | inr t ↦
      let no_joins : pre ≡ pre ++ joins e h (k ∷ ks) = rw t.0 (sym (append_nil pre)) in
      let apart : h ∷ k ∷ ks ≡ joined h (k ∷ ks) = rw t.0 refl in
      at_lists mmr e e pre _ (h ∷ k ∷ ks) _ no_joins apart (w, (le, rw (mmr_position-last n e h q le) last, p))
  | inl t ↦
      let two : 2 ^ suc h ≡ 2 ^ h * 2 = pow-suc 2 h in
      let same : 2 ^ k ≡ 2 ^ h = ap (λ i. 2 ^ i) (sym t.1) in
      let room : 2 ^ suc h ≤ e = omega (arith, p.0) in
      let left_start : e - 2 ^ h - 2 ^ k ≡ e - 2 ^ suc h = omega arith in
      let right_start : e - 2 ^ suc h + 2 ^ h ≡ e - 2 ^ h = omega arith in
      let left : Stands pre (mmr.position (e - 2 ^ suc h) h) (e - 2 ^ suc h) h =
      rw (← left_start) (subst (λ (i : ℕ). Stands pre (mmr.position (e - 2 ^ h - 2 ^ k) i) (e - 2 ^ h - 2 ^ k) i)
      (sym t.1) p.1) in
      let right_place : mmr.position (e - 2 ^ suc h + 2 ^ h) h ≡ mmr_size n + h =
      ap (λ x. mmr_size (x + 2 ^ h - 1) + h) right_start ∙ mmr_position-last n e h q le in
      let right : Stands pre (mmr.position (e - 2 ^ suc h + 2 ^ h) h) (e - 2 ^ suc h + 2 ^ h) h =
      rw (right_place, right_start) last in
      let place : mmr.position (e - 2 ^ suc h) (suc h) ≡ length pre =
      mmr_position-last n e (suc h) q room ∙ omega arith in
      let pushed : IsWellMade mmr e (pre ++ ((e - 2 ^ suc h, suc h) ∷ [])) =
      well_made-push mmr e pre (e - 2 ^ suc h) (suc h) w place (omega arith)
      (left, right, slice_get_within pre _ _ left, slice_get_within pre _ _ right) in
      let longer : length (pre ++ ((e - 2 ^ suc h, suc h) ∷ [])) ≡ suc (mmr_size n + suc h) =
      length-append pre _ ∙ omega arith in
      let here_now : Stands (pre ++ ((e - 2 ^ suc h, suc h) ∷ [])) (mmr_size n + suc h) (e - 2 ^ suc h) (suc h) =
      let at : mmr_size n + suc h ≡ length pre = omega arith in rw at (get-behind pre [] _) in
      let rest : PeaksStand mmr (pre ++ ((e - 2 ^ suc h, suc h) ∷ [])) (e - 2 ^ suc h) ks =
      rw (← left_start) (peaks_stand-append mmr pre _ (e - 2 ^ h - 2 ^ k) ks p.2) in
      let more = push_joins n e (suc h) (pre ++ ((e - 2 ^ suc h, suc h) ∷ [])) ks q room longer pushed here_now rest in
      let all : (pre ++ ((e - 2 ^ suc h, suc h) ∷ [])) ++ joins e (suc h) ks ≡ pre ++ joins e h (k ∷ ks) =
      rw t.0 (append_assoc pre _ _) in
      let one : joined (suc h) ks ≡ joined h (k ∷ ks) = rw t.0 refl in
      at_lists mmr e e _ _ (joined (suc h) ks) _ all one more
]

pub well_made-later : (s : Shape) (e f : ℕ) (cs : List (ℕ × ℕ)) → e ≤ f → IsWellMade s e cs → IsWellMade s f cs
well_made-later s e f cs le w = record {
  placed = w.placed;
  within = λ i x h at. let b = w.within i x h at in omega arith;
  behind = w.behind;
}

mmr_stands : (n : ℕ) → IsWellMade mmr n (made mmr n) × PeaksStand mmr (made mmr n) n (mmr_heights n)
unfolding mmr_heights made
mmr_stands zero = (
  record { placed = λ i x h at. absurd (cc); within = λ i x h at. absurd (cc); behind = λ i x h at. absurd (cc) },
  refl,
)
mmr_stands (suc n) =
    let before = mmr_stands n in
    let size = length-made_mmr n in
    let place : mmr.position n 0 ≡ length (made mmr n) =
    let m : n + 2 ^ 0 - 1 ≡ n = omega arith in ap (λ x. mmr_size x + 0) m ∙ omega arith in
    let pushed : IsWellMade mmr (suc n) (made mmr n ++ ((n, 0) ∷ [])) =
    well_made-push mmr (suc n) (made mmr n) n 0 (well_made-later mmr n (suc n) _ (omega arith) before.0) place
    (omega arith) tt in
    let l : length (made mmr n ++ ((n, 0) ∷ [])) ≡ suc (mmr_size n + 0) = length-append (made mmr n) _ ∙ omega arith in
    let last : Stands (made mmr n ++ ((n, 0) ∷ [])) (mmr_size n + 0) (suc n - 2 ^ 0) 0 =
    let at : mmr_size n + 0 ≡ length (made mmr n) = omega arith in
    let start : suc n - 2 ^ 0 ≡ n = omega arith in
    rw (at, start) (get-behind (made mmr n) [] _) in
    let rest : PeaksStand mmr (made mmr n ++ ((n, 0) ∷ [])) (suc n - 2 ^ 0) (mmr_heights n) =
    let start : suc n - 2 ^ 0 ≡ n = omega arith in
    rw start (peaks_stand-append mmr (made mmr n) _ n (mmr_heights n) before.1) in
    let more =
    push_joins n (suc n) 0 (made mmr n ++ ((n, 0) ∷ [])) (mmr_heights n) refl (omega arith) l pushed last rest in
    let all : (made mmr n ++ ((n, 0) ∷ [])) ++ joins (suc n) 0 (mmr_heights n) ≡ made mmr n ++
    ((n, 0) ∷ joins (n + 1) 0 (mmr_heights n)) =
    rw add-one (append_assoc (made mmr n) _ _) in
    at_lists mmr (suc n) (suc n) _ _ (joined 0 (mmr_heights n)) _ all refl more

pub mmr_lawful : IsLawful mmr
mmr_lawful = record { well_made = λ n. (mmr_stands n).0; peaks = λ n. (mmr_stands n).1 }

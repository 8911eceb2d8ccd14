-- The coordinates that the split gives: drawn points stay, and each midpoint and each mean is a sum rounded once. The midpoint of an edge is the same from
-- both its half-edges, so it does not matter at which of them it is worked out.
use mathlib.Core.Path.{◌≡◌, refl, sym, ap, ap₂, ◌∙◌}
use mathlib.Core.Bool.{false}
use mathlib.Core.List.{List}
use Prim.Native.Nat.{ℕ, ◌+◌, ◌-◌, ◌*◌, ◌≤◌, ◌<◌, min}
use native.Mathlib.Decide.{dec_lt}
use native.Mathlib.Omega.{arith}
use lib.IntN.{ℤ, ◌+ℤ◌, +ℤ_comm}
use lib.ListN.{length, get_or, take}
use lib.Dec.{eqb}
use borrow.Author.Tests.{lt-ltb, le-ltb, eq-eqb, eqb-true, ne_eqb}
use Rattle.integers.specs.Sum.{sum}
use Rattle.integers.proofs.Sum.{sum_cong}
use Rattle.search.specs.Search.{first, iterate}
use Rattle.search.proofs.First.{first_holds, first_reach, first_is}
use Rattle.rounding.specs.Rounding.{round}
use Rattle.fractions.specs.Fraction.{whole, to_whole}
use Rattle.fractions.proofs.Laws.{to_whole_equals, equals_whole, equals_cong, equals_divided, equals_sum}
use Rattle.rules.proofs.Ties.{equals_mean}
use Rattle.topology.specs.Shape.{Shape, Lawful}
use Rattle.topology.specs.HalfEdge.{from, to, mate, edge_count, edge, edge_at}
use Rattle.topology.specs.Manifold.{Oriented}
use Rattle.topology.proofs.Mates.{mate_is, edge-lt, edge_at-edge}
use Rattle.polygons.specs.Polygons.{polygons, shape_of, total, bad_sides}
use Rattle.polygons.proofs.Counts.{FaceAt, FaceFits, face_fits, nexts_at, polygons_lawful, shape_some, faces_polygons}
use Rattle.splitting.specs.Splitting.{side_midpoint, corner_mean, first_side, split_value, split_coordinate}

-- ---- the three kinds of vertices
module _ (S : Shape) (v : ℕ) (l : List ℕ) (p : ℕ → ℤ) where
  pub split_old : (i : ℕ) → i < v → split_coordinate S v l p i ≡ p i
  unfolding split_coordinate
  split_old i b = let t = lt-ltb i v b in rw t

  pub split_new : (i : ℕ) → v ≤ i → split_coordinate S v l p i ≡ to_whole (split_value S v l p i)
  unfolding split_coordinate
  split_new i b = let t = le-ltb i v b in rw t

  split-edge_at : (e : ℕ) → e < edge_count S l → split_coordinate S v l p (v + e) ≡ to_whole (side_midpoint S l p (edge_at S l e))
  unfolding split_coordinate split_value
  split-edge_at e b =
      let s = le-ltb (v + e) v (omega arith) in
      let t = lt-ltb (v + e) (v + edge_count S l) (omega arith) in
      let d : v + e - v ≡ e = omega arith in
      rw (s, t, d)

  split_face_at : (f : ℕ) → split_coordinate S v l p (v + edge_count S l + f) ≡ to_whole (corner_mean S l p (first_side S l f))
  unfolding split_coordinate split_value
  split_face_at f =
      let s = le-ltb (v + edge_count S l + f) v (omega arith) in
      let t = le-ltb (v + edge_count S l + f) (v + edge_count S l) (omega arith) in
      let d : v + edge_count S l + f - (v + edge_count S l) ≡ f = omega arith in
      rw (s, t, d)

-- ---- numerators
module _ (S : Shape) (l : List ℕ) (p : ℕ → ℤ) where
  midpoint-rounded : (h : ℕ) → to_whole (side_midpoint S l p h) ≡ round (p (from l h) +ℤ p (to S l h)) 2
  unfolding side_midpoint
  midpoint-rounded h = to_whole_equals (omega arith) (equals_mean (equals_whole (p (from l h))) (equals_whole (p (to S l h))))

  mean_rounded : (h : ℕ) → 0 < S.sides h → to_whole (corner_mean S l p h) ≡ round (sum (S.sides h) (λ (k : ℕ). p (from l (iterate S.next k h)))) (S.sides h)
  unfolding corner_mean
  mean_rounded h b =
      let e : S.sides h * 1 ≡ S.sides h = omega arith in
      let f : ℕ → ℤ = λ k. p (from l (iterate S.next k h)) in
      to_whole_equals b (equals_cong refl e (equals_divided (S.sides h) b (equals_sum (S.sides h) (λ (k : ℕ). whole (f k)) f 1 (λ k i. equals_whole (f k)))))

  -- from either half-edge
  midpoint_either : (h : ℕ) → mate S l h < length l → round (p (from l (mate S l h)) +ℤ p (to S l (mate S l h))) 2 ≡ round (p (from l h) +ℤ p (to S l h)) 2
  midpoint_either h m =
      let r = mate_is S l h m in
      ap₂ (λ (a b : ℕ). round (p a +ℤ p b) 2) r.start r.end ∙ ap (λ (z : ℤ). round z 2) (+ℤ_comm (p (to S l h)) (p (from l h)))

-- ---- "each edge point the midpoint"
module _ (S : Shape) (v : ℕ) (l : List ℕ) (ok : Oriented S v l) (p : ℕ → ℤ) where
  pub split-edge : (h : ℕ) → h < length l → split_coordinate S v l p (v + edge S l h) ≡ round (p (from l h) +ℤ p (to S l h)) 2
  split-edge h k =
      split-edge_at S v l p (edge S l h) (edge-lt S v l ok h k)
      ∙ ap (λ (g : ℕ). to_whole (side_midpoint S l p g)) (edge_at-edge S v l ok h k)
      ∙ midpoint-rounded S l p (min h (mate S l h))
      ∙ go (dec_lt h (mate S l h))
    where
      at : ℕ → ℤ
      at g = round (p (from l g) +ℤ p (to S l g)) 2

      go : Dec (h < mate S l h) → at (min h (mate S l h)) ≡ at h
      go (yes b) = let e : min h (mate S l h) ≡ h = omega arith in ap at e
      go (no b) = let e : min h (mate S l h) ≡ mate S l h = omega arith in ap at e ∙ midpoint_either S l p h (omega arith)

-- ---- "The face point is the mean of its corners"
module _ (S : Shape) (l : List ℕ) (c : Lawful S (length l)) where
  -- the first side of a face is a side of it
  pub record FirstSide (f : ℕ) : Type 0 where
    pub lt : first_side S l f < length l
    pub face : S.face (first_side S l f) ≡ f

  pub first-side : (f : ℕ) → f < S.faces (length l) → FirstSide f
  unfolding first_side
  first-side f k =
      let r = c.face_onto f k in
      let a = first_reach (λ (h : ℕ). eqb (S.face h) f) (length l) r.0 r.1 (eq-eqb (S.face r.0) f r.2) in
      let b : first (λ (h : ℕ). eqb (S.face h) f) (length l) < length l = omega (arith, r.1) in
      record { lt = b; face = eqb-true (S.face (first (λ (h : ℕ). eqb (S.face h) f) (length l))) f (first_holds (λ (h : ℕ). eqb (S.face h) f) (length l) b) }

  pub split_face : (v : ℕ) (p : ℕ → ℤ) (f : ℕ) → f < S.faces (length l)
      → split_coordinate S v l p (v + edge_count S l + f) ≡ round (sum (S.sides (first_side S l f)) (λ (k : ℕ). p (from l (iterate S.next k (first_side S l f))))) (S.sides (first_side S l f))
  split_face v p f k =
      let b = (first-side f k).lt in
      split_face_at S v l p f ∙ mean_rounded S l p (first_side S l f) (omega (arith, c.three (first_side S l f) b))

  -- where a face has the sides from a on
  first-side_at : (a n f : ℕ) → a < length l → 0 < n → FaceAt S a n f → first_side S l f ≡ a
  unfolding first_side
  first-side_at a n f k b r =
      let z : a + 0 ≡ a = omega arith in
      let e : S.face a ≡ f = ap S.face (sym z) ∙ r.face 0 b in
      let s : S.sides a ≡ n = ap S.sides (sym z) ∙ r.sides 0 b in
      first_is (λ (h : ℕ). eqb (S.face h) f) (length l) a k (eq-eqb (S.face a) f e) (λ j i. ne_eqb (S.face j) f (λ x.
      let t = c.all a j k (omega arith) (x ∙ sym e) in let y = nexts_at r t.0 (omega (arith, t.1)) in omega (arith, t.2)))

-- ---- the mean of a face that the side counts s tell: it has c corners, from a on
module _ (s l : List ℕ) (ok : bad_sides s (length l) ≡ false) (f : ℕ) (k : f < length s) where
  at : FaceFits s (length l) f
  at = face_fits s (length l) f ok k

  first-side-counts : first_side (polygons s) l f ≡ total (take f s)
  first-side-counts =
      let c = at.count.three in
      first-side_at (polygons s) l (polygons_lawful s (length l) ok) (total (take f s)) (get_or s f 0) f (omega (arith, at.ends)) (omega arith) at.at

  mean_counts : (v : ℕ) (p : ℕ → ℤ) → split_coordinate (polygons s) v l p (v + edge_count (polygons s) l + f) ≡ round (sum (get_or s f 0) (λ (i : ℕ). p (from l (total (take f s) + i)))) (get_or s f 0)
  mean_counts v p =
      let S : Shape = polygons s in
      let a : ℕ = total (take f s) in
      let c : ℕ = get_or s f 0 in
      let g : ℕ → ℕ → ℤ = λ h i. p (from l (iterate S.next i h)) in
      let z : a + 0 ≡ a = omega arith in
      let n : S.sides a ≡ c = ap S.sides (sym z) ∙ at.at.sides 0 (omega (arith, at.count.three)) in
      split_face S l (polygons_lawful s (length l) ok) v p f (rw (faces_polygons s (length l)) k)
      ∙ ap (λ (h : ℕ). round (sum (S.sides h) (g h)) (S.sides h)) first-side-counts
      ∙ ap (λ (m : ℕ). round (sum m (g a)) m) n
      ∙ ap (λ (y : ℤ). round y c) (sum_cong c (g a) (λ (i : ℕ). p (from l (a + i))) (λ i b. ap (λ (h : ℕ). p (from l h)) (nexts_at at.at i b)))

  pub split_face_counts : (v : ℕ) (p : ℕ → ℤ) → split_coordinate (shape_of s) v l p (v + edge_count (shape_of s) l + f) ≡ round (sum (get_or s f 0) (λ (i : ℕ). p (from l (total (take f s) + i)))) (get_or s f 0)
  split_face_counts v p = ap (λ (S : Shape). split_coordinate S v l p (v + edge_count S l + f)) (shape_some s (omega arith)) ∙ mean_counts v p

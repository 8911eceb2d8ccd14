-- Bounds on the counts of a net, and after refinement steps.
use mathlib.Core.Path.{◌≡◌, sym, ap, ◌∙◌}
use mathlib.Core.List.{List}
use Prim.Native.Nat.{ℕ, zero, suc, ◌*◌, ◌/◌, ◌^◌, ◌≤◌, ◌<◌}
use native.Mathlib.Decide.{dec_lt}
use native.Mathlib.Omega.{arith}
use native.Mathlib.Nat.{pow-suc, pow-le-pow_right, mul_assoc, mul-le-mul}
use lib.ListN.{length, take}
use Rattle.bounds.specs.Bounds.{max_corners}
use Rattle.topology.specs.Shape.{Shape, quads}
use Rattle.topology.specs.HalfEdge.{edge_count}
use Rattle.topology.proofs.Mates.{edges_le}
use Rattle.polygons.specs.Polygons.{shape_of, Sided}
use Rattle.polygons.proofs.Counts.{shape_none, shape_some, faces_polygons, faces_le}
use Rattle.edgenumbers.specs.Edges.{edge_count_by}
use Rattle.growth.specs.Growth.{Counts, counts, counts_of, grown, grown_by, Bounded, Growable}
use Rattle.growth.proofs.Edges.{edges_by_mates}

-- ---- refinement steps
bounded_grown : (c : Counts) → Bounded c → Bounded (grown c)
unfolding grown
bounded_grown c b = let v = b.vertices in let e = b.edges in let f = b.faces in record { vertices = omega arith; edges = omega arith; faces = omega arith }

bounded_by : (k : ℕ) (c : Counts) → Bounded c → Bounded (grown_by k c)
unfolding grown_by
bounded_by zero c b = b
bounded_by (suc k) c b = bounded_grown (grown_by k c) (bounded_by k c b)

corners_by : (k : ℕ) (c : Counts) → (grown_by k c).corners ≡ c.corners * 4 ^ k
unfolding grown_by grown
corners_by zero c = omega arith
corners_by (suc k) c =
    let a = corners_by k c in
    let p : c.corners * 4 ^ suc k ≡ c.corners * 4 ^ k * 4 = ap (λ (x : ℕ). c.corners * x) (pow-suc 4 k) ∙ sym (mul_assoc c.corners (4 ^ k) 4) in
    omega arith

-- at most seven steps from at most 16,384 corners: 4 ^ 14 at most
pub record Small (c : Counts) : Type 0 where
  pub vertices : c.vertices ≤ 268435456
  pub edges : c.edges ≤ 268435456
  pub faces : c.faces ≤ 268435456
  pub corners : c.corners ≤ 268435456

pub small_by : (k : ℕ) (c : Counts) → Bounded c → c.corners ≤ max_corners → k ≤ 7 → Small (grown_by k c)
small_by k c b few seven =
    let p : 4 ^ k ≤ 4 ^ 7 = pow-le-pow_right {n = 4} (omega arith) seven in
    let q : c.corners * 4 ^ k ≤ max_corners * 4 ^ 7 = mul-le-mul few p in
    let n = corners_by k c in
    let d = bounded_by k c b in
    let v = d.vertices in
    let e = d.edges in
    let f = d.faces in
    record { vertices = omega arith; edges = omega arith; faces = omega arith; corners = omega arith }

-- a face has three corners or more
faces_few : (s : List ℕ) (n : ℕ) → Sided s n → 3 * (shape_of s).faces n ≤ n
unfolding quads
faces_few s n k = go (dec_lt 0 (length s))
  where
    go : Dec (0 < length s) → 3 * (shape_of s).faces n ≤ n
    go (yes b) = let f = ap (λ (S : Shape). S.faces n) (shape_some s b) ∙ faces_polygons s n in let t = faces_le s n (k.counts b) in omega arith
    go (no b) = let f : (shape_of s).faces n ≡ n / 4 = ap (λ (S : Shape). S.faces n) (shape_none s (omega arith)) in omega arith

-- ---- what is counted in code: e edges, and a fourth of the corners or as many faces as side counts
module _ (k : ℕ) (l s : List ℕ) (v : ℕ) (w : List ℕ) (x : Growable k l s v w) where
  abbrev n : ℕ
  n = length l

  pub bounded : Bounded (counts_of (shape_of s) v l)
  unfolding counts_of
  bounded = let f = faces_few s n x.sided in record { vertices = x.vertices; edges = edges_le (shape_of s) l; faces = omega arith }

  module _ (e : ℕ) (c : e ≡ edge_count_by (take (length l) w)) where
    edges_are : e ≡ edge_count (shape_of s) l
    edges_are = c ∙ edges_by_mates (shape_of s) l w x.room x.mated

    pub counts-plain : length s ≡ 0 → counts v e (length l / 4) (length l) ≡ counts_of (shape_of s) v l
    unfolding counts_of quads
    counts-plain z = let f = ap (λ (S : Shape). S.faces n) (shape_none s z) in λ i. counts v (edges_are i) (sym f i) n

    pub counts-split : (length s ≡ 0 → ⊥) → counts v e (length s) (length l) ≡ counts_of (shape_of s) v l
    unfolding counts_of
    counts-split z = let f = ap (λ (S : Shape). S.faces n) (shape_some s (omega arith)) ∙ faces_polygons s n in λ i. counts v (edges_are i) (sym f i) n

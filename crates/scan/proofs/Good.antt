-- A four-sided face whose corners are below v and differ has no bad corner. Assumes nothing.
use mathlib.Core.Path.{◌≡◌, sym}
use mathlib.Core.Bool.{Bool, false}
use mathlib.Core.List.{List, [], ◌∷◌}
use Prim.Native.Nat.{ℕ, suc, ◌+◌, ◌-◌, ◌/◌, ◌%◌, ◌≤◌, ◌<◌}
use native.Mathlib.Decide.{dec_lt}
use native.Mathlib.Omega.{arith}
use lib.ListN.{length, get_or}
use lib.Dec.{leb, eqb}
use borrow.Author.Tests.{lt-leb, eqb-true}
use Rattle.search.specs.Search.{any, iterate}
use Rattle.search.proofs.Tests.{refuted, or_off}
use Rattle.search.proofs.First.{any_which}
use Rattle.topology.specs.Shape.{quads}
use Rattle.topology.specs.HalfEdge.{from}
use Rattle.topology.proofs.Shape.{quads_lawful, face_nexts}
use Rattle.refusals.specs.Refusals.{bad_corner}
use Rattle.polygons.specs.Polygons.{shape_of}
use Rattle.scan.specs.Good.{GoodFace, GoodBefore}

quarter : (j k : ℕ) → quads.face j ≡ quads.face k → j / 4 ≡ k / 4
unfolding quads
quarter j k e = e

module _ (v : ℕ) (l : List ℕ) (h : ℕ) where
  module _ (n4 : length l % 4 ≡ 0) (h4 : h % 4 ≡ 0) (lt : h + 4 ≤ length l) (g : GoodFace v l h) where
    corner : (k : ℕ) → h ≤ k → k < h + 4 → bad_corner quads v l k ≡ false
    unfolding bad_corner from
    corner k a b =
        let q : ℕ → Bool = λ i. eqb (get_or l (iterate quads.next (suc i) k) 0) (get_or l k 0) in
        or_off (leb v (get_or l k 0)) (any q (quads.sides k - 1)) (lt-leb v (get_or l k 0) (g.below k a b)) (refuted (any q (quads.sides k - 1)) (λ t.
        let r = any_which q (quads.sides k - 1) t in
        let j : ℕ = iterate quads.next (suc r.0) k in
        let c = quads_lawful (length l) n4 in
        let f : j / 4 ≡ k / 4 = quarter j k (face_nexts quads (length l) c (suc r.0) k) in
        let e = eqb-true (get_or l j 0) (get_or l k 0) r.2 in
        apart j e (omega (arith, f)) (omega (arith, f)) (λ z. c.not_before k (suc r.0) (omega arith) (omega arith) (let x = r.1 in omega arith) z) (dec_lt j k)))
      where
        apart : (j : ℕ) → get_or l j 0 ≡ get_or l k 0 → h ≤ j → j < h + 4 → (j ≡ k → ⊥) → Dec (j < k) → ⊥
        apart j e x y n (yes o) = g.differ j k x o b e
        apart j e x y n (no o) = g.differ k j a (omega arith) y (sym e)

    pub good_next : GoodBefore quads v l h → GoodBefore quads v l (h + 4)
    good_next p = record { within = lt; none = λ k b. go k b (dec_lt k h) }
      where
        go : (k : ℕ) → k < h + 4 → Dec (k < h) → bad_corner quads v l k ≡ false
        go k b (yes a) = p.none k a
        go k b (no a) = corner k (omega arith) b

pub four_sided : (s l : List ℕ) (v r : ℕ) → length s ≡ 0 → GoodBefore quads v l r → GoodBefore (shape_of s) v l r
unfolding shape_of
four_sided [] l v r e p = p
four_sided (c ∷ s) l v r e p = absurd (omega arith)

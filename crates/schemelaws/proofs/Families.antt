-- The points on the edges of a family between ordinary vertices, at any weights: each edge lies on a line of four vertices, with fixed places in the family and beside it.
-- Assumes a manifold net of four-sided faces.
use mathlib.Core.Path.{◌≡◌, refl, sym, ap, ◌∙◌, subst}
use mathlib.Core.Bool.{Bool, cond}
use mathlib.Core.List.{List}
use Prim.Native.Nat.{ℕ, ◌+◌, ◌-◌, ◌*◌, ◌<◌}
use native.Mathlib.Omega.{arith}
use lib.IntN.{ℤ}
use lib.ListN.{length}
use lib.Dec.{ltb, lit≤}
use borrow.Author.Tests.{lt-ltb, le-ltb}
use Rattle.search.specs.Search.{iterate}
use Rattle.curve.specs.Weights.{Weights, interior, mirror}
use Rattle.topology.specs.Shape.{quads}
use Rattle.topology.specs.HalfEdge.{from, to, mate, edge, edge_count}
use Rattle.topology.specs.Boundary.{boundary_from}
use Rattle.topology.specs.Vertex.{turn, turns, unturn, Ring}
use Rattle.topology.specs.Manifold.{Manifold}
use Rattle.topology.proofs.Shape.{four_sides}
use Rattle.topology.proofs.Mates.{mate_is, mate-back}
use Rattle.topology.proofs.Turn.{turn_inj, turn-from, turn-unturn, unturn-lt}
use Rattle.refinedfaces.specs.Refined.{refined_vertices, refined}
use Rattle.refinedfaces.proofs.Corners.{length-refined, quad, zones}
use Rattle.refinedfaces.proofs.Manifold.{manifold_refined}
use Rattle.refinedfaces.proofs.Mates.{mate₀, mate₁, mate₂, mate₃}
use Rattle.scheme.specs.Points.{inner_rule}
use Rattle.schemelaws.specs.Ordinary.{Ordinary, OrdinaryEnds, straight, ordinary_value}
use Rattle.schemelaws.proofs.Made.{made_ordinary, turn_ring, straight_read}
use Rattle.schemelaws.proofs.Vertices.{ring_of_lem}

module _ (v : ℕ) (l : List ℕ) (ok : Manifold quads v l) where
  abbrev L : List ℕ
  L = refined quads v l

  fine : Manifold quads (refined_vertices quads v l) L
  fine = manifold_refined quads v l ok

  n : length L ≡ 4 * length l
  n = length-refined quads v l

  -- ---- made vertices are ordinary
  module _ (h : ℕ) (k : h < length l) where
    k' : quads.next h < length l
    k' = ok.oriented.shape.next_lt h k

    pub edge_ordinary : Ordinary L (from L (4 * h + 1))
    edge_ordinary = let q = quad quads v l h k in let z = zones quads v l ok.oriented h k in subst (Ordinary L) (sym q.from₁) (made_ordinary v l ok (v + edge quads l h) (omega arith) (omega arith))

    face_ordinary : Ordinary L (from L (4 * h + 2))
    face_ordinary = let q = quad quads v l h k in let z = zones quads v l ok.oriented h k in subst (Ordinary L) (sym q.from₂) (made_ordinary v l ok (v + edge_count quads l + quads.face h) (omega arith) (omega arith))

    -- the second half of the side h begins where the first ends, and ends at the next corner
    last_from : from L (4 * quads.next h + 3) ≡ from L (4 * h + 1)
    last_from = (quad quads v l (quads.next h) k').from₃ ∙ ap (λ (x : ℕ). v + edge quads l x) (ok.oriented.shape.prev_next h) ∙ sym (quad quads v l h k).from₁

    last_to : to quads L (4 * quads.next h + 3) ≡ from L (4 * quads.next h)
    last_to = let q = quad quads v l (quads.next h) k' in q.to₃ ∙ sym q.from₀

    first_to : to quads L (4 * h) ≡ from L (4 * h + 1)
    first_to = let q = quad quads v l h k in q.to₀ ∙ sym q.from₁

    spoke_to : to quads L (4 * h + 1) ≡ from L (4 * h + 2)
    spoke_to = let q = quad quads v l h k in q.to₁ ∙ sym q.from₂

    -- ---- which edges are plain
    -- the edge from the point of the side h to that of the face always is
    pub spoke_plain : OrdinaryEnds L (4 * h + 1)
    spoke_plain =
        let e = mate₁ quads v l ok.oriented h k in
        let b = k' in
        let m = n in
        record { lt = omega arith; inner = omega arith; start = edge_ordinary; end = subst (Ordinary L) (sym spoke_to) face_ordinary }

    pub spoke_back : OrdinaryEnds L (4 * h + 2)
    spoke_back =
        let e = mate₂ quads v l ok.oriented h k in
        let b = ok.oriented.shape.prev_lt h k in
        let m = n in
        let q = quad quads v l h k in
        let z = zones quads v l ok.oriented h k in
        record { lt = omega arith; inner = omega arith; start = face_ordinary; end = subst (Ordinary L) (sym q.to₂) (made_ordinary v l ok (v + edge quads l (quads.prev h)) (omega arith) (omega arith)) }

    -- the halves of a side with a mate are where the corner is ordinary
    pub first_plain : mate quads l h < length l → Ordinary L (from L (4 * h)) → OrdinaryEnds L (4 * h)
    first_plain m o =
        let e = mate₀ quads v l ok.oriented h k m in
        let b = ok.oriented.shape.next_lt (mate quads l h) m in
        let c = n in
        record { lt = omega arith; inner = omega arith; start = o; end = subst (Ordinary L) (sym first_to) edge_ordinary }

    pub last_plain : mate quads l h < length l → Ordinary L (from L (4 * quads.next h)) → OrdinaryEnds L (4 * quads.next h + 3)
    last_plain m o =
        let e = mate₃ quads v l ok.oriented (quads.next h) k' in
        let f = ap (mate quads l) (ok.oriented.shape.prev_next h) in
        let b = k' in
        let c = n in
        record { lt = omega arith; inner = omega arith; start = subst (Ordinary L) (sym last_from) edge_ordinary; end = subst (Ordinary L) (sym last_to) o }

  -- ---- straight across
  -- t is the mate of the side before g, and u the side before t
  across_at : (e : ℕ → ℤ) (g s t u : ℕ) → OrdinaryEnds L g → quads.prev g ≡ s → mate quads L s ≡ t → t < length L → quads.prev t ≡ u → straight L e g ≡ e (from L u)
  across_at e g s t u x a b c d =
      let i : mate quads L (quads.prev g) ≡ t = ap (mate quads L) a ∙ b in
      let y = lt-ltb t (length L) c in
      straight_read (refined_vertices quads v l) L fine g x.lt x.inner e x.start
      ∙ ap (λ (j : ℕ). cond (ltb j (length L)) (e (from L (quads.prev j))) (mirror (e (from L g)) (e (to quads L g)))) i
      ∙ ap (λ (q : Bool). cond q (e (from L (quads.prev t))) (mirror (e (from L g)) (e (to quads L g)))) y
      ∙ ap (λ (j : ℕ). e (from L j)) d

  -- the mate of a plain edge is plain
  plain-mate : (g x : ℕ) → OrdinaryEnds L g → mate quads L g ≡ x → x < length L → mate quads L x < length L → OrdinaryEnds L x
  plain-mate g x o e b c =
      let r = mate_is quads L g o.inner in
      record { lt = b; inner = c; start = subst (Ordinary L) (sym r.start ∙ ap (from L) e) o.end; end = subst (Ordinary L) (sym r.end ∙ ap (to quads L) e) o.start }

  -- beyond a ring of four: where q is inner and turns to g, the vertex straight across g is the far end of the half-edge before q round its start
  ring_across : (e : ℕ → ℤ) (q g : ℕ) → q < length L → mate quads L q < length L → Ordinary L (from L q) → turn quads L q ≡ g → g < length L
      → straight L e g ≡ e (to quads L (quads.next (mate quads L q)))
  unfolding straight iterate unturn
  ring_across e q g k m o t b =
      let r = turn_ring (refined_vertices quads v l) L fine q k m o (omega arith) in
      let w : Ring quads L (from L q) q 4 = subst (Ring quads L (from L q) q) r.1 (ring_of_lem (refined_vertices quads v l) L fine q k (let x = r.0 in omega arith)) in
      let z : turns quads L 2 g ≡ turns quads L 3 q = ap (λ (j : ℕ). turns quads L 2 j) (sym t) in
      let back : turn quads L (turns quads L 3 q) ≡ q = w.back in
      let i = w.walk.inside 3 (lit≤ tt) in
      let u = unturn-lt quads (refined_vertices quads v l) L fine.oriented q m in
      let s = turn-unturn quads (refined_vertices quads v l) L fine.oriented q k m in
      let y : turns quads L 3 q ≡ quads.next (mate quads L q) = turn_inj quads (refined_vertices quads v l) L fine.oriented (turns quads L 3 q) (unturn quads L q) i u (omega arith) (back ∙ sym s) in
      let f : from L g ≡ from L q = ap (from L) (sym t) ∙ turn-from quads (refined_vertices quads v l) L fine.oriented q (omega arith) in
      let c = le-ltb (boundary_from quads L (from L g)) (length L) (let x = ap (boundary_from quads L) f in let j = r.0 in omega arith) in
      ap (λ (d : Bool). cond d (mirror (e (from L g)) (e (to quads L g))) (e (to quads L (turns quads L 2 g)))) c
      ∙ ap (λ (j : ℕ). e (to quads L j)) (z ∙ y)

  module _ (w : Weights) (e : ℕ → ℤ) (h : ℕ) (k : h < length l) (m : mate quads l h < length l) where
    x : ℕ
    x = mate quads L (4 * h)

    x_is : x ≡ 4 * quads.next (mate quads l h) + 3
    unfolding x
    x_is = mate₀ quads v l ok.oriented h k m

    j_lt : quads.next h < length l
    j_lt = ok.oriented.shape.next_lt h k

    next_mate : quads.next (mate quads l h) < length l
    next_mate = ok.oriented.shape.next_lt (mate quads l h) m

    -- ---- inside the face: the point beyond the side, of the side, of the face, of the opposite side
    pub spoke_value : ordinary_value w L e (4 * h + 1) inner_rule ≡ interior w (e (from L (mate quads L (4 * h) - 1))) (e (from L (4 * h + 1))) (e (from L (4 * h + 2))) (e (from L (4 * quads.next (quads.next h) + 1)))
    unfolding ordinary_value x
    spoke_value =
        let p = spoke_plain h k in
        let c = n in
        let q = x_is in
        let b = next_mate in
        let i = j_lt in
        let i' = ok.oriented.shape.next_lt (quads.next h) j_lt in
        let y = mate₁ quads v l ok.oriented h k in
        let z = mate₁ quads v l ok.oriented (quads.next h) j_lt in
        let y₂ = mate₂ quads v l ok.oriented (quads.next h) j_lt in
        let g = ok.oriented.shape.prev_next h in
        let P = plain-mate (4 * h + 1) (4 * quads.next h + 2) p y (omega arith) (omega arith) in
        let a = across_at e (4 * h + 1) (4 * h) x (mate quads L (4 * h) - 1) p (four_sides h).prev₁ refl (omega arith)
        (ap quads.prev q ∙ (four_sides (quads.next (mate quads l h))).prev₃ ∙ omega arith) in
        let d = across_at e (4 * quads.next h + 2) (4 * quads.next h + 1) (4 * quads.next (quads.next h) + 2) (4 * quads.next (quads.next h) + 1) P (four_sides (quads.next h)).prev₂ z (omega arith)
        (four_sides (quads.next (quads.next h))).prev₂ in
        let f = ap e (spoke_to h k) in
        let s = ap (straight L e) y ∙ d in
        cc

    -- ---- on the side: beyond its first corner, that corner, its point, its second corner
    pub first_value : mate quads l (quads.prev h) < length l → Ordinary L (from L (4 * h))
        → ordinary_value w L e (4 * h) inner_rule ≡ interior w (e (from L (mate quads L (4 * h + 3) + 3))) (e (from L (4 * h))) (e (from L (4 * h + 1))) (e (from L (4 * quads.next h)))
    unfolding ordinary_value to x
    first_value mp o =
        let p = first_plain h k m o in
        let c = n in
        let q = x_is in
        let b = next_mate in
        let y = mate₃ quads v l ok.oriented h k in
        let r = mate_is quads l h m in
        let back = ok.oriented.shape.prev_next (mate quads l h) in
        let xm = mate₃ quads v l ok.oriented (quads.next (mate quads l h)) next_mate in
        let xn = ap (mate quads l) back in
        let x2 = mate₂ quads v l ok.oriented (quads.next (mate quads l h)) next_mate in
        let bk = mate_back' in
        let P = plain-mate (4 * h) (4 * quads.next (mate quads l h) + 3) p q (omega arith) (omega arith) in
        let a = across_at e (4 * h) (4 * h + 3) (mate quads L (4 * h + 3)) (mate quads L (4 * h + 3) + 3) p (four_sides h).prev₀ refl (omega arith)
        (ap quads.prev y ∙ (four_sides (mate quads l (quads.prev h))).prev₀ ∙ ap (λ (z : ℕ). z + 3) (sym y)) in
        let d = across_at e (4 * quads.next (mate quads l h) + 3) (4 * quads.next (mate quads l h) + 2) (4 * mate quads l h + 1) (4 * mate quads l h) P (four_sides (quads.next (mate quads l h))).prev₃
        (x2 ∙ ap (λ (z : ℕ). 4 * z + 1) back) (omega arith) (four_sides (mate quads l h)).prev₁ in
        let u : from L (4 * mate quads l h) ≡ from L (4 * quads.next h) = (quad quads v l (mate quads l h) m).from₀ ∙ r.start ∙ sym (quad quads v l (quads.next h) j_lt).from₀ in
        let f = ap e (first_to h k) in
        let s = ap (straight L e) q ∙ d ∙ ap e u in
        cc
      where
        mate_back' : mate quads l (mate quads l h) ≡ h
        mate_back' = mate-back quads v l ok.oriented h k m

    -- ---- and: its first corner, its point, its second corner, beyond that
    pub last_value : mate quads l (quads.next h) < length l → Ordinary L (from L (4 * quads.next h))
        → ordinary_value w L e (4 * quads.next h + 3) inner_rule ≡ interior w (e (from L (4 * h))) (e (from L (4 * h + 1))) (e (from L (4 * quads.next h))) (e (from L (mate quads L (4 * quads.next h) - 2)))
    unfolding ordinary_value turn to
    last_value mn o =
        let p = last_plain h k m o in
        let c = n in
        let i = j_lt in
        let y = mate_last' in
        let z = mate₀ quads v l ok.oriented (quads.next h) j_lt mn in
        let b = ok.oriented.shape.next_lt (mate quads l (quads.next h)) mn in
        let x2 = mate₂ quads v l ok.oriented (quads.next h) j_lt in
        let a = across_at e (4 * quads.next h + 3) (4 * quads.next h + 2) (4 * h + 1) (4 * h) p (four_sides (quads.next h)).prev₃ (x2 ∙ ap (λ (s : ℕ). 4 * s + 1) (ok.oriented.shape.prev_next h)) (omega arith) (four_sides h).prev₁ in
        let d = ring_across e (4 * quads.next h) (4 * mate quads l h) (omega arith) (omega arith) o (ap (mate quads L) (four_sides (quads.next h)).prev₀ ∙ y) (omega arith) in
        let t : to quads L (quads.next (mate quads L (4 * quads.next h))) ≡ from L (mate quads L (4 * quads.next h) - 2) = far in
        let f = ap e (last_from h k) in
        let g = ap e (last_to h k) in
        let s = ap (straight L e) y ∙ d ∙ ap e t in
        cc
      where
        mate_last' : mate quads L (4 * quads.next h + 3) ≡ 4 * mate quads l h
        mate_last' = mate₃ quads v l ok.oriented (quads.next h) j_lt ∙ ap (λ (s : ℕ). 4 * mate quads l s) (ok.oriented.shape.prev_next h)

        far : to quads L (quads.next (mate quads L (4 * quads.next h))) ≡ from L (mate quads L (4 * quads.next h) - 2)
        far =
            let z = mate₀ quads v l ok.oriented (quads.next h) j_lt mn in
            let K : ℕ = quads.next (mate quads l (quads.next h)) in
            ap (from L) (ap (λ (s : ℕ). quads.next (quads.next s)) z ∙ ap quads.next (four_sides K).next₃ ∙ (four_sides K).next₀ ∙ omega arith)

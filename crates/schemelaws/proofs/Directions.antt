-- Paper 01: "Proved: if all corners of a face and all their neighbours lie inside, those neighbours that are not corners have n = 4, and no edge joins two opposite
-- corners of the face, both directions agree exactly."
use mathlib.Core.Path.{◌≡◌, refl, sym, ap, ◌∙◌, subst}
use mathlib.Core.List.{List}
use Prim.Native.Nat.{ℕ, ◌+◌, ◌*◌, ◌≤◌, ◌<◌}
use native.Mathlib.Omega.{arith}
use lib.IntN.{ℤ}
use lib.ListN.{length}
use Rattle.search.specs.Search.{iterate}
use Rattle.search.proofs.Quarters.{below_four}
use Rattle.curve.specs.Weights.{Weights, scale, tension}
use Rattle.fractions.specs.Fraction.{Same}
use Rattle.topology.specs.Shape.{quads}
use Rattle.topology.specs.HalfEdge.{from, to, mate}
use Rattle.topology.specs.Boundary.{boundary_from}
use Rattle.topology.specs.Vertex.{valence, turn, turns, Ring}
use Rattle.topology.specs.Manifold.{Manifold}
use Rattle.topology.proofs.Shape.{face_prev, next_not, next_next_not}
use Rattle.topology.proofs.Mates.{to_prev, mate_is}
use Rattle.topology.proofs.Rings.{ring_mates, ring_turns}
use Rattle.topology.proofs.Faces.{share_one}
use Rattle.scheme.specs.Points.{edge_point, direction}
use Rattle.topology.specs.Quads.{across, beyond}
use Rattle.schemelaws.specs.Agreement.{Inside, SideOf, Leaves, Regular, FourBeyond}
use Rattle.schemelaws.proofs.Vertices.{ring_of_lem, ring_ge}
use Rattle.schemelaws.proofs.Ties.{next_side, prev_side}
use Rattle.schemelaws.proofs.Beyond.{next_across, across_next_lem, opposite_across, two_turns, third_neighbour}
use Rattle.schemelaws.proofs.OneDirection.{directions_agree}

module _ (v : ℕ) (l : List ℕ) (ok : Manifold quads v l) (f : ℕ) (reg : Regular l f) where
  module _ (h : ℕ) (s : SideOf l f h) where
    -- there are four
    sides : (P : ℕ → Type 0) → P h → P (quads.next h) → P (across h) → P (quads.prev h) → (c : ℕ) → SideOf l f c → P c
    unfolding quads iterate across
    sides P p₀ p₁ p₂ p₃ c t =
        let x = ok.oriented.shape.all h c s.lt t.lt (t.face ∙ sym s.face) in
        subst P x.2 (below_four (λ (i : ℕ). P (iterate quads.next i h)) p₀ p₁ p₂ (subst P (sym (next_across v l ok h s.lt)) p₃) x.0 x.1)

    -- the ring of the corner that h leaves
    ring : Ring quads l (from l h) h (valence l (from l h))
    ring = ring_of_lem v l ok h s.lt (let e = reg.corners h s in omega arith)

    three : 3 ≤ valence l (from l h)
    three = ring_ge v l ok h s.lt (let e = reg.corners h s in omega arith)

    inner : mate quads l h < length l
    inner = ring_mates quads v l ok.oriented (from l h) h (valence l (from l h)) ring h s.lt refl

    before_inner : mate quads l (quads.prev h) < length l
    unfolding turn
    before_inner = ring_turns quads v l ok.oriented (from l h) h (valence l (from l h)) ring h s.lt refl

    -- the neighbour beside it beyond h
    beside_start : Leaves l (from l h) (quads.next (mate quads l h))
    unfolding to
    beside_start = record { lt = ok.oriented.shape.next_lt (mate quads l h) inner; start = (mate_is quads l h inner).end }

    module _ (e : to quads l (quads.next (mate quads l h)) ≡ from l (quads.prev h)) where
      -- it is not the corner before h, since two faces share at most one side
      not_before : ⊥
      not_before =
          let t : ℕ = mate quads l h in
          let j = (prev_side v l ok f h s).lt in
          let c = mate_is quads l (quads.prev h) before_inner in
          let g : quads.next t ≡ mate quads l (quads.prev h) = ok.oriented.once (quads.next t) (mate quads l (quads.prev h)) beside_start.lt before_inner
          (beside_start.start ∙ sym (to_prev quads (length l) ok.oriented.shape l h) ∙ sym c.start) (e ∙ sym c.end) in
          let q : h ≡ quads.prev h = share_one v l ok h (quads.prev h) s.lt j (sym (face_prev quads (length l) ok.oriented.shape h)) inner before_inner
          (sym (ok.oriented.shape.face_next t) ∙ ap quads.face g) in
          next_not quads (length l) ok.oriented.shape (quads.prev h) j (ok.oriented.shape.next_prev h ∙ q)

    -- it is no corner of the face
    start_off : (c : ℕ) → SideOf l f c → to quads l (quads.next (mate quads l h)) ≡ from l c → ⊥
    unfolding to
    start_off =
        let w = ok.oriented.shape in
        let t : ℕ = mate quads l h in
        let x : ℕ = quads.next (quads.next t) in
        let x_lt = w.next_lt (quads.next t) beside_start.lt in
        sides (λ c. to quads l (quads.next (mate quads l h)) ≡ from l c → ⊥)
        (λ e. next_not quads (length l) w (quads.next t) beside_start.lt (ok.oriented.apart x (quads.next t) x_lt beside_start.lt (w.face_next (quads.next t)) (e ∙ sym beside_start.start)))
        (λ e. next_next_not quads (length l) w t inner (ok.oriented.apart x t x_lt inner (w.face_next (quads.next t) ∙ w.face_next t) (e ∙ sym (mate_is quads l h inner).start)))
        (λ e. reg.opposite h (quads.next t) s beside_start (e ∙ sym (opposite_across v l ok h)))
        not_before

    -- the vertex beyond, beside the start of h, lies inside and has four faces
    start_inside_lem : Inside l (from l (beyond l h))
    unfolding to across beyond
    start_inside_lem = reg.neighbours h (quads.next (mate quads l h)) s beside_start

    start_four_lem : valence l (from l (beyond l h)) ≡ 4
    unfolding to across beyond
    start_four_lem = reg.four h (quads.next (mate quads l h)) s beside_start start_off

  -- ---- the neighbour beyond h beside its end
  module _ (h : ℕ) (s : SideOf l f h) where
    abbrev t : ℕ
    t = mate quads l h

    t_lt : mate quads l h < length l
    t_lt = inner h s

    two_lt : turns quads l 2 (quads.next h) < length l
    two_lt = let k = three (quads.next h) (next_side v l ok f h s) in (ring (quads.next h) (next_side v l ok f h s)).walk.inside 2 (omega arith)

    w_lt : mate quads l (quads.prev (mate quads l h)) < length l
    w_lt = subst (λ (g : ℕ). g < length l) (two_turns v l ok h s.lt t_lt) two_lt

    beside_end : Leaves l (from l (quads.next h)) (mate quads l (quads.prev (mate quads l h)))
    unfolding to
    beside_end = record {
      lt = w_lt;
      start = (mate_is quads l (quads.prev t) w_lt).start ∙ to_prev quads (length l) ok.oriented.shape l t ∙ (mate_is quads l h t_lt).start;
    }

    end_is : to quads l (mate quads l (quads.prev (mate quads l h))) ≡ from l (quads.prev (mate quads l h))
    end_is = (mate_is quads l (quads.prev t) w_lt).end

    not_after : from l (quads.prev (mate quads l h)) ≡ from l (across h) → ⊥
    unfolding to across
    not_after e =
        let w = ok.oriented.shape in
        let i = next_side v l ok f h s in
        let j = inner (quads.next h) i in
        let c = mate_is quads l (quads.next h) j in
        let q-lt = w.prev_lt t t_lt in
        let g : quads.prev t ≡ mate quads l (quads.next h) = ok.oriented.once (quads.prev t) (mate quads l (quads.next h)) q-lt j (e ∙ sym c.start)
        (to_prev quads (length l) w l t ∙ (mate_is quads l h t_lt).start ∙ sym c.end) in
        let q : quads.next h ≡ h = share_one v l ok (quads.next h) h i.lt s.lt (w.face_next h) j t_lt (ap quads.face (sym g) ∙ face_prev quads (length l) w t) in
        next_not quads (length l) w h s.lt q

    end_off : (c : ℕ) → SideOf l f c → to quads l (mate quads l (quads.prev (mate quads l h))) ≡ from l c → ⊥
    unfolding to
    end_off =
        let w = ok.oriented.shape in
        let q : ℕ = quads.prev t in
        let q-lt = w.prev_lt t t_lt in
        let n-lt = w.next_lt t t_lt in
        let fq = face_prev quads (length l) w t in
        let m = mate_is quads l h t_lt in
        sides h s (λ c. to quads l (mate quads l (quads.prev (mate quads l h))) ≡ from l c → ⊥)
        (λ e. next_next_not quads (length l) w t t_lt (ap quads.next (sym (ok.oriented.apart q (quads.next t) q-lt n-lt (fq ∙ sym (w.face_next t)) (sym end_is ∙ e ∙ sym m.end))) ∙ w.next_prev t))
        (λ e. next_not quads (length l) w q q-lt (w.next_prev t ∙ sym (ok.oriented.apart q t q-lt t_lt fq (sym end_is ∙ e ∙ sym m.start))))
        (λ e. not_after (sym end_is ∙ e))
        (λ e. reg.opposite (quads.next h) (mate quads l q) (next_side v l ok f h s) beside_end (e ∙ ap (from l) (sym (across_next_lem v l ok h s.lt)) ∙ sym (opposite_across v l ok (quads.next h))))

    end_at : to quads l (mate quads l (quads.prev (mate quads l h))) ≡ to quads l (beyond l h)
    end_at = ap (to quads l) (sym (two_turns v l ok h s.lt t_lt)) ∙ third_neighbour v l ok h s.lt t_lt two_lt

    -- it lies inside too, and has four faces
    end_inside_lem : Inside l (to quads l (beyond l h))
    end_inside_lem = subst (λ (q : ℕ). boundary_from quads l q ≡ length l) end_at (reg.neighbours (quads.next h) (mate quads l (quads.prev t)) (next_side v l ok f h s) beside_end)

    end_four_lem : valence l (to quads l (beyond l h)) ≡ 4
    end_four_lem = subst (λ (q : ℕ). valence l q ≡ 4) end_at (reg.four (quads.next h) (mate quads l (quads.prev t)) (next_side v l ok f h s) beside_end end_off)

  regular_beyond : FourBeyond l f
  regular_beyond = record { corners = reg.corners; start_inside = start_inside_lem; start_four = start_four_lem; end_inside = end_inside_lem; end_four = end_four_lem }

-- ---- the law, at any weights
module _ (w : Weights) (near : 0 < w.near) (apart : 0 < scale w) (v : ℕ) (l marks : List ℕ) (ok : Manifold quads v l) (p : ℕ → ℤ) (f : ℕ) (k : f < quads.faces (length l)) (reg : Regular l f) where
  -- "both directions agree exactly"
  pub both_directions : Same (direction w l (edge_point w l marks p) (4 * f)) (direction w l (edge_point w l marks p) (4 * f + 1))
  both_directions = directions_agree w near apart v l marks ok p f (regular_beyond v l ok f reg) k

-- Paper 02: "State the rules once for all t, and keep the agreement of both directions."
pub both_directions_at : (t v : ℕ) (l marks : List ℕ) → Manifold quads v l → (p : ℕ → ℤ) (f : ℕ) → f < quads.faces (length l) → Regular l f
    → Same (direction (tension t) l (edge_point (tension t) l marks p) (4 * f)) (direction (tension t) l (edge_point (tension t) l marks p) (4 * f + 1))
both_directions_at t v l marks ok p f k reg = both_directions (tension t) (omega arith) (omega arith) v l marks ok p f k reg

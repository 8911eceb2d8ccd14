-- The coordinates that a round gives: old points stay, and each new one is a numerator rounded once. The point of an inner edge is the same from both its
-- half-edges, so it does not matter at which of them it is worked out. At any weights.
use mathlib.Core.Path.{◌≡◌, ap, ◌∙◌}
use mathlib.Core.List.{List}
use Prim.Native.Nat.{ℕ, ◌+◌, ◌-◌, ◌<◌, min}
use native.Mathlib.Decide.{dec_lt}
use native.Mathlib.Omega.{arith}
use lib.IntN.{ℤ, pos, ◌*ℤ◌}
use lib.ListN.{length}
use borrow.Author.Tests.{lt-ltb, le-ltb}
use Rattle.rounding.specs.Rounding.{round}
use Rattle.curve.specs.Weights.{Weights, scale}
use Rattle.curve.proofs.Mirror.{interior_turned}
use Rattle.fractions.specs.Fraction.{to_whole}
use Rattle.fractions.proofs.Laws.{to_whole_equals}
use Rattle.rings.specs.Scales.{virtual_scale, edge_scale, face_scale}
use Rattle.rings.proofs.Scales.{edge_scale_some, face_scale_some}
use Rattle.topology.specs.Shape.{quads}
use Rattle.topology.specs.HalfEdge.{from, to, mate, edge_count, edge, edge_at}
use Rattle.topology.specs.Manifold.{Oriented, Manifold}
use Rattle.topology.proofs.Mates.{mate_is, mate-back, edge-lt, edge_at-edge}
use Rattle.scheme.specs.Points.{edge_point, face_point}
use Rattle.scheme.specs.Step.{refined_coordinate}
use Rattle.schemelaws.specs.Numerators.{virtual_at_z, edge_z, face_z}
use Rattle.schemelaws.proofs.Ties.{edge-inner, equals_edge, equals_face}

-- ---- either half-edge
pub edge_either : (w : Weights) (v : ℕ) (l marks : List ℕ) → Oriented quads v l → (p : ℕ → ℤ) (h : ℕ) → h < length l → mate quads l h < length l
    → edge_z w l marks p (mate quads l h) ≡ edge_z w l marks p h
edge_either w v l marks ok p h k m =
    let b = mate-back quads v l ok h k m in
    let r = mate_is quads l h m in
    rw (edge-inner w l marks p (mate quads l h) (let x = b in omega arith), edge-inner w l marks p h m, b, r.start, r.end)
    (interior_turned w (virtual_at_z w l p (mate quads l h)) (pos (virtual_scale w) *ℤ p (to quads l h)) (pos (virtual_scale w) *ℤ p (from l h)) (virtual_at_z w l p h))

-- ---- what a round gives
module _ (w : Weights) (v : ℕ) (l marks : List ℕ) (p : ℕ → ℤ) where
  pub refined_old : (i : ℕ) → i < v → refined_coordinate w v l marks p i ≡ p i
  unfolding refined_coordinate
  refined_old i b = let t = lt-ltb i v b in rw t

  pub refined-edge_at : (e : ℕ) → e < edge_count quads l → refined_coordinate w v l marks p (v + e) ≡ to_whole (edge_point w l marks p (edge_at quads l e))
  unfolding refined_coordinate
  refined-edge_at e b =
      let s = le-ltb (v + e) v (omega arith) in
      let t = lt-ltb (v + e) (v + edge_count quads l) (omega arith) in
      let d : v + e - v ≡ e = omega arith in
      rw (s, t, d)

  refined_face_at : (f : ℕ) → refined_coordinate w v l marks p (v + edge_count quads l + f) ≡ to_whole (face_point w l marks p f)
  unfolding refined_coordinate
  refined_face_at f =
      let s = le-ltb (v + edge_count quads l + f) v (omega arith) in
      let t = le-ltb (v + edge_count quads l + f) (v + edge_count quads l) (omega arith) in
      let d : v + edge_count quads l + f - (v + edge_count quads l) ≡ f = omega arith in
      rw (s, t, d)

module _ (w : Weights) (near : 0 < w.near) (apart : 0 < scale w) (v : ℕ) (l marks : List ℕ) (ok : Manifold quads v l) (p : ℕ → ℤ) where
  pub refined-edge : (h : ℕ) → h < length l → refined_coordinate w v l marks p (v + edge quads l h) ≡ round (edge_z w l marks p h) (edge_scale w)
  refined-edge h k =
      refined-edge_at w v l marks p (edge quads l h) (edge-lt quads v l ok.oriented h k)
      ∙ ap (λ (g : ℕ). to_whole (edge_point w l marks p g)) (edge_at-edge quads v l ok.oriented h k)
      ∙ to_whole_equals (edge_scale_some w near apart) (equals_edge w near apart v l marks ok p (min h (mate quads l h)) (omega arith))
      ∙ ap (λ (z : ℤ). round z (edge_scale w)) (go (dec_lt h (mate quads l h)))
    where
      go : Dec (h < mate quads l h) → edge_z w l marks p (min h (mate quads l h)) ≡ edge_z w l marks p h
      go (yes b) = let e : min h (mate quads l h) ≡ h = omega arith in ap (edge_z w l marks p) e
      go (no b) = let e : min h (mate quads l h) ≡ mate quads l h = omega arith in ap (edge_z w l marks p) e ∙ edge_either w v l marks ok.oriented p h k (omega arith)

  pub refined_face_lem : (f : ℕ) → f < quads.faces (length l) → refined_coordinate w v l marks p (v + edge_count quads l + f) ≡ round (face_z w l (edge_z w l marks p) f) (face_scale w)
  refined_face_lem f k = refined_face_at w v l marks p f ∙ to_whole_equals (face_scale_some w near apart) (equals_face w near apart v l marks ok p f k)

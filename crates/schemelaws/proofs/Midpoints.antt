-- Paper 02: "t = 0 gives plain midpoints on edges." On faces it gives the mean of the four corners. Assumes a manifold net.
use mathlib.Core.Path.{◌≡◌, refl, sym, ap, ap₂, ◌∙◌}
use mathlib.Core.Bool.{Bool, true, false, cond}
use mathlib.Core.List.{List, [], ◌∷◌}
use Prim.Native.Nat.{ℕ, ◌+◌, ◌*◌, ◌<◌}
use native.Mathlib.Omega.{arith}
use lib.Dec.{ltb}
use lib.IntN.{ℤ, pos, ◌+ℤ◌, ◌*ℤ◌}
use lib.ListN.{length}
use Rattle.integers.proofs.Polynomial.{Poly, var, lit, ◌⊞◌, ◌⊠◌, same}
use Rattle.fractions.specs.Fraction.{whole, to_whole, ◌+ᶠ◌, ◌/ᶠ◌, Equals, Same}
use Rattle.fractions.proofs.Laws.{to_whole_equals, equals_whole, equals_add, equals_divided, equals_cong, equals_reduced, same_of_equals}
use Rattle.curve.specs.Weights.{tension, interior, end_edge, single_edge}
use Rattle.curve.proofs.Tension.{single_at, interior-zero, end_zero}
use Rattle.rings.specs.Scales.{virtual_scale}
use Rattle.rings.proofs.Scales.{edge_scale_some}
use Rattle.rules.specs.Rules.{midpoint}
use Rattle.topology.specs.Shape.{quads}
use Rattle.topology.specs.HalfEdge.{from, to, mate, edge}
use Rattle.topology.specs.Boundary.{along, back}
use Rattle.topology.specs.Manifold.{Manifold}
use Rattle.topology.specs.Quads.{across, beyond}
use Rattle.topology.proofs.Shape.{four_sides}
use Rattle.topology.proofs.Mates.{edge-lt}
use Rattle.nets.specs.Net.{Net, axis}
use Rattle.scheme.specs.Points.{EdgeRule, inside_segment, start_of_segment, end_of_segment, whole_segment, inner_rule, edge_rule, edge_point, FaceRule, first_alone, second_alone, both_inner, neither_inner, face_rule, face_point}
use Rattle.scheme.specs.Step.{refined_coordinate, step}
use Rattle.schemelaws.specs.Nets.{Refinable}
use Rattle.schemelaws.specs.Ordinary.{ordinary_value}
use Rattle.schemelaws.specs.Numerators.{virtual_at_z, edge_value_z, edge_z, direction_z, face_value_z, face_z}
use Rattle.schemelaws.proofs.Ties.{equals_edge, equals_face}
use Rattle.schemelaws.proofs.Coordinates.{refined-edge}
use Rattle.schemelaws.proofs.Steps.{step-axis, refinable_manifold}

-- half the denominator, by the definitions
abbrev half : ℕ
half = 32 * virtual_scale (tension 0)

abbrev D : Poly
D = lit (pos (virtual_scale (tension 0)))

abbrev H : Poly
H = lit (pos half)

-- ---- edges
turned : (x y : ℤ) → y +ℤ x ≡ x +ℤ y
turned x y = same (var 1 ⊞ var 0) (var 0 ⊞ var 1) (x ∷ y ∷ []) refl

scaled : {x : ℤ} (z : ℤ) → x ≡ pos 32 *ℤ z → pos (virtual_scale (tension 0)) *ℤ x ≡ pos half *ℤ z
scaled z e = ap (λ (y : ℤ). pos (virtual_scale (tension 0)) *ℤ y) e ∙ same (D ⊠ (lit (pos 32) ⊠ var 0)) (H ⊠ var 0) (z ∷ []) refl

value_half : (l : List ℕ) (p : ℕ → ℤ) (h : ℕ) (r : EdgeRule) → edge_value_z (tension 0) l p h r ≡ pos half *ℤ (p (from l h) +ℤ p (to quads l h))
unfolding edge_value_z ordinary_value
value_half l p h inside_segment = scaled (p (from l h) +ℤ p (to quads l h)) (interior-zero (p (from l (back quads l h))) (p (from l h)) (p (to quads l h)) (p (to quads l (along quads l h))))
value_half l p h start_of_segment = scaled (p (from l h) +ℤ p (to quads l h)) (end_zero (p (from l h)) (p (to quads l h)) (p (to quads l (along quads l h))))
value_half l p h end_of_segment = scaled (p (to quads l h) +ℤ p (from l h)) (end_zero (p (to quads l h)) (p (from l h)) (p (from l (back quads l h)))) ∙ ap (λ (z : ℤ). pos half *ℤ z) (turned (p (from l h)) (p (to quads l h)))
value_half l p h whole_segment = scaled (p (from l h) +ℤ p (to quads l h)) (single_at 0 (p (from l h)) (p (to quads l h)))
value_half l p h inner_rule =
    interior-zero (virtual_at_z (tension 0) l p h) (pos (virtual_scale (tension 0)) *ℤ p (from l h)) (pos (virtual_scale (tension 0)) *ℤ p (to quads l h)) (virtual_at_z (tension 0) l p (mate quads l h))
    ∙ same (lit (pos 32) ⊠ (D ⊠ var 0 ⊞ D ⊠ var 1)) (H ⊠ (var 0 ⊞ var 1)) (p (from l h) ∷ p (to quads l h) ∷ []) refl

module _ (v : ℕ) (l marks : List ℕ) (ok : Manifold quads v l) (p : ℕ → ℤ) (h : ℕ) (k : h < length l) where
  abbrev ends : ℤ
  ends = p (from l h) +ℤ p (to quads l h)

  point_half : Equals (edge_point (tension 0) l marks p h) ends 2
  unfolding edge_z
  point_half =
      let i : 0 < half = omega arith in
      let e : Equals (edge_point (tension 0) l marks p h) (pos half *ℤ ends) (half * 2) = equals_cong (value_half l p h (edge_rule l marks h)) refl (equals_edge (tension 0) (omega arith) (omega arith) v l marks ok p h k) in
      equals_reduced half ends 2 i e

  midpoint_half : Equals (midpoint (whole (p (from l h))) (whole (p (to quads l h)))) ends 2
  unfolding midpoint
  midpoint_half = equals_divided 2 (omega arith) (equals_add (equals_whole (p (from l h))) (equals_whole (p (to quads l h))))

  pub plain-midpoints : Same (edge_point (tension 0) l marks p h) (midpoint (whole (p (from l h))) (whole (p (to quads l h))))
  plain-midpoints = same_of_equals (omega arith) point_half midpoint_half

  midpoint-rounded : refined_coordinate (tension 0) v l marks p (v + edge quads l h) ≡ to_whole (midpoint (whole (p (from l h))) (whole (p (to quads l h))))
  midpoint-rounded =
      refined-edge (tension 0) (omega arith) (omega arith) v l marks ok p h k
      ∙ sym (to_whole_equals (edge_scale_some (tension 0) (omega arith) (omega arith)) (equals_edge (tension 0) (omega arith) (omega arith) v l marks ok p h k))
      ∙ to_whole_equals (omega arith) point_half ∙ sym (to_whole_equals (omega arith) midpoint_half)

-- ---- faces: each direction is the midpoint of two opposite edge points, and they the midpoints of the sides
direction_half : (l : List ℕ) (e : ℕ → ℤ) (h : ℕ) → direction_z (tension 0) l e h ≡ pos 32 *ℤ (e h +ℤ e (across h))
unfolding direction_z
direction_half l e h = go (ltb (mate quads l h) (length l)) (ltb (mate quads l (across h)) (length l))
  where
    go : (b c : Bool)
        → cond b (cond c (interior (tension 0) (e (beyond l h)) (e h) (e (across h)) (e (beyond l (across h)))) (end_edge (tension 0) (e (across h)) (e h) (e (beyond l h))))
        (cond c (end_edge (tension 0) (e h) (e (across h)) (e (beyond l (across h)))) (single_edge (tension 0) (e h) (e (across h))))
        ≡ pos 32 *ℤ (e h +ℤ e (across h))
    go true true = interior-zero (e (beyond l h)) (e h) (e (across h)) (e (beyond l (across h)))
    go true false = end_zero (e (across h)) (e h) (e (beyond l h)) ∙ ap (λ (z : ℤ). pos 32 *ℤ z) (turned (e h) (e (across h)))
    go false true = end_zero (e h) (e (across h)) (e (beyond l (across h)))
    go false false = refl

module _ (l marks : List ℕ) (p : ℕ → ℤ) (f : ℕ) where
  -- corner i of the face, and all of them
  corner : ℕ → ℤ
  corner i = p (from l i)

  corners : ℤ
  corners = corner (4 * f) +ℤ corner (4 * f + 1) +ℤ corner (4 * f + 2) +ℤ corner (4 * f + 3)

  edge_half : (h g : ℕ) → quads.next h ≡ g → edge_z (tension 0) l marks p h ≡ pos half *ℤ (corner h +ℤ corner g)
  unfolding edge_z to corner
  edge_half h g e = value_half l p h (edge_rule l marks h) ∙ ap (λ (i : ℕ). pos half *ℤ (p (from l h) +ℤ p (from l i))) e

  direction_means : (h g : ℕ) → across h ≡ g → (a b : ℕ) → quads.next h ≡ a → quads.next g ≡ b
      → direction_z (tension 0) l (edge_z (tension 0) l marks p) h ≡ pos (32 * half) *ℤ (corner h +ℤ corner a +ℤ corner g +ℤ corner b)
  direction_means h g eg a b ea eb =
      direction_half l (edge_z (tension 0) l marks p) h
      ∙ ap (λ (i : ℕ). pos 32 *ℤ (edge_z (tension 0) l marks p h +ℤ edge_z (tension 0) l marks p i)) eg
      ∙ ap₂ (λ (x y : ℤ). pos 32 *ℤ (x +ℤ y)) (edge_half h a ea) (edge_half g b eb)
      ∙ same (lit (pos 32) ⊠ (H ⊠ (var 0 ⊞ var 1) ⊞ H ⊠ (var 2 ⊞ var 3))) (lit (pos (32 * half)) ⊠ (var 0 ⊞ var 1 ⊞ var 2 ⊞ var 3)) (corner h ∷ corner a ∷ corner g ∷ corner b ∷ []) refl

  first_means : direction_z (tension 0) l (edge_z (tension 0) l marks p) (4 * f) ≡ pos (32 * half) *ℤ corners
  unfolding across corners
  first_means = let s = four_sides f in direction_means (4 * f) (4 * f + 2) (ap quads.next s.next₀ ∙ s.next₁) (4 * f + 1) (4 * f + 3) s.next₀ s.next₂

  second_means : direction_z (tension 0) l (edge_z (tension 0) l marks p) (4 * f + 1) ≡ pos (32 * half) *ℤ corners
  unfolding across corners
  second_means =
      let s = four_sides f in
      direction_means (4 * f + 1) (4 * f + 3) (ap quads.next s.next₁ ∙ s.next₂) (4 * f + 2) (4 * f) s.next₁ s.next₃
      ∙ same (lit (pos (32 * half)) ⊠ (var 1 ⊞ var 2 ⊞ var 3 ⊞ var 0)) (lit (pos (32 * half)) ⊠ (var 0 ⊞ var 1 ⊞ var 2 ⊞ var 3)) (corner (4 * f) ∷ corner (4 * f + 1) ∷ corner (4 * f + 2) ∷ corner (4 * f + 3) ∷ []) refl

  double : pos 2 *ℤ (pos (32 * half) *ℤ corners) ≡ pos (64 * half) *ℤ corners
  double = same (lit (pos 2) ⊠ (lit (pos (32 * half)) ⊠ var 0)) (lit (pos (64 * half)) ⊠ var 0) (corners ∷ []) refl

  both : pos (32 * half) *ℤ corners +ℤ pos (32 * half) *ℤ corners ≡ pos (64 * half) *ℤ corners
  both = same (lit (pos (32 * half)) ⊠ var 0 ⊞ lit (pos (32 * half)) ⊠ var 0) (lit (pos (64 * half)) ⊠ var 0) (corners ∷ []) refl

  face_means : (r : FaceRule) → face_value_z (tension 0) l (edge_z (tension 0) l marks p) f r ≡ pos (64 * half) *ℤ corners
  unfolding face_value_z
  face_means first_alone = ap (λ (x : ℤ). pos 2 *ℤ x) first_means ∙ double
  face_means second_alone = ap (λ (x : ℤ). pos 2 *ℤ x) second_means ∙ double
  face_means both_inner = ap₂ ◌+ℤ◌ first_means second_means ∙ both
  face_means neither_inner = ap₂ ◌+ℤ◌ first_means second_means ∙ both

  pub plain_means : (v : ℕ) → Manifold quads v l → f < quads.faces (length l)
      → Same (face_point (tension 0) l marks p f) ((whole (p (from l (4 * f))) +ᶠ whole (p (from l (4 * f + 1))) +ᶠ whole (p (from l (4 * f + 2))) +ᶠ whole (p (from l (4 * f + 3)))) /ᶠ 4)
  unfolding face_z corner corners
  plain_means v ok k =
      let e : Equals (face_point (tension 0) l marks p f) (pos (64 * half) *ℤ corners) (64 * half * 4) = equals_cong (face_means (face_rule l f)) refl (equals_face (tension 0) (omega arith) (omega arith) v l marks ok p f k) in
      let i : 0 < 64 * half = omega arith in
      same_of_equals (omega arith) (equals_reduced (64 * half) corners 4 i e)
      (equals_divided 4 (omega arith) (equals_add (equals_add (equals_add (equals_whole (p (from l (4 * f)))) (equals_whole (p (from l (4 * f + 1))))) (equals_whole (p (from l (4 * f + 2))))) (equals_whole (p (from l (4 * f + 3))))))

-- ---- a round: the new vertex on the edge of h
pub step-midpoints : (m : Net) → Refinable m → (h a : ℕ) → h < length m.faces → a < 3
    → axis (step (tension 0) m).vertices a (length m.marks + edge quads m.faces h) ≡ to_whole (midpoint (whole (axis m.vertices a (from m.faces h))) (whole (axis m.vertices a (to quads m.faces h))))
step-midpoints m ok h a k b =
    let g = refinable_manifold m ok in
    let e = edge-lt quads (length m.marks) m.faces g.oriented h k in
    step-axis (tension 0) m a (length m.marks + edge quads m.faces h) b (omega arith)
    ∙ midpoint-rounded (length m.marks) m.faces m.marks g (axis m.vertices a) h k

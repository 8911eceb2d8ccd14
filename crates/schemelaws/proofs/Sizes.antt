-- How large the new points are, in numerators over the common denominators, where every vertex lies within B: their difference to the points of a net whose
-- vertices are all 0. At any tame weights.
use mathlib.Core.Path.{◌≡◌, refl, ap, ◌∙◌, subst}
use mathlib.Core.List.{List, [], ◌∷◌}
use Prim.Native.Nat.{ℕ, ◌+◌, ◌*◌, ◌/◌, ◌≤◌, ◌<◌}
use native.Mathlib.Omega.{arith}
use lib.IntN.{ℤ, pos, nat_abs, ◌-ℤ◌, ◌*ℤ◌}
use lib.ListN.{length}
use Rattle.integers.proofs.Polynomial.{var, lit, ◌⊟◌, ◌⊠◌, same}
use Rattle.curve.specs.Weights.{Weights, scale}
use Rattle.curve.proofs.Distance.{Tame, tame_end}
use Rattle.rings.specs.Scales.{extrapolated_scale, valence_scale, virtual_scale, edge_scale, face_scale, coordinate_range, virtual_range, edge_range}
use Rattle.topology.specs.Shape.{quads}
use Rattle.topology.specs.HalfEdge.{mate}
use Rattle.topology.specs.Boundary.{boundary_from}
use Rattle.topology.specs.Vertex.{valence}
use Rattle.topology.specs.Manifold.{Manifold}
use Rattle.schemelaws.specs.Numerators.{extrapolated_at_z, fan_neighbour_z, fan_corner_z, virtual_at_z, edge_z, direction_z, face_z}
use Rattle.schemelaws.proofs.Norm.{extrapolated_at_near, fan_neighbour_near, fan_corner_near, virtual_near, edge_near, direction_near, face_z_near, five_quarters}
use Rattle.schemelaws.proofs.Constant.{extrapolated_at_constant, fan_neighbour_constant, fan_corner_constant, virtual_at_constant, edge_constant, direction_constant, face_z_constant}

less_none : (z x : ℤ) → x ≡ pos 0 → nat_abs (z -ℤ x) ≡ nat_abs z
less_none z x e = ap (λ (t : ℤ). nat_abs (z -ℤ t)) e ∙ ap nat_abs (same (var 0 ⊟ lit (pos 0)) (var 0) (z ∷ []) refl)

none : (k : ℕ) → pos k *ℤ pos 0 ≡ pos 0
none k = same (var 0 ⊠ lit (pos 0)) (lit (pos 0)) (pos k ∷ []) refl

by_difference : (k : ℕ) (z x : ℤ) {A : ℕ} → x ≡ pos 0 → k * nat_abs (z -ℤ x) ≤ A → k * nat_abs z ≤ A
by_difference k z x {A} e h = subst (λ (t : ℕ). k * t ≤ A) (less_none z x e) h

once : (z x : ℤ) {A : ℕ} → x ≡ pos 0 → nat_abs (z -ℤ x) ≤ A → nat_abs z ≤ A
once z x {A} e h = subst (λ (t : ℕ). t ≤ A) (less_none z x e) h

-- the net whose vertices are all 0
abbrev origin : ℕ → ℤ
origin x = pos 0

module _ (v : ℕ) (l : List ℕ) (ok : Manifold quads v l) (p : ℕ → ℤ) (B : ℕ) (small : (x : ℕ) → x < v → nat_abs (p x) ≤ B) where
  near : (x : ℕ) → x < v → nat_abs (p x -ℤ pos 0) ≤ B
  near x k = let e = less_none (p x) (pos 0) refl in let s = small x k in omega arith

  -- ---- at a boundary vertex: 3
  module _ (P : ℕ) (b : boundary_from quads l P < length l) where
    pub extrapolated_at_size : nat_abs (extrapolated_at_z l p P) ≤ extrapolated_scale * (3 * B)
    extrapolated_at_size = once (extrapolated_at_z l p P) (extrapolated_at_z l origin P) (extrapolated_at_constant v l ok (pos 0) P b) (extrapolated_at_near v l ok p origin B near P b)

    pub fan_neighbour_size : (i : ℕ) → i < valence l P + 2 → nat_abs (fan_neighbour_z l p P i) ≤ extrapolated_scale * (3 * B)
    fan_neighbour_size i k = once (fan_neighbour_z l p P i) (fan_neighbour_z l origin P i) (fan_neighbour_constant v l ok (pos 0) P b i) (fan_neighbour_near v l ok p origin B near P b i k)

    pub fan_corner_size : (i : ℕ) → i < valence l P + 2 → nat_abs (fan_corner_z l p P i) ≤ extrapolated_scale * (3 * B)
    fan_corner_size i k = once (fan_corner_z l p P i) (fan_corner_z l origin P i) (fan_corner_constant v l ok (pos 0) P b i) (fan_corner_near v l ok p origin B near P b i k)

-- ---- virtual and edge points: 17/3 and 11/6
module _ (w : Weights) (tame : Tame w) (v : ℕ) (l : List ℕ) (ok : Manifold quads v l) (p : ℕ → ℤ) (B : ℕ) (small : (x : ℕ) → x < v → nat_abs (p x) ≤ B) where
  pub virtual_at_size : (h : ℕ) → h < length l → mate quads l h < length l → 3 * nat_abs (virtual_at_z w l p h) ≤ virtual_scale w * (17 * B)
  virtual_at_size h k m =
      by_difference 3 (virtual_at_z w l p h) (virtual_at_z w l origin h) (virtual_at_constant w v l ok (pos 0) h k ∙ none (virtual_scale w)) (virtual_near w tame v l ok p origin B (near v l ok p B small) h k m)

  pub edge_size : (marks : List ℕ) (h : ℕ) → h < length l → 6 * nat_abs (edge_z w l marks p h) ≤ edge_scale w * (11 * B)
  edge_size marks h k =
      by_difference 6 (edge_z w l marks p h) (edge_z w l marks origin h) (edge_constant w v l ok (pos 0) (tame_end w tame) marks h k ∙ none (edge_scale w))
      (edge_near w tame v l ok p origin B (near v l ok p B small) marks h k)

-- ---- directions and faces, from edge points within B: 5/4
module _ (w : Weights) (tame : Tame w) (v : ℕ) (l : List ℕ) (ok : Manifold quads v l) (e : ℕ → ℤ) (B : ℕ) (small : (h : ℕ) → h < length l → nat_abs (e h) ≤ B) where
  edges_near : (h : ℕ) → h < length l → nat_abs (e h -ℤ pos 0) ≤ B
  edges_near h k = let f = less_none (e h) (pos 0) refl in let s = small h k in omega arith

  pub direction_size : (h : ℕ) → h < length l → nat_abs (direction_z w l e h) ≤ (5 * tame.quarter) * B
  direction_size h k =
      once (direction_z w l e h) (direction_z w l origin h) (direction_constant w (tame_end w tame) v l ok origin (pos 0) (λ g c. refl) h k ∙ none (scale w)) (direction_near w tame v l ok e origin B edges_near h k)

  face_z_size : (f : ℕ) → f < quads.faces (length l) → nat_abs (face_z w l e f) ≤ 2 * ((5 * tame.quarter) * B)
  face_z_size f k =
      once (face_z w l e f) (face_z w l origin f) (face_z_constant w (tame_end w tame) v l ok origin (pos 0) (λ g c. refl) f k ∙ none (2 * scale w)) (face_z_near w tame v l ok e origin B edges_near f k)

-- ---- face points: 55/24
pub face_size : (w : Weights) (tame : Tame w) (v : ℕ) (l marks : List ℕ) → Manifold quads v l → (p : ℕ → ℤ) (B : ℕ) → ((x : ℕ) → x < v → nat_abs (p x) ≤ B)
    → (f : ℕ) → f < quads.faces (length l) → 24 * nat_abs (face_z w l (edge_z w l marks p) f) ≤ face_scale w * (55 * B)
face_size w tame v l marks ok p B small f k =
    let x : ℕ = edge_scale w * (11 * B) in
    let r = face_z_size w tame v l ok (edge_z w l marks p) (x / 6) (λ h c. let y = edge_size w tame v l ok p B small marks h c in omega arith) f k in
    let z = five_quarters w tame B in
    omega arith

-- ---- the ranges of what the code stores, from coordinates within `coordinate_range`
module _ (v : ℕ) (l : List ℕ) (ok : Manifold quads v l) (p : ℕ → ℤ) (small : (x : ℕ) → x < v → nat_abs (p x) ≤ coordinate_range) where
  module _ (w : Weights) (tame : Tame w) where
    pub virtual_range_lem : (h : ℕ) → h < length l → mate quads l h < length l → nat_abs (virtual_at_z w l p h) ≤ virtual_range w
    virtual_range_lem h k m = let r = virtual_at_size w tame v l ok p coordinate_range small h k m in omega arith

    -- the scale of edge points goes by six
    sixths : edge_scale w ≡ 6 * (scale w * (w.near * (valence_scale * extrapolated_scale / 6)))
    sixths = ap nat_abs (same (var 0 ⊠ (var 1 ⊠ lit (pos (valence_scale * extrapolated_scale)))) (lit (pos 6) ⊠ (var 0 ⊠ (var 1 ⊠ lit (pos (valence_scale * extrapolated_scale / 6))))) (pos (scale w) ∷ pos w.near ∷ []) refl)

    pub edge_range_lem : (marks : List ℕ) (h : ℕ) → h < length l → nat_abs (edge_z w l marks p h) ≤ edge_range w
    edge_range_lem marks h k = let r = edge_size w tame v l ok p coordinate_range small marks h k in let s = sixths in omega arith

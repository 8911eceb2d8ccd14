-- Exact points over the common denominators: virtual points, inner edges, and any edge with its flag.
use mathlib.Core.Path.{◌≡◌, refl, sym, ap, ap₂, ◌∙◌, subst}
use mathlib.Core.Bool.{Bool, true, false, cond}
use mathlib.Core.Logic.{inr}
use mathlib.Core.List.{List, []}
use Rattle.std.proofs.Common.{Option, Some, None}
use Prim.Native.Nat.{ℕ, ◌*◌, ◌≤◌, ◌<◌}
use native.Mathlib.Nat.{mul-one, mul-le-mul_left, mul-le-mul_right}
use native.Mathlib.Omega.{arith}
use lib.IntN.{ℤ, pos, nat_abs, ◌*ℤ◌}
use lib.ListN.{length}
use mir.Syntax.{w64}
use mir.Val.{SFits}
use Rattle.integers.proofs.AbsoluteValue.{abs-mul}
use Rattle.integers.proofs.Range.{fits_abs}
use Rattle.integers.proofs.Ring.{one_*ℤ}
use Rattle.curve.specs.Weights.{tension, interior, mirror}
use Rattle.curve.proofs.Tension.{tame}
use Rattle.curve.proofs.Mirror.{end_mirrored, single_mirrored, interior_turned}
use Rattle.fractions.proofs.Laws.{equals_cong, equals_one, equals_scaled}
use Rattle.rings.specs.Scales.{virtual_scale, coordinate_range, virtual_range, edge_range}
use Rattle.rules.specs.Numerators.{inner_edge_z}
use Rattle.topology.specs.Shape.{quads}
use Rattle.topology.specs.HalfEdge.{from, to, mate}
use Rattle.topology.specs.Boundary.{along, back}
use Rattle.topology.specs.Manifold.{Manifold}
use Rattle.nets.specs.Net.{marked, axis}
use Rattle.scheme.specs.Points.{EdgeRule, inside_segment, start_of_segment, end_of_segment, whole_segment, inner_rule, edge_rule}
use Rattle.schemelaws.specs.Ordinary.{Ordinary, OrdinaryEnds, straight, ordinary_value, ordinary_edge}
use Rattle.schemelaws.specs.Numerators.{virtual_at_z, edge_value_z, edge_z}
use Rattle.schemelaws.proofs.FanOfTwo.{virtual_ordinary}
use Rattle.schemelaws.proofs.Ties.{equals_virtual_at, edge_boundary}
use Rattle.schemelaws.proofs.Sizes.{virtual_range_lem, edge_range_lem}
use Rattle.schemelaws.proofs.Plain.{edge-plain}
use Rattle.ringsizes.specs.Classes.{ordinary_by}
use Rattle.coordinates.specs.Points.{Points, OnAxes}
use Rattle.edgeentries.specs.Entry.{wide_flag, boundary_flag, unit_of}
use Rattle.coordinates.specs.Stencil.{far_value, stencil_value}
use Rattle.coordinates.proofs.Values.{axis_bound}
use Rattle.exactedges.specs.Edge.{far_before, far_after, far_on, StraightFar, ClassedCorners, Flagged, plain, wide, boundary, ExactEdge, ExactPoint}
use Rattle.edgerules.proofs.Rule.{rule_inner, rule_boundary}

-- ---- the end of a half-edge is a corner too
pub classed_end : (v : ℕ) (l : List ℕ) → Manifold quads v l → (w : List ℕ) (at initial : ℕ) → ClassedCorners at initial l w → (h : ℕ) → h < length l
    → ordinary_by w at initial (to quads l h) ≡ true → Ordinary l (to quads l h)
unfolding to
classed_end v l ok w at initial c h k e = c.ordinary (quads.next h) (ok.oriented.shape.next_lt h k) e

pub irregular_end : (v : ℕ) (l : List ℕ) → Manifold quads v l → (w : List ℕ) (at initial : ℕ) → ClassedCorners at initial l w → (h : ℕ) → h < length l
    → ordinary_by w at initial (to quads l h) ≡ false → Ordinary l (to quads l h) → ⊥
unfolding to
irregular_end v l ok w at initial c h k e = c.irregular (quads.next h) (ok.oriented.shape.next_lt h k) e

module _ (t : ℕ) (low : t ≤ 4) where
  -- ---- scaled coordinates
  pub scaled_fits : (z : ℤ) → nat_abs z ≤ 3 * coordinate_range → SFits w64 (pos (virtual_scale (tension t)) *ℤ z)
  scaled_fits z h = let a = abs-mul (pos (virtual_scale (tension t))) z in let b : virtual_scale (tension t) ≤ 1814400 = omega arith in let m = mul-le-mul_right (nat_abs z) b in fits_abs w64 _ (omega arith)

  pub scaled_size : (z x : ℤ) → nat_abs z ≤ coordinate_range → x ≡ pos (virtual_scale (tension t)) *ℤ z → nat_abs x ≤ virtual_scale (tension t) * coordinate_range
  scaled_size z x h e = let a = abs-mul (pos (virtual_scale (tension t))) z in let b = ap nat_abs e in let m = mul-le-mul_left (virtual_scale (tension t)) h in omega arith

  -- ---- virtual points in whole numbers
  module _ (v : ℕ) (l : List ℕ) (ok : Manifold quads v l) (e : ℕ → ℤ) (h : ℕ) (k : h < length l) where
    straight-virtual : mate quads l h < length l → Ordinary l (from l h) → pos (virtual_scale (tension t)) *ℤ straight l e h ≡ virtual_at_z (tension t) l e h
    straight-virtual m o =
        equals_one (pos (virtual_scale (tension t)) *ℤ straight l e h) (virtual_at_z (tension t) l e h)
        (equals_cong refl (mul-one (virtual_scale (tension t))) (equals_scaled (virtual_scale (tension t)) (virtual_ordinary (tension t) (omega arith) v l ok e h k m o))) (equals_virtual_at (tension t) (omega arith) v l ok e h k)

  pub far_virtual : (v : ℕ) (l : List ℕ) → Manifold quads v l → (h : ℕ) → h < length l → mate quads l h < length l → Ordinary l (from l h) → (f : Option ℕ) → StraightFar l h f
      → (p q : ℕ) → p ≡ from l h → q ≡ to quads l h → (e : ℕ → ℤ) (z : ℤ) → z ≡ pos (virtual_scale (tension t)) *ℤ far_on e f p q → z ≡ virtual_at_z (tension t) l e h
  far_virtual v l ok h k m o f s p q ep eq e z ez =
      ez
      ∙ ap (λ (x : ℤ). pos (virtual_scale (tension t)) *ℤ x) (ap₂ (λ (x y : ℕ). far_on e f x y) ep eq ∙ s.value e)
      ∙ straight-virtual v l ok e h k m o

  -- ---- ranges
  module _ (v : ℕ) (l : List ℕ) (ok : Manifold quads v l) (points : List ℤ) (room : Points l points) where
    small : (a x : ℕ) → x < v → nat_abs (axis points a x) ≤ coordinate_range
    small a x b = axis_bound points a x room.bounded

    pub virtual_small : (a h : ℕ) → h < length l → mate quads l h < length l → (z : ℤ) → z ≡ virtual_at_z (tension t) l (axis points a) h → nat_abs z ≤ virtual_range (tension t)
    virtual_small a h k m z e = let r = virtual_range_lem v l ok (axis points a) (small a) (tension t) (tame t low) h k m in let d = ap nat_abs e in omega arith

    edge_in_range : (marks : List ℕ) (a h : ℕ) → h < length l → nat_abs (edge_z (tension t) l marks (axis points a) h) ≤ edge_range (tension t)
    edge_in_range marks a h k = edge_range_lem v l ok (axis points a) (small a) (tension t) (tame t low) marks h k

    inner_value : (marks : List ℕ) (e : ℕ → ℤ) (h : ℕ) → mate quads l h < length l → edge_z (tension t) l marks e h ≡ edge_value_z (tension t) l e h inner_rule
    unfolding edge_z
    inner_value marks e h m = ap (edge_value_z (tension t) l e h) (rule_inner l marks h m)

    inner_in_range : (a h : ℕ) → h < length l → mate quads l h < length l → nat_abs (edge_value_z (tension t) l (axis points a) h inner_rule) ≤ edge_range (tension t)
    inner_in_range a h k m = let s = edge_in_range [] a h k in let d = ap nat_abs (inner_value [] (axis points a) h m) in omega arith

    -- ---- with its flag: a wide edge
    module _ (h : ℕ) (k : h < length l) (m : mate quads l h < length l) where
      wide_edge : (flag : ℕ) → flag ≡ wide_flag → (a : ℕ) (z : ℤ) → z ≡ edge_value_z (tension t) l (axis points a) h inner_rule → ExactEdge (tension t) flag (edge_value_z (tension t) l (axis points a) h inner_rule) z
      unfolding unit_of
      wide_edge flag f a z e = record { value = ap (λ (i : ℕ). pos (unit_of (tension t) i) *ℤ z) f ∙ one_*ℤ z ∙ e; small = inner_in_range a h k m }

      pub wide_point : (Ordinary l (from l h) → Ordinary l (to quads l h) → ⊥) → (flag : ℕ) (x y z : ℤ) → (flag ≡ wide_flag) × OnAxes (λ (a : ℕ). edge_value_z (tension t) l (axis points a) h inner_rule) x y z
          → Flagged l h flag × ExactPoint (tension t) flag (λ (a : ℕ). edge_value_z (tension t) l (axis points a) h inner_rule) x y z
      wide_point n flag x y z (f, p) = (wide m n f, record { on₀ = wide_edge flag f 0 x p.on₀; on₁ = wide_edge flag f 1 y p.on₁; on₂ = wide_edge flag f 2 z p.on₂ })

    -- an inner edge between ordinary vertices
    module _ (h : ℕ) (o : OrdinaryEnds l h) where
      plain_value : (e : ℕ → ℤ) → edge_value_z (tension t) l e h inner_rule ≡ pos (virtual_scale (tension t)) *ℤ ordinary_value (tension t) l e h inner_rule
      unfolding ordinary_edge
      plain_value e =
          sym (inner_value [] e h o.inner)
          ∙ edge-plain (tension t) (omega arith) (omega arith) v l [] ok e h o.lt (inr (o.inner, o.start, o.end))
          ∙ ap (λ (r : EdgeRule). pos (virtual_scale (tension t)) *ℤ ordinary_value (tension t) l e h r) (rule_inner l [] h o.inner)

      plain-edge : (a : ℕ) (z : ℤ) → z ≡ ordinary_value (tension t) l (axis points a) h inner_rule → ExactEdge (tension t) 0 (edge_value_z (tension t) l (axis points a) h inner_rule) z
      unfolding unit_of
      plain-edge a z e = record {
        value = ap (λ (x : ℤ). pos (virtual_scale (tension t)) *ℤ x) e ∙ sym (plain_value (axis points a));
        small = inner_in_range a h o.lt o.inner;
      }

      pub plain_point : (x y z : ℤ) → OnAxes (λ (a : ℕ). ordinary_value (tension t) l (axis points a) h inner_rule) x y z
          → Flagged l h 0 × ExactPoint (tension t) 0 (λ (a : ℕ). edge_value_z (tension t) l (axis points a) h inner_rule) x y z
      plain_point x y z p = (plain o.inner o.start o.end refl, record { on₀ = plain-edge 0 x p.on₀; on₁ = plain-edge 1 y p.on₁; on₂ = plain-edge 2 z p.on₂ })

    pub inner_point : (marks : List ℕ) (h : ℕ) → mate quads l h < length l → (flag : ℕ) (x y z : ℤ)
        → Flagged l h flag × ExactPoint (tension t) flag (λ (a : ℕ). edge_value_z (tension t) l (axis points a) h inner_rule) x y z
        → Flagged l h flag × ExactPoint (tension t) flag (λ (a : ℕ). edge_z (tension t) l marks (axis points a) h) x y z
    inner_point marks h m flag x y z (f, p) =
        let at : (a : ℕ) → edge_value_z (tension t) l (axis points a) h inner_rule ≡ edge_z (tension t) l marks (axis points a) h = λ a. sym (inner_value marks (axis points a) h m) in (
          f,
          record {
            on₀ = subst (λ (X : ℤ). ExactEdge (tension t) flag X x) (at 0) p.on₀;
            on₁ = subst (λ (X : ℤ). ExactEdge (tension t) flag X y) (at 1) p.on₁;
            on₂ = subst (λ (X : ℤ). ExactEdge (tension t) flag X z) (at 2) p.on₂;
          },
        )

    -- ---- a boundary edge, by its far points
    module _ (marks : List ℕ) (h : ℕ) (k : h < length l) (none : mate quads l h ≡ length l) (f g : Option ℕ)
        (value : (e : ℕ → ℤ) → stencil_value (tension t) e f (from l h) (to quads l h) g ≡ ordinary_value (tension t) l e h (edge_rule l marks h)) where
      boundary_value : (e : ℕ → ℤ) → pos (virtual_scale (tension t)) *ℤ stencil_value (tension t) e f (from l h) (to quads l h) g ≡ edge_z (tension t) l marks e h
      unfolding ordinary_edge
      boundary_value e =
          ap (λ (x : ℤ). pos (virtual_scale (tension t)) *ℤ x) (value e)
          ∙ sym (edge_boundary (tension t) l marks e h (λ m. omega arith))

      boundary_edge : (flag : ℕ) → flag ≡ boundary_flag → (a : ℕ) (z : ℤ) → z ≡ stencil_value (tension t) (axis points a) f (from l h) (to quads l h) g → ExactEdge (tension t) flag (edge_z (tension t) l marks (axis points a) h) z
      unfolding unit_of
      boundary_edge flag ef a z e = record {
        value = ap (λ (i : ℕ). pos (unit_of (tension t) i) *ℤ z) ef ∙ ap (λ (x : ℤ). pos (virtual_scale (tension t)) *ℤ x) e ∙ boundary_value (axis points a);
        small = edge_in_range marks a h k;
      }

      pub boundary_point_lem : (flag : ℕ) (x y z : ℤ) → (flag ≡ boundary_flag) × OnAxes (λ (a : ℕ). stencil_value (tension t) (axis points a) f (from l h) (to quads l h) g) x y z
          → Flagged l h flag × ExactPoint (tension t) flag (λ (a : ℕ). edge_z (tension t) l marks (axis points a) h) x y z
      boundary_point_lem flag x y z (ef, p) = (boundary none ef, record { on₀ = boundary_edge flag ef 0 x p.on₀; on₁ = boundary_edge flag ef 1 y p.on₁; on₂ = boundary_edge flag ef 2 z p.on₂ })

  -- ---- an inner edge from its virtual points
  pub wide_made : (l : List ℕ) (h m : ℕ) → m ≡ mate quads l h → (p q : ℕ) → p ≡ from l h → q ≡ to quads l h → (e : ℕ → ℤ) (u w z : ℤ)
      → u ≡ virtual_at_z (tension t) l e h → w ≡ virtual_at_z (tension t) l e m → z ≡ inner_edge_z (tension t) (e p) (e q) u w → z ≡ edge_value_z (tension t) l e h inner_rule
  unfolding edge_value_z
  wide_made l h m em p q ep eq e u w z eu ew ez =
      ez
      ∙ ap₂ (λ (x y : ℕ). inner_edge_z (tension t) (e x) (e y) u w) ep eq
      ∙ ap₂ (λ (x y : ℤ). inner_edge_z (tension t) (e (from l h)) (e (to quads l h)) x y) eu (ew ∙ ap (virtual_at_z (tension t) l e) em)

  -- ---- the far points of each rule
  module _ (l : List ℕ) (h : ℕ) (e : ℕ → ℤ) where
    inside_rule : (o r : ℕ) → o ≡ from l (back quads l h) → r ≡ to quads l (along quads l h) → stencil_value (tension t) e (Some o) (from l h) (to quads l h) (Some r) ≡ ordinary_value (tension t) l e h inside_segment
    unfolding stencil_value far_value ordinary_value
    inside_rule o r eo er = ap₂ (λ (x y : ℕ). interior (tension t) (e x) (e (from l h)) (e (to quads l h)) (e y)) eo er

    start_rule : (r : ℕ) → r ≡ to quads l (along quads l h) → stencil_value (tension t) e None (from l h) (to quads l h) (Some r) ≡ ordinary_value (tension t) l e h start_of_segment
    unfolding stencil_value far_value ordinary_value
    start_rule r er =
        ap (λ (x : ℕ). interior (tension t) (mirror (e (from l h)) (e (to quads l h))) (e (from l h)) (e (to quads l h)) (e x)) er
        ∙ sym (end_mirrored (tension t) (omega arith) (e (from l h)) (e (to quads l h)) (e (to quads l (along quads l h))))

    end_rule_lem : (o : ℕ) → o ≡ from l (back quads l h) → stencil_value (tension t) e (Some o) (from l h) (to quads l h) None ≡ ordinary_value (tension t) l e h end_of_segment
    unfolding stencil_value far_value ordinary_value
    end_rule_lem o eo =
        ap (λ (x : ℕ). interior (tension t) (e x) (e (from l h)) (e (to quads l h)) (mirror (e (to quads l h)) (e (from l h)))) eo
        ∙ interior_turned (tension t) (e (from l (back quads l h))) (e (from l h)) (e (to quads l h)) (mirror (e (to quads l h)) (e (from l h)))
        ∙ sym (end_mirrored (tension t) (omega arith) (e (to quads l h)) (e (from l h)) (e (from l (back quads l h))))

    whole_rule : stencil_value (tension t) e None (from l h) (to quads l h) None ≡ ordinary_value (tension t) l e h whole_segment
    unfolding stencil_value far_value ordinary_value
    whole_rule = sym (single_mirrored (tension t) (omega arith) (e (from l h)) (e (to quads l h)))

    by_marks : (b c : Bool) → stencil_value (tension t) e (cond b None (Some (from l (back quads l h)))) (from l h) (to quads l h) (cond c None (Some (to quads l (along quads l h))))
        ≡ ordinary_value (tension t) l e h (cond b (cond c whole_segment start_of_segment) (cond c end_of_segment inside_segment))
    by_marks true true = whole_rule
    by_marks true false = start_rule _ refl
    by_marks false true = end_rule_lem _ refl
    by_marks false false = inside_rule _ _ refl refl

    pub far_rule : (marks : List ℕ) → length l ≤ mate quads l h → stencil_value (tension t) e (far_before l marks h) (from l h) (to quads l h) (far_after l marks h) ≡ ordinary_value (tension t) l e h (edge_rule l marks h)
    far_rule marks n = by_marks (marked marks (from l h)) (marked marks (to quads l h)) ∙ ap (ordinary_value (tension t) l e h) (sym (rule_boundary l marks h _ _ n refl refl))

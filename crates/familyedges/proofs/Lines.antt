-- The edges of a plain family lie on lines of vertices that the code reads. L are the corners that a round made of l.
use mathlib.Core.Path.{◌≡◌, refl, sym, ap, ◌∙◌, subst}
use mathlib.Core.List.{List}
use Prim.Native.Nat.{ℕ, ◌+◌, ◌-◌, ◌*◌, ◌<◌}
use native.Mathlib.Omega.{arith}
use lib.IntN.{ℤ}
use lib.ListN.{length}
use Rattle.curve.specs.Weights.{Weights}
use Rattle.curve.proofs.Mirror.{interior_turned}
use Rattle.topology.specs.Shape.{quads}
use Rattle.topology.specs.HalfEdge.{from, to, mate}
use Rattle.topology.specs.Manifold.{Manifold}
use Rattle.topology.proofs.Mates.{mate_is}
use Rattle.refinedfaces.specs.Refined.{refined}
use Rattle.refinedfaces.proofs.Corners.{length-refined}
use Rattle.refinedfaces.proofs.Mates.{mate₀, mate₁, mate₂, mate₃}
use Rattle.scheme.specs.Points.{inner_rule}
use Rattle.schemelaws.specs.Ordinary.{Ordinary, OrdinaryEnds, straight, ordinary_value}
use Rattle.schemelaws.proofs.Families.{spoke_plain, spoke_back, first_plain, last_plain, spoke_value, first_value, last_value}
use Rattle.exactedges.specs.Edge.{CornerOf}
use Rattle.familylines.specs.Steps.{Line}

corner_at : (l : List ℕ) (g : ℕ) → g < length l → CornerOf l (from l g)
corner_at l g b = record { at = g; lt = b; is = refl }

-- seen from its mate, an edge has the same point
value_mate : (w : Weights) (l : List ℕ) (e : ℕ → ℤ) (g x : ℕ) → mate quads l g ≡ x → mate quads l x ≡ g → x < length l → ordinary_value w l e x inner_rule ≡ ordinary_value w l e g inner_rule
unfolding ordinary_value
value_mate w l e g x m b k =
    let r = mate_is quads l g (subst (λ (i : ℕ). i < length l) (sym m) k) in
    let s : from l x ≡ to quads l g = ap (from l) (sym m) ∙ r.start in
    let t : to quads l x ≡ from l g = ap (to quads l) (sym m) ∙ r.end in
    let a = ap e s in
    let c = ap e t in
    let y = ap (straight l e) m in
    let z = ap (straight l e) b in
    interior_turned w (straight l e x) (e (from l x)) (e (to quads l x)) (straight l e (mate quads l x)) ∙ cc

module _ (v : ℕ) (l : List ℕ) (ok : Manifold quads v l) (h : ℕ) (k : h < length l) (m : mate quads l h < length l) where
  abbrev L : List ℕ
  L = refined quads v l

  n : length L ≡ 4 * length l
  n = length-refined quads v l

  next_lt : quads.next h < length l
  next_lt = ok.oriented.shape.next_lt h k

  pub first_line_lem : mate quads l (quads.prev h) < length l → Ordinary L (from L (4 * h)) → 4 * h < mate quads L (4 * h)
      → Line L (4 * h) (from L (mate quads L (4 * h + 3) + 3)) (from L (4 * h)) (from L (4 * h + 1)) (from L (4 * quads.next h))
  first_line_lem mp o new =
      let d = n in
      let b = next_lt in
      let y = mate₃ quads v l ok.oriented h k in
      record {
        new = new;
        ends = first_plain v l ok h k m o;
        value = λ w e. sym (first_value v l ok w e h k m mp o);
        in₀ = corner_at L (mate quads L (4 * h + 3) + 3) (omega arith);
        in₁ = corner_at L (4 * h) (omega arith);
        in₂ = corner_at L (4 * h + 1) (omega arith);
        in₃ = corner_at L (4 * quads.next h) (omega arith);
      }

  pub last_line : mate quads l (quads.next h) < length l → Ordinary L (from L (4 * quads.next h)) → 4 * quads.next h + 3 < mate quads L (4 * quads.next h + 3)
      → Line L (4 * quads.next h + 3) (from L (4 * h)) (from L (4 * h + 1)) (from L (4 * quads.next h)) (from L (mate quads L (4 * quads.next h) - 2))
  last_line mn o new =
      let d = n in
      let b = next_lt in
      let z = mate₀ quads v l ok.oriented (quads.next h) next_lt mn in
      let c = ok.oriented.shape.next_lt (mate quads l (quads.next h)) mn in
      record {
        new = new;
        ends = last_plain v l ok h k m o;
        value = λ w e. sym (last_value v l ok w e h k m mn o);
        in₀ = corner_at L (4 * h) (omega arith);
        in₁ = corner_at L (4 * h + 1) (omega arith);
        in₂ = corner_at L (4 * quads.next h) (omega arith);
        in₃ = corner_at L (mate quads L (4 * quads.next h) - 2) (omega arith);
      }

  spoke_corners : (g : ℕ) → OrdinaryEnds L g → g < mate quads L g → ((w : Weights) (e : ℕ → ℤ) → ordinary_value w L e (4 * h + 1) inner_rule ≡ ordinary_value w L e g inner_rule)
      → Line L g (from L (mate quads L (4 * h) - 1)) (from L (4 * h + 1)) (from L (4 * h + 2)) (from L (4 * quads.next (quads.next h) + 1))
  spoke_corners g ends new same =
      let d = n in
      let b = ok.oriented.shape.next_lt (quads.next h) next_lt in
      let z = mate₀ quads v l ok.oriented h k m in
      let c = ok.oriented.shape.next_lt (mate quads l h) m in
      record {
        new = new;
        ends = ends;
        value = λ w e. sym (spoke_value v l ok w e h k m) ∙ same w e;
        in₀ = corner_at L (mate quads L (4 * h) - 1) (omega arith);
        in₁ = corner_at L (4 * h + 1) (omega arith);
        in₂ = corner_at L (4 * h + 2) (omega arith);
        in₃ = corner_at L (4 * quads.next (quads.next h) + 1) (omega arith);
      }

  -- from the point of the side to that of the face, or back: h is then the side before that of the half-edge
  pub spoke_line : 4 * h + 1 < mate quads L (4 * h + 1) → Line L (4 * h + 1) (from L (mate quads L (4 * h) - 1)) (from L (4 * h + 1)) (from L (4 * h + 2)) (from L (4 * quads.next (quads.next h) + 1))
  spoke_line new = spoke_corners (4 * h + 1) (spoke_plain v l ok h k) new (λ w e. refl)

  pub back_line : 4 * quads.next h + 2 < mate quads L (4 * quads.next h + 2)
      → Line L (4 * quads.next h + 2) (from L (mate quads L (4 * h) - 1)) (from L (4 * h + 1)) (from L (4 * h + 2)) (from L (4 * quads.next (quads.next h) + 1))
  back_line new =
      let d = n in
      let a : mate quads L (4 * h + 1) ≡ 4 * quads.next h + 2 = mate₁ quads v l ok.oriented h k in
      let b : mate quads L (4 * quads.next h + 2) ≡ 4 * h + 1 = mate₂ quads v l ok.oriented (quads.next h) next_lt ∙ ap (λ (x : ℕ). 4 * x + 1) (ok.oriented.shape.prev_next h) in
      spoke_corners (4 * quads.next h + 2) (spoke_back v l ok (quads.next h) next_lt) new (λ w e. value_mate w L e (4 * quads.next h + 2) (4 * h + 1) b a (omega arith))

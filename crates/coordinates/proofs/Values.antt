-- Sizes of coordinates, and of the four-point rule on them. Assumes nothing.
use mathlib.Core.Path.{◌≡◌, ap}
use mathlib.Core.List.{List}
use Rattle.std.proofs.Common.{Option, Some, None}
use Prim.Native.Nat.{ℕ, zero, suc, ◌+◌, ◌*◌, ◌≤◌}
use native.Mathlib.Omega.{arith}
use lib.IntN.{ℤ, nat_abs}
use mir.Syntax.{w32, w64}
use mir.Val.{SFits}
use Rattle.integers.specs.Within.{Within}
use Rattle.integers.proofs.Within.{within_any}
use Rattle.integers.proofs.Range.{abs_fits, fits_abs}
use Rattle.curve.specs.Weights.{Weights, interior}
use Rattle.curve.proofs.Mirror.{mirror_size}
use Rattle.rings.specs.Scales.{coordinate_range}
use Rattle.nets.specs.Net.{axis}
use Rattle.coordinates.specs.declared.Axes.{Axes}
use Rattle.coordinates.specs.Points.{Bounded, on}
use Rattle.coordinates.specs.Stencil.{far_value, stencil_value}

pub wide_fits : (x : ℤ) → SFits w32 x → SFits w64 x
wide_fits x f = let b = abs_fits f in fits_abs w64 x (omega arith)

pub axis_bound : (t : List ℤ) (a v : ℕ) → Within coordinate_range t → nat_abs (axis t a v) ≤ coordinate_range
unfolding axis
axis_bound t a v b = within_any coordinate_range t b (3 * v + a)

bounded_on : (B : ℕ) (p : Axes ℤ) → Bounded B p → (a : ℕ) → nat_abs (on p a) ≤ B
bounded_on B p b zero = b.on₀
bounded_on B p b (suc zero) = b.on₁
bounded_on B p b (suc (suc a)) = b.on₂

pub on_small : {B : ℕ} (p : Axes ℤ) → Bounded B p → (a : ℕ) (r : ℤ) → r ≡ on p a → nat_abs r ≤ B
on_small {B} p b a r e = let h = bounded_on B p b a in let d = ap nat_abs e in omega arith

pub read_small : (t : List ℤ) (a v : ℕ) (r : ℤ) → Within coordinate_range t → r ≡ axis t a v → nat_abs r ≤ coordinate_range
read_small t a v r b e = let h = axis_bound t a v b in let d = ap nat_abs e in omega arith

pub far_small : (t : List ℤ) (a : ℕ) (o : Option ℕ) (x y r : ℤ) → Within coordinate_range t → nat_abs x ≤ coordinate_range → nat_abs y ≤ coordinate_range
    → r ≡ far_value (axis t a) o x y → nat_abs r ≤ 3 * coordinate_range
unfolding far_value
far_small t a (Some o) x y r b h k e = let i = axis_bound t a o b in let d = ap nat_abs e in omega arith
far_small t a None x y r b h k e = let i = mirror_size x y coordinate_range h k in let d = ap nat_abs e in omega arith

pub stencil_read : (w : Weights) (t : List ℤ) (a : ℕ) (o : Option ℕ) (p q : ℕ) (r : Option ℕ) (n u x y v : ℤ) → n ≡ interior w u x y v → x ≡ axis t a p → y ≡ axis t a q
    → u ≡ far_value (axis t a) o x y → v ≡ far_value (axis t a) r y x → n ≡ stencil_value w (axis t a) o p q r
unfolding stencil_value
stencil_read w t a o p q r n u x y v e ex ey eu ev = cc

-- Laws of entries and of the exact points that they lead to. Assumes nothing.
use mathlib.Core.Path.{◌≡◌, refl, ap, ap₂, ◌∙◌}
use mathlib.Core.List.{List}
use Prim.Native.Nat.{ℕ, ◌+◌, ◌*◌, ◌%◌, ◌^◌, ◌≤◌, ◌<◌}
use native.Mathlib.Omega.{arith}
use borrow.Author.Tests.{lt-ltb, le-ltb}
use lib.IntN.{ℤ, pos, nat_abs, ◌*ℤ◌}
use lib.ListN.{length, get_or}
use mir.Syntax.{w64}
use mir.Val.{SFits}
use Rattle.bounds.specs.Bounds.{max_half_edges}
use Rattle.integers.proofs.Range.{fits_abs}
use Rattle.curve.specs.Weights.{tension}
use Rattle.rings.proofs.Tension.{edge_range_le}
use Rattle.rings.specs.Scales.{virtual_scale, edge_range}
use Rattle.topology.specs.Shape.{quads}
use Rattle.topology.specs.Quads.{across}
use Rattle.edgeentries.specs.Packed.{packed_at}
use Rattle.edgeentries.specs.Entry.{wide_flag, boundary_flag, entry_of, edge_of, place_of, unit_of, exact_at, exact_of}
use Rattle.facerules.specs.Faces.{FaceTable}

-- ---- opposite sides
pub across_lt : (n h : ℕ) → n % 4 ≡ 0 → h < n → across h < n
unfolding across quads
across_lt n h f k = omega arith

pub across-first : (f : ℕ) → across (4 * f) ≡ 4 * f + 2
unfolding across quads
across-first f = omega arith

pub across_second : (f : ℕ) → across (4 * f + 1) ≡ 4 * f + 3
unfolding across quads
across_second f = omega arith

-- coordinate a of the exact point of an entry can be read
pub record Readable (n : ℕ) (w : List ℕ) (a entry : ℕ) : Type 0 where
  pub on : a < 3
  pub few : n ≤ max_half_edges
  pub room : 8 * n ≤ length w
  pub number : edge_of entry < n
  pub high : get_or w (place_of n entry + 2 * a + 1) 0 < 2 ^ 31

module _ (t : ℕ) where
  -- ---- units
  pub unit_plain : (entry : ℕ) → entry < wide_flag → unit_of (tension t) entry ≡ virtual_scale (tension t)
  unfolding unit_of
  unit_plain entry h = let a = lt-ltb entry wide_flag h in rw a refl

  pub unit_wide : (entry : ℕ) → wide_flag ≤ entry → entry < boundary_flag → unit_of (tension t) entry ≡ 1
  unfolding unit_of
  unit_wide entry h k = let a = le-ltb entry wide_flag h in let b = lt-ltb entry boundary_flag k in rw (a, b) refl

  pub unit_boundary : (entry : ℕ) → wide_flag ≤ entry → boundary_flag ≤ entry → unit_of (tension t) entry ≡ virtual_scale (tension t)
  unfolding unit_of
  unit_boundary entry h k = let a = le-ltb entry wide_flag h in let b = le-ltb entry boundary_flag k in rw (a, b) refl

  -- ---- exact points
  module _ (n : ℕ) (w : List ℕ) where
    pub readable : (a h entry : ℕ) → FaceTable t n w → a < 3 → h < n → entry ≡ entry_of n w h → Readable n w a entry
    readable a h entry ok on lt e = rw e (record {
      on = on;
      few = ok.entries.few;
      room = ok.entries.room;
      number = ok.entries.numbers h lt;
      high = ok.entries.high a h on lt;
    })

    pub exact_fits : (a h : ℕ) → FaceTable t n w → a < 3 → h < n → SFits w64 (exact_of (tension t) n w a h)
    exact_fits a h ok on lt = let s = ok.small a h on lt in let b = edge_range_le t ok.low in fits_abs w64 (exact_of (tension t) n w a h) (omega arith)

    -- what was read by the entry of h
    pub exact_read : (a h entry : ℕ) (u z : ℤ) → entry ≡ entry_of n w h → u ≡ pos (unit_of (tension t) entry) → z ≡ packed_at w (place_of n entry + 2 * a) → u *ℤ z ≡ exact_of (tension t) n w a h
    unfolding exact_at exact_of
    exact_read a h entry u z i e k = ap₂ (λ (x y : ℤ). x *ℤ y) e k ∙ ap (exact_at (tension t) n w a) i

    pub exact_small : (a h : ℕ) (x : ℤ) → FaceTable t n w → a < 3 → h < n → x ≡ exact_of (tension t) n w a h → nat_abs x ≤ edge_range (tension t)
    exact_small a h x ok on lt e = rw e (ok.small a h on lt)

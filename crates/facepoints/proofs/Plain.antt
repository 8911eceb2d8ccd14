-- Faces with eight plain edges: one direction is enough. Assumes nothing.
use mathlib.Core.Path.{◌≡◌, refl, sym, ap, ap₂, ◌∙◌, subst}
use mathlib.Core.Bool.{true}
use mathlib.Core.List.{List, [], ◌∷◌}
use Prim.Native.Nat.{ℕ, ◌+◌, ◌*◌, ◌%◌, ◌^◌, ◌≤◌, ◌<◌}
use native.Mathlib.Nat.{add-zero}
use native.Mathlib.Nat.{mul_assoc, mul-pos, le_of_mul-le-mul_left}
use native.Mathlib.Omega.{arith}
use borrow.Author.Tests.{lt-ltb}
use lib.IntN.{ℤ, pos, nat_abs, ◌+ℤ◌, ◌-ℤ◌, ◌*ℤ◌}
use lib.ListN.{get_or}
use mir.Syntax.{w32, w64}
use mir.Val.{SFits}
use Rattle.integers.proofs.AbsoluteValue.{abs-add, abs-mul}
use Rattle.integers.proofs.Polynomial.{var, lit, ◌⊞◌, ◌⊟◌, ◌⊠◌, same}
use Rattle.integers.proofs.Range.{fits_abs}
use Rattle.rounding.specs.Rounding.{round}
use Rattle.rounding.proofs.Laws.{round_size, round-scale}
use Rattle.curve.specs.Weights.{tension, scale, interior}
use Rattle.curve.proofs.Distance.{interior_size}
use Rattle.curve.proofs.Tension.{tame, scale_at, interior_read}
use Rattle.rings.proofs.Tension.{edge_range_at}
use Rattle.rings.specs.Scales.{virtual_scale, face_scale}
use Rattle.topology.specs.Quads.{across}
use Rattle.coordinates.specs.Points.{put_point}
use Rattle.edgeentries.specs.Packed.{biased_at, packed_at}
use Rattle.edgeentries.proofs.Packed.{biased_packed}
use Rattle.edgeentries.specs.Entry.{wide_flag, boundary_flag, entry_of, point_place, place_of, exact_at, exact_of}
use Rattle.facerules.specs.declared.FaceRule.{FaceRule}
use Rattle.facerules.specs.Faces.{FaceTable, PlainTwice, AllPlain, beyond_of, far_of, direction_of, inner_twice_of, four_inner_of, face_value_of, face_coordinate}
use Rattle.facepoints.specs.Plain.{PlainAt, PlainEdge, plain_direction, plain_coordinate}
use Rattle.facerules.proofs.Reading.{unit_plain, across_lt, across-first, across_second}
use Rattle.facerules.proofs.Directions.{far_mated, direction_read, inner_mated, rule_is}

module _ (t : ℕ) where
  -- ---- the steps of one direction, on numbers as they are packed
  abbrev B : ℤ
  B = pos 72057596185411584

  -- near and far differ by 32, so all of what is more goes at once
  unbiased : (p q r s : ℤ) → interior (tension t) (p +ℤ B) (q +ℤ B) (r +ℤ B) (s +ℤ B) -ℤ pos 4611686155866341376 ≡ interior (tension t) p q r s
  unbiased p q r s =
      same (((lit (pos 32) ⊞ var 0) ⊠ ((var 3 ⊞ var 1) ⊞ (var 4 ⊞ var 1)) ⊟ var 0 ⊠ ((var 2 ⊞ var 1) ⊞ (var 5 ⊞ var 1))) ⊟ lit (pos 64) ⊠ var 1) ((lit (pos 32) ⊞ var 0) ⊠ (var 3 ⊞ var 4) ⊟ var 0 ⊠ (var 2 ⊞ var 5)) (pos t ∷ B ∷ p ∷ q ∷ r ∷ s ∷ []) refl

  pub record Steps (p q r s : ℤ) : Type 0 where
    pub reads : (t ≤ 4) × (nat_abs (p +ℤ B) < 3 * 2 ^ 55) × (nat_abs (q +ℤ B) < 3 * 2 ^ 55) × (nat_abs (r +ℤ B) < 3 * 2 ^ 55) × (nat_abs (s +ℤ B) < 3 * 2 ^ 55)
    pub is : interior (tension t) (p +ℤ B) (q +ℤ B) (r +ℤ B) (s +ℤ B) -ℤ pos 4611686155866341376 ≡ interior (tension t) p q r s
    pub value : SFits w64 (interior (tension t) p q r s)
    pub range : nat_abs (interior (tension t) p q r s) + 2048 < 2 ^ 63
    pub rounded : SFits w32 (round (interior (tension t) p q r s) 4096)

  pub steps : t ≤ 4 → (p q r s : ℤ) → nat_abs p < 2 ^ 33 → nat_abs q < 2 ^ 33 → nat_abs r < 2 ^ 33 → nat_abs s < 2 ^ 33 → Steps p q r s
  steps low p q r s hp hq hr hs =
      let z = interior (tension t) p q r s in
      let b = interior_size (tension t) (tame t low) p q r s (2 ^ 33) (omega arith) (omega arith) (omega arith) (omega arith) in
      let d = round_size z 4096 (omega arith) in
      let e = abs-add p B in
      let f = abs-add q B in
      let g = abs-add r B in
      let h = abs-add s B in
      record {
        reads = (low, omega arith, omega arith, omega arith, omega arith);
        is = unbiased p q r s;
        value = fits_abs w64 z (omega arith);
        range = omega arith;
        rounded = fits_abs w32 (round z 4096) (omega arith);
      }

  -- what was read, as the rule takes it
  pub four_read : (w : List ℕ) (p q r s : ℕ) (n x y u v : ℤ) → n ≡ interior (tension t) x y u v → x ≡ biased_at w p → y ≡ biased_at w q → u ≡ biased_at w r → v ≡ biased_at w s
      → n ≡ interior (tension t) (packed_at w p +ℤ B) (packed_at w q +ℤ B) (packed_at w r +ℤ B) (packed_at w s +ℤ B)
  four_read w p q r s n x y u v e a b c d =
      let i = biased_packed w p in
      let j = biased_packed w q in
      let k = biased_packed w r in
      let l = biased_packed w s in
      interior_read (tension t) n x y u v _ _ _ _ e (a ∙ i) (b ∙ j) (c ∙ k) (d ∙ l)

  pub plain_read : (w : List ℕ) (p q r s : ℕ) (n z : ℤ) → n ≡ round z 4096 → z ≡ interior (tension t) (packed_at w p) (packed_at w q) (packed_at w r) (packed_at w s) → n ≡ plain_direction (tension t) w p q r s
  unfolding plain_direction
  plain_read w p q r s n z e k = let f : scale (tension t) * scale (tension t) ≡ 4096 = ap₂ ◌*◌ (scale_at t) (scale_at t) in cc

  -- on the three axes
  pub put-plain : (n : ℕ) (w : List ℕ) (f p q r s i j k l : ℕ) (o o' : List ℤ) (x y z : ℤ) → i ≡ point_place n p → j ≡ point_place n q → k ≡ point_place n r → l ≡ point_place n s
      → x ≡ plain_direction (tension t) w i j k l → y ≡ plain_direction (tension t) w (i + 2) (j + 2) (k + 2) (l + 2) → z ≡ plain_direction (tension t) w (i + 4) (j + 4) (k + 4) (l + 4)
      → o' ≡ put_point o f x y z → o' ≡ put_point o f (plain_coordinate (tension t) n w 0 p q r s) (plain_coordinate (tension t) n w 1 p q r s) (plain_coordinate (tension t) n w 2 p q r s)
  unfolding plain_coordinate
  put-plain n w f p q r s i j k l o o' x y z ei ej ek el a b c e = let ti = add-zero (point_place n p) in let tj = add-zero (point_place n q) in let tk = add-zero (point_place n r) in let tl = add-zero (point_place n s) in cc

  -- ---- plain edges
  module _ (n : ℕ) (w : List ℕ) where
    exact-plain : (a h : ℕ) → entry_of n w h < wide_flag → exact_of (tension t) n w a h ≡ pos (virtual_scale (tension t)) *ℤ packed_at w (point_place n (entry_of n w h) + 2 * a)
    unfolding exact_of exact_at place_of
    exact-plain a h k =
        let e : entry_of n w h % wide_flag ≡ entry_of n w h = omega arith in
        ap₂ (λ (u i : ℕ). pos u *ℤ packed_at w (point_place n i + 2 * a)) (unit_plain t (entry_of n w h) k) e

    plain_at : (a h entry : ℕ) → FaceTable t n w → a < 3 → h < n → entry ≡ entry_of n w h → entry < wide_flag → PlainAt w (point_place n entry + 2 * a)
    unfolding place_of
    plain_at a h entry ok on lt i k =
        let b = ok.entries.numbers h lt in
        let r = ok.entries.room in
        let e : entry_of n w h % wide_flag ≡ entry = omega arith in
        let s = ok.small a h on lt in
        let d = ap nat_abs (exact-plain a h (omega arith)) in
        let m = abs-mul (pos (virtual_scale (tension t))) (packed_at w (point_place n (entry_of n w h) + 2 * a)) in
        let c = edge_range_at t in
        let x = nat_abs (packed_at w (point_place n (entry_of n w h) + 2 * a)) in
        let f : virtual_scale (tension t) * x ≡ (32 + t) * (50400 * x) = mul_assoc (32 + t) 50400 x in
        let j : 0 < 32 + t = omega arith in
        let g : 50400 * x ≤ 5913600 * 67108864 = le_of_mul-le-mul_left {k = 32 + t} (omega arith) j in
        record {
          room = omega arith;
          high = subst (λ (x : ℕ). get_or w (point_place n x + 2 * a + 1) 0 < 2 ^ 31) e (ok.entries.high a h on lt);
          small = rw i (omega arith);
        }

    plain-edge : (h entry : ℕ) → FaceTable t n w → h < n → entry ≡ entry_of n w h → entry < wide_flag → PlainEdge n w entry
    plain-edge h entry ok lt i k =
        let b = ok.entries.numbers h lt in
        let e : point_place n entry + 2 * 0 ≡ point_place n entry = omega arith in
        record {
          few = ok.entries.few;
          number = omega arith;
          on₀ = subst (PlainAt w) e (plain_at 0 h entry ok (omega arith) lt i k);
          on₁ = plain_at 1 h entry ok (omega arith) lt i k;
          on₂ = plain_at 2 h entry ok (omega arith) lt i k;
        }

    beyond-lt : (h : ℕ) → FaceTable t n w → get_or w h 0 < n → beyond_of w h < n
    unfolding beyond_of
    beyond-lt h ok k = across_lt n (get_or w h 0) ok.entries.fours k

    -- ---- their rule is that of both directions
    inner-plain : (h : ℕ) → PlainTwice n w h → inner_twice_of n w h ≡ true
    inner-plain h k = let f = k.far in inner_mated n w h k.mated ∙ lt-ltb (entry_of n w (beyond_of w h)) boundary_flag (omega arith)

    four_plain : (h g : ℕ) → across h ≡ g → PlainTwice n w h → PlainTwice n w g → four_inner_of n w h ≡ true
    unfolding four_inner_of
    four_plain h g e k m = let a = inner-plain h k in let b = inner-plain g m in rw (e, a, b) refl

    -- ---- one direction over `scale`
    module _ (a : ℕ) where
      stored : ℕ → ℤ
      stored h = packed_at w (point_place n (entry_of n w h) + 2 * a)

      far_plain : (h : ℕ) (x y : ℤ) → PlainTwice n w h → far_of (tension t) n w a h x y ≡ pos (virtual_scale (tension t)) *ℤ stored (beyond_of w h)
      unfolding stored
      far_plain h x y k = far_mated t n w a h x y k.mated ∙ exact-plain a (beyond_of w h) k.far

      direction-plain : (h g : ℕ) → across h ≡ g → PlainTwice n w h → PlainTwice n w g
          → direction_of (tension t) n w a h ≡ pos (virtual_scale (tension t)) *ℤ interior (tension t) (stored (beyond_of w h)) (stored h) (stored g) (stored (beyond_of w g))
      unfolding stored
      direction-plain h g e k m =
          let unit = pos (virtual_scale (tension t)) in
          let x = unit *ℤ stored h in
          let y = unit *ℤ stored g in
          sym (direction_read t n w a h g (interior (tension t) (unit *ℤ stored (beyond_of w h)) x y (unit *ℤ stored (beyond_of w g))) (unit *ℤ stored (beyond_of w h)) x y (unit *ℤ stored (beyond_of w g)) (sym e) refl
          (sym (exact-plain a h k.near)) (sym (exact-plain a g m.near)) (sym (far_plain h x y k)) (sym (far_plain g y x m)))
          ∙ same (var 5 ⊠ (var 0 ⊠ var 2 ⊞ var 0 ⊠ var 3) ⊟ var 6 ⊠ (var 0 ⊠ var 1 ⊞ var 0 ⊠ var 4)) (var 0 ⊠ (var 5 ⊠ (var 2 ⊞ var 3) ⊟ var 6 ⊠ (var 1 ⊞ var 4)))
          (unit ∷ stored (beyond_of w h) ∷ stored h ∷ stored g ∷ stored (beyond_of w g) ∷ pos (32 + t) ∷ pos t ∷ []) refl

      plain-coordinate : (f : ℕ) → FaceTable t n w → a < 3 → 4 * f < n → AllPlain n w f
          → face_coordinate (tension t) n w a f ≡ plain_coordinate (tension t) n w a (entry_of n w (beyond_of w (4 * f))) (entry_of n w (4 * f)) (entry_of n w (4 * f + 2)) (entry_of n w (beyond_of w (4 * f + 2)))
      unfolding face_coordinate face_value_of plain_coordinate plain_direction stored
      plain-coordinate f ok on lt all =
          let z = interior (tension t) (stored (beyond_of w (4 * f))) (stored (4 * f)) (stored (4 * f + 2)) (stored (beyond_of w (4 * f + 2))) in
          let unit = virtual_scale (tension t) in
          let over : face_scale (tension t) ≡ 2 * unit * (scale (tension t) * scale (tension t)) =
          ap nat_abs (same (lit (pos 2) ⊠ (var 0 ⊠ (var 0 ⊠ var 1))) (lit (pos 2) ⊠ var 1 ⊠ (var 0 ⊠ var 0)) (pos (scale (tension t)) ∷ pos unit ∷ []) refl) in
          ap (λ (r : FaceRule). round (face_value_of (tension t) n w a f r) (face_scale (tension t))) (rule_is n w f true true (four_plain (4 * f) (4 * f + 2) (across-first f) all.side₀ all.side₂) (four_plain (4 * f + 1) (4 * f + 3) (across_second f) all.side₁ all.side₃))
          ∙ ap (λ (y : ℤ). round (direction_of (tension t) n w a (4 * f) +ℤ y) (face_scale (tension t))) (sym (ok.agree a f on lt all))
          ∙ ap (λ (y : ℤ). round (y +ℤ y) (face_scale (tension t))) (direction-plain (4 * f) (4 * f + 2) (across-first f) all.side₀ all.side₂)
          ∙ ap (λ (y : ℤ). round y (face_scale (tension t))) (same (var 1 ⊠ var 0 ⊞ var 1 ⊠ var 0) (lit (pos 2) ⊠ var 1 ⊠ var 0) (z ∷ pos unit ∷ []) refl)
          ∙ ap (round (pos (2 * unit) *ℤ z)) over
          ∙ round-scale (2 * unit) z (scale (tension t) * scale (tension t)) (omega arith) (mul-pos (omega arith) (mul-pos (omega arith) (omega arith)))

    -- ---- all eight edges of face f
    pub plain_mated : (h p : ℕ) → FaceTable t n w → h < n → p ≡ entry_of n w h → p < wide_flag → get_or w h 0 < n
    plain_mated h p ok lt e k = ok.entries.boundary h lt (omega arith)

    plain_twice : (h p entry : ℕ) → FaceTable t n w → h < n → p ≡ entry_of n w h → p < wide_flag → entry ≡ entry_of n w (beyond_of w h) → entry < wide_flag → PlainTwice n w h
    plain_twice h p entry ok lt e k i m = record { near = omega arith; mated = plain_mated h p ok lt e k; far = omega arith }

    -- as the sums of their entries tell
    pub all_plain : (f p q r s entry u v x : ℕ) → FaceTable t n w → 4 * f < n → p ≡ entry_of n w (4 * f) → q ≡ entry_of n w (4 * f + 1) → r ≡ entry_of n w (4 * f + 2) → s ≡ entry_of n w (4 * f + 3)
        → entry ≡ entry_of n w (beyond_of w (4 * f)) → u ≡ entry_of n w (beyond_of w (4 * f + 1)) → v ≡ entry_of n w (beyond_of w (4 * f + 2)) → x ≡ entry_of n w (beyond_of w (4 * f + 3))
        → p + q + r + s < wide_flag → entry + u + v + x < wide_flag → AllPlain n w f
    all_plain f p q r s entry u v x ok lt ep eq er es et eu ev ex k m =
        let d = ok.entries.fours in
        record {
          side₀ = plain_twice (4 * f) p entry ok lt ep (omega arith) et (omega arith);
          side₁ = plain_twice (4 * f + 1) q u ok (omega arith) eq (omega arith) eu (omega arith);
          side₂ = plain_twice (4 * f + 2) r v ok (omega arith) er (omega arith) ev (omega arith);
          side₃ = plain_twice (4 * f + 3) s x ok (omega arith) es (omega arith) ex (omega arith);
        }

    -- the four edges of one direction
    module _ (f entry p r v : ℕ) (ok : FaceTable t n w) (lt : 4 * f < n) (all : AllPlain n w f) (et : entry ≡ entry_of n w (beyond_of w (4 * f))) (ep : p ≡ entry_of n w (4 * f))
        (er : r ≡ entry_of n w (4 * f + 2)) (ev : v ≡ entry_of n w (beyond_of w (4 * f + 2))) where
      pub regular_edges : PlainEdge n w entry × PlainEdge n w p × PlainEdge n w r × PlainEdge n w v
      regular_edges =
          let d = ok.entries.fours in
          let a = all.side₀.near in
          let b = all.side₀.far in
          let c = all.side₂.near in
          let e = all.side₂.far in (
            plain-edge (beyond_of w (4 * f)) entry ok (beyond-lt (4 * f) ok all.side₀.mated) et (omega arith),
            plain-edge (4 * f) p ok lt ep (omega arith),
            plain-edge (4 * f + 2) r ok (omega arith) er (omega arith),
            plain-edge (beyond_of w (4 * f + 2)) v ok (beyond-lt (4 * f + 2) ok all.side₂.mated) ev (omega arith),
          )

      pub put_regular : (o o' : List ℤ) → o' ≡ put_point o f (plain_coordinate (tension t) n w 0 entry p r v) (plain_coordinate (tension t) n w 1 entry p r v) (plain_coordinate (tension t) n w 2 entry p r v)
          → o' ≡ put_point o f (face_coordinate (tension t) n w 0 f) (face_coordinate (tension t) n w 1 f) (face_coordinate (tension t) n w 2 f)
      put_regular o o' e =
          let x = plain-coordinate 0 f ok (omega arith) lt all in
          let y = plain-coordinate 1 f ok (omega arith) lt all in
          let z = plain-coordinate 2 f ok (omega arith) lt all in
          cc

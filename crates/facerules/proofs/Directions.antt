-- Laws of directions and of the rules of faces. Assumes nothing.
use mathlib.Core.Path.{◌≡◌, refl, sym, ap, ap₂, ◌∙◌}
use mathlib.Core.Logic.{◌⊎◌, inl, inr}
use mathlib.Core.Bool.{Bool, true, false, cond}
use mathlib.Core.List.{List}
use Prim.Native.Nat.{ℕ, ◌+◌, ◌*◌, ◌≤◌, ◌<◌}
use native.Mathlib.Decide.{dec_lt}
use native.Mathlib.Omega.{arith}
use borrow.Author.Tests.{lt-ltb, le-ltb}
use lib.Dec.{ltb}
use lib.IntN.{ℤ, nat_abs, ◌+ℤ◌}
use lib.ListN.{get_or}
use mir.Syntax.{w32, w64}
use mir.Val.{SFits}
use Rattle.integers.proofs.AbsoluteValue.{abs-add}
use Rattle.integers.proofs.Range.{fits_abs}
use Rattle.rounding.specs.Rounding.{round}
use Rattle.rounding.proofs.Laws.{round_within}
use Rattle.curve.specs.Weights.{tension, interior, mirror}
use Rattle.curve.proofs.Distance.{interior_size, end_size, single_size}
use Rattle.curve.proofs.Tension.{tame}
use Rattle.curve.proofs.Mirror.{end_mirrored, single_mirrored, interior_turned, mirror_size}
use Rattle.rings.proofs.Tension.{edge_range_at, face_scale_at}
use Rattle.rings.specs.Scales.{edge_range, face_scale}
use Rattle.topology.specs.Quads.{across}
use Rattle.coordinates.specs.Points.{put_point}
use Rattle.edgeentries.specs.Entry.{boundary_flag, entry_of, exact_of}
use Rattle.facerules.specs.declared.FaceRule.{FaceRule}
use Rattle.facerules.specs.declared.FaceRule.TheVariants.{FirstAlone, SecondAlone, BothInner, NeitherInner}
use Rattle.facerules.specs.Faces.{FaceTable, beyond_of, far_of, direction_of, inner_twice_of, four_inner_of, face_rule_of, face_value_of, face_coordinate}
use Rattle.facerules.proofs.Reading.{across_lt}

-- ---- which directions count
module _ (n : ℕ) (w : List ℕ) where
  pub inner_mated : (h : ℕ) → get_or w h 0 < n → inner_twice_of n w h ≡ ltb (entry_of n w (beyond_of w h)) boundary_flag
  unfolding inner_twice_of
  inner_mated h k = let q = lt-ltb (get_or w h 0) n k in rw q refl

  pub inner_none : (h : ℕ) → n ≤ get_or w h 0 → inner_twice_of n w h ≡ false
  unfolding inner_twice_of
  inner_none h k = let q = le-ltb (get_or w h 0) n k in rw q refl

  pub four_yes : (h g : ℕ) (b c : Bool) → g ≡ across h → b ≡ inner_twice_of n w h → b ≡ true → c ≡ inner_twice_of n w g → c ≡ four_inner_of n w h
  unfolding four_inner_of
  four_yes h g b c e p r q = let s = sym p ∙ r in q ∙ ap (inner_twice_of n w) e ∙ rw s refl

  pub four_no : (h : ℕ) (b : Bool) → b ≡ inner_twice_of n w h → b ≡ false → false ≡ four_inner_of n w h
  unfolding four_inner_of
  four_no h b p r = let s = sym p ∙ r in rw s refl

  pub rule_is : (f : ℕ) (b c : Bool) → four_inner_of n w (4 * f) ≡ b → four_inner_of n w (4 * f + 1) ≡ c → face_rule_of n w f ≡ cond b (cond c BothInner FirstAlone) (cond c SecondAlone NeitherInner)
  unfolding face_rule_of
  rule_is f b c p q = rw (p, q) refl

module _ (t : ℕ) where
  -- the interior rule with mirrored points is that of an end edge or of a single edge, so it grows no more
  four_size : t ≤ 4 → (x y u v : ℤ) (B : ℕ) → nat_abs x ≤ B → nat_abs y ≤ B → (nat_abs u ≤ B) ⊎ (u ≡ mirror x y) → (nat_abs v ≤ B) ⊎ (v ≡ mirror y x) → nat_abs (interior (tension t) u x y v) ≤ 80 * B
  four_size low x y u v B sx sy (inl su) (inl sv) = interior_size (tension t) (tame t low) u x y v B su sx sy sv
  four_size low x y u v B sx sy (inr eu) (inl sv) =
      let s = end_size (tension t) (tame t low) x y v B sx sy sv in
      let e = ap nat_abs (ap (λ (p : ℤ). interior (tension t) p x y v) eu ∙ sym (end_mirrored (tension t) (omega arith) x y v)) in
      omega arith
  four_size low x y u v B sx sy (inl su) (inr ev) =
      let s = end_size (tension t) (tame t low) y x u B sy sx su in
      let e = ap nat_abs (interior_turned (tension t) u x y v ∙ ap (λ (p : ℤ). interior (tension t) p y x u) ev ∙ sym (end_mirrored (tension t) (omega arith) y x u)) in
      omega arith
  four_size low x y u v B sx sy (inr eu) (inr ev) =
      let s = single_size (tension t) (tame t low) x y B sx sy in
      let e = ap nat_abs (ap₂ (λ (p q : ℤ). interior (tension t) p x y q) eu ev ∙ sym (single_mirrored (tension t) (omega arith) x y)) in
      omega arith

  module _ (n : ℕ) (w : List ℕ) (a : ℕ) where
    -- ---- beyond a side
    pub far_mated : (h : ℕ) (x y : ℤ) → get_or w h 0 < n → far_of (tension t) n w a h x y ≡ exact_of (tension t) n w a (beyond_of w h)
    unfolding far_of
    far_mated h x y k = let q = lt-ltb (get_or w h 0) n k in rw q refl

    pub far_none : (h : ℕ) (x y : ℤ) → n ≤ get_or w h 0 → far_of (tension t) n w a h x y ≡ mirror x y
    unfolding far_of
    far_none h x y k = let q = le-ltb (get_or w h 0) n k in rw q refl

    pub direction_read : (h g : ℕ) (z u x y v : ℤ) → g ≡ across h → z ≡ interior (tension t) u x y v → x ≡ exact_of (tension t) n w a h → y ≡ exact_of (tension t) n w a g
        → u ≡ far_of (tension t) n w a h x y → v ≡ far_of (tension t) n w a g y x → z ≡ direction_of (tension t) n w a h
    unfolding direction_of
    direction_read h g z u x y v e k ex ey eu ev = cc

    -- ---- sizes
    module _ (ok : FaceTable t n w) (on : a < 3) where
      far_kind : (h : ℕ) (x y : ℤ) → (nat_abs (far_of (tension t) n w a h x y) ≤ edge_range (tension t)) ⊎ (far_of (tension t) n w a h x y ≡ mirror x y)
      unfolding beyond_of
      far_kind h x y = go (dec_lt (get_or w h 0) n)
        where
          go : Dec (get_or w h 0 < n) → (nat_abs (far_of (tension t) n w a h x y) ≤ edge_range (tension t)) ⊎ (far_of (tension t) n w a h x y ≡ mirror x y)
          go (yes k) = let s = ok.small a (across (get_or w h 0)) on (across_lt n (get_or w h 0) ok.entries.fours k) in let e = ap nat_abs (far_mated h x y k) in inl (omega arith)
          go (no k) = inr (far_none h x y (omega arith))

      pub far_size : (h : ℕ) (x y u : ℤ) → nat_abs x ≤ edge_range (tension t) → nat_abs y ≤ edge_range (tension t) → u ≡ far_of (tension t) n w a h x y → nat_abs u ≤ 3 * edge_range (tension t)
      far_size h x y u sx sy e = go (far_kind h x y)
        where
          go : (nat_abs (far_of (tension t) n w a h x y) ≤ edge_range (tension t)) ⊎ (far_of (tension t) n w a h x y ≡ mirror x y) → nat_abs u ≤ 3 * edge_range (tension t)
          go (inl k) = let d = ap nat_abs e in omega arith
          go (inr k) = let b = mirror_size x y (edge_range (tension t)) sx sy in let d = ap nat_abs (e ∙ k) in omega arith

      pub direction_size : (h : ℕ) → h < n → nat_abs (direction_of (tension t) n w a h) ≤ 80 * edge_range (tension t)
      unfolding direction_of
      direction_size h lt =
          let x = exact_of (tension t) n w a h in
          let y = exact_of (tension t) n w a (across h) in
          four_size ok.low x y (far_of (tension t) n w a h x y) (far_of (tension t) n w a (across h) y x) (edge_range (tension t)) (ok.small a h on lt) (ok.small a (across h) on (across_lt n h ok.entries.fours lt)) (far_kind h x y) (far_kind (across h) y x)

  -- ---- the steps from two directions to a face
  pub record Sizes (u v : ℤ) : Type 0 where
    pub first : SFits w64 u
    pub second : SFits w64 v
    pub sum : SFits w64 (u +ℤ v)
    pub mean : SFits w32 (round (u +ℤ v) (face_scale (tension t)))
    pub range : nat_abs (u +ℤ v) ≤ 160 * edge_range (tension t)

  pub sizes : t ≤ 4 → (u v : ℤ) → nat_abs u ≤ 80 * edge_range (tension t) → nat_abs v ≤ 80 * edge_range (tension t) → Sizes u v
  sizes low u v h k =
      let b = abs-add u v in
      let c = edge_range_at t in
      let f = face_scale_at t in
      let r = round_within (u +ℤ v) (face_scale (tension t)) 153791147 (omega arith) (omega arith) in
      record {
        first = fits_abs w64 u (omega arith);
        second = fits_abs w64 v (omega arith);
        sum = fits_abs w64 (u +ℤ v) (omega arith);
        mean = fits_abs w32 (round (u +ℤ v) (face_scale (tension t))) (omega arith);
        range = omega arith;
      }

  pub direction-sizes : (n : ℕ) (w : List ℕ) (a g h : ℕ) (u v : ℤ) → FaceTable t n w → a < 3 → g < n → h < n → u ≡ direction_of (tension t) n w a g → v ≡ direction_of (tension t) n w a h → Sizes u v
  direction-sizes n w a g h u v ok on lg lh eu ev =
      let b = direction_size n w a ok on g lg in
      let c = direction_size n w a ok on h lh in
      let d = ap nat_abs eu in
      let e = ap nat_abs ev in
      sizes ok.low u v (omega arith) (omega arith)

  -- ---- the three coordinates of a face
  pub put_by_rule : (n : ℕ) (w : List ℕ) (f : ℕ) (r : FaceRule) (o o' : List ℤ) (x y z : ℤ) → r ≡ face_rule_of n w f → x ≡ round (face_value_of (tension t) n w 0 f r) (face_scale (tension t))
      → y ≡ round (face_value_of (tension t) n w 1 f r) (face_scale (tension t)) → z ≡ round (face_value_of (tension t) n w 2 f r) (face_scale (tension t)) → o' ≡ put_point o f x y z
      → o' ≡ put_point o f (face_coordinate (tension t) n w 0 f) (face_coordinate (tension t) n w 1 f) (face_coordinate (tension t) n w 2 f)
  unfolding face_coordinate
  put_by_rule n w f r o o' x y z e a b c d = cc

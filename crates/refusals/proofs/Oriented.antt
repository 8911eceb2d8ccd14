-- A net is oriented exactly if refusals 7 and 9 hold nowhere in it; and their places.
use mathlib.Core.Path.{◌≡◌, sym, ap, ◌∙◌}
use mathlib.Core.Bool.{Bool, true, false, ◌&&◌}
use mathlib.Core.List.{List}
use Prim.Native.Nat.{ℕ, zero, suc, ◌-◌, ◌≤◌, ◌<◌}
use native.Mathlib.Decide.{dec_lt}
use native.Mathlib.Omega.{arith}
use lib.ListN.{length}
use lib.Dec.{eqb, leb, ltb}
use borrow.Author.Tests.{eq-eqb, eqb-true, eqb-false, leb-false, lt-leb, lt-ltb, ltb-true}
use Rattle.search.specs.Search.{first, any, iterate}
use Rattle.search.proofs.Tests.{clash, refuted, and_on, and_left, and_right, or_off, or_left, or_right}
use Rattle.search.proofs.First.{first_before, first_reach, first_none, any_on, any_off, any_which}
use Rattle.topology.specs.Shape.{Shape, Lawful}
use Rattle.topology.specs.HalfEdge.{from, to}
use Rattle.topology.specs.Manifold.{Oriented}
use Rattle.topology.proofs.Shape.{face_earlier, nexts_lt, face_nexts}
use Rattle.refusals.specs.Refusals.{bad_corner, repeated_side}

-- the face of the first half-edge at which a test holds is the lowest face with such a half-edge
pub place_least : (S : Shape) (n : ℕ) → Lawful S n → (t : ℕ → Bool) (h : ℕ) → h < n → t h ≡ true → S.face (first t n) ≤ S.face h
place_least S n c t h b e = c.face_le (first t n) h (first_reach t n h b e) b

-- no half-edge of a face before that place has it
pub place_none : (S : Shape) (n : ℕ) → Lawful S n → (t : ℕ → Bool) (h : ℕ) → h < n → S.face h < S.face (first t n) → t h ≡ false
place_none S n c t h b e = refuted (t h) (λ i. let x = place_least S n c t h b i in omega arith)

-- ---- the tests fail: the net is oriented

module _ (S : Shape) (v : ℕ) (l : List ℕ) (w : Lawful S (length l)) (no7 : first (bad_corner S v l) (length l) ≡ length l) where
  corner : (h : ℕ) → h < length l → bad_corner S v l h ≡ false
  corner h b = first_before (bad_corner S v l) (length l) h (omega arith)

  below : (h : ℕ) → h < length l → from l h < v
  unfolding bad_corner
  below h b = leb-false v (from l h) (or_left (leb v (from l h)) _ (corner h b))

  -- the corner k + 1 sides on differs
  differs : (h k : ℕ) → h < length l → suc k < S.sides h → from l (iterate S.next (suc k) h) ≡ from l h → ⊥
  unfolding bad_corner
  differs h k b c =
      let q : ℕ → Bool = λ k. eqb (from l (iterate S.next (suc k) h)) (from l h) in
      eqb-false (from l (iterate S.next (suc k) h)) (from l h) (any_off q (S.sides h - 1) k (or_right (leb v (from l h)) (any q (S.sides h - 1)) (corner h b)) (omega arith))

  apart : (h g : ℕ) → h < length l → g < length l → S.face h ≡ S.face g → from l h ≡ from l g → h ≡ g
  unfolding iterate
  apart h g a b f e = let r = w.all h g a b (sym f) in go r.0 r.1 r.2
    where
      go : (k : ℕ) → k < S.sides h → iterate S.next k h ≡ g → h ≡ g
      go zero c d = d
      go (suc k) c d = absurd (differs h k a c (ap (from l) d ∙ sym e))

  -- then 9 holds at h exactly if a half-edge before h has its ends
  pub repeated_if : (h g : ℕ) → h < length l → g < h → from l g ≡ from l h → to S l g ≡ to S l h → repeated_side S l h ≡ true
  unfolding repeated_side
  repeated_if h g a b s e =
      let q : ℕ → Bool = λ g. ltb (S.face g) (S.face h) && (eqb (from l g) (from l h) && eqb (to S l g) (to S l h)) in
      any_on q (length l) g (omega arith) (and_on _ _ (lt-ltb _ _ (earlier (dec_lt (S.face g) (S.face h)))) (and_on _ _ (eq-eqb _ _ s) (eq-eqb _ _ e)))
    where
      earlier : Dec (S.face g < S.face h) → S.face g < S.face h
      earlier (yes c) = c
      earlier (no c) = let x = w.face_le g h (omega arith) a in let y = apart g h (omega arith) a (omega arith) s in let z : ⊥ = omega arith in absurd z

  pub oriented_if : first (repeated_side S l) (length l) ≡ length l → Oriented S v l
  oriented_if no9 = record {
    shape = w;
    below = below;
    apart = apart;
    once = λ h g a b s e. go h g a b s e (dec_lt h g) (dec_lt g h);
  }
    where
      fresh : (h : ℕ) → h < length l → repeated_side S l h ≡ false
      fresh h b = first_before (repeated_side S l) (length l) h (omega arith)

      go : (h g : ℕ) → h < length l → g < length l → from l h ≡ from l g → to S l h ≡ to S l g → Dec (h < g) → Dec (g < h) → h ≡ g
      go h g a b s e (yes c) d = clash (repeated_side S l g) (repeated_if g h b c s e) (fresh g b)
      go h g a b s e (no c) (yes d) = clash (repeated_side S l h) (repeated_if h g a d (sym s) (sym e)) (fresh h a)
      go h g a b s e (no c) (no d) = omega arith

pub repeated_which : (S : Shape) (l : List ℕ) → Lawful S (length l) → (h : ℕ) → repeated_side S l h ≡ true → (g : ℕ) × (g < h) × (from l g ≡ from l h) × (to S l g ≡ to S l h)
unfolding repeated_side
repeated_which S l w h t =
    let q : ℕ → Bool = λ g. ltb (S.face g) (S.face h) && (eqb (from l g) (from l h) && eqb (to S l g) (to S l h)) in
    let r = any_which q (length l) t in
    let g : ℕ = r.0 in
    let i = ltb (S.face g) (S.face h) in let j = eqb (from l g) (from l h) in let k = eqb (to S l g) (to S l h) in
    let x = ltb-true (S.face g) (S.face h) (and_left i (j && k) r.2) in
    let y = and_right i (j && k) r.2 in
    (g, face_earlier S (length l) w g h r.1 x, eqb-true (from l g) (from l h) (and_left j k y), eqb-true (to S l g) (to S l h) (and_right j k y))

-- ---- and back

module _ (S : Shape) (v : ℕ) (l : List ℕ) (ok : Oriented S v l) where
  corner_off : (h : ℕ) → h < length l → bad_corner S v l h ≡ false
  unfolding bad_corner
  corner_off h b =
      let q : ℕ → Bool = λ k. eqb (from l (iterate S.next (suc k) h)) (from l h) in
      or_off (leb v (from l h)) (any q (S.sides h - 1)) (lt-leb v (from l h) (ok.below h b)) (refuted (any q (S.sides h - 1)) (λ t.
      let r = any_which q (S.sides h - 1) t in
      let g : ℕ = iterate S.next (suc r.0) h in
      let e = ok.apart g h (nexts_lt S (length l) ok.shape (suc r.0) h b) b (face_nexts S (length l) ok.shape (suc r.0) h) (eqb-true (from l g) (from l h) r.2) in
      ok.shape.not_before h (suc r.0) b (omega arith) (omega (arith, r.1)) e))

  side_off : (h : ℕ) → h < length l → repeated_side S l h ≡ false
  side_off h b = refuted (repeated_side S l h) (λ t.
      let r = repeated_which S l ok.shape h t in
      let e = ok.once r.0 h (let x = r.1 in omega arith) b r.2 r.3 in
      omega (arith, r.1))

  pub no_7 : first (bad_corner S v l) (length l) ≡ length l
  no_7 = first_none (bad_corner S v l) (length l) (λ h b t. clash _ t (corner_off h b))

  pub no_9 : first (repeated_side S l) (length l) ≡ length l
  no_9 = first_none (repeated_side S l) (length l) (λ h b t. clash _ t (side_off h b))

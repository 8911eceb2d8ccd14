-- Laws of a lawful shape; four-sided faces are one. Assumes nothing.
use mathlib.Core.Path.{◌≡◌, refl, sym, ap, ◌∙◌}
use Prim.Native.Nat.{ℕ, zero, suc, ◌+◌, ◌-◌, ◌*◌, ◌/◌, ◌%◌, ◌<◌}
use native.Mathlib.Decide.{dec_lt}
use native.Mathlib.Omega.{arith}
use Rattle.search.specs.Search.{iterate}
use Rattle.topology.specs.Shape.{Shape, Lawful, quads}

step : (h k : ℕ) → 4 * ((4 * (h / 4) + (h + k) % 4) / 4) + (4 * (h / 4) + (h + k) % 4 + 1) % 4 ≡ 4 * (h / 4) + (h + (k + 1)) % 4
step h k = omega arith

-- k sides on
quads-iterate : (h k : ℕ) → iterate (λ (h : ℕ). 4 * (h / 4) + (h + 1) % 4) k h ≡ 4 * (h / 4) + (h + k) % 4
unfolding iterate
quads-iterate h zero = omega arith
quads-iterate h (suc k) =
    let e : k + 1 ≡ suc k = omega arith in
    ap (λ (h : ℕ). 4 * (h / 4) + (h + 1) % 4) (quads-iterate h k) ∙ step h k ∙ ap (λ (x : ℕ). 4 * (h / 4) + (h + x) % 4) e

pub quads_lawful : (n : ℕ) → n % 4 ≡ 0 → Lawful quads n
unfolding quads
quads_lawful n w = record {
  next_prev = λ h. omega arith;
  prev_next = λ h. omega arith;
  next_lt = λ h k. omega arith;
  prev_lt = λ h k. omega arith;
  face_next = λ h. omega arith;
  face_le = λ g h a k. omega arith;
  face_lt = λ h k. omega arith;
  face_onto = λ f k. (4 * f, omega arith, omega arith);
  three = λ h k. omega arith;
  eight = λ h k. omega arith;
  closes = λ h k. quads-iterate h 4 ∙ omega arith;
  not_before = λ h k a b c e. let d = sym (quads-iterate h k) ∙ e in omega arith;
  all = λ h g a b e. ((g % 4 + 4 - h % 4) % 4, omega arith, quads-iterate h ((g % 4 + 4 - h % 4) % 4) ∙ omega arith);
}

-- the sides of face h, in turn
pub record FourSides (h : ℕ) : Type 0 where
  pub next₀ : quads.next (4 * h) ≡ 4 * h + 1
  pub next₁ : quads.next (4 * h + 1) ≡ 4 * h + 2
  pub next₂ : quads.next (4 * h + 2) ≡ 4 * h + 3
  pub next₃ : quads.next (4 * h + 3) ≡ 4 * h
  pub prev₀ : quads.prev (4 * h) ≡ 4 * h + 3
  pub prev₁ : quads.prev (4 * h + 1) ≡ 4 * h
  pub prev₂ : quads.prev (4 * h + 2) ≡ 4 * h + 1
  pub prev₃ : quads.prev (4 * h + 3) ≡ 4 * h + 2

pub four_sides : (h : ℕ) → FourSides h
unfolding quads
four_sides h = record { next₀ = omega arith; next₁ = omega arith; next₂ = omega arith; next₃ = omega arith; prev₀ = omega arith; prev₁ = omega arith; prev₂ = omega arith; prev₃ = omega arith }

module _ (S : Shape) (n : ℕ) (c : Lawful S n) where
  pub face_prev : (h : ℕ) → S.face (S.prev h) ≡ S.face h
  face_prev h = sym (c.face_next (S.prev h)) ∙ ap S.face (c.next_prev h)

  pub prev_inj : (h g : ℕ) → S.prev h ≡ S.prev g → h ≡ g
  prev_inj h g e = sym (c.next_prev h) ∙ ap S.next e ∙ c.next_prev g

  pub next_not : (h : ℕ) → h < n → S.next h ≡ h → ⊥
  unfolding iterate
  next_not h k e = c.not_before h 1 k (omega arith) (omega (arith, c.three h k)) e

  pub next_next_not : (h : ℕ) → h < n → S.next (S.next h) ≡ h → ⊥
  unfolding iterate
  next_next_not h k e = c.not_before h 2 k (omega arith) (omega (arith, c.three h k)) e

  -- an earlier face has earlier half-edges
  pub face_earlier : (g h : ℕ) → g < n → S.face g < S.face h → g < h
  face_earlier g h b e = go (dec_lt g h)
    where
      go : Dec (g < h) → g < h
      go (yes a) = a
      go (no a) = let x = c.face_le h g (omega arith) b in let z : ⊥ = omega arith in absurd z

  -- k sides on, in the same face
  pub nexts_lt : (k h : ℕ) → h < n → iterate S.next k h < n
  unfolding iterate
  nexts_lt zero h b = b
  nexts_lt (suc k) h b = c.next_lt (iterate S.next k h) (nexts_lt k h b)

  pub face_nexts : (k h : ℕ) → S.face (iterate S.next k h) ≡ S.face h
  unfolding iterate
  face_nexts zero h = refl
  face_nexts (suc k) h = c.face_next (iterate S.next k h) ∙ face_nexts k h

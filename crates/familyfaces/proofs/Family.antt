-- Families of faces with plain sides: all eight edges of each face are plain, and one direction is where the code reads it. Assumes nothing.
use mathlib.Core.Path.{◌≡◌, sym, ap, ◌∙◌, subst}
use mathlib.Core.Logic.{◌⊎◌, inl, inr}
use mathlib.Core.List.{List}
use Prim.Native.Nat.{ℕ, ◌+◌, ◌*◌, ◌/◌, ◌%◌, ◌≤◌, ◌<◌}
use native.Mathlib.Omega.{arith}
use lib.ListN.{get_or}
use Rattle.topology.specs.Shape.{quads}
use Rattle.topology.specs.Quads.{across}
use Rattle.edgeentries.specs.Entry.{wide_flag, entry_of}
use Rattle.tables.specs.Tables.{Written}
use Rattle.roundfaces.specs.Faces.{refined_by}
use Rattle.roundfaces.proofs.Faces.{corners_then}
use Rattle.facerules.specs.Faces.{EntryTable, AllPlain, beyond_of}
use Rattle.facerules.proofs.Reading.{across_lt}
use Rattle.familyfaces.specs.Family.{FamilyTable, PlainSides}

across-side : (m j : ℕ) → m % 4 + j ≡ 3 → (j ≡ 0) ⊎ (j ≡ 3) → (0 < across m % 4) × (across m % 4 < 3)
unfolding across quads
across-side m j e (inl c) = (omega arith, omega arith)
across-side m j e (inr c) = (omega arith, omega arith)

module _ (n : ℕ) (w : List ℕ) (ok : EntryTable n w) (made : FamilyTable n w) where
  near_mated : (g : ℕ) → g < n → entry_of n w g < wide_flag → get_or w g 0 < n
  near_mated g k b = ok.boundary g k (omega arith)

  -- beyond a side 0 and a side 3 lies an edge inside another family
  outer : (g : ℕ) → g < n → (g % 4 ≡ 0) ⊎ (g % 4 ≡ 3) → get_or w g 0 < n → entry_of n w (beyond_of w g) < wide_flag
  unfolding beyond_of
  outer g k e m =
      let r = across-side (get_or w g 0) (g % 4) ((made.facing g k).opposite m) e in
      made.inside (across (get_or w g 0)) (across_lt n (get_or w g 0) ok.fours m) r.0 r.1

  -- beyond sides 1 and 2 lie halves of the sides of the same family
  beyond_second : (f : ℕ) → 4 * f < n → beyond_of w (4 * f + 1) ≡ 4 * quads.next f
  unfolding beyond_of across quads
  beyond_second f k = ap across (made.second f k) ∙ omega arith

  beyond_third : (f : ℕ) → 4 * f < n → beyond_of w (4 * f + 2) ≡ 4 * quads.prev f + 3
  unfolding beyond_of across quads
  beyond_third f k = ap across (made.third f k) ∙ omega arith

  module _ (p : ℕ) (sides : PlainSides n w p) where
    pub family_plain : (f : ℕ) → 4 * p ≤ f → f < 4 * p + 4 → 4 * f < n → AllPlain n w f
    unfolding quads
    family_plain f a b k =
        let d = made.whole in
        let x = sides.first f a b in
        let y = sides.last f a b in
        let u = made.inside (4 * f + 1) (omega arith) (omega arith) (omega arith) in
        let v = made.inside (4 * f + 2) (omega arith) (omega arith) (omega arith) in
        let m₀ = near_mated (4 * f) k x in
        let m₃ = near_mated (4 * f + 3) (omega arith) y in
        record {
          side₀ = record { near = x; mated = m₀; far = outer (4 * f) k (inl (omega arith)) m₀ };
          side₁ = record { near = u; mated = near_mated (4 * f + 1) (omega arith) u; far = subst (λ (i : ℕ). entry_of n w i < wide_flag) (sym (beyond_second f k)) (sides.first (quads.next f) (omega arith) (omega arith)) };
          side₂ = record { near = v; mated = near_mated (4 * f + 2) (omega arith) v; far = subst (λ (i : ℕ). entry_of n w i < wide_flag) (sym (beyond_third f k)) (sides.last (quads.prev f) (omega arith) (omega arith)) };
          side₃ = record { near = y; mated = m₃; far = outer (4 * f + 3) (omega arith) (inr (omega arith)) m₃ };
        }

  -- what the code reads for the direction of side 0 of face f by the face q before it: the edge inside, and the half beyond it
  pub inside_read : (f q r : ℕ) → 4 * f < n → q ≡ quads.prev f → r ≡ entry_of n w (4 * q + 1) → r ≡ entry_of n w (4 * f + 2)
  inside_read f q r k e i = i ∙ ap (λ (x : ℕ). entry_of n w (4 * x + 1)) e ∙ sym (made.shared f k)

  pub half_read : (f q r : ℕ) → 4 * f < n → q ≡ quads.prev f → r ≡ entry_of n w (4 * q + 3) → r ≡ entry_of n w (beyond_of w (4 * f + 2))
  half_read f q r k e i = i ∙ ap (λ (x : ℕ). entry_of n w (4 * x + 3)) e ∙ ap (entry_of n w) (sym (beyond_third f k))

-- ---- face i of a family by the family's first face
module _ (n : ℕ) (w : List ℕ) (f : ℕ) (start : f % 4 ≡ 0) (sides : PlainSides n w (f / 4)) (all : 4 * f + 16 ≤ n) where
  pub face_of : (g q : ℕ) → f ≤ g → g < f + 4 → q ≡ quads.prev g → (4 * g < n) × (q ≡ quads.prev g) × PlainSides n w (g / 4)
  face_of g q a b e = let d : f / 4 ≡ g / 4 = omega arith in (omega arith, e, subst (PlainSides n w) d sides)

-- ---- corners

pub family_corners : (n v count f : ℕ) (w c c₁ c₂ c₃ c₄ : List ℕ) → Written (16 * (f + 3)) (16 * (f + 3) + 16) (refined_by n v count c w) c c₁ → Written (16 * (f + 2)) (16 * (f + 2) + 16) (refined_by n v count c₁ w) c₁ c₂
    → Written (16 * (f + 1)) (16 * (f + 1) + 16) (refined_by n v count c₂ w) c₂ c₃ → Written (16 * f) (16 * f + 16) (refined_by n v count c₃ w) c₃ c₄ → Written (16 * f) (16 * f + 64) (refined_by n v count c w) c c₄
family_corners n v count f w c c₁ c₂ c₃ c₄ x₃ x₂ x₁ x₀ =
    let e₃ : 16 * (f + 3) + 16 ≡ 16 * f + 64 = omega arith in
    let e₂ : 16 * (f + 2) + 16 ≡ 16 * (f + 3) = omega arith in
    let e₁ : 16 * (f + 1) + 16 ≡ 16 * (f + 2) = omega arith in
    let e₀ : 16 * f + 16 ≡ 16 * (f + 1) = omega arith in
    let y₃ = subst (λ (e : ℕ). Written (16 * (f + 3)) e (refined_by n v count c w) c c₁) e₃ x₃ in
    let y₂ = subst (λ (e : ℕ). Written (16 * (f + 2)) e (refined_by n v count c₁ w) c₁ c₂) e₂ x₂ in
    let y₁ = subst (λ (e : ℕ). Written (16 * (f + 1)) e (refined_by n v count c₂ w) c₂ c₃) e₁ x₁ in
    let y₀ = subst (λ (e : ℕ). Written (16 * f) e (refined_by n v count c₃ w) c₃ c₄) e₀ x₀ in
    corners_then n v count (16 * f) (16 * (f + 1)) (16 * f + 64) w c c₃ c₄ (omega arith) (omega arith)
    (corners_then n v count (16 * (f + 1)) (16 * (f + 2)) (16 * f + 64) w c c₂ c₃ (omega arith) (omega arith)
    (corners_then n v count (16 * (f + 2)) (16 * (f + 3)) (16 * f + 64) w c c₁ c₂ (omega arith) (omega arith) y₃ y₂) y₁) y₀

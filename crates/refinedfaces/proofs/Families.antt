-- Families: the mates of the four faces that a round makes of one face. The half-edges of the first half of the side h are 4h and 4h + 1, those of the second
-- 4 next h + 3 and 4 next h + 2. Assumes an oriented net, from `halves` on of four-sided faces.
use mathlib.Core.Path.{◌≡◌, sym, ap, ◌∙◌, subst}
use mathlib.Core.List.{List}
use Prim.Native.Nat.{ℕ, ◌+◌, ◌*◌, ◌/◌, ◌%◌, ◌≤◌, ◌<◌}
use native.Mathlib.Decide.{dec_lt}
use native.Mathlib.Omega.{arith}
use lib.ListN.{length}
use Rattle.search.proofs.Quarters.{quarters}
use Rattle.topology.specs.Shape.{Shape, quads}
use Rattle.topology.specs.HalfEdge.{mate}
use Rattle.topology.specs.Manifold.{Oriented}
use Rattle.topology.proofs.Mates.{mate-le, mate_face}
use Rattle.refinedfaces.specs.Refined.{refined}
use Rattle.refinedfaces.specs.Families.{AfterRound, Facing}
use Rattle.refinedfaces.proofs.Corners.{length-refined}
use Rattle.refinedfaces.proofs.Mates.{mate₀, mate₀_none, mate₁, mate₂, mate₃}

-- ---- mates as a round makes them
module _ (S : Shape) (v : ℕ) (l : List ℕ) (ok : Oriented S v l) where
  abbrev R : List ℕ
  R = refined S v l

  facing₀ : (h : ℕ) → h < length l → Dec (mate S l h < length l) → Facing (4 * length l) (4 * h) (mate quads R (4 * h))
  facing₀ h b (yes a) = let e = mate₀ S v l ok h b a in record { opposite = λ m. omega arith; inner = λ c d. let z : ⊥ = omega arith in absurd z }
  facing₀ h b (no a) = let c = mate-le S l h in let e = mate₀_none S v l ok h b (omega arith) in record { opposite = λ m. let z : ⊥ = omega arith in absurd z; inner = λ c d. let z : ⊥ = omega arith in absurd z }

  facing_refined : (g : ℕ) → g < length R → Facing (length R) g (mate quads R g)
  facing_refined g k =
      let n = length-refined S v l in
      subst (λ (x : ℕ). Facing x g (mate quads R g)) (sym n) (quarters (length l) (λ (g : ℕ). Facing (4 * length l) g (mate quads R g))
      (λ h b. facing₀ h b (dec_lt (mate S l h) (length l)))
      (λ h b. let e = mate₁ S v l ok h b in let k = ok.shape.next_lt h b in record { opposite = λ m. omega arith; inner = λ c d. omega arith })
      (λ h b. let e = mate₂ S v l ok h b in let k = ok.shape.prev_lt h b in record { opposite = λ m. omega arith; inner = λ c d. omega arith })
      (λ h b. let e = mate₃ S v l ok h b in record { opposite = λ m. omega arith; inner = λ c d. let z : ⊥ = omega arith in absurd z }) g (omega arith))

module _ (l : List ℕ) (made : AfterRound l) where
  pub later_facing : (g : ℕ) → g < length l → Facing (length l) g (mate quads l g)
  later_facing g = subst (λ (l : List ℕ). g < length l → Facing (length l) g (mate quads l g)) (sym made.is) (facing_refined quads made.vertices made.before made.net.oriented g)

  pub later_length : length l ≡ 4 * length made.before
  later_length = ap length made.is ∙ length-refined quads made.vertices made.before

-- what the next round makes of it: the mate of side 0 of the refined face g, which is no side 0 itself and has the mate m
-- ---- a family
-- the mates x and y of the two halves of a side of face p: both in earlier families, or both in later ones or none
pub data Halves (p x y : ℕ) : Type 0 where
  older : x < 16 * p → y < 16 * p → Halves p x y
  newer : 16 * p + 16 ≤ x → 16 * p + 16 ≤ y → Halves p x y

module _ (v : ℕ) (l : List ℕ) (ok : Oriented quads v l) (fours : length l % 4 ≡ 0) where
  abbrev L : List ℕ
  L = refined quads v l

  -- ---- mates
  pub none_first : (h : ℕ) → h < length l → mate quads L (4 * h) < length L → mate quads l h < length l
  none_first h k m = go (dec_lt (mate quads l h) (length l))
    where
      go : Dec (mate quads l h < length l) → mate quads l h < length l
      go (yes b) = b
      go (no b) = let c = mate-le quads l h in let e = mate₀_none quads v l ok h k (omega arith) in let n = length-refined quads v l in let z : ⊥ = omega arith in absurd z

  mate_last : (h : ℕ) → h < length l → mate quads L (4 * quads.next h + 3) ≡ 4 * mate quads l h
  mate_last h k = mate₃ quads v l ok (quads.next h) (ok.shape.next_lt h k) ∙ ap (λ (x : ℕ). 4 * mate quads l x) (ok.shape.prev_next h)

  -- sides 1 and 2 meet inside the family
  pub inside₁ : (h g x : ℕ) → h < length l → 4 * h + 1 ≡ g → 4 * quads.next h + 2 ≡ x → mate quads L g ≡ x
  inside₁ h g x k e q = ap (mate quads L) (sym e) ∙ mate₁ quads v l ok h k ∙ q

  pub inside₂ : (h g x : ℕ) → h < length l → 4 * h + 2 ≡ g → 4 * quads.prev h + 1 ≡ x → mate quads L g ≡ x
  inside₂ h g x k e q = ap (mate quads L) (sym e) ∙ mate₂ quads v l ok h k ∙ q

  -- both halves of a side are first met in the same family
  pub halves : (h : ℕ) → h < length l → Halves (h / 4) (mate quads L (4 * h)) (mate quads L (4 * quads.next h + 3))
  unfolding quads
  halves h k = go (dec_lt (mate quads l h) (length l))
    where
      go : Dec (mate quads l h < length l) → Halves (h / 4) (mate quads L (4 * h)) (mate quads L (4 * quads.next h + 3))
      go (yes m) = at (dec_lt (mate quads l h / 4) (h / 4))
        where
          at : Dec (mate quads l h / 4 < h / 4) → Halves (h / 4) (mate quads L (4 * h)) (mate quads L (4 * quads.next h + 3))
          at (yes b) = let x = mate₀ quads v l ok h k m in let y = mate_last h k in older (omega arith) (omega arith)
          at (no b) =
              let x = mate₀ quads v l ok h k m in
              let y = mate_last h k in
              let d : mate quads l h / 4 ≡ h / 4 → ⊥ = mate_face quads v l ok h k m in
              let c : h / 4 < mate quads l h / 4 = omega arith in
              newer (omega arith) (omega arith)
      go (no m) = let c = mate-le quads l h in let x = mate₀_none quads v l ok h k (omega arith) in let y = mate_last h k in newer (omega arith) (omega arith)

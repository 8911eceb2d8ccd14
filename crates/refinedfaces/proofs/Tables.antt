-- The mate table of the refined faces is got from the table before by arithmetic.
use mathlib.Core.Path.{◌≡◌, sym, ap, ◌∙◌}
use mathlib.Core.Bool.{cond}
use mathlib.Core.List.{List}
use Prim.Native.Nat.{ℕ, ◌+◌, ◌*◌, ◌/◌, ◌%◌, ◌<◌}
use native.Mathlib.Decide.{dec_lt}
use native.Mathlib.Omega.{arith}
use lib.ListN.{length, get_or}
use lib.Dec.{ltb}
use borrow.Author.Tests.{lt-ltb, le-ltb}
use Rattle.lists.specs.Tabulate.{tabulate}
use Rattle.lists.proofs.Tabulate.{length-tabulate, get_or-tabulate, tabulate_cong}
use Rattle.search.proofs.Quarters.{quarters}
use Rattle.topology.specs.Shape.{Shape, quads}
use Rattle.topology.specs.HalfEdge.{mate}
use Rattle.topology.specs.Manifold.{Oriented}
use Rattle.topology.proofs.Mates.{mate-le}
use Rattle.refinedfaces.specs.Refined.{refined}
use Rattle.refinedfaces.specs.Mates.{mates, refined_mate, refined_mates}
use Rattle.refinedfaces.proofs.Corners.{length-refined}
use Rattle.refinedfaces.proofs.Mates.{mate₀, mate₀_none, mate₁, mate₂, mate₃}

pub length-mates : (S : Shape) (l : List ℕ) → length (mates S l) ≡ length l
unfolding mates
length-mates S l = length-tabulate (length l) (mate S l)

pub get_or-mates : (S : Shape) (l : List ℕ) (h : ℕ) → h < length l → get_or (mates S l) h 0 ≡ mate S l h
unfolding mates
get_or-mates S l h k = get_or-tabulate (length l) (mate S l) h 0 k

module _ (S : Shape) (v : ℕ) (l : List ℕ) (ok : Oriented S v l) where
  -- for any function m that gives the mates
  mate-refined : (m : ℕ → ℕ) → ((h : ℕ) → h < length l → m h ≡ mate S l h) → (g : ℕ) → g < 4 * length l → mate quads (refined S v l) g ≡ refined_mate S (length l) m (g / 4) (g % 4)
  unfolding refined_mate
  mate-refined m f = quarters (length l) (λ g. mate quads (refined S v l) g ≡ refined_mate S (length l) m (g / 4) (g % 4))
      (λ h k. let q : 4 * h / 4 ≡ h = omega arith in let r : 4 * h % 4 ≡ 0 = omega arith in let e = f h k in rw (q, r, e) (side₀ h k (dec_lt (mate S l h) (length l))))
      (λ h k. let q : (4 * h + 1) / 4 ≡ h = omega arith in let r : (4 * h + 1) % 4 ≡ 1 = omega arith in rw (q, r) (mate₁ S v l ok h k))
      (λ h k. let q : (4 * h + 2) / 4 ≡ h = omega arith in let r : (4 * h + 2) % 4 ≡ 2 = omega arith in rw (q, r) (mate₂ S v l ok h k))
      (λ h k. let q : (4 * h + 3) / 4 ≡ h = omega arith in let r : (4 * h + 3) % 4 ≡ 3 = omega arith in let e = f (S.prev h) (ok.shape.prev_lt h k) in rw (q, r, e) (mate₃ S v l ok h k))
    where
      side₀ : (h : ℕ) → h < length l → Dec (mate S l h < length l) → mate quads (refined S v l) (4 * h) ≡ cond (ltb (mate S l h) (length l)) (4 * S.next (mate S l h) + 3) (4 * length l)
      side₀ h k (yes a) = let t = lt-ltb (mate S l h) (length l) a in rw t (mate₀ S v l ok h k a)
      side₀ h k (no a) = let t = le-ltb (mate S l h) (length l) (omega arith) in rw t (mate₀_none S v l ok h k (omega (arith, mate-le S l h)))

  pub mates-refined : mates quads (refined S v l) ≡ refined_mates S (mates S l)
  unfolding mates refined_mates
  mates-refined =
      let n = length-refined S v l in
      let k = length-tabulate (length l) (mate S l) in
      let m : ℕ → ℕ = λ h. get_or (tabulate (length l) (mate S l)) h 0 in
      ap (λ (x : ℕ). tabulate x (mate quads (refined S v l))) n
      ∙ tabulate_cong (4 * length l) (mate quads (refined S v l)) (λ (g : ℕ). refined_mate S (length l) m (g / 4) (g % 4)) (λ g b. mate-refined m (λ h c. get_or-tabulate (length l) (mate S l) h 0 c) g b)
      ∙ ap (λ (x : ℕ). tabulate (4 * x) (λ (g : ℕ). refined_mate S x m (g / 4) (g % 4))) (sym k)

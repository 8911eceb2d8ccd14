-- Laws of mates refined in place.
use mathlib.Core.Path.{◌≡◌, refl, sym, ◌∙◌}
use mathlib.Core.List.{List}
use Prim.Native.Nat.{ℕ, ◌+◌, ◌-◌, ◌*◌, ◌/◌, ◌%◌, ◌≤◌, ◌<◌}
use native.Mathlib.Omega.{arith}
use lib.ListN.{length, get_or, take}
use lib.Seq.{length-take-le, get_or-take}
use Rattle.search.proofs.Quarters.{below_four}
use Rattle.topology.specs.Shape.{Shape, quads}
use Rattle.topology.proofs.Shape.{four_sides}
use Rattle.refinedfaces.specs.Mates.{refined_mate, refined_mates}
use Rattle.tables.specs.Tables.{filled, put_four, Written}
use Rattle.tables.proofs.Written.{written_as, written_face, Refining, refining_all}
use Rattle.sidemates.specs.FirstMate.{first_mate}
use Rattle.roundmates.specs.Mates.{MatesIn}

-- one face
module _ (n f : ℕ) (w : List ℕ) where
  number : ℕ → ℕ → ℕ
  number = refined_mate quads n (λ (h : ℕ). get_or w h 0)

  pub mates_written : (w₁ w₂ w₃ w₄ : List ℕ) → 16 * f + 16 ≤ length w
      → w₁ ≡ put_four w (16 * f + 12) (first_mate n (get_or w (4 * f + 3) 0)) (16 * f + 2) (16 * f + 9) (4 * get_or w (4 * f + 2) 0)
      → w₂ ≡ put_four w₁ (16 * f + 8) (first_mate n (get_or w (4 * f + 2) 0)) (16 * f + 14) (16 * f + 5) (4 * get_or w (4 * f + 1) 0)
      → w₃ ≡ put_four w₂ (16 * f + 4) (first_mate n (get_or w (4 * f + 1) 0)) (16 * f + 10) (16 * f + 1) (4 * get_or w (4 * f) 0)
      → w₄ ≡ put_four w₃ (16 * f) (first_mate n (get_or w (4 * f) 0)) (16 * f + 6) (16 * f + 13) (4 * get_or w (4 * f + 3) 0)
      → Written (16 * f) (16 * f + 16) (λ (k : ℕ). refined_mate quads n (λ (h : ℕ). get_or w h 0) (k / 4) (k % 4)) w w₄
  unfolding refined_mate number first_mate
  mates_written w₁ w₂ w₃ w₄ b p₁ p₂ p₃ p₄ =
      let s = four_sides f in
      let a₃ : 4 * (4 * f) + 2 ≡ 16 * f + 2 = omega arith in
      let b₃ : 4 * (4 * f + 2) + 1 ≡ 16 * f + 9 = omega arith in
      let a₂ : 4 * (4 * f + 3) + 2 ≡ 16 * f + 14 = omega arith in
      let b₂ : 4 * (4 * f + 1) + 1 ≡ 16 * f + 5 = omega arith in
      let a₁ : 4 * (4 * f + 2) + 2 ≡ 16 * f + 10 = omega arith in
      let b₁ : 4 * (4 * f) + 1 ≡ 16 * f + 1 = omega arith in
      let a₀ : 4 * (4 * f + 1) + 2 ≡ 16 * f + 6 = omega arith in
      let b₀ : 4 * (4 * f + 3) + 1 ≡ 16 * f + 13 = omega arith in
      written_face number f w w₁ w₂ w₃ w₄ b
      (rw (s.next₃, s.prev₃, a₃, b₃) p₁)
      (rw (s.next₂, s.prev₂, a₂, b₂) p₂)
      (rw (s.next₁, s.prev₁, a₁, b₁) p₃)
      (rw (s.next₀, s.prev₀, a₀, b₀) p₄)

-- ---- the loop

mate_by : (S : Shape) (n : ℕ) (m m' : ℕ → ℕ) (h : ℕ) → m h ≡ m' h → m (S.prev h) ≡ m' (S.prev h) → (j : ℕ) → j < 4 → refined_mate S n m h j ≡ refined_mate S n m' h j
unfolding refined_mate
mate_by S n m m' h p q = below_four (λ j. refined_mate S n m h j ≡ refined_mate S n m' h j) (rw p) refl refl (rw q)

module _ (n : ℕ) (w : List ℕ) (ok : MatesIn n w) where
  pub mates_as : (u u' : List ℕ) (f : ℕ) → 0 < f → Refining n (λ (k : ℕ). refined_mate quads n (λ (h : ℕ). get_or (take n w) h 0) (k / 4) (k % 4)) w u f
      → Written (16 * (f - 1)) (16 * (f - 1) + 16) (λ (k : ℕ). refined_mate quads n (λ (h : ℕ). get_or u h 0) (k / 4) (k % 4)) u u'
      → Written (16 * (f - 1)) (16 * (f - 1) + 16) (λ (k : ℕ). refined_mate quads n (λ (h : ℕ). get_or (take n w) h 0) (k / 4) (k % 4)) u u'
  unfolding quads
  mates_as u u' f p x y =
      let b = x.le in
      written_as (16 * (f - 1)) (16 * (f - 1) + 16) _ _ u u' (λ k a c. mate_by quads n (λ (h : ℕ). get_or u h 0) (λ (h : ℕ). get_or (take n w) h 0) (k / 4)
      (x.written.before (k / 4) (omega arith) ∙ sym (get_or-take n w (k / 4) 0 (omega arith)))
      (x.written.before (quads.prev (k / 4)) (omega arith) ∙ sym (get_or-take n w (quads.prev (k / 4)) 0 (omega arith))) (k % 4) (omega arith)) y

  pub mates_all : (u : List ℕ) (f : ℕ) → f ≤ 0 → Refining n (λ (k : ℕ). refined_mate quads n (λ (h : ℕ). get_or (take n w) h 0) (k / 4) (k % 4)) w u f → u ≡ filled (refined_mates quads (take n w)) w
  unfolding refined_mates
  mates_all u f z x =
      let r = ok.room in
      let m = length-take-le n w (omega arith) in
      rw m (refining_all n (λ (k : ℕ). refined_mate quads n (λ (h : ℕ). get_or (take n w) h 0) (k / 4) (k % 4)) w u f r z x)

-- Laws of tables of points. Assumes nothing.
use mathlib.Core.Path.{◌≡◌, sym, ap, ap₂, ◌∙◌}
use mathlib.Core.List.{List, ◌++◌}
use Prim.Native.Nat.{ℕ, ◌+◌, ◌*◌, ◌/◌, ◌%◌, ◌≤◌}
use native.Mathlib.Omega.{arith}
use lib.IntN.{ℤ}
use lib.ListN.{length, set, drop, take, length-set}
use Rattle.lists.specs.Tabulate.{tabulate}
use Rattle.lists.proofs.Tabulate.{write_three}
use lib.Seq.{take-set-le}
use Rattle.coordinates.specs.Points.{put_point, PointsWritten}

pub put_point_is : (t t' : List ℤ) (i : ℕ) (x y z x' y' z' : ℤ) → t' ≡ put_point t i x y z → x ≡ x' → y ≡ y' → z ≡ z' → t' ≡ put_point t i x' y' z'
put_point_is t t' i x y z x' y' z' e a b c = cc

pub take_point : (v i : ℕ) (t : List ℤ) (x y z : ℤ) → v ≤ i → take (3 * v) (put_point t i x y z) ≡ take (3 * v) t
unfolding put_point
take_point v i t x y z h =
    take-set-le (3 * v) (set (set t (3 * i) x) (3 * i + 1) y) (3 * i + 2) z (omega arith)
    ∙ take-set-le (3 * v) (set t (3 * i) x) (3 * i + 1) y (omega arith)
    ∙ take-set-le (3 * v) t (3 * i) x (omega arith)

length_point : (t : List ℤ) (i : ℕ) (x y z : ℤ) → length (put_point t i x y z) ≡ length t
unfolding put_point
length_point t i x y z = simp length-set

-- ---- one more point of three coordinates G a i over a table, from the front
module _ (G : ℕ → ℕ → ℤ) where
  point_turn : (o : List ℤ) {t : List ℤ} (i : ℕ) → t ≡ tabulate (3 * i) (λ (k : ℕ). G (k % 3) (k / 3)) ++ drop (3 * i) o → 3 * i + 3 ≤ length o
      → put_point t i (G 0 i) (G 1 i) (G 2 i) ≡ tabulate (3 * (i + 1)) (λ (k : ℕ). G (k % 3) (k / 3)) ++ drop (3 * (i + 1)) o
  unfolding put_point
  point_turn o {t} i e h =
      let F : ℕ → ℤ = λ k. G (k % 3) (k / 3) in
      let q₀ : 3 * i / 3 ≡ i = omega arith in
      let q₁ : (3 * i + 1) / 3 ≡ i = omega arith in
      let q₂ : (3 * i + 2) / 3 ≡ i = omega arith in
      let r₀ : 3 * i % 3 ≡ 0 = omega arith in
      let r₁ : (3 * i + 1) % 3 ≡ 1 = omega arith in
      let r₂ : (3 * i + 2) % 3 ≡ 2 = omega arith in
      let n : 3 * i + 3 ≡ 3 * (i + 1) = omega arith in
      let a : G 0 i ≡ F (3 * i) = sym (ap₂ G r₀ q₀) in
      let b : G 1 i ≡ F (3 * i + 1) = sym (ap₂ G r₁ q₁) in
      let c : G 2 i ≡ F (3 * i + 2) = sym (ap₂ G r₂ q₂) in
      ap (λ (u : List ℤ). set (set (set u (3 * i) (G 0 i)) (3 * i + 1) (G 1 i)) (3 * i + 2) (G 2 i)) e
      ∙ ap (λ (x : ℤ). set (set (set (tabulate (3 * i) F ++ drop (3 * i) o) (3 * i) x) (3 * i + 1) (G 1 i)) (3 * i + 2) (G 2 i)) a
      ∙ ap (λ (x : ℤ). set (set (set (tabulate (3 * i) F ++ drop (3 * i) o) (3 * i) (F (3 * i))) (3 * i + 1) x) (3 * i + 2) (G 2 i)) b
      ∙ ap (λ (x : ℤ). set (set (set (tabulate (3 * i) F ++ drop (3 * i) o) (3 * i) (F (3 * i))) (3 * i + 1) (F (3 * i + 1))) (3 * i + 2) x) c
      ∙ write_three F o (3 * i) (omega arith)
      ∙ ap (λ (k : ℕ). tabulate k F ++ drop k o) n

  pub written_next : (o t t' : List ℤ) (i : ℕ) → 3 * i + 3 ≤ length o → PointsWritten G o t i → t' ≡ put_point t i (G 0 i) (G 1 i) (G 2 i) → PointsWritten G o t' (i + 1)
  written_next o t t' i h x e = record {
    kept = ap length e ∙ length_point t i (G 0 i) (G 1 i) (G 2 i) ∙ x.kept;
    points = e ∙ point_turn o i x.points h;
  }

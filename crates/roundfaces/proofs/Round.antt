-- What callers need of a round: how many vertices there are, and the marks. Assumes nothing.
use mathlib.Core.Path.{◌≡◌, refl}
use mathlib.Core.Bool.{cond}
use mathlib.Core.List.{List}
use Prim.Native.Nat.{ℕ, ◌*◌, ◌≤◌, ◌<◌}
use native.Mathlib.Decide.{dec_lt}
use native.Mathlib.Omega.{arith}
use lib.ListN.{length, get_or}
use lib.Dec.{ltb}
use borrow.Author.Tests.{le-ltb}
use Rattle.lists.proofs.Tabulate.{tabulate_cong}
use Rattle.topology.specs.Shape.{Shape, quads}
use Rattle.topology.proofs.Mates.{edges_le}
use Rattle.refinedfaces.specs.Refined.{refined_vertices, refined_marks}
use Rattle.roundfaces.specs.Faces.{extended}

-- there are at most four times as many refined vertices as half-edges
pub vertices_refined : (v : ℕ) (l : List ℕ) → v ≤ length l → refined_vertices quads v l ≤ 4 * length l
unfolding quads
vertices_refined v l h = let e = edges_le quads l in omega arith

pub marks_refined : (S : Shape) (v : ℕ) (l marks : List ℕ) → extended v (refined_vertices S v l) marks ≡ refined_marks S v l marks
unfolding extended refined_marks
marks_refined S v l marks = refl

-- only the first v marks count
pub marks_cong : (S : Shape) (v : ℕ) (l m m' : List ℕ) → ((p : ℕ) → p < v → get_or m p 0 ≡ get_or m' p 0) → refined_marks S v l m ≡ refined_marks S v l m'
unfolding refined_marks
marks_cong S v l m m' f = tabulate_cong (refined_vertices S v l) (λ (p : ℕ). cond (ltb p v) (get_or m p 0) 0) (λ (p : ℕ). cond (ltb p v) (get_or m' p 0) 0) (λ p b. at p (dec_lt p v))
  where
    at : (p : ℕ) → Dec (p < v) → cond (ltb p v) (get_or m p 0) 0 ≡ cond (ltb p v) (get_or m' p 0) 0
    at p (yes h) = rw (f p h)
    at p (no h) = rw (le-ltb p v (omega arith))

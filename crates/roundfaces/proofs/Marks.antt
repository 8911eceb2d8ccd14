-- Laws of marks extended by 0.
use mathlib.Core.Path.{◌≡◌}
use mathlib.Core.Bool.{cond}
use mathlib.Core.List.{List}
use Prim.Native.Nat.{ℕ, ◌≤◌, ◌<◌}
use native.Mathlib.Decide.{dec_lt}
use native.Mathlib.Omega.{arith}
use lib.ListN.{length, get_or}
use lib.Dec.{ltb}
use borrow.Author.Tests.{lt-ltb, le-ltb}
use Rattle.tables.specs.Tables.{filled, Written}
use Rattle.tables.proofs.Written.{written_all}
use Rattle.roundfaces.specs.Faces.{extended}

-- marks with 0 from v up to `count`
pub marks_extended : (v count : ℕ) (marks m : List ℕ) → v ≤ count → count ≤ length marks → length m ≡ length marks → Written v count (λ (i : ℕ). 0) marks m → m ≡ filled (extended v count marks) marks
unfolding extended
marks_extended v count marks m h b k x = written_all count (λ (p : ℕ). cond (ltb p v) (get_or marks p 0) 0) marks m b k (record {
  before = λ p l. let z : ⊥ = omega arith in absurd z;
  inside = λ p l g. at p g (dec_lt p v);
  behind = x.behind;
})
  where
    at : (p : ℕ) → p < count → Dec (p < v) → get_or m p 0 ≡ cond (ltb p v) (get_or marks p 0) 0
    at p g (yes l) = let t = lt-ltb p v l in rw t (x.before p l)
    at p g (no l) = let t = le-ltb p v (omega arith) in rw t (x.inside p (omega arith) g)

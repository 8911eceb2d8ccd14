-- The mates as a table, and the table after a round, by arithmetic alone.
use Rattle.std.specs.Prelude.{cond, List, ℕ, zero, suc, ◌+◌, ◌*◌, ◌/◌, ◌%◌, length, get_or, ltb}
use Rattle.lists.specs.Tabulate.{tabulate}
use Rattle.topology.specs.Shape.{Shape}
use Rattle.topology.specs.HalfEdge.{mate}

unfoldable pub mates : Shape → List ℕ → List ℕ
mates S l = tabulate (length l) (mate S l)

-- the mate of side j of the refined face h, from the mates m of n half-edges
unfoldable pub refined_mate : Shape → ℕ → (ℕ → ℕ) → ℕ → ℕ → ℕ
refined_mate S n m h zero = cond (ltb (m h) n) (4 * S.next (m h) + 3) (4 * n)
refined_mate S n m h (suc zero) = 4 * S.next h + 2
refined_mate S n m h (suc (suc zero)) = 4 * S.prev h + 1
refined_mate S n m h (suc (suc (suc j))) = 4 * m (S.prev h)

unfoldable pub refined_mates : Shape → List ℕ → List ℕ
refined_mates S ms = tabulate (4 * length ms) (λ (g : ℕ). refined_mate S (length ms) (λ (h : ℕ). get_or ms h 0) (g / 4) (g % 4))

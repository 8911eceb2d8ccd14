-- Half-edges, mates and edges of a net whose corners are the list l. There are as many half-edges as corners; that number stands for 'none'.
use Rattle.std.specs.Prelude.{Bool, ◌&&◌, List, ℕ, min, length, get_or, eqb, ltb}
use Rattle.search.specs.Search.{first, count}
use Rattle.topology.specs.Shape.{Shape}

-- the vertices that the half-edge h runs from and to
unfoldable pub from : List ℕ → ℕ → ℕ
from l h = get_or l h 0

unfoldable pub to : Shape → List ℕ → ℕ → ℕ
to S l h = from l (S.next h)

-- whether g runs along the side of h the other way
unfoldable pub opposed : Shape → List ℕ → ℕ → ℕ → Bool
opposed S l h g = eqb (from l g) (to S l h) && eqb (to S l g) (from l h)

-- the half-edge that runs along the side of h the other way, or none
unfoldable pub mate : Shape → List ℕ → ℕ → ℕ
mate S l h = first (opposed S l h) (length l)

-- "Edges are numbered as they are first met, face by face, side 0 to 3": whether the edge of h is first met at h
unfoldable pub first_met : Shape → List ℕ → ℕ → Bool
first_met S l h = ltb h (mate S l h)

-- how many edges there are
unfoldable pub edge_count : Shape → List ℕ → ℕ
edge_count S l = count (first_met S l) (length l)

-- the number of the edge of h: how many edges are first met before it
unfoldable pub edge : Shape → List ℕ → ℕ → ℕ
edge S l h = count (first_met S l) (min h (mate S l h))

-- the half-edge at which edge e is first met
unfoldable pub edge_at : Shape → List ℕ → ℕ → ℕ
edge_at S l e = first (λ (h : ℕ). eqb (edge S l h) e) (length l)

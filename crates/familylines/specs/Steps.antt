-- The steps of the pass over the edges of a net with corners l and marks, from half-edge to half-edge: the first points of p are the old ones, one for each mark.
use Rattle.std.specs.Prelude.{◌≡◌, ◌⊎◌, List, ℕ, ◌+◌, ◌-◌, ◌*◌, ◌≤◌, ◌<◌, ℤ, length, take}
use Rattle.search.specs.Search.{count}
use Rattle.curve.specs.Weights.{Weights}
use Rattle.topology.specs.Shape.{quads}
use Rattle.topology.specs.HalfEdge.{from, mate, first_met}
use Rattle.scheme.specs.Points.{inner_rule}
use Rattle.schemelaws.specs.Ordinary.{OrdinaryEnds, ordinary_value}
use Rattle.walks.specs.Ready.{Ready}
use Rattle.coordinates.specs.Points.{Points}
use Rattle.coordinates.specs.Stencil.{interior_value}
use Rattle.edgeentries.specs.Entry.{point_place}
use Rattle.exactedges.specs.Edge.{CornerOf}
use Rattle.edgetable.specs.EdgeTable.{Round, Edges}

-- the pass has gone on to h, with e edges met, whatever tables it began with
pub record Going (t : ℕ) (l marks : List ℕ) (p : List ℤ) (w : List ℕ) (h e : ℕ) : Type 0 where
  pub at : ℕ
  pub initial : ℕ
  pub p₀ : List ℤ
  pub w₀ : List ℕ
  pub round : Round t l marks p₀ w₀ at initial
  pub done : Edges t l marks p₀ w₀ p w h e
  pub counted : e ≡ count (first_met quads l) h

-- it goes on from h with e edges to h' with e'
pub record Carries (t : ℕ) (l marks : List ℕ) (h e h' e' : ℕ) (p : List ℤ) (w : List ℕ) (p' : List ℤ) (w' : List ℕ) : Type 0 where
  pub edges : (at initial : ℕ) (p₀ : List ℤ) (w₀ : List ℕ) → Round t l marks p₀ w₀ at initial → Edges t l marks p₀ w₀ p w h e → e ≡ count (first_met quads l) h
      → Edges t l marks p₀ w₀ p' w' h' e' × (e' ≡ count (first_met quads l) h')

-- ---- one step
-- the edge of h is met first there, number e, and the tables have room for its point
pub record Place (t : ℕ) (l marks : List ℕ) (p : List ℤ) (w : List ℕ) (h e : ℕ) : Type 0 where
  pub low : t ≤ 4
  pub ready : Ready l w
  pub points : Points l (take (3 * length marks) p)
  pub lt : h < length l
  pub vertices : length marks ≤ length l
  pub below : e ≤ length l
  pub entries : 2 * length l ≤ length w
  pub old : 3 * length marks ≤ length p
  pub room : 3 * (length marks + e) + 3 ≤ length p
  pub exact : point_place (length l) e + 6 ≤ length w

-- the edge of h is new and lies between ordinary vertices, on the line of the vertices o, p, q, r
pub record Line (l : List ℕ) (h o p q r : ℕ) : Type 0 where
  pub new : h < mate quads l h
  pub ends : OrdinaryEnds l h
  pub value : (weights : Weights) (e : ℕ → ℤ) → interior_value weights e o p q r ≡ ordinary_value weights l e h inner_rule
  pub in₀ : CornerOf l o
  pub in₁ : CornerOf l p
  pub in₂ : CornerOf l q
  pub in₃ : CornerOf l r

-- h is the first half of a side in the family from f on, between the vertices c and e, with d at the other end of the side
pub record FirstHalf (l : List ℕ) (f h c e d : ℕ) : Type 0 where
  pub lt : h + 3 < length l
  pub after : f ≤ h
  pub side : (mate quads l h < f) ⊎ (h < mate quads l h)
  pub before : mate quads l (h + 3) + 3 < length l
  pub line : h < mate quads l h → Line l h (from l (mate quads l (h + 3) + 3)) c e d

-- h is the second half of a side from c by e to d
pub record LastHalf (l : List ℕ) (f h c e d : ℕ) : Type 0 where
  pub lt : h < length l
  pub after : f ≤ h
  pub three : 3 ≤ h
  pub side : (mate quads l h < f) ⊎ (h < mate quads l h)
  pub next : mate quads l (h - 3) < length l
  pub two : 2 ≤ mate quads l (h - 3)
  pub line : h < mate quads l h → Line l h c e d (from l (mate quads l (h - 3) - 2))

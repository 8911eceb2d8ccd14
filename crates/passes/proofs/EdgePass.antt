-- The pass over the edges, part by part. Assumes nothing.
use mathlib.Core.Path.{◌≡◌, refl}
use mathlib.Core.List.{List}
use Prim.Native.Nat.{ℕ, ◌%◌, ◌<◌}
use native.Mathlib.Omega.{arith}
use lib.IntN.{ℤ}
use lib.ListN.{length}
use Rattle.search.specs.Search.{count}
use Rattle.topology.specs.Shape.{quads}
use Rattle.topology.specs.HalfEdge.{edge_count}
use Rattle.refinedfaces.specs.Families.{AfterRound}
use Rattle.refinedfaces.proofs.Families.{later_length}
use Rattle.edgetable.specs.EdgeTable.{Round, Turn, Edges}
use Rattle.edgetable.proofs.EdgeTable.{edges_none, turn_in}
use Rattle.familylines.specs.Steps.{Going, Carries}
use Rattle.passes.specs.Parts.{Underway}

pub whole : (l : List ℕ) → AfterRound l → length l % 16 ≡ 0
whole l m = let a = later_length l m in let b = m.fours in omega arith

module _ (t : ℕ) (l marks : List ℕ) (at initial : ℕ) where
  pub going : (p : List ℤ) (w : List ℕ) (h e : ℕ) → Underway t l marks p w at initial h e → Going t l marks p w h e
  going p w h e u = record { at = at; initial = initial; p₀ = u.p₀; w₀ = u.w₀; round = u.round; done = u.done; counted = u.counted }

  pub turn_of : (p : List ℤ) (w : List ℕ) (h e : ℕ) → Underway t l marks p w at initial h e → h < length l → Turn t l marks p w at initial h e
  turn_of p w h e u b = turn_in t l marks u.p₀ u.w₀ at initial u.round p w h e u.done b u.counted

  pub underway_then : (p p' : List ℤ) (w w' : List ℕ) (h e h' e' : ℕ) → Underway t l marks p w at initial h e → Carries t l marks h e h' e' p w p' w' → Underway t l marks p' w' at initial h' e'
  underway_then p p' w w' h e h' e' u c = let r = c.edges at initial u.p₀ u.w₀ u.round u.done u.counted in record { p₀ = u.p₀; w₀ = u.w₀; round = u.round; done = r.0; counted = r.1 }

  module _ (p : List ℤ) (w : List ℕ) (round : Round t l marks p w at initial) where
    pub underway_none : Underway t l marks p w at initial 0 0
    unfolding count
    underway_none = record { p₀ = p; w₀ = w; round = round; done = edges_none t l marks p w at initial round; counted = refl }

    pub all_edges : (p' : List ℤ) (w' : List ℕ) (r : ℕ) → Carries t l marks 0 0 (length l) r p w p' w' → (r ≡ edge_count quads l) × Edges t l marks p w p' w' (length l) (edge_count quads l)
    unfolding count edge_count
    all_edges p' w' r c = let x = c.edges at initial p w round (edges_none t l marks p w at initial round) refl in let e = x.1 in (e, rw e at x.0)

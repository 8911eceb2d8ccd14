-- The pass goes on.
use mathlib.Core.List.{List}
use Prim.Native.Nat.{ℕ, ◌+◌, ◌<◌}
use lib.IntN.{ℤ}
use lib.ListN.{length}
use Rattle.topology.specs.Shape.{quads}
use Rattle.topology.specs.HalfEdge.{mate}
use Rattle.edgetable.specs.EdgeTable.{Turn, Turned}
use Rattle.familylines.specs.Steps.{Place, Going, Carries}
use Rattle.edgetable.proofs.EdgeTable.{turn_in, turned_edges, turned_count}

module _ (t : ℕ) (l marks : List ℕ) where
  pub turn_now : (p : List ℤ) (w : List ℕ) (h e : ℕ) → (g : Going t l marks p w h e) → h < length l → Turn t l marks p w g.at g.initial h e
  turn_now p w h e g b = turn_in t l marks g.p₀ g.w₀ g.at g.initial g.round p w h e g.done b g.counted

  pub place_now : (p : List ℤ) (w : List ℕ) (h e : ℕ) → Going t l marks p w h e → h < length l → h < mate quads l h → Place t l marks p w h e
  place_now p w h e g b m = let k = turn_now p w h e g b in record {
    low = k.low;
    ready = k.ready;
    points = k.points;
    lt = b;
    vertices = k.vertices;
    below = k.below;
    entries = k.entries;
    old = k.old;
    room = k.room m;
    exact = k.exact m;
  }

  pub turned_carries : (p p' : List ℤ) (w w' : List ℕ) (h e r : ℕ) → h < length l → Turned t l marks h e r p w p' w' → Carries t l marks h e (h + 1) r p w p' w'
  turned_carries p p' w w' h e r b k = record {
    edges = λ at initial p₀ w₀ round done c. (
      turned_edges t l marks p₀ w₀ at initial round p w h e done b c r p' w' k,
      turned_count t l marks p₀ w₀ at initial round p w h e done b c r p' w' k,
    );
  }

  pub going_on : (p p' : List ℤ) (w w' : List ℕ) (h e h' e' : ℕ) → Going t l marks p w h e → Carries t l marks h e h' e' p w p' w' → Going t l marks p' w' h' e'
  going_on p p' w w' h e h' e' g c =
      let x = c.edges g.at g.initial g.p₀ g.w₀ g.round g.done g.counted in
      record { at = g.at; initial = g.initial; p₀ = g.p₀; w₀ = g.w₀; round = g.round; done = x.0; counted = x.1 }

  pub carries_then : (p p' p'' : List ℤ) (w w' w'' : List ℕ) (h e h' e' h'' e'' : ℕ) → Carries t l marks h e h' e' p w p' w' → Carries t l marks h' e' h'' e'' p' w' p'' w'' → Carries t l marks h e h'' e'' p w p'' w''
  carries_then p p' p'' w w' w'' h e h' e' h'' e'' a b = record {
    edges = λ at initial p₀ w₀ round done c. let x = a.edges at initial p₀ w₀ round done c in b.edges at initial p₀ w₀ round x.0 x.1;
  }

  pub carries_none : (p : List ℤ) (w : List ℕ) (h e : ℕ) → Carries t l marks h e h e p w p w
  carries_none p w h e = record { edges = λ at initial p₀ w₀ round done c. (done, c) }

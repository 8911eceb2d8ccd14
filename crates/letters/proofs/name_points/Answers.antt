-- `letters::name_points` meets its contract: filled and put right, or nothing. Assumes nothing.
use mathlib.Core.List.{List}
use mathlib.Core.Path.{◌≡◌}
use Prim.Native.Nat.{ℕ, ◌+◌, ◌/◌, ◌≤◌}
use native.Mathlib.Omega.{arith}
use lib.ListN.{length}
use Rattle.topology.specs.Shape.{quads}
use Rattle.topology.specs.HalfEdge.{edge_count}
use Rattle.refinedfaces.specs.Refined.{refined_vertices}
use Rattle.std.proofs.Common.{rules}
use Rattle.tables.proofs.Written.{written_fill}
use Rattle.letters.specs.Letters.{Nameable}
use Rattle.letters.proofs.Letters.{if_asked}
use Rattle.letters.proofs.Boundary.{points-named}
use Rattle.letters.proofs.name_points.Goals as goal

-- the places of the first face, and behind the last
record Places (faces marks work letters : List ℕ) (edges : ℕ) : Type 0 where
  nameable : Nameable faces marks work letters
  first : length marks + edges ≡ length marks + edge_count quads faces
  end : length marks + edges + length faces / 4 ≡ refined_vertices quads (length marks) faces
  room : length marks + edges + length faces / 4 ≤ length letters

places : (faces marks work letters : List ℕ) (edges : ℕ) → Nameable faces marks work letters → edges ≡ edge_count quads faces → Places faces marks work letters edges
unfolding quads
places faces marks work letters edges p e =
    let r = p.room in
    record { nameable = p; first = omega arith; end = omega arith; room = omega arith }

pub slice_bounds-fill-end-then-with_letters : goal.slice_bounds-fill-end-then-with_letters
slice_bounds-fill-end-then-with_letters c =
    let p = c.requires c.if-with_letters.true in
    let r = (places _ _ _ _ _ p.0 p.1).room in
    search rules

pub returns-then-with_letters : goal.returns-then-with_letters
returns-then-with_letters c =
    let h = c.requires c.if-with_letters.true in
    let p = places _ _ _ _ _ h.0 h.1 in
    if_asked c.args.with_letters _ _ _ _ _ c.if-with_letters.true
    (points-named _ _ p.nameable.net _ _ c.name_boundary.ensures _ _ _ _ p.first p.end
    (written_fill _ _ _ 67 _ _ (search rules) (search rules) (c.fill.ensures.after (search rules)))
    (written_fill _ _ _ 68 _ _ (search rules) (search rules) (c.fill-then-with_letters.ensures.after (search rules))))

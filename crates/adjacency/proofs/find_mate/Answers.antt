-- `find_mate` meets its contract: a mate is the first side the other way. Assumes nothing.
use Prim.Native.Nat.{ℕ}
use mathlib.Core.Path.{ap, ◌∙◌}
use lib.ListN.{length, get_or}
use Rattle.search.specs.Search.{first}
use Rattle.polygons.specs.Polygons.{shape_of}
use Rattle.adjacency.specs.Chains.{side}
use Rattle.adjacency.proofs.Sides.{mate-side}
use Rattle.adjacency.proofs.find_mate.Goals as goal

pub returns : goal.returns
returns c =
    let l = c.args.faces.now in
    c.find_side.ensures ∙ ap (λ (a : ℕ). first (side (shape_of c.args.sides.now) l a (get_or l c.args.h 0)) (length l)) c.entered-a.ensures ∙ mate-side (shape_of c.args.sides.now) l c.args.h

-- `first_non_manifold` meets its contract. Assumes nothing.
use mathlib.Core.Path.{refl}
use native.Mathlib.Omega.{arith}
use Rattle.std.proofs.Common.{rules, tests}
use Rattle.std.proofs.lemmas.Iterator.{YieldsList-from_range}
use Rattle.std.proofs.lemmas.Iterator.Search.{find_from_yields_List}
use Rattle.search.proofs.Found.{found_find}
use Rattle.polygons.specs.Polygons.{shape_of}
use Rattle.refusals.specs.Refusals.{non_manifold}
use Rattle.manifold.proofs.first_non_manifold.Goals as goal

pub returns : goal.returns
returns c = found_find (non_manifold (shape_of c.args.vertices.mesh.sides.now) c.args.vertices.mesh.faces.now) c.args.vertices.count _ (find_from_yields_List (non_manifold (shape_of c.args.vertices.mesh.sides.now) c.args.vertices.mesh.faces.now) _ _ c.find.result c.find.ensures.ran (YieldsList-from_range 0 c.args.vertices.count c.args.vertices.count refl (omega arith)) (λ x b q k. search (rules, tests)))

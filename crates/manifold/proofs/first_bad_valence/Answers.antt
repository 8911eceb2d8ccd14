-- `first_bad_valence` meets its contract. Assumes nothing.
use mathlib.Core.Path.{refl}
use native.Mathlib.Omega.{arith}
use Rattle.std.proofs.Common.{rules, tests}
use Rattle.std.proofs.lemmas.Iterator.{YieldsList-from_range}
use Rattle.std.proofs.lemmas.Iterator.Search.{find_from_yields_List}
use Rattle.search.proofs.Found.{found_find}
use Rattle.polygons.specs.Polygons.{shape_of}
use Rattle.refusals.specs.Refusals.{bad_valence}
use Rattle.manifold.proofs.first_bad_valence.Goals as goal

pub returns : goal.returns
returns c = found_find (bad_valence (shape_of c.args.vertices.mesh.sides.now) c.args.vertices.mesh.faces.now) c.args.vertices.count _ (find_from_yields_List (bad_valence (shape_of c.args.vertices.mesh.sides.now) c.args.vertices.mesh.faces.now) _ _ c.find.result c.find.ensures.ran (YieldsList-from_range 0 c.args.vertices.count c.args.vertices.count refl (omega arith)) (λ x b q k. search (rules, tests)))

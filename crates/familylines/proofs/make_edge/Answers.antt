-- `make_edge` meets its contract. Assumes nothing.
use mathlib.Core.Path.{refl, ◌∙◌}
use native.Mathlib.Omega.{arith}
use borrow.Author.Rules.{rules}
use mir.Syntax.{w32, w64}
use mir.Val.{SFits}
use mir.Facts.{to_z-of_z}
use Rattle.coordinates.proofs.Points.{put_point_is}
use Rattle.edgetable.specs.EdgeTable.{met}
use Rattle.edgetable.proofs.EdgeTable.{exact_small}
use Rattle.familylines.specs.Steps.{Place}
use Rattle.familylines.proofs.Going.{place_now, turned_carries}
use Rattle.familylines.proofs.Line.{line_exact, small₀, small₁, small₂, rounded-zero}
use Rattle.familylines.proofs.make_edge.Goals as goal

pub rounded_plain-x-requires : goal.rounded_plain-x-requires
rounded_plain-x-requires c =
    let place : Place c.args.t c.args.faces.now c.args.marks.now c.args.points.now c.args.work.now c.args.h c.args.edges = place_now _ _ _ _ _ _ _ c.requires.0 c.requires.1.ends.lt c.requires.1.new in
    let fits : SFits w64 c.interior_exact-e.result.x × SFits w64 c.interior_exact-e.result.y × SFits w64 c.interior_exact-e.result.z = let k = c.interior_exact-e.type_inv in (search (rules, k), search (rules, k), search (rules, k.1)) in
    let r = c.interior_exact-e.result in
    let fx : SFits w64 r.x = fits.0 in
    simp to_z-of_z (small₀ _ _ _ _ _ _ _ _ _ _ _ place c.requires.1 r.x r.y r.z c.interior_exact-e.ensures)

pub rounded_plain-y-requires : goal.rounded_plain-y-requires
rounded_plain-y-requires c =
    let place : Place c.args.t c.args.faces.now c.args.marks.now c.args.points.now c.args.work.now c.args.h c.args.edges = place_now _ _ _ _ _ _ _ c.requires.0 c.requires.1.ends.lt c.requires.1.new in
    let fits : SFits w64 c.interior_exact-e.result.x × SFits w64 c.interior_exact-e.result.y × SFits w64 c.interior_exact-e.result.z = let k = c.interior_exact-e.type_inv in (search (rules, k), search (rules, k), search (rules, k.1)) in
    let r = c.interior_exact-e.result in
    let fy : SFits w64 r.y = fits.1 in
    simp to_z-of_z (small₁ _ _ _ _ _ _ _ _ _ _ _ place c.requires.1 r.x r.y r.z c.interior_exact-e.ensures)

pub rounded_plain-z-requires : goal.rounded_plain-z-requires
rounded_plain-z-requires c =
    let place : Place c.args.t c.args.faces.now c.args.marks.now c.args.points.now c.args.work.now c.args.h c.args.edges = place_now _ _ _ _ _ _ _ c.requires.0 c.requires.1.ends.lt c.requires.1.new in
    let fits : SFits w64 c.interior_exact-e.result.x × SFits w64 c.interior_exact-e.result.y × SFits w64 c.interior_exact-e.result.z = let k = c.interior_exact-e.type_inv in (search (rules, k), search (rules, k), search (rules, k.1)) in
    let r = c.interior_exact-e.result in
    let fz : SFits w64 r.z = fits.2 in
    simp to_z-of_z (small₂ _ _ _ _ _ _ _ _ _ _ _ place c.requires.1 r.x r.y r.z c.interior_exact-e.ensures)

pub overflow_add-v : goal.overflow_add-v
overflow_add-v c =
    let place : Place c.args.t c.args.faces.now c.args.marks.now c.args.points.now c.args.work.now c.args.h c.args.edges = place_now _ _ _ _ _ _ _ c.requires.0 c.requires.1.ends.lt c.requires.1.new in
    let k = place in search rules

pub put_point-requires : goal.put_point-requires
put_point-requires c =
    let place : Place c.args.t c.args.faces.now c.args.marks.now c.args.points.now c.args.work.now c.args.h c.args.edges = place_now _ _ _ _ _ _ _ c.requires.0 c.requires.1.ends.lt c.requires.1.new in
    let k = place in search rules

pub store_edge-requires-clause-n_bound : goal.store_edge-requires-clause-n_bound
store_edge-requires-clause-n_bound c =
    let place : Place c.args.t c.args.faces.now c.args.marks.now c.args.points.now c.args.work.now c.args.h c.args.edges = place_now _ _ _ _ _ _ _ c.requires.0 c.requires.1.ends.lt c.requires.1.new in
    let fits : SFits w64 c.interior_exact-e.result.x × SFits w64 c.interior_exact-e.result.y × SFits w64 c.interior_exact-e.result.z = let k = c.interior_exact-e.type_inv in (search (rules, k), search (rules, k), search (rules, k.1)) in
    let r = c.interior_exact-e.result in
    let fx : SFits w64 r.x = fits.0 in
    let fy : SFits w64 r.y = fits.1 in
    let fz : SFits w64 r.z = fits.2 in
    let k = line_exact _ _ _ _ _ _ _ _ _ _ _ place c.requires.1 r.x r.y r.z c.interior_exact-e.ensures in
    let m = place.ready.table.sides.few in
    let a = place.below in
    let b = place.lt in
    let d = place.entries in (omega arith, omega arith, omega arith)

pub store_edge-requires-clause-h_in_bounds : goal.store_edge-requires-clause-h_in_bounds
store_edge-requires-clause-h_in_bounds c =
    let place : Place c.args.t c.args.faces.now c.args.marks.now c.args.points.now c.args.work.now c.args.h c.args.edges = place_now _ _ _ _ _ _ _ c.requires.0 c.requires.1.ends.lt c.requires.1.new in
    let fits : SFits w64 c.interior_exact-e.result.x × SFits w64 c.interior_exact-e.result.y × SFits w64 c.interior_exact-e.result.z = let k = c.interior_exact-e.type_inv in (search (rules, k), search (rules, k), search (rules, k.1)) in
    let r = c.interior_exact-e.result in
    let fx : SFits w64 r.x = fits.0 in
    let fy : SFits w64 r.y = fits.1 in
    let fz : SFits w64 r.z = fits.2 in
    let k = line_exact _ _ _ _ _ _ _ _ _ _ _ place c.requires.1 r.x r.y r.z c.interior_exact-e.ensures in
    let m = place.ready.table.sides.few in
    let a = place.below in
    let b = place.lt in
    let d = place.entries in (omega arith, place.exact)

pub store_edge-requires-clause-x_bound : goal.store_edge-requires-clause-x_bound
store_edge-requires-clause-x_bound c =
    let place : Place c.args.t c.args.faces.now c.args.marks.now c.args.points.now c.args.work.now c.args.h c.args.edges = place_now _ _ _ _ _ _ _ c.requires.0 c.requires.1.ends.lt c.requires.1.new in
    let fits : SFits w64 c.interior_exact-e.result.x × SFits w64 c.interior_exact-e.result.y × SFits w64 c.interior_exact-e.result.z = let k = c.interior_exact-e.type_inv in (search (rules, k), search (rules, k), search (rules, k.1)) in
    let r = c.interior_exact-e.result in
    let fx : SFits w64 r.x = fits.0 in
    let fy : SFits w64 r.y = fits.1 in
    let fz : SFits w64 r.z = fits.2 in
    let k = line_exact _ _ _ _ _ _ _ _ _ _ _ place c.requires.1 r.x r.y r.z c.interior_exact-e.ensures in
    let m = place.ready.table.sides.few in
    let a = place.below in
    let b = place.lt in
    let d = place.entries in exact_small c.args.t place.low _ _ 0 _ r.x r.y r.z k.0 k.1

pub overflow_add-result : goal.overflow_add-result
overflow_add-result c =
    let place : Place c.args.t c.args.faces.now c.args.marks.now c.args.points.now c.args.work.now c.args.h c.args.edges = place_now _ _ _ _ _ _ _ c.requires.0 c.requires.1.ends.lt c.requires.1.new in
    let k = place in search rules

pub returns : goal.returns
returns c =
    let place : Place c.args.t c.args.faces.now c.args.marks.now c.args.points.now c.args.work.now c.args.h c.args.edges = place_now _ _ _ _ _ _ _ c.requires.0 c.requires.1.ends.lt c.requires.1.new in
    let fits : SFits w64 c.interior_exact-e.result.x × SFits w64 c.interior_exact-e.result.y × SFits w64 c.interior_exact-e.result.z = let k = c.interior_exact-e.type_inv in (search (rules, k), search (rules, k), search (rules, k.1)) in
    let r = c.interior_exact-e.result in
    let fx : SFits w64 r.x = fits.0 in
    let fy : SFits w64 r.y = fits.1 in
    let fz : SFits w64 r.z = fits.2 in
    let k = line_exact _ _ _ _ _ _ _ _ _ _ _ place c.requires.1 r.x r.y r.z c.interior_exact-e.ensures in
    let f₁ : SFits w32 c.rounded_plain-x.result = search rules in
    let f₂ : SFits w32 c.rounded_plain-y.result = search rules in
    let f₃ : SFits w32 c.rounded_plain-z.result = search rules in
    turned_carries _ _ _ _ _ _ _ _ _ _ c.requires.1.ends.lt (met 0 r.x r.y r.z c.requires.1.new refl k.0 k.1
    (put_point_is _ _ _ c.rounded_plain-x.result c.rounded_plain-y.result c.rounded_plain-z.result _ _ _ (simp to_z-of_z at c.put_point.ensures)
    (simp to_z-of_z at c.rounded_plain-x.ensures ∙ rounded-zero c.args.t r.x)
    (simp to_z-of_z at c.rounded_plain-y.ensures ∙ rounded-zero c.args.t r.y)
    (simp to_z-of_z at c.rounded_plain-z.ensures ∙ rounded-zero c.args.t r.z))
    c.store_edge.ensures)

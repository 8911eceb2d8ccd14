-- `fan_point` meets its contract. Assumes nothing.
use mathlib.Core.Path.{◌≡◌, ◌∙◌}
use mathlib.Core.List.{List}
use Prim.Native.Nat.{ℕ}
use native.Mathlib.Omega.{arith}
use Rattle.curve.specs.Weights.{tension}
use Rattle.topology.specs.Shape.{quads}
use Rattle.topology.specs.HalfEdge.{from}
use Rattle.topology.specs.Boundary.{OnBoundary, along, back}
use Rattle.topology.specs.Manifold.{Manifold}
use Rattle.topology.proofs.Boundary.{boundary_from_on, along_on, back_on}
use Rattle.ringsums.specs.declared.Fan.{Fan}
use Rattle.extrapolation.specs.Gathered.{Gathered}
use Rattle.extrapolation.proofs.Turning.{open_fan, gathered_back, fan_in}
use Rattle.extrapolation.proofs.Extrapolated.{extrapolated_small}
use Rattle.virtualpoints.proofs.Rings.{fan_sizes, count_is, fan_made}
use Rattle.virtualpoints.proofs.fan_point.Goals as goal
use Rattle.virtualpoints.proofs.fan_point.Goals.{After-fan_start-f}

-- the fan starts on the boundary
on_s : (c : After-fan_start-f) → OnBoundary quads c.args.mesh.faces.now c.fan_start-f.result.side
on_s c = let e = c.fan_start-f.ensures.side in rw e (boundary_from_on quads c.args.mesh.faces.now (from c.args.mesh.faces.now c.args.h) c.requires.h_in_bounds)

-- and so do those of its last and its first neighbour
module _ (v : ℕ) (l : List ℕ) (ok : Manifold quads v l) (s : ℕ) (o : OnBoundary quads l s) where
  on_e : (f : Fan) → Gathered l s f → (e : ℕ) → e ≡ quads.prev f.last → OnBoundary quads l e
  on_e f w e q = let x : e ≡ back quads l s = q ∙ gathered_back v l ok s f w o in rw x (back_on quads v l ok s o)

  on_d : (d : ℕ) → d ≡ along quads l s → OnBoundary quads l d
  on_d d x = rw x (along_on quads v l ok s o)

pub extrapolated_from-p-requires : goal.extrapolated_from-p-requires
extrapolated_from-p-requires c =
    let r = c.requires.ready in
    let l = c.args.mesh.faces.now in
    let p = c.requires.points.0 in
    let w = c.gather.ensures in
    record { points = (p, open_fan r.vertices l r.net c.fan_start-f.result.side _ w (on_s (goal.at.extrapolated_from-p-requires c).After-fan_start-f), fan_in r.vertices l r.net c.fan_start-f.result.side _ w c.args.points.now p) }

pub extrapolated_point-q-requires-clause-points : goal.extrapolated_point-q-requires-clause-points
extrapolated_point-q-requires-clause-points c =
    let r = c.requires.ready in
    let o = on_s (goal.at.extrapolated_point-q-requires-clause-points c).After-fan_start-f in
    (c.requires.points.0, on_e r.vertices c.args.mesh.faces.now r.net c.fan_start-f.result.side o _ c.gather.ensures c.prev_side-e.result c.prev_side-e.ensures)

pub extrapolated_point-r-requires-clause-points : goal.extrapolated_point-r-requires-clause-points
extrapolated_point-r-requires-clause-points c =
    let r = c.requires.ready in
    let o = on_s (goal.at.extrapolated_point-r-requires-clause-points c).After-fan_start-f in
    (c.requires.points.0, on_d r.vertices c.args.mesh.faces.now r.net c.fan_start-f.result.side o c.along-d.result c.along-d.ensures)

pub fan_sum-requires-clause-within : goal.fan_sum-requires-clause-within
fan_sum-requires-clause-within c =
    let d = goal.at.fan_sum-requires-clause-within c in
    let r = c.requires.ready in
    let o = on_e r.vertices c.args.mesh.faces.now r.net c.fan_start-f.result.side (on_s d.After-fan_start-f) _ c.gather.ensures c.prev_side-e.result c.prev_side-e.ensures in
    let l = c.args.mesh.faces.now in
    let p = c.requires.points in
    let es = c.fan_start-f.ensures.side in
    let ej = c.fan_start-f.ensures.place c.requires.h_in_bounds in
    let k = fan_sizes r.vertices l r.net c.args.h p.1 p.2 c.requires.h_in_bounds in
    let n = count_is r.vertices l r.net c.args.h p.1 p.2 c.requires.h_in_bounds c.fan_start-f.result.side _ es (c.gather.ensures.circuit.whole (on_s d.After-fan_start-f)) in
    let ec = c.start_of-c.ensures in
    (p.0.bounded, omega arith, omega arith, omega arith, rw ec (p.0.room c.prev_side-e.result o.lt), p.3)

pub fan_sum-requires-clause-fan_in : goal.fan_sum-requires-clause-fan_in
fan_sum-requires-clause-fan_in c = let r = c.requires.ready in fan_in r.vertices c.args.mesh.faces.now r.net c.fan_start-f.result.side _ c.gather.ensures c.args.points.now c.requires.points.0

pub fan_sum-requires-clause-extrapolated : goal.fan_sum-requires-clause-extrapolated
fan_sum-requires-clause-extrapolated c =
    let d = goal.at.fan_sum-requires-clause-extrapolated c in
    let r = c.requires.ready in
    let l = c.args.mesh.faces.now in
    let t = c.args.points.now in
    let b = c.requires.points.0.bounded in
    let x₁ = c.extrapolated_from-p in
    let x₂ = c.extrapolated_point-q in
    let x₃ = c.extrapolated_point-r in (
      extrapolated_small r.vertices l r.net c.fan_start-f.result.side (on_s d.After-fan_start-f) t b x₁.result x₁.ensures,
      extrapolated_small r.vertices l r.net c.prev_side-e.result (on_e r.vertices c.args.mesh.faces.now r.net c.fan_start-f.result.side (on_s d.After-fan_start-f) _ c.gather.ensures c.prev_side-e.result c.prev_side-e.ensures) t b x₂.result x₂.ensures,
      extrapolated_small r.vertices l r.net c.along-d.result (on_d r.vertices c.args.mesh.faces.now r.net c.fan_start-f.result.side (on_s d.After-fan_start-f) c.along-d.result c.along-d.ensures) t b x₃.result x₃.ensures,
    )

pub returns : goal.returns
returns c =
    let r = c.requires.ready in
    let w = c.gather.ensures in
    let x₁ = c.extrapolated_from-p in
    let x₂ = c.extrapolated_point-q in
    let x₃ = c.extrapolated_point-r in
    let z = c.fan_sum in
    let f = c.fan_start-f in
    let made =
    fan_made r.vertices c.args.mesh.faces.now r.net c.args.h c.requires.points.1 c.requires.points.2 c.requires.h_in_bounds f.result.side _ f.result.place _ c.prev_side-e.result c.start_of-c.result c.along-d.result
    f.ensures.side (f.ensures.place c.requires.h_in_bounds) (w.circuit.whole (on_s (goal.at.returns c).After-fan_start-f)) w.last c.prev_side-e.ensures c.start_of-c.ensures c.along-d.ensures _ _ w.filled (tension c.args.t) c.args.points.now in
    record {
      on₀ = made 0 z.result.x x₁.result.x x₂.result.x x₃.result.x x₁.ensures.on₀ x₂.ensures.on₀ x₃.ensures.on₀ z.ensures.on₀;
      on₁ = made 1 z.result.y x₁.result.y x₂.result.y x₃.result.y x₁.ensures.on₁ x₂.ensures.on₁ x₃.ensures.on₁ z.ensures.on₁;
      on₂ = made 2 z.result.z x₁.result.z x₂.result.z x₃.result.z x₁.ensures.on₂ x₂.ensures.on₂ x₃.ensures.on₂ z.ensures.on₂;
    }

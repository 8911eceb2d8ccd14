-- `wide_edge` meets its contract. Assumes nothing.
use mathlib.Core.Path.{◌≡◌, refl, ap, ◌∙◌}
use mathlib.Core.List.{List}
use Prim.Native.Nat.{ℕ, ◌≤◌, ◌<◌}
use native.Mathlib.Omega.{arith}
use borrow.Author.Rules.{rules}
use lib.IntN.{ℤ}
use lib.ListN.{length}
use Rattle.curve.specs.Weights.{tension}
use Rattle.rings.specs.Scales.{virtual_range}
use Rattle.rules.specs.Numerators.{inner_edge_z}
use Rattle.topology.specs.Shape.{quads}
use Rattle.topology.specs.HalfEdge.{mate}
use Rattle.topology.specs.Manifold.{Manifold}
use Rattle.topology.proofs.Mates.{mate-back}
use Rattle.nets.specs.Net.{axis}
use Rattle.schemelaws.specs.Numerators.{virtual_at_z}
use Rattle.coordinates.specs.declared.Axes.{Axes}
use Rattle.coordinates.specs.Points.{InTable, Points, OnAxes, Bounded}
use Rattle.exactedges.proofs.Plain.{start-corner, end_corner, corner-room}
use Rattle.exactedges.proofs.Wide.{virtual_small, wide_made}
use Rattle.edgepoints.proofs.wide_edge.Goals as goal

-- the mate of the inner half-edge h has one too
mated : (v : ℕ) (l : List ℕ) → Manifold quads v l → (h m : ℕ) → h < length l → m ≡ mate quads l h → m < length l → mate quads l m < length l
mated v l ok h m k e b =
    let i : mate quads l h < length l = omega arith in
    let x = ap (mate quads l) e ∙ mate-back quads v l ok.oriented h k i in
    omega arith

-- virtual points are small
small : (t : ℕ) → t ≤ 4 → (v : ℕ) (l : List ℕ) → Manifold quads v l → (points : List ℤ) → Points l points → (h : ℕ) → h < length l → mate quads l h < length l → (p : Axes ℤ)
    → OnAxes (λ (a : ℕ). virtual_at_z (tension t) l (axis points a) h) p.x p.y p.z → Bounded (virtual_range (tension t)) p
small t low v l ok points room h k m p o = record {
  on₀ = virtual_small t low v l ok points room 0 h k m p.x o.on₀;
  on₁ = virtual_small t low v l ok points room 1 h k m p.y o.on₁;
  on₂ = virtual_small t low v l ok points room 2 h k m p.z o.on₂;
}

pub end_virtual-w-requires-clause-h_in_bounds : goal.end_virtual-w-requires-clause-h_in_bounds
end_virtual-w-requires-clause-h_in_bounds c =
    let b = c.requires.h_in_bounds in
    (b.2, mated c.requires.ready.vertices _ c.requires.ready.net _ _ b.0 b.1 b.2, b.3)

pub on_axes-requires : goal.on_axes-requires
on_axes-requires c =
    let b = c.requires.h_in_bounds in
    let r = c.requires.ready in
    let room = c.requires.points.0 in
    let within = room.bounded in
    let inner : mate quads c.args.mesh.faces.now c.args.h < length c.args.mesh.faces.now = omega (arith, b.1) in
    let start_in : InTable c.args.points.now c.start_of-p.result = corner-room _ _ room _ (start-corner r.vertices _ r.net _ _ b.0 c.start_of-p.ensures) in
    let end_in : InTable c.args.points.now c.end_of-q.result = corner-room _ _ room _ (end_corner r.vertices _ r.net _ _ b.0 c.end_of-q.ensures) in
    let first = small c.args.t b.3 r.vertices _ r.net _ room _ b.0 inner c.end_virtual-u.result c.end_virtual-u.ensures in
    let second = small c.args.t b.3 r.vertices _ r.net _ room _ b.2 (mated r.vertices _ r.net _ _ b.0 b.1 b.2) c.end_virtual-w.result c.end_virtual-w.ensures in
    search rules

pub returns : goal.returns
returns c =
    let r = c.on_axes.result in
    let u = c.end_virtual-u in
    let w = c.end_virtual-w in
    let x : r.x ≡ inner_edge_z (tension c.args.t) (axis c.args.points.now 0 c.start_of-p.result) (axis c.args.points.now 0 c.end_of-q.result) u.result.x w.result.x = search rules in
    let y : r.y ≡ inner_edge_z (tension c.args.t) (axis c.args.points.now 1 c.start_of-p.result) (axis c.args.points.now 1 c.end_of-q.result) u.result.y w.result.y = search rules in
    let z : r.z ≡ inner_edge_z (tension c.args.t) (axis c.args.points.now 2 c.start_of-p.result) (axis c.args.points.now 2 c.end_of-q.result) u.result.z w.result.z = search rules in
    let made = wide_made c.args.t c.requires.h_in_bounds.3 c.args.mesh.faces.now c.args.h c.args.m c.requires.h_in_bounds.1 _ _ c.start_of-p.ensures c.end_of-q.ensures in (
      refl,
      record {
        on₀ = made (axis c.args.points.now 0) u.result.x w.result.x r.x u.ensures.on₀ w.ensures.on₀ x;
        on₁ = made (axis c.args.points.now 1) u.result.y w.result.y r.y u.ensures.on₁ w.ensures.on₁ y;
        on₂ = made (axis c.args.points.now 2) u.result.z w.result.z r.z u.ensures.on₂ w.ensures.on₂ z;
      },
    )

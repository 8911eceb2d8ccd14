-- `extrapolated_on` meets its contract. Assumes nothing.
use mathlib.Core.Path.{◌≡◌, ap, ◌∙◌}
use mathlib.Core.List.{List}
use Prim.Native.Nat.{ℕ, suc, ◌+◌, ◌-◌, ◌≤◌, ◌<◌}
use native.Mathlib.Nat.{div-le_self}
use native.Mathlib.Omega.{arith}
use borrow.Author.Rules.{rules}
use borrow.Rule.Slice.PartMut.{mid_of}
use lib.IntN.{nat_abs}
use lib.ListN.{length, get_or, drop}
use Rattle.std.proofs.lemmas.Grind.{get_or_after_one}
use mir.Syntax.{w64}
use mir.Val.{SFits}
use mir.Facts.{to_z-of_z}
use Rattle.std.proofs.Common.{length-drop, length-take, get_or-take}
use Rattle.rings.specs.Scales.{extrapolated_scale}
use Rattle.topology.specs.HalfEdge.{from}
use Rattle.nets.specs.Net.{axis}
use Rattle.coordinates.proofs.Values.{read_small}
use Rattle.extrapolation.proofs.Extrapolated.{corner_made, mean_made}
use Rattle.ringsums.proofs.Sums.{vertices_small}
use Rattle.extrapolation.proofs.extrapolated_on.Goals as goal
use Rattle.extrapolation.proofs.extrapolated_on.Goals.{After-coordinate-p}

-- the neighbours of a fan after the first
abbrev rest : ℕ → List ℕ → List ℕ
rest m L = mid_of 1 (m - 1) L

rest_size : (m : ℕ) (L : List ℕ) → m ≤ length L → length (rest m L) ≡ m - 1
rest_size m L h = simp (length-take, length-drop) (omega arith)

rest_at : (m : ℕ) (L : List ℕ) → m ≤ length L → (i : ℕ) → i < m - 1 → get_or (rest m L) i 0 ≡ get_or L (suc i) 0
rest_at m L h i b = let e : 1 + i ≡ suc i = omega arith in get_or-take (m - 1) (drop 1 L) i 0 b ∙ get_or_after_one L i 0 ∙ ap (λ (j : ℕ). get_or L j 0) e

own : (c : After-coordinate-p) → c.coordinate-p.result ≡ axis c.args.points.now c.args.a (from c.args.faces.now c.args.s)
own c = c.coordinate-p.ensures ∙ ap (axis c.args.points.now c.args.a) c.start_of.ensures

pub reflected-requires : goal.reflected-requires
reflected-requires c =
    let f : SFits w64 c.coordinate-p.result = search rules in
    let g : SFits w64 c.coordinate-q.result = search rules in
    let a = read_small _ _ _ c.coordinate-p.result c.requires.points.0.bounded c.coordinate-p.ensures in
    let b = read_small _ _ _ c.coordinate-q.result c.requires.points.0.bounded c.coordinate-q.ensures in
    simp to_z-of_z (omega arith, omega arith, omega arith)

pub returns-then-fan-eq1 : goal.returns-then-fan-eq1
returns-then-fan-eq1 c =
    let f : SFits w64 c.coordinate-p.result = search rules in
    let g : SFits w64 c.coordinate-q.result = search rules in
    let h : SFits w64 c.reflected.result = search rules in
    simp to_z-of_z
    (corner_made c.args.faces.now c.args.s c.args.fan.now c.requires.points.1 c.args.points.now c.args.a c.coordinate-p.result c.coordinate-q.result c.reflected.result (own (goal.at.returns-then-fan-eq1 c).After-coordinate-p)
    c.if-fan-eq1.true c.coordinate-q.ensures (simp to_z-of_z at c.reflected.ensures))

pub vertex_sum-q-requires : goal.vertex_sum-q-requires
vertex_sum-q-requires c =
    let o = c.requires.points.1 in
    let e = o.filled.eight_l in
    let n = rest_size c.args.fan.now.count c.args.fan.now.neighbours (omega arith) in (
      c.requires.points.0.bounded,
      c.requires.a_bound.0,
      omega arith,
      record { room = λ i b. let q = rest_at c.args.fan.now.count c.args.fan.now.neighbours (omega arith) i (omega arith) in rw q (c.requires.a_bound.1.neighbours.room (suc i) (omega arith)) },
    )

pub reflected-requires-2 : goal.reflected-requires-2
reflected-requires-2 c =
    let f : SFits w64 c.coordinate-p.result = search rules in
    let g : SFits w64 c.vertex_sum-q.result = search rules in
    let a = read_small _ _ _ c.coordinate-p.result c.requires.points.0.bounded c.coordinate-p.ensures in
    let o = c.requires.points.1 in
    let d = o.filled.eight_l in
    let n = rest_size c.args.fan.now.count c.args.fan.now.neighbours (omega arith) in
    let b = vertices_small c.args.points.now c.args.a (rest c.args.fan.now.count c.args.fan.now.neighbours) (length (rest c.args.fan.now.count c.args.fan.now.neighbours)) c.requires.points.0.bounded in
    let e = ap nat_abs c.vertex_sum-q.ensures in
    let q = div-le_self extrapolated_scale (c.args.fan.now.count - 1) in
    simp to_z-of_z (omega arith, omega arith, q)

pub returns : goal.returns
returns c =
    let f : SFits w64 c.coordinate-p.result = search rules in
    let g : SFits w64 c.vertex_sum-q.result = search rules in
    let h : SFits w64 c.reflected-2.result = search rules in
    let o = c.requires.points.1 in
    let d = o.filled.eight_l in
    let m = c.args.fan.now.count in
    let l = c.args.fan.now.neighbours in
    simp to_z-of_z
    (mean_made c.args.faces.now c.args.s c.args.fan.now o c.args.points.now c.args.a c.coordinate-p.result c.vertex_sum-q.result c.reflected-2.result (own (goal.at.returns c).After-coordinate-p)
    c.if-fan-eq1.false (rest m l) (rest_size m l (omega arith)) (rest_at m l (omega arith)) c.vertex_sum-q.ensures (simp to_z-of_z at c.reflected-2.ensures))

-- `name_side` meets its contract: two letters, or three. Assumes nothing.
use mathlib.Core.Path.{◌≡◌, sym, ap, ◌∙◌}
use Prim.Native.Nat.{◌+◌}
use native.Mathlib.Omega.{arith}
use lib.ListN.{length, length-set}
use Rattle.topology.specs.Shape.{quads}
use Rattle.topology.specs.HalfEdge.{to, mate}
use Rattle.topology.specs.Quads.{across}
use Rattle.pointletters.proofs.FaceLetter.{across_lt}
use Rattle.letters.proofs.Boundary.{Near, tested_boundary, edge_place, edge-room, put_face, near, side-alone, side_and_far}
use Rattle.letters.proofs.name_side.Goals as goal

pub edge_letter-requires : goal.edge_letter-requires
unfolding to
edge_letter-requires c =
    let k = c.requires.first_value.1 in
    let n = c.requires.nameable.net in
    let boundary = tested_boundary _ _ _ _ c.requires.nameable _ k _ _ c.entry_at-entry.ensures.0 c.is_boundary.ensures c.if-not-is_boundary.false in
    record {
      quadrilaterals = (c.requires.nameable.table.sides, k, sym boundary.none);
      h_in_bounds = (n.below c.args.h k, n.below (quads.next c.args.h) (n.shape.next_lt c.args.h k));
    }

pub bounds-letters-place : goal.bounds-letters-place
bounds-letters-place c =
    let k = c.requires.first_value.1 in
    edge-room _ _ _ _ c.requires.nameable c.args.h _ k (edge_place _ _ _ _ c.requires.nameable _ k _ _ c.entry_at-entry.ensures.0 c.number_of.ensures)

pub mate-g-requires : goal.mate-g-requires
mate-g-requires c = across_lt _ c.args.h _ c.requires.nameable.net.shape c.requires.first_value.1 c.across_side.ensures

pub returns-then-g-n : goal.returns-then-g-n
returns-then-g-n c =
    let k = c.requires.first_value.1 in
    let boundary = tested_boundary _ _ _ _ c.requires.nameable _ k _ _ c.entry_at-entry.ensures.0 c.is_boundary.ensures c.if-not-is_boundary.false in
    let place : length c.args.marks.now + c.number_of.result ≡ _ = edge_place _ _ _ _ c.requires.nameable _ k _ _ c.entry_at-entry.ensures.0 c.number_of.ensures in
    let named : Near c.args.mesh.faces.now c.args.marks.now c.args.h c.args.letters.now c.name_face.new.letters = near _ _ _ _ c.requires.nameable _ _ _ _ _ _ boundary place c.edge_letter.ensures c.requires.first_value.0 c.face_of.ensures c.name_face.ensures in
    let far : c.mate-g.result ≡ mate quads c.args.mesh.faces.now (across c.args.h) = c.mate-g.ensures ∙ ap (mate quads _) c.across_side.ensures in
    let long : length c.name_face.new.letters ≡ length c.args.letters.now = c.name_face.auto.letters ∙ length-set c.args.letters.now _ _ in
    side_and_far _ _ _ _ _ named _ _ far (put_face _ _ _ _ c.requires.nameable _ _ _ _ _ _ c.requires.first_value.0 c.if-g-n.true c.face_of-then-g-n.ensures long c.name_face-then-g-n.ensures)

pub returns-else-g-n : goal.returns-else-g-n
returns-else-g-n c =
    let k = c.requires.first_value.1 in
    let boundary = tested_boundary _ _ _ _ c.requires.nameable _ k _ _ c.entry_at-entry.ensures.0 c.is_boundary.ensures c.if-not-is_boundary.false in
    let place : length c.args.marks.now + c.number_of.result ≡ _ = edge_place _ _ _ _ c.requires.nameable _ k _ _ c.entry_at-entry.ensures.0 c.number_of.ensures in
    let named : Near c.args.mesh.faces.now c.args.marks.now c.args.h c.args.letters.now c.name_face.new.letters = near _ _ _ _ c.requires.nameable _ _ _ _ _ _ boundary place c.edge_letter.ensures c.requires.first_value.0 c.face_of.ensures c.name_face.ensures in
    let far : c.mate-g.result ≡ mate quads c.args.mesh.faces.now (across c.args.h) = c.mate-g.ensures ∙ ap (mate quads _) c.across_side.ensures in
    side-alone _ _ _ _ _ named (let b = c.if-g-n.false in omega arith)

-- `rounds::round` meets its contract. Assumes nothing.
use native.Mathlib.Omega.{arith}
use Rattle.nets.specs.Buffers.{buffers}
use Rattle.oneround.proofs.Laws.{made-le, ready, nameable, letters_made, face_ready, family_ready, net_ready, part_start, part_room, refines}
use Rattle.oneround.proofs.round.Goals as goal

pub edge_points-edges-requires-clause-round : goal.edge_points-edges-requires-clause-round
edge_points-edges-requires-clause-round c = ready c.args.t c.args.v c.args.n c.args.at c.args.initial (buffers c.args.points.now c.args.faces.now c.args.marks.now c.args.work.now) c.requires.current

pub name_points-requires : goal.name_points-requires
name_points-requires c = λ a. (nameable c.args.t c.args.v c.args.n c.args.at c.args.initial (buffers c.args.points.now c.args.faces.now c.args.marks.now c.args.work.now) c.requires.current _ _ c.edge_points-edges.ensures.edges c.args.letters.now (c.requires.n_in_bounds a), c.edge_points-edges.ensures.value)

pub overflow_add-count : goal.overflow_add-count
overflow_add-count c =
    let k = made-le c.args.t c.args.v c.args.n c.args.at c.args.initial (buffers c.args.points.now c.args.faces.now c.args.marks.now c.args.work.now) c.requires.current _ c.edge_points-edges.ensures.value in
    let q = c.requires.current.small in
    omega arith

pub overflow_add-count-2 : goal.overflow_add-count-2
overflow_add-count-2 c =
    let k = made-le c.args.t c.args.v c.args.n c.args.at c.args.initial (buffers c.args.points.now c.args.faces.now c.args.marks.now c.args.work.now) c.requires.current _ c.edge_points-edges.ensures.value in
    let q = c.requires.current.small in
    omega arith

pub extend_marks-requires : goal.extend_marks-requires
extend_marks-requires c =
    let k = made-le c.args.t c.args.v c.args.n c.args.at c.args.initial (buffers c.args.points.now c.args.faces.now c.args.marks.now c.args.work.now) c.requires.current _ c.edge_points-edges.ensures.value in
    let q = c.requires.current.small in
    let r = c.requires.current.room_marks in
    (omega arith, omega arith)

pub overflow_add-first : goal.overflow_add-first
overflow_add-first c =
    let k = made-le c.args.t c.args.v c.args.n c.args.at c.args.initial (buffers c.args.points.now c.args.faces.now c.args.marks.now c.args.work.now) c.requires.current _ c.edge_points-edges.ensures.value in
    let q = c.requires.current.small in
    omega arith

pub overflow_mul-first : goal.overflow_mul-first
overflow_mul-first c =
    let k = made-le c.args.t c.args.v c.args.n c.args.at c.args.initial (buffers c.args.points.now c.args.faces.now c.args.marks.now c.args.work.now) c.requires.current _ c.edge_points-edges.ensures.value in
    let q = c.requires.current.small in
    omega arith

pub offset_bounds-points-first : goal.offset_bounds-points-first
offset_bounds-points-first c =
    let k = made-le c.args.t c.args.v c.args.n c.args.at c.args.initial (buffers c.args.points.now c.args.faces.now c.args.marks.now c.args.work.now) c.requires.current _ c.edge_points-edges.ensures.value in
    let q = c.requires.current.small in
    omega arith

pub slice_bounds-face_points-count : goal.slice_bounds-face_points-count
slice_bounds-face_points-count c = part_start c.args.t c.args.v c.args.n c.args.at c.args.initial (buffers c.args.points.now c.args.faces.now c.args.marks.now c.args.work.now) c.requires.current _ _ c.edge_points-edges.ensures.edges _ c.edge_points-edges.ensures.value

pub slice_bounds-face_points-start : goal.slice_bounds-face_points-start
slice_bounds-face_points-start c = part_start c.args.t c.args.v c.args.n c.args.at c.args.initial (buffers c.args.points.now c.args.faces.now c.args.marks.now c.args.work.now) c.requires.current _ _ c.edge_points-edges.ensures.edges _ c.edge_points-edges.ensures.value

pub face_points-requires-clause-face_table : goal.face_points-requires-clause-face_table
face_points-requires-clause-face_table c = (
  face_ready c.args.t c.args.v c.args.n c.args.at c.args.initial (buffers c.args.points.now c.args.faces.now c.args.marks.now c.args.work.now) c.requires.current _ _ c.edge_points-edges.ensures.edges,
  net_ready c.args.t c.args.v c.args.n c.args.at c.args.initial (buffers c.args.points.now c.args.faces.now c.args.marks.now c.args.work.now) c.requires.current _ _ c.edge_points-edges.ensures.edges _ c.edge_points-edges.ensures.value,
  part_room c.args.t c.args.v c.args.n c.args.at c.args.initial (buffers c.args.points.now c.args.faces.now c.args.marks.now c.args.work.now) c.requires.current _ _ c.edge_points-edges.ensures.edges _ c.edge_points-edges.ensures.value,
)

pub face_points-requires-clause-family_table : goal.face_points-requires-clause-family_table
face_points-requires-clause-family_table c = λ y. family_ready c.args.t c.args.v c.args.n c.args.at c.args.initial (buffers c.args.points.now c.args.faces.now c.args.marks.now c.args.work.now) c.requires.current _ _ c.edge_points-edges.ensures.edges (c.requires.after_round y)

pub returns-clause-refines : goal.returns-clause-refines
returns-clause-refines c = refines c.args.t c.args.v c.args.n c.args.at c.args.initial (buffers c.args.points.now c.args.faces.now c.args.marks.now c.args.work.now) c.requires.current _ _ c.edge_points-edges.ensures.edges _ c.edge_points-edges.ensures.value _ _ _ c.face_points.ensures.out_after c.face_points.ensures.faces_after c.extend_marks.ensures

pub returns-clause-written_if : goal.returns-clause-written_if
returns-clause-written_if c = letters_made c.args.t c.args.v c.args.n c.args.at c.args.initial (buffers c.args.points.now c.args.faces.now c.args.marks.now c.args.work.now) c.requires.current _ _ c.edge_points-edges.ensures.edges _ c.edge_points-edges.ensures.value _ _ _ c.name_points.ensures

-- `split_tables` meets its contract: copies, edge numbers, points, faces, marks. Assumes nothing.
use native.Mathlib.Omega.{arith}
use Rattle.nets.specs.Net.{ControlNet, control_net}
use Rattle.nets.specs.Buffers.{Buffers, buffers}
use Rattle.loading.proofs.Laws.{copied_vertices, copied_marks, paired, linked₁, rest₁, numbered_faces, splittable, vertices_split, count-split, count_room, marks_room, marks_split, faces_split}
use Rattle.loading.proofs.split_tables.Goals as goal
use Rattle.loading.proofs.split_tables.Goals.{Start}

-- the drawn net, and the caller's tables as found
abbrev control : Start → ControlNet
control c = control_net c.args.vertices.now c.args.faces.now c.args.sides.now c.args.marks.now

abbrev tables : Start → Buffers
tables c = buffers c.args.out_vertices.now c.args.out_faces.now c.args.out_marks.now c.args.work.now

pub copy-requires : goal.copy-requires
copy-requires c =
    let s = (goal.at.copy-requires c).Start in
    copied_vertices (control s) (tables s) c.requires.loadable c.requires.sides_nonzero

pub copy-requires-2 : goal.copy-requires-2
copy-requires-2 c =
    let s = (goal.at.copy-requires-2 c).Start in
    copied_marks (control s) (tables s) c.requires.loadable c.requires.sides_nonzero

pub number_edges-edges-requires : goal.number_edges-edges-requires
number_edges-edges-requires c =
    let s = (goal.at.number_edges-edges-requires c).Start in
    paired (control s) (tables s) c.requires.loadable c.requires.sides_nonzero

pub new_points-requires-clause-splittable : goal.new_points-requires-clause-splittable
new_points-requires-clause-splittable c =
    let s = (goal.at.new_points-requires-clause-splittable c).Start in splittable (control s) (tables s) c.requires.loadable c.requires.sides_nonzero _ c.copy.ensures

pub new_points-requires-clause-linked : goal.new_points-requires-clause-linked
new_points-requires-clause-linked c =
    let s = (goal.at.new_points-requires-clause-linked c).Start in linked₁ (control s) (tables s) c.requires.loadable c.requires.sides_nonzero _ c.number_edges-edges.ensures.work_after

pub split_faces-requires : goal.split_faces-requires
split_faces-requires c =
    let s = (goal.at.split_faces-requires c).Start in
    numbered_faces (control s) (tables s) c.requires.loadable c.requires.sides_nonzero _ c.number_edges-edges.ensures.work_after _ c.number_edges-edges.ensures.value

pub overflow_add-count : goal.overflow_add-count
overflow_add-count c =
    let s = (goal.at.overflow_add-count c).Start in
    let k = count_room (control s) (tables s) c.requires.loadable c.requires.sides_nonzero _ c.number_edges-edges.ensures.value in
    let f = c.requires.loadable.few in
    omega arith

pub overflow_add-count-2 : goal.overflow_add-count-2
overflow_add-count-2 c =
    let s = (goal.at.overflow_add-count-2 c).Start in
    let k = count_room (control s) (tables s) c.requires.loadable c.requires.sides_nonzero _ c.number_edges-edges.ensures.value in
    let f = c.requires.loadable.few in
    omega arith

pub extend_marks-requires : goal.extend_marks-requires
extend_marks-requires c =
    let s = (goal.at.extend_marks-requires c).Start in
    (omega arith, marks_room (control s) (tables s) c.requires.loadable c.requires.sides_nonzero _ c.number_edges-edges.ensures.value _ c.copy-2.ensures)

pub returns : goal.returns
returns c =
    let s = (goal.at.returns c).Start in
    record {
      count = count-split (control s) (tables s) c.requires.loadable c.requires.sides_nonzero _ c.number_edges-edges.ensures.value;
      vertices = vertices_split (control s) (tables s) c.requires.loadable c.requires.sides_nonzero _ c.copy.ensures _ c.new_points.ensures;
      faces = faces_split (control s) (tables s) c.requires.loadable c.requires.sides_nonzero _ c.split_faces.ensures;
      marks = marks_split (control s) (tables s) c.requires.loadable c.requires.sides_nonzero _ c.number_edges-edges.ensures.value _ c.copy-2.ensures _ c.extend_marks.ensures;
      rest = rest₁ (control s) (tables s) c.requires.loadable c.requires.sides_nonzero _ c.number_edges-edges.ensures.work_after;
    }

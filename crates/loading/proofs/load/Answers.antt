-- `load` meets its contract: the net is copied, or split and its mates found. Assumes nothing.
use mathlib.Core.Path.{refl, sym}
use Prim.Native.Nat.{◌*◌, ◌<◌}
use native.Mathlib.Omega.{arith}
use lib.ListN.{length}
use lib.Seq.{length-take-le}
use Rattle.nets.specs.Net.{ControlNet, control_net}
use Rattle.nets.specs.Buffers.{Buffers, buffers}
use Rattle.loading.proofs.Laws.{copy_vertices, copy_faces, copy_marks, loaded_copy, faces_long, tables_split, loaded-split}
use Rattle.loading.proofs.load.Goals as goal
use Rattle.loading.proofs.load.Goals.{Start, After-split_tables-count}

-- the drawn net, and the caller's tables as found
abbrev control : Start → ControlNet
control c = control_net c.args.vertices.now c.args.faces.now c.args.sides.now c.args.marks.now

abbrev tables : Start → Buffers
tables c = buffers c.args.out_vertices.now c.args.out_faces.now c.args.out_marks.now c.args.work.now

-- there are side counts; the tables that the split leaves
counts : (c : After-split_tables-count) → 0 < length c.args.sides.now
counts c = let e = c.if-sides-eq0.false in omega arith

abbrev left : After-split_tables-count → Buffers
left c = let o = c.split_tables-count.new in buffers o.out_vertices o.out_faces o.out_marks o.work

pub copy-requires : goal.copy-requires
copy-requires c =
    let s = (goal.at.copy-requires c).Start in
    copy_vertices (control s) (tables s) c.requires c.if-sides-eq0.true

pub copy-requires-then-sides-eq0 : goal.copy-requires-then-sides-eq0
copy-requires-then-sides-eq0 c =
    let s = (goal.at.copy-requires-then-sides-eq0 c).Start in
    copy_faces (control s) (tables s) c.requires c.if-sides-eq0.true

pub copy-requires-then-sides-eq0-2 : goal.copy-requires-then-sides-eq0-2
copy-requires-then-sides-eq0-2 c =
    let s = (goal.at.copy-requires-then-sides-eq0-2 c).Start in
    copy_marks (control s) (tables s) c.requires c.if-sides-eq0.true

pub returns-then-sides-eq0 : goal.returns-then-sides-eq0
returns-then-sides-eq0 c =
    let s = (goal.at.returns-then-sides-eq0 c).Start in
    loaded_copy (control s) (tables s) c.requires c.if-sides-eq0.true _ c.copy.ensures c.copy-then-sides-eq0.ensures c.copy-then-sides-eq0-2.ensures refl

pub slice_bounds-link_faces-end : goal.slice_bounds-link_faces-end
slice_bounds-link_faces-end c =
    let s = (goal.at.slice_bounds-link_faces-end c).Start in
    let p = (goal.at.slice_bounds-link_faces-end c).After-split_tables-count in
    let k = faces_long (control s) (tables s) c.requires (counts p) (left p) c.split_tables-count.result c.split_tables-count.ensures c.split_tables-count.auto.work in
    omega arith

pub slice_bounds-link_faces-end-2 : goal.slice_bounds-link_faces-end-2
slice_bounds-link_faces-end-2 c =
    let s = (goal.at.slice_bounds-link_faces-end-2 c).Start in
    let p = (goal.at.slice_bounds-link_faces-end-2 c).After-split_tables-count in
    sym (length-take-le (4 * length c.args.faces.now) (left p).faces (faces_long (control s) (tables s) c.requires (counts p) (left p) c.split_tables-count.result c.split_tables-count.ensures c.split_tables-count.auto.work))

pub link_faces-requires : goal.link_faces-requires
link_faces-requires c =
    let s = (goal.at.link_faces-requires c).Start in
    let p = (goal.at.link_faces-requires c).After-split_tables-count in
    tables_split (control s) (tables s) c.requires (counts p) (left p) c.split_tables-count.result c.split_tables-count.ensures c.split_tables-count.auto.work

pub returns : goal.returns
returns c =
    let s = (goal.at.returns c).Start in
    let p = (goal.at.returns c).After-split_tables-count in
    loaded-split (control s) (tables s) c.requires (counts p) (left p) c.split_tables-count.result c.split_tables-count.ensures c.split_tables-count.auto.work _ c.link_faces.ensures.mate_table_of c.link_faces.ensures.work_unchanged

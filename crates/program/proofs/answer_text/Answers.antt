-- `program::answer_text` meets its contract. Assumes nothing.
use mathlib.Core.Path.{sym}
use native.Mathlib.Omega.{arith}
use lib.Seq.{length-take-le}
use Rattle.printingform.specs.Tables.{answer_room}
use Rattle.programform.proofs.Loaded.{net_handed, refusal_handed}
use Rattle.program.proofs.Refined.{wider}
use Rattle.program.proofs.answer_text.Goals as goal

pub overflow_mul-vertices : goal.overflow_mul-vertices
overflow_mul-vertices c =
    let o = c.read_any.new in
    let handed = net_handed _ _ _ _ _ _ _ o.vertices o.faces o.marks _ c.in-Ok.ensures in
    record { fits = omega (arith, handed.served.vertices) }

pub slice_bounds-vertices-end : goal.slice_bounds-vertices-end
slice_bounds-vertices-end c =
    let o = c.read_any.new in
    let handed = net_handed _ _ _ _ _ _ _ o.vertices o.faces o.marks _ c.in-Ok.ensures in
    omega (arith, handed.served.vertices, c.read_any.auto.vertices)

pub slice_bounds-refine_net-end : goal.slice_bounds-refine_net-end
slice_bounds-refine_net-end c =
    let o = c.read_any.new in
    let handed = net_handed _ _ _ _ _ _ _ o.vertices o.faces o.marks _ c.in-Ok.ensures in
    sym (length-take-le _ _ (omega (arith, handed.served.vertices, c.read_any.auto.vertices)))

pub overflow_mul-faces : goal.overflow_mul-faces
overflow_mul-faces c =
    let o = c.read_any.new in
    let handed = net_handed _ _ _ _ _ _ _ o.vertices o.faces o.marks _ c.in-Ok.ensures in
    record { fits = omega (arith, handed.served.faces) }

pub slice_bounds-faces-end : goal.slice_bounds-faces-end
slice_bounds-faces-end c =
    let o = c.read_any.new in
    let handed = net_handed _ _ _ _ _ _ _ o.vertices o.faces o.marks _ c.in-Ok.ensures in
    omega (arith, handed.served.faces, c.read_any.auto.faces)

pub slice_bounds-refine_net-end-in-Ok : goal.slice_bounds-refine_net-end-in-Ok
slice_bounds-refine_net-end-in-Ok c =
    let o = c.read_any.new in
    let handed = net_handed _ _ _ _ _ _ _ o.vertices o.faces o.marks _ c.in-Ok.ensures in
    sym (length-take-le _ _ (omega (arith, handed.served.faces, c.read_any.auto.faces)))

pub slice_bounds-marks-end : goal.slice_bounds-marks-end
slice_bounds-marks-end c =
    let o = c.read_any.new in
    let handed = net_handed _ _ _ _ _ _ _ o.vertices o.faces o.marks _ c.in-Ok.ensures in
    omega (arith, handed.served.vertices, c.read_any.auto.marks)

pub slice_bounds-refine_net-end-in-Ok-2 : goal.slice_bounds-refine_net-end-in-Ok-2
slice_bounds-refine_net-end-in-Ok-2 c =
    let o = c.read_any.new in
    let handed = net_handed _ _ _ _ _ _ _ o.vertices o.faces o.marks _ c.in-Ok.ensures in
    sym (length-take-le _ _ (omega (arith, handed.served.vertices, c.read_any.auto.marks)))

pub refine_net-requires : goal.refine_net-requires
refine_net-requires c =
    let o = c.read_any.new in
    let handed = net_handed _ _ _ _ _ _ _ o.vertices o.faces o.marks _ c.in-Ok.ensures in
    (handed.limits, c.requires)

pub returns-in-Ok : goal.returns-in-Ok
returns-in-Ok c =
    let o = c.read_any.new in
    let handed = net_handed _ _ _ _ _ _ _ o.vertices o.faces o.marks _ c.in-Ok.ensures in
    wider _ _ _ _ _ answer_room c.refine_net.ensures handed.text (omega arith)

pub returns-in-Err : goal.returns-in-Err
returns-in-Err c =
    let o = c.read_any.new in
    wider _ _ _ _ _ 56 (rw c.number.ensures at c.write_refusal.ensures) (refusal_handed _ _ _ _ _ o.vertices o.faces o.marks _ c.in-Err.ensures) (omega arith)

-- `split_face` meets its contract. Assumes nothing.
use native.Mathlib.Omega.{arith}
use Rattle.splitfaces.proofs.Faces.{Known, known, corners_are}
use Rattle.splitfaces.proofs.split_face.Goals as goal
use Rattle.splitfaces.proofs.split_face.Goals.{After-face_in-face}

-- the numbers are small
small : (c : After-face_in-face) → Known c.args.sides.now c.args.faces.now c.args.work.now c.args.v c.args.edges c.args.out.now c.requires.numbered_faces c.args.h c.prev_in-prev.result c.face_in-face.result
small c = known c.args.sides.now c.args.faces.now c.args.work.now c.args.v c.args.edges c.args.out.now c.requires.numbered_faces c.args.h _ _ c.requires.h_in_bounds c.prev_in-prev.ensures c.face_in-face.ensures

pub overflow_add-side-2 : goal.overflow_add-side-2
overflow_add-side-2 c = let k = small (goal.at.overflow_add-side-2 c).After-face_in-face in omega arith

pub overflow_add-point : goal.overflow_add-point
overflow_add-point c = let k = small (goal.at.overflow_add-point c).After-face_in-face in omega arith

pub overflow_add-point-2 : goal.overflow_add-point-2
overflow_add-point-2 c = let k = small (goal.at.overflow_add-point-2 c).After-face_in-face in omega arith

pub overflow_cast-point : goal.overflow_cast-point
overflow_cast-point c = let k = small (goal.at.overflow_cast-point c).After-face_in-face in omega arith

pub overflow_add-before : goal.overflow_add-before
overflow_add-before c = let k = small (goal.at.overflow_add-before c).After-face_in-face in omega arith

pub offset_bounds-work-n-2 : goal.offset_bounds-work-n-2
offset_bounds-work-n-2 c = let k = small (goal.at.offset_bounds-work-n-2 c).After-face_in-face in omega arith

pub bounds-work-n-2 : goal.bounds-work-n-2
bounds-work-n-2 c = let k = small (goal.at.bounds-work-n-2 c).After-face_in-face in omega arith

pub overflow_add-before-2 : goal.overflow_add-before-2
overflow_add-before-2 c = let k = small (goal.at.overflow_add-before-2 c).After-face_in-face in omega arith

pub returns : goal.returns
returns c =
    corners_are c.args.sides.now c.args.faces.now c.args.work.now c.args.v c.args.edges c.args.out.now c.requires.numbered_faces c.args.h _ _ c.requires.h_in_bounds
    c.prev_in-prev.ensures c.face_in-face.ensures _ _ c.put_four.ensures

-- `obj::count_item` meets its contract. Assumes nothing.
use Rattle.obj.proofs.Passing.{meets_vertex, meets_face, meets_comment}
use Rattle.obj.proofs.count_item.Goals as goal

pub returns-in-Vertex : goal.returns-in-Vertex
returns-in-Vertex c = meets_vertex _ _ c.in-Vertex.is

pub returns-in-Face : goal.returns-in-Face
returns-in-Face c = meets_face _ _ c.in-Face.is

pub returns-in-Comment : goal.returns-in-Comment
returns-in-Comment c = meets_comment _ _ c.in-Comment.is

-- `obj::store_item` meets its contract. Assumes nothing.
use Rattle.obj.proofs.Passing.{room_vertex, stored_vertex, room_face, stored_face, stored_comment}
use Rattle.obj.proofs.store_item.Goals as goal

pub store_vertex-requires : goal.store_vertex-requires
store_vertex-requires c = room_vertex _ _ c.in-Vertex.is c.requires

pub store_face-requires : goal.store_face-requires
store_face-requires c = room_face _ _ c.in-Face.is c.requires

pub returns-in-Vertex : goal.returns-in-Vertex
returns-in-Vertex c = stored_vertex _ _ c.in-Vertex.is c.store_vertex.ensures.coordinates c.store_vertex.ensures.mark

pub returns-in-Face : goal.returns-in-Face
returns-in-Face c = stored_face _ _ c.in-Face.is c.store_face.ensures

pub returns-in-Comment : goal.returns-in-Comment
returns-in-Comment c = stored_comment _ _ c.in-Comment.is _ _ _

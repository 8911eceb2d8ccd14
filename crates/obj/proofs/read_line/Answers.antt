-- `obj::read_line` meets its contract. Assumes nothing.
use mathlib.Core.Path.{refl, ◌∙◌}
use Rattle.textform.specs.Bytes.{bytes}
use Rattle.text.proofs.Lines.{starts_is}
use Rattle.obj.proofs.Items.{no_line, vertex_bad, vertex_good, face_bad, face_good, other_line, comment_bad, comment_good}
use Rattle.obj.proofs.read_line.Goals as goal

pub returns-in_err-v : goal.returns-in_err-v
unfolding bytes
returns-in_err-v c = no_line c.from_residual.ensures (vertex_bad _ (starts_is (bytes "v ") c.args.text.now c.if-starts_with.ensures.value) c.read_vertex.ensures c.in_err-v.was)

pub returns-then-starts_with : goal.returns-then-starts_with
unfolding bytes
returns-then-starts_with c = vertex_good _ (starts_is (bytes "v ") c.args.text.now c.if-starts_with.ensures.value) c.read_vertex.ensures c.in_ok-v.was

pub returns-in_err-f : goal.returns-in_err-f
unfolding bytes
returns-in_err-f c = no_line c.from_residual-in_err-f.ensures (face_bad _ (starts_is (bytes "v ") c.args.text.now c.if-starts_with.ensures.value) (starts_is (bytes "f ") c.args.text.now c.if-starts_with-2.ensures.value) c.read_face.ensures c.in_err-f.was)

pub returns-then-starts_with-2 : goal.returns-then-starts_with-2
unfolding bytes
returns-then-starts_with-2 c = face_good _ (starts_is (bytes "v ") c.args.text.now c.if-starts_with.ensures.value) (starts_is (bytes "f ") c.args.text.now c.if-starts_with-2.ensures.value) c.read_face.ensures c.in_ok-f.was

pub returns-then-not-starts_with : goal.returns-then-not-starts_with
unfolding bytes
returns-then-not-starts_with c = no_line refl (other_line _ (starts_is (bytes "v ") c.args.text.now c.if-starts_with.ensures.value) (starts_is (bytes "f ") c.args.text.now c.if-starts_with-2.ensures.value) (starts_is (bytes "#") c.args.text.now c.starts_with-3.ensures.value ∙ c.if-not-starts_with.true))

pub returns-then-text-stop : goal.returns-then-text-stop
unfolding bytes
returns-then-text-stop c = no_line refl (comment_bad _ (starts_is (bytes "v ") c.args.text.now c.if-starts_with.ensures.value) (starts_is (bytes "f ") c.args.text.now c.if-starts_with-2.ensures.value) (starts_is (bytes "#") c.args.text.now c.starts_with-3.ensures.value ∙ c.if-not-starts_with.false) c.skip_to-stop.ensures c.if-text-stop.true)

pub returns : goal.returns
unfolding bytes
returns c = comment_good _ (starts_is (bytes "v ") c.args.text.now c.if-starts_with.ensures.value) (starts_is (bytes "f ") c.args.text.now c.if-starts_with-2.ensures.value) (starts_is (bytes "#") c.args.text.now c.starts_with-3.ensures.value ∙ c.if-not-starts_with.false) c.skip_to-stop.ensures c.if-text-stop.false

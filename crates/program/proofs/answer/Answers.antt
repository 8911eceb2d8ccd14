-- `program::answer` meets its contract. Assumes nothing.
use native.Mathlib.Omega.{arith}
use Rattle.printingform.specs.Tables.{answer_room}
use Rattle.programform.proofs.Input.{input_enough}
use Rattle.program.proofs.Refined.{wider}
use Rattle.program.proofs.answer.Goals as goal

pub returns : goal.returns
returns c =
    λ s e. wider _ _ _ _ _ answer_room c.answer_text.ensures (input_enough c.args.input.now c.args.n s c.requires.0 e) (omega arith)

-- `rounds::rounds` meets its contract: before each round the mates and the classes are those of its net. Assumes nothing.
use Rattle.nets.specs.Net.{front_net}
use Rattle.nets.specs.Buffers.{buffers}
use Rattle.rounds.specs.Rounds.{LettersAfter}
use Rattle.rounds.proofs.Standing.{Standing}
use Rattle.rounds.proofs.rounds.Given as goal

abbrev pub invariant-loop-i : goal.invariant-loop-i
invariant-loop-i l =
    Standing l.t l.k l.v l.n l.last (buffers l.initial.points l.initial.faces l.initial.marks l.initial.work) l.i l.count l.corners (buffers l.points l.faces l.marks l.work)
    × LettersAfter l.with_letters l.t l.i l.v l.count (front_net l.v l.n l.initial.points l.initial.faces l.initial.marks) l.initial.letters l.letters

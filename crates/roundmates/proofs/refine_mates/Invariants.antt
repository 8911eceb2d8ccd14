-- `refine_mates` meets its contract: the mates of the faces from f on are refined. Assumes nothing.
use Prim.Native.Nat.{ℕ, ◌/◌, ◌%◌}
use lib.ListN.{get_or, take}
use Rattle.topology.specs.Shape.{quads}
use Rattle.refinedfaces.specs.Mates.{refined_mate}
use Rattle.tables.proofs.Written.{Refining}
use Rattle.roundmates.proofs.refine_mates.Given as goal

abbrev pub invariant-loop-f : goal.invariant-loop-f
invariant-loop-f g l = Refining l.n (λ (k : ℕ). refined_mate quads l.n (λ (h : ℕ). get_or (take l.n l.initial.work) h 0) (k / 4) (k % 4)) l.initial.work l.work l.f

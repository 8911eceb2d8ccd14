-- `faces_by_families` meets its contract: the families from p on are done. Assumes nothing.
use Prim.Native.Nat.{ℕ, ◌*◌, ◌/◌, ◌%◌}
use lib.ListN.{take}
use Rattle.curve.specs.Weights.{tension}
use Rattle.topology.specs.Shape.{quads}
use Rattle.refinedfaces.specs.Refined.{corner}
use Rattle.facerules.specs.Faces.{face_coordinate}
use Rattle.tables.proofs.Written.{Refining}
use Rattle.passes.specs.Parts.{PointsPut}
use Rattle.passes.proofs.faces_by_families.Given as goal

abbrev pub invariant-loop-p : goal.invariant-loop-p
invariant-loop-p l =
    PointsPut (face_coordinate (tension l.family.round.tension) l.family.round.half_edges l.family.round.work.now) (4 * l.p) (l.family.round.half_edges / 4) l.initial.out l.out × Refining l.family.round.half_edges (λ (k : ℕ). corner quads l.v (take l.family.round.half_edges l.initial.faces) (k / 4) (k % 4)) l.initial.faces l.faces (4 * l.p)

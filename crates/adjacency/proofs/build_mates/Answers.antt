-- `build_mates` meets its contract: the mates of the half-edges below h are written. Assumes nothing.
use native.Mathlib.Omega.{arith}
use lib.ListN.{length}
use Rattle.topology.proofs.Mates.{mate-le}
use Rattle.polygons.specs.Polygons.{shape_of}
use Rattle.adjacency.proofs.Chains.{chained_drop, tables_kept, mated_all}
use Rattle.adjacency.proofs.build_mates.Goals as goal

pub find_mate-requires-clause-tables : goal.find_mate-requires-clause-tables
find_mate-requires-clause-tables c =
    let l = c.args.faces.now in tables_kept c.args.sides.now l c.args.work.now c.loop-h.work (length l) (omega arith) c.loop-h.auto.work c.loop-h.invariant.1 c.requires.tables

pub find_mate-requires-clause-chained : goal.find_mate-requires-clause-chained
find_mate-requires-clause-chained c = chained_drop c.args.faces.now c.args.work.now c.loop-h.work 0 c.loop-h.invariant.1 c.requires.chained

pub overflow_cast-work : goal.overflow_cast-work
overflow_cast-work c = omega (arith, c.find_mate.ensures, mate-le (shape_of c.args.sides.now) c.args.faces.now c.loop-h.h)

pub returns-clause-adjacency : goal.returns-clause-adjacency
returns-clause-adjacency c =
    let l = c.args.faces.now in
    let w = c.loop-h.work in
    let inv = c.loop-h.invariant in record {
      tables = tables_kept c.args.sides.now l c.args.work.now w (length l) (omega arith) c.loop-h.auto.work inv.1 c.requires.tables;
      chains = chained_drop l c.args.work.now w 0 inv.1 c.requires.chained;
      mated = mated_all (shape_of c.args.sides.now) l w c.loop-h.h c.loop-h-test.false inv.0;
    }

-- `scan::flag_all` meets its contract: the corners met so far are flagged. Assumes nothing.
use mathlib.Core.Path.{◌≡◌}
use lib.ListN.{drop}
use Rattle.scan.specs.Flags.{Flagged}
use Rattle.scan.proofs.flag_all.Given as goal

abbrev pub invariant-loop-corner : goal.invariant-loop-corner
invariant-loop-corner l = record { flagged : Flagged l.m l.faces l.work l.corner-index; rest : drop l.m l.work ≡ drop l.m l.initial.work }

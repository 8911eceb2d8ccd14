-- What side counts decide, without them. Paper 02: "a call without one, or with an empty one, is as before"
use Rattle.std.specs.Prelude.{◌≡◌, not, [], ℕ, ◌/◌, ◌%◌, eqb}
use Rattle.topology.specs.Shape.{quads}
use Rattle.polygons.specs.Polygons.{shape_of}
use Rattle.nets.specs.Net.{Net, plain}
use Rattle.splitting.specs.Splitting.{start_net}
use Rattle.verdict.specs.Call.{quadrilaterals}
use Rattle.verdict.specs.Verdict.{or_else, refused_if, tables_verdict}

pub record AsBefore : Type 0 where
  -- faces have four sides
  pub shape : shape_of [] ≡ quads
  -- F is a fourth of the corners
  pub faces : (corners : ℕ) → quadrilaterals [] corners ≡ corners / 4
  -- 2: "vertex table not a multiple of 3, face table not of 4, or marks not V."; 14 is not given
  pub tables : (coordinates corners marks : ℕ) → tables_verdict coordinates corners [] marks ≡
      or_else (refused_if 2 (not (eqb (coordinates % 3) 0))) (or_else (refused_if 2 (not (eqb (corners % 4) 0))) (refused_if 2 (not (eqb marks (coordinates / 3)))))
  -- refining begins with the net itself
  pub start : (m : Net) → start_net (plain m) ≡ m

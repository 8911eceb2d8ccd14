-- The caller's tables for the answer, and the net at their front.
use Rattle.std.specs.Prelude.{Bool, List, ℕ, ℤ}
use Rattle.nets.specs.Net.{Net, front_net}

pub record Buffers : Type 0 where
  pub vertices : List ℤ
  pub faces : List ℕ
  pub marks : List ℕ
  pub work : List ℕ

abbrev pub buffers : List ℤ → List ℕ → List ℕ → List ℕ → Buffers
buffers vertices faces marks work = record { vertices = vertices; faces = faces; marks = marks; work = work }

-- the net of v vertices and n corners at the front
abbrev pub front : (v n : ℕ) → Buffers → Net
front v n o = front_net v n o.vertices o.faces o.marks

-- whether letters are asked for, and the caller's table for them. Paper 02: "The lent letter table"
pub record Letters : Type 0 where
  pub asked : Bool
  pub table : List ℕ

abbrev pub letter_table : Bool → List ℕ → Letters
letter_table asked table = record { asked = asked; table = table }

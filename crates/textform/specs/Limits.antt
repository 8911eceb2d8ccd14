-- The limits of the program.
use Rattle.std.specs.Prelude.{ℕ}

-- Paper 01: "more than 32,768 bytes"
abbrev pub longest_text : ℕ
longest_text = 32768

-- Paper 01: "Its tables serve G up to 256 and V up to 1,024"
abbrev pub program_vertices : ℕ
program_vertices = 1024

abbrev pub program_faces : ℕ
program_faces = 256

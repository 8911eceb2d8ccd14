-- The kinds of edges by the flags of their entries.
use Rattle.std.specs.Prelude.{ℕ}
use Rattle.edgeentries.specs.Entry.{wide_flag, boundary_flag}
use Rattle.edgepoints.specs.declared.EdgeKind.{EdgeKind}
use Rattle.edgepoints.specs.declared.EdgeKind.TheVariants.{Plain, Wide, Boundary}

-- the flag of each kind
abbrev pub flag_of : EdgeKind → ℕ
flag_of Plain = 0
flag_of Wide = wide_flag
flag_of Boundary = boundary_flag

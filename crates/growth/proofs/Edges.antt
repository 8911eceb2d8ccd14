-- The number of edges by the mates: one half-edge more, and that it is the net's.
use mathlib.Core.Path.{◌≡◌, refl, ap}
use mathlib.Core.Bool.{Bool, true, false, cond}
use mathlib.Core.List.{List}
use Prim.Native.Nat.{ℕ, ◌+◌, ◌≤◌}
use native.Mathlib.Numerals.{add-one}
use lib.ListN.{length, get_or, take}
use lib.Dec.{ltb}
use mir.Val.{bool_byte}
use Rattle.search.specs.Search.{count}
use Rattle.topology.specs.Shape.{Shape}
use Rattle.topology.specs.HalfEdge.{edge_count}
use Rattle.halfedges.specs.Tables.{MateTableOf}
use Rattle.edgenumbers.specs.Edges.{met_by, edge_count_by}
use Rattle.edgenumbers.proofs.Net.{edges_counted}

-- a test as a number
byte_cond : (b : Bool) → bool_byte b ≡ cond b 1 0
byte_cond true = refl
byte_cond false = refl

pub count_next : (ms : List ℕ) (h : ℕ) → count (met_by ms) h + bool_byte (ltb h (get_or ms h 0)) ≡ count (met_by ms) (h + 1)
unfolding count met_by
count_next ms h = rw (add-one h) (ap (λ (x : ℕ). count (met_by ms) h + x) (byte_cond (ltb h (get_or ms h 0))))

-- a table that starts with the mates of a net
pub edges_by_mates : (S : Shape) (l w : List ℕ) → length l ≤ length w → MateTableOf S l w → edge_count_by (take (length l) w) ≡ edge_count S l
edges_by_mates S l w r x = edges_counted S l w r x.mates

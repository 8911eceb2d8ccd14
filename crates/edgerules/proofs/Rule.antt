-- Which rule an edge has, by its mate and the marks of its ends.
use mathlib.Core.Path.{◌≡◌}
use mathlib.Core.Bool.{Bool, cond}
use mathlib.Core.List.{List}
use Prim.Native.Nat.{ℕ, ◌≤◌, ◌<◌}
use borrow.Author.Tests.{lt-ltb, le-ltb}
use lib.ListN.{length}
use Rattle.topology.specs.Shape.{quads}
use Rattle.topology.specs.HalfEdge.{from, to, mate}
use Rattle.nets.specs.Net.{marked}
use Rattle.scheme.specs.Points.{inside_segment, start_of_segment, end_of_segment, whole_segment, inner_rule, edge_rule}

module _ (l marks : List ℕ) (h : ℕ) where
  pub rule_inner : mate quads l h < length l → edge_rule l marks h ≡ inner_rule
  unfolding edge_rule
  rule_inner b = let t = lt-ltb (mate quads l h) (length l) b in simp t

  pub rule_boundary : (b c : Bool) → length l ≤ mate quads l h → marked marks (from l h) ≡ b → marked marks (to quads l h) ≡ c
      → edge_rule l marks h ≡ cond b (cond c whole_segment start_of_segment) (cond c end_of_segment inside_segment)
  unfolding edge_rule
  rule_boundary b c n mp mq = let k = le-ltb (mate quads l h) (length l) n in simp (k, mp, mq)

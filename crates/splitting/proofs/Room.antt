-- How many vertices there are where refining begins: no more than corners.
use mathlib.Core.Path.{◌≡◌, ap, ◌∙◌}
use mathlib.Core.List.{List}
use Prim.Native.Nat.{ℕ, ◌*◌, ◌≤◌, ◌<◌}
use native.Mathlib.Decide.{dec_lt}
use native.Mathlib.Omega.{arith}
use lib.ListN.{length}
use Rattle.search.specs.Search.{first}
use Rattle.topology.specs.Shape.{Shape}
use Rattle.topology.proofs.Mates.{edges_le}
use Rattle.polygons.specs.Polygons.{shape_of}
use Rattle.polygons.proofs.Counts.{shape_some, faces_polygons, faces_le}
use Rattle.refusals.specs.Refusals.{isolated}
use Rattle.refusals.proofs.Places.{isolated_soon}
use Rattle.nets.specs.Net.{Net, ControlNet}
use Rattle.schemelaws.specs.Nets.{Refinable}
use Rattle.splitting.specs.Splitting.{split, start_net}
use Rattle.splitting.specs.WellFormed.{WellFormed}
use Rattle.splitting.proofs.Split.{split-count, start_refinable}

-- 8 holds nowhere: each vertex is a corner
vertices_le : (l : List ℕ) (v : ℕ) → first (isolated l) v ≡ v → v ≤ length l
vertices_le l v e = go (dec_lt (length l) v)
  where
    go : Dec (length l < v) → v ≤ length l
    go (yes b) = let k = isolated_soon l v b in absurd (omega arith)
    go (no b) = omega arith

pub refinable_vertices_le : (m : Net) → Refinable m → length m.marks ≤ length m.faces
refinable_vertices_le m ok = vertices_le m.faces (length m.marks) ok.no7to11.no8

module _ (m : ControlNet) (ok : WellFormed m) where
  pub control_vertices_le : length m.marks ≤ length m.faces
  control_vertices_le = vertices_le m.faces (length m.marks) ok.no7to11.no8

  pub start_vertices_le : length (start_net m).marks ≤ length (start_net m).faces
  start_vertices_le = refinable_vertices_le (start_net m) (start_refinable m ok)

  -- drawn vertices and edges are no more than corners, and a face has three corners or more
  pub split_vertices_lem : 0 < length m.sides → 3 * length (split m).marks ≤ 7 * length m.faces
  split_vertices_lem b =
      let n : ℕ = length m.faces in
      let f = ap (λ (S : Shape). S.faces n) (shape_some m.sides b) ∙ faces_polygons m.sides n in
      let t = faces_le m.sides n (ok.sided.counts b) in
      let v = control_vertices_le in
      let e = edges_le (shape_of m.sides) m.faces in
      omega (arith, split-count m)

  pub split_vertices_le : 0 < length m.sides → length (split m).marks ≤ 4 * length m.faces
  split_vertices_le b = omega (arith, split_vertices_lem b)

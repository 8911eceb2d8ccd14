-- What the steps of the seam test ask of nets and work table, and leave there.
use Rattle.std.specs.Prelude.{◌≡◌, false, List, ℕ, ◌*◌, ◌≤◌, ◌<◌, length, drop, Result}
use Rattle.bounds.specs.Bounds.{max_faces, max_corners}
use Rattle.tables.specs.Tables.{cleared}
use Rattle.nets.specs.Net.{ControlNet}
use Rattle.verdict.specs.Call.{quadrilaterals}
use Rattle.verdict.specs.Verdict.{accepted, verdict, work_after}
use Rattle.seamtest.specs.SeamTest.{SeamSide, alone_in, bad_start, seam_verdict, seam_edges, SeamTested, seam_tested_as}
use Rattle.sidetable.specs.Table.{ShapeRoom, Linked}
use Rattle.adjacency.specs.Chains.{CornersBelow}
use Rattle.reasons.specs.declared.Refusal.{Refusal}
use Rattle.reasons.specs.Reasons.{verdict_of}
use Rattle.sharing.specs.Sharing.{edges_in}

-- F of a net
abbrev pub faces_of : ControlNet → ℕ
faces_of m = quadrilaterals m.sides (length m.faces)

-- the first net is accepted, and its check left w
pub record FirstPassed (a : SeamSide) (w : List ℕ) : Type 0 where
  pub accepts : verdict (alone_in a (length w)) ≡ accepted
  pub zeros : w ≡ cleared (16 * faces_of a.net) w

-- what the test gives then
abbrev pub second_tested : SeamSide → SeamSide → List ℕ → SeamTested
second_tested a b w = seam_tested_as (seam_verdict a b (length w)) (seam_edges a b (length w)) (work_after (alone_in b (length w)) w)

-- both nets are accepted, and w has mates and shape of the second; neither has more than f faces
pub record BothPassed (a b : SeamSide) (f : ℕ) (w : List ℕ) : Type 0 where
  pub first : verdict (alone_in a (length w)) ≡ accepted
  pub second : verdict (alone_in b (length w)) ≡ accepted
  pub linked : Linked b.net.sides b.net.faces w
  pub first_faces : faces_of a.net ≤ f
  pub second_faces : faces_of b.net ≤ f
  pub few : f ≤ max_faces
  pub room : 16 * f ≤ length w

-- and both starts are marked vertices
pub record Started (a b : SeamSide) (f : ℕ) (w : List ℕ) : Type 0 where
  pub passed : BothPassed a b f w
  pub first : bad_start a ≡ false
  pub second : bad_start b ≡ false

-- the answer of the test; past 16f the work table is as found. Open, and may differ between correct programs: the numbers before
pub record Answered (a b : SeamSide) (f : ℕ) (w : List ℕ) (r : Result ℕ Refusal) (w' : List ℕ) : Type 0 where
  pub verdict : verdict_of r ≡ seam_verdict a b (length w)
  pub edges : edges_in r ≡ seam_edges a b (length w)
  pub rest : drop (16 * f) w' ≡ drop (16 * f) w

-- room for shape, chains and mates of corners l of faces with the side counts s
pub record LinkRoom (s l w : List ℕ) : Type 0 where
  pub shape : ShapeRoom s (length l) w
  pub few : length l ≤ max_corners
  pub corners : CornersBelow (length l) l
  pub room : 3 * length l ≤ length w

-- w' is w with mates and shape; behind these and the chains it is as found
pub record Relinked (s l w w' : List ℕ) : Type 0 where
  pub linked : Linked s l w'
  pub rest : (k : ℕ) → 3 * length l ≤ k → (0 < length s → 7 * length l ≤ k) → drop k w' ≡ drop k w

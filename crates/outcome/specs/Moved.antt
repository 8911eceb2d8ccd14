-- A net moved by whole numbers, over what calls give.
use Rattle.std.specs.Prelude.{◌≡◌, ℕ}
use Rattle.bounds.specs.Bounds.{max_coordinate}
use Rattle.curve.specs.Curve.{Point}
use Rattle.integers.specs.Within.{Within}
use Rattle.tables.specs.Tables.{filled}
use Rattle.nets.specs.Moved.{moved_vertices, moved, moved_control}
use Rattle.outcome.specs.Outcome.{Request, request}
use Rattle.outcome.specs.SharedSegment.{result_after, net_after}

-- the same request, its net moved by s. Paper 02: "P2 compares calls from equal tallies."
abbrev pub moved_by : Point → Request → Request
moved_by s a = request a.tally a.rounds (moved_control s a.net) a.tension a.buffers a.letters

-- what the call on the moved net gives, after k rounds
pub record MovedAfter (s : Point) (a : Request) (k : ℕ) : Type 0 where
  -- the same counts, or the same refusal and place
  pub result : (result_after (moved_by s a) k).result ≡ (result_after a k).result
  -- the same tally
  pub tally : (result_after (moved_by s a) k).tally ≡ (result_after a k).tally
  -- "must equal moving the refined net"; where the call is refused, there is no net in either
  pub net : net_after (moved_by s a) k ≡ moved s (net_after a k)
  -- the tables as the call returns: beyond that net the vertex table is as found, the others are the same
  pub vertices : (result_after (moved_by s a) k).buffers.vertices ≡ filled (moved_vertices s (net_after a k).vertices) a.buffers.vertices
  pub faces : (result_after (moved_by s a) k).buffers.faces ≡ (result_after a k).buffers.faces
  pub marks : (result_after (moved_by s a) k).buffers.marks ≡ (result_after a k).buffers.marks
  pub letters : (result_after (moved_by s a) k).letters ≡ (result_after a k).letters
  pub work : (result_after (moved_by s a) k).buffers.work ≡ (result_after a k).buffers.work

-- Paper 02: "Refining a net moved by whole counts must equal moving the refined net, wherever both are within the coordinate limit": both control nets
pub record MovedNets : Type 0 where
  pub moves : (s : Point) (a : Request) → Within max_coordinate a.net.vertices → Within max_coordinate (moved_vertices s a.net.vertices) → (k : ℕ) → MovedAfter s a k

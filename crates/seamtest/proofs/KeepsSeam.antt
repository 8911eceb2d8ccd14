-- Where the seam test says yes, every refining of the two nets keeps the seam. Assumes nothing.
use mathlib.Core.Path.{◌≡◌, refl, sym, ◌∙◌, subst}
use mathlib.Core.Bool.{true, false}
use mathlib.Core.Logic.{◌⊎◌, inl, inr}
use mathlib.Core.List.{List}
use Prim.Native.Nat.{ℕ, ◌<◌}
use native.Mathlib.Omega.{arith}
use lib.ListN.{length}
use borrow.Author.Tests.{ltb-true, ltb-false}
use Rattle.search.proofs.Tests.{decided}
use Rattle.curve.specs.Curve.{Open, Point}
use Rattle.topology.specs.Shape.{Shape, quads}
use Rattle.topology.specs.Boundary.{Way, with_sides, against_sides}
use Rattle.polygons.proofs.Counts.{shape_none}
use Rattle.nets.specs.Net.{Net, ControlNet, control_tables}
use Rattle.splitting.specs.Splitting.{start_net}
use Rattle.splitting.proofs.Split.{start_none}
use Rattle.seam.specs.Reading.{ReadsIn, Reads}
use Rattle.seam.specs.Seam.{Shared}
use Rattle.seam.specs.Split.{halved, ReadsControl, SharedControl}
use Rattle.outcome.specs.Outcome.{Request}
use Rattle.outcome.proofs.SharedSegment.{shared_segments}
use Rattle.outcome.proofs.SplitSegment.{split_segments}
use Rattle.seamtest.specs.SeamTest.{SeamSide, has_sides, seam_edges}
use Rattle.seamtest.specs.Matching.{Matching}
use Rattle.seamtest.specs.KeepsSeam.{KeepsSeam, Refines, YesKeepsSeam}
use Rattle.seamtest.proofs.Agree.{yes_exactly}

-- without side counts refining begins with the net as it is drawn
read_plain : (m : ControlNet) (way : Way) (u : ℕ) (L : List Point) → length m.sides ≡ 0 → ReadsControl m way Open u L → Reads (start_net m) way Open u L
read_plain m way u L z r =
    subst (λ (n : Net). Reads n way Open u L) (sym (start_none m z)) (subst (λ (S : Shape). ReadsIn S (control_tables m) way Open u L) (shape_none m.sides z) r)

no_sides : (p : SeamSide) → has_sides p ≡ false → length p.net.sides ≡ 0
no_sides p f = omega (arith, ltb-false 0 (length p.net.sides) f)

module _ (p q : SeamSide) (w e : ℕ) (r : Matching p q w e) (a b : Request) (ra : Refines a p) (rb : Refines b q) where
  shared : SharedControl a.net b.net with_sides against_sides Open p.start q.start r.list
  shared = rw (ra.net, rb.net) r.shared

  -- a list that both have where refining begins
  keeps_from : (L : List Point) → Shared quads quads (start_net a.net) (start_net b.net) with_sides against_sides Open p.start q.start L → KeepsSeam a b p.start q.start
  keeps_from L s =
      let t = ra.tension ∙ r.tensions ∙ sym rb.tension in
      record { list = L; shared = s; after = λ k c d. shared_segments.shared a b ra.accepts rb.accepts t with_sides against_sides Open p.start q.start L s k c d }

  keeps : KeepsSeam a b p.start q.start
  keeps = go (decided (has_sides p))
    where
      go : (has_sides p ≡ true) ⊎ (has_sides p ≡ false) → KeepsSeam a b p.start q.start
      go (inl t) =
          let sa : 0 < length a.net.sides = rw ra.net (ltb-true 0 (length p.net.sides) t) in
          let sb : 0 < length b.net.sides = rw rb.net (ltb-true 0 (length q.net.sides) (sym r.sides ∙ t)) in
          let h = split_segments.shared a b ra.accepts rb.accepts sa sb with_sides against_sides Open p.start q.start r.list shared in
          let L = halved Open r.list in
          keeps_from L (record { left = (h.left L).1 refl; right = (h.right L).1 refl })
      go (inr f) =
          let sa : length a.net.sides ≡ 0 = rw ra.net (no_sides p f) in
          let sb : length b.net.sides ≡ 0 = rw rb.net (no_sides q (sym r.sides ∙ f)) in
          keeps_from r.list (record { left = read_plain a.net with_sides p.start r.list sa shared.left; right = read_plain b.net against_sides q.start r.list sb shared.right })

pub yes_keeps_seam : YesKeepsSeam
yes_keeps_seam = record { keeps = λ p q w y. keeps p q w (seam_edges p q w) ((yes_exactly.yes p q w (seam_edges p q w)).0 (y, refl)) }

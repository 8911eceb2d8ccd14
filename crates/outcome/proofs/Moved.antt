-- The call on a moved net gives the moved net. Assumes nothing.
use mathlib.Core.Path.{◌≡◌, refl, sym, ap, ap₂, ◌∙◌}
use mathlib.Core.List.{List, []}
use Prim.Native.Nat.{ℕ, ◌+◌}
use lib.IntN.{ℤ}
use Rattle.bounds.specs.Bounds.{max_coordinate}
use Rattle.lists.specs.Tabulate.{tabulate}
use Rattle.integers.specs.Within.{Within}
use Rattle.curve.specs.Curve.{Point}
use Rattle.curve.specs.Weights.{tension}
use Rattle.curve.proofs.Tension.{tame}
use Rattle.tables.specs.Tables.{filled}
use Rattle.nets.specs.Net.{Net, net}
use Rattle.nets.specs.Moved.{moved_vertices, moved, moved_control}
use Rattle.nets.proofs.Moved.{moved_length}
use Rattle.scheme.specs.Step.{steps}
use Rattle.schemelaws.proofs.Moved.{steps-moved}
use Rattle.splitting.specs.Splitting.{start_net}
use Rattle.splitting.proofs.Moved.{start-moved}
use Rattle.origins.specs.Origins.{letters}
use Rattle.origins.proofs.Letters.{same-letters}
use Rattle.verdict.specs.Call.{Call, vertex_count, face_count}
use Rattle.verdict.specs.Verdict.{Verdict, accepted, refused, or_else, verdict, work_after}
use Rattle.verdict.proofs.Accepted.{accepted_tension, or_both}
use Rattle.verdict.proofs.Coordinates.{same-verdict, same_work}
use Rattle.outcome.specs.Tally.{new_points, tally_verdict}
use Rattle.outcome.specs.Outcome.{refined_to, refused_with, Request, for_rounds, Outcome, outcome_on, call_of, request_verdict, lettered, outcome}
use Rattle.outcome.specs.SharedSegment.{result_after, net_by, net_after}
use Rattle.outcome.specs.Moved.{moved_by, MovedAfter, MovedNets}
use Rattle.outcome.proofs.Tally.{same_points}
use Rattle.outcome.proofs.Accepted.{given, accepted_well_formed, accepted_refinable, accepted_after}

-- no vertices, moved
moved_none : (s : Point) → moved_vertices s [] ≡ []
unfolding moved_vertices tabulate
moved_none s = refl

none_filled : (s : Point) (o : List ℤ) → filled (moved_vertices s []) o ≡ o
unfolding moved_vertices tabulate filled
none_filled s o = refl

module _ (s : Point) (a : Request) (here : Within max_coordinate a.net.vertices) (there : Within max_coordinate (moved_vertices s a.net.vertices)) (k : ℕ) where
  -- the request, asked for k rounds; the net that it refines to, and that of the moved net
  abbrev c : Call
  c = call_of (for_rounds k a)

  abbrev n : Net
  n = steps (tension a.tension) k (start_net a.net)

  abbrev n' : Net
  n' = steps (tension a.tension) k (start_net (moved_control s a.net))

  one_check : verdict (call_of (for_rounds k (moved_by s a))) ≡ verdict c
  one_check = same-verdict k a.net.vertices (moved_vertices s a.net.vertices) a.net.faces a.net.sides a.net.marks a.tension c.room (moved_length s a.net.vertices) here there

  one_figure : new_points a.tension k (moved_control s a.net) ≡ new_points a.tension k a.net
  one_figure = same_points a.tension k (moved_vertices s a.net.vertices) a.net.vertices a.net.faces a.net.sides a.net.marks

  one_letters : letters (tension a.tension) (moved_control s a.net) k ≡ letters (tension a.tension) a.net k
  one_letters = same-letters (tension a.tension) k (moved_vertices s a.net.vertices) a.net.vertices a.net.faces a.net.sides a.net.marks

  one_verdict : request_verdict (for_rounds k (moved_by s a)) ≡ request_verdict (for_rounds k a)
  unfolding request_verdict
  one_verdict = ap₂ (λ (v : Verdict) (d : ℕ). or_else v (tally_verdict a.tally d)) one_check one_figure

  one_work : work_after (call_of (for_rounds k (moved_by s a))) a.buffers.work ≡ work_after c a.buffers.work
  one_work = same_work k a.net.vertices (moved_vertices s a.net.vertices) a.net.faces a.net.sides a.net.marks a.tension c.room (moved_length s a.net.vertices) a.buffers.work

  same_given : (v : Verdict) → given (moved_by s a) k v n' ≡ given a k v n'
  same_given accepted = λ i.
      outcome_on (refined_to (vertex_count n') (face_count n')) (a.tally + one_figure i) (filled n'.vertices a.buffers.vertices) (filled n'.faces a.buffers.faces) (filled n'.marks a.buffers.marks)
      (lettered (one_letters i) a.letters) (one_work i)
  same_given (refused r p) = λ i. outcome_on (refused_with r p) a.tally a.buffers.vertices a.buffers.faces a.buffers.marks a.letters.table (one_work i)

  moved_given : (v : Verdict) → request_verdict (for_rounds k a) ≡ v → result_after (moved_by s a) k ≡ given a k v n'
  unfolding outcome
  moved_given v e = ap (λ (u : Verdict). given (moved_by s a) k u n') (one_verdict ∙ e) ∙ same_given v

  here_given : (v : Verdict) → request_verdict (for_rounds k a) ≡ v → result_after a k ≡ given a k v n
  unfolding outcome
  here_given v e = ap (λ (u : Verdict). given a k u n) e

  nets_moved : request_verdict (for_rounds k a) ≡ accepted → n' ≡ moved s n
  unfolding request_verdict
  nets_moved r =
      let e = (or_both (verdict c) (tally_verdict a.tally (new_points a.tension k a.net)) r).0 in
      ap (steps (tension a.tension) k) (start-moved s a.net (accepted_well_formed c e)) ∙ steps-moved (tension a.tension) (tame a.tension (accepted_tension c e)) s (start_net a.net) (accepted_refinable c e) k

  by : (v : Verdict) → request_verdict (for_rounds k a) ≡ v → MovedAfter s a k
  by accepted e =
      let p : result_after (moved_by s a) k ≡ given a k accepted (moved s n) = moved_given accepted e ∙ ap (given a k accepted) (nets_moved e) in
      let q : result_after a k ≡ given a k accepted n = here_given accepted e in
      record {
        result = ap (λ (o : Outcome). o.result) p ∙ sym (ap (λ (o : Outcome). o.result) q);
        tally = ap (λ (o : Outcome). o.tally) p ∙ sym (ap (λ (o : Outcome). o.tally) q);
        net = accepted_after (moved_by s a) k (one_verdict ∙ e) ∙ nets_moved e ∙ ap (moved s) (sym (accepted_after a k e));
        vertices = ap (λ (o : Outcome). o.buffers.vertices) p ∙ ap (λ (m : Net). filled (moved_vertices s m.vertices) a.buffers.vertices) (sym (accepted_after a k e));
        faces = ap (λ (o : Outcome). o.buffers.faces) p ∙ sym (ap (λ (o : Outcome). o.buffers.faces) q);
        marks = ap (λ (o : Outcome). o.buffers.marks) p ∙ sym (ap (λ (o : Outcome). o.buffers.marks) q);
        letters = ap (λ (o : Outcome). o.letters) p ∙ sym (ap (λ (o : Outcome). o.letters) q);
        work = ap (λ (o : Outcome). o.buffers.work) p ∙ sym (ap (λ (o : Outcome). o.buffers.work) q);
      }
  by (refused r p) e =
      let x = moved_given (refused r p) e in
      let y = here_given (refused r p) e in
      let o : result_after (moved_by s a) k ≡ result_after a k = x ∙ sym y in
      let none : net_after a k ≡ net [] [] [] = ap (λ (t : Outcome). net_by t.result t) y in
      record {
        result = ap (λ (t : Outcome). t.result) o;
        tally = ap (λ (t : Outcome). t.tally) o;
        net = ap (λ (t : Outcome). net_by t.result t) x ∙ sym (ap (moved s) none ∙ ap (λ (vs : List ℤ). net vs [] []) (moved_none s));
        vertices = ap (λ (t : Outcome). t.buffers.vertices) x ∙ sym (ap (λ (m : Net). filled (moved_vertices s m.vertices) a.buffers.vertices) none ∙ none_filled s a.buffers.vertices);
        faces = ap (λ (t : Outcome). t.buffers.faces) o;
        marks = ap (λ (t : Outcome). t.buffers.marks) o;
        letters = ap (λ (t : Outcome). t.letters) o;
        work = ap (λ (t : Outcome). t.buffers.work) o;
      }

pub moved_nets : MovedNets
moved_nets = record { moves = λ s a h t k. by s a h t k (request_verdict (for_rounds k a)) refl }

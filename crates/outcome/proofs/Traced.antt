-- Every letter of an accepted call names the origin of its vertex. Assumes nothing.
use mathlib.Core.Path.{◌≡◌, ap, ◌∙◌, subst}
use mathlib.Core.Bool.{true}
use mathlib.Core.List.{List}
use Prim.Native.Nat.{ℕ, ◌≤◌, ◌<◌}
use native.Mathlib.Omega.{arith}
use lib.ListN.{length, get_or, get_or-append}
use Rattle.curve.specs.Weights.{tension}
use Rattle.nets.specs.Net.{Net}
use Rattle.tables.specs.Tables.{filled}
use Rattle.scheme.specs.Step.{steps}
use Rattle.splitting.specs.Splitting.{start_net}
use Rattle.verdict.specs.Verdict.{Verdict}
use Rattle.origins.specs.Origins.{Rule, letter_of, origin_after, letters}
use Rattle.origins.specs.Named.{MadeEarlier}
use Rattle.origins.proofs.Named.{origin_is}
use Rattle.origins.proofs.Letters.{length-letters, letter_at}
use Rattle.outcome.specs.Outcome.{Request, outcome}
use Rattle.outcome.specs.SharedSegment.{Accepted, net_after}
use Rattle.outcome.specs.Traced.{Traced, LettersName}
use Rattle.outcome.proofs.Accepted.{given, accepted_after}
use Rattle.outcome.proofs.Tally.{accepted_for_fewer}

module _ (a : Request) (h : Accepted a) (asked : a.letters.asked ≡ true) where
  abbrev k : ℕ
  k = a.rounds

  -- the nets of the same call for fewer rounds
  after : (j : ℕ) → j ≤ k → net_after a j ≡ steps (tension a.tension) j (start_net a.net)
  after j l = accepted_after a j (accepted_for_fewer a h j l)

  table : (outcome a).letters ≡ filled (letters (tension a.tension) a.net k) a.letters.table
  unfolding outcome
  table = ap (λ (v : Verdict). (given a k v (steps (tension a.tension) k (start_net a.net))).letters) (accepted_for_fewer a h k (omega arith)) ∙ rw asked

  letter : (i : ℕ) → i < length (steps (tension a.tension) k (start_net a.net)).marks → get_or (outcome a).letters i 0 ≡ letter_of (origin_after (tension a.tension) a.net k i)
  unfolding filled
  letter i b =
      let n = length-letters (tension a.tension) a.net k in
      ap (λ (l : List ℕ). get_or l i 0) table ∙ get_or-append (letters (tension a.tension) a.net k) _ 0 i (omega arith) ∙ letter_at (tension a.tension) a.net k i b

  -- the same rounds, by the nets that calls give
  earlier : (i : ℕ) (r : Rule) → MadeEarlier (tension a.tension) (λ (j : ℕ). steps (tension a.tension) j (start_net a.net)) k i r → MadeEarlier (tension a.tension) (net_after a) k i r
  earlier i r x =
      let e = x.earlier in
      record {
        round = x.round;
        earlier = e;
        made = rw (after x.round (omega arith), after k (omega arith)) x.made;
      }

  trace : (i : ℕ) → i < length (net_after a k).marks → Traced a i
  trace i b =
      let e = after k (omega arith) in
      let c : i < length (steps (tension a.tension) k (start_net a.net)).marks = subst (λ (n : Net). i < length n.marks) e b in
      let x = origin_is (tension a.tension) a.net k i c in
      record {
        origin = origin_after (tension a.tension) a.net k i;
        letter = letter i c;
        named = record {
          control = x.control;
          split = λ f. rw e (x.split f);
          made = λ r f. earlier i r (x.made r f);
        };
      }

pub letters_name : LettersName
letters_name = record { traced = trace }

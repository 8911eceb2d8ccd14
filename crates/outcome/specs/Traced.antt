-- The letters of accepted calls. Paper 02: "Proved for every point: its letter is that of its own case, V exactly for drawn points, and the rule that any other letter
-- names, applied to the net before its round (for S the drawn net), gives that point."
use Rattle.std.specs.Prelude.{◌≡◌, true, ℕ, ◌<◌, length, get_or}
use Rattle.curve.specs.Weights.{tension}
use Rattle.origins.specs.Origins.{Origin, letter_of}
use Rattle.origins.specs.Named.{HasOrigin}
use Rattle.outcome.specs.Outcome.{Request, outcome}
use Rattle.outcome.specs.SharedSegment.{Accepted, net_after}

-- the letter at i names an origin, and vertex i is of that origin; the net before a round is what the same call gives when asked for fewer rounds
pub record Traced (a : Request) (i : ℕ) : Type 0 where
  pub origin : Origin
  pub letter : get_or (outcome a).letters i 0 ≡ letter_of origin
  pub named : HasOrigin (tension a.tension) a.net (net_after a) a.rounds i origin

pub record LettersName : Type 0 where
  pub traced : (a : Request) → Accepted a → a.letters.asked ≡ true → (i : ℕ) → i < length (net_after a a.rounds).marks → Traced a i

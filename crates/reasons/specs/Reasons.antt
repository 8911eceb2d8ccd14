-- The papers' number of each reason, and what an answer of the code says: no refusal, or a refusal's number and place.
use Rattle.std.specs.Prelude.{◌≡◌, ℕ, Result, Ok, Err}
use Rattle.verdict.specs.Verdict.{Verdict, accepted, refused}
use Rattle.reasons.specs.declared.Reason.{Reason}
use Rattle.reasons.specs.declared.Reason.TheVariants.{TooManyRounds, InvalidLengths, NetTooLarge, TableTooShort, CoordinateOutOfRange, InvalidMark, InvalidCorner, IsolatedVertex, RepeatedHalfEdge, NonManifoldVertex, ValenceOutOfRange, MarkedInteriorVertex, MalformedText, InvalidSideCounts, TallyLimit, TensionOutOfRange, InvalidStart, SeamMismatch}
use Rattle.reasons.specs.declared.Refusal.{Refusal}

abbrev pub number : Reason → ℕ
number TooManyRounds = 1
number InvalidLengths = 2
number NetTooLarge = 3
number TableTooShort = 4
number CoordinateOutOfRange = 5
number InvalidMark = 6
number InvalidCorner = 7
number IsolatedVertex = 8
number RepeatedHalfEdge = 9
number NonManifoldVertex = 10
number ValenceOutOfRange = 11
number MarkedInteriorVertex = 12
number MalformedText = 13
number InvalidSideCounts = 14
number TallyLimit = 15
number TensionOutOfRange = 16
number InvalidStart = 17
number SeamMismatch = 18

-- the refusal for a reason that concerns no place
pub record FirstPlace (r : Reason) (x : Refusal) : Type 0 where
  pub reason : x.reason ≡ r
  pub place : x.place ≡ 0

abbrev pub first_place : Reason → Refusal → Type 0
first_place r x = FirstPlace r x

-- the papers' number and place
abbrev pub refused_as : Refusal → Verdict
refused_as x = refused (number x.reason) x.place

-- what an answer says of a call or a net
abbrev pub verdict_of : {A : Type 0} → Result A Refusal → Verdict
verdict_of (Ok a) = accepted
verdict_of (Err x) = refused_as x

-- the same of a reason that concerns no place
abbrev pub reason_of : {A : Type 0} → Result A Reason → Verdict
reason_of (Ok a) = accepted
reason_of (Err r) = refused (number r) 0

-- What a refining call answers and leaves in the caller's tally and tables, on every input.
use Rattle.std.specs.Prelude.{Bool, cond, List, ℕ, ◌+◌, ℤ, length}
use Rattle.curve.specs.Weights.{tension}
use Rattle.nets.specs.Net.{Net, ControlNet, control_net}
use Rattle.nets.specs.Buffers.{Buffers, buffers, Letters, letter_table}
use Rattle.tables.specs.Tables.{filled}
use Rattle.verdict.specs.Call.{Room, room, Call, call, vertex_count, face_count}
use Rattle.verdict.specs.Verdict.{Verdict, accepted, refused, or_else, verdict, work_after}
use Rattle.scheme.specs.Step.{steps}
use Rattle.splitting.specs.Splitting.{start_net}
use Rattle.origins.specs.Origins.{letters}
use Rattle.outcome.specs.Tally.{new_points, tally_verdict}

-- "reports both counts", or the refusal's number and place
pub data Result : Type 0 where
  refined_to : (vertices faces : ℕ) → Result
  refused_with : (number place : ℕ) → Result

-- what the caller's tally holds, the rounds asked for, the net as it is drawn, the caller's tables, whether letters are asked for, and their table
pub record Request : Type 0 where
  pub tally : ℕ
  pub rounds : ℕ
  pub net : ControlNet
  pub tension : ℕ
  pub buffers : Buffers
  pub letters : Letters

abbrev pub request : (tally rounds : ℕ) → ControlNet → (tension : ℕ) → Buffers → Letters → Request
request tally rounds net tension buffers letters = record { tally = tally; rounds = rounds; net = net; tension = tension; buffers = buffers; letters = letters }

-- the same, asked for k rounds
abbrev pub for_rounds : ℕ → Request → Request
for_rounds k a = request a.tally k a.net a.tension a.buffers a.letters

-- the same, made when the tally is t
abbrev pub from_tally : ℕ → Request → Request
from_tally t a = request t a.rounds a.net a.tension a.buffers a.letters

-- the result, and the caller's tally and tables as the call returns
pub record Outcome : Type 0 where
  pub result : Result
  pub tally : ℕ
  pub buffers : Buffers
  pub letters : List ℕ

-- ---- by the parameters of a call, in its order

-- the request that they make, with the tables as the call finds them
abbrev pub request_on : (tally rounds : ℕ) (vertices : List ℤ) (faces sides marks : List ℕ) (tension : ℕ) (out_vertices : List ℤ) (out_faces out_marks : List ℕ) (with_letters : Bool) (letters work : List ℕ) → Request
request_on tally rounds vertices faces sides marks tension out_vertices out_faces out_marks with_letters letters work =
    request tally rounds (control_net vertices faces sides marks) tension (buffers out_vertices out_faces out_marks work) (letter_table with_letters letters)

-- the outcome, with the tables as the call leaves them
abbrev pub outcome_on : Result → (tally : ℕ) (out_vertices : List ℤ) (out_faces out_marks letters work : List ℕ) → Outcome
outcome_on result tally out_vertices out_faces out_marks letters work = record { result = result; tally = tally; buffers = buffers out_vertices out_faces out_marks work; letters = letters }

-- ---- what a request asks for, and gives

-- how much the caller's tables hold
abbrev pub room_of : Buffers → Letters → Room
room_of o l = room (length o.vertices) (length o.faces) (length o.marks) l.asked (length l.table) (length o.work)

-- what decides the verdict of the check
abbrev pub call_of : Request → Call
call_of a = call a.rounds a.net a.tension (room_of a.buffers a.letters)

-- what the call adds to the tally if it is accepted
abbrev pub to_add : Request → ℕ
to_add a = new_points a.tension a.rounds a.net

-- the verdict on a refining call: that of the check, then 15, "tested last of all"
unfoldable pub request_verdict : Request → Verdict
request_verdict a = or_else (verdict (call_of a)) (tally_verdict a.tally (to_add a))

-- the letter table as an accepted call leaves it, where s are the letters of the refined net: a letter for each refined vertex from the front, where letters are asked for
abbrev pub lettered : List ℕ → Letters → List ℕ
lettered s l = cond l.asked (filled s l.table) l.table

-- the rounds of paper 01 start from the net that the split gives, or from the drawn net itself
abbrev pub refined_net : Request → Net
refined_net a = steps (tension a.tension) a.rounds (start_net a.net)

-- on 15 "tables left as after 5"
abbrev pub work_left : Request → List ℕ
work_left a = work_after (call_of a) a.buffers.work

-- "An accepted call fills the refined vertices, faces and marks from the front, reports both counts, leaves the first 16G work numbers zero and the rest of
-- every output as found." n is the refined net. Paper 02: "An accepted call adds refined vertices minus drawn vertices"
abbrev pub refined_outcome : Request → (n : Net) → Outcome
refined_outcome a n =
    outcome_on (refined_to (vertex_count n) (face_count n)) (a.tally + to_add a) (filled n.vertices a.buffers.vertices) (filled n.faces a.buffers.faces) (filled n.marks a.buffers.marks)
    (lettered (letters (tension a.tension) a.net a.rounds) a.letters) (work_left a)

-- "outputs untouched" on every refusal. Paper 02: "a refused call adds nothing."
abbrev pub refused_outcome : Request → (number place : ℕ) → Outcome
refused_outcome a r p = outcome_on (refused_with r p) a.tally a.buffers.vertices a.buffers.faces a.buffers.marks a.letters.table (work_left a)

abbrev pub outcome_by : Verdict → Request → (n : Net) → Outcome
outcome_by accepted a n = refined_outcome a n
outcome_by (refused r p) a n = refused_outcome a r p

unfoldable pub outcome : Request → Outcome
outcome a = outcome_by (request_verdict a) a (refined_net a)

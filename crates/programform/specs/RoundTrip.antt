-- Reading what is written for a net gives that net back.
use Rattle.std.specs.Prelude.{◌≡◌, Bool, List, [], ℕ, ◌≤◌, ℤ, length}
use Rattle.curve.specs.Weights.{tension}
use Rattle.nets.specs.Net as nets
use Rattle.tables.specs.Tables.{filled}
use Rattle.verdict.specs.Call.{Call, vertex_count, face_count}
use Rattle.verdict.specs.Verdict.{accepted, verdict}
use Rattle.scheme.specs.Step.{steps}
use Rattle.splitting.specs.Splitting.{start_net}
use Rattle.decimalform.specs.Decimal.{largest_number}
use Rattle.textform.specs.Limits.{longest_text}
use Rattle.textform.specs.Form.{TextNet, with_corner, parsed}
use Rattle.textform.specs.Text.{net_text}
use Rattle.readingform.specs.Loaded.{net_read, loaded, tables_of, counts_verdict, read_by}
use Rattle.printingform.specs.Tables.{vertices_of, faces_of}
use Rattle.programform.specs.Answer.{parse_any}

-- the lines that the program prints for the net m, with a header that states k rounds, and asks for letters or not
abbrev pub lines_of : ℕ → (rule : Bool) → nets.Net → TextNet
lines_of k rule m =
    record {
      rule = rule;
      counts = record { vertices = vertex_count m; faces = face_count m; rounds = k };
      vertices = vertices_of (vertex_count m) m.vertices m.marks;
      faces = faces_of (face_count m) m.faces;
    }

pub record ReadsBack (k : ℕ) (rule : Bool) (m : nets.Net) : Type 0 where
  -- the text has the form, the lines read are those written, and their tables are those of m
  pub form : parse_any (net_text with_corner (lines_of k rule m)) ≡ parsed (lines_of k rule m) []
  pub tables : tables_of (lines_of k rule m) ≡ m
  -- a text of at most 32,768 bytes whose counts the program serves fills its tables with m
  pub read : (vs : List ℤ) (fs ms : List ℕ) → length (net_text with_corner (lines_of k rule m)) ≤ longest_text → counts_verdict (lines_of k rule m).counts ≡ accepted
      → read_by parse_any (net_text with_corner (lines_of k rule m)) vs fs ms ≡ loaded (net_read k rule (vertex_count m) (face_count m)) (filled m.vertices vs) (filled m.faces fs) (filled m.marks ms)

-- of the net after any round of a call that the check accepts, the net where refining begins among them
pub record RoundTrip : Type 0 where
  pub back : (c : Call) → verdict c ≡ accepted → (j : ℕ) → j ≤ c.rounds → (k : ℕ) → k ≤ largest_number → (rule : Bool) → ReadsBack k rule (steps (tension c.tension) j (start_net c.net))

-- The numbers that cross the C boundary: the papers' number and place of each answer, the counts, the lengths to provide.
use Rattle.std.specs.Prelude.{List, ℕ, ◌*◌, ◌^◌}
use Rattle.verdict.specs.Call.{Room, needed, lengths, quadrilaterals}
use Rattle.verdict.specs.Verdict.{Verdict, accepted, refused, limits_verdict}
use Rattle.outcome.specs.Outcome.{Result, refined_to, refused_with}
use Rattle.reports.specs.declared.Finding.{Finding}
use Rattle.reports.specs.declared.Report.{Report}
use Rattle.reports.specs.declared.Sizes.{Sizes}
use Rattle.reports.specs.declared.SeamReport.{SeamReport}

-- reason 0: accepted
abbrev pub finding : Verdict → Finding
finding accepted = record { reason = 0; place = 0 }
finding (refused r p) = record { reason = r; place = p }

-- reason 0: refined; both counts are 0 on a refusal
abbrev pub report : Result → Report
report (refined_to v f) = record { reason = 0; place = 0; vertices = v; faces = f }
report (refused_with r p) = record { reason = r; place = p; vertices = 0; faces = 0 }

-- the lengths, or the refusal that holds whatever tables are given, with lengths 0; a letter table is as long as the marks
abbrev pub sizes_by : Verdict → Room → Sizes
sizes_by accepted n = record { reason = 0; out_vertices = n.vertices; out_faces = n.faces; out_marks = n.marks; work = n.work }
sizes_by (refused r p) n = record { reason = r; out_vertices = 0; out_faces = 0; out_marks = 0; work = 0 }

-- the verdict of the limits on a call with just these lengths, and these side counts
unfoldable pub sizes : (rounds coordinates corners : ℕ) (sides : List ℕ) (marks : ℕ) → Sizes
sizes k nv nf s nm =
    let g = quadrilaterals s nf * 4 ^ k in
    sizes_by (limits_verdict k s (lengths nv nf nm (needed g))) (needed g)

-- the seam test; reason 0: the segments match. Of a refusal the edges that `seam_tested` has are 0
abbrev pub seam_report_by : Verdict → (edges : ℕ) → SeamReport
seam_report_by accepted e = record { reason = 0; place = 0; edges = e }
seam_report_by (refused r p) e = record { reason = r; place = p; edges = e }

-- What crosses the C boundary: the numbers returned, and the caller's tables as they are left.
use Rattle.std.specs.Prelude.{List, ℕ, ℤ}
use Rattle.admission.specs.Answer.{Checked}
use Rattle.outcome.specs.Outcome.{Outcome}
use Rattle.seamtest.specs.SeamTest.{SeamTested}
use Rattle.nets.specs.Buffers.{Buffers, buffers}
use Rattle.reports.specs.declared.Finding.{Finding}
use Rattle.reports.specs.declared.Report.{Report}
use Rattle.reports.specs.declared.SeamReport.{SeamReport}
use Rattle.reports.specs.Report.{finding, report, seam_report_by}

-- the numbers that the function returns, and the work table as it leaves it
pub record CheckExport : Type 0 where
  pub finding : Finding
  pub work : List ℕ

abbrev pub check_export_of : Finding → List ℕ → CheckExport
check_export_of f w = record { finding = f; work = w }

abbrev pub check_export : Checked → CheckExport
check_export c = check_export_of (finding c.verdict) c.work

-- the numbers that the function returns, the points in the caller's record and the caller's tables as it leaves them
pub record RefineExport : Type 0 where
  pub report : Report
  pub points : ℕ
  pub buffers : Buffers
  pub letters : List ℕ

-- by the tables of a call, in its order
abbrev pub export_of : Report → (points : ℕ) (out_vertices : List ℤ) (out_faces out_marks letters work : List ℕ) → RefineExport
export_of report points out_vertices out_faces out_marks letters work = record { report = report; points = points; buffers = buffers out_vertices out_faces out_marks work; letters = letters }

abbrev pub refine_export : Outcome → RefineExport
refine_export o = record { report = report o.result; points = o.tally; buffers = o.buffers; letters = o.letters }

-- the numbers that the seam test returns, and the work table as it leaves it
pub record SeamExport : Type 0 where
  pub report : SeamReport
  pub work : List ℕ

abbrev pub seam_export_of : SeamReport → List ℕ → SeamExport
seam_export_of r w = record { report = r; work = w }

abbrev pub seam_export : SeamTested → SeamExport
seam_export t = seam_export_of (seam_report_by t.verdict t.edges) t.work

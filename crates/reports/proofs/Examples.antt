-- The lengths to provide, computed. Assumes nothing.
use mathlib.Core.Path.{◌≡◌, refl}
use mathlib.Core.List.{[], ◌∷◌}
use Rattle.search.specs.Search.{first_from, first, any}
use Rattle.polygons.specs.Polygons.{total, bad_count, bad_sides}
use Rattle.verdict.specs.Verdict.{limits_verdict, tables_verdict, size_verdict, room_verdict}
use Rattle.reports.specs.Report.{sizes}

-- 64 faces can be refined six times, 65 cannot; the empty net needs no tables; marks too few; a triangle and a square, and side counts that do not add up
lengths : sizes 6 243 256 [] 81 ∷ sizes 6 243 260 [] 81 ∷ sizes 6 0 0 [] 0 ∷ sizes 7 12 4 [] 4 ∷ sizes 1 12 4 [] 3 ∷ sizes 1 12 7 (3 ∷ 4 ∷ []) 4 ∷ sizes 1 12 7 (3 ∷ 3 ∷ []) 4 ∷ []
    ≡ record { reason = 0; out_vertices = 3145728; out_faces = 1048576; out_marks = 1048576; work = 4194304 }
    ∷ record { reason = 3; out_vertices = 0; out_faces = 0; out_marks = 0; work = 0 }
    ∷ record { reason = 0; out_vertices = 0; out_faces = 0; out_marks = 0; work = 0 }
    ∷ record { reason = 1; out_vertices = 0; out_faces = 0; out_marks = 0; work = 0 }
    ∷ record { reason = 2; out_vertices = 0; out_faces = 0; out_marks = 0; work = 0 }
    ∷ record { reason = 0; out_vertices = 336; out_faces = 112; out_marks = 112; work = 448 }
    ∷ record { reason = 14; out_vertices = 0; out_faces = 0; out_marks = 0; work = 0 }
    ∷ []
unfolding sizes limits_verdict tables_verdict size_verdict room_verdict bad_sides bad_count total first_from first any
lengths = refl

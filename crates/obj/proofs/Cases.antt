-- The outcome of each case of `read_net`. Assumes nothing.
use mathlib.Core.Path.{◌≡◌, sym, ap, ◌∙◌, subst}
use mathlib.Core.Bool.{false}
use mathlib.Core.List.{List, []}
use Prim.Native.Nat.{ℕ, ◌-◌, ◌≤◌, ◌<◌}
use native.Mathlib.Omega.{arith}
use lib.IntN.{ℤ}
use lib.ListN.{length, take, drop, length-drop}
use Rattle.decimalform.specs.Decimal.{read_as, bad}
use Rattle.decimal.proofs.Reading.{part_rest}
use Rattle.verdict.specs.Verdict.{Verdict, accepted}
use Rattle.textform.specs.Limits.{longest_text}
use Rattle.textform.specs.Form.{TextNet, parsed, bad_line}
use Rattle.readingform.specs.Loaded.{net_read, loaded, coordinates_of, marks_of, corners_of, counts_verdict, read_by}
use Rattle.reading.specs.Answers.{InputTables}
use Rattle.reading.proofs.Body.{ended_none, ended_some}
use Rattle.readingform.proofs.Limits.{passed_served}
use Rattle.readingform.proofs.Lengths.{length_coordinates, length_marks, length_corners}
use Rattle.reading.proofs.Storing.{front}
use Rattle.reading.proofs.Cases.{FormRead, net_there}
use Rattle.obj.proofs.Passing.{vertices_few, faces_few}
use Rattle.objform.specs.Form.{read_rounds, items, net_of, parse_items, parse_obj}
use Rattle.obj.specs.Answers.{item_vertices, item_faces, AllGood, BadAt, ItemsStored, ItemsRoom}

-- ---- the first line
module _ (l : List ℕ) where
  pub first_bad : read_rounds l ≡ bad → bad_line 1 ≡ parse_obj l
  unfolding parse_obj
  first_bad e = rw e

  module _ {k : ℕ} (at : ℕ) (e : read_rounds l ≡ read_as k (drop at l)) where
    first_good : parse_obj l ≡ parse_items k (drop at l)
    unfolding parse_obj
    first_good = rw e

    -- ---- the others
    pub other_bad : {n : ℕ} → BadAt (drop at l) n → bad_line n ≡ parse_obj l
    unfolding parse_items
    other_bad b = ap bad_line b.line ∙ sym (first_good ∙ ended_some _ _ (items (drop at l)).rest b.some)

    pub all_good : {v f : ℕ} → AllGood (drop at l) v f → parsed (net_of k (items (drop at l)).values) [] ≡ parse_obj l
    unfolding parse_items
    all_good g = sym (first_good ∙ ended_none _ _ (items (drop at l)).rest g.rest)

-- ---- the part of a slice from `at` on
module _ (l : List ℕ) (at : ℕ) where
  abbrev part : List ℕ
  part = take (length l - at) (drop at l)

  pub good_here : {v f : ℕ} → AllGood part v f → AllGood (drop at l) v f
  good_here {v} {f} g = subst (λ (p : List ℕ). AllGood p v f) (part_rest l at) g

  pub bad_here : {n : ℕ} → BadAt part n → BadAt (drop at l) n
  bad_here {n} g = subst (λ (p : List ℕ). BadAt p n) (part_rest l at) g

  -- v and f are no more than the bytes of l
  pub good_fits : {v f : ℕ} → length l ≤ longest_text → AllGood (drop at l) v f → (v < 4294967296) × (f < 4294967296)
  good_fits h g =
      let a = vertices_few (drop at l) in
      let b = faces_few (drop at l) in
      let c = g.vertices in
      let d = g.faces in
      let n = length-drop at l in
      (omega arith, omega arith)

-- ---- the text has the form, with v vertices and f faces from `at` on and k rounds
pub record ItemsRead (l : List ℕ) (k at v f : ℕ) : Type 0 where
  pub short : length l ≤ longest_text
  pub first : read_rounds l ≡ read_as k (drop at l)
  pub good : AllGood (drop at l) v f

module _ {l : List ℕ} {k at v f : ℕ} (c : ItemsRead l k at v f) where
  abbrev net : TextNet
  net = net_of k (items (drop at l)).values

  pub form_read : FormRead parse_obj l net
  form_read = record { short = c.short; form = all_good l at c.first c.good }

  pub verdict_read : {w : Verdict} → counts_verdict (record { vertices = v; faces = f; rounds = k }) ≡ w → counts_verdict net.counts ≡ w
  unfolding net_of
  verdict_read e = (λ i. counts_verdict (record { vertices = c.good.vertices i; faces = c.good.faces i; rounds = k })) ∙ e

  module _ (passed : counts_verdict (record { vertices = v; faces = f; rounds = k }) ≡ accepted) where
    module _ (vs : List ℤ) (fs ms : List ℕ) (room : InputTables (length vs) (length fs) (length ms)) where
      here_room : ItemsRoom (length (item_vertices (drop at l))) (length (item_faces (drop at l))) (length vs) (length fs) (length ms)
      here_room =
          let s = passed_served (record { vertices = v; faces = f; rounds = k }) passed in
          let a = c.good.vertices in
          let b = c.good.faces in
          record { vertices = omega arith; faces = omega arith; marks = omega arith }

      pub items_room : ItemsRoom (length (item_vertices (part l at))) (length (item_faces (part l at))) (length vs) (length fs) (length ms)
      items_room = rw (part_rest l at) here_room

      pub items_read : {u : List ℤ} {g o : List ℕ} → ItemsStored (item_vertices (part l at)) (item_faces (part l at)) 0 0 vs u fs g ms o → loaded (net_read k false v f) u g o ≡ read_by parse_obj l vs fs ms
      unfolding net_of
      items_read {u} {g} {o} w =
          let h : ItemsStored (item_vertices (drop at l)) (item_faces (drop at l)) 0 0 vs u fs g ms o = subst (λ (p : List ℕ). ItemsStored (item_vertices p) (item_faces p) 0 0 vs u fs g ms o) (part_rest l at) w in
          let q = here_room in
          let lv = length_coordinates (item_vertices (drop at l)) in
          let lm = length_marks (item_vertices (drop at l)) in
          let lf = length_corners (item_faces (drop at l)) in
          let eu = h.vertices ∙ front (coordinates_of (item_vertices (drop at l))) vs (omega arith) in
          let eg = h.faces ∙ front (corners_of (item_faces (drop at l))) fs (omega arith) in
          let eo = h.marks ∙ front (marks_of (item_vertices (drop at l))) ms (omega arith) in
          rw (eu, eg, eo, ← c.good.vertices, ← c.good.faces) (net_there form_read vs fs ms (verdict_read passed))

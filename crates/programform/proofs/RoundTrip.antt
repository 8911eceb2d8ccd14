-- Reading what is written for a net gives that net back. Assumes nothing.
use mathlib.Core.Path.{◌≡◌, refl, ap, ◌∙◌}
use mathlib.Core.Bool.{Bool}
use mathlib.Core.List.{List, [], ◌∷◌}
use Prim.Native.Nat.{ℕ, zero, suc, ◌+◌, ◌*◌, ◌/◌, ◌^◌, ◌≤◌, ◌<◌}
use native.Mathlib.Omega.{arith}
use native.Mathlib.Nat.{mul-le-mul_left, pow-le-pow_right}
use lib.IntN.{ℤ, pos, negsuc, nat_abs}
use lib.Signed.{mag}
use lib.ListN.{length, get_or}
use borrow.Author.Tests.{ltb-false}
use Rattle.bounds.specs.Bounds.{max_coordinate, max_refined_corners}
use Rattle.lists.specs.Tabulate.{tabulate}
use Rattle.lists.proofs.Tabulate.{length-tabulate, tabulate_cong, tabulate-get_or}
use Rattle.search.proofs.First.{first_before}
use Rattle.curve.specs.Weights.{tension}
use Rattle.curve.proofs.Tension.{tame}
use Rattle.nets.specs.Net as nets
use Rattle.tables.specs.Tables.{filled}
use Rattle.topology.specs.HalfEdge.{from}
use Rattle.refusals.specs.Refusals.{bad_mark}
use Rattle.verdict.specs.Call.{Call, vertex_count, face_count, quadrilaterals}
use Rattle.verdict.specs.Verdict.{accepted, verdict}
use Rattle.verdict.proofs.Accepted.{accepted_limits, accepted_tension, accepted_coordinate}
use Rattle.scheme.specs.Step.{steps}
use Rattle.schemelaws.specs.Nets.{Refinable}
use Rattle.integers.specs.Within.{Within}
use Rattle.schemelaws.proofs.Steps.{refinable_manifold, refinable_steps}
use Rattle.schemelaws.proofs.Growth.{steps_within}
use Rattle.splitting.specs.Splitting.{start_net}
use Rattle.splitting.proofs.Growth.{start_within}
use Rattle.splitting.proofs.Room.{refinable_vertices_le}
use Rattle.outcome.proofs.Accepted.{accepted_well_formed, accepted_refinable}
use Rattle.outcome.proofs.Counts.{corners_grown, start_corners}
use Rattle.decimalform.specs.Decimal.{largest_number}
use Rattle.textform.specs.Form.{Vertex, Face, with_corner, parsed}
use Rattle.textform.specs.Fits.{VertexFits, FaceFits, Every, NetFits}
use Rattle.textform.specs.Text.{texts, net_lines, net_text}
use Rattle.textform.proofs.Back.{net-back}
use Rattle.readingform.specs.Loaded.{net_read, loaded, coordinates_of, marks_of, corners_of, tables_of}
use Rattle.readingform.proofs.Back.{read_back}
use Rattle.printingform.specs.Tables.{text_vertex_at, text_face_at, vertices_of, faces_of}
use Rattle.programform.specs.Answer.{parse_any}
use Rattle.programform.specs.RoundTrip.{lines_of, ReadsBack, RoundTrip}
use Rattle.programform.proofs.Parsing.{parse_text, names_other}

-- one element, by two forms of its index
same_at : {A : Type 0} (l : List A) (d : A) (a b : ℕ) → a ≡ b → get_or l a d ≡ get_or l b d
same_at l d a b e = ap (λ (n : ℕ). get_or l n d) e

-- ---- tables of lines of tables
coordinates_back : (vs : List ℤ) (ms : List ℕ) → length vs ≡ 3 * length ms → coordinates_of (tabulate (length ms) (text_vertex_at vs ms)) ≡ vs
unfolding coordinates_of tabulate
coordinates_back [] [] e = refl
coordinates_back (x ∷ vs) [] e = absurd (omega arith)
coordinates_back [] (m ∷ ms) e = absurd (omega arith)
coordinates_back (x ∷ []) (m ∷ ms) e = absurd (omega arith)
coordinates_back (x ∷ y ∷ []) (m ∷ ms) e = absurd (omega arith)
coordinates_back (x ∷ y ∷ z ∷ vs) (m ∷ ms) e =
    let c = tabulate_cong (length ms) (λ (i : ℕ). text_vertex_at (x ∷ y ∷ z ∷ vs) (m ∷ ms) (suc i)) (text_vertex_at vs ms) (λ i h.
    let a = same_at (x ∷ y ∷ z ∷ vs) (pos 0) (3 * suc i) (suc (suc (suc (3 * i)))) (omega arith) in
    let b = same_at (x ∷ y ∷ z ∷ vs) (pos 0) (3 * suc i + 1) (suc (suc (suc (3 * i + 1)))) (omega arith) in
    let c = same_at (x ∷ y ∷ z ∷ vs) (pos 0) (3 * suc i + 2) (suc (suc (suc (3 * i + 2)))) (omega arith) in
    λ j. record { x = a j; y = b j; z = c j; mark = get_or ms i 0 }) in
    ap (λ (t : List Vertex). x ∷ y ∷ z ∷ coordinates_of t) c ∙ ap (λ (t : List ℤ). x ∷ y ∷ z ∷ t) (coordinates_back vs ms (omega arith))

marks_tabulate : (n : ℕ) (f : ℕ → Vertex) → marks_of (tabulate n f) ≡ tabulate n (λ (i : ℕ). (f i).mark)
unfolding marks_of tabulate
marks_tabulate zero f = refl
marks_tabulate (suc n) f = ap (λ (t : List ℕ). (f 0).mark ∷ t) (marks_tabulate n (λ (i : ℕ). f (suc i)))

corners_back : (n : ℕ) (fs : List ℕ) → length fs ≡ 4 * n → corners_of (tabulate n (text_face_at fs)) ≡ fs
unfolding corners_of tabulate
corners_back zero [] e = refl
corners_back zero (a ∷ fs) e = absurd (omega arith)
corners_back (suc n) [] e = absurd (omega arith)
corners_back (suc n) (a ∷ []) e = absurd (omega arith)
corners_back (suc n) (a ∷ b ∷ []) e = absurd (omega arith)
corners_back (suc n) (a ∷ b ∷ c ∷ []) e = absurd (omega arith)
corners_back (suc n) (a ∷ b ∷ c ∷ d ∷ fs) e =
    let g = tabulate_cong n (λ (i : ℕ). text_face_at (a ∷ b ∷ c ∷ d ∷ fs) (suc i)) (text_face_at fs) (λ i h.
    let p = same_at (a ∷ b ∷ c ∷ d ∷ fs) 0 (4 * suc i) (suc (suc (suc (suc (4 * i))))) (omega arith) in
    let q = same_at (a ∷ b ∷ c ∷ d ∷ fs) 0 (4 * suc i + 1) (suc (suc (suc (suc (4 * i + 1))))) (omega arith) in
    let r = same_at (a ∷ b ∷ c ∷ d ∷ fs) 0 (4 * suc i + 2) (suc (suc (suc (suc (4 * i + 2))))) (omega arith) in
    let s = same_at (a ∷ b ∷ c ∷ d ∷ fs) 0 (4 * suc i + 3) (suc (suc (suc (suc (4 * i + 3))))) (omega arith) in
    λ j. record { a = p j; b = q j; c = r j; d = s j }) in
    ap (λ (t : List Face). a ∷ b ∷ c ∷ d ∷ corners_of t) g ∙ ap (λ (t : List ℕ). a ∷ b ∷ c ∷ d ∷ t) (corners_back n fs (omega arith))

each-tabulate : {A : Type 0} (P : A → Type 0) (n : ℕ) (f : ℕ → A) → ((i : ℕ) → i < n → P (f i)) → Every P (tabulate n f)
unfolding Every tabulate
each-tabulate P zero f h = tt
each-tabulate P (suc n) f h = (h 0 (omega arith), each-tabulate P n (λ (i : ℕ). f (suc i)) (λ i b. h (suc i) (omega arith)))

mag_small : (z : ℤ) → nat_abs z ≤ 268435456 → mag z ≤ largest_number
mag_small (pos n) h = omega arith
mag_small (negsuc n) h = omega arith

-- ---- a net whose numbers the form can write
module _ (k : ℕ) (few : k ≤ largest_number) (rule : Bool) (m : nets.Net) (ok : Refinable m) (near : Within 268435456 m.vertices) (v : length m.marks ≤ largest_number) (f : length m.faces ≤ largest_number) where
  mark_small : (i : ℕ) → i < length m.marks → get_or m.marks i 0 ≤ 255
  unfolding bad_mark
  mark_small i h = let e = ok.no6 in let a = ltb-false 1 (get_or m.marks i 0) (first_before (bad_mark m.marks) (length m.marks) i (omega arith)) in omega arith

  corner_small : (h : ℕ) → h < length m.faces → get_or m.faces h 0 ≤ largest_number
  unfolding from
  corner_small h b = let a = (refinable_manifold m ok).oriented.below h b in omega arith

  vertex_fits : (i : ℕ) → i < length m.marks → VertexFits (text_vertex_at m.vertices m.marks i)
  vertex_fits i h =
      let t = ok.threes in
      record {
        x = mag_small (get_or m.vertices (3 * i) (pos 0)) (near.at (3 * i) (omega arith));
        y = mag_small (get_or m.vertices (3 * i + 1) (pos 0)) (near.at (3 * i + 1) (omega arith));
        z = mag_small (get_or m.vertices (3 * i + 2) (pos 0)) (near.at (3 * i + 2) (omega arith));
        mark = mark_small i h;
      }

  face_fits : (i : ℕ) → i < length m.faces / 4 → FaceFits (text_face_at m.faces i)
  face_fits i h =
      let q = ok.fours in
      record { a = corner_small (4 * i) (omega arith); b = corner_small (4 * i + 1) (omega arith); c = corner_small (4 * i + 2) (omega arith); d = corner_small (4 * i + 3) (omega arith) }

  net_fits : NetFits with_corner (lines_of k rule m)
  unfolding vertices_of faces_of
  net_fits = record {
    counts = record { vertices = v; faces = omega arith; rounds = few };
    vertex_count = length-tabulate (length m.marks) (text_vertex_at m.vertices m.marks);
    face_count = length-tabulate (length m.faces / 4) (text_face_at m.faces);
    vertices = each-tabulate VertexFits (length m.marks) (text_vertex_at m.vertices m.marks) vertex_fits;
    faces = each-tabulate FaceFits (length m.faces / 4) (text_face_at m.faces) face_fits;
  }

  tables_back : tables_of (lines_of k rule m) ≡ m
  unfolding vertices_of faces_of
  tables_back =
      let q = ok.fours in
      let a = coordinates_back m.vertices m.marks ok.threes in
      let b = corners_back (length m.faces / 4) m.faces (omega arith) in
      let c = marks_tabulate (length m.marks) (text_vertex_at m.vertices m.marks) ∙ tabulate-get_or m.marks 0 in
      λ i. record { vertices = a i; faces = b i; marks = c i }

  form_back : parse_any (net_text with_corner (lines_of k rule m)) ≡ parsed (lines_of k rule m) []
  unfolding net_text net_lines texts
  form_back = parse_text (net_text with_corner (lines_of k rule m)) (names_other rule _) ∙ net-back with_corner (lines_of k rule m) net_fits

  reads_back : ReadsBack k rule m
  reads_back = record {
    form = form_back;
    tables = tables_back;
    read = λ vs fs ms short passes.
        read_back parse_any (net_text with_corner (lines_of k rule m)) (lines_of k rule m) vs fs ms form_back short passes
        ∙ ap (λ (n : nets.Net). loaded (net_read k rule (vertex_count m) (face_count m)) (filled n.vertices vs) (filled n.faces fs) (filled n.marks ms)) tables_back;
  }

-- ---- an accepted call
module _ (c : Call) (e : verdict c ≡ accepted) (j : ℕ) (h : j ≤ c.rounds) where
  abbrev m : nets.Net
  m = start_net c.net

  corners_few : length (steps (tension c.tension) j m).faces ≤ max_refined_corners
  corners_few =
      let w = accepted_limits c e in
      let p : 4 ^ j ≤ 4 ^ c.rounds = pow-le-pow_right {n = 4} (omega arith) h in
      let q = quadrilaterals c.net.sides (length c.net.faces) in
      let g : q * 4 ^ j ≤ q * 4 ^ c.rounds = mul-le-mul_left q p in
      let a = corners_grown c.tension m j ∙ start_corners c e (4 ^ j) in
      let f = w.final in
      omega arith

  accepted_back : (k : ℕ) → k ≤ largest_number → (rule : Bool) → ReadsBack k rule (steps (tension c.tension) j m)
  accepted_back k few rule =
      let d = accepted_well_formed c e in
      let ok = accepted_refinable c e in
      let near = steps_within (tension c.tension) (tame c.tension (accepted_tension c e)) m ok (start_within c.net d max_coordinate (record { at = accepted_coordinate c e })) j (let w = (accepted_limits c e).few in omega arith) in
      let l = refinable_vertices_le (steps (tension c.tension) j m) (refinable_steps (tension c.tension) m ok j) in
      let n = corners_few in
      reads_back k few rule (steps (tension c.tension) j m) (refinable_steps (tension c.tension) m ok j) near (omega arith) (omega arith)

pub round_trip : RoundTrip
round_trip = record { back = λ c e j h k few rule. accepted_back c e j h k few rule }

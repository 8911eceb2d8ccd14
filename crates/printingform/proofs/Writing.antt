-- Lines written one after another: what is stored so far, and what is left. Assumes nothing.
use mathlib.Core.Path.{◌≡◌, refl, sym, ap, ap₂, ◌∙◌}
use mathlib.Core.Bool.{Bool, true, false}
use mathlib.Core.List.{List, [], ◌∷◌, ◌++◌, append-nil, append_assoc}
use Prim.Native.Nat.{ℕ, zero, suc, ◌+◌, ◌*◌, ◌≤◌, ◌<◌}
use native.Mathlib.Nat.{add-zero, mul-suc}
use native.Mathlib.Numerals.{add-one}
use native.Mathlib.Omega.{arith}
use lib.IntN.{ℤ}
use lib.ListN.{length, get_or, set, drop}
use lib.Seq.{sets-eq}
use Rattle.lists.specs.Tabulate.{tabulate}
use Rattle.lists.proofs.Tabulate.{length-tabulate}
use Rattle.tables.specs.Tables.{filled}
use Rattle.decimalform.specs.Stored.{Stored}
use Rattle.decimalform.proofs.Writing.{stored_then}
use Rattle.textform.specs.Limits.{program_vertices, program_faces}
use Rattle.textform.specs.Bytes.{bytes}
use Rattle.textform.specs.Form.{Vertex, corner_names}
use Rattle.textform.specs.Text.{field, texts, pair_text, numbers_text, columns_text, lettered_text, face_text, answer_text}
use Rattle.printingform.specs.Tables.{text_vertex_at, lettered_at, text_face_at, lettered_of, faces_of, tables_text, room_for, answer_room}
use Rattle.printingform.specs.Lines.{Printed, TextWritten}

-- ---- one byte after a text
pub stored_field : (d o : List ℕ) (at r e : ℕ) (s : List ℕ) → Stored d o at r s → Stored d (set o r e) at (r + 1) (field s e)
stored_field d o at r e s w = stored_then d o (set o r e) at r (r + 1) s (e ∷ []) w (record { bytes = refl; end = refl })

-- ---- fields in a row: texts printed one after another, within the sum of what each takes at most
pub in_row : {d e o : List ℕ} {at r q : ℕ} {s t : List ℕ} {m n : ℕ} → Printed d e at r s m → Printed e o r q t n → Printed d o at q (s ++ t) (m + n)
in_row {d} {e} {o} {at} {r} {q} {s} {t} v w =
    let a = v.within in
    let b = w.within in
    record { stored = stored_then d e o at r q s t v.stored w.stored; within = omega arith }

-- ---- lines, one a turn
texts_more : {A : Type 0} (text : A → List ℕ) (i : ℕ) (item : ℕ → A) → texts text (tabulate (suc i) item) ≡ texts text (tabulate i item) ++ text (item i)
unfolding texts tabulate
texts_more text zero item = append-nil (text (item 0))
texts_more text (suc i) item = ap (λ (l : List ℕ). text (item 0) ++ l) (texts_more text i (λ (k : ℕ). item (suc k))) ∙ sym (append_assoc (text (item 0)) _ (text (item (suc i))))

module _ {A : Type 0} (text : A → List ℕ) (item : ℕ → A) (most : ℕ) where
  pub lines_none : (d : List ℕ) (at : ℕ) → Printed d d at at (texts text (tabulate 0 item)) (most * 0)
  unfolding texts tabulate
  lines_none d at = record { stored = record { bytes = refl; end = sym (add-zero at) }; within = omega arith }

  pub lines_more : {d e o : List ℕ} {at r q : ℕ} (i : ℕ) → Printed d e at r (texts text (tabulate i item)) (most * i) → Printed e o r q (text (item i)) most
      → Printed d o at q (texts text (tabulate (i + 1) item)) (most * (i + 1))
  lines_more i v w = rw (add-one i, texts_more text i item, mul-suc most i) (in_row v w)

-- ---- the whole text, from the front on
pub at_front : (d o : List ℕ) (r : ℕ) (s : List ℕ) (m most : ℕ) → Printed d o 0 r s m → m ≤ most → most ≤ length d → TextWritten d o r s most
unfolding filled
at_front d o r s m most w h k =
    let e = w.stored.end in
    let l = w.within in
    let z : 0 + length s ≡ length s = omega arith in
    record { bytes = w.stored.bytes ∙ sets-eq s d 0 (omega arith) ∙ ap (λ (n : ℕ). s ++ drop n d) z; long = omega arith; fits = omega arith }

-- the answer has the counts that were given
pub answer_is : (rule : Bool) (v f : ℕ) (vs : List ℤ) (fs ms ls : List ℕ)
    → tables_text rule v f vs fs ms ls
    ≡ bytes "vertices faces\n" ++ pair_text v f ++ columns_text rule ++ texts (lettered_text rule) (lettered_of v vs ms ls) ++ corner_names tt ++ texts face_text (faces_of f fs)
unfolding answer_text lettered_of faces_of
answer_is rule v f vs fs ms ls = rw (length-tabulate v (lettered_at vs ms ls), length-tabulate f (text_face_at fs))

-- ---- tables with the same text
texts-same : {A : Type 0} (text : A → List ℕ) (n : ℕ) (a b : ℕ → A) → ((i : ℕ) → i < n → text (a i) ≡ text (b i)) → texts text (tabulate n a) ≡ texts text (tabulate n b)
unfolding texts tabulate
texts-same text zero a b h = refl
texts-same text (suc n) a b h = ap₂ ◌++◌ (h 0 (omega arith)) (texts-same text n (λ (k : ℕ). a (suc k)) (λ (k : ℕ). b (suc k)) (λ i k. h (suc i) (omega arith)))

line_same : (rule : Bool) (u v : Vertex) (l k : ℕ) → u ≡ v → (rule ≡ true → l ≡ k) → lettered_text rule (record { vertex = u; letter = l }) ≡ lettered_text rule (record { vertex = v; letter = k })
unfolding lettered_text
line_same false u v l k e h = ap (λ (x : Vertex). numbers_text x ++ (10 ∷ [])) e
line_same true u v l k e h = ap₂ (λ (x : Vertex) (c : ℕ). numbers_text x ++ (32 ∷ c ∷ 10 ∷ [])) e (h refl)

-- the answer has the first v vertices and f faces, and letters only if they are asked for
pub tables_same : (rule : Bool) (v f : ℕ) (vs us : List ℤ) (fs gs ms ns ls ks : List ℕ) → ((i : ℕ) → i < v → text_vertex_at vs ms i ≡ text_vertex_at us ns i) → ((i : ℕ) → i < f → text_face_at fs i ≡ text_face_at gs i)
    → (rule ≡ true → (i : ℕ) → i < v → get_or ls i 0 ≡ get_or ks i 0) → tables_text rule v f vs fs ms ls ≡ tables_text rule v f us gs ns ks
unfolding lettered_of faces_of
tables_same rule v f vs us fs gs ms ns ls ks hv hf hl =
    let a = texts-same (lettered_text rule) v (lettered_at vs ms ls) (lettered_at us ns ks) (λ i b. line_same rule (text_vertex_at vs ms i) (text_vertex_at us ns i) (get_or ls i 0) (get_or ks i 0) (hv i b) (λ e. hl e i b)) in
    let b = texts-same face_text f (text_face_at fs) (text_face_at gs) (λ i b. ap face_text (hf i b)) in
    answer_is rule v f vs fs ms ls
    ∙ ap₂ (λ (s t : List ℕ). bytes "vertices faces\n" ++ pair_text v f ++ columns_text rule ++ s ++ corner_names tt ++ t) a b
    ∙ sym (answer_is rule v f us gs ns ks)

-- a buffer with that room holds every answer and every refusal
pub every_answer_fits : (rule : Bool) (v f : ℕ) → v ≤ program_vertices → f ≤ program_faces → room_for rule v f ≤ answer_room
every_answer_fits false v f h k = omega arith
every_answer_fits true v f h k = omega arith

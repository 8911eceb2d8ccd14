-- The second pass: one line's numbers are stored a turn, and the table that the whole text gives is the one that the rest gives from here. Assumes nothing.
use mathlib.Core.Path.{◌≡◌, refl, sym, ap, ◌∙◌}
use mathlib.Core.List.{List, [], ◌∷◌, ◌++◌}
use Prim.Native.Nat.{ℕ, ◌+◌, ◌*◌, ◌-◌, ◌≤◌, ◌<◌}
use native.Mathlib.Omega.{arith}
use lib.IntN.{ℤ}
use lib.ListN.{length, take, drop}
use lib.Seq.{sets, sets-eq}
use Rattle.decimalform.proofs.Writing.{sets_after}
use Rattle.decimalform.specs.Decimal.{Read, read_as, bad}
use Rattle.decimal.proofs.Reading.{part_rest}
use Rattle.textform.specs.Form.{Vertex, Face, Rows, rows, no_rows}
use Rattle.tables.specs.Tables.{filled}
use Rattle.readingform.specs.Loaded.{coordinates_of, marks_of, corners_of}
use Rattle.reading.proofs.Lines.{rows_bad, rows_over, rows_next}

-- after i of `count` lines the table t, from k on, takes what is left, and so comes to what t₀ comes to with all of them
pub record Filling {A E : Type 0} (flat : List A → List E) (read : List ℕ → Read A) (count : ℕ) (l : List ℕ) (t₀ t : List E) (k i at : ℕ) : Type 0 where
  pub kept : length t ≡ length t₀
  pub table : sets t₀ 0 (flat (rows read count l).values) ≡ sets t k (flat (rows read (count - i) (drop at l)).values)

module _ {A E : Type 0} {flat : List A → List E} {read : List ℕ → Read A} {count : ℕ} {l : List ℕ} {t₀ t : List E} {k i at : ℕ} (f : Filling flat read count l t₀ t k i at) where
  -- the next line is v, and its numbers are stored
  pub filling_more : (v : A) (n : ℕ) (u : List E) (j : ℕ) → i < count → read (drop at l) ≡ read_as v (drop n (drop at l)) → ((vs : List A) → sets t k (flat (v ∷ vs)) ≡ sets u j (flat vs))
      → length u ≡ length t → Filling flat read count l t₀ u j (i + 1) (at + n)
  filling_more v n u j h e store same =
      let more = ap (λ (w : Rows A). sets t k (flat w.values)) (rows_next read count l i at v n h e) in
      record { kept = same ∙ f.kept; table = f.table ∙ more ∙ store (rows read (count - (i + 1)) (drop (at + n) l)).values }

  -- no line is left, or the next is bad
  module _ (none : (m : List E) (j : ℕ) → sets m j (flat []) ≡ m) where
    ends : rows read (count - i) (drop at l) ≡ no_rows (drop at l) → t ≡ sets t₀ 0 (flat (rows read count l).values)
    ends e = sym (f.table ∙ ap (λ (w : Rows A). sets t k (flat w.values)) e ∙ none t k)

    pub filling_over : count ≤ i → t ≡ sets t₀ 0 (flat (rows read count l).values)
    filling_over h = ends (rows_over read count l i at h)

    pub filling_bad : read (drop at l) ≡ bad → t ≡ sets t₀ 0 (flat (rows read count l).values)
    filling_bad e = ends (rows_bad read (count - i) (drop at l) e)

-- ---- the numbers of one line, and of none
one_more_stored : {A E : Type 0} (flat : List A → List E) → ((v : A) (vs : List A) → flat (v ∷ vs) ≡ flat (v ∷ []) ++ flat vs)
    → (t : List E) (k j : ℕ) (v : A) (vs : List A) → j ≡ k + length (flat (v ∷ [])) → sets t k (flat (v ∷ vs)) ≡ sets (sets t k (flat (v ∷ []))) j (flat vs)
one_more_stored flat split t k j v vs e = rw (split v vs, e) (sym (sets_after (flat (v ∷ [])) t (flat vs) k))

pub vertex_stored : (t : List ℤ) {u : List ℤ} (i : ℕ) (v : Vertex) → u ≡ sets t (3 * i) (coordinates_of (v ∷ [])) → (vs : List Vertex) → sets t (3 * i) (coordinates_of (v ∷ vs)) ≡ sets u (3 * (i + 1)) (coordinates_of vs)
unfolding coordinates_of
vertex_stored t i v e vs = rw e (one_more_stored coordinates_of (λ x xs. refl) t (3 * i) (3 * (i + 1)) v vs (omega arith))

pub mark_stored : (t : List ℕ) {u : List ℕ} (i : ℕ) (v : Vertex) → u ≡ sets t i (marks_of (v ∷ [])) → (vs : List Vertex) → sets t i (marks_of (v ∷ vs)) ≡ sets u (i + 1) (marks_of vs)
unfolding marks_of
mark_stored t i v e vs = rw e (one_more_stored marks_of (λ x xs. refl) t i (i + 1) v vs (omega arith))

pub face_stored : (t : List ℕ) {u : List ℕ} (i : ℕ) (f : Face) → u ≡ sets t (4 * i) (corners_of (f ∷ [])) → (fs : List Face) → sets t (4 * i) (corners_of (f ∷ fs)) ≡ sets u (4 * (i + 1)) (corners_of fs)
unfolding corners_of
face_stored t i f e fs = rw e (one_more_stored corners_of (λ x xs. refl) t (4 * i) (4 * (i + 1)) f fs (omega arith))

pub no_coordinates : (t : List ℤ) (j : ℕ) → sets t j (coordinates_of []) ≡ t
unfolding coordinates_of
no_coordinates t j = refl

pub no_marks : (t : List ℕ) (j : ℕ) → sets t j (marks_of []) ≡ t
unfolding marks_of
no_marks t j = refl

pub no_corners : (t : List ℕ) (j : ℕ) → sets t j (corners_of []) ≡ t
unfolding corners_of
no_corners t j = refl

-- ---- a table that has room is filled from the front
pub front : {A : Type 0} (new old : List A) → length new ≤ length old → sets old 0 new ≡ filled new old
unfolding filled
front new old h = let e : 0 + length new ≡ length new = omega arith in sets-eq new old 0 (omega arith) ∙ ap (λ (k : ℕ). new ++ drop k old) e

-- u is t with the lines from i on stored from the front
pub placed : {A E : Type 0} (flat : List A → List E) (read : List ℕ → Read A) (n : ℕ) (l : List ℕ) (i : ℕ) (t : List E) {u : List E} → u ≡ sets t 0 (flat (rows read n (take (length l - i) (drop i l))).values)
    → length (flat (rows read n (drop i l)).values) ≤ length t → u ≡ filled (flat (rows read n (drop i l)).values) t
placed flat read n l i t e h = e ∙ ap (λ (q : List ℕ). sets t 0 (flat (rows read n q).values)) (part_rest l i) ∙ front (flat (rows read n (drop i l)).values) t h

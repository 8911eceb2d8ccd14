-- A text that has the form has as many vertex and face lines as it states. Assumes nothing.
use mathlib.Core.Path.{◌≡◌, refl, sym, ap, ◌∙◌}
use mathlib.Core.Bool.{Bool, true, false, cond}
use mathlib.Core.List.{List, [], ◌∷◌}
use Prim.Native.Nat.{ℕ, ◌+◌}
use native.Mathlib.Omega.{arith}
use lib.Dec.{eqb}
use lib.ListN.{length}
use borrow.Author.Tests.{eqb-true}
use Rattle.textform.specs.Form.{TextNet, Head, Rows, Parsed, parsed, bad_line, next, line, lines, ended, read_corner_names, read_vertex, read_face, rows, parse_head, parse_body, parse}

abbrev pub Stated : Parsed TextNet → Type 0
Stated (parsed n l) = (length n.vertices ≡ n.counts.vertices) × (length n.faces ≡ n.counts.faces)
Stated (bad_line n) = Unit {0}

pub after : {A : Type 0} (q : Parsed A) (f : A → List ℕ → Parsed TextNet) → ((v : A) (l : List ℕ) → q ≡ parsed v l → Stated (f v l)) → Stated (next q f)
after (parsed v l) f h = h v l refl
after (bad_line n) f h = tt

module _ {A : Type 0} where
  abbrev values : Parsed (List A) → List A
  values (parsed vs l) = vs
  values (bad_line n) = []

  lines_count : (n count : ℕ) (w : Rows A) (vs : List A) (l : List ℕ) → lines n count w ≡ parsed vs l → length vs ≡ count
  lines_count n count w vs l e = go (eqb (length w.values) count) refl e
    where
      go : (b : Bool) → eqb (length w.values) count ≡ b → cond b (parsed w.values w.rest) (bad_line (n + length w.values)) ≡ parsed vs l → length vs ≡ count
      go true h e = ap (λ (q : Parsed (List A)). length (values q)) (sym e) ∙ eqb-true (length w.values) count h
      go false h e = let z : ◌≡◌ {A = ℕ} 0 1 = cc in absurd (omega arith)

pub ended_stated : (n : ℕ) (v : TextNet) (l : List ℕ) → Stated (parsed v []) → Stated (ended n v l)
ended_stated n v [] h = h
ended_stated n v (b ∷ l) h = tt

body_stated : (h : Head) (l : List ℕ) → Stated (parse_body h l)
unfolding parse_body
body_stated h l =
    let v = h.counts.vertices in
    let f = h.counts.faces in
    after (lines 4 v (rows (read_vertex h.marks) v l)) _ (λ vs l₁ e.
    after (line (4 + v) (read_corner_names l₁)) _ (λ _ l₂ _.
    after (lines (5 + v) f (rows read_face f l₂)) _ (λ fs l₃ d.
    ended_stated (5 + v + f) _ l₃ (lines_count 4 v (rows (read_vertex h.marks) v l) vs l₁ e, lines_count (5 + v) f (rows read_face f l₂) fs l₃ d))))

pub text_stated : (l : List ℕ) → Stated (parse l)
unfolding parse
text_stated l = after (parse_head l) parse_body (λ h l₁ _. body_stated h l₁)

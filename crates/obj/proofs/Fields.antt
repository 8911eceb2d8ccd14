-- Reading a line: bytes that are skipped, a field, and the numbers of the first line. Assumes nothing.
use mathlib.Core.Path.{◌≡◌, refl, sym, ap, ◌∙◌}
use mathlib.Core.Bool.{Bool, true, false, ◌||◌}
use mathlib.Core.List.{List, ◌∷◌}
use Prim.Native.Nat.{ℕ, zero, suc, ◌+◌, ◌-◌, ◌≤◌, ◌<◌}
use native.Mathlib.Numerals.{add-one}
use native.Mathlib.Omega.{arith}
use lib.Dec.{eqb}
use lib.ListN.{length, get_or, take, drop, drop_of_length-le}
use lib.Seq.{drop-cons, drop-drop}
use borrow.Author.Tests.{eq-eqb, ne_eqb}
use Rattle.decimalform.specs.Decimal.{Read, read_as, bad, read_natural, largest_number}
use Rattle.std.proofs.Common.{Option, Some, None}
use Rattle.decimal.specs.declared.Read as declared
use Rattle.decimal.specs.Answers.{read_of, GivesNumber}
use Rattle.reading.proofs.Lines.{line_reads}
use Rattle.textform.specs.Bytes.{bytes}
use Rattle.textform.specs.Form.{starts_with, ended_by, natural}
use Rattle.objform.specs.Form.{skip_to, skip_part, named, read_corner, read_rounds}
use Rattle.obj.specs.Answers.{StartsAt}

-- ---- skipping, one byte a turn
or_true : (b : Bool) → (b || true) ≡ true
or_true true = refl
or_true false = refl

module _ (l : List ℕ) (i e : ℕ) (h : i < length l) where
  at : drop i l ≡ get_or l i 0 ∷ drop (i + 1) l
  at = rw add-one (drop-cons l i 0 h)

  pub skip_on : (get_or l i 0 ≡ e → ⊥) → (get_or l i 0 ≡ 10 → ⊥) → skip_to e (drop i l) ≡ skip_to e (drop (i + 1) l)
  unfolding skip_to
  skip_on n k = rw (at, ne_eqb (get_or l i 0) e n, ne_eqb (get_or l i 0) 10 k)

  pub skip_stop : get_or l i 0 ≡ e → skip_to e (drop i l) ≡ drop i l
  unfolding skip_to
  skip_stop s = rw (at, eq-eqb (get_or l i 0) e s)

  pub skip_newline : get_or l i 0 ≡ 10 → skip_to e (drop i l) ≡ drop i l
  unfolding skip_to
  skip_newline s = rw (at, eq-eqb (get_or l i 0) 10 s, or_true (eqb (get_or l i 0) e))

pub skip_end : (l : List ℕ) (i e : ℕ) → length l ≤ i → skip_to e (drop i l) ≡ drop i l
unfolding skip_to
skip_end l i e h = rw (drop_of_length-le l {i = i} h)

-- ---- a field, where r is the answer for its number
named-zero : (n : ℕ) (l : List ℕ) → n ≡ 0 → named (read_as n l) ≡ bad
named-zero zero l e = refl
named-zero (suc n) l e = absurd (omega arith)

named_some : (n : ℕ) (l : List ℕ) → (n ≡ 0 → ⊥) → named (read_as n l) ≡ read_as (n - 1) (skip_part l)
named_some zero l e = absurd (e refl)
named_some (suc n) l e = let q : suc n - 1 ≡ n = omega arith in rw q

module _ (l : List ℕ) (at e : ℕ) where
  abbrev rest : List ℕ
  rest = take (length l - at) (drop at l)

  abbrev GivesRest : Option (declared.Read ℕ) → Type 0
  GivesRest r = GivesNumber r rest (read_natural largest_number rest)

  by_number : {r : Option (declared.Read ℕ)} → GivesRest r → read_corner e (drop at l) ≡ ended_by e (named (read_of (λ (n : ℕ). n) r (drop at l)))
  unfolding read_corner
  by_number g = ap (λ (w : Read ℕ). ended_by e (named w)) (line_reads (read_natural largest_number) l at g)

  pub corner_bad : GivesRest None → bad ≡ read_corner e (drop at l)
  corner_bad g = sym (by_number g)

  module _ {n : declared.Read ℕ} (g : GivesRest (Some n)) where
    pub corner_zero : n.value ≡ 0 → bad ≡ read_corner e (drop at l)
    corner_zero z = sym (by_number g ∙ ap (ended_by e) (named-zero n.value (drop n.used (drop at l)) z))

    pub corner_ended : {r : Option (declared.Read ℕ)} {stop v : ℕ} → 0 < n.value → v ≡ n.value - 1 → StartsAt (skip_part (drop (at + n.used) l)) l (at + n.used) stop
        → GivesNumber r l (ended_by e (read_as v (drop stop l))) → GivesNumber r l (read_corner e (drop at l))
    corner_ended {r} {stop} {v} some q s h =
        let m = ap skip_part (drop-drop n.used at l) ∙ sym s.rest in
        let k : read_corner e (drop at l) ≡ ended_by e (read_as v (drop stop l)) = by_number g ∙ ap (ended_by e) (named_some n.value (drop n.used (drop at l)) (λ z. let y : ⊥ = omega arith in y)) ∙ rw (m, q) in
        rw k h

-- ---- the first line
module _ (l : List ℕ) where
  pub rounds_none : starts_with (bytes "# rounds ") l ≡ false → bad ≡ read_rounds l
  unfolding read_rounds
  rounds_none e = rw e

  module _ (e : starts_with (bytes "# rounds ") l ≡ true) where
    pub rounds_there : read_rounds l ≡ natural largest_number 10 (drop 9 l)
    unfolding read_rounds bytes
    rounds_there = rw e

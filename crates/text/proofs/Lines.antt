-- What the answers of the line readers say: a field at its place, a line of names. Assumes nothing.
use Rattle.std.proofs.Common.{◌≡◌, ℕ, ◌+◌, ◌-◌, Bool, true, false, ◌&&◌, List, [], ◌∷◌, length, take, drop, Option, Some, None, refl, sym, ap, ◌∙◌, arith}
use Rattle.std.specs.List as list
use borrow.Author.Tests.{eq-eqb, ne_eqb}
use Rattle.std.proofs.lemmas.Bool.{eqb-true, eqb-false}
use lib.Dec.{eqb}
use lib.Seq.{drop-drop}
use Rattle.decimalform.specs.Decimal.{Read, read_as, bad}
use Rattle.decimal.specs.declared.Read as declared
use Rattle.decimal.specs.Answers.{Gives, GivesNumber}
use Rattle.decimal.proofs.Reading.{gives_rest}
use Rattle.textform.specs.Form.{starts_with, read_names, ended_by}
use Rattle.textform.proofs.Lines.{starts_length, names_here, names_later, names_none}

-- ---- what is read at a place and ends with the byte e, by the answer for the rest of the line
module _ {N : Type 0} (read : List ℕ → Read N) (l : List ℕ) (at e : ℕ) where
  abbrev rest : List ℕ
  rest = take (length l - at) (drop at l)

  pub no_field : GivesNumber {N = N} None rest (read rest) → bad ≡ ended_by e (read (drop at l))
  no_field g = ap (ended_by e) (gives_rest read l at g).reads

  pub field_ended : {n : declared.Read N} {r : Option (declared.Read N)} → GivesNumber (Some n) rest (read rest)
      → GivesNumber r l (ended_by e (read_as n.value (drop (at + n.used) l))) → GivesNumber r l (ended_by e (read (drop at l)))
  field_ended {n} g h =
      rw (ap (ended_by e) (sym (gives_rest read l at g).reads) ∙ ap (λ (m : List ℕ). ended_by e (read_as n.value m)) (drop-drop n.used at l)) h

-- ---- the library's test of the first bytes is the form's
eqb_sym : (a b : ℕ) → eqb a b ≡ eqb b a
eqb_sym a b = go (eqb a b) refl
  where
    go : (t : Bool) → eqb a b ≡ t → eqb a b ≡ eqb b a
    go true e = e ∙ sym (eq-eqb b a (sym (eqb-true a b e)))
    go false e = e ∙ sym (ne_eqb b a (λ p. eqb-false a b e (sym p)))

pub starts_is : (s l : List ℕ) {r : Bool} → r ≡ list.starts_with eqb l s → starts_with s l ≡ r
starts_is s l e = go s l ∙ sym e
  where
    go : (s l : List ℕ) → starts_with s l ≡ list.starts_with eqb l s
    go [] l = refl
    go (c ∷ s) [] = refl
    go (c ∷ s) (b ∷ l) = rw (go s l) (ap (λ (t : Bool). t && list.starts_with eqb l s) (eqb_sym b c))

-- ---- a line of names with two meanings: the first is there, or the second, or neither
module _ {V A : Type 0} (is : V → A) (names : A → List ℕ) (a b : A) (l : List ℕ) where
  abbrev GivesName : Option (declared.Read V) → Type 0
  GivesName r = Gives is r l (read_names names (a ∷ b ∷ []) l)

  pub first_names : (v : V) (n : ℕ) → is v ≡ a → n ≡ length (names a) → starts_with (names a) l ≡ true → GivesName (Some (record { value = v; used = n }))
  first_names v n i k e = record { reads = rw (i, k) (sym (names_here names a _ l e)); within = rw k (starts_length (names a) l e) }

  pub second_names : (v : V) (n : ℕ) → is v ≡ b → n ≡ length (names b) → starts_with (names a) l ≡ false → starts_with (names b) l ≡ true → GivesName (Some (record { value = v; used = n }))
  second_names v n i k d e = record { reads = rw (i, k) (sym (names_later names a _ l d ∙ names_here names b [] l e)); within = rw k (starts_length (names b) l e) }

  pub no_names : starts_with (names a) l ≡ false → starts_with (names b) l ≡ false → GivesName None
  no_names d e = record { reads = sym (names_later names a _ l d ∙ names_later names b [] l e ∙ names_none names l); within = omega arith }

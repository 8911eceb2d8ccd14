-- The first three lines, and the first pass: where each answer of `check_head` and `check` comes from. Assumes nothing.
use Rattle.std.proofs.Common.{◌≡◌, ℕ, ◌+◌, ◌-◌, Bool, true, false, List, length, take, drop, Option, Some, None, Ok, Err, refl}
use lib.Seq.{drop-drop}
use Rattle.decimalform.specs.Decimal.{read_as}
use Rattle.decimal.specs.declared.Read as declared
use Rattle.decimal.specs.Answers.{Gives, GivesNumber}
use Rattle.textform.specs.Form.{Head, Parsed, parsed, has_mark, read_input, read_columns, read_counts, parse_head, parse}
use Rattle.text.specs.declared.Counts.{Counts}
use Rattle.text.specs.Answers.{columns_is, counts_is}
use Rattle.reading.specs.declared.Head as code
use Rattle.reading.specs.Answers.{head_is, GivesHead, GivesBody, Checks}
use Rattle.reading.proofs.Lines.{line_reads, line_within}

abbrev rest_at : List ℕ → ℕ → List ℕ
rest_at l at = take (length l - at) (drop at l)

module _ (l : List ℕ) where
  pub names_bad : GivesNumber {N = Bool} None l (read_input l) → GivesHead (Err 1) l
  unfolding parse_head
  names_bad g = record { reads = rw (← g.reads); within = tt }

  module _ {r : declared.Read Bool} (names : GivesNumber (Some r) l (read_input l)) where
    abbrev GivesCounts : Option (declared.Read Counts) → Type 0
    GivesCounts n = Gives counts_is n (rest_at l r.used) (read_counts (rest_at l r.used))

    pub counts_bad : GivesCounts None → GivesHead (Err 2) l
    unfolding parse_head
    counts_bad g = record { reads = rw (← names.reads, line_reads read_counts l r.used g); within = tt }

    module _ {n : declared.Read Counts} (counts : GivesCounts (Some n)) where
      abbrev at : ℕ
      at = r.used + n.used

      counts_read : read_counts (drop r.used l) ≡ read_as (counts_is n.value) (drop at l)
      counts_read = rw (← drop-drop n.used r.used l) (line_reads read_counts l r.used counts)

      abbrev GivesColumns : Option (declared.Read Bool) → Type 0
      GivesColumns m = Gives columns_is m (rest_at l at) (read_columns (rest_at l at))

      pub columns_bad : GivesColumns None → GivesHead (Err 3) l
      unfolding parse_head
      columns_bad g = record { reads = rw (← names.reads, counts_read, line_reads read_columns l at g); within = tt }

      pub head_good : {m : declared.Read Bool} → GivesColumns (Some m) → GivesHead (Ok (record { value = record { counts = n.value; rule = r.value; marks = m.value }; used = at + m.used })) l
      unfolding parse_head
      head_good {m} g =
          record {
            reads = rw (← names.reads, counts_read, line_reads read_columns l at g) (go m.value);
            within = line_within l at g (line_within l r.used counts names.within);
          }
        where
          go : (b : Bool) → ◌≡◌ {A = Parsed Head} (parsed (record { rule = r.value; counts = counts_is n.value; marks = b }) (drop (at + m.used) l)) (parsed (record { rule = r.value; counts = counts_is n.value; marks = has_mark (columns_is b) }) (drop m.used (drop at l)))
          go true = rw (drop-drop m.used at l) refl
          go false = rw (drop-drop m.used at l) refl

-- ---- the head, and then the body
pub head_refused : {l : List ℕ} {n : ℕ} → GivesHead (Err n) l → Checks (Err n) l
unfolding parse
head_refused g = record { reads = rw (← g.reads); vertices = tt; faces = tt }

module _ {l : List ℕ} {h : declared.Read code.Head} (g : GivesHead (Ok h) l) where
  pub body_refused : {n : ℕ} → GivesBody (head_is h.value) h.used (Err n) l → Checks (Err n) l
  unfolding parse
  body_refused b = record { reads = rw (← g.reads, ← b.reads); vertices = tt; faces = tt }

  pub body_read : {j : ℕ} → GivesBody (head_is h.value) h.used (Ok j) l → Checks (Ok (record { head = h.value; vertices_at = h.used; faces_at = j })) l
  unfolding parse
  body_read b = record { reads = rw (← g.reads, ← b.reads); vertices = g.within; faces = b.within }

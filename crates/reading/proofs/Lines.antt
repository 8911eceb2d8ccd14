-- Reading lines one after another: what is left to read after each turn. Assumes nothing.
use mathlib.Core.Path.{◌≡◌, refl, sym, ap, ◌∙◌}
use mathlib.Core.List.{List}
use Prim.Native.Nat.{ℕ, zero, suc, ◌+◌, ◌-◌, ◌≤◌, ◌<◌}
use native.Mathlib.Omega.{arith}
use lib.ListN.{length, take, drop, length-drop}
use Rattle.std.proofs.Common.{Option}
use lib.Seq.{drop-drop}
use Rattle.decimalform.specs.Decimal.{Read, read_as, bad}
use Rattle.decimal.specs.declared.Read as declared
use Rattle.decimal.specs.Answers.{read_of, used, Gives}
use Rattle.decimal.proofs.Reading.{part_rest, gives_rest}
use Rattle.textform.specs.Form.{rows, rows_after, no_rows, one_more}
use Rattle.reading.specs.Answers.{forgotten, bare, LinesCounted}
use Rattle.reading.specs.declared.Block.{Block}

module _ {A : Type 0} (read : List ℕ → Read A) where
  rows_none : (n : ℕ) (l : List ℕ) → n ≡ 0 → rows read n l ≡ no_rows l
  unfolding rows
  rows_none zero l e = refl
  rows_none (suc n) l e = absurd (omega arith)

  pub rows_bad : (n : ℕ) (l : List ℕ) → read l ≡ bad → rows read n l ≡ no_rows l
  unfolding rows
  rows_bad zero l e = refl
  rows_bad (suc n) l e = rw e

  rows_found : (n : ℕ) (l : List ℕ) (v : A) (m : List ℕ) → 0 < n → read l ≡ read_as v m → rows read n l ≡ one_more v (rows read (n - 1) m)
  unfolding rows
  rows_found zero l v m h e = absurd (omega arith)
  rows_found (suc n) l v m h e = let q : suc n - 1 ≡ n = omega arith in rw (e, q)

  -- i of `count` lines are read: the lines from `at` on, where none is left, or the next one is v
  module _ (count : ℕ) (l : List ℕ) (i at : ℕ) where
    pub rows_over : count ≤ i → rows read (count - i) (drop at l) ≡ no_rows (drop at l)
    rows_over h = rows_none (count - i) (drop at l) (omega arith)

    pub rows_next : (v : A) (n : ℕ) → i < count → read (drop at l) ≡ read_as v (drop n (drop at l))
        → rows read (count - i) (drop at l) ≡ one_more v (rows read (count - (i + 1)) (drop (at + n) l))
    rows_next v n h e =
        let q : count - i - 1 ≡ count - (i + 1) = omega arith in
        rows_found (count - i) (drop at l) v (drop n (drop at l)) (omega arith) e ∙ rw (q, drop-drop n at l)

  -- after `good` of `count` lines, `used` bytes, the rest is read as the whole
  pub record Passed (count : ℕ) (l : List ℕ) (good used : ℕ) : Type 0 where
    pub few : good ≤ count
    pub within : used ≤ length l
    pub number : length (rows read count l).values ≡ good + length (rows read (count - good) (drop used l)).values
    pub rest : (rows read count l).rest ≡ (rows read (count - good) (drop used l)).rest

module _ {A : Type 0} {read : List ℕ → Read A} {count : ℕ} {l : List ℕ} {good used : ℕ} (p : Passed read count l good used) where
  -- the lines end here
  stopped : rows read (count - good) (drop used l) ≡ no_rows (drop used l) → LinesCounted (record { good = good; used = used }) l (rows read count l)
  stopped e = record { good = sym (p.number ∙ rw e (omega arith)); rest = sym (p.rest ∙ rw e); within = p.within }

  pub passed_end : count ≤ good → LinesCounted (record { good = good; used = used }) l (rows read count l)
  passed_end h = stopped (rows_over read count l good used h)

  pub passed_bad : read (drop used l) ≡ bad → LinesCounted (record { good = good; used = used }) l (rows read count l)
  passed_bad e = stopped (rows_bad read (count - good) (drop used l) e)

  pub passed_more : (v : A) (n : ℕ) → good < count → read (drop used l) ≡ read_as v (drop n (drop used l)) → used + n ≤ length l → Passed read count l (good + 1) (used + n)
  passed_more v n h e w =
      let k = rows_next read count l good used v n h e in
      record { few = omega arith; within = w; number = p.number ∙ rw k (omega arith); rest = p.rest ∙ rw k }

-- ---- the line of l from `at` on, where its reader's answer is r
pub line_reads : {V A : Type 0} {is : V → A} {r : Option (declared.Read V)} (read : List ℕ → Read A) (l : List ℕ) (at : ℕ)
    → Gives is r (take (length l - at) (drop at l)) (read (take (length l - at) (drop at l))) → read (drop at l) ≡ read_of is r (drop at l)
line_reads read l at g = sym (gives_rest read l at g).reads

pub line_within : {V A : Type 0} {is : V → A} {r : Option (declared.Read V)} {what : Read A} (l : List ℕ) (at : ℕ) → Gives is r (take (length l - at) (drop at l)) what → at ≤ length l → at + used r ≤ length l
line_within {r = r} l at g h =
    let w : used r ≤ length (drop at l) = rw (part_rest l at) at g.within in
    omega (arith, length-drop at l)

-- ---- what a line says is not asked: the good lines are as many, and leave the same
module _ {A : Type 0} (read : List ℕ → Read A) where
  rows_bare : (n : ℕ) (l : List ℕ) → (length (rows (bare read) n l).values ≡ length (rows read n l).values) × ((rows (bare read) n l).rest ≡ (rows read n l).rest)
  unfolding rows
  rows_bare zero l = (refl, refl)
  rows_bare (suc n) l = go (read l) (λ m. rows_bare n m)
    where
      go : (r : Read A) → ((m : List ℕ) → (length (rows (bare read) n m).values ≡ length (rows read n m).values) × ((rows (bare read) n m).rest ≡ (rows read n m).rest))
          → (length (rows_after l (forgotten r) (rows (bare read) n)).values ≡ length (rows_after l r (rows read n)).values) × ((rows_after l (forgotten r) (rows (bare read) n)).rest ≡ (rows_after l r (rows read n)).rest)
      go (read_as v m) h = (ap suc (h m).0, (h m).1)
      go bad h = (refl, refl)

  pub bare_counted : {r : Block} (n : ℕ) (l : List ℕ) → LinesCounted r l (rows (bare read) n l) → LinesCounted r l (rows read n l)
  bare_counted n l c = record { good = c.good ∙ (rows_bare n l).0; rest = c.rest ∙ (rows_bare n l).1; within = c.within }

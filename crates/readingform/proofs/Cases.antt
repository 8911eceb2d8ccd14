-- The outcome of reading a text that is refused before its counts, by any parser. Assumes nothing.
use mathlib.Core.Path.{◌≡◌}
use mathlib.Core.List.{List}
use Prim.Native.Nat.{ℕ, ◌≤◌, ◌<◌}
use lib.IntN.{ℤ}
use lib.ListN.{length}
use borrow.Author.Tests.{lt-ltb, le-ltb}
use Rattle.textform.specs.Limits.{longest_text}
use Rattle.textform.specs.Form.{TextNet, Parsed, bad_line}
use Rattle.readingform.specs.Loaded.{net_refused, loaded, read_by}

module _ (parser : List ℕ → Parsed TextNet) (text : List ℕ) (vs : List ℤ) (fs ms : List ℕ) where
  pub too_long : longest_text < length text → loaded (net_refused 13 0) vs fs ms ≡ read_by parser text vs fs ms
  unfolding read_by
  too_long h = rw (lt-ltb longest_text (length text) h)

  pub not_the_form : (n : ℕ) → length text ≤ longest_text → bad_line n ≡ parser text → loaded (net_refused 13 n) vs fs ms ≡ read_by parser text vs fs ms
  unfolding read_by
  not_the_form n short p = rw (le-ltb longest_text (length text) short, ← p)

-- parsers that agree on the text read the same
pub read_same : (p q : List ℕ → Parsed TextNet) (text : List ℕ) (vs : List ℤ) (fs ms : List ℕ) → p text ≡ q text → read_by p text vs fs ms ≡ read_by q text vs fs ms
unfolding read_by
read_same p q text vs fs ms e = rw e

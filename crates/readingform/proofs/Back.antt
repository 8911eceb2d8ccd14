-- A text that writes a net fills the tables with its numbers. Assumes nothing.
use mathlib.Core.Path.{◌≡◌}
use mathlib.Core.List.{List, []}
use Prim.Native.Nat.{ℕ, ◌≤◌}
use lib.IntN.{ℤ}
use lib.ListN.{length}
use Rattle.verdict.specs.Verdict.{accepted}
use borrow.Author.Tests.{le-ltb}
use Rattle.textform.specs.Limits.{longest_text}
use Rattle.textform.specs.Form.{TextNet, Parsed, parsed}
use Rattle.readingform.specs.Loaded.{counts_verdict, stored, read_by}

pub read_back : (parser : List ℕ → Parsed TextNet) (text : List ℕ) (n : TextNet) (vs : List ℤ) (fs ms : List ℕ) → parser text ≡ parsed n [] → length text ≤ longest_text → counts_verdict n.counts ≡ accepted
    → read_by parser text vs fs ms ≡ stored vs fs ms n
unfolding read_by
read_back parser text n vs fs ms form short room = rw (le-ltb longest_text (length text) short, form, room)

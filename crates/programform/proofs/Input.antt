-- The bytes that the input buffer holds get the answer to the whole input. Assumes nothing.
use mathlib.Core.Path.{◌≡◌, sym, ap, ◌∙◌}
use mathlib.Core.List.{List}
use Prim.Native.Nat.{ℕ, ◌≤◌, ◌<◌}
use native.Mathlib.Decide.{dec_lt}
use native.Mathlib.Omega.{arith}
use lib.ListN.{length, take}
use lib.Seq.{take_all, length-take-le}
use borrow.Author.Tests.{lt-ltb}
use Rattle.textform.specs.Limits.{longest_text}
use Rattle.textform.specs.Text.{refusal_text}
use Rattle.programform.specs.Answer.{program_text}
use Rattle.programform.specs.Input.{input_room}

too_long : (s : List ℕ) → input_room ≤ length s → program_text s ≡ refusal_text 13 0
unfolding program_text
too_long s h = rw (lt-ltb longest_text (length s) (omega arith))

-- as many bytes as a buffer of that room holds are enough
first-bytes : (room : ℕ) (s : List ℕ) → input_room ≤ room → program_text (take room s) ≡ program_text s
first-bytes room s h = go (dec_lt room (length s))
  where
    go : Dec (room < length s) → program_text (take room s) ≡ program_text s
    go (yes k) = let e = length-take-le room s (omega arith) in too_long (take room s) (omega arith) ∙ sym (too_long s (omega arith))
    go (no k) = ap program_text (take_all room s (omega arith))

pub input_enough : (b : List ℕ) (n : ℕ) (s : List ℕ) → input_room ≤ length b → take n b ≡ take (length b) s → program_text (take n b) ≡ program_text s
input_enough b n s h e = ap program_text e ∙ first-bytes (length b) s h

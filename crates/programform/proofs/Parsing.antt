-- The first byte tells the form of a text. Assumes nothing.
use mathlib.Core.Path.{◌≡◌, refl}
use mathlib.Core.Bool.{Bool, true, false, cond}
use mathlib.Core.List.{List, ◌++◌}
use Prim.Native.Nat.{ℕ}
use Rattle.textform.specs.Bytes.{bytes}
use Rattle.textform.specs.Form.{input_names, starts_with, parse}
use Rattle.textform.proofs.Counts.{Stated, text_stated}
use Rattle.objform.specs.Form.{parse_obj}
use Rattle.objform.proofs.Counts.{obj_stated}
use Rattle.programform.specs.Answer.{parse_any}

pub any_stated : (l : List ℕ) → Stated (parse_any l)
unfolding parse_any
any_stated l = go (starts_with (bytes "#") l)
  where
    go : (b : Bool) → Stated (cond b (parse_obj l) (parse l))
    go true = obj_stated l
    go false = text_stated l

pub parse_obj_lem : (l : List ℕ) → starts_with (bytes "#") l ≡ true → parse_any l ≡ parse_obj l
unfolding parse_any
parse_obj_lem l e = rw e

pub parse_text : (l : List ℕ) → starts_with (bytes "#") l ≡ false → parse_any l ≡ parse l
unfolding parse_any
parse_text l e = rw e

-- a text of paper 01's form does not start so
pub names_other : (rule : Bool) (rest : List ℕ) → starts_with (bytes "#") (input_names rule ++ rest) ≡ false
unfolding bytes
names_other true rest = refl
names_other false rest = refl

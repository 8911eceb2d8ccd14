-- A text that has the form has as many vertices and faces as its net states. Assumes nothing.
use mathlib.Core.Path.{refl}
use mathlib.Core.List.{List}
use Prim.Native.Nat.{ℕ}
use Rattle.textform.specs.Form.{line}
use Rattle.textform.proofs.Counts.{Stated, after, ended_stated}
use Rattle.objform.specs.Form.{read_rounds, items, net_of, parse_items, parse_obj}

items_stated : (k : ℕ) (l : List ℕ) → Stated (parse_items k l)
unfolding parse_items net_of
items_stated k l = ended_stated _ (net_of k (items l).values) (items l).rest (refl, refl)

pub obj_stated : (l : List ℕ) → Stated (parse_obj l)
unfolding parse_obj
obj_stated l = after (line 1 (read_rounds l)) parse_items (λ k l₁ _. items_stated k l₁)

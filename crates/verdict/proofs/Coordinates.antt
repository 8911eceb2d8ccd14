-- Coordinates decide nothing but refusal 5: nets that pass it and differ in coordinates only get one verdict, and one work table. Assumes nothing.
use mathlib.Core.Path.{◌≡◌, refl, sym, ap, ap₂, ◌∙◌}
use mathlib.Core.List.{List}
use Prim.Native.Nat.{ℕ, ◌*◌, ◌/◌}
use native.Mathlib.Nat.{le_refl}
use native.Mathlib.Omega.{arith}
use lib.Dec.{ltb}
use lib.IntN.{ℤ, pos, nat_abs}
use lib.ListN.{length, get_or}
use borrow.Author.Tests.{ltb-true}
use Rattle.bounds.specs.Bounds.{max_coordinate}
use Rattle.integers.specs.Within.{Within}
use Rattle.tables.specs.Tables.{cleared}
use Rattle.search.proofs.First.{first_none}
use Rattle.polygons.specs.Polygons.{shape_of}
use Rattle.nets.specs.Net.{control_net}
use Rattle.verdict.specs.Call.{Room, Call, call, lengths, final_faces}
use Rattle.verdict.specs.Verdict.{Verdict, or_else, refused_if, after_call, limits_verdict, bad_coordinate, coordinates_verdict, shape_verdict, net_verdict, verdict, work_after}
use Rattle.verdict.proofs.Accepted.{at_pass}

-- 5 does not hold
within_accepted : (vs : List ℤ) → Within max_coordinate vs → (v : Verdict) → or_else (coordinates_verdict vs) v ≡ v
unfolding coordinates_verdict bad_coordinate
within_accepted vs t v =
    let n : ℕ = length vs in
    let e = first_none (bad_coordinate vs) n (λ i b h. let k = ltb-true max_coordinate (nat_abs (get_or vs i (pos 0))) h in let l = t.at i b in omega arith) in
    sym (at_pass 5 (bad_coordinate vs) n (λ i. i / 3) v v n (sym e) (le_refl n) refl)

module _ (rounds : ℕ) (vs ws : List ℤ) (faces sides marks : List ℕ) (tension : ℕ) (room : Room) (same : length ws ≡ length vs) where
  -- the two calls
  abbrev one : Call
  one = call rounds (control_net vs faces sides marks) tension room

  abbrev other : Call
  other = call rounds (control_net ws faces sides marks) tension room

  -- rounds, side counts, lengths and the tension decide refusals 1 to 4, 14 and 16
  abbrev limits : ℕ → Verdict
  limits n = or_else (limits_verdict rounds sides (lengths n (length faces) (length marks) room)) (refused_if 16 (ltb 4 tension))

  pub same-verdict : Within max_coordinate vs → Within max_coordinate ws → verdict other ≡ verdict one
  unfolding verdict net_verdict
  same-verdict t u =
      let rest : Verdict = shape_verdict (shape_of sides) faces marks in
      ap₂ (λ (n : ℕ) (v : Verdict). or_else (limits n) v) same (within_accepted ws u rest ∙ sym (within_accepted vs t rest))

  pub same_work : (w : List ℕ) → work_after other w ≡ work_after one w
  same_work w = ap (λ (n : ℕ). after_call (limits n) w (cleared (16 * final_faces one) w)) same

-- `rings::weights` meets its contract. Assumes nothing.
use mathlib.Core.Path.{◌≡◌, sym, ap, ◌∙◌}
use mathlib.Core.List.{List, ◌++◌}
use Prim.Native.Nat.{ℕ, ◌+◌, ◌≤◌, ◌<◌}
use native.Mathlib.Omega.{arith}
use borrow.Author.Rules.{rules}
use lib.IntN.{ℤ, pos, nat_abs}
use lib.ListN.{length, get_or, set, drop}
use mir.Syntax.{w8, w64}
use mir.Val.{SFits}
use mir.Facts.{to_z-of_z}
use Rattle.lists.specs.Tabulate.{tabulate}
use Rattle.lists.proofs.Tabulate.{get_or-tabulate, write_none, write_one}
use Rattle.integers.proofs.Range.{fits_abs}
use Rattle.curve.specs.Weights.{tension}
use Rattle.rings.specs.RingWeights.{unit_weights, weight_of, entry, row}
use Rattle.rings.proofs.Table.{entry_unit, unit_small}
use Rattle.rings.proofs.weights.Goals as goal

written : (n t i : ℕ) (w o : List ℤ) (x y : ℤ) → i < length o → w ≡ tabulate i (entry (tension t) n) ++ drop i o → x ≡ entry unit_weights n i → y ≡ weight_of (tension t) i x
    → set w i y ≡ tabulate (i + 1) (entry (tension t) n) ++ drop (i + 1) o
written n t i w o x y h e f g =
    let j : y ≡ entry (tension t) n i = g ∙ ap (weight_of (tension t) i) f ∙ sym (entry_unit (tension t) n i) in
    rw (e, j) (write_one (entry (tension t) n) o i h)

-- a unit weight is read, and the weight written
unit-at : (n i : ℕ) (u : List ℤ) → i < 16 → u ≡ row unit_weights n → get_or u i (pos 0) ≡ entry unit_weights n i
unit-at n i u h e = ap (λ (l : List ℤ). get_or l i (pos 0)) e ∙ get_or-tabulate 16 (entry unit_weights n) i (pos 0) h

-- its size, for the call that makes the weight
small_at : (n i : ℕ) (u : List ℤ) → 3 ≤ n → n ≤ 8 → i < 16 → u ≡ row unit_weights n → nat_abs (get_or u i (pos 0)) ≤ 4
small_at n i u a b h e = rw (unit-at n i u h e) (unit_small n a b i h)

pub loop-i-init : goal.loop-i-init
loop-i-init c = write_none (entry (tension c.args.t) c.args.n) _

pub weight-requires : goal.weight-requires
weight-requires c =
    let u = c.unit_weights-units in
    let i = c.loop-i.i in
    let d = small_at c.args.n i u.result c.requires.0 c.requires.1 (omega arith) u.ensures in
    let f = fits_abs w8 (get_or u.result i (pos 0)) (omega arith) in
    simp to_z-of_z (c.requires.2, d)

pub loop-i-preserved : goal.loop-i-preserved
loop-i-preserved c =
    let u = c.unit_weights-units in
    let l = c.loop-i in
    let h : l.i < 16 = omega arith in
    let d = small_at c.args.n l.i u.result c.requires.0 c.requires.1 h u.ensures in
    let f = fits_abs w8 (get_or u.result l.i (pos 0)) (omega arith) in
    let g : c.weight.result ≡ weight_of (tension c.args.t) l.i (get_or u.result l.i (pos 0)) = simp to_z-of_z at c.weight.ensures in
    let i : SFits w64 c.weight.result = search rules in
    simp to_z-of_z (written c.args.n c.args.t l.i l.w _ (get_or u.result l.i (pos 0)) c.weight.result h l.invariant (unit-at c.args.n l.i u.result h u.ensures) g)

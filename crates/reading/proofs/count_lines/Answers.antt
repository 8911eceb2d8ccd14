-- `reading::count_lines` meets its contract. Assumes nothing.
use Rattle.std.proofs.Common.{◌≡◌, ℕ, ◌+◌, ◌-◌, ◌≤◌, List, length, take, drop, None, Some, refl, sym, arith, length-drop}
use Rattle.std.proofs.lemmas.Fn.{says_at}
use Rattle.decimal.proofs.Reading.{part_rest}
use Rattle.reading.proofs.Lines.{passed_end, passed_bad, passed_more}
use Rattle.reading.proofs.count_lines.Goals as goal

pub returns-in_default : goal.returns-in_default
returns-in_default g c = λ read h.
    let l : List ℕ = c.args.text.now in
    let u : ℕ = c.loop-good.used in
    passed_bad (c.loop-good.invariant.1 read h) (rw (part_rest l u) at (sym (h (take (length l - u) (drop u l)) None (says_at g.F.Fn c.in_default.ensures refl))))

pub overflow_add-used : goal.overflow_add-used
overflow_add-used g c =
    let l : List ℕ = c.args.text.now in
    let u : ℕ = c.loop-good.used in
    let w = rw (part_rest l u) at (c.requires.within (take (length l - u) (drop u l)) (Some c.in-Some.n) (says_at g.F.Fn c.in-Some.ensures refl)) in
    omega (arith, length-drop {A = ℕ})

pub loop-good-preserved : goal.loop-good-preserved
loop-good-preserved g c =
    let l : List ℕ = c.args.text.now in
    let u : ℕ = c.loop-good.used in
    let w = rw (part_rest l u) at (c.requires.within (take (length l - u) (drop u l)) (Some c.in-Some.n) (says_at g.F.Fn c.in-Some.ensures refl)) in
    let k : u + c.in-Some.n ≤ length l = omega (arith, length-drop {A = ℕ}) in
    (k, λ read h. passed_more (c.loop-good.invariant.1 read h) tt _ c.loop-good-test.true (rw (part_rest l u) at (sym (h (take (length l - u) (drop u l)) (Some c.in-Some.n) (says_at g.F.Fn c.in-Some.ensures refl)))) k)

pub returns : goal.returns
returns g c = λ read h.
    let e : c.loop-good.good ≡ c.args.count = omega arith in
    rw e at (passed_end (c.loop-good.invariant.1 read h) (omega arith))

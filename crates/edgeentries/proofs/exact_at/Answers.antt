-- `exact_at` meets its contract. Assumes nothing.
use mathlib.Core.Path.{◌≡◌, ap, ◌∙◌}
use Prim.Native.Nat.{ℕ, ◌+◌, ◌*◌}
use native.Mathlib.Omega.{arith}
use borrow.Author.Rules.{rules}
use mir.Syntax.{w64}
use mir.Val.{SFits}
use mir.Facts.{to_z-of_z}
use Rattle.edgeentries.specs.Packed.{packed_at}
use Rattle.edgeentries.specs.Entry.{point_place, place_of}
use Rattle.edgeentries.proofs.exact_at.Goals as goal

pub load-requires : goal.load-requires
unfolding place_of
load-requires c =
    let place : c.point_place.result ≡ place_of c.args.n c.args.entry = c.point_place.ensures ∙ ap (point_place c.args.n) c.number_of.ensures in
    let e = place in let a = c.requires.1 in let r = c.requires.2 in (omega arith, rw e c.requires.3)

pub returns : goal.returns
unfolding place_of
returns c =
    let place : c.point_place.result ≡ place_of c.args.n c.args.entry = c.point_place.ensures ∙ ap (point_place c.args.n) c.number_of.ensures in
    let f : SFits w64 c.load.result = search rules in
    simp to_z-of_z (c.load.ensures ∙ ap (λ (i : ℕ). packed_at c.args.work.now (i + 2 * c.args.a)) place)

-- What callers need of the mates in a round.
use mathlib.Core.Path.{◌≡◌, sym, ap, ◌∙◌}
use mathlib.Core.List.{List}
use Prim.Native.Nat.{ℕ, ◌*◌, ◌/◌, ◌%◌, ◌≤◌}
use native.Mathlib.Omega.{arith}
use lib.ListN.{length, get_or, take, drop}
use lib.Seq.{length-take-le, get_or-take, ext_get_or}
use Rattle.lists.proofs.Tabulate.{length-tabulate}
use Rattle.topology.specs.Shape.{quads}
use Rattle.topology.specs.Manifold.{Oriented}
use Rattle.topology.proofs.Mates.{mate-le}
use Rattle.refinedfaces.specs.Refined.{refined}
use Rattle.refinedfaces.specs.Mates.{mates, refined_mate, refined_mates}
use Rattle.refinedfaces.proofs.Tables.{length-mates, get_or-mates, mates-refined}
use Rattle.halfedges.specs.Tables.{Quadrilaterals, MateTable}
use Rattle.tables.specs.Tables.{filled}
use Rattle.tables.proofs.Laws.{filled_at, drop-filled}
use Rattle.roundmates.specs.Mates.{MatesIn}

pub mates_in : (l w : List ℕ) → Quadrilaterals (length l) → 4 * length l ≤ length w → MateTable l w → MatesIn (length l) w
mates_in l w s r t = record {
  sides = s;
  room = r;
  below = λ g b. let e = t.mates g b in let m = mate-le quads l g in omega arith;
}

mates-front : (l w : List ℕ) → length l ≤ length w → MateTable l w → take (length l) w ≡ mates quads l
mates-front l w r t =
    let a = length-take-le (length l) w r in
    let b = length-mates quads l in
    ext_get_or 0 (take (length l) w) (mates quads l) (a ∙ sym b) (λ k h. get_or-take (length l) w k 0 (omega arith) ∙ t.mates k (omega arith) ∙ sym (get_or-mates quads l k (omega arith)))

-- mates refined in place are the mates of the refined net
refined-mates : (v : ℕ) (l w : List ℕ) → Oriented quads v l → length l ≤ length w → MateTable l w → refined_mates quads (take (length l) w) ≡ mates quads (refined quads v l)
refined-mates v l w ok r t = ap (refined_mates quads) (mates-front l w r t) ∙ sym (mates-refined quads v l ok)

pub mated_refined : (v : ℕ) (l w : List ℕ) → Oriented quads v l → length l ≤ length w → MateTable l w → MateTable (refined quads v l) (filled (refined_mates quads (take (length l) w)) w)
mated_refined v l w ok r t =
    let e = refined-mates v l w ok r t in
    let n = length-mates quads (refined quads v l) in
    rw e (record { mates = λ g b. filled_at (mates quads (refined quads v l)) w 0 g (omega arith) ∙ get_or-mates quads (refined quads v l) g b })

pub mates_rest : (n : ℕ) (w : List ℕ) → n ≤ length w → drop (4 * n) (filled (refined_mates quads (take n w)) w) ≡ drop (4 * n) w
unfolding refined_mates
mates_rest n w h =
    let a = length-tabulate (4 * length (take n w)) (λ (g : ℕ). refined_mate quads (length (take n w)) (λ (h : ℕ). get_or (take n w) h 0) (g / 4) (g % 4)) in
    let b = length-take-le n w h in
    drop-filled (refined_mates quads (take n w)) w (4 * n) (omega arith)

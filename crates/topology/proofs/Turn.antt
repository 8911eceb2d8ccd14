-- Turning round a vertex loses no half-edge and stays at the vertex.
use mathlib.Core.Path.{◌≡◌, sym, ap, ◌∙◌}
use mathlib.Core.List.{List}
use Prim.Native.Nat.{ℕ, zero, suc, ◌+◌, ◌-◌, ◌≤◌, ◌<◌}
use native.Mathlib.Omega.{arith}
use lib.ListN.{length}
use borrow.Author.Tests.{eq-eqb}
use Rattle.search.specs.Search.{iterate}
use Rattle.search.proofs.Iterate.{iterate_cancel}
use Rattle.search.proofs.Pigeonhole.{Listed}
use Rattle.topology.specs.Shape.{Shape}
use Rattle.topology.specs.HalfEdge.{from, to, mate}
use Rattle.topology.specs.Vertex.{leaves, turn, turns, unturn}
use Rattle.topology.specs.Manifold.{Oriented}
use Rattle.topology.proofs.Shape.{prev_inj}
use Rattle.topology.proofs.Mates.{to_prev, mate-le, mate_is, mate-back}

pub turn-le : (S : Shape) (l : List ℕ) (h : ℕ) → turn S l h ≤ length l
unfolding turn
turn-le S l h = mate-le S l (S.prev h)

module _ (S : Shape) (v : ℕ) (l : List ℕ) (ok : Oriented S v l) where
  pub turn_inj : (x y : ℕ) → x < length l → y < length l → turn S l x < length l → turn S l x ≡ turn S l y → x ≡ y
  unfolding turn
  turn_inj x y a b c e =
      let i = ok.shape.prev_lt x a in
      let j = ok.shape.prev_lt y b in
      prev_inj S (length l) ok.shape x y (sym (mate-back S v l ok (S.prev x) i c) ∙ ap (mate S l) e ∙ mate-back S v l ok (S.prev y) j (rw e at c))

  pub turn-from : (x : ℕ) → turn S l x < length l → from l (turn S l x) ≡ from l x
  unfolding turn
  turn-from x c = (mate_is S l (S.prev x) c).start ∙ to_prev S (length l) ok.shape l x

  -- the next neighbour is where the side before x begins
  pub turn_to : (x : ℕ) → turn S l x < length l → to S l (turn S l x) ≡ from l (S.prev x)
  unfolding turn
  turn_to x c = (mate_is S l (S.prev x) c).end

  -- unturning undoes turning, and turning undoes it; no half-edge without a mate is turned to
  pub turn-unturn : (h : ℕ) → h < length l → mate S l h < length l → turn S l (unturn S l h) ≡ h
  unfolding turn unturn
  turn-unturn h a m = ap (mate S l) (ok.shape.prev_next (mate S l h)) ∙ mate-back S v l ok h a m

  pub unturn-turn : (x : ℕ) → x < length l → turn S l x < length l → unturn S l (turn S l x) ≡ x
  unfolding turn unturn
  unturn-turn x a c = ap S.next (mate-back S v l ok (S.prev x) (ok.shape.prev_lt x a) c) ∙ ok.shape.next_prev x

  pub turned_mate : (x : ℕ) → x < length l → turn S l x < length l → mate S l (turn S l x) < length l
  unfolding turn
  turned_mate x a c = let i = ok.shape.prev_lt x a in let e = mate-back S v l ok (S.prev x) i c in rw e i

  pub unturn-lt : (h : ℕ) → mate S l h < length l → unturn S l h < length l
  unfolding unturn
  unturn-lt h m = ok.shape.next_lt (mate S l h) m

  pub unturn-from : (h : ℕ) → mate S l h < length l → from l (unturn S l h) ≡ from l h
  unfolding unturn to
  unturn-from h m = (mate_is S l h m).end

  pub turns-from : (p h k : ℕ) → from l h ≡ p → ((j : ℕ) → j ≤ k → turns S l j h < length l) → from l (turns S l k h) ≡ p
  unfolding iterate
  turns-from p h zero s f = s
  turns-from p h (suc k) s f = turn-from (turns S l k h) (f (suc k) (omega arith)) ∙ turns-from p h k s (λ j b. f j (omega arith))

  -- turns that do not come back to h before m are m different half-edges that leave p
  pub turns_listed : (p h m : ℕ) → from l h ≡ p → ((k : ℕ) → k < m → turns S l k h < length l) → ((k : ℕ) → 0 < k → k < m → turns S l k h ≡ h → ⊥)
      → Listed (leaves l p) (length l) (λ (k : ℕ). turns S l k h) m
  unfolding leaves
  turns_listed p h m s inside away = record {
    inside = inside;
    passes = λ k b. eq-eqb (from l (turns S l k h)) p (turns-from p h k s (λ j c. inside j (omega arith)));
    differ = λ i j b c e.
        let d : i + (j - i) ≡ j = omega arith in
        away (j - i) (omega arith) (omega arith) (iterate_cancel (turn S l) (λ (x : ℕ). x < length l) turn_inj i (j - i) h (λ k g. inside k (omega arith)) (rw d (sym e)));
  }

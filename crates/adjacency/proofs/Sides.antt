-- Sides from one vertex to another, and mates. Assumes nothing.
use mathlib.Core.Path.{◌≡◌, refl}
use mathlib.Core.Bool.{true, false}
use mathlib.Core.List.{List}
use Prim.Native.Nat.{ℕ}
use lib.ListN.{length, get_or}
use lib.Dec.{eqb}
use borrow.Author.Tests.{eq-eqb, eqb-true}
use Rattle.search.specs.Search.{first}
use Rattle.search.proofs.Tests.{refuted, and_on, and_left, and_right}
use Rattle.topology.specs.Shape.{Shape}
use Rattle.topology.specs.HalfEdge.{from, to, opposed, mate}
use Rattle.topology.specs.Vertex.{leaves}
use Rattle.adjacency.specs.Chains.{side}

module _ (S : Shape) (l : List ℕ) (a b : ℕ) where
  pub side-leaves : (g : ℕ) → side S l a b g ≡ true → leaves l a g ≡ true
  unfolding side leaves
  side-leaves g t = and_left (eqb (from l g) a) (eqb (to S l g) b) t

  pub side_on : (g : ℕ) → get_or l g 0 ≡ a → get_or l (S.next g) 0 ≡ b → side S l a b g ≡ true
  unfolding side from to
  side_on g e f = and_on _ _ (eq-eqb (get_or l g 0) a e) (eq-eqb (get_or l (S.next g) 0) b f)

  pub side-from : (g : ℕ) → side S l a b g ≡ true → get_or l g 0 ≡ a
  unfolding side from to
  side-from g t = eqb-true (get_or l g 0) a (and_left (eqb (get_or l g 0) a) (eqb (get_or l (S.next g) 0) b) t)

  pub side_to : (g : ℕ) → side S l a b g ≡ true → get_or l (S.next g) 0 ≡ b
  unfolding side from to
  side_to g t = eqb-true (get_or l (S.next g) 0) b (and_right (eqb (get_or l g 0) a) (eqb (get_or l (S.next g) 0) b) t)

  pub side_off : (g : ℕ) → (get_or l (S.next g) 0 ≡ b → ⊥) → side S l a b g ≡ false
  side_off g n = refuted (side S l a b g) (λ t. n (side_to g t))

-- the mate is the first side the other way
pub mate-side : (S : Shape) (l : List ℕ) (h : ℕ) → first (side S l (get_or l (S.next h) 0) (get_or l h 0)) (length l) ≡ mate S l h
unfolding side mate opposed from to
mate-side S l h = refl

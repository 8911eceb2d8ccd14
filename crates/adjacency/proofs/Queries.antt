-- What mates and chains tell of a vertex p: where turning round it starts, and whether it is in a face. Assumes nothing.
use mathlib.Core.Path.{◌≡◌, ◌∙◌}
use mathlib.Core.Bool.{not}
use mathlib.Core.List.{List}
use Prim.Native.Nat.{ℕ, ◌+◌, ◌≤◌, ◌<◌}
use native.Mathlib.Decide.{ℕ_discrete, dec_lt}
use native.Mathlib.Omega.{arith}
use lib.ListN.{length, get_or}
use lib.Dec.{eqb, ltb}
use borrow.Author.Tests.{lt-ltb, le-ltb, eq-eqb, ne_eqb}
use Rattle.search.specs.Search.{first, any}
use Rattle.search.proofs.First.{first-le}
use Rattle.search.proofs.Count.{count-le}
use Rattle.topology.specs.Shape.{Shape}
use Rattle.topology.specs.Boundary.{boundary_from}
use Rattle.topology.specs.Vertex.{leaves, valence, start}
use Rattle.topology.proofs.Boundary.{boundary_from-le, start_open, start_closed}
use Rattle.refusals.specs.Refusals.{isolated}
use Rattle.adjacency.specs.Chains.{Chained}
use Rattle.adjacency.proofs.Chains.{chain_first}

module _ (S : Shape) (l : List ℕ) (p : ℕ) where
  -- where turning round p starts is a half-edge, if one leaves p
  pub start-lt : first (leaves l p) (length l) < length l → start S l p < length l
  start-lt h = go (dec_lt (boundary_from S l p) (length l))
    where
      go : Dec (boundary_from S l p < length l) → start S l p < length l
      go (yes b) = let e = start_open S l p b in rw e b
      go (no b) = let i = boundary_from-le S l p in let e = start_closed S l p (omega arith) in rw e h

pub valence-le : (l : List ℕ) (p : ℕ) → valence l p ≤ length l
unfolding valence
valence-le l p = count-le (leaves l p) (length l)

-- ---- empty chains

module _ (l w : List ℕ) (p : ℕ) (c : Chained l w 0) (b : p < length l) where
  head_first : get_or w (length l + p) 0 ≡ first (leaves l p) (length l)
  head_first = c.heads p b ∙ chain_first l p

  -- p is isolated if its chain is empty
  pub empty_chain : isolated l p ≡ eqb (get_or w (length l + p) 0) (length l)
  unfolding isolated any
  empty_chain = go (ℕ_discrete (get_or w (length l + p) 0) (length l))
    where
      go : Dec (get_or w (length l + p) 0 ≡ length l) → not (ltb (first (leaves l p) (length l)) (length l)) ≡ eqb (get_or w (length l + p) 0) (length l)
      go (yes e) = rw (le-ltb (first (leaves l p) (length l)) (length l) (omega (arith, head_first)), eq-eqb (get_or w (length l + p) 0) (length l) e)
      go (no n) = let x = first-le (leaves l p) (length l) in rw (lt-ltb (first (leaves l p) (length l)) (length l) (omega (arith, head_first)), ne_eqb (get_or w (length l + p) 0) (length l) n)

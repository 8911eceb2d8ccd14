-- Ring sizes tell which vertices are ordinary, and rounds keep the classes.
use mathlib.Core.Path.{◌≡◌, sym, ap, ◌∙◌}
use mathlib.Core.Bool.{Bool, true, false, cond}
use mathlib.Core.List.{List}
use Prim.Native.Nat.{ℕ, suc, ◌+◌, ◌*◌, ◌≤◌, ◌<◌}
use native.Mathlib.Decide.{dec_lt, ℕ_discrete}
use native.Mathlib.Numerals.{add-one}
use native.Mathlib.Omega.{arith}
use lib.Dec.{ltb, lit≤}
use lib.ListN.{length, get_or, set}
use lib.Seq.{get_or-set_same, get_or-set_other}
use borrow.Author.Tests.{lt-ltb, le-ltb, eq-eqb, eqb-true}
use Rattle.search.specs.Search.{count}
use Rattle.search.proofs.Tests.{cond_elim, refuted, clash}
use Rattle.search.proofs.First.{first_before, first_holds}
use Rattle.search.proofs.Count.{count_more, count_same, count_skip, count_none, count_mono}
use Rattle.topology.specs.Shape.{quads}
use Rattle.topology.specs.HalfEdge.{from, mate}
use Rattle.topology.specs.Boundary.{is_boundary_from, boundary_from}
use Rattle.topology.specs.Vertex.{leaves, valence}
use Rattle.topology.specs.Manifold.{Manifold}
use Rattle.topology.proofs.Mates.{mate-le}
use Rattle.topology.proofs.Boundary.{from_on, from_none, from_at, boundary_from-le, boundary_from_is, ring_range, fan_range}
use Rattle.tables.specs.Tables.{ZerosFrom}
use Rattle.refinedfaces.specs.Refined.{refined_vertices, refined}
use Rattle.schemelaws.specs.Ordinary.{Ordinary, ring_of_four, fan_of_two}
use Rattle.schemelaws.proofs.Made.{made_ordinary, old_ordinary, ordinary_old}
use Rattle.ringsizes.specs.Classes.{ring_size, size_at, RingSizes, ordinary_by, Classes, Countable, share_of, CountedBelow}

leaves_on : (l : List ℕ) (p h : ℕ) → from l h ≡ p → leaves l p h ≡ true
unfolding leaves
leaves_on l p h e = eq-eqb (from l h) p e

leaves_at : (l : List ℕ) (p h : ℕ) → leaves l p h ≡ true → from l h ≡ p
unfolding leaves
leaves_at l p h t = eqb-true (from l h) p t

-- ---- ring sizes
module _ (l : List ℕ) (p : ℕ) where
  ring_size_inner : boundary_from quads l p ≡ length l → ring_size l p ≡ valence l p
  unfolding ring_size
  ring_size_inner b = let a = le-ltb (boundary_from quads l p) (length l) (omega arith) in rw a (omega arith)

  ring_size_boundary : boundary_from quads l p < length l → ring_size l p ≡ valence l p + 2
  unfolding ring_size
  ring_size_boundary b = let a = lt-ltb (boundary_from quads l p) (length l) b in rw a

  -- a vertex whose ring size is four is ordinary
  four_ordinary : ring_size l p ≡ 4 → Ordinary l p
  four_ordinary e = go (dec_lt (boundary_from quads l p) (length l))
    where
      go : Dec (boundary_from quads l p < length l) → Ordinary l p
      go (yes b) = let s = ring_size_boundary b in fan_of_two b (omega arith)
      go (no b) = let c : boundary_from quads l p ≡ length l = omega (arith, boundary_from-le quads l p) in let s = ring_size_inner c in ring_of_four c (omega arith)

  ordinary_four : Ordinary l p → ring_size l p ≡ 4
  ordinary_four (ring_of_four b n) = ring_size_inner b ∙ n
  ordinary_four (fan_of_two b n) = let s = ring_size_boundary b in omega arith

-- ---- classes after a round
-- the table is the same for the initial vertices
pub classes_same : (v at initial : ℕ) (l w w' : List ℕ) → at + initial ≤ length w' → ((p : ℕ) → p < initial → get_or w' (at + p) 0 ≡ get_or w (at + p) 0) → Classes v at initial l w → Classes v at initial l w'
unfolding ordinary_by
classes_same v at initial l w w' b f k = record { fewer = k.fewer; room = b; ordinary = λ p c e. k.ordinary p c (sym (same p (dec_lt p initial)) ∙ e); irregular = λ p c e. k.irregular p c (sym (same p (dec_lt p initial)) ∙ e) }
  where
    same : (p : ℕ) → Dec (p < initial) → ordinary_by w' at initial p ≡ ordinary_by w at initial p
    same p (yes c) = let e = f p c in rw e
    same p (no c) = let d = le-ltb p initial (omega arith) in rw d

pub classes_refined : (v at initial : ℕ) (l w : List ℕ) → Manifold quads v l → Classes v at initial l w → Classes (refined_vertices quads v l) at initial (refined quads v l) w
unfolding ordinary_by
classes_refined v at initial l w ok k = record { fewer = (let f = k.fewer in omega arith); room = k.room; ordinary = λ p c e. go p c e (dec_lt p v); irregular = λ p c e o. no_go p e o (dec_lt p v) }
  where
    no_go : (p : ℕ) → ordinary_by w at initial p ≡ false → Ordinary (refined quads v l) p → Dec (p < v) → ⊥
    no_go p e o (yes b) = k.irregular p b e (ordinary_old v l ok p b o)
    no_go p e o (no b) = let f = k.fewer in let d = le-ltb p initial (omega arith) in clash (ordinary_by w at initial p) (rw d) e

    go : (p : ℕ) → p < refined_vertices quads v l → ordinary_by w at initial p ≡ true → Dec (p < v) → Ordinary (refined quads v l) p
    go p c e (yes b) = old_ordinary v l ok p b (k.ordinary p b e)
    go p c e (no b) = made_ordinary v l ok p (omega arith) c

-- ---- counting
module _ (v : ℕ) (l : List ℕ) (ok : Manifold quads v l) (p : ℕ) where
  -- a boundary vertex starts one boundary half-edge, another none
  boundary_once : boundary_from quads l p < length l → count (is_boundary_from quads l p) (length l) ≡ 1
  unfolding boundary_from
  boundary_once b =
      let t : ℕ → Bool = is_boundary_from quads l p in
      let s : ℕ = boundary_from quads l p in
      let a : count t (length l) ≡ count t (suc s) = count_skip t (suc s) (length l) b (λ j c d. later j c d) in
      let c = count_more t s holds in
      let d = count_none t s before in
      omega arith
    where
      holds : is_boundary_from quads l p (boundary_from quads l p) ≡ true
      holds = first_holds (is_boundary_from quads l p) (length l) b

      before : (j : ℕ) → j < boundary_from quads l p → is_boundary_from quads l p j ≡ false
      before j c = first_before (is_boundary_from quads l p) (length l) j c

      later : (j : ℕ) → suc (boundary_from quads l p) ≤ j → j < length l → is_boundary_from quads l p j ≡ false
      later j c d = refuted (is_boundary_from quads l p j) (λ t. let e = boundary_from_is quads v l ok p j (record { lt = d; none = from_none quads l p j t }) (from_at quads l p j t) in let z : ⊥ = omega arith in z)

  boundary_never : boundary_from quads l p ≡ length l → count (is_boundary_from quads l p) (length l) ≡ 0
  unfolding boundary_from
  boundary_never b = count_none (is_boundary_from quads l p) (length l) (λ j c. first_before (is_boundary_from quads l p) (length l) j (omega arith))

  counted_size : count (leaves l p) (length l) + 2 * count (is_boundary_from quads l p) (length l) ≡ ring_size l p
  unfolding valence
  counted_size = go (dec_lt (boundary_from quads l p) (length l))
    where
      go : Dec (boundary_from quads l p < length l) → count (leaves l p) (length l) + 2 * count (is_boundary_from quads l p) (length l) ≡ ring_size l p
      go (yes b) = let s = ring_size_boundary l p b in let c = boundary_once b in omega arith
      go (no b) = let e : boundary_from quads l p ≡ length l = omega (arith, boundary_from-le quads l p) in let s = ring_size_inner l p e in let c = boundary_never e in omega arith

  -- a ring has at most 8 faces, a fan at most 6
  ring_size_few : p < v → ring_size l p ≤ 8
  ring_size_few b = go (dec_lt (boundary_from quads l p) (length l))
    where
      go : Dec (boundary_from quads l p < length l) → ring_size l p ≤ 8
      go (yes c) = let s = ring_size_boundary l p c in omega (arith, (fan_range quads v l ok p b c).1)
      go (no c) = let e : boundary_from quads l p ≡ length l = omega (arith, boundary_from-le quads l p) in let s = ring_size_inner l p e in omega (arith, (ring_range quads v l ok p b e).1)

-- where the table has the ring size of each vertex
pub classes_counted : (v at : ℕ) (l w : List ℕ) → Manifold quads v l → at + v ≤ length w → RingSizes v at l w → Classes v at v l w
unfolding ordinary_by
classes_counted v at l w ok b r = record {
  fewer = omega arith;
  room = b;
  ordinary = λ p c e. let d = lt-ltb p v c in let x = eqb-true (size_at w (at + p)) 4 (rw d at e) in let y = r.sizes p c in let z = ring_size_few v l ok p c in four_ordinary l p (omega arith);
  irregular = λ p c e o. let d = lt-ltb p v c in let y = r.sizes p c in let z = ordinary_four l p o in let x = eq-eqb (size_at w (at + p)) 4 (omega arith) in clash (ordinary_by w at v p) (rw (d, x)) e;
}

pub counted_all : (v at : ℕ) (l w : List ℕ) → Manifold quads v l → CountedBelow v at l w (length l) → RingSizes v at l w
counted_all v at l w ok c = record { sizes = λ p b. c.sizes p b ∙ counted_size v l ok p }

pub counted_none : (v at : ℕ) (l w : List ℕ) → ZerosFrom v at w → CountedBelow v at l w 0
unfolding count
counted_none v at l w z = record { sizes = z.zeros }

pub share_le : (l : List ℕ) (h : ℕ) → share_of l h ≤ 3
unfolding share_of
share_le l h = cond_elim (λ r. r ≤ 3) (ltb (mate quads l h) (length l)) 1 3 (λ e. lit≤ tt) (λ e. lit≤ tt)

module _ (v at : ℕ) (l w : List ℕ) (h : ℕ) (b : h < length l) where
  -- the vertex that h leaves is counted once more, the others are not
  share_here : (p : ℕ) → from l h ≡ p
      → count (leaves l p) (h + 1) + 2 * count (is_boundary_from quads l p) (h + 1) ≡ count (leaves l p) h + 2 * count (is_boundary_from quads l p) h + share_of l h
  unfolding share_of
  share_here p e = go (dec_lt (mate quads l h) (length l))
    where
      x : count (leaves l p) (h + 1) ≡ count (leaves l p) h + 1
      x = rw (add-one h) (count_more (leaves l p) h (leaves_on l p h e))

      go : Dec (mate quads l h < length l) → count (leaves l p) (h + 1) + 2 * count (is_boundary_from quads l p) (h + 1) ≡ count (leaves l p) h + 2 * count (is_boundary_from quads l p) h + cond (ltb (mate quads l h) (length l)) 1 3
      go (yes m) =
          let s = lt-ltb (mate quads l h) (length l) m in
          let y : count (is_boundary_from quads l p) (h + 1) ≡ count (is_boundary_from quads l p) h = rw (add-one h) (count_same (is_boundary_from quads l p) h (refuted _ (λ t. let z = from_none quads l p h t in omega arith))) in
          rw s (omega (arith, x))
      go (no m) =
          let s = le-ltb (mate quads l h) (length l) (omega arith) in
          let k : mate quads l h ≡ length l = omega (arith, mate-le quads l h) in
          let y : count (is_boundary_from quads l p) (h + 1) ≡ count (is_boundary_from quads l p) h + 1 = rw (add-one h) (count_more (is_boundary_from quads l p) h (from_on quads l p h k e)) in
          rw s (omega (arith, x))

  share_elsewhere : (p : ℕ) → (from l h ≡ p → ⊥)
      → count (leaves l p) (h + 1) + 2 * count (is_boundary_from quads l p) (h + 1) ≡ count (leaves l p) h + 2 * count (is_boundary_from quads l p) h
  share_elsewhere p n =
      let x : count (leaves l p) (h + 1) ≡ count (leaves l p) h = rw (add-one h) (count_same (leaves l p) h (refuted _ (λ t. n (leaves_at l p h t)))) in
      let y : count (is_boundary_from quads l p) (h + 1) ≡ count (is_boundary_from quads l p) h = rw (add-one h) (count_same (is_boundary_from quads l p) h (refuted _ (λ t. n (from_at quads l p h t)))) in
      omega arith

  module _ (ok : Countable v at l w) (c : CountedBelow v at l w h) where
    pub place_lt : at + from l h < length w
    place_lt = let r = ok.room in let x = ok.net.oriented.below h b in omega arith

    -- a count of the half-edges below h is no larger than that of all
    pub counted_few : get_or w (at + from l h) 0 ≤ 8
    counted_few =
        let p : ℕ = from l h in
        let d = ok.net.oriented.below h b in
        let x = c.sizes p d in
        let y = count_mono (leaves l p) h (length l) (omega arith) in
        let z = count_mono (is_boundary_from quads l p) h (length l) (omega arith) in
        let e = counted_size v l ok.net p in
        let f = ring_size_few v l ok.net p d in
        omega arith

    pub size_here : size_at w (at + from l h) ≡ get_or w (at + from l h) 0
    size_here = let f = counted_few in omega arith

    pub counted_next : CountedBelow v at l (set w (at + from l h) (get_or w (at + from l h) 0 + share_of l h)) (h + 1)
    counted_next = record { sizes = λ p d. go p d (ℕ_discrete (from l h) p) }
      where
        x : ℕ
        x = get_or w (at + from l h) 0 + share_of l h

        go : (p : ℕ) → p < v → Dec (from l h ≡ p) → get_or (set w (at + from l h) x) (at + p) 0 ≡ count (leaves l p) (h + 1) + 2 * count (is_boundary_from quads l p) (h + 1)
        go p d (yes e) =
            let a : at + from l h ≡ at + p = omega arith in
            let f : get_or (set w (at + from l h) x) (at + from l h) 0 ≡ x = get_or-set_same w (at + from l h) x 0 place_lt in
            let g : get_or w (at + from l h) 0 ≡ get_or w (at + p) 0 = ap (λ (i : ℕ). get_or w i 0) a in
            let j = c.sizes p d in
            let k = share_here p e in
            ap (λ (i : ℕ). get_or (set w (at + from l h) x) i 0) (sym a) ∙ f ∙ omega arith
        go p d (no e) = get_or-set_other w (at + from l h) (at + p) x 0 (λ q. e (omega arith)) ∙ c.sizes p d ∙ sym (share_elsewhere p e)

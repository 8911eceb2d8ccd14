-- An oriented net is manifold exactly if refusals 8, 10 and 11 hold nowhere in it.
use mathlib.Core.Path.{◌≡◌, sym, ap, ◌∙◌, subst}
use mathlib.Core.Bool.{false, ◌||◌}
use mathlib.Core.Logic.{◌⊎◌, inl, inr}
use mathlib.Core.List.{List}
use Prim.Native.Nat.{ℕ, ◌<◌}
use native.Mathlib.Decide.{dec_lt}
use native.Mathlib.Omega.{arith}
use lib.ListN.{length}
use lib.Dec.{eqb, ltb}
use borrow.Author.Tests.{eq-eqb, eqb-true, ltb-false, lt-ltb, le-ltb, not-false}
use Rattle.bounds.specs.Bounds.{min_ring, max_ring, max_fan}
use Rattle.search.specs.Search.{first, iterate}
use Rattle.search.proofs.Tests.{clash, not_off, or_off, or_left, or_right}
use Rattle.search.proofs.First.{first_before, first_holds, first_reach, first_none, any_on}
use Rattle.search.proofs.Count.{count_onto}
use Rattle.topology.specs.Shape.{Shape, Lawful}
use Rattle.topology.specs.HalfEdge.{from, mate}
use Rattle.topology.specs.Boundary.{boundary_from}
use Rattle.topology.specs.Vertex.{leaves, valence, start, faces_met, Ring, Fan}
use Rattle.topology.specs.Manifold.{Oriented, Around, ring, fan, Manifold}
use Rattle.topology.proofs.Rings.{ring_valence, ring_met, ring_at, fan_valence, fan_met, full_ring, open_fan}
use Rattle.topology.proofs.Boundary.{boundary_from-le, boundary_from_on, boundary_from_at, boundary_from_none, start_open, start_closed, ring_boundary_from, fan_boundary_from}
use Rattle.refusals.specs.Refusals.{isolated, non_manifold, bad_valence, Unrefused}
use Rattle.refusals.proofs.Oriented.{oriented_if, no_7, no_9}

-- ---- the range of 11, in numbers

pub bad_valence_fan : (S : Shape) (l : List ℕ) (p : ℕ) → boundary_from S l p < length l → bad_valence S l p ≡ ltb max_fan (valence l p)
unfolding bad_valence
bad_valence_fan S l p b = let c = lt-ltb (boundary_from S l p) (length l) b in rw c

pub bad_valence_ring : (S : Shape) (l : List ℕ) (p : ℕ) → boundary_from S l p ≡ length l → bad_valence S l p ≡ (ltb (valence l p) min_ring || ltb max_ring (valence l p))
unfolding bad_valence
bad_valence_ring S l p b = let c = le-ltb (boundary_from S l p) (length l) (omega arith) in rw c

module _ (S : Shape) (v : ℕ) (l : List ℕ) (ok : Oriented S v l) where
  -- ---- 10 does not hold at p: there is one full ring or one open fan

  unbroken : (p : ℕ) → non_manifold S l p ≡ false → faces_met S l (start S l p) ≡ valence l p
  unfolding non_manifold
  unbroken p e = eqb-true (faces_met S l (start S l p)) (valence l p) (not-false (eqb (faces_met S l (start S l p)) (valence l p)) e)

  -- a half-edge leaves p
  leaver : (p : ℕ) → non_manifold S l p ≡ false → first (leaves l p) (length l) < length l
  unfolding faces_met valence
  leaver p e =
      let u = unbroken p e in
      let x = count_onto (leaves l p) (length l) 0 (omega arith) in
      let y = first_reach (leaves l p) (length l) x.0 x.1 x.2 in
      omega (arith, x.1)

  manifold_fan : (p : ℕ) → non_manifold S l p ≡ false → boundary_from S l p < length l → Fan S l p (start S l p) (valence l p)
  manifold_fan p e b =
      let u = unbroken p e in
      let s = start_open S l p b in
      let k : start S l p < length l = rw s b in
      subst (Fan S l p (start S l p)) u
      (open_fan S v l ok p (start S l p) k (ap (from l) s ∙ boundary_from_at S l p b) u (ap (mate S l) s ∙ (boundary_from_on S l p b).none))

  pub manifold_ring : (p : ℕ) → non_manifold S l p ≡ false → boundary_from S l p ≡ length l → Ring S l p (start S l p) (valence l p)
  unfolding leaves
  manifold_ring p e b =
      let u = unbroken p e in
      let s = start_closed S l p b in
      let i = leaver p e in
      let k : start S l p < length l = rw s i in
      let f : from l (start S l p) ≡ p = ap (from l) s ∙ eqb-true (from l (first (leaves l p) (length l))) p (first_holds (leaves l p) (length l) i) in
      subst (Ring S l p (start S l p)) u (full_ring S v l ok p (start S l p) k f u (boundary_from_none S l p b (start S l p) k f))

  -- Paper 01: refusal 10 holds where "the faces at a vertex form neither one full ring nor one open fan"
  pub ring_or_fan : (p : ℕ) → non_manifold S l p ≡ false → Ring S l p (start S l p) (valence l p) ⊎ Fan S l p (start S l p) (valence l p)
  ring_or_fan p e = go (dec_lt (boundary_from S l p) (length l))
    where
      go : Dec (boundary_from S l p < length l) → Ring S l p (start S l p) (valence l p) ⊎ Fan S l p (start S l p) (valence l p)
      go (yes b) = inr (manifold_fan p e b)
      go (no b) = inl (manifold_ring p e (omega (arith, boundary_from-le S l p)))

  -- and back
  pub fan_manifold : (p h m : ℕ) → Fan S l p h m → non_manifold S l p ≡ false
  unfolding non_manifold iterate
  fan_manifold p h m r =
      let b = fan_boundary_from S v l ok p h m r in
      let k = r.walk.inside 0 r.some in
      not_off _ (eq-eqb (faces_met S l (start S l p)) (valence l p) (ap (faces_met S l) (start_open S l p (omega arith) ∙ b) ∙ fan_met S v l ok p h m r ∙ sym (fan_valence S v l ok p h m r)))

  pub ring_manifold : (p h m : ℕ) → Ring S l p h m → non_manifold S l p ≡ false
  unfolding non_manifold iterate leaves
  ring_manifold p h m r =
      let k = r.walk.inside 0 r.some in
      let g : ℕ = first (leaves l p) (length l) in
      let i = first_reach (leaves l p) (length l) h k (eq-eqb (from l h) p r.walk.leaves) in
      let q = ring_at S v l ok p h m r g (omega arith) (eqb-true (from l g) p (first_holds (leaves l p) (length l) (omega arith))) in
      not_off _ (eq-eqb (faces_met S l (start S l p)) (valence l p) (ap (faces_met S l) (start_closed S l p (ring_boundary_from S v l ok p h m r)) ∙ ring_met S v l ok p g m q ∙ sym (ring_valence S v l ok p h m r)))

  -- ---- 10 and 11

  around_if : (p : ℕ) → non_manifold S l p ≡ false → bad_valence S l p ≡ false → Around S l p
  around_if p e f = go (dec_lt (boundary_from S l p) (length l))
    where
      go : Dec (boundary_from S l p < length l) → Around S l p
      go (yes b) =
          let c = ltb-false max_fan (valence l p) (sym (bad_valence_fan S l p b) ∙ f) in
          fan (start S l p) (valence l p) c (manifold_fan p e b)
      go (no b) =
          let i : boundary_from S l p ≡ length l = omega (arith, boundary_from-le S l p) in
          let r = sym (bad_valence_ring S l p i) ∙ f in
          let c = ltb-false (valence l p) min_ring (or_left (ltb (valence l p) min_ring) (ltb max_ring (valence l p)) r) in
          let d = ltb-false max_ring (valence l p) (or_right (ltb (valence l p) min_ring) (ltb max_ring (valence l p)) r) in
          ring (start S l p) (valence l p) c d (manifold_ring p e i)

  no_8_at : (p : ℕ) → Around S l p → isolated l p ≡ false
  unfolding isolated iterate leaves
  no_8_at p (ring h m s t r) = not_off _ (any_on (leaves l p) (length l) h (r.walk.inside 0 r.some) (eq-eqb (from l h) p r.walk.leaves))
  no_8_at p (fan h m t r) = not_off _ (any_on (leaves l p) (length l) h (r.walk.inside 0 r.some) (eq-eqb (from l h) p r.walk.leaves))

  no_10_at : (p : ℕ) → Around S l p → non_manifold S l p ≡ false
  no_10_at p (ring h m s t r) = ring_manifold p h m r
  no_10_at p (fan h m t r) = fan_manifold p h m r

  no_11_at : (p : ℕ) → Around S l p → bad_valence S l p ≡ false
  unfolding iterate
  no_11_at p (ring h m s t r) =
      let d = ring_valence S v l ok p h m r in
      bad_valence_ring S l p (ring_boundary_from S v l ok p h m r) ∙ or_off (ltb (valence l p) min_ring) (ltb max_ring (valence l p)) (le-ltb (valence l p) min_ring (omega arith)) (le-ltb max_ring (valence l p) (omega arith))
  no_11_at p (fan h m t r) =
      let b = fan_boundary_from S v l ok p h m r in
      let k = r.walk.inside 0 r.some in
      let d = fan_valence S v l ok p h m r in
      bad_valence_fan S l p (omega arith) ∙ le-ltb max_fan (valence l p) (omega arith)

-- ---- a net has none of 7 to 11 exactly if it is manifold

pub manifold_if : (S : Shape) (v : ℕ) (l : List ℕ) → Lawful S (length l) → Unrefused S v l → Manifold S v l
manifold_if S v l w u =
    let ok = oriented_if S v l w u.no7 u.no9 in
    record {
      oriented = ok;
      around = λ p b. around_if S v l ok p (first_before (non_manifold S l) v p (omega (arith, u.no10))) (first_before (bad_valence S l) v p (omega (arith, u.no11)));
    }

pub unrefused_if : (S : Shape) (v : ℕ) (l : List ℕ) → Manifold S v l → Unrefused S v l
unrefused_if S v l ok = let o = ok.oriented in record {
  no7 = no_7 S v l o;
  no8 = first_none (isolated l) v (λ p b t. clash _ t (no_8_at S v l o p (ok.around p b)));
  no9 = no_9 S v l o;
  no10 = first_none (non_manifold S l) v (λ p b t. clash _ t (no_10_at S v l o p (ok.around p b)));
  no11 = first_none (bad_valence S l) v (λ p b t. clash _ t (no_11_at S v l o p (ok.around p b)));
}

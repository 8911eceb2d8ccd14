-- The boundary: what leaves and enters a vertex of a ring or a fan; and that of a manifold net, from half-edge to half-edge.
use mathlib.Core.Path.{◌≡◌, refl, sym, ap, ◌∙◌, subst}
use mathlib.Core.Bool.{true}
use mathlib.Core.List.{List}
use Prim.Native.Nat.{ℕ, suc, ◌-◌, ◌≤◌, ◌<◌}
use native.Mathlib.Decide.{dec_lt}
use native.Mathlib.Omega.{arith}
use lib.ListN.{length}
use lib.Dec.{eqb}
use borrow.Author.Tests.{eq-eqb, eqb-true, lt-ltb, le-ltb}
use Rattle.search.specs.Search.{first, iterate}
use Rattle.search.proofs.Tests.{and_on, and_left, and_right}
use Rattle.search.proofs.First.{first-le, first_holds, first_reach, first_only, first_none}
use Rattle.topology.specs.Shape.{Shape}
use Rattle.topology.specs.HalfEdge.{from, to, mate}
use Rattle.topology.specs.Boundary.{OnBoundary, is_boundary_from, is_boundary_into, boundary_from, boundary_into, along, back}
use Rattle.topology.specs.Vertex.{leaves, valence, turn, turns, start, Ring, Fan}
use Rattle.topology.specs.Manifold.{Oriented, Around, ring, fan, Manifold}
use Rattle.topology.proofs.Mates.{mate-le}
use Rattle.topology.proofs.Turn.{turns-from}
use Rattle.topology.proofs.Rings.{ring_valence, ring_mates, ring_turns, ring_at, fan_valence, fan_first, fan_last}

-- ---- the two tests

module _ (S : Shape) (l : List ℕ) (p g : ℕ) where
  pub from_on : mate S l g ≡ length l → from l g ≡ p → is_boundary_from S l p g ≡ true
  unfolding is_boundary_from
  from_on a b = and_on _ _ (eq-eqb _ _ a) (eq-eqb _ _ b)

  pub from_none : is_boundary_from S l p g ≡ true → mate S l g ≡ length l
  unfolding is_boundary_from
  from_none t = eqb-true (mate S l g) (length l) (and_left (eqb (mate S l g) (length l)) (eqb (from l g) p) t)

  pub from_at : is_boundary_from S l p g ≡ true → from l g ≡ p
  unfolding is_boundary_from
  from_at t = eqb-true (from l g) p (and_right (eqb (mate S l g) (length l)) (eqb (from l g) p) t)

  into_on : mate S l g ≡ length l → to S l g ≡ p → is_boundary_into S l p g ≡ true
  unfolding is_boundary_into
  into_on a b = and_on _ _ (eq-eqb _ _ a) (eq-eqb _ _ b)

  into_none : is_boundary_into S l p g ≡ true → mate S l g ≡ length l
  unfolding is_boundary_into
  into_none t = eqb-true (mate S l g) (length l) (and_left (eqb (mate S l g) (length l)) (eqb (to S l g) p) t)

  into_at : is_boundary_into S l p g ≡ true → to S l g ≡ p
  unfolding is_boundary_into
  into_at t = eqb-true (to S l g) p (and_right (eqb (mate S l g) (length l)) (eqb (to S l g) p) t)

module _ (S : Shape) (l : List ℕ) (p : ℕ) where
  pub boundary_from-le : boundary_from S l p ≤ length l
  unfolding boundary_from
  boundary_from-le = first-le (is_boundary_from S l p) (length l)

  -- what is found is on the boundary, and leaves p
  pub boundary_from_on : boundary_from S l p < length l → OnBoundary S l (boundary_from S l p)
  unfolding boundary_from
  boundary_from_on b = record { lt = b; none = from_none S l p (boundary_from S l p) (first_holds (is_boundary_from S l p) (length l) b) }

  pub boundary_from_at : boundary_from S l p < length l → from l (boundary_from S l p) ≡ p
  unfolding boundary_from
  boundary_from_at b = from_at S l p (boundary_from S l p) (first_holds (is_boundary_from S l p) (length l) b)

  -- where none is found, each half-edge that leaves p has a mate
  pub boundary_from_none : boundary_from S l p ≡ length l → (g : ℕ) → g < length l → from l g ≡ p → mate S l g < length l
  unfolding boundary_from
  boundary_from_none e g b s = go (dec_lt (mate S l g) (length l))
    where
      go : Dec (mate S l g < length l) → mate S l g < length l
      go (yes i) = i
      go (no i) = let j : mate S l g ≡ length l = omega (arith, mate-le S l g) in let k = first_reach (is_boundary_from S l p) (length l) g b (from_on S l p g j s) in omega arith

  pub start_open : boundary_from S l p < length l → start S l p ≡ boundary_from S l p
  unfolding start
  start_open b = let c = lt-ltb (boundary_from S l p) (length l) b in rw c

  pub start_closed : boundary_from S l p ≡ length l → start S l p ≡ first (leaves l p) (length l)
  unfolding start
  start_closed b = let c = le-ltb (boundary_from S l p) (length l) (omega arith) in rw c

  boundary_into_on : boundary_into S l p < length l → OnBoundary S l (boundary_into S l p)
  unfolding boundary_into
  boundary_into_on b = record { lt = b; none = into_none S l p (boundary_into S l p) (first_holds (is_boundary_into S l p) (length l) b) }

  boundary_into_at : boundary_into S l p < length l → to S l (boundary_into S l p) ≡ p
  unfolding boundary_into
  boundary_into_at b = into_at S l p (boundary_into S l p) (first_holds (is_boundary_into S l p) (length l) b)

boundary_into_reach : (S : Shape) (l : List ℕ) (h : ℕ) → OnBoundary S l h → boundary_into S l (to S l h) ≤ h
unfolding boundary_into
boundary_into_reach S l h o = first_reach (is_boundary_into S l (to S l h)) (length l) h o.lt (into_on S l (to S l h) h o.none refl)

-- ---- at a ring nothing of the boundary, at a fan one half-edge that leaves and one that enters

module _ (S : Shape) (v : ℕ) (l : List ℕ) (ok : Oriented S v l) where
  -- from the half-edge after a boundary one there is no turn
  turn_none : (h : ℕ) → mate S l h ≡ length l → turn S l (S.next h) ≡ length l
  unfolding turn
  turn_none h e = ap (mate S l) (ok.shape.prev_next h) ∙ e

  pub ring_boundary_from : (p h m : ℕ) → Ring S l p h m → boundary_from S l p ≡ length l
  unfolding boundary_from
  ring_boundary_from p h m r = first_none (is_boundary_from S l p) (length l)
      (λ g b t. let x = ring_mates S v l ok p h m r g b (from_at S l p g t) in let y = from_none S l p g t in omega arith)

  pub ring_boundary_into : (p h m : ℕ) → Ring S l p h m → boundary_into S l p ≡ length l
  unfolding boundary_into to
  ring_boundary_into p h m r = first_none (is_boundary_into S l p) (length l)
      (λ g b t. let x = ring_turns S v l ok p h m r (S.next g) (ok.shape.next_lt g b) (into_at S l p g t) in let y = turn_none g (into_none S l p g t) in omega arith)

  pub fan_boundary_from : (p h m : ℕ) → Fan S l p h m → boundary_from S l p ≡ h
  unfolding boundary_from iterate
  fan_boundary_from p h m f = first_only (is_boundary_from S l p) (length l) h (f.walk.inside 0 f.some) (from_on S l p h f.opens f.walk.leaves)
      (λ g b t. fan_first S v l ok p h m f g b (from_at S l p g t) (from_none S l p g t))

  -- two boundary half-edges that enter the vertex of a fan are one
  fan_into : (p h m : ℕ) → Fan S l p h m → (g : ℕ) → OnBoundary S l g → to S l g ≡ p → S.prev (turns S l (m - 1) h) ≡ g
  unfolding to
  fan_into p h m f g o e =
      ap S.prev (fan_last S v l ok p h m f (S.next g) (ok.shape.next_lt g o.lt) e (turn_none g o.none)) ∙ ok.shape.prev_next g

  pub fan_boundary_into : (p h m : ℕ) → Fan S l p h m → boundary_into S l p ≡ S.prev (turns S l (m - 1) h)
  unfolding boundary_into iterate turn to
  fan_boundary_into p h m f =
      let x : suc (m - 1) ≡ m = omega (arith, f.some) in
      let i = f.walk.inside (m - 1) (omega (arith, f.some)) in
      let e : mate S l (S.prev (turns S l (m - 1) h)) ≡ length l = subst (λ (k : ℕ). turns S l k h ≡ length l) (sym x) f.ends in
      let g : ℕ = S.prev (turns S l (m - 1) h) in
      let s : to S l g ≡ p = ap (from l) (ok.shape.next_prev (turns S l (m - 1) h)) ∙ leaves_at (m - 1) (omega (arith, f.some)) in
      first_only (is_boundary_into S l p) (length l) g (ok.shape.prev_lt (turns S l (m - 1) h) i) (into_on S l p g e s)
      (λ k b t. sym (fan_into p h m f k (record { lt = b; none = into_none S l p k t }) (into_at S l p k t)))
    where
      leaves_at : (k : ℕ) → k < m → from l (turns S l k h) ≡ p
      leaves_at k b = turns-from S v l ok p h k f.walk.leaves (λ j c. f.walk.inside j (omega arith))

-- ---- from half-edge to half-edge

module _ (S : Shape) (v : ℕ) (l : List ℕ) (ok : Manifold S v l) where
  -- where a vertex has no boundary half-edge it has a ring, where it has one a fan; each from `start`, and of as many faces as there are
  pub ring_start : (p : ℕ) → p < v → boundary_from S l p ≡ length l → Ring S l p (start S l p) (valence l p)
  unfolding leaves iterate
  ring_start p b e = go (ok.around p b)
    where
      go : Around S l p → Ring S l p (start S l p) (valence l p)
      go (ring h m s t r) =
          let g : ℕ = first (leaves l p) (length l) in
          let i = first_reach (leaves l p) (length l) h (r.walk.inside 0 r.some) (eq-eqb (from l h) p r.walk.leaves) in
          let k : g < length l = omega (arith, r.walk.inside 0 r.some) in
          let c = start_closed S l p e in
          let d = ring_valence S v l ok.oriented p h m r in
          rw (c, d) (ring_at S v l ok.oriented p h m r g k (eqb-true (from l g) p (first_holds (leaves l p) (length l) k)))
      go (fan h m t r) = let x = fan_boundary_from S v l ok.oriented p h m r in let y = r.walk.inside 0 r.some in let z : ⊥ = omega arith in absurd z

  pub fan_start : (p : ℕ) → p < v → boundary_from S l p < length l → Fan S l p (start S l p) (valence l p)
  fan_start p b e = go (ok.around p b)
    where
      go : Around S l p → Fan S l p (start S l p) (valence l p)
      go (ring h m s t r) = let x = ring_boundary_from S v l ok.oriented p h m r in let z : ⊥ = omega arith in absurd z
      go (fan h m t r) =
          let c = start_open S l p e ∙ fan_boundary_from S v l ok.oriented p h m r in
          let d = fan_valence S v l ok.oriented p h m r in
          rw (c, d) r

  pub ring_range : (p : ℕ) → p < v → boundary_from S l p ≡ length l → (3 ≤ valence l p) × (valence l p ≤ 8)
  unfolding iterate
  ring_range p b e = go (ok.around p b)
    where
      go : Around S l p → (3 ≤ valence l p) × (valence l p ≤ 8)
      go (ring h m s t r) = let d = ring_valence S v l ok.oriented p h m r in (omega arith, omega arith)
      go (fan h m t r) = let x = fan_boundary_from S v l ok.oriented p h m r in let y = r.walk.inside 0 r.some in let z : ⊥ = omega arith in absurd z

  pub fan_range : (p : ℕ) → p < v → boundary_from S l p < length l → (0 < valence l p) × (valence l p ≤ 6)
  fan_range p b e = go (ok.around p b)
    where
      go : Around S l p → (0 < valence l p) × (valence l p ≤ 6)
      go (ring h m s t r) = let x = ring_boundary_from S v l ok.oriented p h m r in let z : ⊥ = omega arith in absurd z
      go (fan h m t r) = let d = fan_valence S v l ok.oriented p h m r in let s = r.some in (omega arith, omega arith)

  pub to_lt : (h : ℕ) → h < length l → to S l h < v
  unfolding to
  to_lt h k = ok.oriented.below (S.next h) (ok.oriented.shape.next_lt h k)

  -- the only boundary half-edge that leaves p, and the only one that enters p
  pub boundary_from_is : (p h : ℕ) → OnBoundary S l h → from l h ≡ p → boundary_from S l p ≡ h
  boundary_from_is p h o e = go (ok.around p (let b = ok.oriented.below h o.lt in omega arith))
    where
      go : Around S l p → boundary_from S l p ≡ h
      go (ring g m s t r) = let x = ring_mates S v l ok.oriented p g m r h o.lt e in let y = o.none in let z : ⊥ = omega arith in absurd z
      go (fan g m t r) = fan_boundary_from S v l ok.oriented p g m r ∙ sym (fan_first S v l ok.oriented p g m r h o.lt e o.none)

  end_fan : (h : ℕ) → OnBoundary S l h → (g : ℕ) × (m : ℕ) × Fan S l (to S l h) g m
  end_fan h o = go (ok.around (to S l h) (to_lt h o.lt))
    where
      go : Around S l (to S l h) → (g : ℕ) × (m : ℕ) × Fan S l (to S l h) g m
      go (ring g m s t r) = let x = ring_boundary_into S v l ok.oriented (to S l h) g m r in let y = boundary_into_reach S l h o in let k = o.lt in let z : ⊥ = omega arith in absurd z
      go (fan g m t r) = (g, m, r)

  pub boundary_into_is : (p h : ℕ) → OnBoundary S l h → to S l h ≡ p → boundary_into S l p ≡ h
  boundary_into_is p h o e =
      let f = end_fan h o in
      ap (boundary_into S l) (sym e) ∙ fan_boundary_into S v l ok.oriented (to S l h) f.0 f.1 f.2 ∙ fan_into S v l ok.oriented (to S l h) f.0 f.1 f.2 h o refl

  end_open : (h : ℕ) → OnBoundary S l h → boundary_from S l (to S l h) < length l
  unfolding iterate
  end_open h o = let f = end_fan h o in let r = f.2 in let e = fan_boundary_from S v l ok.oriented (to S l h) f.0 f.1 r in let k = r.walk.inside 0 r.some in omega arith

  start_fan : (h : ℕ) → OnBoundary S l h → Fan S l (from l h) (start S l (from l h)) (valence l (from l h))
  start_fan h o = let e = boundary_from_is (from l h) h o refl in let k = o.lt in fan_start (from l h) (ok.oriented.below h k) (omega arith)

  -- the half-edge after h is on the boundary and leaves the end of h; the one before it enters its start
  pub along_on : (h : ℕ) → OnBoundary S l h → OnBoundary S l (along S l h)
  unfolding along
  along_on h o = boundary_from_on S l (to S l h) (end_open h o)

  pub along-from : (h : ℕ) → OnBoundary S l h → from l (along S l h) ≡ to S l h
  unfolding along
  along-from h o = boundary_from_at S l (to S l h) (end_open h o)

  before_fan : (h : ℕ) → OnBoundary S l h → OnBoundary S l (back S l h) × (to S l (back S l h) ≡ from l h)
  unfolding back iterate turn to
  before_fan h o =
      let p : ℕ = from l h in
      let g : ℕ = start S l p in
      let m : ℕ = valence l p in
      let f = start_fan h o in
      let s = f.some in
      let x : suc (m - 1) ≡ m = omega arith in
      let k : ℕ = turns S l (m - 1) g in
      let i = f.walk.inside (m - 1) (omega arith) in
      let e : boundary_into S l p ≡ S.prev k = fan_boundary_into S v l ok.oriented p g m f in
      let n : mate S l (S.prev k) ≡ length l = subst (λ (j : ℕ). turns S l j g ≡ length l) (sym x) f.ends in
      rw e (record { lt = ok.oriented.shape.prev_lt k i; none = n }, ap (from l) (ok.oriented.shape.next_prev k) ∙ turns-from S v l ok.oriented p g (m - 1) f.walk.leaves (λ j c. f.walk.inside j (omega arith)))

  pub back_on : (h : ℕ) → OnBoundary S l h → OnBoundary S l (back S l h)
  back_on h o = (before_fan h o).0

  pub back_to : (h : ℕ) → OnBoundary S l h → to S l (back S l h) ≡ from l h
  back_to h o = (before_fan h o).1

  pub back-along : (h : ℕ) → OnBoundary S l h → back S l (along S l h) ≡ h
  unfolding back
  back-along h o = boundary_into_is (from l (along S l h)) h o (sym (along-from h o))

  pub along-back : (h : ℕ) → OnBoundary S l h → along S l (back S l h) ≡ h
  unfolding along
  along-back h o = boundary_from_is (to S l (back S l h)) h o (sym (back_to h o))

  -- a boundary half-edge is known by its start, and by its end
  pub from_inj : (h g : ℕ) → OnBoundary S l h → OnBoundary S l g → from l h ≡ from l g → h ≡ g
  from_inj h g o q e = sym (boundary_from_is (from l g) h o e) ∙ boundary_from_is (from l g) g q refl

  -- a vertex that starts a boundary half-edge ends one, and the other way round
  pub starts_ends : (p : ℕ) → boundary_from S l p < length l → boundary_into S l p < length l
  unfolding back
  starts_ends p c = let e = ap (boundary_into S l) (boundary_from_at S l p c) in let o = back_on (boundary_from S l p) (boundary_from_on S l p c) in rw e at o.lt

  pub ends_starts : (p : ℕ) → boundary_into S l p < length l → boundary_from S l p < length l
  unfolding along
  ends_starts p c = let e = ap (boundary_from S l) (boundary_into_at S l p c) in let o = along_on (boundary_into S l p) (boundary_into_on S l p c) in rw e at o.lt

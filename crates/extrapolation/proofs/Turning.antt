-- Turning round a vertex while its neighbours and opposite corners are gathered.
use mathlib.Core.Path.{◌≡◌, refl, sym, ap, ◌∙◌, subst}
use mathlib.Core.Logic.{◌⊎◌, inl, inr, ⊎_elim}
use mathlib.Core.List.{List}
use Prim.Native.Nat.{ℕ, suc, ◌+◌, ◌-◌, ◌≤◌, ◌<◌}
use native.Mathlib.Decide.{dec_lt}
use native.Mathlib.Omega.{arith}
use lib.IntN.{ℤ}
use lib.ListN.{length, get_or, set, length-set}
use lib.Seq.{get_or-set_same, get_or-set_other}
use Rattle.search.specs.Search.{iterate}
use Rattle.search.proofs.Iterate.{iterate-add}
use Rattle.topology.specs.Shape.{quads}
use Rattle.topology.specs.HalfEdge.{from, to}
use Rattle.topology.specs.Boundary.{OnBoundary, boundary_from, back}
use Rattle.topology.specs.Vertex.{valence, turn, turns}
use Rattle.topology.specs.Manifold.{Manifold}
use Rattle.topology.specs.Quads.{opposite_corner}
use Rattle.topology.proofs.Boundary.{boundary_from-le, boundary_from_is}
use Rattle.topology.proofs.Walks.{fan_from-le, back-turns}
use Rattle.walks.proofs.Around.{ring_here, ring_here_range, fan_here, fan_here_range, fan_differ}
use Rattle.coordinates.specs.Points.{Points}
use Rattle.extrapolation.specs.Gathered.{Filled, Circuit, Gathered, OpenFan}
use Rattle.ringsums.specs.declared.Fan.{Fan}
use Rattle.ringsums.specs.Sums.{VerticesIn, FanIn}

-- i turns from h lead to g, before the circuit from h ends
pub record Turning (l : List ℕ) (h g i : ℕ) : Type 0 where
  pub count : ℕ
  pub circuit : Circuit l h count
  pub lt : i < count
  pub at : g ≡ turns quads l i h

-- ---- there is a circuit
module _ (v : ℕ) (l : List ℕ) (ok : Manifold quads v l) (h : ℕ) (b : h < length l) where
  ring_circuit : boundary_from quads l (from l h) ≡ length l → Circuit l h (valence l (from l h))
  ring_circuit e =
      let r = ring_here quads v l ok h b e in
      record { some = r.some; few = (ring_here_range quads v l ok h b e).1; inside = r.walk.inside; goes_on = r.not_before; ring = λ x. (refl, r.back); fan = λ x. absurd (omega arith); whole = λ x. refl }

  module _ (o : boundary_from quads l (from l h) < length l) (j : ℕ) (c : j < valence l (from l h)) (e : turns quads l j (boundary_from quads l (from l h)) ≡ h) where
    abbrev m : ℕ
    m = valence l (from l h)

    abbrev s : ℕ
    s = boundary_from quads l (from l h)

    on : (i : ℕ) → turns quads l i h ≡ turns quads l (i + j) s
    on i = ap (turns quads l i) (sym e) ∙ sym (iterate-add (turn quads l) i j s)

    first_place : OnBoundary quads l h → j ≡ 0
    unfolding iterate
    first_place x = go (dec_lt 0 j)
      where
        go : Dec (0 < j) → j ≡ 0
        go (yes k) = absurd (fan_differ quads v l ok h b o 0 j k c (boundary_from_is quads v l ok (from l h) h x refl ∙ sym e))
        go (no k) = omega arith

    fan_circuit : Circuit l h (m - j)
    fan_circuit =
        let f = fan_here quads v l ok h b o in
        let k = fan_here_range quads v l ok h b o in
        record {
          some = omega arith;
          few = omega arith;
          inside = λ i d. let x = on i in rw x (f.walk.inside (i + j) (omega arith));
          goes_on = λ i d g q. fan_differ quads v l ok h b o j (i + j) (omega arith) (omega arith) (e ∙ sym q ∙ on i);
          ring = λ x. absurd (omega arith);
          fan = λ x. let q : m - j + j ≡ m = omega arith in on (m - j) ∙ ap (λ (i : ℕ). turns quads l i s) q ∙ f.ends;
          whole = λ x. let z = first_place x in omega arith;
        }

  pub turning_start : Turning l h h 0
  unfolding iterate
  turning_start = go (dec_lt (boundary_from quads l (from l h)) (length l))
    where
      go : Dec (boundary_from quads l (from l h) < length l) → Turning l h h 0
      go (yes o) = let x = (fan_here quads v l ok h b o).walk.all h b refl in let c = fan_circuit o x.0 x.1 x.2 in record { count = valence l (from l h) - x.0; circuit = c; lt = c.some; at = refl }
      go (no o) =
          let e : boundary_from quads l (from l h) ≡ length l = omega (arith, boundary_from-le quads l (from l h)) in
          let c = ring_circuit e in
          record { count = valence l (from l h); circuit = c; lt = c.some; at = refl }

-- ---- one turn
module _ (l : List ℕ) (h g i : ℕ) (w : Turning l h g i) where
  pub turning_few : i ≤ 7
  turning_few = let a = w.lt in let b = w.circuit.few in omega arith

  module _ (m : ℕ) (e : m ≡ turn quads l g) where
    at : m ≡ turns quads l (suc i) h
    unfolding iterate
    at = e ∙ ap (turn quads l) w.at

    -- it stops where there is no face, or where one is back
    at_none : m ≡ length l → i + 1 ≡ w.count
    at_none x = go (dec_lt (suc i) w.count)
      where
        go : Dec (suc i < w.count) → i + 1 ≡ w.count
        go (yes b) = let y = w.circuit.inside (suc i) b in let z = at in let q : ⊥ = omega arith in absurd q
        go (no b) = let y = w.lt in omega arith

    at_back : m ≡ h → i + 1 ≡ w.count
    at_back x = go (dec_lt (suc i) w.count)
      where
        go : Dec (suc i < w.count) → i + 1 ≡ w.count
        go (yes b) = absurd (w.circuit.goes_on (suc i) (omega arith) b (sym at ∙ x))
        go (no b) = let y = w.lt in omega arith

    pub turning_end : (m ≡ length l) ⊎ (m ≡ h) → (L K : List ℕ) → Filled l h (i + 1) L K → Gathered l h (record { neighbours = L; opposites = K; count = i + 1; last = g; after = m })
    turning_end x L K f =
        let c : i + 1 ≡ w.count = ⊎_elim at_none at_back x in
        let d : i ≡ i + 1 - 1 = omega arith in
        let q : suc i ≡ i + 1 = omega arith in
        record { circuit = subst (Circuit l h) (sym c) w.circuit; last = w.at ∙ ap (λ (j : ℕ). turns quads l j h) d; after = at ∙ ap (λ (j : ℕ). turns quads l j h) q; filled = f }

    -- else it goes on
    ends : (turns quads l w.count h ≡ length l) ⊎ (turns quads l w.count h ≡ h)
    ends = go (dec_lt (boundary_from quads l (from l h)) (length l))
      where
        go : Dec (boundary_from quads l (from l h) < length l) → (turns quads l w.count h ≡ length l) ⊎ (turns quads l w.count h ≡ h)
        go (yes o) = inl (w.circuit.fan o)
        go (no o) = let x : boundary_from quads l (from l h) ≡ length l = omega (arith, boundary_from-le quads l (from l h)) in inr (w.circuit.ring x).1

    pub turning_more : (m ≡ length l → ⊥) → (m ≡ h → ⊥) → Turning l h m (i + 1)
    turning_more f k = go (dec_lt (suc i) w.count)
      where
        x : suc i ≡ i + 1
        x = omega arith

        go : Dec (suc i < w.count) → Turning l h m (i + 1)
        go (yes b) = subst (λ (j : ℕ). Turning l h m j) x (record { count = w.count; circuit = w.circuit; lt = b; at = at })
        go (no b) =
            let a = w.lt in
            let y : suc i ≡ w.count = omega arith in
            let z : m ≡ turns quads l w.count h = at ∙ ap (λ (j : ℕ). turns quads l j h) y in
            absurd (⊎_elim (λ d. f (z ∙ d)) (λ d. k (z ∙ d)) ends)

-- ---- the lists
store : (f : ℕ → ℕ) (L : List ℕ) (i x : ℕ) → i < length L → x ≡ f i → ((j : ℕ) → j < i → get_or L j 0 ≡ f j) → (j : ℕ) → j < i + 1 → get_or (set L i x) j 0 ≡ f j
store f L i x b e k j c = go (dec_lt j i)
  where
    go : Dec (j < i) → get_or (set L i x) j 0 ≡ f j
    go (yes d) = get_or-set_other L i j x 0 (λ q. omega arith) ∙ k j d
    go (no d) = let q : j ≡ i = omega arith in subst (λ (m : ℕ). get_or (set L i x) m 0 ≡ f m) (sym q) (get_or-set_same L i x 0 b ∙ e)

module _ (l : List ℕ) (h : ℕ) where
  pub filled_none : (L K : List ℕ) → length L ≡ 8 → length K ≡ 8 → Filled l h 0 L K
  filled_none L K p q = record { eight_l = p; eight_k = q; neighbours = λ i b. absurd (omega arith); corners = λ i b. absurd (omega arith) }

  pub filled_more : (g i : ℕ) (L K : List ℕ) (x y : ℕ) → Filled l h i L K → i ≤ 7 → g ≡ turns quads l i h → x ≡ to quads l g → y ≡ opposite_corner l g → Filled l h (i + 1) (set L i x) (set K i y)
  filled_more g i L K x y f b e ex ey =
      let p = f.eight_l in
      let q = f.eight_k in
      record {
        eight_l = simp length-set p;
        eight_k = simp length-set q;
        neighbours = store (λ (j : ℕ). to quads l (turns quads l j h)) L i x (omega arith) (ex ∙ ap (to quads l) e) f.neighbours;
        corners = store (λ (j : ℕ). opposite_corner l (turns quads l j h)) K i y (omega arith) (ey ∙ ap (opposite_corner l) e) f.corners;
      }

-- ---- what is gathered
module _ (v : ℕ) (l : List ℕ) (ok : Manifold quads v l) (h : ℕ) (f : Fan) (w : Gathered l h f) where
  -- whether h comes again tells a full ring from an open fan
  pub gathered_ring : h < length l → f.after ≡ h → boundary_from quads l (from l h) ≡ length l
  gathered_ring b x = go (dec_lt (boundary_from quads l (from l h)) (length l))
    where
      go : Dec (boundary_from quads l (from l h) < length l) → boundary_from quads l (from l h) ≡ length l
      go (yes o) = let y = w.circuit.fan o in let z = w.after in let q : ⊥ = omega arith in absurd q
      go (no o) = omega (arith, boundary_from-le quads l (from l h))

  pub gathered_fan : (f.after ≡ h → ⊥) → boundary_from quads l (from l h) < length l
  gathered_fan x = go (dec_lt (boundary_from quads l (from l h)) (length l))
    where
      go : Dec (boundary_from quads l (from l h) < length l) → boundary_from quads l (from l h) < length l
      go (yes o) = o
      go (no o) = let y : boundary_from quads l (from l h) ≡ length l = omega (arith, boundary_from-le quads l (from l h)) in absurd (x (w.after ∙ (w.circuit.ring y).1))

  pub open_fan : OnBoundary quads l h → OpenFan l h f
  open_fan o =
      let c = w.circuit.whole o in
      let k = fan_from-le quads v l ok h o in
      record { vertices = v; net = ok; start = o; count = c; some = w.circuit.some; few = omega arith; filled = w.filled }

  pub gathered_back : OnBoundary quads l h → quads.prev f.last ≡ back quads l h
  gathered_back o = ap quads.prev (w.last ∙ ap (λ (i : ℕ). turns quads l (i - 1) h) (w.circuit.whole o)) ∙ sym (back-turns quads v l ok h o)

  neighbours_in : (t : List ℤ) → Points l t → VerticesIn t f.count f.neighbours
  unfolding to
  neighbours_in t p = record { room = λ i b. let x = w.filled.neighbours i b in rw x (p.room (quads.next (turns quads l i h)) (ok.oriented.shape.next_lt (turns quads l i h) (w.circuit.inside i b))) }

  corners_in : (t : List ℤ) → Points l t → VerticesIn t f.count f.opposites
  unfolding opposite_corner to
  corners_in t p = record {
    room = λ i b.
        let s = ok.oriented.shape in
        let x = w.filled.corners i b in
        rw x (p.room (quads.next (quads.next (turns quads l i h))) (s.next_lt (quads.next (turns quads l i h)) (s.next_lt (turns quads l i h) (w.circuit.inside i b))));
  }

  pub fan_in : (t : List ℤ) → Points l t → FanIn t f
  fan_in t p = record { neighbours = neighbours_in t p; opposites = corners_in t p }

-- Both directions of a face agree exactly where the edges beyond its sides end in rings of four and its corners lie inside, at any weights and any valences of the
-- corners. So one direction is enough where all eight edges of both are inner and have ordinary ends: then no end is a fan. Nothing is asked of edges that join two
-- opposite corners. Assumes a manifold net.
use mathlib.Core.Path.{◌≡◌, refl, sym, ap, ap₂, ◌∙◌, subst}
use mathlib.Core.List.{List}
use Prim.Native.Nat.{ℕ, zero, suc, ◌+◌, ◌-◌, ◌*◌, ◌%◌, ◌≤◌, ◌<◌}
use native.Mathlib.Nat.{add_comm, mul-one}
use native.Mathlib.Omega.{arith}
use lib.Dec.{lit≤}
use lib.IntN.{ℤ}
use lib.ListN.{length}
use borrow.Author.Tests.{lt-ltb, le-ltb}
use Rattle.search.specs.Search.{iterate}
use Rattle.search.proofs.Quarters.{below_four}
use Rattle.search.proofs.Iterate.{iterate-add}
use Rattle.curve.specs.Weights.{Weights, scale}
use Rattle.fractions.specs.Fraction.{Fraction, whole, Equals, Same}
use Rattle.fractions.proofs.Laws.{equals_whole, equals_cong, equals_one, equals_same}
use Rattle.rings.specs.Ring.{Periodic}
use Rattle.rings.specs.RingWeights.{virtual_z}
use Rattle.rings.proofs.Virtual.{virtual_turned}
use Rattle.rings.proofs.Ties.{equals_virtual}
use Rattle.rules.specs.Rules.{inner_edge, direction_two}
use Rattle.rules.proofs.Directions.{Corner, both_directions}
use Rattle.topology.specs.Shape.{quads}
use Rattle.topology.specs.HalfEdge.{from, to, mate}
use Rattle.topology.specs.Boundary.{boundary_from}
use Rattle.topology.specs.Vertex.{valence, turn, turns, Ring}
use Rattle.topology.specs.Manifold.{Manifold}
use Rattle.topology.proofs.Shape.{four_sides}
use Rattle.topology.proofs.Mates.{mate_is}
use Rattle.topology.proofs.Turn.{turn-from}
use Rattle.topology.proofs.Rings.{ring_mates, ring_turns}
use Rattle.topology.proofs.Boundary.{boundary_from_none}
use Rattle.scheme.specs.Rings.{ring_virtual, virtual_at}
use Rattle.topology.specs.Quads.{opposite_corner, across, beyond}
use Rattle.scheme.specs.Points.{edge_point, direction}
use Rattle.schemelaws.specs.Agreement.{SideOf, FourBeyond, EightOrdinary}
use Rattle.schemelaws.specs.Numerators.{edge_z, direction_z}
use Rattle.schemelaws.proofs.Vertices.{comes_round, ring_of_lem, ring_ge}
use Rattle.schemelaws.proofs.Ties.{point_inner, across_lt, side₀_lt, side₁_lt, side₀, next_side, prev_side, equals_direction}
use Rattle.schemelaws.proofs.Beyond.{prev_across, next_across, across_next_lem, last_neighbour, start-straight, third_neighbour, end_straight}
use Rattle.schemelaws.proofs.FanOfTwo.{virtual_neighbour}
use Rattle.schemelaws.proofs.Made.{turn_ring}

-- ---- fractions of one value
same_cong : {a b a' b' : Fraction} → a ≡ a' → b ≡ b' → Same a b → Same a' b'
same_cong {a} {b} {a'} {b'} x y r = subst (λ (c : Fraction). Same c b') x (subst (λ (c : Fraction). Same a c) y r)

-- ---- the virtual point at an inner vertex, from its ring over 1
module _ (l : List ℕ) (p : ℕ → ℤ) where
  abbrev neighbour : ℕ → ℕ → ℤ
  neighbour h i = p (to quads l (turns quads l i h))

  abbrev opposite : ℕ → ℕ → ℤ
  opposite h i = p (opposite_corner l (turns quads l i h))

  module _ (q h n : ℕ) (r : Ring quads l q h n) where
    neighbours_again : Periodic n (neighbour h)
    neighbours_again = record { again = λ i. ap (λ (g : ℕ). p (to quads l g)) (comes_round l q h n r i) }

    opposites_again : Periodic n (opposite h)
    opposites_again = record { again = λ i. ap (λ (g : ℕ). p (opposite_corner l g)) (comes_round l q h n r i) }

module _ (w : Weights) (near : 0 < w.near) (v : ℕ) (l : List ℕ) (ok : Manifold quads v l) (p : ℕ → ℤ) where
  virtual_here : (h : ℕ) → h < length l → boundary_from quads l (from l h) ≡ length l
      → Equals (virtual_at w l p h) (virtual_z w (valence l (from l h)) (neighbour l p h) (opposite l p h) 0) (w.near * valence l (from l h))
  unfolding virtual_at ring_virtual
  virtual_here h k b =
      let t = le-ltb (boundary_from quads l (from l h)) (length l) (omega arith) in
      let c = ring_ge v l ok h k (omega arith) in
      let n : ℕ = valence l (from l h) in
      rw t
      (equals_cong refl (mul-one (w.near * n))
      (equals_virtual w near n (λ (i : ℕ). whole (neighbour l p h i)) (λ (i : ℕ). whole (opposite l p h i)) (neighbour l p h) (opposite l p h) 1 (omega arith)
      (λ i. equals_whole (neighbour l p h i)) (λ i. equals_whole (opposite l p h i)) 0))

  -- on the next edge of the ring
  virtual-turn : (h : ℕ) → h < length l → boundary_from quads l (from l h) ≡ length l
      → Equals (virtual_at w l p (turn quads l h)) (virtual_z w (valence l (from l h)) (neighbour l p h) (opposite l p h) 1) (w.near * valence l (from l h))
  unfolding iterate
  virtual-turn h k b =
      let g : ℕ = turn quads l h in
      let N : ℕ = valence l (from l h) in
      let r = ring_of_lem v l ok h k (omega arith) in
      let g_lt : turn quads l h < length l = ring_turns quads v l ok.oriented (from l h) h N r h k refl in
      let e : from l g ≡ from l h = turn-from quads v l ok.oriented h g_lt in
      let turned : (d : ℕ) → turns quads l d g ≡ turns quads l (1 + d) h = λ d. sym (iterate-add (turn quads l) d 1 h) ∙ ap (λ (j : ℕ). turns quads l j h) (add_comm d 1) in
      let fl : neighbour l p g ≡ (λ (d : ℕ). neighbour l p h (1 + d)) = λ x d. p (to quads l (turned d x)) in
      let fk : opposite l p g ≡ (λ (d : ℕ). opposite l p h (1 + d)) = λ x d. p (opposite_corner l (turned d x)) in
      equals_cong
      (ap (λ (u : ℕ). virtual_z w (valence l u) (neighbour l p g) (opposite l p g) 0) e ∙ ap₂ (λ (x y : ℕ → ℤ). virtual_z w N x y 0) fl fk
      ∙ virtual_turned w N (neighbour l p h) (opposite l p h) (neighbours_again l p (from l h) h N r) (opposites_again l p (from l h) h N r) 1)
      (ap (λ (u : ℕ). w.near * valence l u) e)
      (virtual_here g g_lt (ap (boundary_from quads l) e ∙ b))

-- ---- the rings at a side
module _ (v : ℕ) (l : List ℕ) (ok : Manifold quads v l) (f : ℕ) (reg : FourBeyond l f) where
  module _ (h : ℕ) (s : SideOf l f h) where
    ring : Ring quads l (from l h) h (valence l (from l h))
    ring = ring_of_lem v l ok h s.lt (let e = reg.corners h s in omega arith)

    three : 3 ≤ valence l (from l h)
    three = ring_ge v l ok h s.lt (let e = reg.corners h s in omega arith)

    mated : mate quads l h < length l
    mated = ring_mates quads v l ok.oriented (from l h) h (valence l (from l h)) ring h s.lt refl

    beyond-lt : beyond l h < length l
    unfolding beyond
    beyond-lt = across_lt v l ok (mate quads l h) mated

    start_ring : Ring quads l (from l (beyond l h)) (beyond l h) 4
    start_ring = subst (Ring quads l (from l (beyond l h)) (beyond l h)) (reg.start_four h s) (ring_of_lem v l ok (beyond l h) beyond-lt (let e = reg.start_inside h s in omega arith))

    beyond-inner : mate quads l (beyond l h) < length l
    beyond-inner = ring_mates quads v l ok.oriented (from l (beyond l h)) (beyond l h) 4 start_ring (beyond l h) beyond-lt refl

    end_at : from l (mate quads l (beyond l h)) ≡ to quads l (beyond l h)
    end_at = (mate_is quads l (beyond l h) beyond-inner).start

    end_inside_lem : boundary_from quads l (from l (mate quads l (beyond l h))) ≡ length l
    end_inside_lem = ap (boundary_from quads l) end_at ∙ reg.end_inside h s

    end_four_lem : valence l (from l (mate quads l (beyond l h))) ≡ 4
    end_four_lem = ap (valence l) end_at ∙ reg.end_four h s

    end_ring : Ring quads l (from l (mate quads l (beyond l h))) (mate quads l (beyond l h)) 4
    end_ring = subst (Ring quads l (from l (mate quads l (beyond l h))) (mate quads l (beyond l h))) end_four_lem (ring_of_lem v l ok (mate quads l (beyond l h)) beyond-inner (let e = end_inside_lem in omega arith))

  two_lt : (h : ℕ) → SideOf l f h → turns quads l 2 (quads.next h) < length l
  two_lt h s = let i = next_side v l ok f h s in let c = three (quads.next h) i in (ring (quads.next h) i).walk.inside 2 (omega arith)

-- ---- the law, at a side
module _ (w : Weights) (near : 0 < w.near) (apart : 0 < scale w) (v : ℕ) (l marks : List ℕ) (ok : Manifold quads v l) (p : ℕ → ℤ) (f : ℕ) (reg : FourBeyond l f) where
  -- the corner that h leaves, with the edges beyond h and beyond the side before it
  corner : (h : ℕ) → SideOf l f h → Corner w (valence l (from l h)) (neighbour l p h) (opposite l p h)
      (virtual_at w l p h) (virtual_at w l p (mate quads l (quads.prev h))) (virtual_at w l p (beyond l h)) (virtual_at w l p (mate quads l (beyond l (quads.prev h))))
  unfolding turn
  corner h s =
      let b = reg.corners h s in
      let g : ℕ = quads.prev h in
      let t = prev_side v l ok f h s in
      let q : quads.next g ≡ h = ok.oriented.shape.next_prev h in
      let N : ℕ = valence l (from l h) in
      record {
        valence = three v l ok f reg h s;
        neighbours = neighbours_again l p (from l h) h N (ring v l ok f reg h s);
        opposites = opposites_again l p (from l h) h N (ring v l ok f reg h s);
        next = virtual_here w near v l ok p h s.lt b;
        last = virtual-turn w near v l ok p h s.lt b;
        across_next = equals_cong (ap p (start-straight v l ok h s.lt (mated v l ok f reg h s) N (ring v l ok f reg h s) (three v l ok f reg h s) ((start_ring v l ok f reg h s).walk.inside 2 (lit≤ tt)))) refl
            (virtual_neighbour w near v l ok p (beyond l h) (beyond-lt v l ok f reg h s) (reg.start_inside h s) (reg.start_four h s));
        across_last = equals_cong (ap p (end_straight v l ok g t.lt (mated v l ok f reg g t) (two_lt v l ok f reg g t) (end_ring v l ok f reg g t)) ∙ ap (λ (u : ℕ). p (opposite_corner l (turns quads l 2 u))) q) refl
            (virtual_neighbour w near v l ok p (mate quads l (beyond l g)) (beyond-inner v l ok f reg g t) (end_inside_lem v l ok f reg g t) (end_four_lem v l ok f reg g t));
      }

  -- ---- the edges
  -- the side from the corner of h to that of e, and the edge beyond it
  abbrev side_from : ℕ → ℕ → Fraction
  side_from h e = inner_edge w (whole (p (from l h))) (whole (p (from l e))) (virtual_at w l p h) (virtual_at w l p (mate quads l (quads.prev e)))

  abbrev beyond_from : ℕ → ℕ → Fraction
  beyond_from h e =
      inner_edge w (whole (neighbour l p h (valence l (from l h) - 1))) (whole (neighbour l p e 2)) (virtual_at w l p (beyond l h)) (virtual_at w l p (mate quads l (beyond l (quads.prev e))))

  module _ (h e : ℕ) (s : SideOf l f h) (q : quads.next h ≡ e) where
    before : h ≡ quads.prev e
    before = sym (ok.oriented.shape.prev_next h) ∙ ap quads.prev q

    side_is : edge_point w l marks p h ≡ side_from h e
    unfolding to
    side_is = point_inner w l marks p h (mated v l ok f reg h s) ∙ ap₂ (λ (x y : ℕ). inner_edge w (whole (p (from l h))) (whole (p (from l x))) (virtual_at w l p h) (virtual_at w l p (mate quads l y))) q before

    beyond_is : edge_point w l marks p (beyond l h) ≡ beyond_from h e
    beyond_is =
        let N : ℕ = valence l (from l h) in
        let x = sym (last_neighbour v l ok h s.lt (mated v l ok f reg h s) N (ring v l ok f reg h s) (three v l ok f reg h s)) in
        let y = sym (third_neighbour v l ok h s.lt (mated v l ok f reg h s) (two_lt v l ok f reg h s)) ∙ ap (λ (u : ℕ). to quads l (turns quads l 2 u)) q in
        point_inner w l marks p (beyond l h) (beyond-inner v l ok f reg h s) ∙ (λ i. inner_edge w (whole (p (x i))) (whole (p (y i))) (virtual_at w l p (beyond l h)) (virtual_at w l p (mate quads l (beyond l (before i)))))

  abbrev E : ℕ → Fraction
  E = edge_point w l marks p

  direction_two_lem : (h : ℕ) → SideOf l f h → SideOf l f (across h) → direction w l E h ≡ direction_two w (E (beyond l h)) (E h) (E (across h)) (E (beyond l (across h)))
  unfolding direction
  direction_two_lem h s u = rw (lt-ltb (mate quads l h) (length l) (mated v l ok f reg h s), lt-ltb (mate quads l (across h)) (length l) (mated v l ok f reg (across h) u))

  -- the corners of the face, from that of h on
  abbrev corner_of : ℕ → ℕ → ℕ
  corner_of h zero = h
  corner_of h (suc zero) = quads.next h
  corner_of h (suc (suc zero)) = across h
  corner_of h (suc (suc (suc i))) = quads.prev h

  four : {a b c d a' b' c' d' : Fraction} → a ≡ a' → b ≡ b' → c ≡ c' → d ≡ d' → direction_two w a b c d ≡ direction_two w a' b' c' d'
  four x y z u = λ i. direction_two w (x i) (y i) (z i) (u i)

  agree_at : (h : ℕ) → SideOf l f h → Same (direction w l E h) (direction w l E (quads.next h))
  unfolding across
  agree_at h s₀ =
      let s₁ = next_side v l ok f h s₀ in
      let s₂ : SideOf l f (across h) = next_side v l ok f (quads.next h) s₁ in
      let s₃ = prev_side v l ok f h s₀ in
      let e₂₃ : quads.next (across h) ≡ quads.prev h = next_across v l ok h s₀.lt in
      let e₃₀ : quads.next (quads.prev h) ≡ h = ok.oriented.shape.next_prev h in
      let e₁₃ : across (quads.next h) ≡ quads.prev h = across_next_lem v l ok h s₀.lt in
      let x : direction w l E h ≡ direction_two w (beyond_from h (quads.next h)) (side_from h (quads.next h)) (side_from (across h) (quads.prev h)) (beyond_from (across h) (quads.prev h)) =
      direction_two_lem h s₀ s₂ ∙ four (beyond_is h (quads.next h) s₀ refl) (side_is h (quads.next h) s₀ refl) (side_is (across h) (quads.prev h) s₂ e₂₃) (beyond_is (across h) (quads.prev h) s₂ e₂₃) in
      let y : direction w l E (quads.next h) ≡ direction_two w (beyond_from (quads.next h) (across h)) (side_from (quads.next h) (across h)) (side_from (quads.prev h) h) (beyond_from (quads.prev h) h) =
      direction_two_lem (quads.next h) s₁ (subst (SideOf l f) (sym e₁₃) s₃)
      ∙ four (beyond_is (quads.next h) (across h) s₁ refl) (side_is (quads.next h) (across h) s₁ refl) (ap E e₁₃ ∙ side_is (quads.prev h) h s₃ e₃₀) (ap (λ (g : ℕ). E (beyond l g)) e₁₃ ∙ beyond_is (quads.prev h) h s₃ e₃₀) in
      same_cong (sym x) (sym y)
      (both_directions w (λ i. p (from l (corner_of h i))) (λ i. valence l (from l (corner_of h i))) (λ i. neighbour l p (corner_of h i)) (λ i. opposite l p (corner_of h i))
      (λ i. virtual_at w l p (corner_of h i)) (λ i. virtual_at w l p (mate quads l (quads.prev (corner_of h i)))) (λ i. virtual_at w l p (beyond l (corner_of h i))) (λ i. virtual_at w l p (mate quads l (beyond l (quads.prev (corner_of h i)))))
      near apart (corners s₀ s₁ s₂ s₃))
    where
      corners : SideOf l f h → SideOf l f (quads.next h) → SideOf l f (across h) → SideOf l f (quads.prev h) → (i : ℕ) → i < 4
          → Corner w (valence l (from l (corner_of h i))) (neighbour l p (corner_of h i)) (opposite l p (corner_of h i))
          (virtual_at w l p (corner_of h i)) (virtual_at w l p (mate quads l (quads.prev (corner_of h i)))) (virtual_at w l p (beyond l (corner_of h i))) (virtual_at w l p (mate quads l (beyond l (quads.prev (corner_of h i)))))
      corners a b c d zero z = corner h a
      corners a b c d (suc zero) z = corner (quads.next h) b
      corners a b c d (suc (suc zero)) z = corner (across h) c
      corners a b c d (suc (suc (suc i))) z = corner (quads.prev h) d

  -- ---- at the face
  module _ (k : f < quads.faces (length l)) where
    pub directions_agree : Same (direction w l E (4 * f)) (direction w l E (4 * f + 1))
    directions_agree = same_cong refl (ap (direction w l E) (four_sides f).next₀) (agree_at (4 * f) (side₀ l f k))

    -- in the numerators over `direction_scale`
    pub directions_beyond : direction_z w l (edge_z w l marks p) (4 * f) ≡ direction_z w l (edge_z w l marks p) (4 * f + 1)
    directions_beyond =
        equals_one (direction_z w l (edge_z w l marks p) (4 * f)) (direction_z w l (edge_z w l marks p) (4 * f + 1)) (equals_direction w near apart v l marks ok p (4 * f) (side₀_lt l f k))
        (equals_same directions_agree (equals_direction w near apart v l marks ok p (4 * f + 1) (side₁_lt l f k)))

-- ---- the sides of a face are its four: what the code tests at each of them holds at all
pub by_sides : (l : List ℕ) (f : ℕ) (P : ℕ → Type 0) → P (4 * f) → P (4 * f + 1) → P (4 * f + 2) → P (4 * f + 3) → (g : ℕ) → SideOf l f g → P g
unfolding quads
by_sides l f P p₀ p₁ p₂ p₃ g s =
    let q = s.face in
    let r : g % 4 < 4 = omega arith in
    let e : 4 * f + g % 4 ≡ g = omega arith in
    let z : 4 * f ≡ 4 * f + 0 = omega arith in
    subst P e (below_four (λ (i : ℕ). P (4 * f + i)) (subst P z p₀) p₁ p₂ p₃ (g % 4) r)

-- ---- from ordinary ends
module _ (v : ℕ) (l : List ℕ) (ok : Manifold quads v l) (f : ℕ) (all : EightOrdinary l f) where
  module _ (g : ℕ) (s : SideOf l f g) where
    t_lt : mate quads l g < length l
    t_lt = all.inner g s

    -- no corner is a fan, since both its sides are inner
    corner_four : (boundary_from quads l (from l g) ≡ length l) × (valence l (from l g) ≡ 4)
    unfolding turn
    corner_four = turn_ring v l ok g s.lt t_lt (all.corner g s) (all.inner (quads.prev g) (prev_side v l ok f g s))

  -- nor is an end of an edge beyond, since the sides of the neighbour leave corners
  start_four_lem : (g : ℕ) → SideOf l f g → (boundary_from quads l (from l (beyond l g)) ≡ length l) × (valence l (from l (beyond l g)) ≡ 4)
  unfolding turn to beyond
  start_four_lem g s =
      let t : ℕ = mate quads l g in
      let e : from l (quads.next t) ≡ from l g = (mate_is quads l g (t_lt g s)).end in
      let m : mate quads l (quads.next t) < length l = boundary_from_none quads l (from l g) (corner_four g s).0 (quads.next t) (ok.oriented.shape.next_lt t (t_lt g s)) e in
      turn_ring v l ok (across t) (across_lt v l ok t (t_lt g s)) (all.beyond_inner g s) (all.start g s) (subst (λ (u : ℕ). mate quads l u < length l) (sym (prev_across v l ok t)) m)

  end_four' : (g : ℕ) → SideOf l f g → (boundary_from quads l (to quads l (beyond l g)) ≡ length l) × (valence l (to quads l (beyond l g)) ≡ 4)
  unfolding turn to beyond
  end_four' g s =
      let t : ℕ = mate quads l g in
      let i = next_side v l ok f g s in
      let y : ℕ = quads.next (across t) in
      let e : from l t ≡ from l (quads.next g) = (mate_is quads l g (t_lt g s)).start in
      let b : boundary_from quads l (from l t) ≡ length l = ap (boundary_from quads l) e ∙ (corner_four (quads.next g) i).0 in
      let r = ring_of_lem v l ok t (t_lt g s) (omega arith) in
      let m : mate quads l (quads.prev t) < length l = ring_turns quads v l ok.oriented (from l t) t (valence l (from l t)) r t (t_lt g s) refl in
      turn_ring v l ok y (ok.oriented.shape.next_lt (across t) (across_lt v l ok t (t_lt g s))) (subst (λ (u : ℕ). mate quads l u < length l) (sym (next_across v l ok t (t_lt g s))) m) (all.end g s)
      (subst (λ (u : ℕ). mate quads l u < length l) (sym (ok.oriented.shape.prev_next (across t))) (all.beyond_inner g s))

  pub eight_beyond : FourBeyond l f
  eight_beyond = record {
    corners = λ g s. (corner_four g s).0;
    start_inside = λ g s. (start_four_lem g s).0;
    start_four = λ g s. (start_four_lem g s).1;
    end_inside = λ g s. (end_four' g s).0;
    end_four = λ g s. (end_four' g s).1;
  }

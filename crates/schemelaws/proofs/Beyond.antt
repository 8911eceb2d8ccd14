-- What lies beyond the side h of a face of a manifold net: the edge opposite h in the neighbour, from x beside the start of h to y beside its end; and what lies
-- straight across from there.
use mathlib.Core.Path.{◌≡◌, refl, sym, ap, ◌∙◌, subst}
use mathlib.Core.List.{List}
use Prim.Native.Nat.{ℕ, suc, ◌-◌, ◌≤◌, ◌<◌}
use native.Mathlib.Omega.{arith}
use lib.ListN.{length}
use Rattle.search.specs.Search.{iterate}
use Rattle.topology.specs.Shape.{quads}
use Rattle.topology.specs.HalfEdge.{from, to, mate}
use Rattle.topology.specs.Vertex.{turn, turns, unturn, Ring}
use Rattle.topology.specs.Manifold.{Manifold}
use Rattle.topology.proofs.Mates.{mate_is, mate-back}
use Rattle.topology.proofs.Turn.{turn_inj, turn-unturn}
use Rattle.topology.specs.Quads.{opposite_corner, across, beyond}

module _ (v : ℕ) (l : List ℕ) (ok : Manifold quads v l) where
  -- ---- the four sides of a face
  module _ (h : ℕ) where
    pub prev_across : quads.prev (across h) ≡ quads.next h
    unfolding across
    prev_across = ok.oriented.shape.prev_next (quads.next h)

    pub opposite_across : opposite_corner l h ≡ from l (across h)
    unfolding opposite_corner to across
    opposite_across = refl

    turn_next : turn quads l (quads.next h) ≡ mate quads l h
    unfolding turn
    turn_next = ap (mate quads l) (ok.oriented.shape.prev_next h)

    module _ (k : h < length l) where
      across-across : across (across h) ≡ h
      unfolding across iterate quads
      across-across = ok.oriented.shape.closes h k

      pub next_across : quads.next (across h) ≡ quads.prev h
      unfolding across
      next_across = sym (ok.oriented.shape.prev_next (quads.next (across h))) ∙ ap quads.prev across-across

      pub across_next_lem : across (quads.next h) ≡ quads.prev h
      unfolding across
      across_next_lem = next_across

      prev_prev : quads.prev (quads.prev h) ≡ across h
      prev_prev = ap quads.prev (sym next_across) ∙ ok.oriented.shape.prev_next (across h)

  module _ (h : ℕ) (k : h < length l) (m : mate quads l h < length l) where
    -- ---- at its start, which has a ring of n faces
    module _ (n : ℕ) (r : Ring quads l (from l h) h n) (s : 3 ≤ n) where
      -- one turn before h
      last_turn : turns quads l (n - 1) h ≡ quads.next (mate quads l h)
      unfolding iterate unturn
      last_turn =
          let e : suc (n - 1) ≡ n = omega arith in
          let t : turn quads l (turns quads l (n - 1) h) ≡ h = subst (λ (i : ℕ). turns quads l i h ≡ h) (sym e) r.back in
          turn_inj quads v l ok.oriented (turns quads l (n - 1) h) (quads.next (mate quads l h)) (r.walk.inside (n - 1) (omega arith)) (ok.oriented.shape.next_lt (mate quads l h) m)
          (rw t k) (t ∙ sym (turn-unturn quads v l ok.oriented h k m))

      -- x is the last neighbour of the ring
      pub last_neighbour : to quads l (turns quads l (n - 1) h) ≡ from l (beyond l h)
      unfolding to across beyond
      last_neighbour = ap (λ (g : ℕ). from l (quads.next g)) last_turn

      u : ℕ
      u = turns quads l (n - 2) h

      u_lt : u < length l
      unfolding u
      u_lt = r.walk.inside (n - 2) (omega arith)

      u_turn : turn quads l u ≡ quads.next (mate quads l h)
      unfolding iterate u
      u_turn = let e : suc (n - 2) ≡ n - 1 = omega arith in ap (λ (i : ℕ). turns quads l i h) e ∙ last_turn

      -- round x, from the edge beyond
      beyond-turn : turn quads l (beyond l h) ≡ quads.prev u
      unfolding turn beyond
      beyond-turn =
          let j = ok.oriented.shape.prev_lt u u_lt in
          let e : mate quads l (quads.prev u) ≡ quads.next (mate quads l h) = u_turn in
          ap (mate quads l) (prev_across (mate quads l h) ∙ sym e) ∙ mate-back quads v l ok.oriented (quads.prev u) j (rw e (ok.oriented.shape.next_lt (mate quads l h) m))

      beyond-turns : turns quads l 2 (beyond l h) ≡ mate quads l (across u)
      unfolding iterate turn
      beyond-turns = ap (turn quads l) beyond-turn ∙ ap (mate quads l) (prev_prev u u_lt)

      -- straight across at x
      pub start-straight : turns quads l 2 (beyond l h) < length l → to quads l (turns quads l 2 (beyond l h)) ≡ opposite_corner l (turns quads l (n - 2) h)
      unfolding u
      start-straight z =
          ap (to quads l) beyond-turns ∙ (mate_is quads l (across u) (subst (λ (g : ℕ). g < length l) beyond-turns z)).end ∙ sym (opposite_across u)

    -- ---- at its end, which next h leaves
    pub two_turns : turns quads l 2 (quads.next h) ≡ mate quads l (quads.prev (mate quads l h))
    unfolding iterate turn
    two_turns = ap (turn quads l) (turn_next h)

    module _ (z : turns quads l 2 (quads.next h) < length l) where
      w_lt : mate quads l (quads.prev (mate quads l h)) < length l
      w_lt = subst (λ (g : ℕ). g < length l) two_turns z

      -- y is its third neighbour
      pub third_neighbour : to quads l (turns quads l 2 (quads.next h)) ≡ to quads l (beyond l h)
      unfolding to beyond
      third_neighbour =
          ap (to quads l) two_turns ∙ (mate_is quads l (quads.prev (mate quads l h)) w_lt).end ∙ ap (from l) (sym (next_across (mate quads l h) m))

      -- straight across at y, which has a ring of four
      pub end_straight : Ring quads l (from l (mate quads l (beyond l h))) (mate quads l (beyond l h)) 4
          → to quads l (turns quads l 2 (mate quads l (beyond l h))) ≡ opposite_corner l (turns quads l 2 (quads.next h))
      unfolding iterate turn beyond opposite_corner
      end_straight r =
          let f : ℕ = mate quads l (across (mate quads l h)) in
          let q : ℕ = quads.prev (mate quads l h) in
          let q-lt = ok.oriented.shape.prev_lt (mate quads l h) m in
          let t₁ : turn quads l q ≡ f = ap (mate quads l) (prev_prev (mate quads l h) m) in
          let f_lt = r.walk.inside 0 (omega arith) in
          let e₃ : turns quads l 3 f ≡ q = turn_inj quads v l ok.oriented (turns quads l 3 f) q (r.walk.inside 3 (omega arith)) q-lt (rw r.back f_lt) (r.back ∙ sym t₁) in
          let c : mate quads l (quads.prev (turns quads l 2 f)) ≡ q = e₃ in
          let p-lt = ok.oriented.shape.prev_lt (turns quads l 2 f) (r.walk.inside 2 (omega arith)) in
          let b : quads.prev (turns quads l 2 f) ≡ mate quads l q = sym (mate-back quads v l ok.oriented (quads.prev (turns quads l 2 f)) p-lt (rw c q-lt)) ∙ ap (mate quads l) c in
          ap (to quads l) (sym (ok.oriented.shape.next_prev (turns quads l 2 f)) ∙ ap quads.next (b ∙ sym two_turns))

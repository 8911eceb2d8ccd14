-- Rings and fans of a refined net: old vertices keep theirs, edge points have a ring of four or a fan of two, face points a ring of as many faces as their face has sides.
use mathlib.Core.Path.{◌≡◌, refl, sym, ap, ◌∙◌, subst}
use mathlib.Core.Logic.{⊎_elim}
use mathlib.Core.List.{List}
use Prim.Native.Nat.{ℕ, zero, suc, ◌+◌, ◌*◌, ◌<◌}
use native.Mathlib.Omega.{arith}
use lib.ListN.{length}
use Rattle.search.specs.Search.{iterate}
use Rattle.search.proofs.Quarters.{quarters, below_four}
use Rattle.topology.specs.Shape.{Shape, quads}
use Rattle.topology.specs.HalfEdge.{from, mate, edge_count, edge}
use Rattle.topology.specs.Vertex.{turn, turns, Walk, Ring, Fan}
use Rattle.topology.specs.Manifold.{Oriented}
use Rattle.topology.proofs.Shape.{four_sides, nexts_lt}
use Rattle.topology.proofs.Mates.{mate-back, mate_not, edge-lt, edge_same}
use Rattle.refinedfaces.specs.Refined.{refined}
use Rattle.refinedfaces.proofs.Corners.{length-refined, quad}
use Rattle.refinedfaces.proofs.Mates.{mate₀, mate₀_none, mate₁, mate₂, mate₃}

module _ (S : Shape) (v : ℕ) (l : List ℕ) (ok : Oriented S v l) where
  -- ---- an old vertex keeps its ring or fan

  turn-refined : (h : ℕ) → h < length l → turn quads (refined S v l) (4 * h) ≡ 4 * turn S l h
  unfolding turn
  turn-refined h k = ap (mate quads (refined S v l)) (four_sides h).prev₀ ∙ mate₃ S v l ok h k

  turns-refined : (h k : ℕ) → ((j : ℕ) → j < k → turns S l j h < length l) → turns quads (refined S v l) k (4 * h) ≡ 4 * turns S l k h
  unfolding iterate
  turns-refined h zero f = refl
  turns-refined h (suc k) f =
      ap (turn quads (refined S v l)) (turns-refined h k (λ j b. f j (omega arith))) ∙ turn-refined (turns S l k h) (f k (omega arith))

  walk_refined : (p h m : ℕ) → p < v → 0 < m → Walk S l p h m → Walk quads (refined S v l) p (4 * h) m
  unfolding iterate
  walk_refined p h m b s w =
      let n = length-refined S v l in
      let t : (k : ℕ) → k < m → turns quads (refined S v l) k (4 * h) ≡ 4 * turns S l k h = λ k c. turns-refined h k (λ j d. w.inside j (omega arith)) in
      record {
        leaves = (quad S v l h (w.inside 0 s)).from₀ ∙ w.leaves;
        inside = λ k c. let e = t k c in let i = w.inside k c in omega arith;
        all = λ g c. quarters (length l) (λ g. from (refined S v l) g ≡ p → (k : ℕ) × (k < m) × (turns quads (refined S v l) k (4 * h) ≡ g))
            (λ g a e. let r = w.all g a (sym (quad S v l g a).from₀ ∙ e) in (r.0, r.1, t r.0 r.1 ∙ ap (λ (x : ℕ). 4 * x) r.2))
            (λ g a e. let q = quad S v l g a in let z : ⊥ = omega arith in absurd z)
            (λ g a e. let q = quad S v l g a in let z : ⊥ = omega arith in absurd z)
            (λ g a e. let q = quad S v l g a in let z : ⊥ = omega arith in absurd z) g (omega arith);
      }

  pub ring_refined : (p h m : ℕ) → p < v → Ring S l p h m → Ring quads (refined S v l) p (4 * h) m
  ring_refined p h m b r = record {
    walk = walk_refined p h m b r.some r.walk;
    some = r.some;
    back = turns-refined h m r.walk.inside ∙ ap (λ (x : ℕ). 4 * x) r.back;
    not_before = λ k s c e. let t = turns-refined h k (λ j d. r.walk.inside j (omega arith)) in r.not_before k s c (omega arith);
  }

  pub fan_refined : (p h m : ℕ) → p < v → Fan S l p h m → Fan quads (refined S v l) p (4 * h) m
  unfolding iterate
  fan_refined p h m b r = let n = length-refined S v l in record {
    walk = walk_refined p h m b r.some r.walk;
    some = r.some;
    opens = mate₀_none S v l ok h (r.walk.inside 0 r.some) r.opens ∙ sym n;
    ends = turns-refined h m r.walk.inside ∙ ap (λ (x : ℕ). 4 * x) r.ends ∙ sym n;
  }

  -- ---- an edge point: a ring of four, or a fan of two

  turn₁ : (h : ℕ) → h < length l → mate S l h < length l → turn quads (refined S v l) (4 * h + 1) ≡ 4 * S.next (mate S l h) + 3
  unfolding turn
  turn₁ h k m = ap (mate quads (refined S v l)) (four_sides h).prev₁ ∙ mate₀ S v l ok h k m

  turn₁_none : (h : ℕ) → h < length l → mate S l h ≡ length l → turn quads (refined S v l) (4 * h + 1) ≡ 4 * length l
  unfolding turn
  turn₁_none h k m = ap (mate quads (refined S v l)) (four_sides h).prev₁ ∙ mate₀_none S v l ok h k m

  turn₂ : (h : ℕ) → h < length l → turn quads (refined S v l) (4 * h + 2) ≡ 4 * S.next h + 2
  unfolding turn
  turn₂ h k = ap (mate quads (refined S v l)) (four_sides h).prev₂ ∙ mate₁ S v l ok h k

  -- the second half of the side h turns to the half-edge that leaves its point for the face point
  turn₃ : (h : ℕ) → h < length l → turn quads (refined S v l) (4 * S.next h + 3) ≡ 4 * h + 1
  unfolding turn
  turn₃ h k = ap (mate quads (refined S v l)) (four_sides (S.next h)).prev₃ ∙ mate₂ S v l ok (S.next h) (ok.shape.next_lt h k) ∙ ap (λ (x : ℕ). 4 * x + 1) (ok.shape.prev_next h)

  -- what leaves the point of the side h
  at_edge : (h : ℕ) → h < length l → (P : ℕ → Type 0) → P (4 * h + 1) → P (4 * S.next h + 3)
      → (mate S l h < length l → P (4 * mate S l h + 1)) → (mate S l h < length l → P (4 * S.next (mate S l h) + 3))
      → (g : ℕ) → g < 4 * length l → from (refined S v l) g ≡ v + edge S l h → P g
  at_edge h a P p₀ p₁ p₂ p₃ = quarters (length l) (λ g. from (refined S v l) g ≡ v + edge S l h → P g)
      (λ k b e. let q = quad S v l k b in let z = ok.below k b in let y : ⊥ = omega arith in absurd y)
      (λ k b e. let q = quad S v l k b in
      ⊎_elim (λ i. subst (λ (x : ℕ). P (4 * x + 1)) (sym i) p₀) (λ i. subst (λ (x : ℕ). P (4 * x + 1)) (sym i.0) (p₂ i.1))
      (edge_same S v l ok h k a b (omega arith)))
      (λ k b e. let q = quad S v l k b in let z = edge-lt S v l ok h a in let y : ⊥ = omega arith in absurd y)
      (λ k b e. let q = quad S v l k b in let c = ok.shape.next_prev k in
      ⊎_elim (λ i. subst (λ (x : ℕ). P (4 * x + 3)) (ap S.next (sym i) ∙ c) p₁) (λ i. subst (λ (x : ℕ). P (4 * x + 3)) (ap S.next (sym i.0) ∙ c) (p₃ i.1))
      (edge_same S v l ok h (S.prev k) a (ok.shape.prev_lt k b) (omega arith)))

  -- a ring of four from h to a, b and c
  ring_four : (p h a b c : ℕ) → from (refined S v l) h ≡ p → h < 4 * length l → a < 4 * length l → b < 4 * length l → c < 4 * length l
      → turn quads (refined S v l) h ≡ a → turn quads (refined S v l) a ≡ b → turn quads (refined S v l) b ≡ c → turn quads (refined S v l) c ≡ h
      → (a ≡ h → ⊥) → (b ≡ h → ⊥) → (c ≡ h → ⊥)
      → ((P : ℕ → Type 0) → P h → P a → P b → P c → (g : ℕ) → g < 4 * length l → from (refined S v l) g ≡ p → P g)
      → Ring quads (refined S v l) p h 4
  unfolding iterate
  ring_four p h a b c s kh ka kb kc t₁ u₂ u₃ u₄ na nb nc all =
      let n = length-refined S v l in
      let t₂ : turns quads (refined S v l) 2 h ≡ b = ap (turn quads (refined S v l)) t₁ ∙ u₂ in
      let t₃ : turns quads (refined S v l) 3 h ≡ c = ap (turn quads (refined S v l)) t₂ ∙ u₃ in
      record {
        walk = record {
          leaves = s;
          inside = below_four (λ (k : ℕ). turns quads (refined S v l) k h < length (refined S v l)) (rw n kh) (rw (n, t₁) ka) (rw (n, t₂) kb) (rw (n, t₃) kc);
          all = λ g i. all (λ (g : ℕ). (k : ℕ) × (k < 4) × (turns quads (refined S v l) k h ≡ g))
              (0, omega arith, refl) (1, omega arith, t₁) (2, omega arith, t₂) (3, omega arith, t₃) g (omega arith);
        };
        some = omega arith;
        back = ap (turn quads (refined S v l)) t₃ ∙ u₄;
        not_before = λ k i j. below_four (λ (k : ℕ). 0 < k → turns quads (refined S v l) k h ≡ h → ⊥) (λ z e. omega arith) (λ z e. na (sym t₁ ∙ e)) (λ z e. nb (sym t₂ ∙ e)) (λ z e. nc (sym t₃ ∙ e)) k j i;
      }

  pub edge_ring : (h : ℕ) → h < length l → mate S l h < length l → Ring quads (refined S v l) (v + edge S l h) (4 * h + 1) 4
  edge_ring h a m =
      let mm = mate-back S v l ok h a m in
      let i = ok.shape.next_lt h a in
      let j = ok.shape.next_lt (mate S l h) m in
      ring_four (v + edge S l h) (4 * h + 1) (4 * S.next (mate S l h) + 3) (4 * mate S l h + 1) (4 * S.next h + 3) (quad S v l h a).from₁ (omega arith) (omega arith) (omega arith) (omega arith)
      (turn₁ h a m) (turn₃ (mate S l h) m) (turn₁ (mate S l h) m (rw mm a) ∙ ap (λ (x : ℕ). 4 * S.next x + 3) mm) (turn₃ h a)
      (λ e. omega arith) (λ e. mate_not S v l ok h a (omega arith)) (λ e. omega arith)
      (λ P p₀ p₁ p₂ p₃. at_edge h a P p₀ p₃ (λ c. p₂) (λ c. p₁))

  pub edge_fan : (h : ℕ) → h < length l → mate S l h ≡ length l → Fan quads (refined S v l) (v + edge S l h) (4 * S.next h + 3) 2
  unfolding iterate
  edge_fan h a m =
      let n = length-refined S v l in
      let i = ok.shape.next_lt h a in
      let t₁ : turn quads (refined S v l) (4 * S.next h + 3) ≡ 4 * h + 1 = turn₃ h a in
      let e : mate S l (S.prev (S.next h)) ≡ length l = ap (mate S l) (ok.shape.prev_next h) ∙ m in
      record {
        walk = record {
          leaves = (quad S v l (S.next h) i).from₃ ∙ ap (λ (x : ℕ). v + edge S l x) (ok.shape.prev_next h);
          inside = λ k b. below_four (λ (k : ℕ). k < 2 → turns quads (refined S v l) k (4 * S.next h + 3) < length (refined S v l)) (λ c. omega arith) (λ c. rw t₁ (omega arith)) (λ c. let z : ⊥ = omega arith in absurd z) (λ c. let z : ⊥ = omega arith in absurd z) k (omega arith) b;
          all = λ g b. at_edge h a (λ (g : ℕ). (k : ℕ) × (k < 2) × (turns quads (refined S v l) k (4 * S.next h + 3) ≡ g))
              (1, omega arith, t₁) (0, omega arith, refl) (λ c. let z : ⊥ = omega arith in absurd z) (λ c. let z : ⊥ = omega arith in absurd z) g (omega arith);
        };
        some = omega arith;
        opens = mate₃ S v l ok (S.next h) i ∙ rw e (sym n);
        ends = ap (turn quads (refined S v l)) t₁ ∙ turn₁_none h a m ∙ sym n;
      }

  -- ---- a face point: a ring of as many faces as its face has sides

  face_turns : (h k : ℕ) → h < length l → turns quads (refined S v l) k (4 * h + 2) ≡ 4 * iterate S.next k h + 2
  unfolding iterate
  face_turns h zero a = refl
  face_turns h (suc k) a = ap (turn quads (refined S v l)) (face_turns h k a) ∙ turn₂ (iterate S.next k h) (nexts_lt S (length l) ok.shape k h a)

  pub face_ring : (h : ℕ) → h < length l → Ring quads (refined S v l) (v + edge_count S l + S.face h) (4 * h + 2) (S.sides h)
  face_ring h a =
      let n = length-refined S v l in
      record {
        walk = record {
          leaves = (quad S v l h a).from₂;
          inside = λ k b. let e = face_turns h k a in let c = nexts_lt S (length l) ok.shape k h a in omega arith;
          all = λ g c. quarters (length l) (λ g. from (refined S v l) g ≡ v + edge_count S l + S.face h → (k : ℕ) × (k < S.sides h) × (turns quads (refined S v l) k (4 * h + 2) ≡ g))
              (λ k b e. let q = quad S v l k b in let z = ok.below k b in let y : ⊥ = omega arith in absurd y)
              (λ k b e. let q = quad S v l k b in let z = edge-lt S v l ok k b in let y : ⊥ = omega arith in absurd y)
              (λ k b e. let q = quad S v l k b in reach k b (omega arith))
              (λ k b e. let q = quad S v l k b in let z = edge-lt S v l ok (S.prev k) (ok.shape.prev_lt k b) in let y : ⊥ = omega arith in absurd y) g (omega arith);
        };
        some = let t = ok.shape.three h a in omega arith;
        back = face_turns h (S.sides h) a ∙ ap (λ (x : ℕ). 4 * x + 2) (ok.shape.closes h a);
        not_before = λ k b c e. let d = face_turns h k a in ok.shape.not_before h k a b c (omega arith);
      }
    where
      reach : (g : ℕ) → g < length l → S.face g ≡ S.face h → (k : ℕ) × (k < S.sides h) × (turns quads (refined S v l) k (4 * h + 2) ≡ 4 * g + 2)
      reach g b e = let r = ok.shape.all h g a b e in (r.0, r.1, face_turns h r.0 a ∙ ap (λ (x : ℕ). 4 * x + 2) r.2)

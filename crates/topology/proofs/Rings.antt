-- Rings and fans of an oriented net: how many faces they have, a ring from any of its half-edges, and that turning through all faces at a vertex
-- makes a ring or a fan.
use mathlib.Core.Path.{◌≡◌, sym, ap, ◌∙◌, subst}
use mathlib.Core.Bool.{true, false}
use mathlib.Core.Logic.{⊎_elim}
use mathlib.Core.List.{List}
use Prim.Native.Nat.{ℕ, zero, suc, ◌+◌, ◌-◌, ◌≤◌, ◌<◌}
use native.Mathlib.Decide.{dec_lt}
use native.Mathlib.Omega.{arith}
use lib.ListN.{length}
use lib.Dec.{eqb}
use borrow.Author.Tests.{eq-eqb, eqb-true, eqb-false, ne_eqb}
use Rattle.search.specs.Search.{first, iterate}
use Rattle.search.proofs.Tests.{or_off, or_on, or_left, or_right, or_cases}
use Rattle.search.proofs.First.{first_holds, first_before, first_is}
use Rattle.search.proofs.Count.{count-le}
use Rattle.search.proofs.Pigeonhole.{Listed, listed_le, listed_all, listed_count}
use Rattle.search.proofs.Iterate.{iterate-add, iterate_cancel}
use Rattle.topology.specs.Shape.{Shape}
use Rattle.topology.specs.HalfEdge.{from, to, mate}
use Rattle.topology.specs.Vertex.{leaves, valence, turn, turns, unturn, stops, faces_met, Walk, Ring, Fan}
use Rattle.topology.specs.Manifold.{Oriented}
use Rattle.topology.proofs.Mates.{mate_is}
use Rattle.topology.proofs.Turn.{turn-le, turn_inj, turn-unturn, turned_mate, turns-from, turns_listed}

module _ (S : Shape) (v : ℕ) (l : List ℕ) (ok : Oriented S v l) where
  -- a walk that does not come back too soon has as many half-edges as leave the vertex
  walk_valence : (p h m : ℕ) → Walk S l p h m → ((k : ℕ) → 0 < k → k < m → turns S l k h ≡ h → ⊥) → valence l p ≡ m
  unfolding valence leaves
  walk_valence p h m w f =
      listed_count (leaves l p) (length l) (λ (k : ℕ). turns S l k h) m (turns_listed S v l ok p h m w.leaves w.inside f) (λ g b t. w.all g b (eqb-true (from l g) p t))

  walk_met : (p h m : ℕ) → 0 < m → Walk S l p h m → ((k : ℕ) → 0 < k → k < m → turns S l k h ≡ h → ⊥) → stops S l h (m - 1) ≡ true → faces_met S l h ≡ m
  unfolding faces_met valence stops
  walk_met p h m s w f t =
      let d = walk_valence p h m w f in
      let c = count-le (leaves l p) (length l) in
      let e = first_is (stops S l h) (length l) (m - 1) (omega arith) t
      (λ j b. let i = w.inside (suc j) (omega arith) in or_off _ _ (ne_eqb (turns S l (suc j) h) (length l) (λ x. omega arith)) (ne_eqb (turns S l (suc j) h) h (f (suc j) (omega arith) (omega arith)))) in
      omega arith

  walk_neighbours : (p h m : ℕ) → Walk S l p h m → ((k : ℕ) → 0 < k → k < m → turns S l k h ≡ h → ⊥) → (i j : ℕ) → i < j → j < m → to S l (turns S l i h) ≡ to S l (turns S l j h) → ⊥
  walk_neighbours p h m w f i j b c e =
      (turns_listed S v l ok p h m w.leaves w.inside f).differ i j b c (ok.once (turns S l i h) (turns S l j h) (w.inside i (omega arith)) (w.inside j c)
      (turns-from S v l ok p h i w.leaves (λ k a. w.inside k (omega arith)) ∙ sym (turns-from S v l ok p h j w.leaves (λ k a. w.inside k (omega arith)))) e)

  -- ---- rings

  module _ (p h m : ℕ) (r : Ring S l p h m) where
    pub ring_valence : valence l p ≡ m
    ring_valence = walk_valence p h m r.walk r.not_before

    pub ring_met : faces_met S l h ≡ m
    unfolding stops
    ring_met =
        let e : suc (m - 1) ≡ m = omega (arith, r.some) in
        walk_met p h m r.some r.walk r.not_before (rw e (or_on (eqb (turns S l m h) (length l)) (eqb (turns S l m h) h) (eq-eqb (turns S l m h) h r.back)))

    -- all its half-edges have mates
    pub ring_mates : (g : ℕ) → g < length l → from l g ≡ p → mate S l g < length l
    unfolding iterate
    ring_mates g b s = let x = r.walk.all g b s in go x.0 x.1 x.2
      where
        turned : (k : ℕ) → k < m → turn S l (turns S l k h) ≡ g → mate S l g < length l
        turned k c d =
            let i : turn S l (turns S l k h) < length l = rw d b in
            subst (λ (x : ℕ). mate S l x < length l) d (turned_mate S v l ok (turns S l k h) (r.walk.inside k c) i)

        go : (k : ℕ) → k < m → turns S l k h ≡ g → mate S l g < length l
        go zero c d = let x : suc (m - 1) ≡ m = omega arith in turned (m - 1) (omega arith) (subst (λ (k : ℕ). turns S l k h ≡ h) (sym x) r.back ∙ d)
        go (suc k) c d = turned k (omega arith) d

    again : (i : ℕ) → turns S l (i + m) h ≡ turns S l i h
    again i = iterate-add (turn S l) i m h ∙ ap (turns S l i) r.back

    twice_inside : (i : ℕ) → i < m + m → turns S l i h < length l
    twice_inside i b = go (dec_lt i m)
      where
        go : Dec (i < m) → turns S l i h < length l
        go (yes c) = r.walk.inside i c
        go (no c) = let e : i - m + m ≡ i = omega arith in let x = again (i - m) in let y = r.walk.inside (i - m) (omega arith) in let z = ap (λ (k : ℕ). turns S l k h) e in omega arith

    -- a ring from any of its half-edges
    ring_rotated : (k : ℕ) → k < m → Ring S l p (turns S l k h) m
    ring_rotated k b = record {
      walk = record {
        leaves = turns-from S v l ok p h k r.walk.leaves (λ j c. r.walk.inside j (omega arith));
        inside = λ j c. let e = iterate-add (turn S l) j k h in let x = twice_inside (j + k) (omega arith) in omega arith;
        all = λ g c e. let x = r.walk.all g c e in reach g x.0 x.1 x.2 (dec_lt x.0 k);
      };
      some = r.some;
      back = sym (iterate-add (turn S l) m k h) ∙ let e : m + k ≡ k + m = omega arith in rw e (again k);
      not_before = λ j c d e. r.not_before j c d (iterate_cancel (turn S l) (λ (x : ℕ). x < length l) (turn_inj S v l ok) k j h (λ i f. twice_inside i (omega arith)) (let x : k + j ≡ j + k = omega arith in rw x (iterate-add (turn S l) j k h ∙ e)));
    }
      where
        reach : (g i : ℕ) → i < m → turns S l i h ≡ g → Dec (i < k) → (j : ℕ) × (j < m) × (turns S l j (turns S l k h) ≡ g)
        reach g i c e (yes d) =
            let x : (i + m - k) + k ≡ i + m = omega arith in
            (i + m - k, omega arith, sym (iterate-add (turn S l) (i + m - k) k h) ∙ ap (λ (j : ℕ). turns S l j h) x ∙ again i ∙ e)
        reach g i c e (no d) =
            let x : (i - k) + k ≡ i = omega arith in
            (i - k, omega arith, sym (iterate-add (turn S l) (i - k) k h) ∙ ap (λ (j : ℕ). turns S l j h) x ∙ e)

    pub ring_at : (g : ℕ) → g < length l → from l g ≡ p → Ring S l p g m
    ring_at g b s = let x = r.walk.all g b s in subst (λ (i : ℕ). Ring S l p i m) x.2 (ring_rotated x.0 x.1)

    -- each of its half-edges turns to one
    pub ring_turns : (g : ℕ) → g < length l → from l g ≡ p → turn S l g < length l
    unfolding iterate
    ring_turns g b s = go (dec_lt 1 m) (ring_at g b s)
      where
        go : Dec (1 < m) → Ring S l p g m → turn S l g < length l
        go (yes c) q = q.walk.inside 1 c
        go (no c) q = let e : m ≡ 1 = omega (arith, q.some) in let x : turn S l g ≡ g = subst (λ (k : ℕ). turns S l k g ≡ g) e q.back in omega arith

  -- ---- fans

  module _ (p h m : ℕ) (r : Fan S l p h m) where
    pub fan_not_back : (k : ℕ) → 0 < k → k < m → turns S l k h ≡ h → ⊥
    unfolding iterate
    fan_not_back zero b c e = omega arith
    fan_not_back (suc k) b c e =
        let i = r.walk.inside (suc k) c in
        let y : mate S l h < length l = subst (λ (x : ℕ). mate S l x < length l) e (turned_mate S v l ok (turns S l k h) (r.walk.inside k (omega arith)) i) in
        omega (arith, r.opens)

    pub fan_valence : valence l p ≡ m
    fan_valence = walk_valence p h m r.walk fan_not_back

    pub fan_met : faces_met S l h ≡ m
    unfolding stops
    fan_met = let e : suc (m - 1) ≡ m = omega (arith, r.some) in walk_met p h m r.some r.walk fan_not_back (rw (e, eq-eqb (turns S l m h) (length l) r.ends))

    -- its first half-edge is the only one without a mate
    pub fan_first : (g : ℕ) → g < length l → from l g ≡ p → mate S l g ≡ length l → g ≡ h
    unfolding iterate
    fan_first g b s e = let x = r.walk.all g b s in go x.0 x.1 x.2
      where
        go : (k : ℕ) → k < m → turns S l k h ≡ g → g ≡ h
        go zero c d = sym d
        go (suc k) c d =
            let i : turn S l (turns S l k h) < length l = rw d b in
            let y : mate S l g < length l = subst (λ (x : ℕ). mate S l x < length l) d (turned_mate S v l ok (turns S l k h) (r.walk.inside k (omega arith)) i) in
            let z : ⊥ = omega arith in absurd z

    -- its last half-edge is the only one that turns to none
    pub fan_last : (g : ℕ) → g < length l → from l g ≡ p → turn S l g ≡ length l → turns S l (m - 1) h ≡ g
    unfolding iterate
    fan_last g b s e = let x = r.walk.all g b s in go x.0 x.1 x.2 (dec_lt (suc x.0) m)
      where
        go : (k : ℕ) → k < m → turns S l k h ≡ g → Dec (suc k < m) → turns S l (m - 1) h ≡ g
        go k c d (yes i) = let x = r.walk.inside (suc k) i in let y : turns S l (suc k) h ≡ length l = ap (turn S l) d ∙ e in let z : ⊥ = omega arith in absurd z
        go k c d (no i) = let x : m - 1 ≡ k = omega arith in rw x d

    -- its neighbours are pairwise distinct; the last of them is where the side before the last half-edge begins
    pub fan_neighbours : (i j : ℕ) → i < j → j < m → to S l (turns S l i h) ≡ to S l (turns S l j h) → ⊥
    fan_neighbours = walk_neighbours p h m r.walk fan_not_back

  -- ---- turning from h, until there is no face or one is back at h

  module _ (p h : ℕ) (a : h < length l) (s : from l h ≡ p) where
    goes_on : (k : ℕ) → suc k < faces_met S l h → stops S l h k ≡ false
    unfolding faces_met
    goes_on k b = first_before (stops S l h) (length l) k (omega arith)

    in_net : (k : ℕ) → k < faces_met S l h → turns S l k h < length l
    unfolding iterate stops
    in_net zero b = a
    in_net (suc k) b =
        let e = eqb-false (turns S l (suc k) h) (length l) (or_left (eqb (turns S l (suc k) h) (length l)) _ (goes_on k b)) in
        let i = turn-le S l (turns S l k h) in omega arith

    not_back : (k : ℕ) → 0 < k → k < faces_met S l h → turns S l k h ≡ h → ⊥
    unfolding stops
    not_back zero c b e = omega arith
    not_back (suc k) c b e = eqb-false (turns S l (suc k) h) h (or_right (eqb (turns S l (suc k) h) (length l)) (eqb (turns S l (suc k) h) h) (goes_on k b)) e

    listed : Listed (leaves l p) (length l) (λ (k : ℕ). turns S l k h) (faces_met S l h)
    listed = turns_listed S v l ok p h (faces_met S l h) s in_net not_back

    -- it ends, and meets no face twice
    met_le : faces_met S l h ≤ valence l p
    unfolding valence
    met_le = listed_le (leaves l p) (length l) (λ (k : ℕ). turns S l k h) (faces_met S l h) listed

    met_stops : first (stops S l h) (length l) < length l
    unfolding faces_met valence
    met_stops = omega (arith, met_le, count-le (leaves l p) (length l))

  -- where it meets all faces at p, there is a ring or a fan

  module _ (p h : ℕ) (a : h < length l) (s : from l h ≡ p) (full : faces_met S l h ≡ valence l p) where
    walked : Walk S l p h (faces_met S l h)
    unfolding leaves valence
    walked = record {
      leaves = s;
      inside = in_net p h a s;
      all = λ g b e. listed_all (leaves l p) (length l) (λ (k : ℕ). turns S l k h) (faces_met S l h) (listed p h a s) (sym full) g b (eq-eqb (from l g) p e);
    }

    pub full_ring : mate S l h < length l → Ring S l p h (faces_met S l h)
    unfolding faces_met iterate to unturn
    full_ring m =
        let j = ok.shape.next_lt (mate S l h) m in
        let r = walked.all (S.next (mate S l h)) j ((mate_is S l h m).end ∙ s) in
        let e : turns S l (suc r.0) h ≡ h = ap (turn S l) r.2 ∙ turn-unturn S v l ok h a m in
        record { walk = walked; some = omega arith; back = closed r.0 r.1 e; not_before = not_back p h a s }
      where
        closed : (k : ℕ) → k < faces_met S l h → turns S l (suc k) h ≡ h → turns S l (faces_met S l h) h ≡ h
        closed k b e = go (dec_lt (suc k) (faces_met S l h))
          where
            go : Dec (suc k < faces_met S l h) → turns S l (faces_met S l h) h ≡ h
            go (yes c) = absurd (not_back p h a s (suc k) (omega arith) c e)
            go (no c) = let d : suc k ≡ faces_met S l h = omega arith in subst (λ (k : ℕ). turns S l k h ≡ h) d e

    pub open_fan : mate S l h ≡ length l → Fan S l p h (faces_met S l h)
    unfolding faces_met iterate stops
    open_fan m = record {
      walk = walked;
      some = omega arith;
      opens = m;
      ends = ⊎_elim (λ e. eqb-true _ _ e) (λ e. absurd (never (eqb-true _ _ e))) (or_cases _ _ (first_holds (stops S l h) (length l) (met_stops p h a s)));
    }
      where
        k₀ : ℕ
        k₀ = first (stops S l h) (length l)

        never : turn S l (turns S l k₀ h) ≡ h → ⊥
        never e =
            let i = in_net p h a s k₀ (omega arith) in
            let c : turn S l (turns S l k₀ h) < length l = rw e a in
            let t : mate S l h < length l = subst (λ (x : ℕ). mate S l x < length l) e (turned_mate S v l ok (turns S l k₀ h) i c) in omega arith

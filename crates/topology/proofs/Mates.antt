-- Mates and edge numbers of an oriented net.
use mathlib.Core.Path.{◌≡◌, refl, sym, ap, ◌∙◌}
use mathlib.Core.Bool.{true, false}
use mathlib.Core.Logic.{◌⊎◌, inl, inr, ⊎_elim}
use mathlib.Core.List.{List}
use Prim.Native.Nat.{ℕ, suc, ◌+◌, ◌≤◌, ◌<◌, min}
use native.Mathlib.Decide.{dec_lt}
use native.Mathlib.Omega.{arith}
use lib.ListN.{length}
use lib.Dec.{eqb}
use borrow.Author.Tests.{eq-eqb, eqb-true, ne_eqb, lt-ltb, le-ltb, ltb-true}
use Rattle.search.specs.Search.{first, count}
use Rattle.search.proofs.Tests.{and_on, and_left, and_right}
use Rattle.search.proofs.First.{first-le, first_holds, first_only, first_none, first_is}
use Rattle.search.proofs.Count.{count-le, count_more, count_same, count_under, count_inj, count_onto}
use Rattle.topology.specs.Shape.{Shape, Lawful}
use Rattle.topology.specs.HalfEdge.{from, to, opposed, mate, first_met, edge_count, edge, edge_at}
use Rattle.topology.specs.Manifold.{Oriented}
use Rattle.topology.proofs.Shape.{next_not, next_next_not}

pub to_prev : (S : Shape) (n : ℕ) → Lawful S n → (l : List ℕ) (h : ℕ) → to S l (S.prev h) ≡ from l h
unfolding to
to_prev S n c l h = ap (from l) (c.next_prev h)

-- ---- mates

-- g is a half-edge along the side of h the other way
pub record Mates (S : Shape) (l : List ℕ) (h g : ℕ) : Type 0 where
  pub lt : g < length l
  pub start : from l g ≡ to S l h
  pub end : to S l g ≡ from l h

opposed_on : (S : Shape) (l : List ℕ) (h g : ℕ) → from l g ≡ to S l h → to S l g ≡ from l h → opposed S l h g ≡ true
unfolding opposed
opposed_on S l h g a b = and_on _ _ (eq-eqb _ _ a) (eq-eqb _ _ b)

opposed-mates : (S : Shape) (l : List ℕ) (h g : ℕ) → g < length l → opposed S l h g ≡ true → Mates S l h g
unfolding opposed
opposed-mates S l h g k t = record {
  lt = k;
  start = eqb-true (from l g) (to S l h) (and_left (eqb (from l g) (to S l h)) (eqb (to S l g) (from l h)) t);
  end = eqb-true (to S l g) (from l h) (and_right (eqb (from l g) (to S l h)) (eqb (to S l g) (from l h)) t);
}

pub mate-le : (S : Shape) (l : List ℕ) (h : ℕ) → mate S l h ≤ length l
unfolding mate
mate-le S l h = first-le (opposed S l h) (length l)

pub mate_is : (S : Shape) (l : List ℕ) (h : ℕ) → mate S l h < length l → Mates S l h (mate S l h)
unfolding mate
mate_is S l h k = opposed-mates S l h (mate S l h) k (first_holds (opposed S l h) (length l) k)

pub mate_none : (S : Shape) (l : List ℕ) (h : ℕ) → ((g : ℕ) → Mates S l h g → ⊥) → mate S l h ≡ length l
unfolding mate
mate_none S l h f = first_none (opposed S l h) (length l) (λ g k t. f g (opposed-mates S l h g k t))

module _ (S : Shape) (v : ℕ) (l : List ℕ) (ok : Oriented S v l) where
  mates-same : (h g k : ℕ) → Mates S l h g → Mates S l h k → g ≡ k
  mates-same h g k a b = ok.once g k a.lt b.lt (a.start ∙ sym b.start) (a.end ∙ sym b.end)

  pub mate_only : (h g : ℕ) → Mates S l h g → mate S l h ≡ g
  unfolding mate
  mate_only h g m = first_only (opposed S l h) (length l) g m.lt (opposed_on S l h g m.start m.end)
      (λ k j t. mates-same h k g (opposed-mates S l h k j t) m)

  pub mate-back : (h : ℕ) → h < length l → mate S l h < length l → mate S l (mate S l h) ≡ h
  mate-back h k m = let r = mate_is S l h m in mate_only (mate S l h) h (record { lt = k; start = sym r.end; end = sym r.start })

  -- the ends of a half-edge differ
  pub ends_differ : (h : ℕ) → h < length l → from l h ≡ to S l h → ⊥
  unfolding to
  ends_differ h k e = next_not S (length l) ok.shape h k (sym (ok.apart h (S.next h) k (ok.shape.next_lt h k) (sym (ok.shape.face_next h)) e))

  pub mate_not : (h : ℕ) → h < length l → mate S l h ≡ h → ⊥
  mate_not h k e =
      let m : mate S l h < length l = omega arith in
      ends_differ h k (ap (from l) (sym e) ∙ (mate_is S l h m).start)

  -- a mate lies in another face
  pub mate_face : (h : ℕ) → h < length l → mate S l h < length l → S.face (mate S l h) ≡ S.face h → ⊥
  unfolding to
  mate_face h k m f =
      let r = mate_is S l h m in
      let kn = ok.shape.next_lt h k in
      let e : mate S l h ≡ S.next h = ok.apart (mate S l h) (S.next h) m kn (f ∙ sym (ok.shape.face_next h)) r.start in
      let knn = ok.shape.next_lt (S.next h) kn in
      next_next_not S (length l) ok.shape h k (ok.apart (S.next (S.next h)) h knn k (ok.shape.face_next (S.next h) ∙ ok.shape.face_next h) (ap (λ (g : ℕ). from l (S.next g)) (sym e) ∙ r.end))

  -- ---- edge numbers

  -- the half-edge at which the edge of h is first met
  lead : ℕ → ℕ
  lead h = min h (mate S l h)

  lead_cases : (h : ℕ) → h < length l → ((lead h ≡ h) × (h < mate S l h)) ⊎ ((lead h ≡ mate S l h) × (mate S l h < h))
  unfolding lead
  lead_cases h k = go (dec_lt h (mate S l h))
    where
      go : Dec (h < mate S l h) → ((lead h ≡ h) × (h < mate S l h)) ⊎ ((lead h ≡ mate S l h) × (mate S l h < h))
      go (yes a) = inl (omega arith, a)
      go (no a) = let b = mate_not h k in inr (omega arith, omega arith)

  met_first : (h : ℕ) → h < mate S l h → first_met S l h ≡ true
  unfolding first_met
  met_first h k = lt-ltb h (mate S l h) k

  lead_met : (h : ℕ) → h < length l → first_met S l (lead h) ≡ true
  lead_met h k = ⊎_elim (λ a. rw a.0 (met_first h a.1))
      (λ a. let m : mate S l h < length l = omega arith in let b = mate-back h k m in rw a.0 (met_first (mate S l h) (rw b a.1))) (lead_cases h k)

  lead_lt : (h : ℕ) → h < length l → lead h < length l
  unfolding lead
  lead_lt h k = omega arith

  pub edge-lt : (h : ℕ) → h < length l → edge S l h < edge_count S l
  unfolding edge edge_count lead
  edge-lt h k = count_under (first_met S l) (lead h) (length l) (lead_lt h k) (lead_met h k)

  -- a half-edge before h has one of the edges that are met before h
  pub edge_below : (g h : ℕ) → g < length l → g < h → edge S l g < count (first_met S l) h
  unfolding edge lead
  edge_below g h k b = count_under (first_met S l) (lead g) h (omega arith) (lead_met g k)

  pub edge-mate : (h : ℕ) → h < length l → mate S l h < length l → edge S l (mate S l h) ≡ edge S l h
  unfolding edge
  edge-mate h k m =
      let b = mate-back h k m in
      let e : min (mate S l h) (mate S l (mate S l h)) ≡ min h (mate S l h) = omega arith in
      ap (count (first_met S l)) e

  -- two half-edges with the same edge number are one, or mates
  pub edge_same : (h g : ℕ) → h < length l → g < length l → edge S l h ≡ edge S l g → (g ≡ h) ⊎ ((g ≡ mate S l h) × (mate S l h < length l))
  unfolding edge lead
  edge_same h g k j e = go (lead_cases h k) (lead_cases g j)
    where
      s : lead h ≡ lead g
      s = count_inj (first_met S l) (lead h) (lead g) (lead_met h k) (lead_met g j) e

      go : ((lead h ≡ h) × (h < mate S l h)) ⊎ ((lead h ≡ mate S l h) × (mate S l h < h)) → ((lead g ≡ g) × (g < mate S l g)) ⊎ ((lead g ≡ mate S l g) × (mate S l g < g))
          → (g ≡ h) ⊎ ((g ≡ mate S l h) × (mate S l h < length l))
      go (inl a) (inl b) = inl (omega (arith, s))
      go (inl a) (inr b) = let x : mate S l g ≡ h = omega (arith, s) in let m : mate S l g < length l = omega arith in let y : mate S l h ≡ g = ap (mate S l) (sym x) ∙ mate-back g j m in inr (sym y, omega arith)
      go (inr a) (inl b) = inr (omega (arith, s), omega arith)
      go (inr a) (inr b) =
          let x : mate S l g ≡ mate S l h = omega (arith, s) in
          let m : mate S l g < length l = omega arith in
          let mh : mate S l h < length l = omega arith in
          inl (sym (mate-back g j m) ∙ ap (mate S l) x ∙ mate-back h k mh)

  -- every number below the number of edges is an edge's
  pub edge_onto : (e : ℕ) → e < edge_count S l → (h : ℕ) × (h < length l) × (edge S l h ≡ e)
  unfolding edge edge_count first_met
  edge_onto e k =
      let r = count_onto (first_met S l) (length l) e k in
      let a = ltb-true r.0 (mate S l r.0) r.2 in
      let b : min r.0 (mate S l r.0) ≡ r.0 = omega arith in
      (r.0, r.1, ap (count (first_met S l)) b ∙ r.3)

-- ---- one pass numbers the edges: a half-edge before its mate takes the next number, another its mate's
pub edge_new : (S : Shape) (l : List ℕ) (h : ℕ) → h < mate S l h → edge S l h ≡ count (first_met S l) h
unfolding edge
edge_new S l h b = let e : min h (mate S l h) ≡ h = omega arith in ap (count (first_met S l)) e

pub edge_old : (S : Shape) (v : ℕ) (l : List ℕ) → Oriented S v l → (h : ℕ) → h < length l → mate S l h < h → edge S l h ≡ edge S l (mate S l h)
edge_old S v l ok h k b = sym (edge-mate S v l ok h k (omega arith))

-- and how many numbers are taken after h
pub count_new : (S : Shape) (l : List ℕ) (h : ℕ) → h < mate S l h → count (first_met S l) (suc h) ≡ count (first_met S l) h + 1
unfolding first_met
count_new S l h b = count_more (first_met S l) h (lt-ltb h (mate S l h) b)

pub count_old : (S : Shape) (l : List ℕ) (h : ℕ) → mate S l h ≤ h → count (first_met S l) (suc h) ≡ count (first_met S l) h
unfolding first_met
count_old S l h b = count_same (first_met S l) h (le-ltb h (mate S l h) b)

pub edges_le : (S : Shape) (l : List ℕ) → edge_count S l ≤ length l
unfolding edge_count
edges_le S l = count-le (first_met S l) (length l)

-- ---- the half-edge at which an edge is first met
module _ (S : Shape) (v : ℕ) (l : List ℕ) (ok : Oriented S v l) where
  pub edge_at-edge : (h : ℕ) → h < length l → edge_at S l (edge S l h) ≡ min h (mate S l h)
  unfolding edge_at
  edge_at-edge h k = go (dec_lt h (mate S l h))
    where
      other : (j : ℕ) → j < min h (mate S l h) → eqb (edge S l j) (edge S l h) ≡ false
      other j b = ne_eqb (edge S l j) (edge S l h) (λ e. ⊎_elim (λ x. omega arith) (λ x. omega (arith, x.0)) (edge_same S v l ok h j k (omega arith) (sym e)))

      go : Dec (h < mate S l h) → first (λ (g : ℕ). eqb (edge S l g) (edge S l h)) (length l) ≡ min h (mate S l h)
      go (yes b) = let e : min h (mate S l h) ≡ h = omega arith in first_is (λ (g : ℕ). eqb (edge S l g) (edge S l h)) (length l) (min h (mate S l h)) (omega arith) (rw e (eq-eqb (edge S l h) (edge S l h) refl)) other
      go (no b) =
          let n = mate_not S v l ok h k in
          let e : min h (mate S l h) ≡ mate S l h = omega arith in
          first_is (λ (g : ℕ). eqb (edge S l g) (edge S l h)) (length l) (min h (mate S l h)) (omega arith) (rw e (eq-eqb (edge S l (mate S l h)) (edge S l h) (edge-mate S v l ok h k (omega arith)))) other

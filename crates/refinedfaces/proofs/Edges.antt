-- How many edges a refined net has: two for each edge, and one inside its face for each corner.
use mathlib.Core.Path.{◌≡◌, refl, sym, ap, ◌∙◌}
use mathlib.Core.Bool.{Bool, true, false, ◌&&◌, not}
use mathlib.Core.List.{List}
use Prim.Native.Nat.{ℕ, ◌+◌, ◌*◌, ◌<◌}
use native.Mathlib.Decide.{dec_lt}
use native.Mathlib.Omega.{arith}
use lib.ListN.{length}
use lib.Dec.{eqb, ltb}
use borrow.Author.Tests.{eq-eqb, ne_eqb, lt-ltb}
use Rattle.search.specs.Search.{count}
use Rattle.search.proofs.Tests.{clash, not_off}
use Rattle.search.proofs.Count.{count_cong, count_none, count_all}
use Rattle.search.proofs.Quarters.{count_quarters}
use Rattle.search.proofs.Pairs.{count_matches, count-split, paired_even}
use Rattle.topology.specs.Shape.{Shape, quads}
use Rattle.topology.specs.HalfEdge.{mate, first_met, edge_count}
use Rattle.topology.specs.Manifold.{Oriented}
use Rattle.topology.proofs.Mates.{mate-le, mate-back, mate_not}
use Rattle.refinedfaces.specs.Refined.{refined_vertices, refined}
use Rattle.refinedfaces.proofs.Corners.{length-refined, oriented_refined}
use Rattle.refinedfaces.proofs.Mates.{mate₀, mate₀_none, mate₁, mate₂, mate₃}

-- "Boundary edges (one face)": whether h has no mate, and how many half-edges have none
unfoldable pub is_boundary : Shape → List ℕ → ℕ → Bool
is_boundary S l h = eqb (mate S l h) (length l)

unfoldable pub boundary_count : Shape → List ℕ → ℕ
boundary_count S l = count (is_boundary S l) (length l)

module _ (S : Shape) (l : List ℕ) where
  boundary_on : (h : ℕ) → mate S l h ≡ length l → is_boundary S l h ≡ true
  unfolding is_boundary
  boundary_on h e = eq-eqb (mate S l h) (length l) e

  boundary_off : (h : ℕ) → mate S l h < length l → is_boundary S l h ≡ false
  unfolding is_boundary
  boundary_off h b = ne_eqb (mate S l h) (length l) (λ e. omega arith)

  has_mate : (h : ℕ) → not (is_boundary S l h) ≡ true → mate S l h < length l
  has_mate h t = go (dec_lt (mate S l h) (length l))
    where
      go : Dec (mate S l h < length l) → mate S l h < length l
      go (yes b) = b
      go (no b) = clash (not (is_boundary S l h)) t (not_off (is_boundary S l h) (boundary_on h (omega (arith, mate-le S l h))))

and_swap : (a b : Bool) → (a && b) ≡ (b && a)
and_swap true true = refl
and_swap true false = refl
and_swap false true = refl
and_swap false false = refl

-- ---- an edge has two half-edges, or one on the boundary
module _ (S : Shape) (v : ℕ) (l : List ℕ) (ok : Oriented S v l) where
  -- a half-edge without a mate is where its edge is first met
  met_boundary : (h : ℕ) → h < length l → (first_met S l h && is_boundary S l h) ≡ is_boundary S l h
  unfolding first_met
  met_boundary h k = go (dec_lt (mate S l h) (length l))
    where
      go : Dec (mate S l h < length l) → (ltb h (mate S l h) && is_boundary S l h) ≡ is_boundary S l h
      go (yes b) = let e = boundary_off S l h b in rw (e, and_swap (ltb h (mate S l h)) false)
      go (no b) = let e = lt-ltb h (mate S l h) (omega (arith, mate-le S l h)) in rw e

  inner_even : count (λ (h : ℕ). not (is_boundary S l h)) (length l) ≡ 2 * count (λ (h : ℕ). not (is_boundary S l h) && ltb h (mate S l h)) (length l)
  inner_even = paired_even (length l) (λ (h : ℕ). not (is_boundary S l h)) (mate S l) (record {
    inside = λ h k t. has_mate S l h t;
    passes = λ h k t. ap not (boundary_off S l (mate S l h) (let e = mate-back S v l ok h k (has_mate S l h t) in omega arith));
    back = λ h k t. mate-back S v l ok h k (has_mate S l h t);
    moved = λ h k t. mate_not S v l ok h k;
  })

  edges_twice : 2 * edge_count S l ≡ length l + boundary_count S l
  unfolding edge_count first_met boundary_count
  edges_twice =
      let n : ℕ = length l in
      let a = count_all (λ (h : ℕ). true) n (λ h k. refl) in
      let b = count-split (λ (h : ℕ). true) (is_boundary S l) n in
      let c = count-split (first_met S l) (is_boundary S l) n in
      let d = count_cong (λ (h : ℕ). first_met S l h && is_boundary S l h) (is_boundary S l) n met_boundary in
      let e = count_cong (λ (h : ℕ). first_met S l h && not (is_boundary S l h)) (λ (h : ℕ). not (is_boundary S l h) && ltb h (mate S l h)) n
      (λ h k. and_swap (ltb h (mate S l h)) (not (is_boundary S l h))) in
      let f = inner_even in
      omega arith

-- ---- a boundary edge becomes two
module _ (S : Shape) (v : ℕ) (l : List ℕ) (ok : Oriented S v l) where
  boundary₀ : (h : ℕ) → h < length l → is_boundary quads (refined S v l) (4 * h) ≡ is_boundary S l h
  boundary₀ h k = let n = length-refined S v l in go n (dec_lt (mate S l h) (length l))
    where
      go : length (refined S v l) ≡ 4 * length l → Dec (mate S l h < length l) → is_boundary quads (refined S v l) (4 * h) ≡ is_boundary S l h
      go n (yes b) =
          let m = mate₀ S v l ok h k b in
          let c = ok.shape.next_lt (mate S l h) b in
          boundary_off quads (refined S v l) (4 * h) (omega arith) ∙ sym (boundary_off S l h b)
      go n (no b) =
          let e : mate S l h ≡ length l = omega (arith, mate-le S l h) in
          boundary_on quads (refined S v l) (4 * h) (mate₀_none S v l ok h k e ∙ sym n) ∙ sym (boundary_on S l h e)

  boundary₁ : (h : ℕ) → h < length l → is_boundary quads (refined S v l) (4 * h + 1) ≡ false
  boundary₁ h k =
      let n = length-refined S v l in
      let m = mate₁ S v l ok h k in
      let c = ok.shape.next_lt h k in
      boundary_off quads (refined S v l) (4 * h + 1) (omega arith)

  boundary₂ : (h : ℕ) → h < length l → is_boundary quads (refined S v l) (4 * h + 2) ≡ false
  boundary₂ h k =
      let n = length-refined S v l in
      let m = mate₂ S v l ok h k in
      let c = ok.shape.prev_lt h k in
      boundary_off quads (refined S v l) (4 * h + 2) (omega arith)

  boundary₃ : (h : ℕ) → h < length l → is_boundary quads (refined S v l) (4 * h + 3) ≡ is_boundary S l (S.prev h)
  boundary₃ h k = let n = length-refined S v l in let m = mate₃ S v l ok h k in go n m (dec_lt (mate S l (S.prev h)) (length l))
    where
      go : length (refined S v l) ≡ 4 * length l → mate quads (refined S v l) (4 * h + 3) ≡ 4 * mate S l (S.prev h) → Dec (mate S l (S.prev h) < length l)
          → is_boundary quads (refined S v l) (4 * h + 3) ≡ is_boundary S l (S.prev h)
      go n m (yes b) = boundary_off quads (refined S v l) (4 * h + 3) (omega arith) ∙ sym (boundary_off S l (S.prev h) b)
      go n m (no b) =
          let e : mate S l (S.prev h) ≡ length l = omega (arith, mate-le S l (S.prev h)) in
          boundary_on quads (refined S v l) (4 * h + 3) (omega arith) ∙ sym (boundary_on S l (S.prev h) e)

  -- as many half-edges follow one without a mate
  boundary_prev : count (λ (h : ℕ). is_boundary S l (S.prev h)) (length l) ≡ count (is_boundary S l) (length l)
  boundary_prev = count_matches (length l) (λ (h : ℕ). is_boundary S l (S.prev h)) (is_boundary S l) S.prev S.next
      (record { inside = λ h k t. ok.shape.prev_lt h k; passes = λ h k t. t; back = λ h k t. ok.shape.next_prev h })
      (record { inside = λ h k t. ok.shape.next_lt h k; passes = λ h k t. ap (is_boundary S l) (ok.shape.prev_next h) ∙ t; back = λ h k t. ok.shape.prev_next h })

  boundary_refined : boundary_count quads (refined S v l) ≡ 2 * boundary_count S l
  unfolding boundary_count
  boundary_refined =
      let n : ℕ = length l in
      let p : ℕ → Bool = is_boundary quads (refined S v l) in
      let s = ap (count p) (length-refined S v l) ∙ count_quarters p n in
      let a = count_cong (λ (h : ℕ). p (4 * h)) (is_boundary S l) n boundary₀ in
      let b = count_none (λ (h : ℕ). p (4 * h + 1)) n boundary₁ in
      let c = count_none (λ (h : ℕ). p (4 * h + 2)) n boundary₂ in
      let d = count_cong (λ (h : ℕ). p (4 * h + 3)) (λ (h : ℕ). is_boundary S l (S.prev h)) n boundary₃ ∙ boundary_prev in
      omega arith

  pub edges_refined : edge_count quads (refined S v l) ≡ 2 * edge_count S l + length l
  edges_refined =
      let a = edges_twice S v l ok in
      let b = edges_twice quads (refined_vertices S v l) (refined S v l) (oriented_refined S v l ok) in
      let c = boundary_refined in
      let d = length-refined S v l in
      omega arith

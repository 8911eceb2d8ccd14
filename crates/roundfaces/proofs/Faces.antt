-- Laws of corners refined in place.
use mathlib.Core.Path.{◌≡◌, refl, sym, ap, ◌∙◌}
use mathlib.Core.List.{List}
use Prim.Native.Nat.{ℕ, ◌+◌, ◌*◌, ◌/◌, ◌%◌, ◌≤◌, ◌<◌}
use native.Mathlib.Nat.{add-zero}
use native.Mathlib.Omega.{arith}
use lib.ListN.{length, get_or, take}
use lib.Seq.{length-take-le, get_or-take}
use Rattle.search.proofs.Quarters.{below_four}
use Rattle.topology.specs.Shape.{Shape, quads}
use Rattle.topology.specs.HalfEdge.{from, edge_count, edge}
use Rattle.topology.proofs.Shape.{four_sides}
use Rattle.topology.proofs.Mates.{edges_le}
use Rattle.edgeentries.specs.Entry.{entry_of, edge_of}
use Rattle.refinedfaces.specs.Refined.{corner, refined}
use Rattle.tables.specs.Tables.{filled, put_four, Written}
use Rattle.roundfaces.specs.Faces.{corner_by, refined_by, FaceIn, FacesIn}
use Rattle.edgenumbers.proofs.Net.{edge-le}
use Rattle.tables.proofs.Written.{written_then, written_as, written_face, Refining, refining_all}

-- the numbers that a face's corners and edges give
module _ (n v count f : ℕ) (c w : List ℕ) where
  number : ℕ → ℕ → ℕ
  number = corner_by quads v count (λ (h : ℕ). get_or c h 0) (λ (h : ℕ). edge_of (entry_of n w h))

  faces_four : (i : ℕ) → i < 4 → quads.face (4 * f + i) ≡ f
  unfolding quads
  faces_four i b = omega arith

  pub corners_written : (p q r s : ℕ) (c₁ c₂ c₃ c₄ : List ℕ) → 16 * f + 16 ≤ length c
      → p ≡ v + edge_of (entry_of n w (4 * f + 0)) → q ≡ v + edge_of (entry_of n w (4 * f + 1)) → r ≡ v + edge_of (entry_of n w (4 * f + 2)) → s ≡ v + edge_of (entry_of n w (4 * f + 3))
      → c₁ ≡ put_four c (16 * f + 12) (get_or c (4 * f + 3) 0) s (v + count + f) r
      → c₂ ≡ put_four c₁ (16 * f + 8) (get_or c (4 * f + 2) 0) r (v + count + f) q
      → c₃ ≡ put_four c₂ (16 * f + 4) (get_or c (4 * f + 1) 0) q (v + count + f) p
      → c₄ ≡ put_four c₃ (16 * f) (get_or c (4 * f) 0) p (v + count + f) s
      → Written (16 * f) (16 * f + 16) (refined_by n v count c w) c c₄
  unfolding corner_by number
  corners_written p q r s c₁ c₂ c₃ c₄ b ep eq er es p₁ p₂ p₃ p₄ =
      let z : quads.face (4 * f) ≡ f = rw add-zero at (faces_four 0 (omega arith)) in
      let k = four_sides f in
      let e₀ = rw add-zero at ep in
      written_face number f c c₁ c₂ c₃ c₄ b
      (rw (faces_four 3 (omega arith), k.prev₃, ← es, ← er) p₁)
      (rw (faces_four 2 (omega arith), k.prev₂, ← er, ← eq) p₂)
      (rw (faces_four 1 (omega arith), k.prev₁, ← eq, ← e₀) p₃)
      (rw (z, k.prev₀, ← e₀, ← es) p₄)

-- one face after another, the last first: the corners of those before are still there
pub corners_then : (n v count a b e : ℕ) (w c c₁ c₂ : List ℕ) → a ≤ b → b ≤ e → Written b e (refined_by n v count c w) c c₁ → Written a b (refined_by n v count c₁ w) c₁ c₂ → Written a e (refined_by n v count c w) c c₂
unfolding corner_by
corners_then n v count a b e w c c₁ c₂ h k x y =
    written_then a b e (refined_by n v count c w) c c₁ c₂ h k x
    (written_as a b (refined_by n v count c₁ w) (refined_by n v count c w) c₁ c₂ (λ i l g. at i (x.before (i / 4) (omega arith)) (i % 4) (omega arith)) y)
  where
    at : (i : ℕ) → get_or c₁ (i / 4) 0 ≡ get_or c (i / 4) 0 → (j : ℕ) → j < 4
        → corner_by quads v count (λ (h : ℕ). get_or c₁ h 0) (λ (h : ℕ). edge_of (entry_of n w h)) (i / 4) j ≡ corner_by quads v count (λ (h : ℕ). get_or c h 0) (λ (h : ℕ). edge_of (entry_of n w h)) (i / 4) j
    at i p = below_four (λ j. corner_by quads v count (λ (h : ℕ). get_or c₁ h 0) (λ (h : ℕ). edge_of (entry_of n w h)) (i / 4) j ≡ corner_by quads v count (λ (h : ℕ). get_or c h 0) (λ (h : ℕ). edge_of (entry_of n w h)) (i / 4) j) p refl refl refl

-- ---- the faces of a net, from the last to the first
corner_by_lem : (S : Shape) (v : ℕ) (l : List ℕ) (c e : ℕ → ℕ) (h : ℕ) → c h ≡ from l h → e h ≡ edge S l h → e (S.prev h) ≡ edge S l (S.prev h) → (j : ℕ) → j < 4
    → corner_by S v (edge_count S l) c e h j ≡ corner S v l h j
unfolding corner corner_by
corner_by_lem S v l c e h p q r = below_four (λ j. corner_by S v (edge_count S l) c e h j ≡ corner S v l h j) p (ap (λ (x : ℕ). v + x) q) refl (ap (λ (x : ℕ). v + x) r)

module _ (n v count : ℕ) (faces w : List ℕ) (ok : FacesIn n v count faces w) where
  l : List ℕ
  l = take n faces

  length_l : length l ≡ n
  unfolding l
  length_l = let r = ok.room in length-take-le n faces (omega arith)

  pub face_in : (c : List ℕ) (f : ℕ) → length c ≡ length faces → 4 * f + 4 ≤ n → FaceIn n v count f c w
  face_in c f e b = record {
    sides = ok.sides;
    lt = b;
    vertices = ok.vertices;
    edges = let a = ok.counted in let k = edges_le quads l in let m = length_l in unfold l in omega arith;
    room = let r = ok.room in omega arith;
    numbers = ok.behind;
    below = λ g a. let x = ok.numbered g a in let y = edge-le quads l g in unfold l in omega arith;
  }

  -- the corners of the faces before e are still the old ones
  pub corners_from : (c c' : List ℕ) (f e : ℕ) → Refining n (λ (k : ℕ). corner quads v (take n faces) (k / 4) (k % 4)) faces c e
      → Written (16 * f) (16 * e) (refined_by n v count c w) c c'
      → Written (16 * f) (16 * e) (λ (k : ℕ). corner quads v (take n faces) (k / 4) (k % 4)) c c'
  unfolding l from quads
  corners_from c c' f e x y =
      let b = x.le in
      written_as (16 * f) (16 * e) _ _ c c' (λ k h g. rw ok.counted (corner_by_lem quads v l (λ (h : ℕ). get_or c h 0) (λ (h : ℕ). edge_of (entry_of n w h)) (k / 4)
      (x.written.before (k / 4) (omega arith) ∙ sym (get_or-take n faces (k / 4) 0 (omega arith)))
      (ok.numbered (k / 4) (omega arith))
      (ok.numbered (quads.prev (k / 4)) (omega arith)) (k % 4) (omega arith))) y

  pub corners_all : (c : List ℕ) (f : ℕ) → f ≤ 0 → Refining n (λ (k : ℕ). corner quads v (take n faces) (k / 4) (k % 4)) faces c f → c ≡ filled (refined quads v (take n faces)) faces
  unfolding refined l
  corners_all c f z x = let m = length_l in rw m (refining_all n (λ (k : ℕ). corner quads v (take n faces) (k / 4) (k % 4)) faces c f ok.room z x)

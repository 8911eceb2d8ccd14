-- The mates of a refined net, from those of the net by arithmetic.
use mathlib.Core.Path.{◌≡◌, sym, ap, ◌∙◌}
use mathlib.Core.Logic.{⊎_elim}
use mathlib.Core.List.{List}
use Prim.Native.Nat.{ℕ, ◌+◌, ◌*◌, ◌<◌}
use native.Mathlib.Decide.{dec_lt}
use native.Mathlib.Omega.{arith}
use lib.ListN.{length}
use Rattle.search.proofs.Quarters.{quarters}
use Rattle.topology.specs.Shape.{Shape, quads}
use Rattle.topology.specs.HalfEdge.{from, to, mate, edge}
use Rattle.topology.specs.Manifold.{Oriented}
use Rattle.topology.proofs.Shape.{face_prev}
use Rattle.topology.proofs.Mates.{to_prev, mate-le, mate_is, mate_none, mate_only, ends_differ, edge-mate, edge_same}
use Rattle.refinedfaces.specs.Refined.{refined_vertices, refined}
use Rattle.refinedfaces.proofs.Corners.{length-refined, quad, zones, oriented_refined}

module _ (S : Shape) (v : ℕ) (l : List ℕ) (ok : Oriented S v l) where
  refined_only : (h g : ℕ) → g < 4 * length l → from (refined S v l) g ≡ to quads (refined S v l) h → to quads (refined S v l) g ≡ from (refined S v l) h → mate quads (refined S v l) h ≡ g
  refined_only h g k s e = let n = length-refined S v l in mate_only quads (refined_vertices S v l) (refined S v l) (oriented_refined S v l ok) h g (record { lt = omega arith; start = s; end = e })

  refined_none : (h : ℕ) → ((g : ℕ) → g < 4 * length l → from (refined S v l) g ≡ to quads (refined S v l) h → to quads (refined S v l) g ≡ from (refined S v l) h → ⊥) → mate quads (refined S v l) h ≡ 4 * length l
  refined_none h f = let n = length-refined S v l in mate_none quads (refined S v l) h (λ g m. f g (let k = m.lt in omega arith) m.start m.end) ∙ n

  -- side 0: the first half of the side h meets the second half of its mate
  pub mate₀ : (h : ℕ) → h < length l → mate S l h < length l → mate quads (refined S v l) (4 * h) ≡ 4 * S.next (mate S l h) + 3
  unfolding to
  mate₀ h k m =
      let k' = ok.shape.next_lt (mate S l h) m in
      let q = quad S v l h k in let r = quad S v l (S.next (mate S l h)) k' in
      let i = mate_is S l h m in
      let e = ap (edge S l) (ok.shape.prev_next (mate S l h)) in let d = edge-mate S v l ok h k m in
      let t = i.end in
      refined_only (4 * h) (4 * S.next (mate S l h) + 3) (omega arith) (omega (arith, r.from₃, q.to₀)) (omega (arith, r.to₃, q.from₀))

  pub mate₀_none : (h : ℕ) → h < length l → mate S l h ≡ length l → mate quads (refined S v l) (4 * h) ≡ 4 * length l
  mate₀_none h a m = refined_none (4 * h) (quarters (length l) (λ g. from (refined S v l) g ≡ to quads (refined S v l) (4 * h) → to quads (refined S v l) g ≡ from (refined S v l) (4 * h) → ⊥)
      (λ k b s e. let q = quad S v l h a in let r = quad S v l k b in let z = zones S v l ok k b in omega arith)
      (λ k b s e. let q = quad S v l h a in let r = quad S v l k b in let y = zones S v l ok h a in omega arith)
      (λ k b s e. let q = quad S v l h a in let r = quad S v l k b in let y = zones S v l ok h a in omega arith)
      (λ k b s e. let q = quad S v l h a in let r = quad S v l k b in
      let b' = ok.shape.prev_lt k b in
      let x : edge S l h ≡ edge S l (S.prev k) = omega arith in
      let y : from l k ≡ from l h = omega arith in
      ⊎_elim (λ i. ends_differ S v l ok h a (sym y ∙ sym (to_prev S (length l) ok.shape l k) ∙ ap (to S l) i)) (λ i. let j = i.1 in omega arith) (edge_same S v l ok h (S.prev k) a b' x)))

  -- sides 1 and 2 meet inside the face
  pub mate₁ : (h : ℕ) → h < length l → mate quads (refined S v l) (4 * h + 1) ≡ 4 * S.next h + 2
  mate₁ h k =
      let k' = ok.shape.next_lt h k in
      let q = quad S v l h k in let r = quad S v l (S.next h) k' in
      let f = ok.shape.face_next h in let e = ap (edge S l) (ok.shape.prev_next h) in
      refined_only (4 * h + 1) (4 * S.next h + 2) (omega arith) (omega arith) (omega arith)

  pub mate₂ : (h : ℕ) → h < length l → mate quads (refined S v l) (4 * h + 2) ≡ 4 * S.prev h + 1
  mate₂ h k =
      let k' = ok.shape.prev_lt h k in
      let q = quad S v l h k in let r = quad S v l (S.prev h) k' in
      let f = face_prev S (length l) ok.shape h in
      refined_only (4 * h + 2) (4 * S.prev h + 1) (omega arith) (omega arith) (omega arith)

  -- side 3: the second half of the side before h meets the first half of its mate
  mate₃_some : (h : ℕ) → h < length l → mate S l (S.prev h) < length l → mate quads (refined S v l) (4 * h + 3) ≡ 4 * mate S l (S.prev h)
  mate₃_some h k m =
      let k' = ok.shape.prev_lt h k in
      let q = quad S v l h k in let r = quad S v l (mate S l (S.prev h)) m in
      let i = mate_is S l (S.prev h) m in
      let e = to_prev S (length l) ok.shape l h in let d = edge-mate S v l ok (S.prev h) k' m in
      refined_only (4 * h + 3) (4 * mate S l (S.prev h)) (omega arith) (omega arith) (omega arith)

  mate₃_none : (h : ℕ) → h < length l → mate S l (S.prev h) ≡ length l → mate quads (refined S v l) (4 * h + 3) ≡ 4 * length l
  mate₃_none h a m = refined_none (4 * h + 3) (quarters (length l) (λ g. from (refined S v l) g ≡ to quads (refined S v l) (4 * h + 3) → to quads (refined S v l) g ≡ from (refined S v l) (4 * h + 3) → ⊥)
      (λ k b s e. let q = quad S v l h a in let r = quad S v l k b in
      let a' = ok.shape.prev_lt h a in
      let x : edge S l (S.prev h) ≡ edge S l k = omega arith in
      let y : from l k ≡ from l h = omega arith in
      ⊎_elim (λ i. ends_differ S v l ok (S.prev h) a' (ap (from l) (sym i) ∙ y ∙ sym (to_prev S (length l) ok.shape l h))) (λ i. let j = i.1 in omega arith) (edge_same S v l ok (S.prev h) k a' b x))
      (λ k b s e. let q = quad S v l h a in let r = quad S v l k b in let y = zones S v l ok h a in omega arith)
      (λ k b s e. let q = quad S v l h a in let r = quad S v l k b in let y = zones S v l ok h a in omega arith)
      (λ k b s e. let q = quad S v l h a in let r = quad S v l k b in let y = zones S v l ok h a in let z = zones S v l ok k b in omega arith))

  -- no case is needed: 4 times 'none' is 'none' of the refined net
  pub mate₃ : (h : ℕ) → h < length l → mate quads (refined S v l) (4 * h + 3) ≡ 4 * mate S l (S.prev h)
  mate₃ h k = go (dec_lt (mate S l (S.prev h)) (length l))
    where
      go : Dec (mate S l (S.prev h) < length l) → mate quads (refined S v l) (4 * h + 3) ≡ 4 * mate S l (S.prev h)
      go (yes m) = mate₃_some h k m
      go (no m) = let e : mate S l (S.prev h) ≡ length l = omega (arith, mate-le S l (S.prev h)) in rw e (mate₃_none h k e)

-- The corners of a refined face, and that the refined net of an oriented net is oriented.
-- The refined face h lies at the half-edge h of the net; its sides are the half-edges 4h, 4h + 1, 4h + 2, 4h + 3.
use mathlib.Core.Path.{◌≡◌, sym, ap, ap₂, ◌∙◌, subst}
use mathlib.Core.Bool.{cond}
use mathlib.Core.Logic.{⊎_elim}
use mathlib.Core.List.{List}
use Prim.Native.Nat.{ℕ, ◌+◌, ◌-◌, ◌*◌, ◌/◌, ◌%◌, ◌<◌}
use native.Mathlib.Decide.{dec_lt}
use native.Mathlib.Omega.{arith}
use lib.ListN.{length}
use lib.Dec.{ltb}
use borrow.Author.Tests.{lt-ltb, le-ltb}
use Rattle.lists.proofs.Tabulate.{length-tabulate, get_or-tabulate}
use Rattle.search.proofs.Quarters.{quarters, quarters₂, below_four}
use Rattle.topology.specs.Shape.{Shape, quads}
use Rattle.topology.specs.HalfEdge.{from, to, mate, edge_count, edge}
use Rattle.topology.specs.Manifold.{Oriented}
use Rattle.topology.proofs.Shape.{quads_lawful, four_sides, face_prev, prev_inj, next_not}
use Rattle.topology.proofs.Mates.{to_prev, mate_is, mate_face, ends_differ, edge-lt, edge_same, edge_onto}
use Rattle.refinedfaces.specs.Refined.{refined_vertices, corner, refined}

pub length-refined : (S : Shape) (v : ℕ) (l : List ℕ) → length (refined S v l) ≡ 4 * length l
unfolding refined
length-refined S v l = length-tabulate (4 * length l) (λ (g : ℕ). corner S v l (g / 4) (g % 4))

from_at : (S : Shape) (v : ℕ) (l : List ℕ) (g : ℕ) → g < 4 * length l → from (refined S v l) g ≡ corner S v l (g / 4) (g % 4)
unfolding refined from
from_at S v l g k = get_or-tabulate (4 * length l) (λ (g : ℕ). corner S v l (g / 4) (g % 4)) g 0 k

from-refined : (S : Shape) (v : ℕ) (l : List ℕ) (h j : ℕ) → j < 4 → h < length l → from (refined S v l) (4 * h + j) ≡ corner S v l h j
from-refined S v l h j b k =
    let q : (4 * h + j) / 4 ≡ h = omega arith in
    let r : (4 * h + j) % 4 ≡ j = omega arith in
    from_at S v l (4 * h + j) (omega arith) ∙ rw (q, r)

-- what the refined half-edges at h run from and to
pub record Quad (S : Shape) (v : ℕ) (l : List ℕ) (h : ℕ) : Type 0 where
  pub from₀ : from (refined S v l) (4 * h) ≡ from l h
  pub from₁ : from (refined S v l) (4 * h + 1) ≡ v + edge S l h
  pub from₂ : from (refined S v l) (4 * h + 2) ≡ v + edge_count S l + S.face h
  pub from₃ : from (refined S v l) (4 * h + 3) ≡ v + edge S l (S.prev h)
  pub to₀ : to quads (refined S v l) (4 * h) ≡ v + edge S l h
  pub to₁ : to quads (refined S v l) (4 * h + 1) ≡ v + edge_count S l + S.face h
  pub to₂ : to quads (refined S v l) (4 * h + 2) ≡ v + edge S l (S.prev h)
  pub to₃ : to quads (refined S v l) (4 * h + 3) ≡ from l h

pub quad : (S : Shape) (v : ℕ) (l : List ℕ) (h : ℕ) → h < length l → Quad S v l h
unfolding corner to
quad S v l h k =
    let z : 4 * h + 0 ≡ 4 * h = omega arith in
    let f₀ : from (refined S v l) (4 * h) ≡ from l h = rw z at (from-refined S v l h 0 (omega arith) k) in
    let f₁ : from (refined S v l) (4 * h + 1) ≡ v + edge S l h = from-refined S v l h 1 (omega arith) k in
    let f₂ : from (refined S v l) (4 * h + 2) ≡ v + edge_count S l + S.face h = from-refined S v l h 2 (omega arith) k in
    let f₃ : from (refined S v l) (4 * h + 3) ≡ v + edge S l (S.prev h) = from-refined S v l h 3 (omega arith) k in
    record {
      from₀ = f₀;
      from₁ = f₁;
      from₂ = f₂;
      from₃ = f₃;
      to₀ = ap (from (refined S v l)) (four_sides h).next₀ ∙ f₁;
      to₁ = ap (from (refined S v l)) (four_sides h).next₁ ∙ f₂;
      to₂ = ap (from (refined S v l)) (four_sides h).next₂ ∙ f₃;
      to₃ = ap (from (refined S v l)) (four_sides h).next₃ ∙ f₀;
    }

-- the zones of its corners: old vertices, edge points, face points
pub record Zones (S : Shape) (v : ℕ) (l : List ℕ) (h : ℕ) : Type 0 where
  pub old : from l h < v
  pub side : edge S l h < edge_count S l
  pub before : edge S l (S.prev h) < edge_count S l
  pub face : S.face h < S.faces (length l)

module _ (S : Shape) (v : ℕ) (l : List ℕ) (ok : Oriented S v l) where
  pub zones : (h : ℕ) → h < length l → Zones S v l h
  zones h k = record {
    old = ok.below h k;
    side = edge-lt S v l ok h k;
    before = edge-lt S v l ok (S.prev h) (ok.shape.prev_lt h k);
    face = ok.shape.face_lt h k;
  }

  -- two half-edges of one edge that begin alike, end alike or lie in one face are one
  same_start : (h k : ℕ) → h < length l → k < length l → edge S l h ≡ edge S l k → from l h ≡ from l k → h ≡ k
  same_start h k a b e s = ⊎_elim (λ r. sym r)
      (λ r. absurd (ends_differ S v l ok h a (s ∙ ap (from l) r.0 ∙ (mate_is S l h r.1).start))) (edge_same S v l ok h k a b e)

  same_end : (h k : ℕ) → h < length l → k < length l → edge S l h ≡ edge S l k → to S l h ≡ to S l k → h ≡ k
  same_end h k a b e s = ⊎_elim (λ r. sym r)
      (λ r. absurd (ends_differ S v l ok h a (sym (s ∙ ap (to S l) r.0 ∙ (mate_is S l h r.1).end)))) (edge_same S v l ok h k a b e)

  same_face : (h k : ℕ) → h < length l → k < length l → edge S l h ≡ edge S l k → S.face h ≡ S.face k → h ≡ k
  same_face h k a b e s = ⊎_elim (λ r. sym r)
      (λ r. let q : S.face (mate S l h) ≡ S.face h = ap S.face (sym r.0) ∙ sym s in absurd (mate_face S v l ok h a r.1 q)) (edge_same S v l ok h k a b e)

  -- the points of a side and of the side before it differ
  sides_differ : (h : ℕ) → h < length l → edge S l h ≡ edge S l (S.prev h) → ⊥
  sides_differ h k e =
      let p = same_face h (S.prev h) k (ok.shape.prev_lt h k) e (sym (face_prev S (length l) ok.shape h)) in
      next_not S (length l) ok.shape (S.prev h) (ok.shape.prev_lt h k) (ok.shape.next_prev h ∙ p)

  -- the corners of a refined face
  corner-lt : (h : ℕ) → h < length l → (j : ℕ) → j < 4 → corner S v l h j < refined_vertices S v l
  unfolding corner
  corner-lt h k = let z = zones h k in below_four (λ j. corner S v l h j < refined_vertices S v l) (omega arith) (omega arith) (omega arith) (omega arith)

  corner_inj : (h : ℕ) → h < length l → (i : ℕ) → i < 4 → (j : ℕ) → j < 4 → corner S v l h i ≡ corner S v l h j → i ≡ j
  unfolding corner
  corner_inj h k =
      let z = zones h k in
      let d = sides_differ h k in
      below_four (λ i. (j : ℕ) → j < 4 → corner S v l h i ≡ corner S v l h j → i ≡ j)
      (below_four (λ j. corner S v l h 0 ≡ corner S v l h j → 0 ≡ j) (λ e. omega arith) (λ e. omega arith) (λ e. omega arith) (λ e. omega arith))
      (below_four (λ j. corner S v l h 1 ≡ corner S v l h j → 1 ≡ j) (λ e. omega arith) (λ e. omega arith) (λ e. omega arith) (λ e. absurd (d (omega arith))))
      (below_four (λ j. corner S v l h 2 ≡ corner S v l h j → 2 ≡ j) (λ e. omega arith) (λ e. omega arith) (λ e. omega arith) (λ e. omega arith))
      (below_four (λ j. corner S v l h 3 ≡ corner S v l h j → 3 ≡ j) (λ e. omega arith) (λ e. absurd (d (omega arith))) (λ e. omega arith) (λ e. omega arith))

  refined-apart : (h g : ℕ) → h < 4 * length l → g < 4 * length l → h / 4 ≡ g / 4 → from (refined S v l) h ≡ from (refined S v l) g → h ≡ g
  refined-apart h g a b e s =
      let x : corner S v l (h / 4) (h % 4) ≡ corner S v l (h / 4) (g % 4) = sym (from_at S v l h a) ∙ s ∙ from_at S v l g b ∙ ap (λ (q : ℕ). corner S v l q (g % 4)) (sym e) in
      let i = corner_inj (h / 4) (omega arith) (h % 4) (omega arith) (g % 4) (omega arith) x in
      omega arith

  -- the zones of its ends tell which side of its face a refined half-edge is
  side_of_lem : ℕ → ℕ → ℕ
  side_of_lem p q = cond (ltb p v) 0 (cond (ltb p (v + edge_count S l)) (cond (ltb q v) 3 1) 2)

  which_side : (g : ℕ) → g < 4 * length l → side_of_lem (from (refined S v l) g) (to quads (refined S v l) g) ≡ g % 4
  unfolding side_of_lem
  which_side = quarters (length l) (λ g. side_of_lem (from (refined S v l) g) (to quads (refined S v l) g) ≡ g % 4)
      (λ h k. let q = quad S v l h k in let z = zones h k in rw (lt-ltb (from (refined S v l) (4 * h)) v (omega arith)) (omega arith))
      (λ h k. let q = quad S v l h k in let z = zones h k in
      rw (le-ltb (from (refined S v l) (4 * h + 1)) v (omega arith), lt-ltb (from (refined S v l) (4 * h + 1)) (v + edge_count S l) (omega arith), le-ltb (to quads (refined S v l) (4 * h + 1)) v (omega arith)) (omega arith))
      (λ h k. let q = quad S v l h k in let z = zones h k in
      rw (le-ltb (from (refined S v l) (4 * h + 2)) v (omega arith), le-ltb (from (refined S v l) (4 * h + 2)) (v + edge_count S l) (omega arith)) (omega arith))
      (λ h k. let q = quad S v l h k in let z = zones h k in
      rw (le-ltb (from (refined S v l) (4 * h + 3)) v (omega arith), lt-ltb (from (refined S v l) (4 * h + 3)) (v + edge_count S l) (omega arith), lt-ltb (to quads (refined S v l) (4 * h + 3)) v (omega arith)) (omega arith))

  refined_once : (x y : ℕ) → x < 4 * length l → y < 4 * length l → from (refined S v l) x ≡ from (refined S v l) y → to quads (refined S v l) x ≡ to quads (refined S v l) y → x ≡ y
  refined_once x y a b s e =
      quarters₂ (length l) (λ x y. from (refined S v l) x ≡ from (refined S v l) y → to quads (refined S v l) x ≡ to quads (refined S v l) y → x ≡ y)
      (λ h k a b s e. let q = quad S v l h a in let r = quad S v l k b in let i = same_start h k a b (omega arith) (omega arith) in omega arith)
      (λ h k a b s e. let q = quad S v l h a in let r = quad S v l k b in let i = same_face h k a b (omega arith) (omega arith) in omega arith)
      (λ h k a b s e. let q = quad S v l h a in let r = quad S v l k b in let fh = face_prev S (length l) ok.shape h in let fk = face_prev S (length l) ok.shape k in
      let i = prev_inj S (length l) ok.shape h k (same_face (S.prev h) (S.prev k) (ok.shape.prev_lt h a) (ok.shape.prev_lt k b) (omega arith) (omega arith)) in omega arith)
      (λ h k a b s e. let q = quad S v l h a in let r = quad S v l k b in let th = to_prev S (length l) ok.shape l h in let tk = to_prev S (length l) ok.shape l k in
      let i = prev_inj S (length l) ok.shape h k (same_end (S.prev h) (S.prev k) (ok.shape.prev_lt h a) (ok.shape.prev_lt k b) (omega arith) (omega arith)) in omega arith)
      x y a b (sym (which_side x a) ∙ ap₂ side_of_lem s e ∙ which_side y b) s e

  pub oriented_refined : Oriented quads (refined_vertices S v l) (refined S v l)
  unfolding quads
  oriented_refined =
      let n = length-refined S v l in
      record {
        shape = quads_lawful (length (refined S v l)) (omega arith);
        below = λ h a. subst (λ (x : ℕ). x < refined_vertices S v l) (sym (from_at S v l h (omega arith))) (corner-lt (h / 4) (omega arith) (h % 4) (omega arith));
        apart = λ h g a b. refined-apart h g (omega arith) (omega arith);
        once = λ h g a b. refined_once h g (omega arith) (omega arith);
      }

-- ---- every vertex of a refined net is an old one, the point of an edge or the point of a face
pub refined-cases : (S : Shape) (v : ℕ) (l : List ℕ) → Oriented S v l → (P : ℕ → Type 0) → ((i : ℕ) → i < v → P i) → ((h : ℕ) → h < length l → P (v + edge S l h))
    → ((f : ℕ) → f < S.faces (length l) → P (v + edge_count S l + f)) → (i : ℕ) → i < refined_vertices S v l → P i
refined-cases S v l ok P old side face i b = go (dec_lt i v) (dec_lt i (v + edge_count S l))
  where
    go : Dec (i < v) → Dec (i < v + edge_count S l) → P i
    go (yes c) d = old i c
    go (no c) (yes d) =
        let r = edge_onto S v l ok (i - v) (omega arith) in
        let e : v + edge S l r.0 ≡ i = omega arith in
        subst P e (side r.0 r.1)
    go (no c) (no d) =
        let e : v + edge_count S l + (i - (v + edge_count S l)) ≡ i = omega arith in
        subst P e (face (i - (v + edge_count S l)) (omega arith))

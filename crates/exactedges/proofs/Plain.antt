-- Exact points over the scale: on boundary edges, by the far points of their rule, and on inner edges between ordinary vertices.
use mathlib.Core.Path.{◌≡◌, sym, ap, ap₂, ◌∙◌, subst}
use mathlib.Core.Bool.{Bool, true, false, cond}
use mathlib.Core.List.{List}
use Rattle.std.proofs.Common.{Option, Some, None}
use Prim.Native.Nat.{ℕ, ◌≤◌, ◌<◌}
use native.Mathlib.Omega.{arith}
use lib.Dec.{ltb}
use borrow.Author.Tests.{lt-ltb, le-ltb}
use lib.IntN.{ℤ}
use lib.ListN.{length}
use Rattle.curve.specs.Weights.{Weights, mirror}
use Rattle.topology.specs.Shape.{quads}
use Rattle.topology.specs.HalfEdge.{from, to, mate}
use Rattle.topology.specs.Boundary.{OnBoundary, along, back}
use Rattle.topology.specs.Vertex.{turn}
use Rattle.topology.specs.Manifold.{Manifold}
use Rattle.topology.proofs.Mates.{mate_is, mate-back}
use Rattle.topology.proofs.Boundary.{along_on, back_on}
use Rattle.scheme.specs.Points.{inner_rule}
use Rattle.schemelaws.specs.Ordinary.{Ordinary, OrdinaryEnds, straight, ordinary_value}
use Rattle.schemelaws.proofs.Made.{straight_read}
use Rattle.coordinates.specs.Points.{InTable, Points, OnAxes}
use Rattle.coordinates.specs.Stencil.{FarIn, far_value, stencil_value, interior_value}
use Rattle.exactedges.specs.Edge.{CornerOf, StraightFar}

-- ---- the same values on the axes
pub on_axes_as : (f g : ℕ → ℤ) (x y z : ℤ) → ((a : ℕ) → f a ≡ g a) → OnAxes f x y z → OnAxes g x y z
on_axes_as f g x y z e k = record { on₀ = k.on₀ ∙ e 0; on₁ = k.on₁ ∙ e 1; on₂ = k.on₂ ∙ e 2 }

-- ---- vertices that the rules name are in the tables
module _ (v : ℕ) (l : List ℕ) (ok : Manifold quads v l) where
  pub end_corner : (h q : ℕ) → h < length l → q ≡ to quads l h → CornerOf l q
  unfolding to
  end_corner h q b e = record { at = quads.next h; lt = ok.oriented.shape.next_lt h b; is = sym e }

  pub start-corner : (h p : ℕ) → h < length l → p ≡ from l h → CornerOf l p
  start-corner h p b e = record { at = h; lt = b; is = sym e }

  pub before_corner : (h p : ℕ) → h < length l → p ≡ from l (quads.prev h) → CornerOf l p
  before_corner h p b e = start-corner (quads.prev h) p (ok.oriented.shape.prev_lt h b) e

  pub after_corner : (h q : ℕ) → OnBoundary quads l h → q ≡ to quads l (along quads l h) → CornerOf l q
  after_corner h q o e = end_corner (along quads l h) q (along_on quads v l ok h o).lt e

  pub back-corner : (h p : ℕ) → OnBoundary quads l h → p ≡ from l (back quads l h) → CornerOf l p
  back-corner h p o e = start-corner (back quads l h) p (back_on quads v l ok h o).lt e

pub corner-room : (l : List ℕ) (t : List ℤ) → Points l t → (o : ℕ) → CornerOf l o → InTable t o
corner-room l t room o c = subst (InTable t) c.is (room.room c.at c.lt)

-- ---- far points
far_at : (t : List ℤ) (o : ℕ) → InTable t o → FarIn t (Some o)
far_at t o k = record { room = λ u e. let i : o ≡ u = cc in subst (InTable t) i k }

far_none : (t : List ℤ) → FarIn t None
far_none t = record { room = λ u e. cc }

pub far_by : (t : List ℤ) (b : Bool) (o : ℕ) → InTable t o → FarIn t (cond b None (Some o))
far_by t true o k = far_none t
far_by t false o k = far_at t o k

-- ---- straight across
module _ (v : ℕ) (l : List ℕ) (ok : Manifold quads v l) (h : ℕ) (k : h < length l) (m : mate quads l h < length l) (o : Ordinary l (from l h)) (g : ℕ) (eg : g ≡ turn quads l h) where
  straight_is : (e : ℕ → ℤ) → straight l e h ≡ cond (ltb g (length l)) (e (from l (quads.prev g))) (mirror (e (from l h)) (e (to quads l h)))
  unfolding turn
  straight_is e = straight_read v l ok h k m e o ∙ ap (λ (i : ℕ). cond (ltb i (length l)) (e (from l (quads.prev i))) (mirror (e (from l h)) (e (to quads l h)))) (sym eg)

  straight_vertex : g < length l → (e : ℕ → ℤ) → straight l e h ≡ e (from l (quads.prev g))
  straight_vertex b e = let t = lt-ltb g (length l) b in straight_is e ∙ ap (λ (c : Bool). cond c (e (from l (quads.prev g))) (mirror (e (from l h)) (e (to quads l h)))) t

  straight-mirror : length l ≤ g → (e : ℕ → ℤ) → straight l e h ≡ mirror (e (from l h)) (e (to quads l h))
  straight-mirror b e = let t = le-ltb g (length l) b in straight_is e ∙ ap (λ (c : Bool). cond c (e (from l (quads.prev g))) (mirror (e (from l h)) (e (to quads l h)))) t

  pub far_vertex : g < length l → (r : ℕ) → r ≡ from l (quads.prev g) → StraightFar l h (Some r)
  unfolding far_value
  far_vertex b r e = record {
    value = λ f. ap f e ∙ sym (straight_vertex b f);
    corner = λ u q. before_corner v l ok g u b (let i : u ≡ r = cc in i ∙ e);
  }

  pub far_mirror : length l ≤ g → StraightFar l h None
  unfolding far_value
  far_mirror b = record { value = λ f. sym (straight-mirror b f); corner = λ u q. let z : ⊥ = cc in absurd z }

pub straight_in : (l : List ℕ) (t : List ℤ) → Points l t → (h : ℕ) (f : Option ℕ) → StraightFar l h f → FarIn t f
straight_in l t room h f s = record { room = λ o e. corner-room l t room o (s.corner o e) }

-- ---- the other side of an inner edge
pub ends_mate : (v : ℕ) (l : List ℕ) → Manifold quads v l → (h m : ℕ) → OrdinaryEnds l h → m ≡ mate quads l h → OrdinaryEnds l m
ends_mate v l ok h m o e =
    let i = o.inner in
    let r = mate_is quads l h o.inner in
    let b = mate-back quads v l ok.oriented h o.lt o.inner in
    let k = o.lt in
    subst (OrdinaryEnds l) (sym e) (record {
      lt = i;
      inner = omega arith;
      start = subst (Ordinary l) (sym r.start) o.end;
      end = subst (Ordinary l) (sym r.end) o.start;
    })

-- ---- the point between ordinary vertices
module _ (v : ℕ) (l : List ℕ) (ok : Manifold quads v l) (h m : ℕ) (o : OrdinaryEnds l h) (em : m ≡ mate quads l h) (p q : ℕ) (ep : p ≡ from l h) (eq : q ≡ to quads l h) where
  pub sided_made : (weights : Weights) (f g : Option ℕ) → StraightFar l h f → StraightFar l m g → (e : ℕ → ℤ) → stencil_value weights e f p q g ≡ ordinary_value weights l e h inner_rule
  unfolding stencil_value ordinary_value
  sided_made weights f g sf sg e =
      let r = mate_is quads l h o.inner in
      let a : far_value e f (e p) (e q) ≡ straight l e h = ap₂ (λ (x y : ℕ). far_value e f (e x) (e y)) ep eq ∙ sf.value e in
      let s₁ : from l m ≡ q = ap (from l) em ∙ r.start ∙ sym eq in
      let s₂ : to quads l m ≡ p = ap (to quads l) em ∙ r.end ∙ sym ep in
      let b : far_value e g (e q) (e p) ≡ straight l e (mate quads l h) = sym (ap₂ (λ (x y : ℕ). far_value e g (e x) (e y)) s₁ s₂) ∙ sg.value e ∙ ap (straight l e) em in
      cc

  pub plain_made : (weights : Weights) (g k : ℕ) → g ≡ turn quads l h → g < length l → k ≡ turn quads l m → k < length l → (u w : ℕ) → u ≡ from l (quads.prev g) → w ≡ from l (quads.prev k)
      → (e : ℕ → ℤ) → interior_value weights e u p q w ≡ ordinary_value weights l e h inner_rule
  unfolding ordinary_value
  plain_made weights g k eg bg ek bk u w eu ew e =
      let c = ends_mate v l ok h m o em in
      let a : e u ≡ straight l e h = ap e eu ∙ sym (straight_vertex v l ok h o.lt o.inner o.start g eg bg e) in
      let b : e w ≡ straight l e (mate quads l h) = ap e ew ∙ sym (straight_vertex v l ok m c.lt c.inner c.start k ek bk e) ∙ ap (straight l e) em in
      let x : e p ≡ e (from l h) = ap e ep in
      let y : e q ≡ e (to quads l h) = ap e eq in
      cc

-- Laws of letters: which one an edge or a face has. Assumes nothing.
use mathlib.Core.Path.{◌≡◌, sym, ap, ◌∙◌}
use mathlib.Core.Bool.{Bool, true}
use mathlib.Core.List.{List}
use Prim.Native.Nat.{ℕ, ◌+◌, ◌-◌, ◌≤◌, ◌<◌, min}
use native.Mathlib.Decide.{dec_lt}
use native.Mathlib.Omega.{arith}
use borrow.Author.Tests.{lt-ltb, le-ltb}
use lib.ListN.{length}
use Rattle.search.specs.Search.{iterate}
use Rattle.topology.specs.Shape.{Lawful, quads}
use Rattle.topology.specs.HalfEdge.{mate, edge_count, edge, edge_at}
use Rattle.topology.specs.Boundary.{OnBoundary}
use Rattle.topology.specs.Quads.{across}
use Rattle.topology.specs.Manifold.{Oriented}
use Rattle.topology.proofs.Mates.{mate-back, edge-lt, edge_at-edge}
use Rattle.tables.specs.Tables.{Written}
use Rattle.tables.proofs.Written.{written_on, written_as}
use Rattle.scheme.specs.Points.{edge_rule}
use Rattle.origins.specs.Origins.{made_by, letter_of, edge_case, new_rule}
use Rattle.origins.proofs.Named.{start_control, start-split_point}
use Rattle.pointletters.specs.FaceLetter.{face_letter}
use Rattle.letters.specs.Letters.{start_letter, new_letter, WrittenIf}

-- ---- asked for, or not
pub if_asked : (asked : Bool) (a e : ℕ) (f : ℕ → ℕ) (s s' : List ℕ) → asked ≡ true → Written a e f s s' → WrittenIf asked a e f s s'
if_asked asked a e f s s' t x = record { all = λ _. x; none = λ n. let z : ◌≡◌ {A = ℕ} 0 1 = cc in absurd (omega arith) }

-- ---- where refining begins
pub start-named : (v start : ℕ) (w w₁ w₂ : List ℕ) → v ≤ start → Written 0 v (λ (i : ℕ). 86) w w₁ → Written v start (λ (i : ℕ). 83) w₁ w₂ → Written 0 start (start_letter v) w w₂
start-named v start w w₁ w₂ b x y =
    written_on 0 v start (start_letter v) w w₁ w₂ (omega arith) b
    (written_as 0 v (λ (i : ℕ). 86) (start_letter v) w w₁ (λ k _ l. ap letter_of (sym (start_control v k l))) x)
    (written_as v start (λ (i : ℕ). 83) (start_letter v) w₁ w₂ (λ k l _. ap letter_of (sym (start-split_point v k l))) y)

-- ---- opposite sides
pub across_face : (h : ℕ) → quads.face (across h) ≡ quads.face h
unfolding quads across
across_face h = omega arith

pub across_twice : (n h : ℕ) → Lawful quads n → h < n → across (across h) ≡ h
unfolding quads across iterate
across_twice n h c k = c.closes h k

module _ (l marks : List ℕ) where
  -- ---- which letter an edge or a face has
  pub face_named : (f : ℕ) → new_letter l marks (length marks + edge_count quads l + f) ≡ face_letter l f
  unfolding new_rule
  face_named f =
      let i : ℕ = length marks + edge_count quads l + f in
      let t = le-ltb i (length marks + edge_count quads l) (omega arith) in
      let e : i - (length marks + edge_count quads l) ≡ f = omega arith in
      rw (t, e)

  module _ (ok : Oriented quads (length marks) l) where
    edge-named : (h : ℕ) → h < length l → new_letter l marks (length marks + edge quads l h) ≡ letter_of (made_by (edge_case (edge_rule l marks (min h (mate quads l h)))))
    unfolding new_rule
    edge-named h k =
        let i : ℕ = length marks + edge quads l h in
        let t = lt-ltb i (length marks + edge_count quads l) (omega (arith, edge-lt quads (length marks) l ok h k)) in
        let e : i - length marks ≡ edge quads l h = omega arith in
        let g : edge_at quads l (i - length marks) ≡ min h (mate quads l h) = ap (edge_at quads l) e ∙ edge_at-edge quads (length marks) l ok h k in
        rw (t, g)

    pub boundary_named : (h : ℕ) → OnBoundary quads l h → new_letter l marks (length marks + edge quads l h) ≡ letter_of (made_by (edge_case (edge_rule l marks h)))
    boundary_named h o =
        let e : min h (mate quads l h) ≡ h = omega (arith, o.lt, o.none) in
        edge-named h o.lt ∙ ap (λ (g : ℕ). letter_of (made_by (edge_case (edge_rule l marks g)))) e

    inner_letter : (h : ℕ) → mate quads l h < length l → letter_of (made_by (edge_case (edge_rule l marks h))) ≡ 67
    unfolding edge_rule
    inner_letter h m = let t = lt-ltb (mate quads l h) (length l) m in rw t

    pub inner-named : (h : ℕ) → h < length l → mate quads l h < length l → new_letter l marks (length marks + edge quads l h) ≡ 67
    inner-named h k m = edge-named h k ∙ inner_letter (min h (mate quads l h)) (go (dec_lt h (mate quads l h)))
      where
        go : Dec (h < mate quads l h) → mate quads l (min h (mate quads l h)) < length l
        go (yes x) = let e : min h (mate quads l h) ≡ h = omega arith in rw e m
        go (no x) = let e : min h (mate quads l h) ≡ mate quads l h = omega arith in rw (e, mate-back quads (length marks) l ok h k m) k

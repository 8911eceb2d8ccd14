-- Every refined vertex is of the origin that the definition gives it, at any weights. Assumes nothing.
use mathlib.Core.Path.{◌≡◌, refl, sym, ap, ◌∙◌, subst}
use mathlib.Core.Bool.{Bool, true, false, cond}
use mathlib.Core.List.{List}
use Prim.Native.Nat.{ℕ, zero, suc, ◌+◌, ◌*◌, ◌≤◌, ◌<◌}
use native.Mathlib.Decide.{dec_lt}
use native.Mathlib.Omega.{arith}
use lib.Dec.{ltb}
use lib.IntN.{ℤ}
use lib.ListN.{length}
use borrow.Author.Tests.{lt-ltb, le-ltb}
use Rattle.curve.specs.Weights.{Weights}
use Rattle.fractions.specs.Fraction.{to_whole}
use Rattle.topology.specs.Shape.{quads}
use Rattle.topology.specs.HalfEdge.{from, to, mate, edge_count}
use Rattle.polygons.specs.Polygons.{shape_of}
use Rattle.refinedfaces.specs.Refined.{refined_vertices}
use Rattle.refinedfaces.proofs.Manifold.{vertices_after_ge}
use Rattle.nets.specs.Net.{Net, ControlNet, marked, axis}
use Rattle.scheme.specs.Points.{start_of_segment, end_of_segment, edge_rule, edge_value, edge_point, FaceRule, first_alone, second_alone, both_inner, neither_inner, face_rule, face_value, face_point}
use Rattle.scheme.specs.Step.{refined_coordinate, step, steps}
use Rattle.schemelaws.proofs.Steps.{step_count, step-axis, step_kept, steps-count, steps_kept}
use Rattle.splitting.specs.Splitting.{start_net}
use Rattle.splitting.proofs.Coordinates.{split_new}
use Rattle.splitting.proofs.Split.{split-count, split-axis, start_none, start-split, start_grows}
use Rattle.origins.specs.Origins.{Rule, end_rule, four_inner_edges, Origin, control_vertex, split_point, made_by, edge_case, face_case, side_of, face_of, new_rule, four_inner_rule, rule_value, start_origin, origin_from, origin_after}
use Rattle.origins.specs.Named.{MadeIn, MadeInSplit, MadeEarlier, HasOrigin}

-- ---- one round: the own rule of a new vertex gives its coordinate
module _ (w : Weights) (l marks : List ℕ) (p : ℕ → ℤ) (i : ℕ) where
  end_named : (b : Bool) → marked marks (from l (side_of l marks i)) ≡ b
      → cond b (edge_value w l p (side_of l marks i) start_of_segment) (edge_value w l p (side_of l marks i) end_of_segment) ≡ rule_value w l marks p i end_rule
  unfolding rule_value
  end_named b y = rw y

  directions_named : (r : FaceRule) → face_rule l (face_of l marks i) ≡ r
      → face_value w l (edge_point w l marks p) (face_of l marks i) (four_inner_rule r) ≡ rule_value w l marks p i four_inner_edges
  unfolding rule_value
  directions_named r e = rw e

  edge-named : (a b c : Bool) → ltb (mate quads l (side_of l marks i)) (length l) ≡ a → marked marks (from l (side_of l marks i)) ≡ b → marked marks (to quads l (side_of l marks i)) ≡ c
      → edge_point w l marks p (side_of l marks i) ≡ rule_value w l marks p i (edge_case (edge_rule l marks (side_of l marks i)))
  unfolding edge_point edge_rule rule_value
  edge-named true b c x y z = rw x
  edge-named false true true x y z = rw (x, y, z)
  edge-named false true false x y z = rw (x, y, z) (end_named true y)
  edge-named false false true x y z = rw (x, y, z) (end_named false y)
  edge-named false false false x y z = rw (x, y, z)

  face_named : (r : FaceRule) → face_rule l (face_of l marks i) ≡ r → face_point w l marks p (face_of l marks i) ≡ rule_value w l marks p i (face_case (face_rule l (face_of l marks i)))
  unfolding face_point rule_value
  face_named first_alone e = rw e (directions_named first_alone e)
  face_named second_alone e = rw e (directions_named second_alone e)
  face_named both_inner e = rw e (directions_named both_inner e)
  face_named neither_inner e = rw e

  pub new_coordinate : length marks ≤ i → refined_coordinate w (length marks) l marks p i ≡ to_whole (rule_value w l marks p i (new_rule l marks i))
  unfolding refined_coordinate new_rule
  new_coordinate b = let s = le-ltb i (length marks) b in go s (dec_lt i (length marks + edge_count quads l))
    where
      go : ltb i (length marks) ≡ false → Dec (i < length marks + edge_count quads l) → refined_coordinate w (length marks) l marks p i ≡ to_whole (rule_value w l marks p i (new_rule l marks i))
      go s (yes c) = let t = lt-ltb i (length marks + edge_count quads l) c in rw (s, t) (ap to_whole (edge-named _ _ _ refl refl refl))
      go s (no c) = let t = le-ltb i (length marks + edge_count quads l) (omega arith) in rw (s, t) (ap to_whole (face_named _ refl))

pub made_new : (w : Weights) (m : Net) (i : ℕ) → length m.marks ≤ i → i < refined_vertices quads (length m.marks) m.faces
    → MadeIn w m (new_rule m.faces m.marks i) (step w m).vertices i
made_new w m i b c = record {
  new = b;
  among = c;
  own = refl;
  point = λ a d. step-axis w m a i d c ∙ new_coordinate w m.faces m.marks (axis m.vertices a) i b;
}

-- ---- all rounds, from the net n, whose own vertices have the origins s
module _ (w : Weights) (s : ℕ → Origin) (n : Net) where
  pub origin_kept : (k i : ℕ) → i < length (steps w k n).marks → origin_from w s n (suc k) i ≡ origin_from w s n k i
  unfolding origin_from
  origin_kept k i b = let t = lt-ltb i (length (steps w k n).marks) b in rw t

  pub origin_new : (k i : ℕ) → length (steps w k n).marks ≤ i → origin_from w s n (suc k) i ≡ made_by (new_rule (steps w k n).faces (steps w k n).marks i)
  unfolding origin_from
  origin_new k i b = let t = le-ltb i (length (steps w k n).marks) b in rw t

  -- a vertex of n keeps its origin
  pub origin_start : (k i : ℕ) → i < length n.marks → origin_from w s n k i ≡ s i
  unfolding origin_from
  origin_start zero i b = refl
  origin_start (suc k) i b = let c = steps-count w n k in let g = vertices_after_ge (length n.marks) n.faces k in origin_kept k i (omega arith) ∙ origin_start k i b

  -- any other was made in some round
  data KeptOrMade (k i : ℕ) : Type 0 where
    kept : i < length n.marks → origin_from w s n k i ≡ s i → KeptOrMade k i
    made : (r : Rule) → origin_from w s n k i ≡ made_by r → MadeEarlier w (λ (j : ℕ). steps w j n) k i r → KeptOrMade k i

  made_later : (k i : ℕ) → i < length (steps w k n).marks → (r : Rule) → MadeEarlier w (λ (j : ℕ). steps w j n) k i r → MadeEarlier w (λ (j : ℕ). steps w j n) (suc k) i r
  unfolding steps axis
  made_later k i b r x =
      let m = x.made in
      record {
        round = x.round;
        earlier = (let e = x.earlier in omega arith);
        made = record { new = m.new; among = m.among; own = m.own; point = λ a c. step_kept w (steps w k n) (3 * i + a) (omega arith) ∙ m.point a c };
      }

  traced : (k i : ℕ) → i < length (steps w k n).marks → KeptOrMade k i
  unfolding origin_from steps
  traced zero i b = kept b refl
  traced (suc k) i b = go (traced k i) (dec_lt i (length (steps w k n).marks))
    where
      later : i < length (steps w k n).marks → KeptOrMade k i → KeptOrMade (suc k) i
      later c (kept d e) = kept d (origin_kept k i c ∙ e)
      later c (made r e x) = made r (origin_kept k i c ∙ e) (made_later k i c r x)

      go : (i < length (steps w k n).marks → KeptOrMade k i) → Dec (i < length (steps w k n).marks) → KeptOrMade (suc k) i
      go before (yes c) = later c (before c)
      go before (no c) =
          let e = step_count w (steps w k n) in
          made _ (origin_new k i (omega arith)) (record { round = k; earlier = omega arith; made = made_new w (steps w k n) i (omega arith) (omega arith) })

-- ---- the net where refining begins
pub start_control : (v i : ℕ) → i < v → start_origin v i ≡ control_vertex
unfolding start_origin
start_control v i b = let t = lt-ltb i v b in rw t

pub start-split_point : (v i : ℕ) → v ≤ i → start_origin v i ≡ split_point
unfolding start_origin
start-split_point v i b = let t = le-ltb i v b in rw t

module _ (m : ControlNet) where
  start_made : (i : ℕ) → length m.marks ≤ i → i < length (start_net m).marks → MadeInSplit m (start_net m).vertices i
  start_made i b c = go (dec_lt 0 (length m.sides))
    where
      go : Dec (0 < length m.sides) → MadeInSplit m (start_net m).vertices i
      go (yes d) =
          let e = start-split m d in
          let n = ap (λ (x : Net). length x.marks) e ∙ split-count m in
          let q : i < refined_vertices (shape_of m.sides) (length m.marks) m.faces = omega arith in
          rw e (record { counted = d; new = b; among = q; point = λ a f. split-axis m a i f q ∙ split_new (shape_of m.sides) (length m.marks) m.faces (axis m.vertices a) i b })
      go (no d) = let e = ap (λ (x : Net). length x.marks) (start_none m (omega arith)) in let z : ⊥ = omega arith in absurd z

-- ---- the origin of each vertex
no_split : {A : Type 0} → ◌≡◌ {A = Origin} control_vertex split_point → A
no_split e = let z : ◌≡◌ {A = ℕ} 0 1 = cc in absurd (omega arith)

no_rule : {A : Type 0} (o : Origin) (r : Rule) → o ≡ control_vertex → o ≡ made_by r → A
no_rule o r e f = let z : ◌≡◌ {A = ℕ} 0 1 = cc in absurd (omega arith)

not_split : {A : Type 0} (o : Origin) (r : Rule) → o ≡ split_point → o ≡ made_by r → A
not_split o r e f = let z : ◌≡◌ {A = ℕ} 0 1 = cc in absurd (omega arith)

same_rule : (r q : Rule) → made_by r ≡ made_by q → r ≡ q
same_rule r q e = cc

module _ (w : Weights) (m : ControlNet) (k i : ℕ) (b : i < length (steps w k (start_net m)).marks) where
  abbrev after : ℕ → Net
  after j = steps w j (start_net m)

  abbrev o : Origin
  o = origin_after w m k i

  is_control : i < length m.marks → o ≡ control_vertex → HasOrigin w m after k i o
  is_control c e = record { control = (λ _. c, λ _. e); split = λ f. no_split (sym e ∙ f); made = λ r f. no_rule o r e f }

  is_split : length m.marks ≤ i → i < length (start_net m).marks → o ≡ split_point → HasOrigin w m after k i o
  unfolding axis
  is_split c d e =
      let x = start_made m i c d in
      record {
        control = (λ f. no_split (sym f ∙ e), λ f. let z : ⊥ = omega arith in absurd z);
        split = λ _. record { counted = x.counted; new = x.new; among = x.among; point = λ a g. steps_kept w (start_net m) k (3 * i + a) (omega arith) ∙ x.point a g };
        made = λ r f. not_split o r e f;
      }

  is_made : (r : Rule) → o ≡ made_by r → MadeEarlier w after k i r → HasOrigin w m after k i o
  is_made r e x =
      let n = start_net m in
      let g = vertices_after_ge (length n.marks) n.faces x.round in
      let c = steps-count w n x.round in
      let h = x.made.new in
      let s = start_grows m in
      record {
        control = (λ f. no_rule o r f e, λ f. let z : ⊥ = omega arith in absurd z);
        split = λ f. not_split o r f e;
        made = λ q f. subst (MadeEarlier w after k i) (same_rule r q (sym e ∙ f)) x;
      }

  pub origin_is : HasOrigin w m after k i o
  unfolding origin_after
  origin_is = go (traced w (start_origin (length m.marks)) (start_net m) k i b)
    where
      starting : i < length (start_net m).marks → o ≡ start_origin (length m.marks) i → Dec (i < length m.marks) → HasOrigin w m after k i o
      starting d e (yes c) = is_control c (e ∙ start_control (length m.marks) i c)
      starting d e (no c) = is_split (omega arith) d (e ∙ start-split_point (length m.marks) i (omega arith))

      go : KeptOrMade w (start_origin (length m.marks)) (start_net m) k i → HasOrigin w m after k i o
      go (kept d e) = starting d e (dec_lt i (length m.marks))
      go (made r e x) = is_made r e x

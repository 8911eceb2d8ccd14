-- How many vertices and corners a net has after k rounds. Assumes nothing.
use mathlib.Core.Path.{◌≡◌, refl, sym, ap, ◌∙◌}
use Prim.Native.Nat.{ℕ, zero, suc, ◌*◌, ◌^◌, ◌≤◌}
use native.Mathlib.Nat.{mul_assoc, pow-suc}
use native.Mathlib.Decide.{ℕ_discrete}
use native.Mathlib.Omega.{arith}
use lib.ListN.{length}
use Rattle.curve.specs.Weights.{tension}
use Rattle.nets.specs.Net.{Net, ControlNet}
use Rattle.topology.specs.Shape.{quads}
use Rattle.polygons.specs.Polygons.{Sided}
use Rattle.refinedfaces.proofs.Corners.{length-refined}
use Rattle.scheme.specs.Step.{steps}
use Rattle.schemelaws.proofs.Steps.{step_faces, step_count, refinable_steps}
use Rattle.splitting.specs.Splitting.{start_net}
use Rattle.splitting.proofs.Split.{split_corners, start_none, start-split, start_grows}
use Rattle.splitting.proofs.Room.{refinable_vertices_le}
use Rattle.verdict.specs.Call.{Call, quadrilaterals, final_faces}
use Rattle.verdict.specs.Verdict.{accepted, verdict}
use Rattle.verdict.proofs.Accepted.{by_fours, by_sides, accepted_limits}
use Rattle.outcome.proofs.Accepted.{accepted_refinable}

pub zero-steps : (t : ℕ) (m : Net) → length (steps (tension t) 0 m).marks ≡ length m.marks
unfolding steps
zero-steps t m = refl

-- vertices never grow fewer
pub more_vertices : (t : ℕ) (m : Net) (j k : ℕ) → j ≤ k → length (steps (tension t) j m).marks ≤ length (steps (tension t) k m).marks
unfolding steps
more_vertices t m j zero h = let e : j ≡ zero = omega arith in rw e (omega arith)
more_vertices t m j (suc k) h = go (ℕ_discrete j (suc k)) (λ l. more_vertices t m j k l)
  where
    go : Dec (j ≡ suc k) → (j ≤ k → length (steps (tension t) j m).marks ≤ length (steps (tension t) k m).marks) → length (steps (tension t) j m).marks ≤ length (steps (tension t) (suc k) m).marks
    go (yes e) f = rw e (omega arith)
    go (no e) f = let a = f (omega arith) in let b = step_count (tension t) (steps (tension t) k m) in omega arith

-- the vertices of the control net are among them
pub control_among : (t : ℕ) (m : ControlNet) (k : ℕ) → length m.marks ≤ length (steps (tension t) k (start_net m)).marks
control_among t m k = omega (arith, start_grows m, more_vertices t (start_net m) 0 k (omega arith), zero-steps t (start_net m))

pub corners_grown : (t : ℕ) (m : Net) (k : ℕ) → length (steps (tension t) k m).faces ≡ length m.faces * 4 ^ k
unfolding steps
corners_grown t m zero = omega arith
corners_grown t m (suc k) =
    let a = corners_grown t m k in
    let b : length (steps (tension t) (suc k) m).faces ≡ 4 * length (steps (tension t) k m).faces = ap length (step_faces (tension t) (steps (tension t) k m)) ∙ length-refined quads _ _ in
    let c : length m.faces * 4 ^ suc k ≡ length m.faces * 4 ^ k * 4 = ap (λ (x : ℕ). length m.faces * x) (pow-suc 4 k) ∙ sym (mul_assoc (length m.faces) (4 ^ k) 4) in
    omega arith

-- corners where refining begins: four for each quadrilateral
pub start_four_lem : (m : ControlNet) → Sided m.sides (length m.faces) → length (start_net m).faces ≡ 4 * quadrilaterals m.sides (length m.faces)
start_four_lem m s = go (ℕ_discrete (length m.sides) 0)
  where
    go : Dec (length m.sides ≡ 0) → length (start_net m).faces ≡ 4 * quadrilaterals m.sides (length m.faces)
    go (yes z) =
        let e = ap (λ (x : Net). length x.faces) (start_none m z) in
        let q = by_fours m.sides (length m.faces) z in
        let f = s.fours z in
        omega arith
    go (no z) =
        let e = ap (λ (x : Net). length x.faces) (start-split m (omega arith)) in
        let q = by_sides m.sides (length m.faces) z in
        let f = split_corners m in
        omega arith

-- ---- an accepted call
module _ (c : Call) (e : verdict c ≡ accepted) where
  pub start_corners : (p : ℕ) → length (start_net c.net).faces * p ≡ 4 * (quadrilaterals c.net.sides (length c.net.faces) * p)
  start_corners p =
      let q : ℕ = quadrilaterals c.net.sides (length c.net.faces) in
      ap (λ (x : ℕ). x * p) (start_four_lem c.net (accepted_limits c e).sided) ∙ mul_assoc 4 q p

  -- refined vertices are at most as many as refined corners, 4G
  pub few_vertices : length (steps (tension c.tension) c.rounds (start_net c.net)).marks ≤ 4 * final_faces c
  few_vertices =
      let m : Net = start_net c.net in
      let n = corners_grown c.tension m c.rounds ∙ start_corners (4 ^ c.rounds) in
      omega (arith, refinable_vertices_le (steps (tension c.tension) c.rounds m) (refinable_steps (tension c.tension) m (accepted_refinable c e) c.rounds))

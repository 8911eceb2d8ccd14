-- The table of letters: its length, what stands in it, and that coordinates do not matter. Assumes nothing.
use mathlib.Core.Path.{◌≡◌, refl, sym, ap, ap₂, ◌∙◌, subst}
use mathlib.Core.List.{List}
use Prim.Native.Nat.{ℕ, zero, suc, ◌<◌}
use native.Mathlib.Decide.{dec_lt}
use native.Mathlib.Omega.{arith}
use lib.IntN.{ℤ}
use lib.ListN.{length, get_or}
use Rattle.lists.specs.Tabulate.{tabulate}
use Rattle.lists.proofs.Tabulate.{length-tabulate, get_or-tabulate, tabulate_cong}
use Rattle.curve.specs.Weights.{Weights}
use Rattle.topology.specs.Shape.{quads}
use Rattle.refinedfaces.specs.Refined.{refined, refined_marks}
use Rattle.nets.specs.Net.{Net, ControlNet, control_net}
use Rattle.scheme.specs.Step.{steps}
use Rattle.schemelaws.proofs.Steps.{step_faces, step_marks}
use Rattle.splitting.specs.Splitting.{start_net}
use Rattle.splitting.proofs.Split.{start_faces, start_marks}
use Rattle.origins.specs.Origins.{Origin, letter_of, made_by, new_rule, start_origin, origin_from, origin_after, letters}
use Rattle.origins.proofs.Named.{origin_kept, origin_new}

module _ (w : Weights) (m : ControlNet) (k : ℕ) where
  pub length-letters : length (letters w m k) ≡ length (steps w k (start_net m)).marks
  unfolding letters
  length-letters = length-tabulate (length (steps w k (start_net m)).marks) (λ (i : ℕ). letter_of (origin_after w m k i))

  pub letter_at : (i : ℕ) → i < length (steps w k (start_net m)).marks → get_or (letters w m k) i 0 ≡ letter_of (origin_after w m k i)
  unfolding letters
  letter_at i b = get_or-tabulate (length (steps w k (start_net m)).marks) (λ (i : ℕ). letter_of (origin_after w m k i)) i 0 b

-- ---- coordinates do not matter
module _ (w : Weights) (n n' : Net) (f : n.faces ≡ n'.faces) (g : n.marks ≡ n'.marks) where
  same_after : (k : ℕ) → ((steps w k n).faces ≡ (steps w k n').faces) × ((steps w k n).marks ≡ (steps w k n').marks)
  unfolding steps
  same_after zero = (f, g)
  same_after (suc k) =
      let a = (same_after k).0 in
      let b = (same_after k).1 in (
        step_faces w (steps w k n) ∙ ap₂ (λ (l ms : List ℕ). refined quads (length ms) l) a b ∙ sym (step_faces w (steps w k n')),
        step_marks w (steps w k n) ∙ ap₂ (λ (l ms : List ℕ). refined_marks quads (length ms) l ms) a b ∙ sym (step_marks w (steps w k n')),
      )

  same_origin : (s : ℕ → Origin) (k i : ℕ) → origin_from w s n k i ≡ origin_from w s n' k i
  unfolding origin_from
  same_origin s zero i = refl
  same_origin s (suc k) i = go (same_after k).0 (same_after k).1 (same_origin s k i) (dec_lt i (length (steps w k n).marks))
    where
      go : (steps w k n).faces ≡ (steps w k n').faces → (steps w k n).marks ≡ (steps w k n').marks → origin_from w s n k i ≡ origin_from w s n' k i → Dec (i < length (steps w k n).marks)
          → origin_from w s n (suc k) i ≡ origin_from w s n' (suc k) i
      go a b e (yes c) = origin_kept w s n k i c ∙ e ∙ sym (origin_kept w s n' k i (subst (λ (ms : List ℕ). i < length ms) b c))
      go a b e (no c) =
          let d = ap length b in
          origin_new w s n k i (omega arith) ∙ ap₂ (λ (l ms : List ℕ). made_by (new_rule l ms i)) a b ∙ sym (origin_new w s n' k i (omega arith))

pub same-letters : (w : Weights) (k : ℕ) (v v' : List ℤ) (l s marks : List ℕ) → letters w (control_net v l s marks) k ≡ letters w (control_net v' l s marks) k
unfolding letters origin_after start_origin
same-letters w k v v' l s marks =
    let f = start_faces v v' l s marks in
    let g = start_marks v v' l s marks in
    let n : Net = start_net (control_net v l s marks) in
    let n' : Net = start_net (control_net v' l s marks) in
    ap (λ (ms : List ℕ). tabulate (length ms) (λ (i : ℕ). letter_of (origin_after w (control_net v l s marks) k i))) (same_after w n n' f g k).1
    ∙ tabulate_cong (length (steps w k n').marks) _ _ (λ i b. ap letter_of (same_origin w n n' f g (start_origin (length marks)) k i))

-- Turning round a vertex from mate to mate.
use mathlib.Core.Path.{◌≡◌, refl, sym, ap, ◌∙◌}
use mathlib.Core.Bool.{true, false}
use mathlib.Core.List.{List}
use mathlib.Core.Logic.{◌⊎◌, inl, inr}
use Prim.Native.Nat.{ℕ, suc, ◌+◌, ◌≤◌, ◌<◌}
use native.Mathlib.Numerals.{add-one}
use native.Mathlib.Omega.{arith}
use lib.ListN.{length}
use lib.Dec.{eqb}
use borrow.Author.Tests.{eq-eqb, ne_eqb}
use Rattle.search.specs.Search.{iterate}
use Rattle.search.proofs.Tests.{or_off, or_on}
use Rattle.search.proofs.First.{Passed, passed_start, passed_next, passed_hit, passed-le}
use Rattle.topology.specs.Shape.{Shape}
use Rattle.topology.specs.Vertex.{turn, turns, stops, faces_met}
use Rattle.topology.proofs.Turn.{turn-le}

-- k turns from h lead to g, and turning has not stopped before
pub record Turned (S : Shape) (l : List ℕ) (h k g : ℕ) : Type 0 where
  pub at : g ≡ turns S l k h
  pub inside : g < length l
  pub passed : Passed (stops S l h) k

pub turned_start : (S : Shape) (l : List ℕ) (h : ℕ) → h < length l → Turned S l h 0 h
unfolding iterate
turned_start S l h b = record { at = refl; inside = b; passed = passed_start (stops S l h) }

-- r is the turn from g
module _ (S : Shape) (l : List ℕ) (h k g r : ℕ) (t : Turned S l h k g) (e : r ≡ turn S l g) where
  next_turns : r ≡ turns S l (suc k) h
  unfolding iterate
  next_turns = e ∙ ap (turn S l) t.at

  met : k < length l → stops S l h k ≡ true → k + 1 ≡ faces_met S l h
  unfolding faces_met
  met b s = add-one k ∙ ap suc (passed_hit (stops S l h) (length l) k t.passed b s)

  -- no face, or back at h
  pub met_end : k < length l → (r ≡ length l) ⊎ ((r ≡ length l → ⊥) × (r ≡ h)) → k + 1 ≡ faces_met S l h
  unfolding stops
  met_end b (inl n) = let z = eq-eqb (turns S l (suc k) h) (length l) (sym next_turns ∙ n) in met b (rw z)
  met_end b (inr n) = met b (or_on (eqb (turns S l (suc k) h) (length l)) _ (eq-eqb (turns S l (suc k) h) h (sym next_turns ∙ n.1)))

  pub turned_next : (r ≡ length l → ⊥) → (r ≡ h → ⊥) → Turned S l h (k + 1) r
  unfolding stops
  turned_next n m = record {
    at = next_turns ∙ ap (λ (j : ℕ). turns S l j h) (sym (add-one k));
    inside = omega (arith, e, turn-le S l g, n);
    passed = passed_next (stops S l h) k t.passed
        (or_off _ _ (ne_eqb (turns S l (suc k) h) (length l) (λ z. n (next_turns ∙ z))) (ne_eqb (turns S l (suc k) h) h (λ z. m (next_turns ∙ z))));
  }

-- d turns that do not stop: more than d faces
pub met_more : (S : Shape) (l : List ℕ) (h k g d : ℕ) → Turned S l h k g → d ≤ k → k ≤ length l → eqb (faces_met S l h) d ≡ false
unfolding faces_met
met_more S l h k g d t a b = ne_eqb (faces_met S l h) d (λ e. let c = passed-le (stops S l h) (length l) k t.passed b in omega arith)

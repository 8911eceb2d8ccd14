-- Laws of flags. Assumes nothing.
use mathlib.Core.Path.{◌≡◌, refl, sym, ap, ◌∙◌, subst}
use mathlib.Core.Bool.{Bool, true, false, cond, not}
use mathlib.Core.List.{List}
use Prim.Native.Nat.{ℕ, ◌+◌, ◌≤◌, ◌<◌}
use native.Mathlib.Decide.{ℕ_discrete}
use native.Mathlib.Omega.{arith}
use lib.ListN.{length, get_or, set, drop, replicate, get_or-replicate, get_or-append, length-replicate}
use lib.Dec.{eqb}
use lib.Seq.{get_or-set_same, get_or-set_other}
use borrow.Author.Tests.{eq-eqb, ne_eqb}
use Rattle.std.specs.Prelude.{Option, None, Some}
use Rattle.search.specs.Found.{Found}
use Rattle.search.specs.Search.{first_from, first, any}
use Rattle.search.proofs.Tests.{clash}
use Rattle.search.proofs.First.{first_holds, first_before, first_is, any_on, any_which}
use Rattle.topology.specs.HalfEdge.{from}
use Rattle.topology.specs.Vertex.{leaves}
use Rattle.refusals.specs.Refusals.{isolated}
use Rattle.refusals.proofs.Places.{isolated_soon}
use Rattle.tables.specs.Tables.{cleared}
use Rattle.scan.specs.Flags.{Flagged}

-- a longer search that ends early is the shorter one
first-shorter : (t : ℕ → Bool) (m n : ℕ) → m ≤ n → first t n < m → first t m ≡ first t n
first-shorter t m n h k = first_is t m (first t n) k (first_holds t n (omega arith)) (λ j l. first_before t n j l)

-- ---- one more number
same_bool : (a b : Bool) → (a ≡ true → b ≡ true) → (b ≡ true → a ≡ true) → a ≡ b
same_bool true b f g = sym (f refl)
same_bool false true f g = g refl
same_bool false false f g = refl

any-suc : (t : ℕ → Bool) (n : ℕ) → t n ≡ false → any t (n + 1) ≡ any t n
any-suc t n e = same_bool (any t (n + 1)) (any t n)
    (λ g. let r = any_which t (n + 1) g in shorter r.0 r.1 r.2 (ℕ_discrete r.0 n))
    (λ g. let r = any_which t n g in any_on t (n + 1) r.0 (omega (arith, r.1)) r.2)
  where
    shorter : (k : ℕ) → k < n + 1 → t k ≡ true → Dec (k ≡ n) → any t n ≡ true
    shorter k h u (yes p) = clash (t n) (subst (λ (j : ℕ). t j ≡ true) p u) e
    shorter k h u (no p) = any_on t n k (omega arith) u

-- ---- flags
pub flagged_none : (m : ℕ) (l w : List ℕ) → Flagged m l (cleared m w) 0
unfolding cleared any first first_from
flagged_none m l w = record {
  at = λ p h.
      get_or-append (replicate m 0) (drop m w) 0 p (rw (length-replicate {A = ℕ} m 0) h) ∙ get_or-replicate m p 0 0 h;
}

module _ (m : ℕ) (l w : List ℕ) (h : ℕ) (lt : h < length l) (was : Flagged m l w h) where
  other : (p : ℕ) → p < m → (from l h ≡ p → ⊥) → get_or w p 0 ≡ cond (any (leaves l p) (h + 1)) 1 0
  unfolding leaves
  other p b n = was.at p b ∙ ap (λ (t : Bool). cond t 1 0) (sym (any-suc (leaves l p) h (ne_eqb (from l h) p n)))

  -- the corner is flagged
  pub flagged_set : (a : ℕ) → from l h ≡ a → a < length w → Flagged m l (set w a 1) (h + 1)
  unfolding leaves
  flagged_set a e r = record { at = λ p b. go p b (ℕ_discrete p a) }
    where
      go : (p : ℕ) → p < m → Dec (p ≡ a) → get_or (set w a 1) p 0 ≡ cond (any (leaves l p) (h + 1)) 1 0
      go p b (yes q) =
          let t : any (leaves l p) (h + 1) ≡ true = any_on (leaves l p) (h + 1) h (omega arith) (eq-eqb (from l h) p (e ∙ sym q)) in
          ap (λ (k : ℕ). get_or (set w a 1) k 0) q ∙ get_or-set_same w a 1 0 r ∙ sym (ap (λ (b : Bool). cond b 1 0) t)
      go p b (no q) = get_or-set_other w a p 1 0 q ∙ other p b (λ f. q (sym f ∙ e))

  -- the corner is not among the first m
  pub flagged_past : m ≤ from l h → Flagged m l w (h + 1)
  flagged_past g = record { at = λ p b. other p b (λ f. let z : ⊥ = omega arith in z) }

-- a vertex is isolated if it has no flag
pub unflagged : (m : ℕ) (l w : List ℕ) (p : ℕ) → p < m → Flagged m l w (length l) → isolated l p ≡ eqb (get_or w p 0) 0
unfolding isolated
unflagged m l w p h f = go (any (leaves l p) (length l)) (f.at p h)
  where
    go : (b : Bool) → get_or w p 0 ≡ cond b 1 0 → not b ≡ eqb (get_or w p 0) 0
    go true g = rw g
    go false g = rw g

-- more vertices than corners: one of the first n + 1 is isolated
pub isolated_early : (l : List ℕ) (v : ℕ) (r : Option ℕ) → length l < v → Found (isolated l) (length l + 1) r → Found (isolated l) v r
isolated_early l v None h f = let k = isolated_soon l v h in let e = first-shorter (isolated l) (length l + 1) v (omega arith) (omega arith) in absurd (omega arith)
isolated_early l v (Some i) h f = let k = isolated_soon l v h in let e = first-shorter (isolated l) (length l + 1) v (omega arith) (omega arith) in (sym e ∙ f.0, omega arith)

-- How the tests of a net fit together. Assumes nothing.
use mathlib.Core.Path.{◌≡◌, refl, sym, ◌∙◌}
use mathlib.Core.Bool.{Bool, not}
use mathlib.Core.List.{List}
use Prim.Native.Nat.{ℕ, ◌*◌, ◌≤◌, ◌<◌}
use native.Mathlib.Nat.{le_refl}
use native.Mathlib.Omega.{arith}
use native.Mathlib.Decide.{ℕ_discrete, dec_lt}
use lib.Dec.{eqb}
use borrow.Author.Tests.{eq-eqb, ne_eqb}
use lib.ListN.{length, drop}
use Rattle.std.specs.Prelude.{Option, None, Some, Result, Err}
use Rattle.std.specs.Bool.{then_some}
use Rattle.search.specs.Found.{Found}
use Rattle.search.specs.Search.{first}
use Rattle.polygons.specs.Polygons.{shape_of}
use Rattle.refusals.specs.Refusals.{isolated, repeated_side, non_manifold, bad_valence, marked_ring}
use Rattle.refusals.proofs.Places.{isolated_soon}
use Rattle.verdict.specs.Verdict.{Verdict, accepted, refused, or_else, refused_at, vertex_verdict, adjacency_verdict, faces_verdict}
use Rattle.verdict.proofs.Accepted.{never, at_hit, at_pass, last_hit, last_pass}
use Rattle.reasons.specs.declared.Refusal.{Refusal}
use Rattle.reasons.specs.Reasons.{refused_as, verdict_of}
use Rattle.adjacency.specs.Chains.{CornersBelow, Tables}
use Rattle.adjacency.proofs.Chains.{corners_below_le}
use Rattle.examination.specs.Examine.{refused_where, CheckTables, Joined, Examined}

-- no vertex is isolated, so there are no more than corners
pub joined : (l : List ℕ) (v : ℕ) → first (isolated l) v ≡ v → Joined l v
joined l v e = record { few = go (dec_lt (length l) v); none = e }
  where
    go : Dec (length l < v) → v ≤ length l
    go (yes h) = let k = isolated_soon l v h in absurd (omega arith)
    go (no h) = omega arith

pub chain_tables : (s l w : List ℕ) (v : ℕ) → CheckTables s l w → v ≤ length l → CornersBelow v l → Tables s l w
chain_tables s l w v t h r = let b = t.room in record { shaped = t.shaped; few = t.few; corners = corners_below_le v (length l) l h r; room = omega arith }

-- ---- a search's answer in the chain of refusals
module _ (k : ℕ) (t : ℕ → Bool) (n : ℕ) where
  -- with a place that is read off the number found
  pub hit_at : (place : ℕ → ℕ) (v : Verdict) (i : ℕ) → Found t n (Some i) → refused k (place i) ≡ or_else (refused_at k t n place) v
  hit_at place v i f = at_hit k t n place v i (sym f.0) f.1

  pub pass_at : (place : ℕ → ℕ) (u v : Verdict) → Found t n None → u ≡ v → u ≡ or_else (refused_at k t n place) v
  pass_at place u v f e = at_pass k t n place u v n (sym f) (le_refl n) e

  -- with the number found as the place
  pub hit_found : (v : Verdict) (o : Option ℕ) (x : Refusal) → Found t n o → refused_as x ≡ refused_where k o → refused_as x ≡ or_else (refused_at k t n (λ p. p)) v
  hit_found v None x f e = never _ _ e
  hit_found v (Some i) x f e = e ∙ hit_at (λ p. p) v i f

  pub pass_found : (u v : Verdict) (o : Option ℕ) → Found t n o → accepted ≡ refused_where k o → u ≡ v → u ≡ or_else (refused_at k t n (λ p. p)) v
  pass_found u v None f e g = pass_at (λ p. p) u v f g
  pass_found u v (Some i) f e g = never k i (sym e)

  pub last_found : (o : Option ℕ) → Found t n o → refused_where k o ≡ refused_at k t n (λ p. p)
  last_found None f = last_pass k t n (λ p. p) n (sym f) (le_refl n)
  last_found (Some i) f = last_hit k t n (λ p. p) i (sym f.0) f.1

  pub none_found : (o : Option ℕ) → Found t n o → accepted ≡ refused_where k o → first t n ≡ n
  none_found None f e = f
  none_found (Some i) f e = never k i (sym e)

-- a refusal of a net
pub refused_net : (v : Verdict) (s l w w' : List ℕ) (r : Result (Unit {0}) Refusal) (x : Refusal) → verdict_of r ≡ refused_as x → refused_as x ≡ v → drop (4 * length l) w' ≡ drop (4 * length l) w → Examined v s l w r w'
refused_net v s l w w' r x e f h = record { verdict = e ∙ f; mated = λ z. never _ _ (sym e ∙ z); rest = h }

pub refused_here : (v : Verdict) (s l w w' : List ℕ) (x : Refusal) → refused_as x ≡ v → drop (4 * length l) w' ≡ drop (4 * length l) w → Examined v s l w (Err x) w'
refused_here v s l w w' x f h = refused_net v s l w w' (Err x) x refl f h

-- ---- refusal 8 where there are no faces, or fewer corners than vertices
module _ (s l m w : List ℕ) (r : Result (Unit {0}) Refusal) where
  pub no_faces : length l ≡ 0 → verdict_of r ≡ refused_where 8 (then_some (not (eqb (length m) 0)) 0) → Examined (faces_verdict (shape_of s) (length m) l m) s l w r w
  unfolding faces_verdict adjacency_verdict vertex_verdict
  no_faces e f = go (ℕ_discrete (length m) 0)
    where
      go : Dec (length m ≡ 0) → Examined (faces_verdict (shape_of s) (length m) l m) s l w r w
      go (yes z) =
          let g : verdict_of r ≡ accepted = f ∙ rw (eq-eqb (length m) 0 z) in
          record {
            verdict =
                g
                ∙ at_pass 8 (isolated l) (length m) (λ p. p) _ _ _ refl (omega arith)
                (at_pass 9 (repeated_side (shape_of s) l) (length l) (shape_of s).face _ _ _ refl (omega arith)
                (at_pass 10 (non_manifold (shape_of s) l) (length m) (λ p. p) _ _ _ refl (omega arith)
                (at_pass 11 (bad_valence (shape_of s) l) (length m) (λ p. p) _ _ _ refl (omega arith) (last_pass 12 (marked_ring (shape_of s) l m) (length m) (λ p. p) _ refl (omega arith)))));
            mated = λ y. record { mates = λ i h. absurd (omega arith) };
            rest = refl;
          }
      go (no z) =
          let g : verdict_of r ≡ refused 8 0 = f ∙ rw (ne_eqb (length m) 0 z) in
          let k = isolated_soon l (length m) (omega arith) in
          record { verdict = g ∙ at_hit 8 (isolated l) (length m) (λ p. p) _ 0 (omega arith) (omega arith); mated = λ y. never 8 0 (sym g ∙ y); rest = refl }

  pub few_corners : (w' : List ℕ) (o : Option ℕ) → length l < length m → Found (isolated l) (length m) o → verdict_of r ≡ refused_where 8 o → drop (4 * length l) w' ≡ drop (4 * length l) w
      → Examined (faces_verdict (shape_of s) (length m) l m) s l w r w'
  unfolding faces_verdict
  few_corners w' None h f e d = let k = isolated_soon l (length m) h in absurd (omega arith)
  few_corners w' (Some i) h f e d = record { verdict = e ∙ hit_at 8 (isolated l) (length m) (λ p. p) _ i f; mated = λ y. never 8 i (sym e ∙ y); rest = d }

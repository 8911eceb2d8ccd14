-- The letters of an accepted call: those of the net where refining begins, then those of the rounds. Assumes nothing.
use mathlib.Core.Path.{◌≡◌, refl, sym, ap, ◌∙◌}
use mathlib.Core.Bool.{Bool, true, false}
use mathlib.Core.List.{List}
use Prim.Native.Nat.{ℕ, ◌≤◌}
use native.Mathlib.Omega.{arith}
use lib.ListN.{length}
use Rattle.lists.specs.Tabulate.{tabulate}
use Rattle.curve.specs.Weights.{tension}
use Rattle.tables.specs.Tables.{filled, Written}
use Rattle.tables.proofs.Written.{written_on, written_as, written_all}
use Rattle.nets.specs.Net.{ControlNet}
use Rattle.nets.specs.Buffers.{letter_table}
use Rattle.scheme.specs.Step.{steps}
use Rattle.splitting.specs.Splitting.{start_net}
use Rattle.origins.specs.Origins.{letter_of, start_origin, origin_after, letters}
use Rattle.origins.proofs.Named.{origin_start}
use Rattle.letters.specs.Letters.{start_letter, WrittenIf}
use Rattle.outcome.specs.Outcome.{lettered}
use Rattle.outcome.proofs.Counts.{zero-steps, more_vertices}
use Rattle.rounds.specs.Rounds.{LettersAfter}

module _ (t k : ℕ) (m : ControlNet) (start r : ℕ) (hs : start ≡ length (start_net m).marks) (hr : r ≡ length (steps (tension t) k (start_net m)).marks) (s s₁ s₂ : List ℕ) (long : length s₂ ≡ length s) where
  abbrev f : ℕ → ℕ
  f i = letter_of (origin_after (tension t) m k i)

  begun : Written 0 start (start_letter (length m.marks)) s s₁ → Written 0 start f s s₁
  unfolding origin_after start_origin
  begun x = written_as 0 start (start_letter (length m.marks)) f s s₁ (λ i _ b. ap letter_of (sym (origin_start (tension t) (start_origin (length m.marks)) (start_net m) k i (omega arith)))) x

  all_written : r ≤ length s → Written 0 start (start_letter (length m.marks)) s s₁ → Written start r f s₁ s₂ → s₂ ≡ filled (letters (tension t) m k) s
  unfolding letters
  all_written b x y =
      let g = more_vertices t (start_net m) 0 k (omega arith) in
      written_all r f s s₂ b long (written_on 0 start r f s s₁ s₂ (omega arith) (omega (arith, zero-steps t (start_net m))) (begun x) y)
      ∙ ap (λ (n : ℕ). filled (tabulate n f) s) hr

  pub lettered_all : (asked : Bool) → (asked ≡ true → r ≤ length s) → WrittenIf asked 0 start (start_letter (length m.marks)) s s₁ → LettersAfter asked t k start r (start_net m) s₁ s₂
      → s₂ ≡ lettered (letters (tension t) m k) (letter_table asked s)
  unfolding origin_after
  lettered_all true b x y = all_written (b refl) (x.all refl) ((y (start_origin (length m.marks))).all refl)
  lettered_all false b x y = (y (start_origin (length m.marks))).none refl ∙ x.none refl

-- The tables as they stand before each round: the net, and where a round follows its mates and classes. Assumes nothing.
use mathlib.Core.Path.{◌≡◌, subst}
use mathlib.Core.Bool.{Bool}
use mathlib.Core.List.{List}
use Prim.Native.Nat.{ℕ, ◌+◌, ◌*◌, ◌^◌, ◌≤◌, ◌<◌}
use native.Mathlib.Omega.{arith}
use lib.ListN.{length, take}
use Rattle.curve.specs.Weights.{tension}
use Rattle.tables.specs.Tables.{filled}
use Rattle.topology.specs.Shape.{quads}
use Rattle.scheme.specs.Step.{steps}
use Rattle.refinedfaces.specs.Families.{AfterRound}
use Rattle.refinedfaces.specs.Mates.{refined_mates}
use Rattle.halfedges.specs.Tables.{MateTable}
use Rattle.ringsizes.specs.Classes.{RingSizes, Classes}
use Rattle.roundmates.specs.Mates.{MatesIn, LaterIn}
use Rattle.letters.specs.Letters.{new_letter, WrittenIf}
use Rattle.oneround.specs.Round.{Current, Refines}
use Rattle.nets.specs.Net.{Net}
use Rattle.nets.specs.Buffers.{Buffers, front}
use Rattle.rounds.specs.Rounds.{Prepared, After, LettersAfter}
use Rattle.rounds.proofs.Steps.{with_work, again, sized, after_none, mated_none, classes_none, later_net, current, after_next, ready_mates, later_mates, after_mates, mated_next, classes_next, letters_next}

module _ (t k v n last : ℕ) (B : Buffers) where
  abbrev m : Net
  m = front v n B

  -- a round follows
  pub record Follows (i r c : ℕ) (B₁ : Buffers) : Type 0 where
    pub corners : c ≡ n * 4 ^ i
    pub mated : MateTable (steps (tension t) i m).faces B₁.work
    pub classes : Classes r (8 * last) v (steps (tension t) i m).faces B₁.work

  pub record Standing (i r c : ℕ) (B₁ : Buffers) : Type 0 where
    pub after : After t i v n r B B₁
    pub follows : i < k → Follows i r c B₁

  module _ (ok : Prepared t k v n last B) where
    pub standing_none : RingSizes v (8 * last) (take n B.faces) B.work → Standing 0 v n B
    standing_none s = record {
      after = after_none t k v n last B ok;
      follows = λ h. record { corners = omega arith; mated = mated_none t k v n last B ok; classes = classes_none t k v n last B ok s };
    }

    module _ (i r c : ℕ) (B₁ : Buffers) (x : Standing i r c B₁) (h : i < k) where
      f : Follows i r c B₁
      f = x.follows h

      here : Current t r (n * 4 ^ i) (8 * last) v B₁
      here = current t k v n last B ok i r B₁ x.after f.mated f.classes h

      pub current_here : Current t r c (8 * last) v B₁
      current_here = rw f.corners here

      pub room_here : 4 * c ≤ n * 4 ^ k
      room_here = rw f.corners (sized t k v n last B ok i h)

      pub later_here : 0 < i → AfterRound (take c B₁.faces)
      later_here p = rw f.corners (later_net t k v n last B ok i r B₁ x.after p)

      module _ (r₂ : ℕ) (B₂ : Buffers) (e : Refines t r c r₂ B₁ B₂) (z : length B₂.work ≡ length B₁.work) where
        e' : Refines t r (n * 4 ^ i) r₂ B₁ B₂
        e' = subst (λ (j : ℕ). Refines t r j r₂ B₁ B₂) f.corners e

        -- the last round
        pub standing_last : k ≤ i + 1 → (c' : ℕ) → Standing (i + 1) r₂ c' B₂
        standing_last p c' = record { after = after_next t k v n last B ok i r B₁ x.after f.mated f.classes h r₂ B₂ e' z; follows = λ q. let y : ⊥ = omega arith in absurd y }

        pub lettered : (asked : Bool) (s s₁ s₂ : List ℕ) → LettersAfter asked t i v r m s s₁ → WrittenIf asked r r₂ (new_letter (take c B₁.faces) (take r B₁.marks)) s₁ s₂ → LettersAfter asked t (i + 1) v r₂ m s s₂
        lettered asked s s₁ s₂ y o = letters_next t k v n last B ok i r B₁ x.after f.mated f.classes h r₂ B₂ e' z asked s s₁ s₂ y (subst (λ (j : ℕ). WrittenIf asked r r₂ (new_letter (take j B₁.faces) (take r B₁.marks)) s₁ s₂) f.corners o)

        pub mates_here : MatesIn c B₂.work
        mates_here = rw f.corners (ready_mates t k v n last B ok i r B₁ x.after f.mated f.classes h r₂ B₂ e' z)

        pub later_mates_here : 0 < i → LaterIn c B₂.work
        later_mates_here p = rw f.corners (later_mates t k v n last B ok i r B₁ x.after f.mated f.classes h r₂ B₂ e' z p)

        pub standing_next : (w₃ : List ℕ) → length w₃ ≡ length B₂.work → w₃ ≡ filled (refined_mates quads (take c B₂.work)) B₂.work → Standing (i + 1) r₂ (c * 4) (with_work B₂ w₃)
        standing_next w₃ y d =
            let d' : w₃ ≡ filled (refined_mates quads (take (n * 4 ^ i) B₂.work)) B₂.work = subst (λ (j : ℕ). w₃ ≡ filled (refined_mates quads (take j B₂.work)) B₂.work) f.corners d in
            record {
              after = after_mates t k v n last B ok i r B₁ x.after f.mated f.classes h r₂ B₂ e' z w₃ y d';
              follows = λ q. record {
                corners = again n i c f.corners;
                mated = mated_next t k v n last B ok i r B₁ x.after f.mated f.classes h r₂ B₂ e' z w₃ y d';
                classes = classes_next t k v n last B ok i r B₁ x.after f.mated f.classes h r₂ B₂ e' z w₃ y d';
              };
            }

-- What the number of refined faces that the code takes says of refusals 3 and 4. Assumes nothing.
use mathlib.Core.Path.{◌≡◌}
use mathlib.Core.List.{List}
use Prim.Native.Nat.{ℕ, ◌*◌, ◌/◌, ◌^◌, ◌≤◌, ◌<◌}
use native.Mathlib.Decide.{dec_lt}
use native.Mathlib.Omega.{arith}
use lib.Dec.{ltb}
use borrow.Author.Tests.{lt-ltb, ltb-false}
use Rattle.bounds.specs.Bounds.{max_rounds, max_faces}
use Rattle.verdict.specs.Call.{Lengths, quadrilaterals}
use Rattle.verdict.specs.Verdict.{accepted, or_else, refused_if, tables_verdict, size_verdict, room_verdict, limits_verdict}
use Rattle.verdict.proofs.Accepted.{if_false, else_same, sized_faces}
use Rattle.limits.specs.Answer.{FinalFaces}

-- with too many faces their number after the rounds does not matter
many_faces : (v f g h : ℕ) → max_faces < f → size_verdict v f g ≡ size_verdict v f h
unfolding size_verdict
many_faces v f g h b = rw (lt-ltb max_faces f b)

module _ (k : ℕ) (sides : List ℕ) (n : Lengths) (q g : ℕ) (same : q ≡ quadrilaterals sides n.corners) (final : FinalFaces k q g) where
  rest : k ≤ max_rounds → or_else (size_verdict (n.coordinates / 3) q (q * 4 ^ k)) (room_verdict (q * 4 ^ k) n.room) ≡ or_else (size_verdict (n.coordinates / 3) q g) (room_verdict g n.room)
  rest few = go (dec_lt max_faces q)
    where
      go : Dec (max_faces < q) → or_else (size_verdict (n.coordinates / 3) q (q * 4 ^ k)) (room_verdict (q * 4 ^ k) n.room) ≡ or_else (size_verdict (n.coordinates / 3) q g) (room_verdict g n.room)
      go (yes b) =
          rw (many_faces (n.coordinates / 3) q (q * 4 ^ k) g b)
          (else_same (size_verdict (n.coordinates / 3) q g) (λ e. let s = sized_faces (n.coordinates / 3) q g e in absurd (omega arith)))
      go (no b) = rw (final.final few (omega arith))

  pub past_tables : refused_if 1 (ltb max_rounds k) ≡ accepted → tables_verdict n.coordinates n.corners sides n.marks ≡ accepted
      → limits_verdict k sides n ≡ or_else (size_verdict (n.coordinates / 3) q g) (room_verdict g n.room)
  unfolding limits_verdict
  past_tables few tables = rw (few, tables, ← same) (rest (ltb-false max_rounds k (if_false 1 _ few)))

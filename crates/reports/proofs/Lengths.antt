-- The lengths to provide. Assumes nothing.
use mathlib.Core.Path.{◌≡◌, sym, ap, ◌∙◌, subst}
use mathlib.Core.List.{List}
use Prim.Native.Nat.{ℕ, ◌*◌, ◌/◌, ◌^◌, ◌<◌}
use native.Mathlib.Decide.{dec_lt}
use native.Mathlib.Omega.{arith}
use lib.Dec.{ltb}
use borrow.Author.Tests.{lt-ltb}
use Rattle.bounds.specs.Bounds.{max_rounds, max_faces}
use Rattle.verdict.specs.Call.{Room, needed, lengths, quadrilaterals}
use Rattle.verdict.specs.Verdict.{Verdict, accepted, refused, or_else, refused_if, limits_verdict, tables_verdict, size_verdict}
use Rattle.verdict.proofs.Accepted.{or_refused, sized_faces, within_if}
use Rattle.limits.specs.Answer.{FinalFaces}
use Rattle.reports.specs.Report.{sizes_by, sizes}

module _ (k nv nf : ℕ) (s : List ℕ) (nm : ℕ) where
  -- the faces that count
  abbrev F : ℕ
  F = quadrilaterals s nf

  -- past these limits the room does not matter
  many_rounds : (a b : Room) → max_rounds < k → limits_verdict k s (lengths nv nf nm a) ≡ limits_verdict k s (lengths nv nf nm b)
  unfolding limits_verdict
  many_rounds a b h = rw (lt-ltb max_rounds k h)

  many_faces : (a b : Room) → max_faces < F → limits_verdict k s (lengths nv nf nm a) ≡ limits_verdict k s (lengths nv nf nm b)
  unfolding limits_verdict
  many_faces a b h =
      ap (λ (v : Verdict). or_else (refused_if 1 (ltb max_rounds k)) (or_else (tables_verdict nv nf s nm) v))
      (or_refused (size_verdict (nv / 3) (F) (F * 4 ^ k)) _ _ (λ e. let l = sized_faces (nv / 3) (F) (F * 4 ^ k) e in omega arith))

  -- g is worked out, and the room is what it needs
  module _ (q : ℕ) (same : q ≡ F) (g : ℕ) (f₀ : FinalFaces k q g) (least : Room) (n : least ≡ needed g) where
    f : FinalFaces k F g
    f = subst (λ (x : ℕ). FinalFaces k x g) same f₀

    same-verdict : limits_verdict k s (lengths nv nf nm least) ≡ limits_verdict k s (lengths nv nf nm (needed (F * 4 ^ k)))
    same-verdict = go (dec_lt max_rounds k) (dec_lt max_faces (F))
      where
        go : Dec (max_rounds < k) → Dec (max_faces < F) → limits_verdict k s (lengths nv nf nm least) ≡ limits_verdict k s (lengths nv nf nm (needed (F * 4 ^ k)))
        go (yes h) d = many_rounds _ _ h
        go (no h) (yes d) = many_faces _ _ d
        go (no h) (no d) = ap (λ (x : Room). limits_verdict k s (lengths nv nf nm x)) (n ∙ ap needed (f.final (omega arith) (omega arith)))

    pub refused_sizes : (r : ℕ) → limits_verdict k s (lengths nv nf nm least) ≡ refused r 0 → record { reason = r; out_vertices = 0; out_faces = 0; out_marks = 0; work = 0 } ≡ sizes k nv nf s nm
    unfolding sizes
    refused_sizes r l = let v : limits_verdict k s (lengths nv nf nm (needed (F * 4 ^ k))) ≡ refused r 0 = sym same-verdict ∙ l in rw v

    pub given_sizes : limits_verdict k s (lengths nv nf nm least) ≡ accepted → sizes_by accepted least ≡ sizes k nv nf s nm
    unfolding sizes
    given_sizes l =
        let v : limits_verdict k s (lengths nv nf nm (needed (F * 4 ^ k))) ≡ accepted = sym same-verdict ∙ l in
        let w = within_if k s _ v in
        rw v (ap (sizes_by accepted) (n ∙ ap needed (f.final w.few w.faces)))

-- In a net that a round made, what the edges leave in the work table is what families of faces ask for.
use mathlib.Core.Path.{◌≡◌, sym, ap, ◌∙◌, subst}
use mathlib.Core.List.{List}
use Prim.Native.Nat.{ℕ, ◌+◌, ◌*◌, ◌%◌, ◌<◌}
use native.Mathlib.Omega.{arith}
use lib.IntN.{ℤ}
use lib.ListN.{length, get_or}
use Rattle.search.proofs.Quarters.{quarters}
use Rattle.topology.specs.Shape.{quads}
use Rattle.topology.specs.HalfEdge.{mate, edge, edge_count}
use Rattle.topology.proofs.Mates.{edge-mate}
use Rattle.refinedfaces.specs.Refined.{refined}
use Rattle.refinedfaces.proofs.Mates.{mate₁, mate₂}
use Rattle.refinedfaces.specs.Families.{AfterRound, Facing}
use Rattle.refinedfaces.proofs.Families.{later_facing, later_length}
use Rattle.schemelaws.specs.Ordinary.{OrdinaryEnds}
use Rattle.schemelaws.proofs.Families.{spoke_plain, spoke_back}
use Rattle.edgeentries.specs.Entry.{entry_of}
use Rattle.familyfaces.specs.Family.{FamilyTable}
use Rattle.exactedges.specs.Edge.{Flagged, plain, wide, boundary}
use Rattle.edgetable.specs.EdgeTable.{Round, Entry, Edges}
use Rattle.edgetable.proofs.EdgeTable.{edge_few, ready_now}

-- a plain edge has its number as its entry
entry_number : (l : List ℕ) (h entry : ℕ) → OrdinaryEnds l h → Entry l h entry → entry ≡ edge quads l h
entry_number l h entry o x = go x.flagged
  where
    go : Flagged l h x.flag → entry ≡ edge quads l h
    go (plain m a b e) = let q = x.is in omega arith
    go (wide m n e) = absurd (n o.start o.end)
    go (boundary m e) = let i = o.inner in let z : ⊥ = omega arith in absurd z

module _ (t : ℕ) (l marks : List ℕ) (p₀ : List ℤ) (w₀ : List ℕ) (at initial : ℕ) (ok : Round t l marks p₀ w₀ at initial) (p : List ℤ) (w : List ℕ) (done : Edges t l marks p₀ w₀ p w (length l) (edge_count quads l)) (made : AfterRound l) where
  abbrev n : ℕ
  n = length l

  abbrev L : List ℕ
  L = refined quads made.vertices made.before

  mate_now : (h : ℕ) → h < n → get_or w h 0 ≡ mate quads l h
  mate_now h k = (ready_now t l marks p₀ w₀ at initial ok p w n (edge_count quads l) done).table.mated.mates h k

  at_refined : (P : List ℕ → Type 0) → P L → P l
  at_refined P x = subst P (sym made.is) x

  number_is : (h : ℕ) → h < n → OrdinaryEnds l h → entry_of n w h ≡ edge quads l h
  number_is h k o = entry_number l h (entry_of n w h) o (done.entries h k)

  second_mate : (f : ℕ) → 4 * f < n → mate quads l (4 * f + 1) ≡ 4 * quads.next f + 2
  second_mate f k =
      let d = later_length l made in
      at_refined (λ (l : List ℕ). mate quads l (4 * f + 1) ≡ 4 * quads.next f + 2) (mate₁ quads made.vertices made.before made.net.oriented f (omega arith))

  third_mate : (f : ℕ) → 4 * f < n → mate quads l (4 * f + 2) ≡ 4 * quads.prev f + 1
  third_mate f k =
      let d = later_length l made in
      at_refined (λ (l : List ℕ). mate quads l (4 * f + 2) ≡ 4 * quads.prev f + 1) (mate₂ quads made.vertices made.before made.net.oriented f (omega arith))

  inside_plain : (g : ℕ) → g < n → 0 < g % 4 → g % 4 < 3 → OrdinaryEnds l g
  inside_plain g k a b =
      let d = later_length l made in
      at_refined (λ (l : List ℕ). OrdinaryEnds l g) (quarters (length made.before) (λ (g : ℕ). 0 < g % 4 → g % 4 < 3 → OrdinaryEnds L g)
      (λ h c x y. let z : ⊥ = omega arith in absurd z)
      (λ h c x y. spoke_plain made.vertices made.before made.net h c)
      (λ h c x y. spoke_back made.vertices made.before made.net h c)
      (λ h c x y. let z : ⊥ = omega arith in absurd z) g (omega arith) a b)

  pub family_table : FamilyTable n w
  unfolding quads
  family_table =
      let d = later_length l made in
      let r = made.fours in
      record {
        whole = omega arith;
        facing = λ g k. subst (Facing n g) (sym (mate_now g k)) (later_facing l made g k);
        second = λ f k. mate_now (4 * f + 1) (omega arith) ∙ second_mate f k;
        third = λ f k. mate_now (4 * f + 2) (omega arith) ∙ third_mate f k;
        inside = λ g k a b. let e = number_is g k (inside_plain g k a b) in let f = edge_few t l marks p₀ w₀ at initial ok g k in omega arith;
        shared = λ f k.
            let m = third_mate f k in
            let j : 4 * quads.prev f + 1 < n = omega arith in
            let a = number_is (4 * f + 2) (omega arith) (inside_plain (4 * f + 2) (omega arith) (omega arith) (omega arith)) in
            let b = number_is (4 * quads.prev f + 1) j (inside_plain (4 * quads.prev f + 1) j (omega arith) (omega arith)) in
            let c = edge-mate quads (length marks) l ok.net.oriented (4 * f + 2) (omega arith) (omega arith) in
            a ∙ sym c ∙ ap (edge quads l) m ∙ sym b;
      }

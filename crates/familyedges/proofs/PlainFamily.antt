-- The plain family test gives all that the sixteen steps of a family ask. L are the corners that a round made of l.
use mathlib.Core.Path.{◌≡◌, sym, ap, ◌∙◌, subst}
use mathlib.Core.Logic.{◌⊎◌, inl, inr}
use mathlib.Core.List.{List}
use Prim.Native.Nat.{ℕ, ◌+◌, ◌-◌, ◌*◌, ◌/◌, ◌%◌, ◌≤◌, ◌<◌}
use native.Mathlib.Omega.{arith}
use lib.ListN.{length}
use Rattle.topology.specs.Shape.{quads}
use Rattle.topology.specs.HalfEdge.{from, mate, edge_count}
use Rattle.topology.specs.Manifold.{Manifold}
use Rattle.refinedfaces.specs.Families.{AfterRound}
use Rattle.refinedfaces.specs.Refined.{refined}
use Rattle.refinedfaces.proofs.Corners.{length-refined, quad}
use Rattle.refinedfaces.proofs.Mates as round
use Rattle.schemelaws.specs.Ordinary.{Ordinary}
use Rattle.refinedfaces.proofs.Families.{Halves, older, newer, halves, none_first, inside₁, inside₂}
use Rattle.familylines.specs.Steps.{Line, FirstHalf, LastHalf}
use Rattle.familyedges.specs.PlainFamily.{FamilyTest, PlainFamily}
use Rattle.familyedges.proofs.Lines.{first_line_lem, last_line, spoke_line, back_line}

module _ (v : ℕ) (l : List ℕ) (ok : Manifold quads v l) (fours : length l % 4 ≡ 0) where
  abbrev L : List ℕ
  L = refined quads v l

  n : length L ≡ 4 * length l
  n = length-refined quads v l

  module _ (p h : ℕ) (k : h < length l) (e : h / 4 ≡ p) (m : mate quads l h < length l) where
    both : Halves p (mate quads L (4 * h)) (mate quads L (4 * quads.next h + 3))
    both = subst (λ (i : ℕ). Halves i (mate quads L (4 * h)) (mate quads L (4 * quads.next h + 3))) e (halves v l ok.oriented fours h k)

    first-side : (mate quads L (4 * h) < 16 * p) ⊎ (4 * h < mate quads L (4 * h))
    first-side = go both
      where
        go : Halves p (mate quads L (4 * h)) (mate quads L (4 * quads.next h + 3)) → (mate quads L (4 * h) < 16 * p) ⊎ (4 * h < mate quads L (4 * h))
        go (older a b) = inl a
        go (newer a b) = inr (omega arith)

    last_side : (mate quads L (4 * quads.next h + 3) < 16 * p) ⊎ (4 * quads.next h + 3 < mate quads L (4 * quads.next h + 3))
    unfolding quads
    last_side = go both
      where
        go : Halves p (mate quads L (4 * h)) (mate quads L (4 * quads.next h + 3)) → (mate quads L (4 * quads.next h + 3) < 16 * p) ⊎ (4 * quads.next h + 3 < mate quads L (4 * quads.next h + 3))
        go (older a b) = inl b
        go (newer a b) = inr (omega arith)

    first_half : (g i j : ℕ) → 4 * h ≡ g → 4 * h + 1 ≡ i → 4 * quads.next h ≡ j → mate quads l (quads.prev h) < length l → Ordinary L (from L g) → FirstHalf L (16 * p) g (from L g) (from L i) (from L j)
    first_half g i j eg ei ej mp o =
        let y = round.mate₃ quads v l ok.oriented h k in
        let d = n in
        let c : Ordinary L (from L (4 * h)) = rw eg o in
        rw (sym eg, sym ei, sym ej) (record { lt = omega arith; after = omega arith; side = first-side; before = omega arith; line = λ new. first_line_lem v l ok h k m mp c new })

    last_half : (g c i j : ℕ) → 4 * quads.next h + 3 ≡ g → 4 * h ≡ c → 4 * h + 1 ≡ i → 4 * quads.next h ≡ j → mate quads l (quads.next h) < length l → Ordinary L (from L j)
        → LastHalf L (16 * p) g (from L c) (from L i) (from L j)
    unfolding quads
    last_half g c i j eg ec ei ej mn o =
        let d = n in
        let b = ok.oriented.shape.next_lt h k in
        let z = round.mate₀ quads v l ok.oriented (quads.next h) b mn in
        let x = ok.oriented.shape.next_lt (mate quads l (quads.next h)) mn in
        let q : 4 * quads.next h + 3 - 3 ≡ 4 * quads.next h = omega arith in
        let two : 2 ≤ mate quads L (4 * quads.next h) = omega arith in
        let some : mate quads L (4 * quads.next h) < length L = omega arith in
        let a : Ordinary L (from L (4 * quads.next h)) = rw ej o in
        rw (sym eg, sym ec, sym ei, sym ej) (record {
          lt = omega arith;
          after = omega arith;
          three = omega arith;
          side = last_side;
          next = rw q some;
          two = rw q two;
          line = λ new. rw q (last_line v l ok h k m mn a new);
        })

  -- ---- the family of face p
  module _ (p : ℕ) (b : 4 * p < length l) (test : FamilyTest L (16 * p)) where
    mated : (h g : ℕ) → h < length l → 4 * h ≡ g → mate quads L g < length L → mate quads l h < length l
    mated h g k e m = none_first v l ok.oriented fours h k (subst (λ (x : ℕ). mate quads L x < length L) (sym e) m)

    h₀ : mate quads l (4 * p) < length l
    h₀ = mated (4 * p) (16 * p) b (omega arith) test.mate₀

    h₁ : mate quads l (4 * p + 1) < length l
    h₁ = mated (4 * p + 1) (16 * p + 4) (omega arith) (omega arith) test.mate₁

    h₂ : mate quads l (4 * p + 2) < length l
    h₂ = mated (4 * p + 2) (16 * p + 8) (omega arith) (omega arith) test.mate₂

    h₃ : mate quads l (4 * p + 3) < length l
    h₃ = mated (4 * p + 3) (16 * p + 12) (omega arith) (omega arith) test.mate₃

    at : (i j : ℕ) → i ≡ j → mate quads l i < length l → mate quads l j < length l
    at i j e m = subst (λ (x : ℕ). mate quads l x < length l) e m

    -- the four faces meet in one point
    same_point : (h : ℕ) → h < length l → h / 4 ≡ p → from L (4 * h + 2) ≡ from L (16 * p + 2)
    unfolding quads
    same_point h k e =
        let a : 4 * (4 * p) + 2 ≡ 16 * p + 2 = omega arith in
        let c : h / 4 ≡ 4 * p / 4 = omega arith in
        (quad quads v l h k).from₂ ∙ ap (λ (x : ℕ). v + edge_count quads l + x) c ∙ sym (quad quads v l (4 * p) b).from₂ ∙ ap (from L) a

    spoke : (h g i j : ℕ) → h < length l → h / 4 ≡ p → mate quads l h < length l → 4 * h ≡ g → 4 * h + 1 ≡ i → 4 * quads.next (quads.next h) + 1 ≡ j → i < mate quads L i
        → Line L i (from L (mate quads L g - 1)) (from L i) (from L (16 * p + 2)) (from L j)
    spoke h g i j k e m eg ei ej new = rw (sym eg, sym ei, sym ej, sym (same_point h k e)) (spoke_line v l ok h k m (rw ei new))

    back : (h g a i j : ℕ) → h < length l → h / 4 ≡ p → mate quads l h < length l → 4 * h ≡ g → 4 * h + 1 ≡ a → 4 * quads.next h + 2 ≡ i → 4 * quads.next (quads.next h) + 1 ≡ j → i < mate quads L i
        → Line L i (from L (mate quads L g - 1)) (from L a) (from L (16 * p + 2)) (from L j)
    back h g a i j k e m eg ea ei ej new = rw (sym eg, sym ea, sym ei, sym ej, sym (same_point h k e)) (back_line v l ok h k m (rw ei new))

    plain_family : PlainFamily L (16 * p)
    unfolding quads
    plain_family =
        let m₀ = inside₁ v l ok.oriented fours (4 * p) (16 * p + 1) (16 * p + 6) (omega arith) (omega arith) (omega arith) in
        let m₁ = inside₁ v l ok.oriented fours (4 * p + 1) (16 * p + 5) (16 * p + 10) (omega arith) (omega arith) (omega arith) in
        let m₂ = inside₁ v l ok.oriented fours (4 * p + 2) (16 * p + 9) (16 * p + 14) (omega arith) (omega arith) (omega arith) in
        let m₃ = inside₂ v l ok.oriented fours (4 * p) (16 * p + 2) (16 * p + 13) (omega arith) (omega arith) (omega arith) in
        record {
          first₀ = first_half p (4 * p) (omega arith) (omega arith) h₀ (16 * p) (16 * p + 1) (16 * p + 4) (omega arith) (omega arith) (omega arith) (at (4 * p + 3) (quads.prev (4 * p)) (omega arith) h₃) test.corner₀;
          first₁ = first_half p (4 * p + 1) (omega arith) (omega arith) h₁ (16 * p + 4) (16 * p + 5) (16 * p + 8) (omega arith) (omega arith) (omega arith) (at (4 * p) (quads.prev (4 * p + 1)) (omega arith) h₀) test.corner₁;
          first₂ = first_half p (4 * p + 2) (omega arith) (omega arith) h₂ (16 * p + 8) (16 * p + 9) (16 * p + 12) (omega arith) (omega arith) (omega arith) (at (4 * p + 1) (quads.prev (4 * p + 2)) (omega arith) h₁) test.corner₂;
          first₃ = first_half p (4 * p + 3) (omega arith) (omega arith) h₃ (16 * p + 12) (16 * p + 13) (16 * p) (omega arith) (omega arith) (omega arith) (at (4 * p + 2) (quads.prev (4 * p + 3)) (omega arith) h₂) test.corner₃;
          last₀ = last_half p (4 * p) (omega arith) (omega arith) h₀ (16 * p + 7) (16 * p) (16 * p + 1) (16 * p + 4) (omega arith) (omega arith) (omega arith) (omega arith) (at (4 * p + 1) (quads.next (4 * p)) (omega arith) h₁) test.corner₁;
          last₁ = last_half p (4 * p + 1) (omega arith) (omega arith) h₁ (16 * p + 11) (16 * p + 4) (16 * p + 5) (16 * p + 8) (omega arith) (omega arith) (omega arith) (omega arith) (at (4 * p + 2) (quads.next (4 * p + 1)) (omega arith) h₂) test.corner₂;
          last₂ = last_half p (4 * p + 2) (omega arith) (omega arith) h₂ (16 * p + 15) (16 * p + 8) (16 * p + 9) (16 * p + 12) (omega arith) (omega arith) (omega arith) (omega arith) (at (4 * p + 3) (quads.next (4 * p + 2)) (omega arith) h₃) test.corner₃;
          last₃ = last_half p (4 * p + 3) (omega arith) (omega arith) h₃ (16 * p + 3) (16 * p + 12) (16 * p + 13) (16 * p) (omega arith) (omega arith) (omega arith) (omega arith) (at (4 * p) (quads.next (4 * p + 3)) (omega arith) h₀) test.corner₀;
          spoke₀ = spoke (4 * p) (16 * p) (16 * p + 1) (16 * p + 9) (omega arith) (omega arith) h₀ (omega arith) (omega arith) (omega arith) (let m = m₀ in omega arith);
          spoke₁ = spoke (4 * p + 1) (16 * p + 4) (16 * p + 5) (16 * p + 13) (omega arith) (omega arith) h₁ (omega arith) (omega arith) (omega arith) (let m = m₁ in omega arith);
          spoke₂ = spoke (4 * p + 2) (16 * p + 8) (16 * p + 9) (16 * p + 1) (omega arith) (omega arith) h₂ (omega arith) (omega arith) (omega arith) (let m = m₂ in omega arith);
          spoke₃ = back (4 * p + 3) (16 * p + 12) (16 * p + 13) (16 * p + 2) (16 * p + 5) (omega arith) (omega arith) h₃ (omega arith) (omega arith) (omega arith) (omega arith) (let m = m₃ in omega arith);
          back₀ = inside₂ v l ok.oriented fours (4 * p + 1) (16 * p + 6) (16 * p + 1) (omega arith) (omega arith) (omega arith);
          back₁ = inside₂ v l ok.oriented fours (4 * p + 2) (16 * p + 10) (16 * p + 5) (omega arith) (omega arith) (omega arith);
          back₂ = inside₂ v l ok.oriented fours (4 * p + 3) (16 * p + 14) (16 * p + 9) (omega arith) (omega arith) (omega arith);
          back₃ = inside₁ v l ok.oriented fours (4 * p + 3) (16 * p + 13) (16 * p + 2) (omega arith) (omega arith) (omega arith);
        }

-- as both tests tell
pub family_tested : (l : List ℕ) (h : ℕ) → ((i : ℕ) → i < 4 → mate quads l (h + 4 * i) < length l) → ((i : ℕ) → i < 4 → Ordinary l (from l (h + 4 * i))) → FamilyTest l h
family_tested l h m o =
    let e : h + 4 * 0 ≡ h = omega arith in
    let m₀ : mate quads l h < length l = rw e at (m 0 (omega arith)) in
    let o₀ : Ordinary l (from l h) = rw e at (o 0 (omega arith)) in
    record {
      mate₀ = m₀;
      mate₁ = m 1 (omega arith);
      mate₂ = m 2 (omega arith);
      mate₃ = m 3 (omega arith);
      corner₀ = o₀;
      corner₁ = o 1 (omega arith);
      corner₂ = o 2 (omega arith);
      corner₃ = o 3 (omega arith);
    }

pub mates_some : (l : List ℕ) (h : ℕ) → PlainFamily l h → ((2 ≤ mate quads l h) × (mate quads l h < length l)) × ((2 ≤ mate quads l (h + 4)) × (mate quads l (h + 4) < length l))
    × ((2 ≤ mate quads l (h + 8)) × (mate quads l (h + 8) < length l)) × ((2 ≤ mate quads l (h + 12)) × (mate quads l (h + 12) < length l))
mates_some l h x =
    let a : h + 3 - 3 ≡ h = omega arith in
    let b : h + 7 - 3 ≡ h + 4 = omega arith in
    let c : h + 11 - 3 ≡ h + 8 = omega arith in
    let d : h + 15 - 3 ≡ h + 12 = omega arith in
    (at (h + 3 - 3) h a (x.last₃.two, x.last₃.next), at (h + 7 - 3) (h + 4) b (x.last₀.two, x.last₀.next), at (h + 11 - 3) (h + 8) c (x.last₁.two, x.last₁.next), at (h + 15 - 3) (h + 12) d (x.last₂.two, x.last₂.next))
  where
    at : (i j : ℕ) → i ≡ j → (2 ≤ mate quads l i) × (mate quads l i < length l) → (2 ≤ mate quads l j) × (mate quads l j < length l)
    at i j e y = subst (λ (x : ℕ). (2 ≤ mate quads l x) × (mate quads l x < length l)) e y

-- ---- in a net that a round made the test is enough
pub plain_later : (l : List ℕ) → AfterRound l → (h : ℕ) → h % 16 ≡ 0 → h < length l → FamilyTest l h → PlainFamily l h
plain_later l m h z b t = subst (λ (l : List ℕ). h < length l → FamilyTest l h → PlainFamily l h) (sym m.is) go b t
  where
    go : h < length (refined quads m.vertices m.before) → FamilyTest (refined quads m.vertices m.before) h → PlainFamily (refined quads m.vertices m.before) h
    go b t =
        let n = length-refined quads m.vertices m.before in
        let f = m.fours in
        let e : 16 * (h / 16) ≡ h = omega arith in
        subst (λ (h : ℕ). FamilyTest (refined quads m.vertices m.before) h → PlainFamily (refined quads m.vertices m.before) h) e
        (plain_family m.vertices m.before m.net m.fours (h / 16) (omega arith)) t

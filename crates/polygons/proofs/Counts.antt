-- Side counts that pass the test; the half-edges where a face begins. Assumes nothing.
use mathlib.Core.Path.{◌≡◌, refl, sym, ap, ◌∙◌, subst}
use mathlib.Core.Bool.{Bool, true, false, not}
use mathlib.Core.List.{List, [], ◌∷◌}
use Prim.Native.Nat.{ℕ, zero, suc, ◌+◌, ◌*◌, ◌≤◌, ◌<◌}
use native.Mathlib.Nat.{not-suc-le-zero, le_of_suc-le-suc}
use native.Mathlib.Decide.{ℕ_discrete}
use native.Mathlib.Numerals.{add-one}
use native.Mathlib.Omega.{arith}
use lib.ListN.{length, get_or, take}
use lib.Seq.{take_all}
use lib.Dec.{eqb, ltb}
use borrow.Author.Tests.{ltb-false, le-ltb, eqb-true, eq-eqb, ne_eqb, not-false}
use Rattle.search.specs.Search.{first, any, iterate}
use Rattle.search.proofs.Tests.{or_left, or_right, or_on}
use Rattle.search.proofs.First.{any_off, any_on, Passed, passed_all}
use Rattle.topology.specs.Shape.{Shape, Lawful, quads}
use Rattle.topology.proofs.Shape.{quads_lawful}
use Rattle.polygons.specs.Polygons.{side_after, side_before, face_then, no_face, polygons, shape_of, total, bad_count, bad_sides, Sided}
use Rattle.polygons.proofs.Faces.{side_after_lem, in_first, in_later, then_lawful, no_face_lawful}

-- what the test tells
pub record Count (c : ℕ) : Type 0 where
  pub three : 3 ≤ c
  pub eight : c ≤ 8

pub record Counts (s : List ℕ) (n : ℕ) : Type 0 where
  pub each : (f : ℕ) → f < length s → Count (get_or s f 0)
  pub sum : total s ≡ n

-- whether the count of face f is bad
abbrev pub bad_at : List ℕ → ℕ → Bool
bad_at s f = bad_count (get_or s f 0)

count_if : (c : ℕ) → bad_count c ≡ false → Count c
unfolding bad_count
count_if c e = record { three = ltb-false c 3 (or_left (ltb c 3) (ltb 8 c) e); eight = ltb-false 8 c (or_right (ltb c 3) (ltb 8 c) e) }

pub counts_if : (s : List ℕ) (n : ℕ) → bad_sides s n ≡ false → Counts s n
unfolding bad_sides
counts_if s n e =
    let a = or_left (any (bad_at s) (length s)) (not (eqb (total s) n)) e in
    let b = or_right (any (bad_at s) (length s)) (not (eqb (total s) n)) e in
    record {
      each = λ f k. count_if (get_or s f 0) (any_off (bad_at s) (length s) f a k);
      sum = eqb-true (total s) n (not-false (eqb (total s) n) b);
    }

-- ---- the shape is lawful

total_lawful : (s : List ℕ) → ((f : ℕ) → f < length s → Count (get_or s f 0)) → Lawful (polygons s) (total s)
unfolding polygons total
total_lawful [] e = no_face_lawful
total_lawful (c ∷ s) e = let b = e 0 (omega arith) in then_lawful c (polygons s) (total s) b.three b.eight (total_lawful s (λ f k. e (suc f) (omega arith)))

pub polygons_lawful : (s : List ℕ) (n : ℕ) → bad_sides s n ≡ false → Lawful (polygons s) n
polygons_lawful s n e = let k = counts_if s n e in subst (Lawful (polygons s)) k.sum (total_lawful s k.each)

pub shape_lawful : (s : List ℕ) (n : ℕ) → Sided s n → Lawful (shape_of s) n
unfolding shape_of
shape_lawful [] n k = quads_lawful n (k.fours refl)
shape_lawful (c ∷ s) n k = polygons_lawful (c ∷ s) n (k.counts (omega arith))

pub shape_none : (s : List ℕ) → length s ≡ 0 → shape_of s ≡ quads
unfolding shape_of
shape_none [] e = refl
shape_none (c ∷ s) e = let z : ⊥ = omega arith in absurd z

pub shape_some : (s : List ℕ) → 0 < length s → shape_of s ≡ polygons s
unfolding shape_of
shape_some [] k = absurd (not-suc-le-zero k)
shape_some (c ∷ s) k = refl

pub faces_polygons : (s : List ℕ) (n : ℕ) → (polygons s).faces n ≡ length s
unfolding polygons no_face face_then
faces_polygons [] n = refl
faces_polygons (c ∷ s) n = ap suc (faces_polygons s _)

-- ---- where face f begins

total-suc : (s : List ℕ) (f : ℕ) → f < length s → total (take (suc f) s) ≡ total (take f s) + get_or s f 0
unfolding total
total-suc [] f k = absurd (not-suc-le-zero k)
total-suc (c ∷ s) zero k = omega arith
total-suc (c ∷ s) (suc f) k = omega (arith, total-suc s f (le_of_suc-le-suc k))

pub total_next : (s : List ℕ) (f : ℕ) → f < length s → total (take (f + 1) s) ≡ total (take f s) + get_or s f 0
total_next s f k = rw (add-one f) (total-suc s f k)

total-le : (s : List ℕ) (f : ℕ) → total (take f s) ≤ total s
unfolding total
total-le [] zero = omega arith
total-le [] (suc f) = omega arith
total-le (c ∷ s) zero = omega arith
total-le (c ∷ s) (suc f) = omega (arith, total-le s f)

pub total_all : (s : List ℕ) (f : ℕ) → length s ≤ f → total (take f s) ≡ total s
total_all s f k = ap total (take_all f s k)

total_ge : (s : List ℕ) (f : ℕ) → ((i : ℕ) → i < length s → Count (get_or s i 0)) → f ≤ length s → 3 * f ≤ total (take f s)
total_ge s zero e k = omega arith
total_ge s (suc f) e k = omega (arith, total_ge s f e (omega arith), total-suc s f k, (e f k).three)

-- at least three corners to a face
pub faces_le : (s : List ℕ) (n : ℕ) → bad_sides s n ≡ false → 3 * length s ≤ n
faces_le s n e = let t = counts_if s n e in omega (arith, total_ge s (length s) t.each (omega arith), total-le s (length s), t.sum)

-- face f of a shape has c sides, from half-edge a on
pub record FaceAt (S : Shape) (a c f : ℕ) : Type 0 where
  pub next : (j : ℕ) → j < c → S.next (a + j) ≡ a + side_after c j
  pub prev : (j : ℕ) → j < c → S.prev (a + j) ≡ a + side_before c j
  pub face : (j : ℕ) → j < c → S.face (a + j) ≡ f
  pub sides : (j : ℕ) → j < c → S.sides (a + j) ≡ c

face_at : (s : List ℕ) (f : ℕ) → f < length s → FaceAt (polygons s) (total (take f s)) (get_or s f 0) f
unfolding polygons total
face_at [] f k = absurd (not-suc-le-zero k)
face_at (c ∷ s) zero k = record {
  next = λ j i. ap (face_then c (polygons s)).next (nought j) ∙ (in_first c (polygons s) j i).next ∙ sym (nought (side_after c j));
  prev = λ j i. ap (face_then c (polygons s)).prev (nought j) ∙ (in_first c (polygons s) j i).prev ∙ sym (nought (side_before c j));
  face = λ j i. ap (face_then c (polygons s)).face (nought j) ∙ (in_first c (polygons s) j i).face;
  sides = λ j i. ap (face_then c (polygons s)).sides (nought j) ∙ (in_first c (polygons s) j i).sides;
}
  where
    nought : (j : ℕ) → 0 + j ≡ j
    nought j = omega arith
face_at (c ∷ s) (suc f) k = later (face_at s f (le_of_suc-le-suc k))
  where
    a : ℕ
    a = total (take f s)

    add : (j : ℕ) → c + a + j ≡ c + (a + j)
    add j = omega arith

    later : FaceAt (polygons s) (total (take f s)) (get_or s f 0) f → FaceAt (face_then c (polygons s)) (c + total (take f s)) (get_or s f 0) (suc f)
    later r = record {
      next = λ j i. ap (face_then c (polygons s)).next (add j) ∙ (in_later c (polygons s) (a + j)).next ∙ ap (λ (x : ℕ). c + x) (r.next j i) ∙ sym (add (side_after (get_or s f 0) j));
      prev = λ j i. ap (face_then c (polygons s)).prev (add j) ∙ (in_later c (polygons s) (a + j)).prev ∙ ap (λ (x : ℕ). c + x) (r.prev j i) ∙ sym (add (side_before (get_or s f 0) j));
      face = λ j i. ap (face_then c (polygons s)).face (add j) ∙ (in_later c (polygons s) (a + j)).face ∙ ap suc (r.face j i);
      sides = λ j i. ap (face_then c (polygons s)).sides (add j) ∙ (in_later c (polygons s) (a + j)).sides ∙ r.sides j i;
    }

-- k sides on from its first
pub nexts_at : {S : Shape} {a c f : ℕ} → FaceAt S a c f → (k : ℕ) → k < c → iterate S.next k a ≡ a + k
unfolding iterate
nexts_at {S} {a} r zero k = omega arith
nexts_at {S} {a} {c} r (suc k) i =
    ap S.next (nexts_at r k (omega arith)) ∙ r.next k (omega arith) ∙ side_after_lem c k (λ x. a + x ≡ a + suc k) (λ b. omega arith) (λ b. let z : ⊥ = omega arith in absurd z)

-- a face of side counts that pass the test, and where it begins
pub record FaceFits (s : List ℕ) (n f : ℕ) : Type 0 where
  pub count : Count (get_or s f 0)
  pub number : 3 * f ≤ total (take f s)
  pub ends : total (take f s) + get_or s f 0 ≤ n
  pub at : FaceAt (polygons s) (total (take f s)) (get_or s f 0) f

pub face_fits : (s : List ℕ) (n f : ℕ) → bad_sides s n ≡ false → f < length s → FaceFits s n f
face_fits s n f e k =
    let t = counts_if s n e in
    record { count = t.each f k; number = total_ge s f t.each (omega arith); ends = omega (arith, total-suc s f k, total-le s (suc f), t.sum); at = face_at s f k }

-- ---- the loop that tests the counts: it has passed those below f, and m corners are left

pub bad_count_lem : (s : List ℕ) (n f : ℕ) → f < length s → bad_count (get_or s f 0) ≡ true → true ≡ bad_sides s n
unfolding bad_sides
bad_count_lem s n f k t = let a = any_on (bad_at s) (length s) f k t in rw a

pub bad_more : (s : List ℕ) (n f m : ℕ) → f < length s → total (take f s) + m ≡ n → m < get_or s f 0 → true ≡ bad_sides s n
unfolding bad_sides
bad_more s n f m k e h =
    let a = ne_eqb (total s) n (λ i. omega (arith, total-suc s f k, total-le s (suc f))) in
    sym (or_on (any (bad_at s) (length s)) (not (eqb (total s) n)) (ap not a))

pub bad_end : (s : List ℕ) (n f m : ℕ) → length s ≤ f → Passed (bad_at s) f → total (take f s) + m ≡ n → not (eqb m 0) ≡ bad_sides s n
unfolding bad_sides any
bad_end s n f m k p e =
    let a = le-ltb (first (bad_at s) (length s)) (length s) (omega (arith, passed_all (bad_at s) (length s) f p k)) in
    let t = total_all s f k in
    rw a (go (ℕ_discrete m 0) t)
  where
    go : Dec (m ≡ 0) → total (take f s) ≡ total s → not (eqb m 0) ≡ not (eqb (total s) n)
    go (yes z) t = let x = eq-eqb m 0 z in let y = eq-eqb (total s) n (omega arith) in rw (x, y)
    go (no z) t = let x = ne_eqb m 0 z in let y = ne_eqb (total s) n (λ i. z (omega arith)) in rw (x, y)

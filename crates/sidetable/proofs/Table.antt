-- The table of a shape, written half-edge by half-edge. Assumes nothing.
use mathlib.Core.Path.{◌≡◌, refl, sym, ap, ◌∙◌, subst}
use mathlib.Core.List.{List, [], ◌∷◌}
use Prim.Native.Nat.{ℕ, ◌+◌, ◌*◌, ◌≤◌, ◌<◌}
use native.Mathlib.Decide.{ℕ_discrete}
use native.Mathlib.Omega.{arith}
use lib.ListN.{length, get_or, set, take, drop, length-set}
use lib.Seq.{get_or-set_same, get_or-set_other}
use Rattle.topology.specs.Shape.{Shape}
use Rattle.polygons.specs.Polygons.{side_after, side_before, polygons, shape_of, total}
use Rattle.polygons.proofs.Counts.{counts_if, total_all, FaceAt, FaceFits, face_fits}
use Rattle.tables.specs.Tables.{SameOutside}
use Rattle.tables.proofs.Laws.{outside_set, same_rest}
use Rattle.sidetable.specs.Table.{side_written, ShapeTable, ShapeRoom, Shaped}

pub table_none : (S : Shape) (n : ℕ) (w : List ℕ) → ShapeTable S n w 0
table_none S n w = record { next = λ h k. let z : ⊥ = omega arith in absurd z; prev = λ h k. let z : ⊥ = omega arith in absurd z; face = λ h k. let z : ⊥ = omega arith in absurd z }

-- a store at i, read at k
other : (w : List ℕ) (i k x : ℕ) → (k ≡ i → ⊥) → get_or (set w i x) k 0 ≡ get_or w k 0
other w i k x d = get_or-set_other w i k x 0 d

table_more : (S : Shape) (n h x y z : ℕ) (w : List ℕ) → h < n → 7 * n ≤ length w → x ≡ S.next h → y ≡ S.prev h → z ≡ S.face h → ShapeTable S n w h → ShapeTable S n (side_written n h x y z w) (h + 1)
table_more S n h x y z w k r p q s t = record { next = λ g i. next g i (ℕ_discrete g h); prev = λ g i. prev g i (ℕ_discrete g h); face = λ g i. face g i (ℕ_discrete g h) }
  where
    w₁ : List ℕ
    w₁ = set w (4 * n + h) x

    w₂ : List ℕ
    w₂ = set w₁ (5 * n + h) y

    l₁ : length w₁ ≡ length w
    l₁ = length-set w (4 * n + h) x

    l₂ : length w₂ ≡ length w₁
    l₂ = length-set w₁ (5 * n + h) y

    next : (g : ℕ) → g < h + 1 → Dec (g ≡ h) → get_or (side_written n h x y z w) (4 * n + g) 0 ≡ S.next g
    next g i (yes e) = rw e (other w₂ (6 * n + h) (4 * n + h) z (omega arith) ∙ other w₁ (5 * n + h) (4 * n + h) y (omega arith) ∙ get_or-set_same w (4 * n + h) x 0 (omega arith) ∙ p)
    next g i (no e) = other w₂ (6 * n + h) (4 * n + g) z (omega arith) ∙ other w₁ (5 * n + h) (4 * n + g) y (omega arith) ∙ other w (4 * n + h) (4 * n + g) x (omega arith) ∙ t.next g (omega arith)

    prev : (g : ℕ) → g < h + 1 → Dec (g ≡ h) → get_or (side_written n h x y z w) (5 * n + g) 0 ≡ S.prev g
    prev g i (yes e) = rw e (other w₂ (6 * n + h) (5 * n + h) z (omega arith) ∙ get_or-set_same w₁ (5 * n + h) y 0 (omega (arith, l₁)) ∙ q)
    prev g i (no e) = other w₂ (6 * n + h) (5 * n + g) z (omega arith) ∙ other w₁ (5 * n + h) (5 * n + g) y (omega arith) ∙ other w (4 * n + h) (5 * n + g) x (omega arith) ∙ t.prev g (omega arith)

    face : (g : ℕ) → g < h + 1 → Dec (g ≡ h) → get_or (side_written n h x y z w) (6 * n + g) 0 ≡ S.face g
    face g i (yes e) = rw e (get_or-set_same w₂ (6 * n + h) z 0 (omega (arith, l₁, l₂)) ∙ s)
    face g i (no e) = other w₂ (6 * n + h) (6 * n + g) z (omega arith) ∙ other w₁ (5 * n + h) (6 * n + g) y (omega arith) ∙ other w (4 * n + h) (6 * n + g) x (omega arith) ∙ t.face g (omega arith)

-- a face of few sides, which begins and ends among the half-edges
module _ (s : List ℕ) (n : ℕ) (w : List ℕ) (r : ShapeRoom s n w) (f : ℕ) (k : f < length s) where
  pub face_in_room : FaceFits s n f
  face_in_room = face_fits s n f (r.sided.counts (omega arith)) k

  pub face_sides : get_or s f 0 ≤ 8
  face_sides = face_in_room.count.eight

  pub face_number : 3 * f ≤ total (take f s)
  face_number = face_in_room.number

  pub face_ends : total (take f s) + get_or s f 0 ≤ n
  face_ends = face_in_room.ends

-- side j of face f, which begins at a
pub face_more : (s : List ℕ) (n f a j x y : ℕ) (w w' : List ℕ) → FaceFits s n f → a ≡ total (take f s) → j < get_or s f 0 → 7 * n ≤ length w → x ≡ side_after (get_or s f 0) j → y ≡ side_before (get_or s f 0) j
    → w' ≡ side_written n (a + j) (a + x) (a + y) f w → ShapeTable (polygons s) n w (a + j) → ShapeTable (polygons s) n w' (a + (j + 1))
face_more s n f a j x y w w' k b i r p q e t =
    let d : a + j + 1 ≡ a + (j + 1) = omega arith in
    let o = subst (λ b. FaceAt (polygons s) b (get_or s f 0) f) (sym b) k.at in
    subst (λ v. ShapeTable (polygons s) n v (a + (j + 1))) (sym e) (subst (ShapeTable (polygons s) n (side_written n (a + j) (a + x) (a + y) f w)) d
    (table_more (polygons s) n (a + j) (a + x) (a + y) f w (omega (arith, k.ends)) r (ap (λ (z : ℕ). a + z) p ∙ sym (o.next j i)) (ap (λ (z : ℕ). a + z) q ∙ sym (o.prev j i)) (sym (o.face j i)) t))

pub room-length : (s : List ℕ) (n : ℕ) (w w' : List ℕ) → length w' ≡ length w → ShapeRoom s n w → ShapeRoom s n w'
room-length s n w w' e r = record { few = r.few; sided = r.sided; room = λ k. omega (arith, r.room k) }

-- all faces are written
pub shaped_all : (s : List ℕ) (n f a : ℕ) (w w' : List ℕ) → ShapeRoom s n w → length w' ≡ length w → length s ≤ f → a ≡ total (take f s) → ShapeTable (polygons s) n w' a → Shaped s n w'
shaped_all s n f a w w' r l k e t = record {
  space = room-length s n w w' l r;
  table = λ p. let d : a ≡ n = e ∙ total_all s f k ∙ (counts_if s n (r.sided.counts p)).sum in subst (ShapeTable (polygons s) n w') d t;
}

-- ---- all else stays

pub outside_written : (n h x y z : ℕ) (w w₁ w₂ : List ℕ) → w₂ ≡ side_written n h x y z w₁ → h < n → SameOutside (4 * n) (7 * n) w w₁ → SameOutside (4 * n) (7 * n) w w₂
outside_written n h x y z w w₁ w₂ e k s =
    subst (SameOutside (4 * n) (7 * n) w) (sym e)
    (outside_set _ _ _ _ _ _ (omega arith) (omega arith) (outside_set _ _ _ _ _ _ (omega arith) (omega arith) (outside_set _ _ _ _ _ _ (omega arith) (omega arith) s)))

-- what changes only the numbers below 4n keeps the shape
pub shaped_kept : (s : List ℕ) (n : ℕ) (w w' : List ℕ) → length w' ≡ length w → drop (4 * n) w' ≡ drop (4 * n) w → Shaped s n w → Shaped s n w'
shaped_kept s n w w' l e t =
    let at : (i : ℕ) → 4 * n ≤ i → get_or w' i 0 ≡ get_or w i 0 = same_rest (4 * n) w w' e in
    record {
      space = room-length s n w w' l t.space;
      table = λ p. let r = t.table p in record {
        next = λ h k. at (4 * n + h) (omega arith) ∙ r.next h k;
        prev = λ h k. at (5 * n + h) (omega arith) ∙ r.prev h k;
        face = λ h k. at (6 * n + h) (omega arith) ∙ r.face h k;
      };
    }

-- ---- reading from the table, where there are side counts

pub record Held (s : List ℕ) (n : ℕ) (w : List ℕ) (h : ℕ) : Type 0 where
  pub next : get_or w (4 * n + h) 0 ≡ (shape_of s).next h
  pub prev : get_or w (5 * n + h) 0 ≡ (shape_of s).prev h
  pub face : get_or w (6 * n + h) 0 ≡ (shape_of s).face h

pub held : (s : List ℕ) (n : ℕ) (w : List ℕ) (h : ℕ) → Shaped s n w → h < n → 0 < length s → Held s n w h
unfolding shape_of
held [] n w h t k p = let z : ⊥ = omega arith in absurd z
held (c ∷ s) n w h t k p = let r = t.table p in record { next = r.next h k; prev = r.prev h k; face = r.face h k }

-- with side counts or without
pub either_way : (s : List ℕ) (x y : ℕ) → (length s ≡ 0 → x ≡ y) → (0 < length s → x ≡ y) → x ≡ y
either_way [] x y f g = f refl
either_way (c ∷ s) x y f g = g (omega arith)

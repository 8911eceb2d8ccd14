-- The loop over the half-edges writes the faces of the split, four numbers a turn. Assumes nothing.
use mathlib.Core.Path.{◌≡◌, refl, sym, ap, ap₂, ◌∙◌}
use mathlib.Core.List.{List}
use Prim.Native.Nat.{ℕ, ◌+◌, ◌*◌, ◌/◌, ◌%◌, ◌≤◌, ◌<◌}
use native.Mathlib.Decide.{dec_lt}
use native.Mathlib.Omega.{arith}
use lib.ListN.{length, get_or, set, length-set}
use lib.Seq.{get_or-set_same, get_or-set_other}
use Rattle.bounds.specs.Bounds.{max_half_edges}
use Rattle.search.proofs.Quarters.{below_four}
use Rattle.lists.specs.Tabulate.{tabulate}
use Rattle.lists.proofs.Tabulate.{length-tabulate, get_or-tabulate}
use Rattle.lists.proofs.Parts.{joined}
use Rattle.topology.specs.Shape.{Shape, Lawful}
use Rattle.topology.specs.HalfEdge.{from, edge}
use Rattle.topology.proofs.Mates.{edges_le}
use Rattle.polygons.specs.Polygons.{shape_of}
use Rattle.polygons.proofs.Counts.{shape_lawful, shape_some, faces_polygons, faces_le}
use Rattle.refinedfaces.specs.Refined.{corner, refined}
use Rattle.tables.specs.Tables.{filled, put_four}
use Rattle.tables.proofs.Written.{length_four}
use Rattle.edgenumbers.proofs.Net.{edge-le}
use Rattle.splitfaces.specs.Faces.{NumberedFaces}

-- ---- the numbers of one face are small
module _ (s l w : List ℕ) (v e : ℕ) (out : List ℕ) (ok : NumberedFaces s l w v e out) where
  lawful : Lawful (shape_of s) (length l)
  lawful = shape_lawful s (length l) ok.shaped.space.sided

  few : length l ≤ max_half_edges
  few = ok.shaped.space.few

  edges_few : e ≤ length l
  edges_few = let a = ok.counted in let b = edges_le (shape_of s) l in omega arith

  prev_lt : (h : ℕ) → h < length l → (shape_of s).prev h < length l
  prev_lt h k = lawful.prev_lt h k

  number_le : (h : ℕ) → h < length l → get_or w (length l + h) 0 ≤ length l
  number_le h k = let a = ok.numbered.numbers h k in let b = edge-le (shape_of s) l h in omega arith

  face_le : (h : ℕ) → h < length l → (shape_of s).face h ≤ length l
  face_le h k =
      let a = lawful.face_lt h k in
      let b = ap (λ (T : Shape). T.faces (length l)) (shape_some s ok.some) ∙ faces_polygons s (length l) in
      let c = faces_le s (length l) (ok.shaped.space.sided.counts ok.some) in
      omega arith

  -- what stands in the tables at h, where g is the half-edge before it and f its face
  pub record Known (h g f : ℕ) : Type 0 where
    pub few : length l ≤ max_half_edges
    pub vertices : v ≤ length l
    pub edges : e ≤ length l
    pub face : f ≤ length l
    pub prev : g < length l
    pub side : get_or w (length l + h) 0 ≤ length l
    pub before : get_or w (length l + g) 0 ≤ length l
    pub room : 2 * length l ≤ length w

  pub known : (h g f : ℕ) → h < length l → g ≡ (shape_of s).prev h → f ≡ (shape_of s).face h → Known h g f
  known h g f k p q =
      let a = prev_lt h k in
      record {
        few = few;
        vertices = ok.vertices;
        edges = edges_few;
        face = rw q (face_le h k);
        prev = omega arith;
        side = number_le h k;
        before = number_le g (omega arith);
        room = ok.behind;
      }

  -- so the four numbers are the corners of the face at h
  pub corners_are : (h g f : ℕ) → h < length l → g ≡ (shape_of s).prev h → f ≡ (shape_of s).face h → (u u' : List ℕ)
      → u' ≡ put_four u (4 * h) (get_or l h 0) (v + get_or w (length l + h) 0) (v + e + f) (v + get_or w (length l + g) 0)
      → u' ≡ put_four u (4 * h) (corner (shape_of s) v l h 0) (corner (shape_of s) v l h 1) (corner (shape_of s) v l h 2) (corner (shape_of s) v l h 3)
  unfolding corner from
  corners_are h g f k p q u u' x =
      let a = prev_lt h k in
      let b = ap (λ (j : ℕ). v + j) (ok.numbered.numbers h k) in
      let c = ap₂ (λ (i j : ℕ). v + i + j) ok.counted q in
      let d = ap (λ (j : ℕ). v + get_or w (length l + j) 0) p ∙ ap (λ (j : ℕ). v + j) (ok.numbered.numbers ((shape_of s).prev h) a) in
      x ∙ ap (λ (j : ℕ). put_four u (4 * h) (get_or l h 0) j (v + e + f) (v + get_or w (length l + g) 0)) b
      ∙ ap₂ (λ (i j : ℕ). put_four u (4 * h) (get_or l h 0) (v + edge (shape_of s) l h) i j) c d

-- ---- four numbers from i on
module _ (w : List ℕ) (i a b c d : ℕ) where
  abbrev w₃ : List ℕ
  w₃ = set w (i + 3) d

  abbrev w₂ : List ℕ
  w₂ = set w₃ (i + 2) c

  abbrev w₁ : List ℕ
  w₁ = set w₂ (i + 1) b

  four_other : (k : ℕ) → ((j : ℕ) → j < 4 → k ≡ i + j → ⊥) → get_or (put_four w i a b c d) k 0 ≡ get_or w k 0
  unfolding put_four
  four_other k f =
      let n₀ : k ≡ i → ⊥ = λ e. f 0 (omega arith) (omega arith) in
      get_or-set_other w₁ i k a 0 n₀ ∙ get_or-set_other w₂ (i + 1) k b 0 (f 1 (omega arith)) ∙ get_or-set_other w₃ (i + 2) k c 0 (f 2 (omega arith)) ∙ get_or-set_other w (i + 3) k d 0 (f 3 (omega arith))

  four_at : i + 4 ≤ length w → (F : ℕ → ℕ) → a ≡ F 0 → b ≡ F 1 → c ≡ F 2 → d ≡ F 3 → (j : ℕ) → j < 4 → get_or (put_four w i a b c d) (i + j) 0 ≡ F j
  unfolding put_four
  four_at r F ea eb ec ed =
      let l₃ : length w₃ ≡ length w = length-set w (i + 3) d in
      let l₂ : length w₂ ≡ length w₃ = length-set w₃ (i + 2) c in
      let l₁ : length w₁ ≡ length w₂ = length-set w₂ (i + 1) b in
      let z : i + 0 ≡ i = omega arith in
      below_four (λ j. get_or (set w₁ i a) (i + j) 0 ≡ F j)
      (ap (λ (k : ℕ). get_or (set w₁ i a) k 0) z ∙ get_or-set_same w₁ i a 0 (omega arith) ∙ ea)
      (get_or-set_other w₁ i (i + 1) a 0 (omega arith) ∙ get_or-set_same w₂ (i + 1) b 0 (omega arith) ∙ eb)
      (get_or-set_other w₁ i (i + 2) a 0 (omega arith) ∙ get_or-set_other w₂ (i + 1) (i + 2) b 0 (omega arith) ∙ get_or-set_same w₃ (i + 2) c 0 (omega arith) ∙ ec)
      (get_or-set_other w₁ i (i + 3) a 0 (omega arith) ∙ get_or-set_other w₂ (i + 1) (i + 3) b 0 (omega arith) ∙ get_or-set_other w₃ (i + 2) (i + 3) c 0 (omega arith) ∙ get_or-set_same w (i + 3) d 0 (omega arith) ∙ ed)

-- ---- the loop: of the faces of the split those below h are written over the front of o
pub record Splitting (S : Shape) (v : ℕ) (l o u : List ℕ) (h : ℕ) : Type 0 where
  pub kept : length u ≡ length o
  pub done : (k : ℕ) → k < 4 * h → get_or u k 0 ≡ corner S v l (k / 4) (k % 4)
  pub rest : (k : ℕ) → 4 * h ≤ k → get_or u k 0 ≡ get_or o k 0

module _ (S : Shape) (v : ℕ) (l o : List ℕ) where
  pub splitting_next : (u u' : List ℕ) (h : ℕ) → h < length l → 4 * length l ≤ length o → Splitting S v l o u h
      → u' ≡ put_four u (4 * h) (corner S v l h 0) (corner S v l h 1) (corner S v l h 2) (corner S v l h 3) → Splitting S v l o u' (h + 1)
  splitting_next u u' h b r x e =
      let q = x.kept in
      record {
        kept = ap length e ∙ length_four u (4 * h) (corner S v l h 0) (corner S v l h 1) (corner S v l h 2) (corner S v l h 3) ∙ x.kept;
        done = λ k c. at (λ (y : List ℕ). get_or y k 0) e ∙ go k c (dec_lt k (4 * h));
        rest = λ k c. at (λ (y : List ℕ). get_or y k 0) e ∙ other k (λ j i z. omega arith) ∙ x.rest k (omega arith);
      }
    where
      at : (f : List ℕ → ℕ) {y z : List ℕ} → y ≡ z → f y ≡ f z
      at f p = ap f p

      put : List ℕ
      put = put_four u (4 * h) (corner S v l h 0) (corner S v l h 1) (corner S v l h 2) (corner S v l h 3)

      other : (k : ℕ) → ((j : ℕ) → j < 4 → k ≡ 4 * h + j → ⊥) → get_or put k 0 ≡ get_or u k 0
      other k f = four_other u (4 * h) (corner S v l h 0) (corner S v l h 1) (corner S v l h 2) (corner S v l h 3) k f

      go : (k : ℕ) → k < 4 * (h + 1) → Dec (k < 4 * h) → get_or put k 0 ≡ corner S v l (k / 4) (k % 4)
      go k c (yes y) = other k (λ j i z. omega arith) ∙ x.done k y
      go k c (no y) =
          let q = x.kept in
          let m : 4 * h + k % 4 ≡ k = omega arith in
          let d : h ≡ k / 4 = omega arith in
          ap (λ (j : ℕ). get_or put j 0) (sym m)
          ∙ four_at u (4 * h) (corner S v l h 0) (corner S v l h 1) (corner S v l h 2) (corner S v l h 3) (omega arith) (corner S v l h) refl refl refl refl (k % 4) (omega arith)
          ∙ ap (λ (j : ℕ). corner S v l j (k % 4)) d

  pub splitting_all : (u : List ℕ) (h : ℕ) → h ≡ length l → 4 * length l ≤ length o → Splitting S v l o u h → u ≡ filled (refined S v l) o
  unfolding filled refined
  splitting_all u h e r x =
      let F : ℕ → ℕ = λ k. corner S v l (k / 4) (k % 4) in
      let n = length-tabulate (4 * length l) F in
      joined 0 u (tabulate (4 * length l) F) o (omega arith) x.kept
      (λ k b. x.done k (omega arith) ∙ sym (get_or-tabulate (4 * length l) F k 0 (omega arith)))
      (λ k b. x.rest k (omega arith))

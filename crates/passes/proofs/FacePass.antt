-- The pass over the faces: points and corners written from the last face to the first. Assumes nothing.
use mathlib.Core.Path.{◌≡◌, refl, sym, ◌∙◌, subst}
use mathlib.Core.List.{List}
use Prim.Native.Nat.{ℕ, zero, suc, ◌+◌, ◌-◌, ◌*◌, ◌/◌, ◌%◌, ◌≤◌, ◌<◌}
use native.Mathlib.Decide.{dec_lt}
use native.Mathlib.Omega.{arith}
use lib.IntN.{ℤ, pos}
use lib.ListN.{length, get_or, set, take, length-set}
use lib.Seq.{get_or-set_same, get_or-set_other}
use Rattle.lists.specs.Tabulate.{tabulate}
use Rattle.lists.proofs.Tabulate.{length-tabulate, get_or-tabulate}
use Rattle.lists.proofs.Parts.{joined}
use Rattle.topology.specs.Shape.{quads}
use Rattle.refinedfaces.specs.Refined.{corner}
use Rattle.tables.specs.Tables.{filled, Written}
use Rattle.tables.proofs.Written.{written_none, Refining, refining_to}
use Rattle.coordinates.specs.Points.{put_point}
use Rattle.roundfaces.specs.Faces.{refined_by, FaceIn, FacesIn}
use Rattle.roundfaces.proofs.Faces.{corners_then, face_in, corners_from}
use Rattle.familyfaces.specs.Family.{put_family}
use Rattle.passes.specs.Parts.{PartIn, PointsPut}

-- ---- one point
length_point : (t : List ℤ) (i : ℕ) (x y z : ℤ) → length (put_point t i x y z) ≡ length t
unfolding put_point
length_point t i x y z = simp length-set

point_other : (t : List ℤ) (i : ℕ) (x y z : ℤ) (k : ℕ) → 3 * i + 3 ≤ k → get_or (put_point t i x y z) k (pos 0) ≡ get_or t k (pos 0)
unfolding put_point
point_other t i x y z k h =
    get_or-set_other (set (set t (3 * i) x) (3 * i + 1) y) (3 * i + 2) k z (pos 0) (λ e. omega arith)
    ∙ get_or-set_other (set t (3 * i) x) (3 * i + 1) k y (pos 0) (λ e. omega arith)
    ∙ get_or-set_other t (3 * i) k x (pos 0) (λ e. omega arith)

point_before : (t : List ℤ) (i : ℕ) (x y z : ℤ) (k : ℕ) → k < 3 * i → get_or (put_point t i x y z) k (pos 0) ≡ get_or t k (pos 0)
unfolding put_point
point_before t i x y z k h =
    get_or-set_other (set (set t (3 * i) x) (3 * i + 1) y) (3 * i + 2) k z (pos 0) (λ e. omega arith)
    ∙ get_or-set_other (set t (3 * i) x) (3 * i + 1) k y (pos 0) (λ e. omega arith)
    ∙ get_or-set_other t (3 * i) k x (pos 0) (λ e. omega arith)

point_same : (G : ℕ → ℤ) (t : List ℤ) (i : ℕ) → 3 * i + 3 ≤ length t → (k j : ℕ) → k ≡ 3 * i + j → j < 3 → get_or (put_point t i (G 0) (G 1) (G 2)) k (pos 0) ≡ G j
unfolding put_point
point_same G t i h k zero e b =
    let d : k ≡ 3 * i = omega arith in
    rw d (get_or-set_other (set (set t (3 * i) (G 0)) (3 * i + 1) (G 1)) (3 * i + 2) (3 * i) (G 2) (pos 0) (λ e. omega arith)
    ∙ get_or-set_other (set t (3 * i) (G 0)) (3 * i + 1) (3 * i) (G 1) (pos 0) (λ e. omega arith)
    ∙ get_or-set_same t (3 * i) (G 0) (pos 0) (omega arith))
point_same G t i h k (suc zero) e b =
    let l = length-set t (3 * i) (G 0) in
    rw e (get_or-set_other (set (set t (3 * i) (G 0)) (3 * i + 1) (G 1)) (3 * i + 2) (3 * i + 1) (G 2) (pos 0) (λ e. omega arith)
    ∙ get_or-set_same (set t (3 * i) (G 0)) (3 * i + 1) (G 1) (pos 0) (omega arith))
point_same G t i h k (suc (suc zero)) e b =
    let l = length-set t (3 * i) (G 0) in
    let m = length-set (set t (3 * i) (G 0)) (3 * i + 1) (G 1) in
    rw e (get_or-set_same (set (set t (3 * i) (G 0)) (3 * i + 1) (G 1)) (3 * i + 2) (G 2) (pos 0) (omega arith))
point_same G t i h k (suc (suc (suc j))) e b = let z : ⊥ = omega arith in absurd z

-- ---- points put one after another, the last first
module _ (G : ℕ → ℕ → ℤ) where
  pub put_none : (e : ℕ) (s : List ℤ) → PointsPut G e e s s
  put_none e s = record {
    kept = refl;
    before = λ k h. refl;
    inside = λ k h g. let z : ⊥ = omega arith in absurd z;
    behind = λ k h. refl;
  }

  pub put_then : (a b e : ℕ) (s s₁ s₂ : List ℤ) → a ≤ b → b ≤ e → PointsPut G b e s s₁ → PointsPut G a b s₁ s₂ → PointsPut G a e s s₂
  put_then a b e s s₁ s₂ ab be x y = record {
    kept = y.kept ∙ x.kept;
    before = λ k h. y.before k h ∙ x.before k (omega arith);
    inside = λ k h g. go k h g (dec_lt k (3 * b));
    behind = λ k h. y.behind k (omega arith) ∙ x.behind k h;
  }
    where
      go : (k : ℕ) → 3 * a ≤ k → k < 3 * e → Dec (k < 3 * b) → get_or s₂ k (pos 0) ≡ G (k % 3) (k / 3)
      go k h g (yes l) = y.inside k h l
      go k h g (no l) = y.behind k (omega arith) ∙ x.inside k (omega arith) g

  pub put_one : (i : ℕ) (s s' : List ℤ) → 3 * i + 3 ≤ length s → s' ≡ put_point s i (G 0 i) (G 1 i) (G 2 i) → PointsPut G i (i + 1) s s'
  put_one i s s' b p = rw p (record {
    kept = length_point s i (G 0 i) (G 1 i) (G 2 i);
    before = λ k h. point_before s i (G 0 i) (G 1 i) (G 2 i) k h;
    inside = λ k h g. let q : k / 3 ≡ i = omega arith in rw q (point_same (λ (a : ℕ). G a i) s i b k (k % 3) (omega arith) (omega arith));
    behind = λ k h. point_other s i (G 0 i) (G 1 i) (G 2 i) k (omega arith);
  })

  -- the four points of a family
  pub put_four : (f : ℕ) (s s' : List ℤ) → 3 * (f + 4) ≤ length s → s' ≡ put_family G s f → PointsPut G f (f + 4) s s'
  unfolding put_family
  put_four f s s' b p =
      let s₁ : List ℤ = put_point s (f + 3) (G 0 (f + 3)) (G 1 (f + 3)) (G 2 (f + 3)) in
      let s₂ : List ℤ = put_point s₁ (f + 2) (G 0 (f + 2)) (G 1 (f + 2)) (G 2 (f + 2)) in
      let s₃ : List ℤ = put_point s₂ (f + 1) (G 0 (f + 1)) (G 1 (f + 1)) (G 2 (f + 1)) in
      let e₁ : f + 3 + 1 ≡ f + 4 = omega arith in
      let e₂ : f + 2 + 1 ≡ f + 3 = omega arith in
      let e₃ : f + 1 + 1 ≡ f + 2 = omega arith in
      let x₁ : PointsPut G (f + 3) (f + 4) s s₁ = rw e₁ at (put_one (f + 3) s s₁ (omega arith) refl) in
      let x₂ : PointsPut G (f + 2) (f + 3) s₁ s₂ = rw e₂ at (put_one (f + 2) s₁ s₂ (let l = x₁.kept in omega arith) refl) in
      let x₃ : PointsPut G (f + 1) (f + 2) s₂ s₃ = rw e₃ at (put_one (f + 1) s₂ s₃ (let l = x₁.kept in let m = x₂.kept in omega arith) refl) in
      let x₄ : PointsPut G f (f + 1) s₃ s' = put_one f s₃ s' (let l = x₁.kept in let m = x₂.kept in let n = x₃.kept in omega arith) p in
      put_then f (f + 1) (f + 4) s s₃ s' (omega arith) (omega arith)
      (put_then (f + 1) (f + 2) (f + 4) s s₂ s₃ (omega arith) (omega arith) (put_then (f + 2) (f + 3) (f + 4) s s₁ s₂ (omega arith) (omega arith) x₁ x₂) x₃) x₄

  pub put_all : (f m : ℕ) (s s' : List ℤ) → f ≤ 0 → 3 * m ≤ length s → PointsPut G f m s s' → s' ≡ filled (tabulate (3 * m) (λ (k : ℕ). G (k % 3) (k / 3))) s
  unfolding filled
  put_all f m s s' z b x =
      let F : ℕ → ℤ = λ k. G (k % 3) (k / 3) in
      let l = length-tabulate (3 * m) F in
      joined (pos 0) s' (tabulate (3 * m) F) s (omega arith) x.kept
      (λ k h. x.inside k (omega arith) (omega arith) ∙ sym (get_or-tabulate (3 * m) F k (pos 0) (omega arith)))
      (λ k h. x.behind k (omega arith))

-- ---- corners
module _ (n v count : ℕ) (w : List ℕ) where
  pub face_still : (f : ℕ) (c c' : List ℕ) → length c' ≡ length c → FaceIn n v count f c w → FaceIn n v count f c' w
  face_still f c c' k x = record {
    sides = x.sides;
    lt = x.lt;
    vertices = x.vertices;
    edges = x.edges;
    room = let r = x.room in omega arith;
    numbers = x.numbers;
    below = x.below;
  }

  -- one face more, the last first
  pub corners_next : (f e : ℕ) (c c₁ c₂ : List ℕ) → 0 < f → f ≤ e → Written (16 * f) (16 * e) (refined_by n v count c w) c c₁ → Written (16 * (f - 1)) (16 * (f - 1) + 16) (refined_by n v count c₁ w) c₁ c₂ → Written (16 * (f - 1)) (16 * e) (refined_by n v count c w) c c₂
  corners_next f e c c₁ c₂ p q x y =
      let i : 16 * (f - 1) + 16 ≡ 16 * f = omega arith in
      corners_then n v count (16 * (f - 1)) (16 * f) (16 * e) w c c₁ c₂ (omega arith) (omega arith) x (subst (λ (k : ℕ). Written (16 * (f - 1)) k (refined_by n v count c₁ w) c₁ c₂) i y)

  pub family_written : (f : ℕ) (c c' : List ℕ) → Written (16 * f) (16 * f + 64) (refined_by n v count c w) c c' → Written (16 * f) (16 * (f + 4)) (refined_by n v count c w) c c'
  family_written f c c' x = let e : 16 * f + 64 ≡ 16 * (f + 4) = omega arith in subst (λ (k : ℕ). Written (16 * f) k (refined_by n v count c w) c c') e x

  -- of a net with corners `faces`
  module _ (faces : List ℕ) (ok : FacesIn n v count faces w) where
    pub part_of : (a e : ℕ) (out : List ℤ) (c : List ℕ) → 3 * (n / 4) ≤ length out → length c ≡ length faces → a ≤ e → 4 * e ≤ n → PartIn n v count a e out c w
    part_of a e out c room k h b = record {
      from = h;
      to = b;
      room = omega arith;
      each = λ f g l. face_in n v count faces w ok c f k (omega arith);
    }

    pub corners_on : (c c' : List ℕ) (f e : ℕ) → f ≤ e → Refining n (λ (k : ℕ). corner quads v (take n faces) (k / 4) (k % 4)) faces c e → length c' ≡ length c → Written (16 * f) (16 * e) (refined_by n v count c w) c c'
        → Refining n (λ (k : ℕ). corner quads v (take n faces) (k / 4) (k % 4)) faces c' f
    corners_on c c' f e h x k y = refining_to n (λ (k : ℕ). corner quads v (take n faces) (k / 4) (k % 4)) faces c c' f e h x k (corners_from n v count faces w ok c c' f e x y)

    pub corners_none : (m : ℕ) → m ≡ n / 4 → Refining n (λ (k : ℕ). corner quads v (take n faces) (k / 4) (k % 4)) faces faces m
    corners_none m e =
        let f = ok.sides.fours in
        let q : 16 * m ≡ 4 * n = omega arith in
        record {
          le = omega arith;
          kept = refl;
          written = subst (λ (k : ℕ). Written k (4 * n) (λ (k : ℕ). corner quads v (take n faces) (k / 4) (k % 4)) faces faces) (sym q) (written_none (4 * n) _ faces);
        }

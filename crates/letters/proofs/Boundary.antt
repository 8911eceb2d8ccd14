-- Laws of letters that are put right along the boundary. Assumes nothing.
use mathlib.Core.Path.{◌≡◌, refl, sym, ap, ◌∙◌, subst}
use mathlib.Core.Bool.{Bool, true}
use mathlib.Core.List.{List}
use Prim.Native.Nat.{ℕ, ◌+◌, ◌-◌, ◌*◌, ◌≤◌, ◌<◌}
use native.Mathlib.Decide.{dec_lt, ℕ_discrete}
use native.Mathlib.Omega.{arith}
use lib.Dec.{leb}
use borrow.Author.Tests.{lt-ltb, leb-true}
use lib.ListN.{length, get_or, set, length-set}
use lib.Seq.{get_or-set_same, get_or-set_other}
use Rattle.topology.specs.Shape.{quads}
use Rattle.topology.specs.HalfEdge.{mate, edge_count, edge}
use Rattle.topology.specs.Boundary.{OnBoundary}
use Rattle.topology.specs.Quads.{across}
use Rattle.topology.specs.Manifold.{Oriented}
use Rattle.topology.proofs.Mates.{mate-le, mate-back, edge-lt, edge_onto}
use Rattle.refinedfaces.specs.Refined.{refined_vertices}
use Rattle.tables.specs.Tables.{Written}
use Rattle.scheme.specs.Points.{edge_rule, four_inner}
use Rattle.edgeentries.specs.Entry.{boundary_flag, entry_of, edge_of}
use Rattle.origins.specs.Origins.{made_by, letter_of, edge_case}
use Rattle.pointletters.specs.FaceLetter.{face_letter}
use Rattle.letters.specs.Letters.{new_letter, Touches, on_edge, in_face, in_far_face, Corrected, Nameable}
use Rattle.pointletters.proofs.FaceLetter.{four_by, face_by_lem, across_lt}
use Rattle.letters.proofs.Letters.{across_face, across_twice, face_named, boundary_named, inner-named}

-- ---- the entry of a half-edge
module _ (l marks w s : List ℕ) (ok : Nameable l marks w s) (h : ℕ) (k : h < length l) where
  on_boundary : boundary_flag ≤ entry_of (length l) w h → OnBoundary quads l h
  on_boundary b = record { lt = k; none = go (dec_lt (mate quads l h) (length l)) }
    where
      go : Dec (mate quads l h < length l) → mate quads l h ≡ length l
      go (yes m) = let c = ok.inner h k m in let z : ⊥ = omega arith in absurd z
      go (no m) = omega (arith, mate-le quads l h)

  -- as its entry e tells by a test b
  pub tested_boundary : (e : ℕ) (b : Bool) → e ≡ entry_of (length l) w h → b ≡ leb boundary_flag e → b ≡ true → OnBoundary quads l h
  tested_boundary e b p q t = let f = leb-true boundary_flag e (sym q ∙ t) in on_boundary (omega arith)

  pub edge_place : (e p : ℕ) → e ≡ entry_of (length l) w h → p ≡ edge_of e → length marks + p ≡ length marks + edge quads l h
  edge_place e p q r = ap (λ (i : ℕ). length marks + i) (r ∙ ap edge_of q ∙ ok.numbered h k)

-- ---- tables put right
-- only letters that are right have changed, and that at p is right
pub record Put (l marks : List ℕ) (h p : ℕ) (s s' : List ℕ) : Type 0 where
  pub changed : Corrected l marks h h s s'
  pub right : get_or s' p 0 ≡ new_letter l marks p

module _ (l marks : List ℕ) where
  pub put_then : (a b e : ℕ) (s s₁ s₂ : List ℕ) → Corrected l marks a b s s₁ → Corrected l marks b e s₁ s₂ → Corrected l marks a e s s₂
  put_then a b e s s₁ s₂ x y = record {
    before = λ i k. y.before i k ∙ x.before i k;
    behind = λ i k. y.behind i k ∙ x.behind i k;
    kept = λ i r. y.kept i (x.kept i r);
    touched = λ g i p q o t. go g i p q o t (dec_lt g b);
  }
    where
      go : (g i : ℕ) → a ≤ g → g < e → OnBoundary quads l g → Touches l marks g i → Dec (g < b) → get_or s₂ i 0 ≡ new_letter l marks i
      go g i p q o t (yes k) = y.kept i (x.touched g i p k o t)
      go g i p q o t (no k) = y.touched g i (omega arith) q o t

  -- one letter
  put_one : (h p x : ℕ) (s : List ℕ) → length marks ≤ p → p < refined_vertices quads (length marks) l → p < length s → x ≡ new_letter l marks p → Put l marks h p s (set s p x)
  put_one h p x s v r b e = record {
    changed = record {
      before = λ i k. get_or-set_other s p i x 0 (omega arith);
      behind = λ i k. get_or-set_other s p i x 0 (omega arith);
      kept = λ i q. go i q (ℕ_discrete i p);
      touched = λ g i c d o t. let z : ⊥ = omega arith in absurd z;
    };
    right = get_or-set_same s p x 0 b ∙ e;
  }
    where
      go : (i : ℕ) → get_or s i 0 ≡ new_letter l marks i → Dec (i ≡ p) → get_or (set s p x) i 0 ≡ new_letter l marks i
      go i q (yes k) = rw k (get_or-set_same s p x 0 b ∙ e)
      go i q (no k) = get_or-set_other s p i x 0 k ∙ q

  -- all that the half-edge h touches
  put-side : (h : ℕ) (s s' : List ℕ) → Corrected l marks h h s s' → ((i : ℕ) → Touches l marks h i → get_or s' i 0 ≡ new_letter l marks i) → Corrected l marks h (h + 1) s s'
  put-side h s s' x f = record {
    before = x.before;
    behind = x.behind;
    kept = x.kept;
    touched = λ g i p q o t. let e : g ≡ h = omega arith in f i (subst (λ (j : ℕ). Touches l marks j i) e t);
  }

  abbrev pub face_place : ℕ → ℕ
  face_place g = length marks + edge_count quads l + quads.face g

  -- ---- the letters that h touches: of its edge, of its face, and of the face beyond the opposite side, if there is one
  module _ (w s : List ℕ) (ok : Nameable l marks w s) where
    pub edge-room : (h p : ℕ) → h < length l → p ≡ length marks + edge quads l h → p < length s
    edge-room h p k e = let c = edge-lt quads (length marks) l ok.net h k in let r = ok.room in omega arith

    pub face_room : (first g f : ℕ) → first ≡ length marks + edge_count quads l → g < length l → f ≡ quads.face g → first + f < length s
    face_room first g f e k q = let c = ok.net.shape.face_lt g k in let r = ok.room in omega arith

    pub put-edge : (h p x : ℕ) → OnBoundary quads l h → p ≡ length marks + edge quads l h → x ≡ letter_of (made_by (edge_case (edge_rule l marks h))) → Put l marks h (length marks + edge quads l h) s (set s p x)
    put-edge h p x o ep ex =
        let c = edge-lt quads (length marks) l ok.net h o.lt in
        let k = edge-room h p o.lt ep in
        subst (λ (i : ℕ). Put l marks h i s (set s p x)) ep (put_one h p x s (omega arith) (omega arith) k (ex ∙ sym (ap (new_letter l marks) ep ∙ boundary_named l marks ok.net h o)))

    pub put_face : (h first g f : ℕ) (s₁ s₂ : List ℕ) → first ≡ length marks + edge_count quads l → g < length l → f ≡ quads.face g → length s₁ ≡ length s → s₂ ≡ set s₁ (first + f) (face_letter l f)
        → Put l marks h (face_place g) s₁ s₂
    put_face h first g f s₁ s₂ e k q m z =
        let c = ok.net.shape.face_lt g k in
        let b = face_room first g f e k q in
        let p : first + f ≡ face_place g = omega arith in
        rw z (subst (λ (i : ℕ). Put l marks h i s₁ (set s₁ (first + f) (face_letter l f))) p
        (put_one h (first + f) (face_letter l f) s₁ (omega arith) (omega arith) (omega arith) (sym (ap (λ (i : ℕ). new_letter l marks (i + f)) e ∙ face_named l marks f))))

  -- the letters of the edge and of the face of h are right
  pub record Near (h : ℕ) (s s' : List ℕ) : Type 0 where
    pub changed : Corrected l marks h h s s'
    pub edge : get_or s' (length marks + edge quads l h) 0 ≡ new_letter l marks (length marks + edge quads l h)
    pub face : get_or s' (face_place h) 0 ≡ new_letter l marks (face_place h)

  pub near : (w s : List ℕ) → Nameable l marks w s → (h p x first f : ℕ) (s₂ : List ℕ) → OnBoundary quads l h → p ≡ length marks + edge quads l h → x ≡ letter_of (made_by (edge_case (edge_rule l marks h)))
      → first ≡ length marks + edge_count quads l → f ≡ quads.face h → s₂ ≡ set (set s p x) (first + f) (face_letter l f) → Near h s s₂
  near w s ok h p x first f s₂ o ep ex e q z =
      let u = put-edge w s ok h p x o ep ex in
      let v = put_face w s ok h first h f (set s p x) s₂ e o.lt q (length-set s p x) z in
      record {
        changed = put_then h h h s (set s p x) s₂ u.changed v.changed;
        edge = v.changed.kept _ u.right;
        face = v.right;
      }

  module _ (h : ℕ) (s s₂ : List ℕ) (x : Near h s s₂) where
    pub side-alone : length l ≤ mate quads l (across h) → Corrected l marks h (h + 1) s s₂
    side-alone m = put-side h s s₂ x.changed go
      where
        go : (i : ℕ) → Touches l marks h i → get_or s₂ i 0 ≡ new_letter l marks i
        go i (on_edge e) = rw e x.edge
        go i (in_face e) = rw e x.face
        go i (in_far_face b e) = let z : ⊥ = omega arith in absurd z

    pub side_and_far : (g : ℕ) (s₃ : List ℕ) → g ≡ mate quads l (across h) → Put l marks h (face_place g) s₂ s₃ → Corrected l marks h (h + 1) s s₃
    side_and_far g s₃ eg z = put-side h s s₃ (put_then h h h s s₂ s₃ x.changed z.changed) go
      where
        go : (i : ℕ) → Touches l marks h i → get_or s₃ i 0 ≡ new_letter l marks i
        go i (on_edge e) = rw e (z.changed.kept _ x.edge)
        go i (in_face e) = rw e (z.changed.kept _ x.face)
        go i (in_far_face b e) = rw (e, ← eg) z.right

-- ---- all letters right: those that no boundary half-edge touches were right before
module _ (l marks : List ℕ) (ok : Oriented quads (length marks) l) (s s' : List ℕ) (x : Corrected l marks 0 (length l) s s') where
  boundary_right : (g i : ℕ) → g < length l → length l ≤ mate quads l g → Touches l marks g i → get_or s' i 0 ≡ new_letter l marks i
  boundary_right g i k m t = x.touched g i (omega arith) k (record { lt = k; none = omega (arith, mate-le quads l g) }) t

  edge_right : (i : ℕ) → length marks ≤ i → i < length marks + edge_count quads l → get_or s i 0 ≡ 67 → get_or s' i 0 ≡ new_letter l marks i
  edge_right i a b r =
      let o = edge_onto quads (length marks) l ok (i - length marks) (omega arith) in
      let e : i ≡ length marks + edge quads l o.0 = omega (arith, o.2) in
      go o.0 o.1 e (dec_lt (mate quads l o.0) (length l))
    where
      go : (g : ℕ) → g < length l → i ≡ length marks + edge quads l g → Dec (mate quads l g < length l) → get_or s' i 0 ≡ new_letter l marks i
      go g k e (yes m) = x.kept i (r ∙ sym (ap (new_letter l marks) e ∙ inner-named l marks ok g k m))
      go g k e (no m) = boundary_right g i k (omega arith) (on_edge e)

  -- beyond the side k of a face
  beyond_right : (k i : ℕ) → k < length l → i ≡ face_place l marks k → mate quads l k < length l → length l ≤ mate quads l (across (mate quads l k)) → get_or s' i 0 ≡ new_letter l marks i
  beyond_right k i b e m c =
      let a : ℕ = mate quads l k in
      let g : ℕ = across a in
      let w : mate quads l (across g) ≡ k = ap (mate quads l) (across_twice (length l) a ok.shape m) ∙ mate-back quads (length marks) l ok k b m in
      boundary_right g i (across_lt (length l) a g ok.shape m refl) c (in_far_face (rw w b) (rw w e))

  -- the face f, whose first direction is that of the sides k and o
  module _ (f i k o : ℕ) (lk : k < length l) (ek : k ≡ 4 * f) (eo : o ≡ across k) (ei : i ≡ length marks + edge_count quads l + f) where
    first-side : i ≡ face_place l marks k
    unfolding quads
    first-side = omega arith

    opposite_side : i ≡ face_place l marks o
    opposite_side = first-side ∙ ap (λ (j : ℕ). length marks + edge_count quads l + j) (sym (ap quads.face eo ∙ across_face k))

    opposite_lt : o < length l
    opposite_lt = across_lt (length l) k o ok.shape lk eo

    four_letter : mate quads l k < length l → mate quads l o < length l → mate quads l (across (mate quads l k)) < length l → mate quads l (across (mate quads l o)) < length l → new_letter l marks i ≡ 68
    four_letter p q u v =
        let tp = lt-ltb (mate quads l k) (length l) p in
        let tq = lt-ltb (mate quads l o) (length l) q in
        let tu = lt-ltb (mate quads l (across (mate quads l k))) (length l) u in
        let tv = lt-ltb (mate quads l (across (mate quads l o))) (length l) v in
        let t : four_inner l (4 * f) ≡ true = ap (four_inner l) (sym ek) ∙ four_by l k (mate quads l k) (mate quads l o) refl (ap (mate quads l) eo) ∙ rw (tp, tq, tu, tv) in
        ap (new_letter l marks) ei ∙ face_named l marks f ∙ face_by_lem l f true (four_inner l (4 * f + 1)) t refl

    face_right : get_or s i 0 ≡ 68 → get_or s' i 0 ≡ new_letter l marks i
    face_right r = go (dec_lt (mate quads l k) (length l)) (dec_lt (mate quads l o) (length l)) (dec_lt (mate quads l (across (mate quads l k))) (length l)) (dec_lt (mate quads l (across (mate quads l o))) (length l))
      where
        go : Dec (mate quads l k < length l) → Dec (mate quads l o < length l) → Dec (mate quads l (across (mate quads l k)) < length l) → Dec (mate quads l (across (mate quads l o)) < length l) → get_or s' i 0 ≡ new_letter l marks i
        go (no p) q u v = boundary_right k i lk (omega arith) (in_face first-side)
        go (yes p) (no q) u v = boundary_right o i opposite_lt (omega arith) (in_face opposite_side)
        go (yes p) (yes q) (no u) v = beyond_right k i lk first-side p (omega arith)
        go (yes p) (yes q) (yes u) (no v) = beyond_right o i opposite_lt opposite_side q (omega arith)
        go (yes p) (yes q) (yes u) (yes v) = x.kept i (r ∙ sym (four_letter p q u v))

  -- edges and faces: filled, then put right
  pub points-named : (first end : ℕ) (w w₁ : List ℕ) → first ≡ length marks + edge_count quads l → end ≡ refined_vertices quads (length marks) l → Written (length marks) first (λ (i : ℕ). 67) w w₁
      → Written first end (λ (i : ℕ). 68) w₁ s → Written (length marks) (refined_vertices quads (length marks) l) (new_letter l marks) w s'
  unfolding quads
  points-named first end w w₁ ef ee y z = record {
    before = λ i k. x.before i k ∙ z.before i (omega arith) ∙ y.before i k;
    inside = λ i a b. go i a b (dec_lt i first);
    behind = λ i k. x.behind i k ∙ z.behind i (omega arith) ∙ y.behind i (omega arith);
  }
    where
      go : (i : ℕ) → length marks ≤ i → i < refined_vertices quads (length marks) l → Dec (i < first) → get_or s' i 0 ≡ new_letter l marks i
      go i a b (yes k) = edge_right i a (omega arith) (z.before i k ∙ y.inside i a k)
      go i a b (no k) = face_right (i - first) i (4 * (i - first)) (across (4 * (i - first))) (omega arith) refl refl (omega arith) (z.inside i (omega arith) (omega arith))

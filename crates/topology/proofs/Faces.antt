-- Two faces of a manifold net do not share two sides that follow each other; with four sides they share at most one.
use mathlib.Core.Path.{◌≡◌, refl, sym, ap, ◌∙◌, subst}
use mathlib.Core.List.{List}
use Prim.Native.Nat.{ℕ, zero, suc, ◌+◌, ◌-◌, ◌*◌, ◌/◌, ◌%◌, ◌<◌}
use native.Mathlib.Decide.{ℕ_discrete}
use native.Mathlib.Omega.{arith}
use lib.ListN.{length}
use Rattle.search.specs.Search.{iterate}
use Rattle.search.proofs.Iterate.{iterate_cancel}
use Rattle.topology.specs.Shape.{Shape, quads}
use Rattle.topology.specs.HalfEdge.{from, to, mate}
use Rattle.topology.specs.Vertex.{turn, turns}
use Rattle.topology.specs.Manifold.{Around, ring, fan, Manifold}
use Rattle.topology.proofs.Shape.{face_prev, next_not, next_next_not}
use Rattle.topology.proofs.Mates.{to_prev, mate_is, mate_only, mate-back}
use Rattle.topology.proofs.Turn.{turn_inj}
use Rattle.topology.proofs.Rings.{ring_at, fan_not_back}

module _ (S : Shape) (v : ℕ) (l : List ℕ) (ok : Manifold S v l) where
  -- no two turns lead back
  no_pair : (h : ℕ) → h < length l → turn S l h < length l → turn S l (turn S l h) ≡ h → ⊥
  unfolding iterate
  no_pair h a b e = go (ok.around (from l h) (ok.oriented.below h a))
    where
      go : Around S l (from l h) → ⊥
      go (ring h₀ m s t r) = (ring_at S v l ok.oriented (from l h) h₀ m r h a refl).not_before 2 (omega arith) (omega arith) e
      go (fan h₀ m t r) =
          let x = r.walk.all h a refl in
          let e₁ : turns S l (suc x.0) h₀ ≡ turn S l h = ap (turn S l) x.2 in
          let e₂ : turns S l (suc (suc x.0)) h₀ ≡ h = ap (turn S l) e₁ ∙ e in
          again x.0 x.1 e₁ e₂ x.2 (ℕ_discrete (suc x.0) m) (ℕ_discrete (suc (suc x.0)) m)
        where
          again : (k : ℕ) → k < m → turns S l (suc k) h₀ ≡ turn S l h → turns S l (suc (suc k)) h₀ ≡ h → turns S l k h₀ ≡ h → Dec (suc k ≡ m) → Dec (suc (suc k) ≡ m) → ⊥
          again k c i j d (yes y) z = let w = r.ends in let u = subst (λ (n : ℕ). turns S l n h₀ ≡ turn S l h) y i in omega arith
          again k c i j d (no y) (yes z) = let w = r.ends in let u = subst (λ (n : ℕ). turns S l n h₀ ≡ h) z j in omega arith
          again k c i j d (no y) (no z) =
              let u : k + 2 ≡ suc (suc k) = omega arith in
              fan_not_back S v l ok.oriented (from l h) h₀ m r 2 (omega arith) (omega arith)
              (iterate_cancel (turn S l) (λ (x : ℕ). x < length l) (turn_inj S v l ok.oriented) k 2 h₀ (λ n q. r.walk.inside n (omega arith)) (ap (λ (n : ℕ). turns S l n h₀) u ∙ j ∙ sym d))

  -- two sides that follow each other lie on two other faces
  next_apart : (h : ℕ) → h < length l → mate S l h < length l → mate S l (S.next h) < length l → S.face (mate S l h) ≡ S.face (mate S l (S.next h)) → ⊥
  unfolding to turn
  next_apart h a m n e =
      let w = ok.oriented.shape in
      let k = w.next_lt h a in
      let g : ℕ = mate S l (S.next h) in
      let x : mate S l h ≡ S.next g = ok.oriented.apart (mate S l h) (S.next g) m (w.next_lt g n) (e ∙ sym (w.face_next g)) ((mate_is S l h m).start ∙ sym (mate_is S l (S.next h) n).end) in
      let t : turn S l (S.next h) ≡ mate S l h = ap (mate S l) (w.prev_next h) in
      let u : turn S l (mate S l h) ≡ S.next h = ap (λ (i : ℕ). mate S l (S.prev i)) x ∙ ap (mate S l) (w.prev_next g) ∙ mate-back S v l ok.oriented (S.next h) k n in
      no_pair (S.next h) k (rw t m) (ap (turn S l) t ∙ u)

-- ---- four sides

next² : (h : ℕ) → quads.next (quads.next h) ≡ 4 * (h / 4) + (h + 2) % 4
unfolding quads
next² h = omega arith

next³ : (h : ℕ) → quads.next (quads.next (quads.next h)) ≡ quads.prev h
next³ h = ap quads.next (next² h) ∙ step
  where
    step : quads.next (4 * (h / 4) + (h + 2) % 4) ≡ quads.prev h
    step = unfold quads in omega arith

-- the four half-edges of a face
round_face : (P : Type 0) (h g : ℕ) → quads.face h ≡ quads.face g → (g ≡ h → P) → (g ≡ quads.next h → P) → (h ≡ quads.next g → P) → (g ≡ quads.next (quads.next h) → P) → P
unfolding quads
round_face P h g e a b c d = go ((g + 4 - h % 4) % 4) refl
  where
    go : (r : ℕ) → (g + 4 - h % 4) % 4 ≡ r → P
    go zero i = a (omega arith)
    go (suc zero) i = b (omega arith)
    go (suc (suc zero)) i = let x : g ≡ 4 * (h / 4) + (h + 2) % 4 = omega arith in d (x ∙ sym (next² h))
    go (suc (suc (suc zero))) i = c (omega arith)
    go (suc (suc (suc (suc r)))) i = let z : ⊥ = omega arith in absurd z

module _ (v : ℕ) (l : List ℕ) (ok : Manifold quads v l) where
  pub share_one : (h g : ℕ) → h < length l → g < length l → quads.face h ≡ quads.face g → mate quads l h < length l → mate quads l g < length l
      → quads.face (mate quads l h) ≡ quads.face (mate quads l g) → h ≡ g
  unfolding to
  share_one h g a b f m n e = round_face (h ≡ g) h g f sym
      (λ i. absurd (next_apart quads v l ok h a m (subst (λ (x : ℕ). mate quads l x < length l) i n) (e ∙ ap (λ (x : ℕ). quads.face (mate quads l x)) i)))
      (λ i. absurd (next_apart quads v l ok g b n (subst (λ (x : ℕ). mate quads l x < length l) i m) (sym e ∙ ap (λ (x : ℕ). quads.face (mate quads l x)) i)))
      (λ i. absurd (across i))
    where
      across : g ≡ quads.next (quads.next h) → ⊥
      across i =
          let o = ok.oriented in
          let w = o.shape in
          let p = w.prev_lt h a in
          let nh = w.next_lt h a in
          let ng : quads.next g ≡ quads.prev h = ap quads.next i ∙ next³ h in
          let x = mate_is quads l h m in
          let y = mate_is quads l g n in
          round_face ⊥ (mate quads l h) (mate quads l g) e
          (λ j. next_next_not quads (length l) w h a (sym i ∙ sym (mate-back quads v l o g b n) ∙ ap (mate quads l) j ∙ mate-back quads v l o h a m))
          (λ j. next_not quads (length l) w (quads.prev h) p (w.next_prev h ∙ sym (o.apart (quads.prev h) h p a (face_prev quads (length l) w h) (ap (from l) (sym ng) ∙ sym y.start ∙ ap (from l) j ∙ x.end))))
          (λ j. next_not quads (length l) w (quads.next h) nh (sym i ∙ o.apart g (quads.next h) b nh (sym f ∙ sym (w.face_next h)) (sym y.end ∙ ap (from l) (sym j) ∙ x.start)))
          (λ j.
          let d = w.next_lt (mate quads l h) m in
          let c : mate quads l (quads.prev h) ≡ quads.next (mate quads l h) = mate_only quads v l o (quads.prev h) (quads.next (mate quads l h)) (record {
            lt = d;
            start = x.end ∙ sym (to_prev quads (length l) w l h);
            end = ap (from l) (sym j) ∙ y.start ∙ ap (from l) ng;
          }) in
          let q = w.next_prev h in
          next_apart quads v l ok (quads.prev h) p (rw c d) (rw q m) (ap quads.face c ∙ w.face_next (mate quads l h) ∙ ap (λ (x : ℕ). quads.face (mate quads l x)) (sym q)))

-- Laws of tables written over in part: a number or four at a time, from the first place on or from the last. Assumes nothing.
use mathlib.Core.Path.{◌≡◌, refl, sym, ap, ap₂, ◌∙◌}
use mathlib.Core.List.{List}
use Prim.Native.Nat.{ℕ, ◌+◌, ◌-◌, ◌*◌, ◌/◌, ◌%◌, ◌≤◌, ◌<◌}
use native.Mathlib.Decide.{dec_lt}
use native.Mathlib.Omega.{arith}
use lib.ListN.{length, get_or, set, take, drop, replicate, length-set}
use lib.Seq.{get_or-set_same, get_or-set_other}
use borrow.Rule.Slice.PartMut.{put_mid}
use Rattle.std.proofs.Common.{rules}
use Rattle.std.proofs.lemmas.List.{places}
use Rattle.lists.specs.Tabulate.{tabulate}
use Rattle.lists.proofs.Tabulate.{length-tabulate, get_or-tabulate}
use Rattle.lists.proofs.Parts.{joined}
use Rattle.tables.specs.Tables.{filled, put_four, Written}

pub written_none : (a : ℕ) (f : ℕ → ℕ) (w : List ℕ) → Written a a f w w
written_none a f w = record {
  before = λ k h. refl;
  inside = λ k h g. let z : ⊥ = omega arith in absurd z;
  behind = λ k h. refl;
}

-- first from b on, then up to b
pub written_then : (a b e : ℕ) (f : ℕ → ℕ) (w w₁ w₂ : List ℕ) → a ≤ b → b ≤ e → Written b e f w w₁ → Written a b f w₁ w₂ → Written a e f w w₂
written_then a b e f w w₁ w₂ ab be x y = record {
  before = λ k h. y.before k h ∙ x.before k (omega arith);
  inside = λ k h g. go k h g (dec_lt k b);
  behind = λ k h. y.behind k (omega arith) ∙ x.behind k h;
}
  where
    go : (k : ℕ) → a ≤ k → k < e → Dec (k < b) → get_or w₂ k 0 ≡ f k
    go k h g (yes l) = y.inside k h l
    go k h g (no l) = y.behind k (omega arith) ∙ x.inside k (omega arith) g

-- first up to b, then from b on
pub written_on : (a b e : ℕ) (f : ℕ → ℕ) (w w₁ w₂ : List ℕ) → a ≤ b → b ≤ e → Written a b f w w₁ → Written b e f w₁ w₂ → Written a e f w w₂
written_on a b e f w w₁ w₂ ab be x y = record {
  before = λ k h. y.before k (omega arith) ∙ x.before k h;
  inside = λ k h g. go k h g (dec_lt k b);
  behind = λ k h. y.behind k h ∙ x.behind k (omega arith);
}
  where
    go : (k : ℕ) → a ≤ k → k < e → Dec (k < b) → get_or w₂ k 0 ≡ f k
    go k h g (yes l) = y.before k l ∙ x.inside k h l
    go k h g (no l) = y.inside k (omega arith) g

pub written_as : (a e : ℕ) (f g : ℕ → ℕ) (w w' : List ℕ) → ((k : ℕ) → a ≤ k → k < e → f k ≡ g k) → Written a e f w w' → Written a e g w w'
written_as a e f g w w' s x = record {
  before = x.before;
  inside = λ k h l. x.inside k h l ∙ s k h l;
  behind = x.behind;
}

pub written_one : (i : ℕ) (f : ℕ → ℕ) (w : List ℕ) (x : ℕ) → i < length w → x ≡ f i → Written i (i + 1) f w (set w i x)
written_one i f w x h e = record {
  before = λ k l. get_or-set_other w i k x 0 (omega arith);
  inside = λ k l g. let p : k ≡ i = omega arith in rw p (get_or-set_same w i x 0 h ∙ e);
  behind = λ k l. get_or-set_other w i k x 0 (omega arith);
}

-- after `w[a..e].fill(x)`, where k is e - a
pub written_fill : (a e k x : ℕ) (w ys : List ℕ) → a + k ≡ e → e ≤ length w → ys ≡ replicate (length (take k (drop a w))) x → Written a e (λ (i : ℕ). x) w (put_mid a k w ys)
written_fill a e k x w ys h b p = rw p (record {
  before = λ i l. search (rules, places);
  inside = λ i l g. search (rules, places);
  behind = λ i l. search (rules, places);
})

pub length_four : (w : List ℕ) (i a b c d : ℕ) → length (put_four w i a b c d) ≡ length w
unfolding put_four
length_four w i a b c d = simp length-set

written_four : (i : ℕ) (f : ℕ → ℕ) (w : List ℕ) (a b c d : ℕ) → i + 4 ≤ length w → a ≡ f i → b ≡ f (i + 1) → c ≡ f (i + 2) → d ≡ f (i + 3)
    → Written i (i + 4) f w (put_four w i a b c d)
unfolding put_four
written_four i f w a b c d h ea eb ec ed =
    let w₃ : List ℕ = set w (i + 3) d in
    let w₂ : List ℕ = set w₃ (i + 2) c in
    let w₁ : List ℕ = set w₂ (i + 1) b in
    let l₃ : length w₃ ≡ length w = length-set w (i + 3) d in
    let l₂ : length w₂ ≡ length w₃ = length-set w₃ (i + 2) c in
    let l₁ : length w₁ ≡ length w₂ = length-set w₂ (i + 1) b in
    let e₃ : i + 3 + 1 ≡ i + 4 = omega arith in
    let e₂ : i + 2 + 1 ≡ i + 3 = omega arith in
    let e₁ : i + 1 + 1 ≡ i + 2 = omega arith in
    let x₃ : Written (i + 3) (i + 4) f w w₃ = rw e₃ at (written_one (i + 3) f w d (omega arith) ed) in
    let x₂ : Written (i + 2) (i + 3) f w₃ w₂ = rw e₂ at (written_one (i + 2) f w₃ c (omega arith) ec) in
    let x₁ : Written (i + 1) (i + 2) f w₂ w₁ = rw e₁ at (written_one (i + 1) f w₂ b (omega arith) eb) in
    let x₀ : Written i (i + 1) f w₁ (set w₁ i a) = written_one i f w₁ a (omega arith) ea in
    written_then i (i + 1) (i + 4) f w w₁ (set w₁ i a) (omega arith) (omega arith)
    (written_then (i + 1) (i + 2) (i + 4) f w w₂ w₁ (omega arith) (omega arith)
    (written_then (i + 2) (i + 3) (i + 4) f w w₃ w₂ (omega arith) (omega arith) x₃ x₂) x₁) x₀

-- four numbers given by G, from 4h on
written_quarter : (G : ℕ → ℕ → ℕ) (i h : ℕ) (w w' : List ℕ) → i ≡ 4 * h → i + 4 ≤ length w → w' ≡ put_four w i (G h 0) (G h 1) (G h 2) (G h 3) → Written i (i + 4) (λ (k : ℕ). G (k / 4) (k % 4)) w w'
written_quarter G i h w w' e b p =
    let q₀ : i / 4 ≡ h = omega arith in
    let q₁ : (i + 1) / 4 ≡ h = omega arith in
    let q₂ : (i + 2) / 4 ≡ h = omega arith in
    let q₃ : (i + 3) / 4 ≡ h = omega arith in
    let r₀ : i % 4 ≡ 0 = omega arith in
    let r₁ : (i + 1) % 4 ≡ 1 = omega arith in
    let r₂ : (i + 2) % 4 ≡ 2 = omega arith in
    let r₃ : (i + 3) % 4 ≡ 3 = omega arith in
    rw p (written_four i (λ (k : ℕ). G (k / 4) (k % 4)) w (G h 0) (G h 1) (G h 2) (G h 3) b (sym (ap₂ G q₀ r₀)) (sym (ap₂ G q₁ r₁)) (sym (ap₂ G q₂ r₂)) (sym (ap₂ G q₃ r₃)))

-- the sixteen numbers of a face
pub written_face : (G : ℕ → ℕ → ℕ) (f : ℕ) (w w₁ w₂ w₃ w₄ : List ℕ) → 16 * f + 16 ≤ length w
    → w₁ ≡ put_four w (16 * f + 12) (G (4 * f + 3) 0) (G (4 * f + 3) 1) (G (4 * f + 3) 2) (G (4 * f + 3) 3)
    → w₂ ≡ put_four w₁ (16 * f + 8) (G (4 * f + 2) 0) (G (4 * f + 2) 1) (G (4 * f + 2) 2) (G (4 * f + 2) 3)
    → w₃ ≡ put_four w₂ (16 * f + 4) (G (4 * f + 1) 0) (G (4 * f + 1) 1) (G (4 * f + 1) 2) (G (4 * f + 1) 3)
    → w₄ ≡ put_four w₃ (16 * f) (G (4 * f) 0) (G (4 * f) 1) (G (4 * f) 2) (G (4 * f) 3)
    → Written (16 * f) (16 * f + 16) (λ (k : ℕ). G (k / 4) (k % 4)) w w₄
written_face G f w w₁ w₂ w₃ w₄ b p₁ p₂ p₃ p₄ =
    let g : ℕ → ℕ = λ k. G (k / 4) (k % 4) in
    let l₁ : length w₁ ≡ length w = ap length p₁ ∙ length_four _ _ _ _ _ _ in
    let l₂ : length w₂ ≡ length w₁ = ap length p₂ ∙ length_four _ _ _ _ _ _ in
    let l₃ : length w₃ ≡ length w₂ = ap length p₃ ∙ length_four _ _ _ _ _ _ in
    let e₁ : 16 * f + 12 + 4 ≡ 16 * f + 16 = omega arith in
    let e₂ : 16 * f + 8 + 4 ≡ 16 * f + 12 = omega arith in
    let e₃ : 16 * f + 4 + 4 ≡ 16 * f + 8 = omega arith in
    let x₁ : Written (16 * f + 12) (16 * f + 16) g w w₁ = rw e₁ at (written_quarter G (16 * f + 12) (4 * f + 3) w w₁ (omega arith) (omega arith) p₁) in
    let x₂ : Written (16 * f + 8) (16 * f + 12) g w₁ w₂ = rw e₂ at (written_quarter G (16 * f + 8) (4 * f + 2) w₁ w₂ (omega arith) (omega arith) p₂) in
    let x₃ : Written (16 * f + 4) (16 * f + 8) g w₂ w₃ = rw e₃ at (written_quarter G (16 * f + 4) (4 * f + 1) w₂ w₃ (omega arith) (omega arith) p₃) in
    let x₄ : Written (16 * f) (16 * f + 4) g w₃ w₄ = written_quarter G (16 * f) (4 * f) w₃ w₄ (omega arith) (omega arith) p₄ in
    written_then (16 * f) (16 * f + 4) (16 * f + 16) g w w₃ w₄ (omega arith) (omega arith)
    (written_then (16 * f + 4) (16 * f + 8) (16 * f + 16) g w w₂ w₃ (omega arith) (omega arith)
    (written_then (16 * f + 8) (16 * f + 12) (16 * f + 16) g w w₁ w₂ (omega arith) (omega arith) x₁ x₂) x₃) x₄

-- from the front on
pub written_all : (e : ℕ) (f : ℕ → ℕ) (w u : List ℕ) → e ≤ length w → length u ≡ length w → Written 0 e f w u → u ≡ filled (tabulate e f) w
unfolding filled
written_all e f w u h k x =
    let t = length-tabulate e f in
    joined 0 u (tabulate e f) w (omega arith) k
    (λ i b. x.inside i (omega arith) (omega arith) ∙ sym (get_or-tabulate e f i 0 (omega arith)))
    (λ i b. x.behind i (omega arith))

-- ---- a loop over faces, from the last to the first: of the 4n numbers of g over the front of w, those from 16f on are written in u
pub record Refining (n : ℕ) (g : ℕ → ℕ) (w u : List ℕ) (f : ℕ) : Type 0 where
  pub le : 4 * f ≤ n
  pub kept : length u ≡ length w
  pub written : Written (16 * f) (4 * n) g w u

module _ (n : ℕ) (g : ℕ → ℕ) (w : List ℕ) where
  pub refining_next : (u u' : List ℕ) (f : ℕ) → 0 < f → Refining n g w u f → length u' ≡ length u → Written (16 * (f - 1)) (16 * (f - 1) + 16) g u u' → Refining n g w u' (f - 1)
  refining_next u u' f h x k y =
      let b = x.le in
      let e : 16 * f ≡ 16 * (f - 1) + 16 = omega arith in
      record {
        le = omega arith;
        kept = k ∙ x.kept;
        written = written_then (16 * (f - 1)) (16 * (f - 1) + 16) (4 * n) g w u u' (omega arith) (omega arith) (rw e at x.written) y;
      }

  -- several faces together
  pub refining_to : (u u' : List ℕ) (f e : ℕ) → f ≤ e → Refining n g w u e → length u' ≡ length u → Written (16 * f) (16 * e) g u u' → Refining n g w u' f
  refining_to u u' f e h x k y =
      let b = x.le in
      record {
        le = omega arith;
        kept = k ∙ x.kept;
        written = written_then (16 * f) (16 * e) (4 * n) g w u u' (omega arith) (omega arith) x.written y;
      }

  pub refining_all : (u : List ℕ) (f : ℕ) → 4 * n ≤ length w → f ≤ 0 → Refining n g w u f → u ≡ filled (tabulate (4 * n) g) w
  refining_all u f h z x = let e : 16 * f ≡ 0 = omega arith in written_all (4 * n) g w u h x.kept (rw e at x.written)

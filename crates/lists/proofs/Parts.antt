-- A list of which a part had its front written over; and a list known by its elements. Assumes nothing.
use mathlib.Core.Path.{◌≡◌, sym, ap, ◌∙◌}
use mathlib.Core.List.{List, [], ◌++◌, append-nil}
use Prim.Native.Nat.{ℕ, ◌+◌, ◌-◌, ◌≤◌, ◌<◌}
use native.Mathlib.Decide.{dec_lt}
use native.Mathlib.Omega.{arith}
use borrow.Rule.Slice.PartMut.{put_mid}
use lib.ListN.{length, get_or, take, drop, length-append, length-drop, drop_of_length-le, get_or-append}
use lib.Seq.{take_all, drop-drop, get_or-append-add, get_or-drop, ext_get_or}

module _ {A : Type 0} where
  -- the part from a to the end came back as f over its front
  pub part_written : (o f y : List A) (a m : ℕ) → a ≤ length o → y ≡ f ++ drop m (take (length o - a) (drop a o)) → put_mid a (length o - a) o y ≡ take a o ++ (f ++ drop (a + m) o)
  part_written o f y a m h e =
      let l = length-drop a o in
      let w : take (length o - a) (drop a o) ≡ drop a o = take_all (length o - a) (drop a o) (omega arith) in
      let p : drop (length o - a) (drop a o) ≡ [] = drop_of_length-le (drop a o) {i = length o - a} (omega arith) in
      let q : y ≡ f ++ drop (a + m) o = e ∙ ap (λ (t : List A). f ++ drop m t) w ∙ ap (λ (t : List A). f ++ t) (drop-drop m a o) in
      ap (λ (t : List A). take a o ++ (y ++ t)) p ∙ ap (λ (t : List A). take a o ++ t) (append-nil y ∙ q)

  -- a list that agrees with v below its length and with p above it
  pub joined : (d : A) (o v p : List A) → length v ≤ length p → length o ≡ length p → ((k : ℕ) → k < length v → get_or o k d ≡ get_or v k d)
      → ((k : ℕ) → length v ≤ k → get_or o k d ≡ get_or p k d) → o ≡ v ++ drop (length v) p
  joined d o v p h l f g = ext_get_or d o (v ++ drop (length v) p) (omega (arith, length-append v (drop (length v) p), length-drop (length v) p)) (λ k m. at k (dec_lt k (length v)))
    where
      at : (k : ℕ) → Dec (k < length v) → get_or o k d ≡ get_or (v ++ drop (length v) p) k d
      at k (yes b) = f k b ∙ sym (get_or-append v (drop (length v) p) d k b)
      at k (no b) =
          let e : length v + (k - length v) ≡ k = omega arith in
          g k (omega arith)
          ∙ sym (ap (λ (j : ℕ). get_or (v ++ drop (length v) p) j d) (sym e) ∙ get_or-append-add v (drop (length v) p) (k - length v) d ∙ get_or-drop (length v) p (k - length v) d ∙ ap (λ (j : ℕ). get_or p j d) e)

  -- lists that agree from m on agree from any later place on
  pub drop_later : (m k : ℕ) (u v : List A) → m ≤ k → drop m u ≡ drop m v → drop k u ≡ drop k v
  drop_later m k u v h e =
      let s : m + (k - m) ≡ k = omega arith in
      ap (λ (n : ℕ). drop n u) (sym s) ∙ sym (drop-drop (k - m) m u) ∙ ap (drop (k - m)) e ∙ drop-drop (k - m) m v ∙ ap (λ (n : ℕ). drop n v) s

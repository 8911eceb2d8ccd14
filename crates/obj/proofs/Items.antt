-- A line by its first bytes. Assumes nothing.
use mathlib.Core.Path.{◌≡◌, refl, sym, ap, ◌∙◌, subst}
use mathlib.Core.Bool.{Bool, true, false, cond, ◌||◌}
use mathlib.Core.List.{List, [], ◌∷◌}
use Prim.Native.Nat.{ℕ, suc, ◌+◌, ◌-◌, ◌≤◌, ◌<◌}
use native.Mathlib.Nat.{add_comm}
use native.Mathlib.Numerals.{add-one}
use native.Mathlib.Omega.{arith}
use lib.Dec.{eqb}
use lib.ListN.{length, get_or, take, drop, drop_of_length-le}
use lib.Seq.{drop-cons, drop-drop}
use Rattle.decimalform.specs.Decimal.{read_as, bad}
use Rattle.std.proofs.Common.{Option, Some, None}
use Rattle.decimal.specs.declared.Read as declared
use Rattle.decimal.specs.Answers.{read_of, used, Gives}
use Rattle.reading.proofs.Lines.{line_reads, line_within}
use Rattle.textform.specs.Bytes.{bytes}
use Rattle.textform.specs.Form.{starts_with, ended_by, read_vertex, face_by}
use Rattle.text.specs.Answers.{vertex_is, face_is}
use Rattle.text.specs.declared.Vertex as code
use Rattle.text.specs.declared.Face as code_face
use Rattle.textform.proofs.Lines.{starts_length}
use Rattle.objform.specs.Form.{vertex, face, comment, mapped, skip_to, read_corner, read_corners, read_comment, read_item}
use Rattle.obj.specs.declared.Item.TheVariants as item
use Rattle.obj.specs.declared.Item.{Item}
use Rattle.obj.specs.Answers.{StartsAt, GivesLine}

-- ---- what is left begins with the byte e, or with a newline
skip_begins : (e : ℕ) (l : List ℕ) (b : ℕ) (m : List ℕ) → skip_to e l ≡ b ∷ m → (eqb b e || eqb b 10) ≡ true
unfolding skip_to
skip_begins e [] b m p = let z : ◌≡◌ {A = ℕ} 0 1 = cc in absurd (omega arith)
skip_begins e (c ∷ l) b m p = go (eqb c e || eqb c 10) refl p (λ q. skip_begins e l b m q)
  where
    go : (t : Bool) → (eqb c e || eqb c 10) ≡ t → cond t (c ∷ l) (skip_to e l) ≡ b ∷ m → (skip_to e l ≡ b ∷ m → (eqb b e || eqb b 10) ≡ true) → (eqb b e || eqb b 10) ≡ true
    go true q p more = let s : c ≡ b = cc in rw (← s) q
    go false q p more = more p

or_same : (b : Bool) → (b || b) ≡ true → b ≡ true
or_same true e = refl
or_same false e = e

-- ---- the first bytes decide
pub no_line : {r : Option (declared.Read Item)} {l : List ℕ} → r ≡ None → bad ≡ read_item l → GivesLine r l
no_line e b = rw e (record { gives = record { reads = b; within = omega arith }; takes = tt })

module _ (l : List ℕ) where
  by_vertex : starts_with (bytes "v ") l ≡ true → read_item l ≡ mapped vertex (read_vertex false (drop 2 l))
  unfolding read_item bytes
  by_vertex e = rw e

  module _ (e₁ : starts_with (bytes "v ") l ≡ false) where
    by_face : starts_with (bytes "f ") l ≡ true → read_item l ≡ mapped face (read_corners (drop 2 l))
    unfolding read_item bytes
    by_face e = rw (e₁, e)

    module _ (e₂ : starts_with (bytes "f ") l ≡ false) where
      by_comment : starts_with (bytes "#") l ≡ true → read_item l ≡ read_comment (drop 1 l)
      unfolding read_item bytes
      by_comment e = rw (e₁, e₂, e)

      pub other_line : starts_with (bytes "#") l ≡ false → bad ≡ read_item l
      unfolding read_item
      other_line e = rw (e₁, e₂, e)

  after_two : (n : ℕ) → drop n (drop 2 l) ≡ drop (n + 2) l
  after_two n = drop-drop n 2 l ∙ ap (λ (j : ℕ). drop j l) (add_comm 2 n)

-- ---- a vertex
module _ (l : List ℕ) (e : starts_with (bytes "v ") l ≡ true) where
  pub vertex_within : 2 ≤ length l
  unfolding bytes
  vertex_within = starts_length (bytes "v ") l e

  module _ {r : Option (declared.Read code.Vertex)} (g : Gives vertex_is r (take (length l - 2) (drop 2 l)) (read_vertex false (take (length l - 2) (drop 2 l)))) where
    vertex_read : read_item l ≡ mapped vertex (read_of vertex_is r (drop 2 l))
    vertex_read = by_vertex l e ∙ ap (mapped vertex) (line_reads (read_vertex false) l 2 g)

    pub vertex_bad : r ≡ None → bad ≡ read_item l
    vertex_bad p = sym (vertex_read ∙ rw p)

    pub vertex_good : {v : declared.Read code.Vertex} → r ≡ Some v → GivesLine (Some (record { value = item.Vertex v.value; used = v.used + 2 })) l
    vertex_good {v} p =
        let w : 2 + v.used ≤ length l = subst (λ o. 2 + used o ≤ length l) p (line_within l 2 g vertex_within) in
        record { gives = record { reads = sym (vertex_read ∙ rw p (ap (read_as (vertex (vertex_is v.value))) (after_two l v.used))); within = omega arith }; takes = omega arith }

-- ---- a face
module _ (l : List ℕ) (e₁ : starts_with (bytes "v ") l ≡ false) (e : starts_with (bytes "f ") l ≡ true) where
  pub face_within : 2 ≤ length l
  unfolding bytes
  face_within = starts_length (bytes "f ") l e

  module _ {r : Option (declared.Read code_face.Face)} (g : Gives face_is r (take (length l - 2) (drop 2 l)) (face_by read_corner (take (length l - 2) (drop 2 l)))) where
    face_read : read_item l ≡ mapped face (read_of face_is r (drop 2 l))
    unfolding read_corners
    face_read = by_face l e₁ e ∙ ap (mapped face) (line_reads (face_by read_corner) l 2 g)

    pub face_bad : r ≡ None → bad ≡ read_item l
    face_bad p = sym (face_read ∙ rw p)

    pub face_good : {f : declared.Read code_face.Face} → r ≡ Some f → GivesLine (Some (record { value = item.Face f.value; used = f.used + 2 })) l
    face_good {f} p =
        let w : 2 + f.used ≤ length l = subst (λ o. 2 + used o ≤ length l) p (line_within l 2 g face_within) in
        record { gives = record { reads = sym (face_read ∙ rw p (ap (read_as (face (face_is f.value))) (after_two l f.used))); within = omega arith }; takes = omega arith }

-- ---- a comment, whose rest starts at n
module _ (l : List ℕ) (e₁ : starts_with (bytes "v ") l ≡ false) (e₂ : starts_with (bytes "f ") l ≡ false) (e : starts_with (bytes "#") l ≡ true) where
  module _ {n : ℕ} (s : StartsAt (skip_to 10 (drop 1 l)) l 1 n) where
    by_rest : read_item l ≡ ended_by 10 (read_as comment (drop n l))
    unfolding read_comment
    by_rest = by_comment l e₁ e₂ e ∙ ap (λ (m : List ℕ). ended_by 10 (read_as comment m)) (sym s.rest)

    pub comment_bad : length l ≤ n → bad ≡ read_item l
    comment_bad h = sym (by_rest ∙ ap (λ (m : List ℕ). ended_by 10 (read_as comment m)) (drop_of_length-le l {i = n} h))

    pub comment_good : n < length l → GivesLine (Some (record { value = item.Comment; used = n + 1 })) l
    comment_good h =
        let c = drop-cons l n 0 h in
        let b : eqb (get_or l n 0) 10 ≡ true = or_same (eqb (get_or l n 0) 10) (skip_begins 10 (drop 1 l) (get_or l n 0) (drop (suc n) l) (sym s.rest ∙ c)) in
        let v : ended_by 10 (read_as comment (drop n l)) ≡ read_as comment (drop (n + 1) l) = rw (c, b, add-one n) in
        record { gives = record { reads = sym (by_rest ∙ v); within = omega arith }; takes = omega arith }

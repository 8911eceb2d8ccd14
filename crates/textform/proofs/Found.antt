-- What is read of a line stands there as it is written. Assumes nothing.
use mathlib.Core.Path.{◌≡◌, refl, sym, ap, ap₂, ◌∙◌, subst}
use mathlib.Core.Bool.{Bool, true, false, cond, ◌&&◌}
use mathlib.Core.List.{List, [], ◌∷◌, ◌++◌, append_assoc}
use Prim.Native.Nat.{ℕ, zero, suc, ◌≤◌}
use native.Mathlib.Omega.{arith}
use lib.Dec.{eqb}
use lib.IntN.{ℤ}
use lib.ListN.{length, drop}
use borrow.Author.Tests.{eqb-true}
use Rattle.decimalform.specs.Decimal.{Read, read_as, bad, natural_text, integer_text, read_natural, read_integer, largest_number}
use Rattle.decimalform.proofs.Found.{natural_found, IntegerFound, integer_found}
use Rattle.textform.specs.Form.{TextCounts, Vertex, Face, starts_with, read_names, ended_by, and_then, coordinate, natural, index, read_counts, read_vertex, read_face, Rows, rows, rows_after}
use Rattle.textform.specs.Text.{counts_text, numbers_text, vertex_text, point_text, face_text, texts}
use Rattle.textform.specs.Fits.{CountsFit, VertexFits, PointFits, FaceFits, Every}
use Rattle.textform.proofs.Lines.{natural_limit}

-- the bytes s stand at the front
pub starts_found : (s l : List ℕ) → starts_with s l ≡ true → l ≡ s ++ drop (length s) l
starts_found [] l e = refl
starts_found (c ∷ s) [] e = let z : ◌≡◌ {A = ℕ} 0 1 = cc in absurd (omega arith)
starts_found (c ∷ s) (b ∷ l) e = go (eqb b c) refl e (λ q. starts_found s l q)
  where
    go : (t : Bool) → eqb b c ≡ t → (t && starts_with s l) ≡ true → (starts_with s l ≡ true → l ≡ s ++ drop (length s) l) → b ∷ l ≡ c ∷ (s ++ drop (length s) l)
    go true d q more = let h : b ≡ c = eqb-true b c d in let k = more q in λ i. h i ∷ k i
    go false d q more = let z : ◌≡◌ {A = ℕ} 0 1 = cc in absurd (omega arith)

module _ {A : Type 0} where
  pub ended_found : (e : ℕ) (q : Read A) (v : A) (m : List ℕ) → ended_by e q ≡ read_as v m → q ≡ read_as v (e ∷ m)
  ended_found e bad v m p = let z : ◌≡◌ {A = ℕ} 0 1 = cc in absurd (omega arith)
  ended_found e (read_as x []) v m p = let z : ◌≡◌ {A = ℕ} 0 1 = cc in absurd (omega arith)
  ended_found e (read_as x (b ∷ k)) v m p = go (eqb b e) refl p
    where
      go : (t : Bool) → eqb b e ≡ t → cond t (read_as x k) bad ≡ read_as v m → read_as x (b ∷ k) ≡ read_as v (e ∷ m)
      go true d q = let h : b ≡ e = eqb-true b e d in let a : x ≡ v = cc in let c : k ≡ m = cc in rw (h, a, c)
      go false d q = let z : ◌≡◌ {A = ℕ} 0 1 = cc in absurd (omega arith)

  -- what was read first, and then
  pub record Then {B : Type 0} (q : Read A) (f : A → List ℕ → Read B) (v : B) (m : List ℕ) : Type 0 where
    pub value : A
    pub rest : List ℕ
    pub first : q ≡ read_as value rest
    pub second : f value rest ≡ read_as v m

  pub then_found : {B : Type 0} (q : Read A) (f : A → List ℕ → Read B) (v : B) (m : List ℕ) → and_then q f ≡ read_as v m → Then q f v m
  then_found bad f v m p = let z : ◌≡◌ {A = ℕ} 0 1 = cc in absurd (omega arith)
  then_found (read_as x k) f v m p = record { value = x; rest = k; first = refl; second = p }

coordinate_found : (e : ℕ) (l : List ℕ) (z : ℤ) (m : List ℕ) → coordinate e l ≡ read_as z m → IntegerFound l z (e ∷ m)
unfolding coordinate
coordinate_found e l z m p = integer_found l z (e ∷ m) (ended_found e (read_integer l) z m p)

pub field_found : (limit e : ℕ) (l : List ℕ) (v : ℕ) (m : List ℕ) → natural limit e l ≡ read_as v m → l ≡ natural_text v ++ (e ∷ m)
unfolding natural
field_found limit e l v m p = natural_found limit l v (e ∷ m) (ended_found e (read_natural limit l) v m p)

-- ---- lines: what is read fits, and is written so
pub record LineFound {A : Type 0} (Fits : A → Type 0) (write : A → List ℕ) (l : List ℕ) (v : A) (m : List ℕ) : Type 0 where
  pub fits : Fits v
  pub text : l ≡ write v ++ m

-- the same of an equal value, with an equal rest
moved : {A : Type 0} {Fits : A → Type 0} {text : A → List ℕ} {l : List ℕ} {v w : A} {m k : List ℕ} → LineFound Fits text l v m → read_as v m ≡ read_as w k → LineFound Fits text l w k
moved {A} {Fits} {text} {l} {v} {w} {m} {k} h e =
    let a : v ≡ w = cc e in
    let b : m ≡ k = cc e in
    subst (λ (u : A). LineFound Fits text l u k) a (subst (λ (r : List ℕ). LineFound Fits text l v r) b h)

-- a number and the byte after it
record FieldFound (limit e : ℕ) (l : List ℕ) (v : ℕ) (m : List ℕ) : Type 0 where
  few : v ≤ limit
  text : l ≡ natural_text v ++ (e ∷ m)

natural-field_found : (limit e : ℕ) (l : List ℕ) (v : ℕ) (m : List ℕ) → natural limit e l ≡ read_as v m → FieldFound limit e l v m
natural-field_found limit e l v m p = record { few = natural_limit limit e l v m p; text = field_found limit e l v m p }

pub counts_found : (l : List ℕ) (n : TextCounts) (m : List ℕ) → read_counts l ≡ read_as n m → LineFound CountsFit counts_text l n m
unfolding read_counts counts_text
counts_found l n m p =
    let a = then_found (index 32 l) _ n m p in
    let b = then_found (index 32 a.rest) _ n m a.second in
    let c = then_found (index 10 b.rest) _ n m b.second in
    let x = natural-field_found largest_number 32 l a.value a.rest a.first in
    let y = natural-field_found largest_number 32 a.rest b.value b.rest b.first in
    let z = natural-field_found largest_number 10 b.rest c.value c.rest c.first in
    moved (record {
      fits = record { vertices = x.few; faces = y.few; rounds = z.few };
      text = simp append_assoc (x.text ∙ ap (λ (k : List ℕ). natural_text a.value ++ (32 ∷ k)) (y.text ∙ ap (λ (k : List ℕ). natural_text b.value ++ (32 ∷ k)) z.text));
    }) c.second

pub face_found : (l : List ℕ) (f : Face) (m : List ℕ) → read_face l ≡ read_as f m → LineFound FaceFits face_text l f m
unfolding read_face face_text
face_found l f m p =
    let a = then_found (index 32 l) _ f m p in
    let b = then_found (index 32 a.rest) _ f m a.second in
    let c = then_found (index 32 b.rest) _ f m b.second in
    let d = then_found (index 10 c.rest) _ f m c.second in
    let x = natural-field_found largest_number 32 l a.value a.rest a.first in
    let y = natural-field_found largest_number 32 a.rest b.value b.rest b.first in
    let z = natural-field_found largest_number 32 b.rest c.value c.rest c.first in
    let w = natural-field_found largest_number 10 c.rest d.value d.rest d.first in
    moved (record {
      fits = record { a = x.few; b = y.few; c = z.few; d = w.few };
      text = simp append_assoc (x.text ∙ ap (λ (k : List ℕ). natural_text a.value ++ (32 ∷ k)) (y.text ∙ ap (λ (k : List ℕ). natural_text b.value ++ (32 ∷ k)) (z.text ∙ ap (λ (k : List ℕ). natural_text c.value ++ (32 ∷ k)) w.text)));
    }) d.second

-- a vertex with its mark, and without one
pub vertex_found : (l : List ℕ) (v : Vertex) (m : List ℕ) → read_vertex true l ≡ read_as v m → LineFound VertexFits vertex_text l v m
unfolding read_vertex vertex_text numbers_text
vertex_found l v m p =
    let a = then_found (coordinate 32 l) _ v m p in
    let b = then_found (coordinate 32 a.rest) _ v m a.second in
    let c = then_found (coordinate 32 b.rest) _ v m b.second in
    let d = then_found (natural 255 10 c.rest) _ v m c.second in
    let x = coordinate_found 32 l a.value a.rest a.first in
    let y = coordinate_found 32 a.rest b.value b.rest b.first in
    let z = coordinate_found 32 b.rest c.value c.rest c.first in
    let w = natural-field_found 255 10 c.rest d.value d.rest d.first in
    moved (record {
      fits = record { x = x.range; y = y.range; z = z.range; mark = w.few };
      text = simp append_assoc (x.text ∙ ap (λ (k : List ℕ). integer_text a.value ++ (32 ∷ k)) (y.text ∙ ap (λ (k : List ℕ). integer_text b.value ++ (32 ∷ k)) (z.text ∙ ap (λ (k : List ℕ). integer_text c.value ++ (32 ∷ k)) w.text)));
    }) d.second

pub point_found : (l : List ℕ) (v : Vertex) (m : List ℕ) → read_vertex false l ≡ read_as v m → LineFound PointFits point_text l v m
unfolding read_vertex point_text
point_found l v m p =
    let a = then_found (coordinate 32 l) _ v m p in
    let b = then_found (coordinate 32 a.rest) _ v m a.second in
    let c = then_found (coordinate 10 b.rest) _ v m b.second in
    let x = coordinate_found 32 l a.value a.rest a.first in
    let y = coordinate_found 32 a.rest b.value b.rest b.first in
    let z = coordinate_found 10 b.rest c.value c.rest c.first in
    moved (record {
      fits = record { fits = record { x = x.range; y = y.range; z = z.range; mark = omega arith }; unmarked = refl };
      text = simp append_assoc (x.text ∙ ap (λ (k : List ℕ). integer_text a.value ++ (32 ∷ k)) (y.text ∙ ap (λ (k : List ℕ). integer_text b.value ++ (32 ∷ k)) z.text));
    }) c.second

-- a line of names
pub names_found : {A : Type 0} (names : A → List ℕ) (ms : List A) (l : List ℕ) (v : A) (m : List ℕ) → read_names names ms l ≡ read_as v m → l ≡ names v ++ m
unfolding read_names
names_found names [] l v m p = let z : ◌≡◌ {A = ℕ} 0 1 = cc in absurd (omega arith)
names_found {A} names (x ∷ ms) l v m p = go (starts_with (names x) l) refl p (λ q. names_found names ms l v m q)
  where
    go : (t : Bool) → starts_with (names x) l ≡ t → cond t (read_as x (drop (length (names x)) l)) (read_names names ms l) ≡ read_as v m
        → (read_names names ms l ≡ read_as v m → l ≡ names v ++ m) → l ≡ names v ++ m
    go true d q more =
        let a : x ≡ v = cc in
        let b : drop (length (names x)) l ≡ m = cc in
        starts_found (names x) l d ∙ ap₂ (λ (y : A) (k : List ℕ). names y ++ k) a b
    go false d q more = more q

-- ---- lines after each other: the good ones, and what they leave
pub record RowsFound {A : Type 0} (Fits : A → Type 0) (write : A → List ℕ) (n : ℕ) (l : List ℕ) (w : Rows A) : Type 0 where
  pub fit : Every Fits w.values
  pub text : l ≡ texts write w.values ++ w.rest
  pub few : length w.values ≤ n

pub rows_found : {A : Type 0} {Fits : A → Type 0} {text : A → List ℕ} (read : List ℕ → Read A) → ((l : List ℕ) (v : A) (m : List ℕ) → read l ≡ read_as v m → LineFound Fits text l v m)
    → (n : ℕ) (l : List ℕ) → RowsFound Fits text n l (rows read n l)
unfolding rows texts Every
rows_found read line zero l = record { fit = tt; text = refl; few = omega arith }
rows_found {A} {Fits} {text} read line (suc n) l = go (read l) refl (λ m. rows_found read line n m)
  where
    go : (r : Read A) → read l ≡ r → ((m : List ℕ) → RowsFound Fits text n m (rows read n m)) → RowsFound Fits text (suc n) l (rows_after l r (rows read n))
    go bad e more = record { fit = tt; text = refl; few = omega arith }
    go (read_as v m) e more =
        let h = line l v m e in
        let r = more m in
        let k = r.few in
        record {
          fit = (h.fits, r.fit);
          text = h.text ∙ ap (λ (s : List ℕ). text v ++ s) r.text ∙ sym (append_assoc (text v) (texts text (rows read n m).values) (rows read n m).rest);
          few = omega arith;
        }

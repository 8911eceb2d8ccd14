-- The seam test says yes exactly if one list is read from both nets; and what the first differing step says. Assumes nothing.
use mathlib.Core.Path.{◌≡◌, refl, sym, ap, ◌∙◌, subst}
use mathlib.Core.Bool.{Bool, true, false, not, ◌&&◌}
use mathlib.Core.List.{List}
use Prim.Native.Nat.{ℕ, suc, ◌≤◌, ◌<◌}
use native.Mathlib.Decide.{dec_lt, ℕ_discrete}
use native.Mathlib.Omega.{arith}
use lib.IntN.{ℤ, nat_abs, ◌-ℤ◌, +ℤ_invr}
use lib.Dec.{eqb}
use borrow.Author.Tests.{eq-eqb, eqb-true, not-true, not-false}
use Rattle.lists.specs.Tabulate.{tabulate}
use Rattle.lists.proofs.Tabulate.{length-tabulate, tabulate_cong}
use Rattle.integers.proofs.Order.{eq_of_abs}
use Rattle.search.specs.Search.{first, iterate}
use Rattle.search.proofs.Tests.{clash, not_off, and_on, and_left, and_right, or_off, or_left, or_right}
use Rattle.search.proofs.First.{first_before, first_none}
use Rattle.curve.specs.Curve.{Point}
use Rattle.topology.specs.Boundary.{with_sides, against_sides}
use Rattle.nets.specs.Net.{control_tables, axis, point_of, marked}
use Rattle.verdict.specs.Verdict.{accepted, refused, refused_at, verdict}
use Rattle.verdict.proofs.Accepted.{never, or_both, if_false, at_none, last_hit, last_pass}
use Rattle.seam.specs.Reading.{vertex_at, points}
use Rattle.seamtest.specs.SeamTest.{SeamSide, alone_in, step_at, edges_from, bad_start, same, has_sides, unlike, same_axis, same_vertex, differs, refused_if_at, seam_verdict, seam_edges}
use Rattle.seamtest.specs.Matching.{Matching, YesExactly}
use Rattle.seamtest.proofs.Side.{GoodStart, start_if, if_start, start_read, ends_there, unmarked_before, segment, edges_some, read_length, read_point}

-- ---- two vertices with the same point and the same mark
pub same_is : (c d : Bool) → same c d ≡ true → c ≡ d
same_is true d t = sym t
same_is false d t = sym (not-true d t)

same_on : (c d : Bool) → c ≡ d → same c d ≡ true
same_on true d e = sym e
same_on false d e = ap not (sym e)

axis_is : (p q : List ℤ) (u v x : ℕ) → same_axis p u q v x ≡ true → axis p x u ≡ axis q x v
unfolding same_axis
axis_is p q u v x t = eq_of_abs (axis p x u) (axis q x v) (eqb-true _ 0 t)

axis_on : (p q : List ℤ) (u v x : ℕ) → axis p x u ≡ axis q x v → same_axis p u q v x ≡ true
unfolding same_axis
axis_on p q u v x e = eq-eqb (nat_abs (axis p x u -ℤ axis q x v)) 0 (ap (λ (y : ℤ). nat_abs (y -ℤ axis q x v)) e ∙ ap nat_abs (+ℤ_invr (axis q x v)))

record Agrees (a b : SeamSide) (i : ℕ) : Type 0 where
  point : point_of (control_tables a.net) (step_at a with_sides i) ≡ point_of (control_tables b.net) (step_at b against_sides i)
  mark : marked a.net.marks (step_at a with_sides i) ≡ marked b.net.marks (step_at b against_sides i)

module _ (a b : SeamSide) (i : ℕ) where
  abbrev u : ℕ
  u = step_at a with_sides i

  abbrev v : ℕ
  v = step_at b against_sides i

  abbrev on_axis : ℕ → Bool
  on_axis x = same_axis a.net.vertices u b.net.vertices v x

  abbrev in_mark : Bool
  in_mark = same (marked a.net.marks u) (marked b.net.marks v)

  agrees_if : differs a b i ≡ false → Agrees a b i
  unfolding differs same_vertex point_of
  agrees_if f =
      let t = not-false (on_axis 0 && (on_axis 1 && (on_axis 2 && in_mark))) f in
      let t₁ = and_right (on_axis 0) _ t in
      let t₂ = and_right (on_axis 1) _ t₁ in
      let p = a.net.vertices in
      let q = b.net.vertices in
      record {
        point = rw (axis_is p q u v 0 (and_left _ _ t), axis_is p q u v 1 (and_left _ _ t₁), axis_is p q u v 2 (and_left _ _ t₂));
        mark = same_is (marked a.net.marks u) (marked b.net.marks v) (and_right (on_axis 2) _ t₂);
      }

  if_agrees : Agrees a b i → differs a b i ≡ false
  unfolding differs same_vertex point_of
  if_agrees r =
      let p = a.net.vertices in
      let q = b.net.vertices in
      let x = axis_on p q u v 0 (ap (λ (z : Point). z.x) r.point) in
      let y = axis_on p q u v 1 (ap (λ (z : Point). z.y) r.point) in
      let z = axis_on p q u v 2 (ap (λ (z : Point). z.z) r.point) in
      not_off _ (and_on _ _ x (and_on _ _ y (and_on _ _ z (same_on (marked a.net.marks u) (marked b.net.marks v) r.mark))))

-- ---- 18 at place 0 does not hold
alike_if : (a b : SeamSide) → unlike a b ≡ false → (a.tension ≡ b.tension) × (has_sides a ≡ has_sides b)
unfolding unlike
alike_if a b f = (
  eqb-true a.tension b.tension (not-false _ (or_left _ (not (same (has_sides a) (has_sides b))) f)),
  same_is (has_sides a) (has_sides b) (not-false _ (or_right (not (eqb a.tension b.tension)) _ f)),
)

if_alike : (a b : SeamSide) → a.tension ≡ b.tension → has_sides a ≡ has_sides b → unlike a b ≡ false
unfolding unlike
if_alike a b t s = or_off _ _ (ap not (eq-eqb a.tension b.tension t)) (ap not (same_on (has_sides a) (has_sides b) s))

-- ---- nothing is refused before the steps are compared
pub record NoneBeforeSteps (a b : SeamSide) (w : ℕ) : Type 0 where
  pub accepted_first : verdict (alone_in a w) ≡ accepted
  pub accepted_second : verdict (alone_in b w) ≡ accepted
  pub good_first : bad_start a ≡ false
  pub good_second : bad_start b ≡ false
  pub alike : unlike a b ≡ false

-- the first differing step, or the number of steps
abbrev pub first_differing : SeamSide → SeamSide → ℕ
first_differing a b = first (differs a b) (suc (edges_from a with_sides))

if_at_false : (r p : ℕ) (t : Bool) → refused_if_at r p t ≡ accepted → t ≡ false
if_at_false r p true e = never r p e
if_at_false r p false e = refl

passed_if : (a b : SeamSide) (w : ℕ) → seam_verdict a b w ≡ accepted → NoneBeforeSteps a b w × (first_differing a b ≡ suc (edges_from a with_sides))
unfolding seam_verdict
passed_if a b w e =
    let x₁ = or_both _ _ e in
    let x₂ = or_both _ _ x₁.1 in
    let x₃ = or_both _ _ x₂.1 in
    let x₄ = or_both _ _ x₃.1 in
    let x₅ = or_both _ _ x₄.1 in (
      record {
        accepted_first = x₁.0;
        accepted_second = x₂.0;
        good_first = if_at_false 17 1 _ x₃.0;
        good_second = if_at_false 17 2 _ x₄.0;
        alike = if_false 18 _ x₅.0;
      },
      at_none 18 (differs a b) (suc (edges_from a with_sides)) (λ i. i) x₅.1,
    )

edges_of_lem : (a b : SeamSide) (w : ℕ) → seam_verdict a b w ≡ accepted → seam_edges a b w ≡ edges_from a with_sides
unfolding seam_edges
edges_of_lem a b w e = rw e

-- "and 0 on any refusal"
pub no_edges : (a b : SeamSide) (w r p : ℕ) → seam_verdict a b w ≡ refused r p → seam_edges a b w ≡ 0
unfolding seam_edges
no_edges a b w r p e = rw e

module _ (a b : SeamSide) (w : ℕ) (c : NoneBeforeSteps a b w) where
  compared : seam_verdict a b w ≡ refused_at 18 (differs a b) (suc (edges_from a with_sides)) (λ i. i)
  unfolding seam_verdict
  compared = rw (c.accepted_first, c.accepted_second, c.good_first, c.good_second, c.alike)

  agrees_before : (i : ℕ) → i < first_differing a b → Agrees a b i
  agrees_before i h = agrees_if a b i (first_before (differs a b) (suc (edges_from a with_sides)) i h)

  abbrev start_first : GoodStart a
  start_first = start_if a c.good_first

  abbrev start_second : GoodStart b
  start_second = start_if b c.good_second

  -- segments that agree up to the first end of both have as many edges
  same_edges : (edges_from a with_sides < edges_from b against_sides → edges_from a with_sides < first_differing a b)
      → (edges_from b against_sides < edges_from a with_sides → edges_from b against_sides < first_differing a b) → edges_from a with_sides ≡ edges_from b against_sides
  same_edges f g = go (dec_lt (edges_from a with_sides) (edges_from b against_sides)) (dec_lt (edges_from b against_sides) (edges_from a with_sides))
    where
      go : Dec (edges_from a with_sides < edges_from b against_sides) → Dec (edges_from b against_sides < edges_from a with_sides) → edges_from a with_sides ≡ edges_from b against_sides
      go (yes h) k =
          clash _ (ends_there a w c.accepted_first start_first with_sides)
          ((agrees_before _ (f h)).mark ∙ unmarked_before b w c.accepted_second start_second against_sides (edges_from a with_sides) (edges_some a with_sides) h)
      go (no h) (yes k) =
          clash _ ((agrees_before _ (g k)).mark ∙ ends_there b w c.accepted_second start_second against_sides)
          (unmarked_before a w c.accepted_first start_first with_sides (edges_from b against_sides) (edges_some b against_sides) k)
      go (no h) (no k) = omega arith

  -- no step differs
  all_agree : first_differing a b ≡ suc (edges_from a with_sides) → edges_from a with_sides ≡ edges_from b against_sides
  all_agree e = same_edges (λ h. omega arith) (λ h. omega arith)

  -- a step that differs up to the next mark of the second net is a step of the first segment too
  pub differs_within : first_differing a b ≤ edges_from b against_sides → first_differing a b ≤ edges_from a with_sides
  differs_within h = go (dec_lt (edges_from a with_sides) (first_differing a b))
    where
      go : Dec (edges_from a with_sides < first_differing a b) → first_differing a b ≤ edges_from a with_sides
      go (yes k) = let e = same_edges (λ _. k) (λ j. omega arith) in omega arith
      go (no k) = omega arith

  -- and is the place of 18
  pub differs_refused : first_differing a b ≤ edges_from b against_sides → seam_verdict a b w ≡ refused 18 (first_differing a b)
  differs_refused h =
      let k = differs_within h in
      compared ∙ sym (last_hit 18 (differs a b) (suc (edges_from a with_sides)) (λ i. i) (first_differing a b) refl (omega arith))

  -- without one both segments have as many edges, and the answer is yes
  pub agrees_edges : edges_from b against_sides < first_differing a b → edges_from a with_sides ≡ edges_from b against_sides
  agrees_edges h = same_edges (λ k. omega arith) (λ k. h)

  pub agrees_accepted : edges_from b against_sides < first_differing a b → seam_verdict a b w ≡ accepted
  agrees_accepted h =
      let e = agrees_edges h in
      compared ∙ sym (last_pass 18 (differs a b) (suc (edges_from a with_sides)) (λ i. i) (first_differing a b) refl (omega arith))

  pub agrees_reported : edges_from b against_sides < first_differing a b → seam_edges a b w ≡ edges_from b against_sides
  agrees_reported h = edges_of_lem a b w (agrees_accepted h) ∙ agrees_edges h

  -- ---- a yes gives one list
  matching : first_differing a b ≡ suc (edges_from a with_sides) → Matching a b w (edges_from a with_sides)
  unfolding points step_at
  matching f =
      let n : ℕ = edges_from a with_sides in
      let k = all_agree f in
      let x = alike_if a b c.alike in
      let pa : ℕ → Point = λ i. point_of (control_tables a.net) (step_at a with_sides i) in
      let pb : ℕ → Point = λ i. point_of (control_tables b.net) (step_at b against_sides i) in
      let e : tabulate (suc n) pa ≡ tabulate (suc n) pb = tabulate_cong (suc n) pa pb (λ i h. (agrees_before i (omega arith)).point) in
      let j : tabulate (suc n) pa ≡ tabulate (suc (edges_from b against_sides)) pb = e ∙ ap (λ (i : ℕ). tabulate (suc i) pb) k in
      record {
        accepted_first = c.accepted_first;
        accepted_second = c.accepted_second;
        tensions = x.0;
        sides = x.1;
        list = tabulate (suc n) pa;
        shared = record {
          left = segment a w c.accepted_first start_first with_sides;
          right = rw j (segment b w c.accepted_second start_second against_sides);
        };
        edges = length-tabulate (suc n) pa;
      }

-- ---- and one list gives a yes
module _ (a b : SeamSide) (w e : ℕ) (r : Matching a b w e) where
  abbrev good_first : GoodStart a
  good_first = start_read a w r.accepted_first with_sides r.list r.shared.left

  abbrev good_second : GoodStart b
  good_second = start_read b w r.accepted_second against_sides r.list r.shared.right

  edges_first : edges_from a with_sides ≡ e
  edges_first = let x = read_length a w r.accepted_first good_first with_sides r.list r.shared.left in let y = r.edges in omega arith

  edges_second : edges_from b against_sides ≡ e
  edges_second = let x = read_length b w r.accepted_second good_second against_sides r.list r.shared.right in let y = r.edges in omega arith

  agrees : (i : ℕ) → i ≤ e → Agrees a b i
  unfolding step_at vertex_at iterate
  agrees i h = record {
    point =
        let d : Point = point_of (control_tables a.net) 0 in
        sym (read_point a w r.accepted_first good_first with_sides r.list r.shared.left i d (omega (arith, edges_first)))
        ∙ read_point b w r.accepted_second good_second against_sides r.list r.shared.right i d (omega (arith, edges_second));
    mark = mark (ℕ_discrete i 0) (ℕ_discrete i e);
  }
    where
      mark : Dec (i ≡ 0) → Dec (i ≡ e) → marked a.net.marks (step_at a with_sides i) ≡ marked b.net.marks (step_at b against_sides i)
      mark (yes z) k = rw z (good_first.mark ∙ sym good_second.mark)
      mark (no z) (yes k) =
          ap (λ (j : ℕ). marked a.net.marks (step_at a with_sides j)) (k ∙ sym edges_first)
          ∙ ends_there a w r.accepted_first good_first with_sides
          ∙ sym (ends_there b w r.accepted_second good_second against_sides)
          ∙ ap (λ (j : ℕ). marked b.net.marks (step_at b against_sides j)) (edges_second ∙ sym k)
      mark (no z) (no k) =
          unmarked_before a w r.accepted_first good_first with_sides i (omega arith) (omega (arith, edges_first))
          ∙ sym (unmarked_before b w r.accepted_second good_second against_sides i (omega arith) (omega (arith, edges_second)))

  answered : seam_verdict a b w ≡ accepted
  answered =
      let c : NoneBeforeSteps a b w = record {
        accepted_first = r.accepted_first;
        accepted_second = r.accepted_second;
        good_first = if_start a good_first;
        good_second = if_start b good_second;
        alike = if_alike a b r.tensions r.sides;
      } in
      let n = first_none (differs a b) (suc (edges_from a with_sides)) (λ i h t. clash (differs a b i) t (if_agrees a b i (agrees i (omega (arith, edges_first))))) in
      agrees_accepted a b w c (omega (arith, edges_first, edges_second))

pub yes_exactly : YesExactly
yes_exactly = record {
  yes = λ a b w e. (
    (λ x. let y = passed_if a b w x.0 in subst (Matching a b w) (sym (edges_of_lem a b w x.0) ∙ x.1) (matching a b w y.0 y.1)),
    (λ r. (answered a b w e r, edges_of_lem a b w (answered a b w e r) ∙ edges_first a b w e r)),
  );
}

-- Readings: at most one of each kind and way from a vertex, on a manifold net one where 01 has one, and how long they are.
use mathlib.Core.Path.{◌≡◌, refl, sym, subst, ap, ◌∙◌}
use mathlib.Core.Bool.{Bool, true, false}
use mathlib.Core.Logic.{◌↔◌}
use mathlib.Core.List.{List}
use Prim.Native.Nat.{ℕ, zero, suc, ◌≤◌, ◌<◌}
use native.Mathlib.Decide.{dec_lt}
use native.Mathlib.Omega.{arith}
use lib.ListN.{length}
use lib.Dec.{eqb}
use borrow.Author.Tests.{eq-eqb, eqb-true}
use Rattle.lists.proofs.Tabulate.{length-tabulate}
use Rattle.search.specs.Search.{first, iterate}
use Rattle.search.proofs.Tests.{clash}
use Rattle.search.proofs.First.{first_holds, first_before}
use Rattle.nets.specs.Net.{Net, marked, point_of}
use Rattle.curve.specs.Curve.{Kind, Open, Closed, Point}
use Rattle.topology.specs.Shape.{Shape}
use Rattle.topology.specs.HalfEdge.{from}
use Rattle.topology.specs.Boundary.{boundary_from, Way, boundary_step}
use Rattle.topology.proofs.Boundary.{boundary_from_on, boundary_from_at, from_inj}
use Rattle.topology.proofs.Loops.{loop_three, steps_meet}
use Rattle.seam.specs.Reading.{vertex_at, points, OpenReading, ClosedReading, ReadsIn}
use Rattle.seam.specs.Seam.{AdmissibleIn}
use Rattle.seam.proofs.Vertices.{half_edge_on, vertex_at_lem}

-- ---- at most one
same_number : (e f : ℕ) → (e < f → ⊥) → (f < e → ⊥) → e ≡ f
same_number e f a b = go (dec_lt e f) (dec_lt f e)
  where
    go : Dec (e < f) → Dec (f < e) → e ≡ f
    go (yes h) k = absurd (a h)
    go (no h) (yes k) = absurd (b k)
    go (no h) (no k) = omega arith

reads_one : (S : Shape) (m : Net) (way : Way) (c : Kind) (u : ℕ) (L M : List Point) → ReadsIn S m way c u L → ReadsIn S m way c u M → L ≡ M
reads_one S m way Open u L M r t =
    let n : r.edges ≡ t.edges =
    same_number r.edges t.edges
    (λ h. clash (marked m.marks (vertex_at S m.faces way u r.edges)) r.ends (t.between r.edges r.some h))
    (λ h. clash (marked m.marks (vertex_at S m.faces way u t.edges)) t.ends (r.between t.edges t.some h)) in
    cc
reads_one S m way Closed u L M r t =
    let n : r.edges ≡ t.edges =
    same_number r.edges t.edges (λ h. t.once r.edges r.some h r.returns) (λ h. r.once t.edges t.some h t.returns) in
    cc

-- one that is there is the only one
pub reads_only : (S : Shape) (m : Net) (way : Way) (c : Kind) (u : ℕ) (L : List Point) → ReadsIn S m way c u L → (P : List Point) → ReadsIn S m way c u P ↔ (P ≡ L)
reads_only S m way c u L r P = ((λ t. reads_one S m way c u P L t r), (λ e. subst (λ (l : List Point). ReadsIn S m way c u l) (sym e) r))

-- and not of both kinds
pub kinds_apart : (S : Shape) (m : Net) (way way' : Way) (u : ℕ) (L M : List Point) → ReadsIn S m way Open u L → ReadsIn S m way' Closed u M → ⊥
unfolding vertex_at iterate
kinds_apart S m way way' u L M r t = clash (marked m.marks u) r.starts (t.unmarked 0)

-- ---- how long
length-points : (S : Shape) (m : Net) (way : Way) (u n : ℕ) → length (points S m way u n) ≡ n
unfolding points
length-points S m way u n = length-tabulate n (λ (i : ℕ). point_of m (vertex_at S m.faces way u i))

-- "Open lists have two points or more, round ones three or more."
pub open_long : (S : Shape) (m : Net) (way : Way) (u : ℕ) (L : List Point) → OpenReading S m way u L → 2 ≤ length L
open_long S m way u L r = omega (arith, simp length-points at (ap length r.list), r.some)

module _ (S : Shape) (m : Net) (ok : AdmissibleIn S m) (way : Way) (u : ℕ) where
  -- back at u the half-edge is that which leaves u
  pub loop_closed : boundary_from S m.faces u < length m.faces → (n : ℕ) → vertex_at S m.faces way u n ≡ u
      → iterate (boundary_step S m.faces way) n (boundary_from S m.faces u) ≡ boundary_from S m.faces u
  loop_closed b n e =
      let v : ℕ = length m.marks in
      let l : List ℕ = m.faces in
      let h : ℕ = boundary_from S l u in
      from_inj S v l ok (iterate (boundary_step S l way) n h) h (half_edge_on S v l ok way u b n) (boundary_from_on S l u b)
      (sym (vertex_at_lem S v l ok way u b n) ∙ e ∙ sym (boundary_from_at S l u b))

  pub three_edges : (n : ℕ) → boundary_from S m.faces u < length m.faces → 0 < n → vertex_at S m.faces way u n ≡ u → 3 ≤ n
  three_edges n b z e =
      loop_three S (length m.marks) m.faces ok way n (boundary_from S m.faces u) (boundary_from_on S m.faces u b) z (loop_closed b n e)

  pub closed_long : (L : List Point) → ClosedReading S m way u L → 3 ≤ length L
  closed_long L r = omega (arith, simp length-points at (ap length r.list), three_edges r.edges r.boundary r.some r.returns)

  -- ---- there is one
  -- a test on vertices that holds at u holds again further on
  next_place : boundary_from S m.faces u < length m.faces → (stop : ℕ → Bool) → stop u ≡ true
      → (e : ℕ) × (stop (vertex_at S m.faces way u (suc e)) ≡ true) × ((i : ℕ) → i < e → stop (vertex_at S m.faces way u (suc i)) ≡ false)
  next_place b stop t =
      let v : ℕ = length m.marks in
      let l : List ℕ = m.faces in
      let h : ℕ = boundary_from S l u in
      let q : ℕ → Bool = λ k. stop (from l (iterate (boundary_step S l way) (suc k) h)) in
      let c = steps_meet S v l ok way h (boundary_from_on S l u b) (λ (g : ℕ). stop (from l g)) (ap stop (boundary_from_at S l u b) ∙ t) in (
        first q (length l),
        ap stop (vertex_at_lem S v l ok way u b (suc (first q (length l)))) ∙ first_holds q (length l) c,
        λ i k. ap stop (vertex_at_lem S v l ok way u b (suc i)) ∙ first_before q (length l) i k,
      )

  pub open_exists : boundary_from S m.faces u < length m.faces → marked m.marks u ≡ true → (L : List Point) × OpenReading S m way u L
  open_exists b t =
      let p = next_place b (marked m.marks) t in (
        _,
        record {
          boundary = b;
          starts = t;
          edges = suc p.0;
          some = omega arith;
          between = between p.0 p.2;
          ends = p.1;
          list = refl;
        },
      )
    where
      between : (e : ℕ) → ((i : ℕ) → i < e → marked m.marks (vertex_at S m.faces way u (suc i)) ≡ false) → (i : ℕ) → 0 < i → i < suc e → marked m.marks (vertex_at S m.faces way u i) ≡ false
      between e f zero a c = absurd (omega arith)
      between e f (suc i) a c = f i (omega arith)

  pub closed_exists : boundary_from S m.faces u < length m.faces → ((i : ℕ) → marked m.marks (vertex_at S m.faces way u i) ≡ false) → (L : List Point) × ClosedReading S m way u L
  closed_exists b t =
      let p = next_place b (λ (x : ℕ). eqb x u) (eq-eqb u u refl) in (
        _,
        record {
          boundary = b;
          unmarked = t;
          edges = suc p.0;
          some = omega arith;
          once = once p.0 p.2;
          returns = eqb-true (vertex_at S m.faces way u (suc p.0)) u p.1;
          list = refl;
        },
      )
    where
      once : (e : ℕ) → ((i : ℕ) → i < e → eqb (vertex_at S m.faces way u (suc i)) u ≡ false) → (i : ℕ) → 0 < i → i < suc e → vertex_at S m.faces way u i ≡ u → ⊥
      once e f zero a c x = absurd (omega arith)
      once e f (suc i) a c x = clash (eqb (vertex_at S m.faces way u (suc i)) u) (eq-eqb (vertex_at S m.faces way u (suc i)) u x) (f i (omega arith))

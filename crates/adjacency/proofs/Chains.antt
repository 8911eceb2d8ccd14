-- Laws of chains and mates in a table.
use mathlib.Core.Path.{◌≡◌, refl, sym, ◌∙◌}
use mathlib.Core.Bool.{Bool, true, false}
use mathlib.Core.List.{List}
use Prim.Native.Nat.{ℕ, ◌+◌, ◌-◌, ◌*◌, ◌≤◌, ◌<◌}
use native.Mathlib.Nat.{le_refl, sub-zero}
use native.Mathlib.Decide.{ℕ_discrete}
use native.Mathlib.Omega.{arith}
use lib.ListN.{length, get_or, set, drop, length-set}
use lib.Dec.{leb}
use lib.Seq.{get_or-set_same, get_or-set_other}
use borrow.Author.Tests.{eq-eqb, eqb-true, leb-false}
use Rattle.search.specs.Search.{first}
use Rattle.search.proofs.Tests.{refuted, clash, or_left}
use Rattle.search.proofs.First.{from_le, from_ge, from_holds, from_before, from_hit, from_pass, from_end, Passed, passed_start, passed_skip, passed_next, passed_hit, passed_end, first_before}
use Rattle.lists.proofs.Parts.{drop_later}
use Rattle.topology.specs.Shape.{Shape, Lawful}
use Rattle.topology.specs.HalfEdge.{from, mate}
use Rattle.topology.specs.Vertex.{leaves}
use Rattle.refusals.specs.Refusals.{bad_corner}
use Rattle.polygons.specs.Polygons.{shape_of}
use Rattle.polygons.proofs.Counts.{shape_lawful}
use Rattle.tables.proofs.Laws.{same_rest}
use Rattle.halfedges.specs.Tables.{MateTableOf}
use Rattle.sidetable.proofs.Table.{shaped_kept}
use Rattle.adjacency.specs.Chains.{chain_from, CornersBelow, Tables, Chained}

-- ---- the first half-edge from i on that leaves v

pub leaves_if : (l : List ℕ) (v g : ℕ) → get_or l g 0 ≡ v → leaves l v g ≡ true
unfolding leaves from
leaves_if l v g e = eq-eqb (get_or l g 0) v e

leaves_at : (l : List ℕ) (v g : ℕ) → leaves l v g ≡ true → get_or l g 0 ≡ v
unfolding leaves from
leaves_at l v g t = eqb-true (get_or l g 0) v t

chain_here : (l : List ℕ) (g : ℕ) → g < length l → chain_from l (get_or l g 0) g ≡ g
unfolding chain_from
chain_here l g h = from_hit (leaves l (get_or l g 0)) (length l) g h (leaves_if l (get_or l g 0) g refl)

chain_past : (l : List ℕ) (v g : ℕ) → g < length l → (get_or l g 0 ≡ v → ⊥) → chain_from l v g ≡ chain_from l v (g + 1)
unfolding chain_from
chain_past l v g h n = from_pass (leaves l v) (length l) g h (refuted (leaves l v g) (λ t. n (leaves_at l v g t)))

chain_end : (l : List ℕ) (v : ℕ) → chain_from l v (length l) ≡ length l
unfolding chain_from
chain_end l v = from_end (leaves l v) (length l) (length l) (le_refl _)

pub chain_first : (l : List ℕ) (v : ℕ) → chain_from l v 0 ≡ first (leaves l v) (length l)
unfolding chain_from first
chain_first l v = rw sub-zero

chain_ge : (l : List ℕ) (v i : ℕ) → i ≤ chain_from l v i
unfolding chain_from
chain_ge l v i = from_ge (leaves l v) (length l - i) i

-- none between i and it leaves v
pub chain_gap : (l : List ℕ) (v i j : ℕ) → i ≤ j → j < chain_from l v i → leaves l v j ≡ false
unfolding chain_from
chain_gap l v i j a b = from_before (leaves l v) (length l - i) i j a b

-- where a walk along the chain of v stands
pub record OnChain (l : List ℕ) (v g : ℕ) : Type 0 where
  pub within : g ≤ length l
  pub leaving : g < length l → get_or l g 0 ≡ v

pub on_chain : (l : List ℕ) (v i : ℕ) → i ≤ length l → OnChain l v (chain_from l v i)
unfolding chain_from
on_chain l v i h =
    let d : i + (length l - i) ≡ length l = omega arith in
    record {
      within = rw d at (from_le (leaves l v) (length l - i) i);
      leaving = λ t. leaves_at l v _ (from_holds (leaves l v) (length l - i) i (rw d t));
    }

-- a search q that only half-edges that leave v pass goes along the chain of v
passed_chain : (q : ℕ → Bool) (l : List ℕ) (v i : ℕ) → ((j : ℕ) → q j ≡ true → leaves l v j ≡ true) → Passed q i → Passed q (chain_from l v i)
passed_chain q l v i imp w = passed_skip q i (chain_from l v i) w (λ j a b. refuted (q j) (λ t. clash (leaves l v j) (imp j t) (chain_gap l v i j a b)))

-- ---- the table, half-edge by half-edge

-- the half-edge j goes to the front of the chain of its vertex
module _ (l w : List ℕ) (j : ℕ) (ok : CornersBelow (length l) l) (r : 3 * length l ≤ length w) (lt : j < length l) (was : Chained l w (j + 1)) where
  relinked : List ℕ
  relinked = set w (2 * length l + j) (get_or w (length l + get_or l j 0) 0)

  link_head : (v : ℕ) → v < length l → Dec (v ≡ get_or l j 0) → get_or (set relinked (length l + get_or l j 0) j) (length l + v) 0 ≡ chain_from l v j
  unfolding relinked
  link_head v h (yes e) =
      let b = ok.below j lt in
      rw e (get_or-set_same relinked (length l + get_or l j 0) j 0 (simp length-set (omega arith)) ∙ sym (chain_here l j lt))
  link_head v h (no n) =
      get_or-set_other relinked (length l + get_or l j 0) (length l + v) j 0 (omega arith)
      ∙ get_or-set_other w (2 * length l + j) (length l + v) (get_or w (length l + get_or l j 0) 0) 0 (omega arith)
      ∙ was.heads v h
      ∙ sym (chain_past l v j lt (λ e. n (sym e)))

  link_next : (g : ℕ) → j ≤ g → g < length l → Dec (g ≡ j) → get_or (set relinked (length l + get_or l j 0) j) (2 * length l + g) 0 ≡ chain_from l (get_or l g 0) (g + 1)
  unfolding relinked
  link_next g h k (yes e) =
      let b = ok.below j lt in
      rw e (get_or-set_other relinked (length l + get_or l j 0) (2 * length l + j) j 0 (omega arith)
      ∙ get_or-set_same w (2 * length l + j) (get_or w (length l + get_or l j 0) 0) 0 (omega arith)
      ∙ was.heads (get_or l j 0) b)
  link_next g h k (no n) =
      let b = ok.below j lt in
      get_or-set_other relinked (length l + get_or l j 0) (2 * length l + g) j 0 (omega arith)
      ∙ get_or-set_other w (2 * length l + j) (2 * length l + g) (get_or w (length l + get_or l j 0) 0) 0 (omega arith)
      ∙ was.nexts g (omega arith) k

  pub chained_link : Chained l (set (set w (2 * length l + j) (get_or w (length l + get_or l j 0) 0)) (length l + get_or l j 0) j) j
  unfolding relinked
  chained_link = record {
    heads = λ v h. link_head v h (ℕ_discrete v (get_or l j 0));
    nexts = λ g h k. link_next g h k (ℕ_discrete g j);
  }

-- all heads are none
pub chained_none : (l w : List ℕ) → ((v : ℕ) → v < length l → get_or w (length l + v) 0 ≡ length l) → Chained l w (length l)
chained_none l w f = record {
  heads = λ v h. f v h ∙ sym (chain_end l v);
  nexts = λ g a b. let z : ⊥ = omega arith in absurd z;
}

-- ---- what the tables depend on

pub chained_cong : (l w w' : List ℕ) (h : ℕ) → ((i : ℕ) → length l ≤ i → i < 3 * length l → get_or w' i 0 ≡ get_or w i 0) → Chained l w h → Chained l w' h
chained_cong l w w' h f c = record {
  heads = λ v a. f (length l + v) (omega arith) (omega arith) ∙ c.heads v a;
  nexts = λ g a b. f (2 * length l + g) (omega arith) (omega arith) ∙ c.nexts g a b;
}

-- the first n do not count for the chains
pub chained_drop : (l w w' : List ℕ) (h : ℕ) → drop (length l) w' ≡ drop (length l) w → Chained l w h → Chained l w' h
chained_drop l w w' h e c = chained_cong l w w' h (λ i a b. same_rest (length l) w w' e i a) c

-- past m all is as it was
pub tables_kept : (s l w w' : List ℕ) (m : ℕ) → m ≤ 4 * length l → length w' ≡ length w → drop m w' ≡ drop m w → Tables s l w → Tables s l w'
tables_kept s l w w' m h e d t = record {
  shaped = shaped_kept s (length l) w w' e (drop_later m (4 * length l) w' w h d) t.shaped;
  few = t.few;
  corners = t.corners;
  room = omega (arith, t.room);
}

pub tables_lawful : (s l w : List ℕ) → Tables s l w → Lawful (shape_of s) (length l)
tables_lawful s l w t = shape_lawful s (length l) t.shaped.space.sided

pub next_within : (s l w : List ℕ) (g : ℕ) → Tables s l w → g < length l → (shape_of s).next g < length l
next_within s l w g t b = (tables_lawful s l w t).next_lt g b

pub prev_within : (s l w : List ℕ) (g : ℕ) → Tables s l w → g < length l → (shape_of s).prev g < length l
prev_within s l w g t b = (tables_lawful s l w t).prev_lt g b

-- ---- corners in range

pub corners_below_le : (u v : ℕ) (l : List ℕ) → u ≤ v → CornersBelow u l → CornersBelow v l
corners_below_le u v l h r = record { below = λ g a. omega (arith, r.below g a) }

-- 7 holds nowhere
pub corners_below_if : (S : Shape) (v : ℕ) (l : List ℕ) → first (bad_corner S v l) (length l) ≡ length l → CornersBelow v l
unfolding bad_corner from
corners_below_if S v l e = record { below = λ g h. leb-false v (get_or l g 0) (or_left (leb v (get_or l g 0)) _ (first_before (bad_corner S v l) (length l) g (omega arith))) }

-- ---- a walk along the chain of v, in search of a half-edge that passes q

pub record Walk (q : ℕ → Bool) (l : List ℕ) (v g : ℕ) : Type 0 where
  pub chain : OnChain l v g
  pub passed : Passed q g

module _ (q : ℕ → Bool) (l w : List ℕ) (v : ℕ) (imp : (j : ℕ) → q j ≡ true → leaves l v j ≡ true) (c : Chained l w 0) where
  pub walk_start : v < length l → Walk q l v (get_or w (length l + v) 0)
  walk_start h = let e = c.heads v h in rw e (record {
    chain = on_chain l v 0 (omega arith);
    passed = passed_chain q l v 0 imp (passed_start q);
  })

  pub walk_turn : (g : ℕ) → Walk q l v g → g < length l → q g ≡ false → Walk q l v (get_or w (2 * length l + g) 0)
  walk_turn g k h f =
      let e = c.nexts g (omega arith) h in
      let b = k.chain.leaving h in
      rw (e, b) (record {
        chain = on_chain l v (g + 1) (omega arith);
        passed = passed_chain q l v (g + 1) imp (passed_next q g k.passed f);
      })

pub walk_rises : (l w : List ℕ) (g : ℕ) → Chained l w 0 → g < length l → g < get_or w (2 * length l + g) 0
walk_rises l w g c h = let e = c.nexts g (omega arith) h in let b = chain_ge l (get_or l g 0) (g + 1) in omega arith

module _ (q : ℕ → Bool) (l : List ℕ) (v g : ℕ) (k : Walk q l v g) where
  pub walk_hit : g < length l → q g ≡ true → g ≡ first q (length l)
  walk_hit h t = passed_hit q (length l) g k.passed h t

  pub walk_end : length l ≤ g → g ≡ first q (length l)
  walk_end h = passed_end q (length l) g k.passed k.chain.within h

-- ---- the mates of the half-edges below h are written
pub record MatedBelow (S : Shape) (l w : List ℕ) (h : ℕ) : Type 0 where
  pub mates : (g : ℕ) → g < h → get_or w g 0 ≡ mate S l g

pub mated_all : (S : Shape) (l w : List ℕ) (h : ℕ) → length l ≤ h → MatedBelow S l w h → MateTableOf S l w
mated_all S l w h b m = record { mates = λ g a. m.mates g (omega arith) }

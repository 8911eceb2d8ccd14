-- The edges by the mates of an oriented net are its edges. Assumes nothing.
use mathlib.Core.Path.{◌≡◌, sym, ap, ◌∙◌}
use mathlib.Core.List.{List}
use Prim.Native.Nat.{ℕ, ◌+◌, ◌*◌, ◌≤◌, ◌<◌, min}
use native.Mathlib.Omega.{arith}
use lib.ListN.{length, get_or, take, drop}
use lib.Seq.{length-take-le, get_or-take, ext_get_or}
use lib.Dec.{ltb}
use Rattle.bounds.specs.Bounds.{max_half_edges}
use Rattle.search.specs.Search.{count}
use Rattle.search.proofs.Count.{count-le, count_cong}
use Rattle.topology.specs.Shape.{Shape}
use Rattle.topology.specs.HalfEdge.{mate, first_met, edge_count, edge}
use Rattle.topology.specs.Manifold.{Oriented}
use Rattle.topology.proofs.Mates.{mate_not, mate-back}
use Rattle.refinedfaces.specs.Mates.{mates}
use Rattle.refinedfaces.proofs.Tables.{length-mates, get_or-mates}
use Rattle.tables.specs.Tables.{filled}
use Rattle.tables.proofs.Laws.{filled_at, drop-filled, length-filled}
use Rattle.edgenumbers.specs.Edges.{met_by, edge_count_by, edge_by, with_edges, Paired, PairedIn, Numbered}
use Rattle.edgenumbers.proofs.Edges.{length_with, with_mate, with_edge}

pub edge-le : (S : Shape) (l : List ℕ) (h : ℕ) → edge S l h ≤ h
unfolding edge
edge-le S l h = let a = count-le (first_met S l) (min h (mate S l h)) in omega arith

module _ (S : Shape) (l : List ℕ) where
  met_mates : (h : ℕ) → h < length l → met_by (mates S l) h ≡ first_met S l h
  unfolding met_by first_met
  met_mates h k = ap (ltb h) (get_or-mates S l h k)

  -- how many edges there are
  count-mates : edge_count_by (mates S l) ≡ edge_count S l
  unfolding edge_count_by edge_count
  count-mates = ap (count (met_by (mates S l))) (length-mates S l) ∙ count_cong (met_by (mates S l)) (first_met S l) (length l) met_mates

  -- the number of the edge of h
  edge-mates : (h : ℕ) → h < length l → edge_by (mates S l) h ≡ edge S l h
  unfolding edge_by edge
  edge-mates h k =
      ap (λ (m : ℕ). count (met_by (mates S l)) (min h m)) (get_or-mates S l h k)
      ∙ count_cong (met_by (mates S l)) (first_met S l) (min h (mate S l h)) (λ g b. met_mates g (omega arith))

  paired_mates : (v : ℕ) → Oriented S v l → Paired (mates S l)
  paired_mates v ok =
      let n = length-mates S l in
      record {
        other = λ h k e. mate_not S v l ok h (omega arith) (sym (get_or-mates S l h (omega arith)) ∙ e);
        back = λ h k b.
            let a = get_or-mates S l h (omega arith) in
            ap (λ (g : ℕ). get_or (mates S l) g 0) a ∙ get_or-mates S l (mate S l h) (omega arith) ∙ mate-back S v l ok h (omega arith) (omega arith);
      }

  -- a table that starts with the mates of the net
  module _ (w : List ℕ) (r : length l ≤ length w) (f : (g : ℕ) → g < length l → get_or w g 0 ≡ mate S l g) where
    take_is_mates : take (length l) w ≡ mates S l
    take_is_mates =
        let a = length-mates S l in
        let b = length-take-le (length l) w r in
        ext_get_or 0 (take (length l) w) (mates S l) (omega arith) (λ i k. get_or-take (length l) w i 0 (omega arith) ∙ f i (omega arith) ∙ sym (get_or-mates S l i (omega arith)))

    pub edges_counted : edge_count_by (take (length l) w) ≡ edge_count S l
    edges_counted = ap edge_count_by take_is_mates ∙ count-mates

  -- and has room for the edge numbers behind them
  module _ (w : List ℕ) (r : 2 * length l ≤ length w) (f : (g : ℕ) → g < length l → get_or w g 0 ≡ mate S l g) where
    pub mates_paired : (v : ℕ) → Oriented S v l → length l ≤ max_half_edges → PairedIn (length l) w
    mates_paired v ok few = record { few = few; room = r; paired = rw (take_is_mates w (omega arith) f) (paired_mates v ok) }

    -- what `number_edges` leaves
    module _ (u : List ℕ) (e : u ≡ filled (with_edges (take (length l) w)) w) where
      length_front : length (with_edges (take (length l) w)) ≡ 2 * length l
      length_front = let a = length_with (take (length l) w) in let b = length-take-le (length l) w (omega arith) in omega arith

      pub edges_mates : (g : ℕ) → g < length l → get_or u g 0 ≡ mate S l g
      edges_mates g k =
          let a = length_front in
          let b = length-take-le (length l) w (omega arith) in
          ap (λ (x : List ℕ). get_or x g 0) e ∙ filled_at (with_edges (take (length l) w)) w 0 g (omega arith) ∙ with_mate (take (length l) w) g (omega arith) ∙ get_or-take (length l) w g 0 k ∙ f g k

      pub edges_numbered : Numbered S l u
      edges_numbered = record {
        numbers = λ g k.
            let a = length_front in
            let b = length-take-le (length l) w (omega arith) in
            ap (λ (x : List ℕ). get_or x (length l + g) 0) e ∙ filled_at (with_edges (take (length l) w)) w 0 (length l + g) (omega arith)
            ∙ ap (λ (j : ℕ). get_or (with_edges (take (length l) w)) (j + g) 0) (sym b) ∙ with_edge (take (length l) w) g (omega arith)
            ∙ ap (λ (x : List ℕ). edge_by x g) (take_is_mates w (omega arith) f) ∙ edge-mates g k;
      }

      pub edges_rest : drop (2 * length l) u ≡ drop (2 * length l) w
      edges_rest = let a = length_front in ap (drop (2 * length l)) e ∙ drop-filled (with_edges (take (length l) w)) w (2 * length l) (omega arith)

      pub edges_kept : length u ≡ length w
      edges_kept = let a = length_front in ap length e ∙ length-filled (with_edges (take (length l) w)) w (omega arith)

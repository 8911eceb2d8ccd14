-- One pass over the mates numbers the edges: a half-edge before its mate takes the next number, another its mate's. Assumes nothing.
use mathlib.Core.Path.{◌≡◌, sym, ap, ◌∙◌, subst}
use mathlib.Core.List.{List, ◌++◌}
use Prim.Native.Nat.{ℕ, ◌+◌, ◌*◌, ◌≤◌, ◌<◌, min}
use native.Mathlib.Numerals.{add-one}
use native.Mathlib.Omega.{arith}
use lib.ListN.{length, get_or, set, take, drop, length-append, take-append-drop, get_or-append}
use lib.Seq.{take_at, take_all, take-take, take-append-le, length-take-le, get_or-append-add, get_or-take}
use borrow.Author.Tests.{lt-ltb, le-ltb}
use Rattle.search.specs.Search.{count}
use Rattle.search.proofs.Count.{count_more, count_same}
use Rattle.lists.specs.Tabulate.{tabulate}
use Rattle.lists.proofs.Tabulate.{length-tabulate, get_or-tabulate}
use Rattle.lists.proofs.Prefix.{copy_one}
use Rattle.tables.specs.Tables.{filled}
use Rattle.edgenumbers.specs.Edges.{met_by, edge_count_by, edge_by, with_edges, Paired, PairedIn, NumberedBelow}

-- ---- one half-edge h with the mate m

module _ (ms : List ℕ) (h m : ℕ) (lt : h < length ms) (e : m ≡ get_or ms h 0) where
  -- the mate comes later, or there is none
  number_new : h < m → count (met_by ms) h ≡ edge_by ms h
  unfolding edge_by
  number_new b = let k : h ≡ min h (get_or ms h 0) = omega arith in ap (count (met_by ms)) k

  counted_new : h < m → count (met_by ms) h + 1 ≡ count (met_by ms) (h + 1)
  unfolding met_by
  counted_new b = rw (add-one h) (sym (count_more (met_by ms) h (lt-ltb h (get_or ms h 0) (omega arith))))

  -- the mate came before
  mate_before : Paired ms → m ≤ h → m < h
  mate_before ok b = let k = ok.other h lt in omega arith

  number_old : Paired ms → m ≤ h → edge_by ms m ≡ edge_by ms h
  unfolding edge_by
  number_old ok b =
      let d = mate_before ok b in
      let r : get_or ms m 0 ≡ h = ap (λ (x : ℕ). get_or ms x 0) e ∙ ok.back h lt (omega arith) in
      let k : min m (get_or ms m 0) ≡ min h (get_or ms h 0) = omega arith in
      ap (count (met_by ms)) k

  counted_old : m ≤ h → count (met_by ms) h ≡ count (met_by ms) (h + 1)
  unfolding met_by
  counted_old b = rw (add-one h) (sym (count_same (met_by ms) h (le-ltb h (get_or ms h 0) (omega arith))))

-- ---- in the table

module _ (n h : ℕ) (w : List ℕ) (lt : h < n) (ok : PairedIn n w) where
  mates-length : length (take n w) ≡ n
  mates-length = let r = ok.room in length-take-le n w (omega arith)

  mate_in : get_or w h 0 ≡ get_or (take n w) h 0
  mate_in = sym (get_or-take n w h 0 lt)

  pub side_new : h < get_or w h 0 → count (met_by (take n w)) h ≡ edge_by (take n w) h
  side_new b = let e = mates-length in number_new (take n w) h _ (omega arith) mate_in b

  pub met_new : h < get_or w h 0 → count (met_by (take n w)) h + 1 ≡ count (met_by (take n w)) (h + 1)
  met_new b = let e = mates-length in counted_new (take n w) h _ (omega arith) mate_in b

  pub side_old : NumberedBelow n h w → get_or w h 0 ≤ h → get_or w (n + get_or w h 0) 0 ≡ edge_by (take n w) h
  side_old was b =
      let e = mates-length in
      let k : h < length (take n w) = omega arith in
      was.numbers (get_or w h 0) (mate_before (take n w) h _ k mate_in ok.paired b) ∙ number_old (take n w) h _ k mate_in ok.paired b

  pub met_old : get_or w h 0 ≤ h → count (met_by (take n w)) h ≡ count (met_by (take n w)) (h + 1)
  met_old b = let e = mates-length in counted_old (take n w) h _ (omega arith) mate_in b

-- ---- the loop: the mates and the numbers of the edges below h are written

pub length_with : (ms : List ℕ) → length (with_edges ms) ≡ 2 * length ms
unfolding with_edges
length_with ms = let a = length-append ms (tabulate (length ms) (edge_by ms)) in let b = length-tabulate (length ms) (edge_by ms) in omega arith

pub with_mate : (ms : List ℕ) (h : ℕ) → h < length ms → get_or (with_edges ms) h 0 ≡ get_or ms h 0
unfolding with_edges
with_mate ms h b = get_or-append ms (tabulate (length ms) (edge_by ms)) 0 h b

pub with_edge : (ms : List ℕ) (h : ℕ) → h < length ms → get_or (with_edges ms) (length ms + h) 0 ≡ edge_by ms h
unfolding with_edges
with_edge ms h b = get_or-append-add ms (tabulate (length ms) (edge_by ms)) h 0 ∙ get_or-tabulate (length ms) (edge_by ms) h 0 b

module _ (n : ℕ) (w : List ℕ) (ok : PairedIn n w) where
  abbrev ms : List ℕ
  ms = take n w

  length_ms : length ms ≡ n
  length_ms = let r = ok.room in length-take-le n w (omega arith)

  length_all : length (with_edges ms) ≡ 2 * n
  length_all = let a = length_with ms in let b = length_ms in omega arith

  edge_all : (h : ℕ) → h < n → get_or (with_edges ms) (n + h) 0 ≡ edge_by ms h
  edge_all h b = let e = length_ms in subst (λ (k : ℕ). get_or (with_edges ms) (k + h) 0 ≡ edge_by ms h) e (with_edge ms h (omega arith))

  take-mates : take n (with_edges ms) ≡ ms
  unfolding with_edges
  take-mates = take_at ms (tabulate (length ms) (edge_by ms)) n length_ms

  pub numbering_none : w ≡ take (n + 0) (with_edges ms) ++ drop (n + 0) w
  numbering_none =
      let e : n ≡ n + 0 = omega arith in
      subst (λ (k : ℕ). w ≡ take k (with_edges ms) ++ drop k w) e (sym (ap (λ (x : List ℕ). x ++ drop n w) take-mates ∙ take-append-drop n w))

  pub numbering_next : (h : ℕ) (u : List ℕ) → h < n → u ≡ take (n + h) (with_edges ms) ++ drop (n + h) w
      → set u (n + h) (edge_by ms h) ≡ take (n + (h + 1)) (with_edges ms) ++ drop (n + (h + 1)) w
  numbering_next h u b e =
      let a = length_all in
      let r = ok.room in
      let s : n + h + 1 ≡ n + (h + 1) = omega arith in
      rw (e, ← edge_all h b, ← s) (copy_one (with_edges ms) w (n + h) 0 (omega arith) (omega arith))

  pub numbering_all : (h : ℕ) (u : List ℕ) → h ≡ n → u ≡ take (n + h) (with_edges ms) ++ drop (n + h) w → u ≡ filled (with_edges ms) w
  unfolding filled
  numbering_all h u b e =
      let a = length_all in
      let s : n + h ≡ length (with_edges ms) = omega arith in
      e ∙ ap (λ (k : ℕ). take k (with_edges ms) ++ drop k w) s ∙ ap (λ (x : List ℕ). x ++ drop (length (with_edges ms)) w) (take_all (length (with_edges ms)) (with_edges ms) (omega arith))

  module _ (h : ℕ) (u : List ℕ) (b : h ≤ n) (e : u ≡ take (n + h) (with_edges ms) ++ drop (n + h) w) where
    front : length (take (n + h) (with_edges ms)) ≡ n + h
    front = let a = length_all in length-take-le (n + h) (with_edges ms) (omega arith)

    -- the mates stay
    pub numbering_mates : take n u ≡ ms
    numbering_mates =
        let f = front in
        ap (take n) e ∙ take-append-le n (take (n + h) (with_edges ms)) (drop (n + h) w) (omega arith) ∙ take-take n (n + h) (with_edges ms) (omega arith) ∙ take-mates

    pub numbering_in : length u ≡ length w → PairedIn n u
    numbering_in k = record { few = ok.few; room = let r = ok.room in omega arith; paired = rw numbering_mates ok.paired }

    pub numbering_below : NumberedBelow n h u
    numbering_below = record {
      numbers = λ g c.
          let f = front in
          ap (λ (x : List ℕ). get_or x (n + g) 0) e ∙ get_or-append (take (n + h) (with_edges ms)) (drop (n + h) w) 0 (n + g) (omega arith)
          ∙ get_or-take (n + h) (with_edges ms) (n + g) 0 (omega arith) ∙ edge_all g (omega arith) ∙ ap (λ (x : List ℕ). edge_by x g) (sym numbering_mates);
    }

  pub counted_all : (h : ℕ) → h ≡ n → count (met_by ms) h ≡ edge_count_by ms
  unfolding edge_count_by
  counted_all h b = let e : h ≡ length ms = b ∙ sym length_ms in ap (count (met_by ms)) e

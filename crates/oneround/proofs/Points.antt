-- The points after both passes of a round are those of the refined net. Assumes nothing.
use mathlib.Core.Path.{◌≡◌, refl, sym, ap, ap₂, ◌∙◌}
use mathlib.Core.List.{List, ◌++◌, append_assoc}
use Prim.Native.Nat.{ℕ, ◌+◌, ◌-◌, ◌*◌, ◌/◌, ◌%◌, ◌≤◌, ◌<◌}
use native.Mathlib.Decide.{dec_lt}
use native.Mathlib.Omega.{arith}
use borrow.Rule.Slice.PartMut.{put_mid}
use lib.IntN.{ℤ, pos}
use lib.ListN.{length, get_or, take, drop, length-append, length-take, length-drop, get_or-append}
use lib.Seq.{take_all, take_at, drop_at, drop-drop, get_or-append-add, ext_get_or}
use Rattle.lists.specs.Tabulate.{tabulate}
use Rattle.lists.proofs.Tabulate.{length-tabulate, get_or-tabulate}
use Rattle.lists.proofs.Parts.{part_written}
use Rattle.curve.specs.Weights.{tension}
use Rattle.nets.specs.Net.{Net, front_net}
use Rattle.tables.specs.Tables.{filled}
use Rattle.nets.proofs.Laws.{same-net}
use Rattle.topology.specs.Shape.{quads}
use Rattle.topology.specs.HalfEdge.{edge_count}
use Rattle.refinedfaces.specs.Refined.{refined_vertices}
use Rattle.scheme.specs.Step.{step}
use Rattle.schemelaws.proofs.Coordinates.{refined_face_lem}
use Rattle.facerules.specs.Faces.{face_coordinate, face_coordinates}
use Rattle.edgetable.specs.EdgeTable.{Round, old_axis, refined_axis, edge_axis, Edges}
use Rattle.edgetable.proofs.Faces.{face_is_lem}

-- ---- two tables as one
tabulate_join : (a m : ℕ) (G F : ℕ → ℤ) → ((k : ℕ) → k < m → F k ≡ G (a + k)) → tabulate a G ++ tabulate m F ≡ tabulate (a + m) G
tabulate_join a m G F f =
    let la = length-tabulate a G in
    let lm = length-tabulate m F in
    let l : length (tabulate a G ++ tabulate m F) ≡ length (tabulate (a + m) G) = length-append (tabulate a G) (tabulate m F) ∙ ap₂ (λ (x y : ℕ). x + y) la lm ∙ sym (length-tabulate (a + m) G) in
    let r = length-tabulate (a + m) G in
    ext_get_or (pos 0) (tabulate a G ++ tabulate m F) (tabulate (a + m) G) l (λ k b. go k (omega arith) (dec_lt k a))
  where
    go : (k : ℕ) → k < a + m → Dec (k < a) → get_or (tabulate a G ++ tabulate m F) k (pos 0) ≡ get_or (tabulate (a + m) G) k (pos 0)
    go k b (yes j) =
        let la = length-tabulate a G in
        get_or-append (tabulate a G) (tabulate m F) (pos 0) k (omega arith)
        ∙ get_or-tabulate a G k (pos 0) j
        ∙ sym (get_or-tabulate (a + m) G k (pos 0) b)
    go k b (no j) =
        let la = length-tabulate a G in
        let e : length (tabulate a G) + (k - a) ≡ k = omega arith in
        let i : a + (k - a) ≡ k = omega arith in
        ap (λ (x : ℕ). get_or (tabulate a G ++ tabulate m F) x (pos 0)) (sym e)
        ∙ get_or-append-add (tabulate a G) (tabulate m F) (k - a) (pos 0)
        ∙ get_or-tabulate m F (k - a) (pos 0) (omega arith)
        ∙ f (k - a) (omega arith)
        ∙ ap G i
        ∙ sym (get_or-tabulate (a + m) G k (pos 0) b)

-- ---- after both passes
module _ (t : ℕ) (l marks : List ℕ) (p₀ : List ℤ) (w₀ : List ℕ) (at initial : ℕ) (ok : Round t l marks p₀ w₀ at initial) (p : List ℤ) (w : List ℕ)
    (done : Edges t l marks p₀ w₀ p w (length l) (edge_count quads l)) where
  face_refined : (a f : ℕ) → a < 3 → f < quads.faces (length l) → face_coordinate (tension t) (length l) w a f ≡ refined_axis (tension t) l marks p₀ a (length marks + edge_count quads l + f)
  unfolding refined_axis edge_axis
  face_refined a f k j = face_is_lem t l marks p₀ w₀ at initial ok p w done a f k j ∙ sym (refined_face_lem (tension t) (omega arith) (omega arith) (length marks) l marks ok.net (old_axis marks p₀ a) f j)

  abbrev first : ℕ
  first = 3 * (length marks + edge_count quads l)

  abbrev G : ℕ → ℤ
  G k = refined_axis (tension t) l marks p₀ (k % 3) (k / 3)

  face_entry : (k : ℕ) → k < 3 * (length l / 4) → face_coordinate (tension t) (length l) w (k % 3) (k / 3) ≡ G (first + k)
  unfolding quads
  face_entry k b =
      let q : (first + k) / 3 ≡ length marks + edge_count quads l + k / 3 = omega arith in
      let r : (first + k) % 3 ≡ k % 3 = omega arith in
      face_refined (k % 3) (k / 3) (omega arith) (omega arith) ∙ sym (ap₂ (refined_axis (tension t) l marks p₀) r q)

  -- the net, its points at the front of the table
  abbrev old : Net
  old = record { vertices = take (3 * length marks) p₀; faces = l; marks = marks }

  old_front : old ≡ front_net (length marks) (length l) p₀ l marks
  old_front = sym (same-net refl (take_all (length l) l (omega arith)) (take_all (length marks) marks (omega arith)))

  all_points : tabulate first G ++ face_coordinates (tension t) (length l) w ≡ (step (tension t) old).vertices
  unfolding face_coordinates step refined_axis old_axis quads
  all_points =
      let m : ℕ = 3 * (length l / 4) in
      let n : first + m ≡ 3 * refined_vertices quads (length marks) l = omega arith in
      tabulate_join first m G (λ (k : ℕ). face_coordinate (tension t) (length l) w (k % 3) (k / 3)) face_entry ∙ ap (λ (i : ℕ). tabulate i G) n

  points_all : (q y : List ℤ) → q ≡ put_mid first (length p - first) p y → y ≡ filled (face_coordinates (tension t) (length l) w) (take (length p - first) (drop first p))
      → q ≡ filled (step (tension t) old).vertices p₀
  unfolding filled
  points_all q y eq ey =
      let F : List ℤ = face_coordinates (tension t) (length l) w in
      let a : ℕ = first in
      let m : ℕ = length F in
      let e : p ≡ tabulate a G ++ drop a p₀ = done.points.points in
      let la = length-tabulate a G in
      let r = ok.room in
      let k = done.points.kept in
      let s : a + m ≡ length (step (tension t) old).vertices = ap (λ (i : ℕ). i + m) (sym la) ∙ sym (length-append (tabulate a G) F) ∙ ap length all_points in
      let tk : take a p ≡ tabulate a G = ap (take a) e ∙ take_at (tabulate a G) (drop a p₀) a la in
      let dk : drop a p ≡ drop a p₀ = ap (drop a) e ∙ drop_at (tabulate a G) (drop a p₀) a la in
      let dm : drop (a + m) p ≡ drop (a + m) p₀ = sym (drop-drop m a p) ∙ ap (drop m) dk ∙ drop-drop m a p₀ in
      eq
      ∙ part_written p F y a m (omega arith) ey
      ∙ ap₂ (λ (u v : List ℤ). u ++ (F ++ v)) tk dm
      ∙ sym (append_assoc (tabulate a G) F (drop (a + m) p₀))
      ∙ ap₂ (λ (u : List ℤ) (i : ℕ). u ++ drop i p₀) all_points s

  -- with r edges, the part from the first face point on
  module _ (r : ℕ) (er : r ≡ edge_count quads l) where
    pub face_room : 3 * (length l / 4) ≤ length (take (length p - 3 * (length marks + r)) (drop (3 * (length marks + r)) p))
    unfolding quads
    face_room =
        let a : ℕ = 3 * (length marks + r) in
        let k = done.points.kept in
        let q = ok.room in
        omega (arith, length-take (length p - a) (drop a p), length-drop a p)

    pub points_made : (y : List ℤ) → y ≡ filled (face_coordinates (tension t) (length l) w) (take (length p - 3 * (length marks + r)) (drop (3 * (length marks + r)) p))
        → put_mid (3 * (length marks + r)) (length p - 3 * (length marks + r)) p y ≡ filled (step (tension t) (front_net (length marks) (length l) p₀ l marks)).vertices p₀
    points_made y ey =
        points_all (put_mid (3 * (length marks + r)) (length p - 3 * (length marks + r)) p y) y
        (ap (λ (i : ℕ). put_mid (3 * (length marks + i)) (length p - 3 * (length marks + i)) p y) er)
        (ey ∙ ap (λ (i : ℕ). filled (face_coordinates (tension t) (length l) w) (take (length p - 3 * (length marks + i)) (drop (3 * (length marks + i)) p))) er)
        ∙ ap (λ (m : Net). filled (step (tension t) m).vertices p₀) old_front

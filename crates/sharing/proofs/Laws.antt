-- How the steps of the seam test fit together. Assumes nothing.
use mathlib.Core.Path.{◌≡◌, refl, sym, ap, ◌∙◌, subst}
use mathlib.Core.Bool.{true, false}
use mathlib.Core.List.{List}
use Prim.Native.Nat.{ℕ, suc, ◌+◌, ◌-◌, ◌*◌, ◌≤◌, ◌<◌}
use native.Mathlib.Decide.{dec_lt}
use native.Mathlib.Omega.{arith}
use lib.ListN.{length, get_or, drop, length-drop}
use lib.Seq.{get_or-drop, ext_get_or}
use Rattle.bounds.specs.Bounds.{max_faces}
use Rattle.lists.proofs.Parts.{drop_later}
use Rattle.topology.specs.HalfEdge.{from}
use Rattle.topology.specs.Boundary.{boundary_from, against_sides}
use Rattle.polygons.specs.Polygons.{shape_of}
use Rattle.tables.specs.Tables.{Written}
use Rattle.tables.proofs.Laws.{same_rest}
use Rattle.nets.specs.Net.{marked}
use Rattle.verdict.specs.Call.{lengths_of, alone_room}
use Rattle.verdict.specs.Verdict.{accepted, refused, verdict}
use Rattle.verdict.proofs.Accepted.{WithinLimits, accepted_limits, accepted_manifold}
use Rattle.splitting.proofs.Room.{control_vertices_le}
use Rattle.outcome.proofs.Accepted.{accepted_well_formed}
use Rattle.seamtest.specs.SeamTest.{SeamSide, alone_in, step_at, edges_from, bad_start, unlike, seam_verdict}
use Rattle.seamtest.proofs.Side.{start_if, on_boundary, edges_le, ends_there}
use Rattle.seamtest.proofs.Agree.{NoneBeforeSteps, first_differing, no_edges, differs_refused, agrees_accepted, agrees_reported}
use Rattle.halfedges.specs.Tables.{MateTableOf}
use Rattle.sidetable.specs.Table.{ShapeBuilt, Linked}
use Rattle.sidetable.proofs.Table.{shaped_kept}
use Rattle.boundarywalk.specs.Walkable.{Walkable, stepped, edges_to}
use Rattle.comparison.specs.Walks.{Comparable, first_apart}
use Rattle.comparison.proofs.Sides.{Starts, step_is, edges_is, sides_at, comparable, first-apart_is}
use Rattle.admission.proofs.Laws.{Corners, corners_of_lem}
use Rattle.std.specs.Prelude.{Ok, Err}
use Rattle.reasons.specs.declared.Reason.TheVariants.{InvalidStart, SeamMismatch}
use Rattle.reasons.specs.declared.Reason.{Reason}
use Rattle.reasons.specs.declared.Refusal.{Refusal}
use Rattle.reasons.specs.Reasons.{number}
use Rattle.sharing.specs.Walks.{faces_of, BothPassed, Started, Answered, LinkRoom, Relinked}

abbrev pub refusal : Reason → (place : ℕ) → Refusal
refusal r p = record { reason = r; place = p }

-- ---- a side whose net is accepted
module _ (a : SeamSide) (n : ℕ) (ok : verdict (alone_in a n) ≡ accepted) where
  within : WithinLimits 0 a.net.sides (lengths_of a.net (alone_room n))
  within = accepted_limits (alone_in a n) ok

  corners : Corners a.net.sides (length a.net.faces)
  corners = corners_of_lem a.net.sides (length a.net.faces) within.sided

  pub faces_few : faces_of a.net ≤ max_faces
  faces_few = within.faces

  pub faces_room : 16 * faces_of a.net ≤ n
  faces_room = let r = within.room_work in omega arith

  -- its net and its start, for walks
  pub starts : bad_start a ≡ false → (h : ℕ) → h ≡ boundary_from (shape_of a.net.sides) a.net.faces a.start → Starts a h
  starts g h e =
      let r = within in
      let p = r.points in
      let q = r.marked in
      record {
        net = accepted_manifold (alone_in a n) ok;
        threes = omega arith;
        few = let v = r.vertices in omega arith;
        half = e;
        lt = let b = on_boundary a n ok (start_if a g) in omega arith;
        mark = (start_if a g).mark;
      }

  -- room for its half-edges where 16f numbers are
  module _ (w : List ℕ) (f : ℕ) (le : faces_of a.net ≤ f) (room : 16 * f ≤ length w) where
    pub link_room : LinkRoom a.net.sides a.net.faces w
    unfolding from
    link_room =
        let c = corners in
        let k = c.four in
        let b = within.faces in
        let v = control_vertices_le a.net (accepted_well_formed (alone_in a n) ok) in
        record {
          shape = record { few = omega arith; sided = within.sided; room = λ p. let e = c.one p in omega arith };
          few = omega arith;
          corners = record { below = λ g h. let x = (accepted_manifold (alone_in a n) ok).oriented.below g h in omega arith };
          room = omega arith;
        }

    -- shape, chains and mates stand before the list
    pub before_list : 3 * length a.net.faces ≤ 12 * f
    before_list = let k = corners.four in omega arith

    pub shape_before_list : 0 < length a.net.sides → 7 * length a.net.faces ≤ 12 * f
    shape_before_list p = let e = corners.one p in omega arith

-- ---- shape, chains and mates built anew
module _ (s l w : List ℕ) (ok : LinkRoom s l w) (w₁ : List ℕ) (k₁ : length w₁ ≡ length w) (built : ShapeBuilt s (length l) w w₁) where
  pub relinked : (w₂ : List ℕ) → length w₂ ≡ length w₁ → MateTableOf (shape_of s) l w₂ → drop (3 * length l) w₂ ≡ drop (3 * length l) w₁ → Relinked s l w w₂
  relinked w₂ k₂ m d = record {
    linked = record {
      shaped = shaped_kept s (length l) w₁ w₂ k₂ (drop_later (3 * length l) (4 * length l) w₂ w₁ (omega arith) d) built.shaped;
      room = let r = ok.room in omega arith;
      mated = m;
    };
    rest = λ k c f. drop_later (3 * length l) k w₂ w₁ c d ∙ go k f (dec_lt 0 (length s));
  }
    where
      go : (k : ℕ) → (0 < length s → 7 * length l ≤ k) → Dec (0 < length s) → drop k w₁ ≡ drop k w
      go k f (yes b) = drop_later (7 * length l) k w₁ w (f b) built.outside.rest
      go k f (no b) = ap (drop k) (built.none (omega arith))

pub walkable : (a : SeamSide) (n : ℕ) → verdict (alone_in a n) ≡ accepted → (w : List ℕ) → Linked a.net.sides a.net.faces w → Walkable a.net.sides a.net.faces w
walkable a n ok w t = record { vertices = length a.net.marks; net = accepted_manifold (alone_in a n) ok; table = t }

-- ---- two accepted nets: what is refused before the steps are compared
module _ (a b : SeamSide) (f : ℕ) (w : List ℕ) (p : BothPassed a b f w) where
  answered : (r : Reason) (q : ℕ) → seam_verdict a b (length w) ≡ refused (number r) q → Answered a b f w (Err (refusal r q)) w
  answered r q e = record { verdict = sym e; edges = sym (no_edges a b (length w) (number r) q e); rest = refl }

  pub bad_first : bad_start a ≡ true → Answered a b f w (Err (refusal InvalidStart 1)) w
  unfolding seam_verdict
  bad_first t = answered InvalidStart 1 (rw (p.first, p.second, t) refl)

  pub bad_second : bad_start a ≡ false → bad_start b ≡ true → Answered a b f w (Err (refusal InvalidStart 2)) w
  unfolding seam_verdict
  bad_second g t = answered InvalidStart 2 (rw (p.first, p.second, g, t) refl)

  not_like : bad_start a ≡ false → bad_start b ≡ false → unlike a b ≡ true → Answered a b f w (Err (refusal SeamMismatch 0)) w
  unfolding seam_verdict
  not_like g h t = answered SeamMismatch 0 (rw (p.first, p.second, g, h, t) refl)

-- ---- two accepted nets and good starts
-- what is written up to e leaves the rest
written_rest : (i e : ℕ) (f : ℕ → ℕ) (w w' : List ℕ) → length w' ≡ length w → Written i e f w w' → drop e w' ≡ drop e w
written_rest i e f w w' k x =
    ext_get_or 0 (drop e w') (drop e w) (omega (arith, length-drop e w, length-drop e w'))
    (λ j b. get_or-drop e w' j 0 ∙ x.behind (e + j) (omega arith) ∙ sym (get_or-drop e w j 0))

-- w₁ is w with the list of the second segment, of e edges, from its half-edge g on
pub record SecondListed (b : SeamSide) (f : ℕ) (w : List ℕ) (g e : ℕ) (w₁ : List ℕ) : Type 0 where
  pub half : g ≡ boundary_from (shape_of b.net.sides) b.net.faces b.start
  pub edges : e ≡ edges_to (shape_of b.net.sides) b.net.faces b.net.marks true g
  pub kept : length w₁ ≡ length w
  pub list : Written (12 * f) (12 * f + e) (λ (j : ℕ). from b.net.faces (stepped (shape_of b.net.sides) b.net.faces true g (suc (j - 12 * f)))) w w₁

module _ (a b : SeamSide) (f : ℕ) (w : List ℕ) (s : Started a b f w) where
  abbrev p : BothPassed a b f w
  p = s.passed

  pub not_alike : unlike a b ≡ true → Answered a b f w (Err (refusal SeamMismatch 0)) w
  not_alike = not_like a b f w p s.first s.second

  starts_first : (h : ℕ) → h ≡ boundary_from (shape_of a.net.sides) a.net.faces a.start → Starts a h
  starts_first = starts a (length w) p.first s.first

  pub starts_second : (h : ℕ) → h ≡ boundary_from (shape_of b.net.sides) b.net.faces b.start → Starts b h
  starts_second = starts b (length w) p.second s.second

  pub walkable_second : Walkable b.net.sides b.net.faces w
  walkable_second = walkable b (length w) p.second w p.linked

  module _ (g e : ℕ) (w₁ : List ℕ) (l : SecondListed b f w g e w₁) where
    pub relink_room : LinkRoom a.net.sides a.net.faces w₁
    relink_room = let r = p.room in let k = l.kept in link_room a (length w) p.first w₁ f p.first_faces (omega arith)

    edges_second : e ≡ edges_from b against_sides
    edges_second = l.edges ∙ edges_is b g (starts_second g l.half) true

    few_edges : e ≤ 4 * f
    few_edges =
        let x = edges_le b (length w) p.second (start_if b s.second) against_sides in
        let y = edges_second in
        let z = (corners b (length w) p.second).four in
        let q = p.second_faces in
        omega arith

    -- w₂ has the first net's mates and shape besides, and h is its half-edge
    module _ (w₂ : List ℕ) (k₂ : length w₂ ≡ length w₁) (linked : Relinked a.net.sides a.net.faces w₁ w₂) (h : ℕ)
        (at_first : h ≡ boundary_from (shape_of a.net.sides) a.net.faces a.start) where
      pub walkable_first : Walkable a.net.sides a.net.faces w₂
      walkable_first = walkable a (length w) p.first w₂ linked.linked

      kept : drop (12 * f) w₂ ≡ drop (12 * f) w₁
      kept = linked.rest (12 * f) (before_list a (length w) p.first w f p.first_faces p.room) (shape_before_list a (length w) p.first w f p.first_faces p.room)

      listed : (i : ℕ) → i < edges_from b against_sides → get_or w₂ (12 * f + i) 0 ≡ step_at b against_sides (suc i)
      listed i c =
          let y = edges_second in
          let z : 12 * f + i - 12 * f ≡ i = omega arith in
          same_rest (12 * f) w₁ w₂ kept (12 * f + i) (omega arith)
          ∙ l.list.inside (12 * f + i) (omega arith) (omega arith)
          ∙ ap (λ (j : ℕ). from b.net.faces (stepped (shape_of b.net.sides) b.net.faces true g (suc j))) z
          ∙ step_is b g (starts_second g l.half) true (suc i)

      ends : marked b.net.marks (step_at b against_sides (edges_from b against_sides)) ≡ true
      ends = ends_there b (length w) p.second (start_if b s.second) against_sides

      pub compare_room : Comparable (sides_at a b h w₂ (12 * f)) e
      compare_room =
          let x = few_edges in
          let y = edges_second in
          let m = p.few in
          let r = p.room in
          let k = l.kept in
          subst (Comparable (sides_at a b h w₂ (12 * f))) (sym y)
          (comparable a b h (starts_first h at_first) w₂ (12 * f) listed ends g (starts_second g l.half) walkable_first (omega arith) (omega arith) (omega arith))

      rest : drop (16 * f) w₂ ≡ drop (16 * f) w
      rest =
          let x = few_edges in
          drop_later (12 * f) (16 * f) w₂ w₁ (omega arith) kept
          ∙ drop_later (12 * f + e) (16 * f) w₁ w (omega arith) (written_rest (12 * f) (12 * f + e) _ w w₁ l.kept l.list)

      module _ (like : unlike a b ≡ false) (k : ℕ) (found : k ≡ first_apart (sides_at a b h w₂ (12 * f))) where
        none : NoneBeforeSteps a b (length w)
        none = record { accepted_first = p.first; accepted_second = p.second; good_first = s.first; good_second = s.second; alike = like }

        step : k ≡ first_differing a b
        step = found ∙ first-apart_is a b h (starts_first h at_first) w₂ (12 * f) listed ends

        refused_step : k ≤ e → Answered a b f w (Err (refusal SeamMismatch k)) w₂
        refused_step c =
            let x = step in
            let y = edges_second in
            let v = differs_refused a b (length w) none (omega arith) in
            record { verdict = ap (refused 18) x ∙ sym v; edges = sym (no_edges a b (length w) 18 (first_differing a b) v); rest = rest }

        shared_edges : e < k → Answered a b f w (Ok e) w₂
        shared_edges c =
            let x = step in
            let y = edges_second in
            record {
              verdict = sym (agrees_accepted a b (length w) none (omega arith));
              edges = y ∙ sym (agrees_reported a b (length w) none (omega arith));
              rest = rest;
            }

        -- the answer by the step that was found
        pub answered-step : (k ≤ e → Answered a b f w (Err (refusal SeamMismatch k)) w₂) × (e < k → Answered a b f w (Ok e) w₂)
        answered-step = (refused_step, shared_edges)

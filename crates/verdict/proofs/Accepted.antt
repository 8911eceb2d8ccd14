-- What an accepted call has, and that a call for fewer rounds is accepted too. Assumes nothing.
use mathlib.Core.Path.{◌≡◌, refl}
use mathlib.Core.Bool.{Bool, true, false, cond, ◌&&◌, ◌||◌}
use mathlib.Core.List.{List, [], ◌∷◌}
use Prim.Native.Nat.{ℕ, ◌*◌, ◌/◌, ◌%◌, ◌^◌, ◌≤◌, ◌<◌}
use native.Mathlib.Nat.{pow-le-pow_right, mul-le-mul_left}
use native.Mathlib.Omega.{arith}
use lib.Dec.{ltb}
use lib.IntN.{pos, nat_abs}
use lib.ListN.{length, get_or}
use borrow.Author.Tests.{ltb-false, eqb-true, not-false, lt-ltb, le-ltb, eq-eqb}
use Rattle.bounds.specs.Bounds.{max_rounds, max_vertices, max_faces, max_refined_faces, max_coordinate}
use Rattle.search.specs.Search.{first}
use Rattle.search.proofs.First.{first-le, first_before}
use Rattle.search.proofs.Tests.{or_left, or_right}
use Rattle.topology.specs.Shape.{Lawful}
use Rattle.topology.specs.Manifold.{Manifold}
use Rattle.polygons.specs.Polygons.{shape_of, bad_sides, Sided}
use Rattle.polygons.proofs.Counts.{shape_lawful}
use Rattle.refusals.proofs.Manifold.{manifold_if}
use Rattle.refusals.specs.Refusals.{bad_valence, marked_ring}
use Rattle.nets.specs.Net.{ControlNet}
use Rattle.verdict.specs.Call.{Room, needed, Lengths, lengths_of, Call, call, quadrilaterals}
use Rattle.verdict.specs.Verdict.{Verdict, accepted, refused, or_else, refused_if, refused_at, shorter, corners_verdict, tables_verdict, size_verdict, room_verdict, limits_verdict, call_verdict, bad_coordinate, coordinates_verdict, vertex_verdict, adjacency_verdict, faces_verdict, shape_verdict, net_verdict, verdict}
use Rattle.verdict.specs.LargeRing.{NoneOf5To10}
use Rattle.verdict.proofs.Examples

-- ---- the chain

-- a refusal is no acceptance
pub never : {A : Type 0} (r p : ℕ) → refused r p ≡ accepted → A
never r p e = let z : ◌≡◌ {A = ℕ} 0 1 = cc in absurd (omega arith)

pub or_both : (u v : Verdict) → or_else u v ≡ accepted → (u ≡ accepted) × (v ≡ accepted)
or_both accepted v e = (refl, e)
or_both (refused r p) v e = never r p e

-- what follows matters only past an acceptance
pub else_same : (u : Verdict) {v w : Verdict} → (u ≡ accepted → v ≡ w) → or_else u v ≡ or_else u w
else_same accepted f = f refl
else_same (refused r p) f = refl

-- past a refusal nothing matters
pub or_refused : (u v w : Verdict) → (u ≡ accepted → ⊥) → or_else u v ≡ or_else u w
or_refused u v w n = else_same u (λ e. absurd (n e))

pub or_accepted : {u v : Verdict} → u ≡ accepted → v ≡ accepted → or_else u v ≡ accepted
or_accepted e f = rw (e, f)

pub if_false : (r : ℕ) (t : Bool) → refused_if r t ≡ accepted → t ≡ false
if_false r true e = never r 0 e
if_false r false e = refl

pub at_none : (r : ℕ) (t : ℕ → Bool) (n : ℕ) (place : ℕ → ℕ) → refused_at r t n place ≡ accepted → first t n ≡ n
at_none r t n place e = go (ltb (first t n) n) refl e
  where
    go : (b : Bool) → ltb (first t n) n ≡ b → cond b (refused r (place (first t n))) accepted ≡ accepted → first t n ≡ n
    go true f e = never r (place (first t n)) e
    go false f e = let a = ltb-false (first t n) n f in let b = first-le t n in omega arith

-- ---- F: by fours without side counts, one for each corner with them
pub by_fours : (s : List ℕ) (n : ℕ) → length s ≡ 0 → n / 4 ≡ quadrilaterals s n
by_fours [] n z = refl
by_fours (c ∷ s) n z = let y : ⊥ = omega arith in absurd y

pub by_sides : (s : List ℕ) (n : ℕ) → (length s ≡ 0 → ⊥) → n ≡ quadrilaterals s n
by_sides [] n z = absurd (z refl)
by_sides (c ∷ s) n z = refl

-- ---- 1 to 4 and 14 do not hold
pub record WithinLimits (rounds : ℕ) (sides : List ℕ) (n : Lengths) : Type 0 where
  pub few : rounds ≤ max_rounds
  pub points : n.coordinates % 3 ≡ 0
  pub sided : Sided sides n.corners
  pub marked : n.marks ≡ n.coordinates / 3
  pub vertices : n.coordinates / 3 ≤ max_vertices
  pub faces : quadrilaterals sides n.corners ≤ max_faces
  pub final : quadrilaterals sides n.corners * 4 ^ rounds ≤ max_refined_faces
  pub room_vertices : 12 * (quadrilaterals sides n.corners * 4 ^ rounds) ≤ n.room.vertices
  pub room_faces : 4 * (quadrilaterals sides n.corners * 4 ^ rounds) ≤ n.room.faces
  pub room_marks : 4 * (quadrilaterals sides n.corners * 4 ^ rounds) ≤ n.room.marks
  pub room_letters : n.room.asked ≡ true → 4 * (quadrilaterals sides n.corners * 4 ^ rounds) ≤ n.room.letters
  pub room_work : 16 * (quadrilaterals sides n.corners * 4 ^ rounds) ≤ n.room.work

-- corners by fours, or side counts that pass 14
corners_if : (s : List ℕ) (n : ℕ) → corners_verdict s n ≡ accepted → Sided s n
corners_if [] n e = record { fours = λ z. eqb-true (n % 4) 0 (not-false _ (if_false 2 _ e)); counts = λ p. let z : ⊥ = omega arith in absurd z }
corners_if (c ∷ s) n e = record { fours = λ z. let y : ⊥ = omega arith in absurd y; counts = λ p. if_false 14 _ e }

if_corners : (s : List ℕ) (n : ℕ) → Sided s n → corners_verdict s n ≡ accepted
if_corners [] n k = let e = eq-eqb (n % 4) 0 (k.fours refl) in rw e
if_corners (c ∷ s) n k = let e : bad_sides (c ∷ s) n ≡ false = k.counts (omega arith) in rw e

pub sized_faces : (v f g : ℕ) → size_verdict v f g ≡ accepted → f ≤ max_faces
unfolding size_verdict
sized_faces v f g e =
    let a = or_both (refused_if 3 (ltb max_vertices v)) (or_else (refused_if 3 (ltb max_faces f)) (refused_if 3 (ltb max_refined_faces g))) e in
    let b = or_both (refused_if 3 (ltb max_faces f)) (refused_if 3 (ltb max_refined_faces g)) a.1 in
    ltb-false max_faces f (if_false 3 _ b.0)

-- letters that are asked for have room
letters_if : (asked : Bool) (n least : ℕ) → (asked && ltb n least) ≡ false → asked ≡ true → least ≤ n
letters_if asked n least e a = ltb-false n least (rw a at e)

if_letters : (asked : Bool) (n least : ℕ) → (asked ≡ true → least ≤ n) → (asked && ltb n least) ≡ false
if_letters true n least h = le-ltb n least (h refl)
if_letters false n least h = refl

-- what passes 4
record Ample (room stated : Room) : Type 0 where
  vertices : stated.vertices ≤ room.vertices
  faces : stated.faces ≤ room.faces
  marks : stated.marks ≤ room.marks
  letters : room.asked ≡ true → stated.letters ≤ room.letters
  work : stated.work ≤ room.work

ample_if : (room stated : Room) → shorter room stated ≡ false → Ample room stated
ample_if room stated e =
    let v = ltb room.vertices stated.vertices in
    let f = ltb room.faces stated.faces in
    let m = ltb room.marks stated.marks in
    let l = room.asked && ltb room.letters stated.letters in
    let w = ltb room.work stated.work in
    let c = or_left (v || f || m || l) w e in
    let b = or_left (v || f || m) l c in
    let a = or_left (v || f) m b in
    record {
      vertices = ltb-false room.vertices stated.vertices (or_left v f a);
      faces = ltb-false room.faces stated.faces (or_right v f a);
      marks = ltb-false room.marks stated.marks (or_right (v || f) m b);
      letters = letters_if room.asked room.letters stated.letters (or_right (v || f || m) l c);
      work = ltb-false room.work stated.work (or_right (v || f || m || l) w e);
    }

module _ (k : ℕ) (s : List ℕ) (n : Lengths) where
  pub within_if : limits_verdict k s n ≡ accepted → WithinLimits k s n
  unfolding limits_verdict tables_verdict size_verdict room_verdict
  within_if e₀ =
      let g = quadrilaterals s n.corners * 4 ^ k in
      let a₁ = or_both _ _ e₀ in
      let a₂ = or_both _ _ a₁.1 in
      let a₃ = or_both _ _ a₂.1 in
      let b₁ = or_both _ _ a₂.0 in
      let b₂ = or_both _ _ b₁.1 in
      let c₁ = or_both _ _ a₃.0 in
      let c₂ = or_both _ _ c₁.1 in
      let d = ample_if n.room (needed g) (if_false 4 _ a₃.1) in
      record {
        few = ltb-false max_rounds k (if_false 1 _ a₁.0);
        points = eqb-true (n.coordinates % 3) 0 (not-false _ (if_false 2 _ b₁.0));
        sided = corners_if s n.corners b₂.0;
        marked = eqb-true n.marks (n.coordinates / 3) (not-false _ (if_false 2 _ b₂.1));
        vertices = ltb-false max_vertices (n.coordinates / 3) (if_false 3 _ c₁.0);
        faces = ltb-false max_faces (quadrilaterals s n.corners) (if_false 3 _ c₂.0);
        final = ltb-false max_refined_faces g (if_false 3 _ c₂.1);
        room_vertices = d.vertices;
        room_faces = d.faces;
        room_marks = d.marks;
        room_letters = d.letters;
        room_work = d.work;
      }

  if_within : WithinLimits k s n → limits_verdict k s n ≡ accepted
  unfolding limits_verdict tables_verdict size_verdict room_verdict
  if_within w =
      let g = quadrilaterals s n.corners * 4 ^ k in
      simp (
        le-ltb max_rounds k w.few,
        eq-eqb (n.coordinates % 3) 0 w.points,
        if_corners s n.corners w.sided,
        eq-eqb n.marks (n.coordinates / 3) w.marked,
        le-ltb max_vertices (n.coordinates / 3) w.vertices,
        le-ltb max_faces (quadrilaterals s n.corners) w.faces,
        le-ltb max_refined_faces g w.final,
        le-ltb n.room.vertices (12 * g) w.room_vertices,
        le-ltb n.room.faces (4 * g) w.room_faces,
        le-ltb n.room.marks (4 * g) w.room_marks,
        if_letters n.room.asked n.room.letters (4 * g) w.room_letters,
        le-ltb n.room.work (16 * g) w.room_work,
      )

  -- fewer rounds need less room
  within_fewer : (j : ℕ) → j ≤ k → WithinLimits k s n → WithinLimits j s n
  within_fewer j h w =
      let p : 4 ^ j ≤ 4 ^ k = pow-le-pow_right {n = 4} (omega arith) h in
      let g : quadrilaterals s n.corners * 4 ^ j ≤ quadrilaterals s n.corners * 4 ^ k = mul-le-mul_left (quadrilaterals s n.corners) p in
      let a = w.few in
      let b = w.final in
      let c = w.room_vertices in
      let d = w.room_faces in
      let e = w.room_marks in
      let f = w.room_work in
      record {
        few = omega arith;
        points = w.points;
        sided = w.sided;
        marked = w.marked;
        vertices = w.vertices;
        faces = w.faces;
        final = omega arith;
        room_vertices = omega arith;
        room_faces = omega arith;
        room_marks = omega arith;
        room_letters = λ a. let l = w.room_letters a in omega arith;
        room_work = omega arith;
      }

-- ---- 5 to 12 do not hold
pub record NoRefusal (m : ControlNet) : Type 0 where
  pub before : NoneOf5To10 m
  pub no11 : first (bad_valence (shape_of m.sides) m.faces) (length m.marks) ≡ length m.marks
  pub no12 : first (marked_ring (shape_of m.sides) m.faces m.marks) (length m.marks) ≡ length m.marks

none_if : (m : ControlNet) → net_verdict m ≡ accepted → NoRefusal m
unfolding net_verdict coordinates_verdict shape_verdict faces_verdict adjacency_verdict vertex_verdict
none_if m e₀ =
    let a₅ = or_both _ _ e₀ in
    let a₆ = or_both _ _ a₅.1 in
    let a₇ = or_both _ _ a₆.1 in
    let a₈ = or_both _ _ a₇.1 in
    let a₉ = or_both _ _ a₈.1 in
    let b₀ = or_both _ _ a₉.1 in
    let b₁ = or_both _ _ b₀.1 in
    record {
      before = record {
        no5 = at_none 5 _ _ (λ i. i / 3) a₅.0;
        no6 = at_none 6 _ _ (λ p. p) a₆.0;
        no7 = at_none 7 _ _ (shape_of m.sides).face a₇.0;
        no8 = at_none 8 _ _ (λ p. p) a₈.0;
        no9 = at_none 9 _ _ (shape_of m.sides).face a₉.0;
        no10 = at_none 10 _ _ (λ p. p) b₀.0;
      };
      no11 = at_none 11 _ _ (λ p. p) b₁.0;
      no12 = at_none 12 _ _ (λ p. p) b₁.1;
    }

-- ---- an accepted call
pub call_both : (c : Call) → call_verdict c ≡ accepted → (limits_verdict c.rounds c.net.sides (lengths_of c.net c.room) ≡ accepted) × (refused_if 16 (ltb 4 c.tension) ≡ accepted)
call_both c e = or_both (limits_verdict c.rounds c.net.sides (lengths_of c.net c.room)) (refused_if 16 (ltb 4 c.tension)) e

pub accepted_limits : (c : Call) → verdict c ≡ accepted → WithinLimits c.rounds c.net.sides (lengths_of c.net c.room)
unfolding verdict
accepted_limits c e = within_if _ _ _ (call_both c (or_both _ _ e).0).0

-- 16 does not hold
pub accepted_tension : (c : Call) → verdict c ≡ accepted → c.tension ≤ 4
unfolding verdict
accepted_tension c e = ltb-false 4 c.tension (if_false 16 _ (call_both c (or_both (call_verdict c) (net_verdict c.net) e).0).1)

pub accepted_net : (c : Call) → verdict c ≡ accepted → NoRefusal c.net
unfolding verdict
accepted_net c e = none_if c.net (or_both (call_verdict c) (net_verdict c.net) e).1

accepted_lawful : (c : Call) → verdict c ≡ accepted → Lawful (shape_of c.net.sides) (length c.net.faces)
accepted_lawful c e = shape_lawful c.net.sides (length c.net.faces) (accepted_limits c e).sided

pub accepted_manifold : (c : Call) → verdict c ≡ accepted → Manifold (shape_of c.net.sides) (length c.net.marks) c.net.faces
accepted_manifold c e =
    let n = accepted_net c e in
    manifold_if (shape_of c.net.sides) (length c.net.marks) c.net.faces (accepted_lawful c e)
    (record { no7 = n.before.no7; no8 = n.before.no8; no9 = n.before.no9; no10 = n.before.no10; no11 = n.no11 })

-- "Checked are adjacency and limits": a call for fewer rounds with the same tables is accepted too
pub accepted_fewer : (c : Call) (j : ℕ) → j ≤ c.rounds → verdict c ≡ accepted → verdict (call j c.net c.tension c.room) ≡ accepted
unfolding verdict
accepted_fewer c j h e =
    let n = lengths_of c.net c.room in
    or_accepted (or_accepted (if_within j c.net.sides n (within_fewer c.rounds c.net.sides n j h (accepted_limits c e))) (call_both c (or_both (call_verdict c) (net_verdict c.net) e).0).1) (or_both (call_verdict c) (net_verdict c.net) e).1

-- what 5 and 6 rule out is not there
pub accepted_coordinate : (c : Call) → verdict c ≡ accepted → (i : ℕ) → i < length c.net.vertices → nat_abs (get_or c.net.vertices i (pos 0)) ≤ max_coordinate
unfolding bad_coordinate
accepted_coordinate c e i h =
    let n = accepted_net c e in
    let k = n.before.no5 in
    ltb-false max_coordinate _ (first_before (bad_coordinate c.net.vertices) (length c.net.vertices) i (omega arith))

-- ---- how a check answers: the first test that hits, or the rest of the chain
pub at_hit : (r : ℕ) (t : ℕ → Bool) (n : ℕ) (place : ℕ → ℕ) (v : Verdict) (i : ℕ) → i ≡ first t n → i < n → refused r (place i) ≡ or_else (refused_at r t n place) v
at_hit r t n place v i e h = let f : ltb (first t n) n ≡ true = lt-ltb (first t n) n (rw e at h) in rw (f, e)

pub at_pass : (r : ℕ) (t : ℕ → Bool) (n : ℕ) (place : ℕ → ℕ) (u v : Verdict) (i : ℕ) → i ≡ first t n → n ≤ i → u ≡ v → u ≡ or_else (refused_at r t n place) v
at_pass r t n place u v i e h k = let f : ltb (first t n) n ≡ false = le-ltb (first t n) n (rw e at h) in rw f k

-- the same at the end of the chain
pub last_hit : (r : ℕ) (t : ℕ → Bool) (n : ℕ) (place : ℕ → ℕ) (i : ℕ) → i ≡ first t n → i < n → refused r (place i) ≡ refused_at r t n place
last_hit r t n place i e h = let f : ltb (first t n) n ≡ true = lt-ltb (first t n) n (rw e at h) in rw (f, e)

pub last_pass : (r : ℕ) (t : ℕ → Bool) (n : ℕ) (place : ℕ → ℕ) (i : ℕ) → i ≡ first t n → n ≤ i → accepted ≡ refused_at r t n place
last_pass r t n place i e h = let f : ltb (first t n) n ≡ false = le-ltb (first t n) n (rw e at h) in rw f

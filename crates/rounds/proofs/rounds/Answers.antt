-- `rounds::rounds` meets its contract: before each round the mates and the classes are those of its net. Assumes nothing.
use mathlib.Core.Path.{◌≡◌, sym}
use native.Mathlib.Omega.{arith}
use borrow.Author.Tests.{ltb-true}
use Rattle.nets.specs.Buffers.{buffers}
use Rattle.rounds.proofs.Steps.{after_none, letters_none, corners_room, corners_length, countable, prepared_classes, after_classes}
use Rattle.rounds.proofs.Standing.{standing_none, current_here, room_here, later_here, standing_last, lettered, mates_here, later_mates_here, standing_next}
use Rattle.rounds.proofs.rounds.Goals as goal
use Rattle.rounds.proofs.rounds.Goals.{then-i-k, else-i-k}

pub returns-then-k-eq0-clause-after : goal.returns-then-k-eq0-clause-after
returns-then-k-eq0-clause-after c =
    let e : c.args.k ≡ 0 = c.if-k-eq0.true in rw e (after_none c.args.t c.args.k c.args.v c.args.n c.args.last (buffers c.args.points.now c.args.faces.now c.args.marks.now c.args.work.now) c.requires.prepared)

pub slice_bounds-count_ring_sizes-end : goal.slice_bounds-count_ring_sizes-end
slice_bounds-count_ring_sizes-end c = corners_room c.args.t c.args.k c.args.v c.args.n c.args.last (buffers c.args.points.now c.args.faces.now c.args.marks.now c.args.work.now) c.requires.prepared

pub slice_bounds-count_ring_sizes-end-2 : goal.slice_bounds-count_ring_sizes-end-2
slice_bounds-count_ring_sizes-end-2 c = sym (corners_length c.args.t c.args.k c.args.v c.args.n c.args.last (buffers c.args.points.now c.args.faces.now c.args.marks.now c.args.work.now) c.requires.prepared)

pub count_ring_sizes-requires : goal.count_ring_sizes-requires
count_ring_sizes-requires c =
    let e = c.if-k-eq0.false in
    countable c.args.t c.args.k c.args.v c.args.n c.args.last (buffers c.args.points.now c.args.faces.now c.args.marks.now c.args.work.now) c.requires.prepared (omega arith)

pub loop-i-init : goal.loop-i-init
loop-i-init c =
    let ready = prepared_classes c.args.t c.args.k c.args.v c.args.n c.args.last (buffers c.args.points.now c.args.faces.now c.args.marks.now c.args.work.now) c.requires.prepared _ c.count_ring_sizes.auto.work c.count_ring_sizes.ensures.same_outside in
    (standing_none c.args.t c.args.k c.args.v c.args.n c.args.last (buffers c.args.points.now c.args.faces.now c.args.marks.now c.count_ring_sizes.new.work) ready c.count_ring_sizes.ensures.ring_sizes, letters_none c.args.t c.args.k c.args.v c.args.n c.args.last (buffers c.args.points.now c.args.faces.now c.args.marks.now c.count_ring_sizes.new.work) ready c.args.with_letters c.args.letters.now)

pub round-count-requires-clause-current : goal.round-count-requires-clause-current
round-count-requires-clause-current c = current_here c.args.t c.args.k c.args.v c.args.n c.args.last (buffers c.args.points.now c.args.faces.now c.args.marks.now c.count_ring_sizes.new.work) (prepared_classes c.args.t c.args.k c.args.v c.args.n c.args.last (buffers c.args.points.now c.args.faces.now c.args.marks.now c.args.work.now) c.requires.prepared _ c.count_ring_sizes.auto.work c.count_ring_sizes.ensures.same_outside) c.loop-i.i c.loop-i.count c.loop-i.corners (buffers c.loop-i.points c.loop-i.faces c.loop-i.marks c.loop-i.work) c.loop-i.invariant.0 c.loop-i-test.true

pub round-count-requires-clause-n_in_bounds : goal.round-count-requires-clause-n_in_bounds
round-count-requires-clause-n_in_bounds c = λ a. let r = room_here c.args.t c.args.k c.args.v c.args.n c.args.last (buffers c.args.points.now c.args.faces.now c.args.marks.now c.count_ring_sizes.new.work) (prepared_classes c.args.t c.args.k c.args.v c.args.n c.args.last (buffers c.args.points.now c.args.faces.now c.args.marks.now c.args.work.now) c.requires.prepared _ c.count_ring_sizes.auto.work c.count_ring_sizes.ensures.same_outside) c.loop-i.i c.loop-i.count c.loop-i.corners (buffers c.loop-i.points c.loop-i.faces c.loop-i.marks c.loop-i.work) c.loop-i.invariant.0 c.loop-i-test.true in let l = c.loop-i.auto.letters in omega (arith, c.requires.letters_fit a)

pub round-count-requires-clause-after_round : goal.round-count-requires-clause-after_round
round-count-requires-clause-after_round c = λ g. later_here c.args.t c.args.k c.args.v c.args.n c.args.last (buffers c.args.points.now c.args.faces.now c.args.marks.now c.count_ring_sizes.new.work) (prepared_classes c.args.t c.args.k c.args.v c.args.n c.args.last (buffers c.args.points.now c.args.faces.now c.args.marks.now c.args.work.now) c.requires.prepared _ c.count_ring_sizes.auto.work c.count_ring_sizes.ensures.same_outside) c.loop-i.i c.loop-i.count c.loop-i.corners (buffers c.loop-i.points c.loop-i.faces c.loop-i.marks c.loop-i.work) c.loop-i.invariant.0 c.loop-i-test.true (ltb-true _ _ g)

pub next_mates-requires : goal.next_mates-requires
next_mates-requires c = (mates_here c.args.t c.args.k c.args.v c.args.n c.args.last (buffers c.args.points.now c.args.faces.now c.args.marks.now c.count_ring_sizes.new.work) (prepared_classes c.args.t c.args.k c.args.v c.args.n c.args.last (buffers c.args.points.now c.args.faces.now c.args.marks.now c.args.work.now) c.requires.prepared _ c.count_ring_sizes.auto.work c.count_ring_sizes.ensures.same_outside) c.loop-i.i c.loop-i.count c.loop-i.corners (buffers c.loop-i.points c.loop-i.faces c.loop-i.marks c.loop-i.work) c.loop-i.invariant.0 c.loop-i-test.true c.round-count.result (let o = c.round-count.new in buffers o.points o.faces o.marks o.work) c.round-count.ensures.refines c.round-count.auto.work, λ g. later_mates_here c.args.t c.args.k c.args.v c.args.n c.args.last (buffers c.args.points.now c.args.faces.now c.args.marks.now c.count_ring_sizes.new.work) (prepared_classes c.args.t c.args.k c.args.v c.args.n c.args.last (buffers c.args.points.now c.args.faces.now c.args.marks.now c.args.work.now) c.requires.prepared _ c.count_ring_sizes.auto.work c.count_ring_sizes.ensures.same_outside) c.loop-i.i c.loop-i.count c.loop-i.corners (buffers c.loop-i.points c.loop-i.faces c.loop-i.marks c.loop-i.work) c.loop-i.invariant.0 c.loop-i-test.true c.round-count.result (let o = c.round-count.new in buffers o.points o.faces o.marks o.work) c.round-count.ensures.refines c.round-count.auto.work (ltb-true _ _ g))

pub overflow_mul-corners : goal.overflow_mul-corners
overflow_mul-corners c = let q = (current_here c.args.t c.args.k c.args.v c.args.n c.args.last (buffers c.args.points.now c.args.faces.now c.args.marks.now c.count_ring_sizes.new.work) (prepared_classes c.args.t c.args.k c.args.v c.args.n c.args.last (buffers c.args.points.now c.args.faces.now c.args.marks.now c.args.work.now) c.requires.prepared _ c.count_ring_sizes.auto.work c.count_ring_sizes.ensures.same_outside) c.loop-i.i c.loop-i.count c.loop-i.corners (buffers c.loop-i.points c.loop-i.faces c.loop-i.marks c.loop-i.work) c.loop-i.invariant.0 c.loop-i-test.true).small in omega arith

pub loop-i-preserved : goal.loop-i-preserved
loop-i-preserved c = (
  elim c.if-i-k.branch [
    | then-i-k w ↦ rw (w.work-is, w.corners-is) (standing_next c.args.t c.args.k c.args.v c.args.n c.args.last (buffers c.args.points.now c.args.faces.now c.args.marks.now c.count_ring_sizes.new.work) (prepared_classes c.args.t c.args.k c.args.v c.args.n c.args.last (buffers c.args.points.now c.args.faces.now c.args.marks.now c.args.work.now) c.requires.prepared _ c.count_ring_sizes.auto.work c.count_ring_sizes.ensures.same_outside) c.loop-i.i c.loop-i.count c.loop-i.corners (buffers c.loop-i.points c.loop-i.faces c.loop-i.marks c.loop-i.work) c.loop-i.invariant.0 c.loop-i-test.true c.round-count.result (let o = c.round-count.new in buffers o.points o.faces o.marks o.work) c.round-count.ensures.refines c.round-count.auto.work _ w.next_mates.auto.work w.next_mates.ensures)
    | else-i-k w ↦ rw (w.work-is, w.corners-is) (standing_last c.args.t c.args.k c.args.v c.args.n c.args.last (buffers c.args.points.now c.args.faces.now c.args.marks.now c.count_ring_sizes.new.work) (prepared_classes c.args.t c.args.k c.args.v c.args.n c.args.last (buffers c.args.points.now c.args.faces.now c.args.marks.now c.args.work.now) c.requires.prepared _ c.count_ring_sizes.auto.work c.count_ring_sizes.ensures.same_outside) c.loop-i.i c.loop-i.count c.loop-i.corners (buffers c.loop-i.points c.loop-i.faces c.loop-i.marks c.loop-i.work) c.loop-i.invariant.0 c.loop-i-test.true c.round-count.result (let o = c.round-count.new in buffers o.points o.faces o.marks o.work) c.round-count.ensures.refines c.round-count.auto.work w.if-i-k.false _)
  ],
  lettered c.args.t c.args.k c.args.v c.args.n c.args.last (buffers c.args.points.now c.args.faces.now c.args.marks.now c.count_ring_sizes.new.work) (prepared_classes c.args.t c.args.k c.args.v c.args.n c.args.last (buffers c.args.points.now c.args.faces.now c.args.marks.now c.args.work.now) c.requires.prepared _ c.count_ring_sizes.auto.work c.count_ring_sizes.ensures.same_outside) c.loop-i.i c.loop-i.count c.loop-i.corners (buffers c.loop-i.points c.loop-i.faces c.loop-i.marks c.loop-i.work) c.loop-i.invariant.0 c.loop-i-test.true c.round-count.result (let o = c.round-count.new in buffers o.points o.faces o.marks o.work) c.round-count.ensures.refines c.round-count.auto.work c.args.with_letters c.args.letters.now _ _ c.loop-i.invariant.1 c.round-count.ensures.written_if,
)

pub returns-clause-after : goal.returns-clause-after
returns-clause-after c =
    let e : c.loop-i.i ≡ c.args.k = let b = c.loop-i-test.false in omega arith in
    after_classes c.args.t c.args.k c.args.v c.args.n c.args.last (buffers c.args.points.now c.args.faces.now c.args.marks.now c.args.work.now) c.requires.prepared _ c.count_ring_sizes.auto.work c.count_ring_sizes.ensures.same_outside c.loop-i.i c.loop-i.count (buffers c.loop-i.points c.loop-i.faces c.loop-i.marks c.loop-i.work) e c.loop-i.invariant.0.after

pub returns-clause-letters_after : goal.returns-clause-letters_after
returns-clause-letters_after c =
    let e : c.loop-i.i ≡ c.args.k = let b = c.loop-i-test.false in omega arith in
    rw (sym e) c.loop-i.invariant.1

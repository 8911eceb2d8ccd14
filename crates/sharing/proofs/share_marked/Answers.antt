-- `share_marked` meets its contract: the second segment is listed, and the first one compared with the list. Assumes nothing.
use mathlib.Core.Path.{refl, sym, ◌∙◌}
use Prim.Native.Nat.{◌≤◌, ◌<◌}
use Rattle.comparison.proofs.Sides.{starts_at_mark}
use Rattle.std.specs.Prelude.{Ok, Err}
use Rattle.reasons.specs.declared.Reason.TheVariants.{SeamMismatch}
use Rattle.sharing.specs.Sharing.{side}
use Rattle.sharing.specs.Walks.{Answered}
use Rattle.sharing.proofs.Laws.{refusal, not_alike, starts_second, walkable_second, relink_room, walkable_first, SecondListed, compare_room, answered-step}
use Rattle.sharing.proofs.share_marked.Goals as goal
use Rattle.sharing.proofs.share_marked.Goals.{After-walk_to_mark-edges, After-first_apart-step}

listed : (c : After-walk_to_mark-edges) → SecondListed (side c.args.b) c.args.f c.args.work.now c.boundary_from-against.result c.walk_to_mark-edges.result c.walk_to_mark-edges.new.work
listed c = record { half = c.boundary_from-against.ensures; edges = c.walk_to_mark-edges.ensures.value; kept = c.walk_to_mark-edges.auto.work; list = c.walk_to_mark-edges.ensures.written }

answers : (c : After-first_apart-step) → let a = side c.args.a in let b = side c.args.b in let k = c.first_apart-step.result in let e = c.walk_to_mark-edges.result in let w = c.relink.new.work in
    (k ≤ e → Answered a b c.args.f c.args.work.now (Err (refusal SeamMismatch k)) w) × (e < k → Answered a b c.args.f c.args.work.now (Ok e) w)
answers c =
    answered-step (side c.args.a) (side c.args.b) c.args.f c.args.work.now c.requires _ _ _ (listed (goal.at.After-first_apart-step c).After-walk_to_mark-edges) _ c.relink.auto.work c.relink.ensures _ c.boundary_from-along.ensures
    (sym c.unlike.ensures ∙ c.if-unlike.false) _ c.first_apart-step.ensures

pub returns-then-unlike : goal.returns-then-unlike
returns-then-unlike c = not_alike (side c.args.a) (side c.args.b) _ _ c.requires (sym c.unlike.ensures ∙ c.if-unlike.true)

pub boundary_from-against-requires : goal.boundary_from-against-requires
boundary_from-against-requires c = walkable_second (side c.args.a) (side c.args.b) _ _ c.requires

pub walk_to_mark-edges-requires-clause-walkable : goal.walk_to_mark-edges-requires-clause-walkable
walk_to_mark-edges-requires-clause-walkable c = walkable_second (side c.args.a) (side c.args.b) _ _ c.requires

pub walk_to_mark-edges-requires-clause-starts_at_mark : goal.walk_to_mark-edges-requires-clause-starts_at_mark
walk_to_mark-edges-requires-clause-starts_at_mark c =
    starts_at_mark (side c.args.b) _ (starts_second (side c.args.a) (side c.args.b) _ _ c.requires _ c.boundary_from-against.ensures)

pub relink-requires : goal.relink-requires
relink-requires c = relink_room (side c.args.a) (side c.args.b) c.args.f c.args.work.now c.requires _ _ _ (listed (goal.at.relink-requires c).After-walk_to_mark-edges)

pub boundary_from-along-requires : goal.boundary_from-along-requires
boundary_from-along-requires c =
    walkable_first (side c.args.a) (side c.args.b) c.args.f c.args.work.now c.requires _ _ _ (listed (goal.at.boundary_from-along-requires c).After-walk_to_mark-edges) _ c.relink.auto.work c.relink.ensures _ refl

pub first_apart-step-requires : goal.first_apart-step-requires
first_apart-step-requires c =
    compare_room (side c.args.a) (side c.args.b) c.args.f c.args.work.now c.requires _ _ _ (listed (goal.at.first_apart-step-requires c).After-walk_to_mark-edges) _ c.relink.auto.work c.relink.ensures _ c.boundary_from-along.ensures

pub returns-then-step-edges : goal.returns-then-step-edges
returns-then-step-edges c = (answers (goal.at.returns-then-step-edges c).After-first_apart-step).0 c.if-step-edges.true

pub returns : goal.returns
returns c = (answers (goal.at.returns c).After-first_apart-step).1 c.if-step-edges.false

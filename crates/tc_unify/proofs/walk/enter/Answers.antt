use Rattle.std.proofs.Common.{refl, ◌∙◌, arith, true≢false}
use Rattle.tc_unify.specs.declared.nodes.Node.TheVariants.{Apply}
use Rattle.tc_unify.proofs.Arenas.{outer_plain, shape_of-read, plain_read, named_node}
use Rattle.tc_unify.proofs.Meetings.{root_term}
use Rattle.tc_unify.proofs.WalkMarks.{Keeps-passed, finite_plain, finite_marked, endless_open, Keeps-entered, Knows-entered, work_entered, mark_read}
use Rattle.tc_unify.proofs.walk.enter.Goals as goal

pub returns-then-root-ge-FIRST_NAME-clause-keeps : goal.returns-then-root-ge-FIRST_NAME-clause-keeps
returns-then-root-ge-FIRST_NAME-clause-keeps c = λ entered.
    Keeps-passed c.args.arena.now c.args.links.now c.args.walk.now c.requires.linked c.requires.known c.args.node
    (finite_plain c.args.arena.now c.args.links.now c.args.walk.now c.requires.linked c.requires.known c.args.node c.end-root.result c.end-root.ensures
    (outer_plain c.args.arena.now.nodes.items c.args.arena.now.text.items c.end-root.result c.if-root-ge-FIRST_NAME.true))

pub index-requires : goal.index-requires
index-requires c = let below = root_term c.args.arena.now c.args.links.now c.requires.linked c.args.node c.end-root.result c.requires.node c.end-root.ensures c.if-root-ge-FIRST_NAME.false in omega arith

pub index-requires-2 : goal.index-requires-2
index-requires-2 c = let below = root_term c.args.arena.now c.args.links.now c.requires.linked c.args.node c.end-root.result c.requires.node c.end-root.ensures c.if-root-ge-FIRST_NAME.false in let size = c.requires.room in omega arith

pub push_below-requires : goal.push_below-requires
push_below-requires c = let below = root_term c.args.arena.now c.args.links.now c.requires.linked c.args.node c.end-root.result c.requires.node c.end-root.ensures c.if-root-ge-FIRST_NAME.false in let size = c.requires.room in omega arith

pub returns-in_default : goal.returns-in_default
returns-in_default c = record {
  keeps = λ entered.
      Keeps-passed c.args.arena.now c.args.links.now c.args.walk.now c.requires.linked c.requires.known c.args.node
      (finite_plain c.args.arena.now c.args.links.now c.args.walk.now c.requires.linked c.requires.known c.args.node c.end-root.result c.end-root.ensures
      (plain_read c.args.arena.now c.end-root.result c.index.result.now c.requires.linked.arena (root_term c.args.arena.now c.args.links.now c.requires.linked c.args.node c.end-root.result c.requires.node c.end-root.ensures c.if-root-ge-FIRST_NAME.false) c.index.ensures c.in_default.not-Apply));
  endless = λ never. absurd (true≢false never);
  known = c.requires.known;
  work = omega arith;
  room = refl;
  marked = c.requires.marked;
}

pub returns-in-Finite-clause-keeps : goal.returns-in-Finite-clause-keeps
returns-in-Finite-clause-keeps c = λ entered.
    Keeps-passed c.args.arena.now c.args.links.now c.args.walk.now c.requires.linked c.requires.known c.args.node (finite_marked c.args.arena.now c.args.links.now c.args.walk.now c.requires.linked c.requires.known c.args.node c.end-root.result c.end-root.ensures ((mark_read c.args.walk.now c.args.arena.now c.end-root.result c.index-2.result.now c.requires.room (root_term c.args.arena.now c.args.links.now c.requires.linked c.args.node c.end-root.result c.requires.node c.end-root.ensures c.if-root-ge-FIRST_NAME.false) c.index-2.ensures) ∙ c.in-Finite.is))

pub returns-in-Open-clause-endless : goal.returns-in-Open-clause-endless
returns-in-Open-clause-endless c = λ entered.
    endless_open c.args.arena.now c.args.links.now c.args.walk.now c.requires.linked c.requires.known c.args.node c.end-root.result c.end-root.ensures ((mark_read c.args.walk.now c.args.arena.now c.end-root.result c.index-2.result.now c.requires.room (root_term c.args.arena.now c.args.links.now c.requires.linked c.args.node c.end-root.result c.requires.node c.end-root.ensures c.if-root-ge-FIRST_NAME.false) c.index-2.ensures) ∙ c.in-Open.is)

pub returns-in_ok-push_below-in-Unseen-clause-keeps : goal.returns-in_ok-push_below-in-Unseen-clause-keeps
returns-in_ok-push_below-in-Unseen-clause-keeps c = λ entered.
    Keeps-entered c.args.arena.now c.args.links.now c.args.walk.now c.requires.linked c.requires.known c.args.node c.end-root.result c.in-Apply.head c.in-Apply.argument c.push_below.new.walk c.end-root.ensures
    (root_term c.args.arena.now c.args.links.now c.requires.linked c.args.node c.end-root.result c.requires.node c.end-root.ensures c.if-root-ge-FIRST_NAME.false) c.requires.room
    ((mark_read c.args.walk.now c.args.arena.now c.end-root.result c.index-2.result.now c.requires.room (root_term c.args.arena.now c.args.links.now c.requires.linked c.args.node c.end-root.result c.requires.node c.end-root.ensures c.if-root-ge-FIRST_NAME.false) c.index-2.ensures) ∙ c.in-Unseen.is)
    (shape_of-read c.args.arena.now c.end-root.result _ (Apply c.in-Apply.head c.in-Apply.argument) c.requires.linked.arena (root_term c.args.arena.now c.args.links.now c.requires.linked c.args.node c.end-root.result c.requires.node c.end-root.ensures c.if-root-ge-FIRST_NAME.false) c.index.ensures c.in-Apply.is)
    (named_node c.args.arena.now c.end-root.result c.in-Apply.head c.in-Apply.argument c.requires.linked.arena (root_term c.args.arena.now c.args.links.now c.requires.linked c.args.node c.end-root.result c.requires.node c.end-root.ensures c.if-root-ge-FIRST_NAME.false) (shape_of-read c.args.arena.now c.end-root.result _ (Apply c.in-Apply.head c.in-Apply.argument) c.requires.linked.arena (root_term c.args.arena.now c.args.links.now c.requires.linked c.args.node c.end-root.result c.requires.node c.end-root.ensures c.if-root-ge-FIRST_NAME.false) c.index.ensures c.in-Apply.is))
    c.in_ok-push_below-in-Unseen.ensures.marks c.in_ok-push_below-in-Unseen.ensures.steps c.in_ok-push_below-in-Unseen.ensures.seen

pub returns-in_ok-push_below-in-Unseen-clause-known : goal.returns-in_ok-push_below-in-Unseen-clause-known
returns-in_ok-push_below-in-Unseen-clause-known c =
    Knows-entered c.args.arena.now c.args.links.now c.args.walk.now c.requires.linked c.requires.known c.args.node c.end-root.result c.in-Apply.head c.in-Apply.argument c.push_below.new.walk c.end-root.ensures
    (root_term c.args.arena.now c.args.links.now c.requires.linked c.args.node c.end-root.result c.requires.node c.end-root.ensures c.if-root-ge-FIRST_NAME.false) c.requires.room
    ((mark_read c.args.walk.now c.args.arena.now c.end-root.result c.index-2.result.now c.requires.room (root_term c.args.arena.now c.args.links.now c.requires.linked c.args.node c.end-root.result c.requires.node c.end-root.ensures c.if-root-ge-FIRST_NAME.false) c.index-2.ensures) ∙ c.in-Unseen.is)
    (shape_of-read c.args.arena.now c.end-root.result _ (Apply c.in-Apply.head c.in-Apply.argument) c.requires.linked.arena (root_term c.args.arena.now c.args.links.now c.requires.linked c.args.node c.end-root.result c.requires.node c.end-root.ensures c.if-root-ge-FIRST_NAME.false) c.index.ensures c.in-Apply.is)
    (named_node c.args.arena.now c.end-root.result c.in-Apply.head c.in-Apply.argument c.requires.linked.arena (root_term c.args.arena.now c.args.links.now c.requires.linked c.args.node c.end-root.result c.requires.node c.end-root.ensures c.if-root-ge-FIRST_NAME.false) (shape_of-read c.args.arena.now c.end-root.result _ (Apply c.in-Apply.head c.in-Apply.argument) c.requires.linked.arena (root_term c.args.arena.now c.args.links.now c.requires.linked c.args.node c.end-root.result c.requires.node c.end-root.ensures c.if-root-ge-FIRST_NAME.false) c.index.ensures c.in-Apply.is))
    c.in_ok-push_below-in-Unseen.ensures.marks c.in_ok-push_below-in-Unseen.ensures.steps c.in_ok-push_below-in-Unseen.ensures.seen

pub returns-in_ok-push_below-in-Unseen-clause-work : goal.returns-in_ok-push_below-in-Unseen-clause-work
returns-in_ok-push_below-in-Unseen-clause-work c =
    work_entered c.args.arena.now c.args.links.now c.args.walk.now c.requires.linked c.requires.known c.args.node c.end-root.result c.in-Apply.head c.in-Apply.argument c.push_below.new.walk c.end-root.ensures
    (root_term c.args.arena.now c.args.links.now c.requires.linked c.args.node c.end-root.result c.requires.node c.end-root.ensures c.if-root-ge-FIRST_NAME.false) c.requires.room
    ((mark_read c.args.walk.now c.args.arena.now c.end-root.result c.index-2.result.now c.requires.room (root_term c.args.arena.now c.args.links.now c.requires.linked c.args.node c.end-root.result c.requires.node c.end-root.ensures c.if-root-ge-FIRST_NAME.false) c.index-2.ensures) ∙ c.in-Unseen.is)
    (shape_of-read c.args.arena.now c.end-root.result _ (Apply c.in-Apply.head c.in-Apply.argument) c.requires.linked.arena (root_term c.args.arena.now c.args.links.now c.requires.linked c.args.node c.end-root.result c.requires.node c.end-root.ensures c.if-root-ge-FIRST_NAME.false) c.index.ensures c.in-Apply.is)
    (named_node c.args.arena.now c.end-root.result c.in-Apply.head c.in-Apply.argument c.requires.linked.arena (root_term c.args.arena.now c.args.links.now c.requires.linked c.args.node c.end-root.result c.requires.node c.end-root.ensures c.if-root-ge-FIRST_NAME.false) (shape_of-read c.args.arena.now c.end-root.result _ (Apply c.in-Apply.head c.in-Apply.argument) c.requires.linked.arena (root_term c.args.arena.now c.args.links.now c.requires.linked c.args.node c.end-root.result c.requires.node c.end-root.ensures c.if-root-ge-FIRST_NAME.false) c.index.ensures c.in-Apply.is))
    c.in_ok-push_below-in-Unseen.ensures.marks c.in_ok-push_below-in-Unseen.ensures.steps c.in_ok-push_below-in-Unseen.ensures.seen

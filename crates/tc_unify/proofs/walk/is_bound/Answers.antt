use Rattle.std.proofs.Common.{subst, arith}
use Rattle.tc_unify.specs.Nodes.{IsPlain}
use Rattle.tc_unify.specs.Links.{plain}
use Rattle.tc_unify.specs.Arena.{shape_of}
use Rattle.tc_unify.proofs.Arenas.{outer_plain, variable_above, plain_read}
use Rattle.tc_unify.proofs.Meetings.{root_term}
use Rattle.tc_unify.proofs.walk.is_bound.Goals as goal

pub returns-then-node-lt-FIRST_VARIABLE : goal.returns-then-node-lt-FIRST_VARIABLE
returns-then-node-lt-FIRST_VARIABLE c = λ no free.
    let above = variable_above c.args.arena.now.nodes.items c.args.arena.now.text.items c.args.node free in absurd (omega arith)

pub returns-then-end-ge-FIRST_NAME : goal.returns-then-end-ge-FIRST_NAME
returns-then-end-ge-FIRST_NAME c = λ no free.
    plain c.args.node
    (subst (λ k. IsPlain (shape_of c.args.arena.now k)) c.end-end.ensures
    (outer_plain c.args.arena.now.nodes.items c.args.arena.now.text.items c.end-end.result c.if-end-ge-FIRST_NAME.true))

pub index-requires : goal.index-requires
index-requires c = let below = root_term c.args.arena.now c.args.links.now c.requires.linked c.args.node c.end-end.result c.requires.node c.end-end.ensures c.if-end-ge-FIRST_NAME.false in omega arith

pub returns-in_default : goal.returns-in_default
returns-in_default c = λ no free.
    plain c.args.node
    (subst (λ k. IsPlain (shape_of c.args.arena.now k)) c.end-end.ensures
    (plain_read c.args.arena.now c.end-end.result c.index.result.now c.requires.linked.arena
    (root_term c.args.arena.now c.args.links.now c.requires.linked c.args.node c.end-end.result c.requires.node c.end-end.ensures c.if-end-ge-FIRST_NAME.false)
    c.index.ensures c.in_default.not-Apply))

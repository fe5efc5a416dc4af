use Rattle.std.proofs.Common.{refl, sym, subst, ◌+◌, ◌<◌}
use Rattle.tc_term.specs.Tree.{Variable}
use Rattle.tc_unify.specs.Arena.{IsNodeFor}
use Rattle.tc_unify.specs.declared.nodes.TheConstants.{FIRST_VARIABLE}
use Rattle.tc_unify.proofs.Arenas.{variable_node}
use Rattle.tc_unify.proofs.Splitting.{asks_pair, nodes_pair}
use Rattle.tc_unify.proofs.split.put_left.Goals as goal

pub returns-clause-asks : goal.returns-clause-asks
returns-clause-asks c =
    let a = c.args.arena.now in
    let b = c.copy.new.arena in
    let below : c.args.variable < b.variables = subst (λ n. c.args.variable < n) (sym c.copy.ensures.grows.variables) c.requires.variable in
    let own : IsNodeFor b (FIRST_VARIABLE + c.args.variable) (Variable c.args.variable) = variable_node b (FIRST_VARIABLE + c.args.variable) c.args.variable c.copy.ensures.arena refl below in
    asks_pair a b c.args.waiting.now.items (FIRST_VARIABLE + c.args.variable) c.in_ok-node.node (Variable c.args.variable) _
    c.requires.arena c.copy.ensures.arena c.copy.ensures.grows c.requires.nodes own c.in_ok-node.ensures.copied
    c.push.new.self.items c.in_ok-push.ensures.items

pub returns-clause-nodes : goal.returns-clause-nodes
returns-clause-nodes c =
    let a = c.args.arena.now in
    let b = c.copy.new.arena in
    let below : c.args.variable < b.variables = subst (λ n. c.args.variable < n) (sym c.copy.ensures.grows.variables) c.requires.variable in
    let own : IsNodeFor b (FIRST_VARIABLE + c.args.variable) (Variable c.args.variable) = variable_node b (FIRST_VARIABLE + c.args.variable) c.args.variable c.copy.ensures.arena refl below in
    nodes_pair a b c.args.waiting.now.items (FIRST_VARIABLE + c.args.variable) c.in_ok-node.node (Variable c.args.variable) _
    c.requires.arena c.copy.ensures.arena c.copy.ensures.grows c.requires.nodes own c.in_ok-node.ensures.copied
    c.push.new.self.items c.in_ok-push.ensures.items

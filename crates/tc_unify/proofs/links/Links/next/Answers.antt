use Rattle.std.proofs.Common.{sym, ◌∙◌}
use Rattle.tc_unify.proofs.Tables.{link_in-term, link_in-variable}
use Rattle.tc_unify.proofs.links.Links.next.Goals as goal

pub returns-then-node-lt-FIRST_VARIABLE : goal.returns-then-node-lt-FIRST_VARIABLE
returns-then-node-lt-FIRST_VARIABLE c =
    (cc) ∙ sym (link_in-term c.args.self.now.terms.items c.args.self.now.variables.items c.args.node c.if-node-lt-FIRST_VARIABLE.true)

pub returns-else-node-lt-FIRST_VARIABLE : goal.returns-else-node-lt-FIRST_VARIABLE
returns-else-node-lt-FIRST_VARIABLE c =
    (cc) ∙ sym (link_in-variable c.args.self.now.terms.items c.args.self.now.variables.items c.args.node c.if-node-lt-FIRST_VARIABLE.false)

use Rattle.tc_unify.proofs.Tables.{link_in-own}
use Rattle.tc_unify.proofs.adding.make_room.Goals as goal

pub returns-clause-link : goal.returns-clause-link
returns-clause-link c = λ k. link_in-own c.args.links.now.terms.items c.push_own.new.table.items c.args.links.now.variables.items c.push_own.ensures.own k

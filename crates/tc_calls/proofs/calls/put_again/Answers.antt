use Rattle.std.proofs.Common.{subst}
use Rattle.tc_calls.specs.Calls.{IsAt}
use Rattle.tc_calls.proofs.CallLists.{Rises-set, sets-set}
use Rattle.tc_calls.proofs.calls.put_again.Goals as goal

pub returns-clause-places : goal.returns-clause-places
returns-clause-places c =
    sets-set c.args.calls.now.items c.args.number c.args.place c.in-Some.at c.requires.rises
    (subst (λ calls. IsAt calls c.args.number c.in-Some.at) c.deref.ensures.value c.in-Some.ensures.found)

pub returns-clause-rises : goal.returns-clause-rises
returns-clause-rises c =
    Rises-set c.args.calls.now.items c.args.number c.args.place c.in-Some.at c.requires.rises
    (subst (λ calls. IsAt calls c.args.number c.in-Some.at) c.deref.ensures.value c.in-Some.ensures.found)

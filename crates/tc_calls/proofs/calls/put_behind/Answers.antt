use Rattle.std.proofs.Common.{sym, subst}
use Rattle.tc_calls.specs.Calls.{SetsPlace}
use Rattle.tc_calls.proofs.CallLists.{sets-push}
use Rattle.tc_calls.proofs.calls.put_behind.Goals as goal

pub returns-clause-places : goal.returns-clause-places
returns-clause-places c =
    subst (SetsPlace c.args.number c.args.place c.args.calls.now.items) (sym c.push_reserved.ensures.items)
    (sets-push c.args.calls.now.items c.args.number c.args.place c.requires.above)

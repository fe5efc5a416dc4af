use Rattle.std.proofs.Common.{sym}
use Rattle.tc_calls.proofs.CallLists.{place_of-at}
use Rattle.tc_rows.proofs.replies.place_of.Goals as goal

pub returns-in-Some : goal.returns-in-Some
returns-in-Some c = sym (place_of-at c.args.calls.now c.args.number c.in-Some.at c.requires c.in-Some.ensures.found)

use Rattle.std.proofs.Common.{sym, ◌∙◌}
use Rattle.tc_session.proofs.Underway.{next_held, none_held}
use Rattle.tc_session.proofs.going.next_line.Goals as goal

pub returns-in-None-clause-line : goal.returns-in-None-clause-line
returns-in-None-clause-line c held holds =
    next_held c.next_request.result c.args.lines.now c.next_request.new.self held c.next_request.ensures.some c.next_request.ensures.same
    (none_held c.args.taken.now c.args.lines.now held (sym c.take.ensures.value ∙ c.in-None.is) holds)

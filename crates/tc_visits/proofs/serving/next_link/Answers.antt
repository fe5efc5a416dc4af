use Rattle.std.proofs.Common.{◌∙◌}
use Rattle.tc_visits.proofs.Accepted.{counts-since, err-none, lent-back}
use Rattle.tc_visits.proofs.serving.next_link.Goals as goal

pub returns-clause-counted : goal.returns-clause-counted
returns-clause-counted g c =
    let none = err-none c.accept.result c.ok.result c.ok.ensures.variant in
    counts-since (g.D.Door.door_faults c.args.door.now) (g.D.Door.door_faults c.attend_till_come.new.door) (g.D.Door.door_faults c.accept.new.self)
    c.attend_till_come.ensures.faults (λ failed. (c.if-not-goes_on.false, none.0 failed)) (λ both. none.1 both.1) c.accept.ensures.counted

pub returns-clause-seats : goal.returns-clause-seats
returns-clause-seats g c =
    lent-back c.args.seats.now.items c.attend_till_come.new.seats _ c.args.seats.now.len (c.attend_till_come.ensures.seats ∙ c.deref_mut.ensures.value) c.args.seats.now.ok.0

use Rattle.std.proofs.Common.{◌∙◌, sym, ap, length}
use Rattle.tc_centre.specs.Operations.{op_of}
use Rattle.tc_centre.proofs.Known.{known-as}
use Rattle.tc_centre.proofs.Growing.{new-reply}
use Rattle.tc_centre.proofs.serving.serve_call.Goals as goal

pub returns-in-Some-clause-answer : goal.returns-in-Some-clause-answer
returns-in-Some-clause-answer g c =
    new-reply c.args.held.now.history.items c.call.new.held.history.items c.answer_all.new.held.history.items c.deref.result.now
    c.args.id (op_of c.args.op) c.len-before.result c.requires.may.next.number
    c.in_ok-call.ensures.called c.in_ok-answer_all.ensures.answers c.deref.ensures.value
    (c.len-before.ensures ∙ c.args.held.now.history.ok.0)
    ∙ sym c.in_ok-reply.ensures ∙ c.in-Some.is

pub returns-clause-answer : goal.returns-clause-answer
returns-clause-answer g c =
    new-reply c.args.held.now.history.items c.call.new.held.history.items c.answer_all.new.held.history.items c.deref.result.now
    c.args.id (op_of c.args.op) c.len-before.result c.requires.may.next.number
    c.in_ok-call.ensures.called c.in_ok-answer_all.ensures.answers c.deref.ensures.value
    (c.len-before.ensures ∙ c.args.held.now.history.ok.0)
    ∙ sym c.in_ok-reply.ensures ∙ c.in-None.is

pub answer_all-requires-clause-known : goal.answer_all-requires-clause-known
answer_all-requires-clause-known g c =
    known-as c.args.held.now c.call.new.held (length c.list.result.now) c.next_age.result (ap length c.list.ensures) c.next_age.ensures
    c.in_ok-call.ensures.known

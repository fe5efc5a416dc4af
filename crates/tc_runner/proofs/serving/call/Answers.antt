use Rattle.std.proofs.Common.{IfOk, sym, subst}
use Rattle.tc_desk.specs.Served.{IsServedAs}
use Rattle.tc_runner.proofs.Results.{IsServedAs-turned}
use Rattle.tc_runner.proofs.serving.call.Goals as goal

pub returns-in-Ok-clause-result : goal.returns-in-Ok-clause-result
returns-in-Ok-clause-result c =
    subst (λ r. IfOk r (IsServedAs c.args.core.now.origin c.turn-answer.new.self.history c.args.id c.args.ask)) (sym c.told.ensures)
    (IsServedAs-turned c.args.core.now c.turn-answer.new.self c.args.id c.args.ask c.in-Ok.op c.requires c.rests.ensures c.in-Ok.ensures.op
    c.turn-answer.result c.turn-answer.ensures.served c.turn-answer.ensures.refused c.turn-answer.ensures.same)

use Rattle.std.proofs.Common.{Contains, subst}
use Rattle.std.proofs.lemmas.Result.{IfOk-weaker}
use Rattle.tc_desk.specs.Served.{IsResult, IsServedAs}
use Rattle.tc_model.specs.Asks.{primitive_of}
use Rattle.tc_model.specs.declared.asks.Primitive.{Primitive}
use Rattle.tc_policy.specs.Places.{grant}
use Rattle.tc_runner.proofs.Results.{Contains-some, IsResult-permitted}
use Rattle.tc_runner.proofs.serving.serve.Goals as goal

pub returns-clause-result : goal.returns-clause-result
returns-clause-result c =
    let grants = c.args.roles.now in
    let stands : Contains grants (grant c.args.role c.args.place c.primitive.result) =
    Contains-some (grant c.args.role c.args.place c.primitive.result) grants c.permits.result c.permits.ensures.first c.if-is_none.ensures in
    let may : Contains grants (grant c.args.role c.args.place (primitive_of c.args.ask)) =
    subst (λ (p : Primitive). Contains grants (grant c.args.role c.args.place p)) c.primitive.ensures stands in
    IfOk-weaker c.call.result (IsServedAs c.args.core.now.origin c.call.new.core.history c.args.id c.args.ask)
    (IsResult (Contains grants (grant c.args.role c.args.place (primitive_of c.args.ask))) c.args.core.now.origin c.call.new.core.history c.args.id c.args.ask)
    (λ r served. IsResult-permitted _ c.args.core.now.origin c.call.new.core.history c.args.id c.args.ask r may served)
    c.call.ensures.result

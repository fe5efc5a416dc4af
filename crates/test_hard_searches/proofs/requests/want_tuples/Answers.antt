use Rattle.std.proofs.Common.{arith}
use Rattle.tc_lists.proofs.Elements.{All-take_read, All-from_take}
use Rattle.tc_model.specs.State.{WantsTuple}
use Rattle.tc_model.specs.declared.calls.Request.{Request}
use Rattle.test_hard_searches.proofs.requests.want_tuples.Goals as goal

pub loop-request-preserved : goal.loop-request-preserved
loop-request-preserved c =
    All-take_read (λ (r : Request). WantsTuple r.wants) c.args.requests.now c.loop-request.request-index c.request-item.result
    c.loop-request-test.true c.request-item.is c.loop-request.invariant (c.wants_tuple.ensures c.if-not-wants_tuple.false)

pub returns : goal.returns
returns c = λ yes.
    All-from_take (λ (r : Request). WantsTuple r.wants) c.args.requests.now c.loop-request.request-index
    (omega (arith, c.loop-request-test.false)) c.loop-request.invariant

use Rattle.std.proofs.Common.{◌<◌, length, arith}
use Rattle.tc_bag.specs.Stock.{tuples_of}
use Rattle.tc_model.specs.State.{IsAnswerable}
use Rattle.tc_pending.proofs.Costs.{requests_steps-drop}
use Rattle.tc_pending.proofs.Next.{none_further, none_at_all}
use Rattle.tc_pending.proofs.answering.answerable_from.Goals as goal

pub loop-at-preserved : goal.loop-at-preserved
loop-at-preserved g c =
    let inside : c.loop-at.at < length c.args.requests.now = omega (arith, c.loop-at-test.true) in
    record {
      none = none_further (IsAnswerable (tuples_of c.args.bag.now.now)) c.args.requests.now c.loop-at.at c.index-requests-at.result
          inside c.index-requests-at.is c.loop-at.invariant.none c.in_default.ensures.none;
      counted = omega (
        arith,
        c.loop-at.invariant.counted,
        c.in_default.ensures.counted,
        requests_steps-drop (tuples_of c.args.bag.now.now) c.args.requests.now c.loop-at.at c.index-requests-at.result inside c.index-requests-at.is,
      );
      rises = omega (arith, c.loop-at.invariant.rises, c.in_default.ensures.rises);
    }

pub returns-in-Some-clause-counted : goal.returns-in-Some-clause-counted
returns-in-Some-clause-counted g c =
    omega (
      arith,
      c.loop-at.invariant.counted,
      c.in-Some.ensures.counted,
      requests_steps-drop (tuples_of c.args.bag.now.now) c.args.requests.now c.loop-at.at c.index-requests-at.result
          (omega (arith, c.loop-at-test.true)) c.index-requests-at.is,
    )

pub returns-clause-none : goal.returns-clause-none
returns-clause-none g c =
    none_at_all c.args.bag.now.now c.args.requests.now c.loop-at.at (omega (arith, c.loop-at-test.false)) c.loop-at.invariant.none

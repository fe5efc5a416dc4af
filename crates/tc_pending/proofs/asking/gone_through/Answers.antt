use Rattle.std.proofs.Common.{sym, arith}
use Rattle.std.proofs.lemmas.Bool.{true≢false}
use Rattle.tc_pending.specs.Filed.{Asks}
use Rattle.tc_pending.proofs.Next.{none_further}
use Rattle.tc_pending.proofs.Wanting.{NoneOf-fewer}
use Rattle.tc_pending.proofs.asking.gone_through.Goals as goal

pub loop-place-preserved : goal.loop-place-preserved
loop-place-preserved g c =
    record {
      none = none_further (Asks c.args.wanted.now) c.args.waiters.now.requests.now c.loop-place.place c.index-requests-place.result
          (omega (arith, c.loop-place-test.true, c.requires.inside)) c.index-requests-place.is c.loop-place.invariant.none
          (λ asks. absurd (true≢false (sym (c.if-asks.ensures.exact.1 asks))));
      rises = omega (arith, c.loop-place.invariant.rises, c.if-asks.ensures.rises);
    }

pub returns-clause-none : goal.returns-clause-none
returns-clause-none g c =
    NoneOf-fewer (Asks c.args.wanted.now) c.args.waiters.now.requests.now c.args.count c.loop-place.place
    (omega (arith, c.loop-place-test.false)) c.loop-place.invariant.none

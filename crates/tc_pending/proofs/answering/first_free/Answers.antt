use Rattle.std.proofs.Common.{sym, arith}
use Rattle.std.proofs.lemmas.Bool.{true≢false}
use Rattle.tc_bag.specs.Stock.{tuples_of}
use Rattle.tc_pending.specs.Answers.{IsFree}
use Rattle.tc_pending.proofs.Next.{none_further}
use Rattle.tc_pending.proofs.Wanting.{NoneOf-fewer}
use Rattle.tc_pending.proofs.answering.first_free.Goals as goal

pub loop-place-preserved : goal.loop-place-preserved
loop-place-preserved g c =
    record {
      none = none_further (IsFree (tuples_of c.args.bag.now.now)) c.args.requests.now c.loop-place.place c.index-requests-place.result
          (omega (arith, c.loop-place-test.true, c.requires)) c.index-requests-place.is c.loop-place.invariant.none
          (λ free. absurd (true≢false (sym (c.if-is_free.ensures.exact.1 free))));
      rises = omega (arith, c.loop-place.invariant.rises, c.if-is_free.ensures.rises);
    }

pub returns-clause-none : goal.returns-clause-none
returns-clause-none g c =
    NoneOf-fewer (IsFree (tuples_of c.args.bag.now.now)) c.args.requests.now c.args.count c.loop-place.place
    (omega (arith, c.loop-place-test.false)) c.loop-place.invariant.none

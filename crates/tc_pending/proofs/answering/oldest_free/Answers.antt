use Rattle.std.proofs.Common.{get_or, arith}
use Rattle.std.proofs.lemmas.Option.{slice_get-get_or}
use Rattle.tc_pending.proofs.Freed.{freed-more, freed-oldest, freed-none}
use Rattle.tc_pending.proofs.answering.oldest_free.Goals as goal

pub loop-i-preserved : goal.loop-i-preserved
loop-i-preserved g c =
    record {
      freed = freed-more c.args.bag.now c.args.waiters.now.requests.now c.taken-gone.result.now c.args.count c.loop-i.least c.loop-i.i
          c.freed_by-least.result (get_or c.taken-gone.result.now c.loop-i.i 0) c.loop-i.invariant.freed
          (slice_get-get_or c.taken-gone.result.now c.loop-i.i 0 (omega (arith, c.loop-i-test.true)))
          c.freed_by-least.ensures.inside c.freed_by-least.ensures.free c.freed_by-least.ensures.none;
      rises = omega (arith, c.loop-i.invariant.rises, c.freed_by-least.ensures.rises);
    }

pub returns-then-least-count-clause-found : goal.returns-then-least-count-clause-found
returns-then-least-count-clause-found g c =
    freed-oldest c.args.bag.now c.args.waiters.now.requests.now c.taken-gone.result.now c.args.count c.loop-i.least c.loop-i.i
    (omega (arith, c.loop-i-test.false)) c.taken-gone.ensures.gone c.requires.had c.loop-i.invariant.freed c.if-least-count.true

pub returns-else-least-count-clause-none : goal.returns-else-least-count-clause-none
returns-else-least-count-clause-none g c =
    freed-none c.args.bag.now c.args.waiters.now.requests.now c.taken-gone.result.now c.args.count c.loop-i.least c.loop-i.i
    (omega (arith, c.loop-i-test.false)) c.taken-gone.ensures.gone c.requires.had c.loop-i.invariant.freed
    (omega (arith, c.if-least-count.false))

use Rattle.std.proofs.Common.{ap, ⊎_elim}
use Rattle.tc_desk.specs.Logs.{is_served}
use Rattle.tc_site.proofs.Settled.{replied-none, unserved-all, unserved-more}
use Rattle.tc_site.proofs.settling.pending_in.Goals as goal

pub returns-in-Replied-clause-none : goal.returns-in-Replied-clause-none
returns-in-Replied-clause-none c =
    replied-none c.args.log.now c.loop-place.place _ c.loop-place-test.true c.loop-place.auto.place c.loop-place.invariant c.requires _ c.in-Replied.is

pub loop-place-preserved : goal.loop-place-preserved
loop-place-preserved c =
    unserved-more c.args.log.now c.loop-place.place _ c.loop-place-test.true c.loop-place.auto.place c.loop-place.invariant
    (⊎_elim (λ why. ap is_served why.1) (λ told. ap is_served told.1) c.in-Refused.is)

pub returns-clause-none : goal.returns-clause-none
returns-clause-none c = unserved-all c.args.log.now c.loop-place.place c.loop-place-test.false c.loop-place.invariant

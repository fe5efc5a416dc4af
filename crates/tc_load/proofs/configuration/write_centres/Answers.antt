use Rattle.tc_load.specs.Workload.{centre_text}
use Rattle.tc_load.proofs.Steps.{written-range}
use Rattle.tc_load.proofs.configuration.write_centres.Goals as goal

pub loop-k-preserved : goal.loop-k-preserved
loop-k-preserved c =
    written-range centre_text c.loop-k.k _ c.loop-k.into.items _ c.loop-k.invariant c.in_ok-write_centre.ensures.appended

use Rattle.std.proofs.Common.{Ok}
use Rattle.tc_histline.specs.declared.versions.Version.TheVariants.{Two}
use Rattle.tc_io.specs.Flow.{HandsOn, flow}
use Rattle.tucson.proofs.Zipped.{first, log_of}
use Rattle.tucson.proofs.writing.write_logs.Given as goal

-- the logs of the first agents were handed on
abbrev pub invariant-loop-place : goal.invariant-loop-place
invariant-loop-place g l =
    HandsOn (first (log_of Two) l.plan.agents l.logs l.place)
    (flow g.K.Sink.taken g.K.Sink.write_faults g.K.Sink.sure l.fn.sink l.fn.kept.items)
    (flow g.K.Sink.taken g.K.Sink.write_faults g.K.Sink.sure l.sink l.kept.items) (Ok tt)

use Rattle.std.proofs.Common.{Ok}
use Rattle.tc_config.specs.Configurations.{agent_names, centre_names}
use Rattle.tc_histtext.specs.Text.{history_text}
use Rattle.tc_runner.specs.Cores.{histories}
use Rattle.tc_io.specs.Flow.{HandsOn, flow}
use Rattle.tucson.proofs.Zipped.{first}
use Rattle.tucson.proofs.writing.write_histories.Given as goal

-- the histories of the first centres were handed on
abbrev pub invariant-loop-place : goal.invariant-loop-place
invariant-loop-place g l =
    HandsOn (first (history_text (agent_names l.plan)) (centre_names l.plan) (histories l.plan l.cores) l.place)
    (flow g.K.Sink.taken g.K.Sink.write_faults g.K.Sink.sure l.fn.sink l.fn.kept.items)
    (flow g.K.Sink.taken g.K.Sink.write_faults g.K.Sink.sure l.sink l.kept.items) (Ok tt)

use Rattle.std.proofs.Common.{subst}
use Rattle.tc_config.specs.Configurations.{Configuration}
use Rattle.tc_config.specs.Good.{IsGood}
use Rattle.tc_io.specs.Sinks.{sink_of}
use Rattle.tc_model.specs.Choices.{TheFirst}
use Rattle.tucson.specs.Answer.{IsOutcomeOf}
use Rattle.tucson.specs.Ending.{WritesDue}
use Rattle.tucson.specs.Texts.{whole_text}
use Rattle.tucson.proofs.running.run.Goals as goal

pub returns-in-Ok-clause-tells : goal.returns-in-Ok-clause-tells
returns-in-Ok-clause-tells g c =
    subst
    (λ (config : Configuration).
    WritesDue (IsOutcomeOf (IsGood TheFirst config) (whole_text config)) (sink_of g.K.Sink.taken g.K.Sink.write_faults g.K.Sink.sure c.args.sink.now)
    (sink_of g.K.Sink.taken g.K.Sink.write_faults g.K.Sink.sure c.write_run-status.new.sink) c.write_run-status.result)
    c.in-Ok.ensures.plan c.write_run-status.ensures.tells

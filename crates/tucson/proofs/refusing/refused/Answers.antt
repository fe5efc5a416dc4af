use Rattle.std.proofs.Common.{◌∙◌, ℕ, List, subst}
use Rattle.tc_io.specs.Sinks.{sink_of}
use Rattle.tucson.specs.Ending.{Writes}
use Rattle.tucson.specs.declared.status.Status.TheVariants.{Refused}
use Rattle.tucson.proofs.refusing.refused.Goals as goal

pub returns-in-Ok-clause-wrote : goal.returns-in-Ok-clause-wrote
returns-in-Ok-clause-wrote g c =
    subst
    (λ (text : List ℕ).
    Writes (Refused c.args.clause c.args.cause) text (sink_of g.K.Sink.taken g.K.Sink.write_faults g.K.Sink.sure c.args.sink.now)
    (sink_of g.K.Sink.taken g.K.Sink.write_faults g.K.Sink.sure c.written.new.sink) c.written.result)
    (c.deref.ensures.value ∙ c.in-Ok.ensures) c.written.ensures.wrote

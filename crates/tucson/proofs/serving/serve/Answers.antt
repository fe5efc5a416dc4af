use Rattle.std.proofs.Common.{◌∙◌, length, sym, subst, inr}
use Rattle.std.proofs.lemmas.Bool.{true≢false}
use Rattle.tc_config.specs.Configurations.{Configuration}
use Rattle.tc_io.specs.Sinks.{sink_of}
use Rattle.tc_visits.specs.Service.{UsesDoor, door_of}
use Rattle.tucson.proofs.Outcomes.{listen_fails, listened_use, service_used}
use Rattle.tucson.proofs.serving.serve.Goals as goal

pub returns-then-is_err-clause-tells : goal.returns-then-is_err-clause-tells
returns-then-is_err-clause-tells g c =
    listen_fails (door_of g.D.Door.opened g.D.Door.door_faults c.args.door.now) (door_of g.D.Door.opened g.D.Door.door_faults c.listen.new.self)
    c.args.config (sink_of g.K.Sink.taken g.K.Sink.write_faults g.K.Sink.sure c.args.sink.now)
    (c.listen.ensures.counted.failed (sym c.is_err.ensures.value ∙ c.if-is_err.true)) c.listen.ensures.opened

pub returns-in-Ok-clause-memory : goal.returns-in-Ok-clause-memory
returns-in-Ok-clause-memory g c = λ lacks.
    let old = door_of g.D.Door.opened g.D.Door.door_faults c.args.door.now in
    let listened = door_of g.D.Door.opened g.D.Door.door_faults c.listen.new.self in
    let after = door_of g.D.Door.opened g.D.Door.door_faults c.service.new.door in
    let s = c.in-Ok.service in
    listened_use (length c.args.config.agents) old listened after c.listen.ensures.opened
    (c.listen.ensures.counted.unfailed (λ failed. true≢false (sym failed ∙ sym c.is_err.ensures.value ∙ c.if-is_err.false)))
    (inr (subst (λ (p : Configuration). UsesDoor (length p.agents) listened after) c.in-Ok.ensures.plan
    (service_used listened after s.run.plan s.all s.enough _ _ c.in-Ok.ensures.served)))

pub returns-in-Err-clause-memory : goal.returns-in-Err-clause-memory
returns-in-Err-clause-memory g c = λ lacks.
    listened_use (length c.args.config.agents) (door_of g.D.Door.opened g.D.Door.door_faults c.args.door.now)
    (door_of g.D.Door.opened g.D.Door.door_faults c.listen.new.self) (door_of g.D.Door.opened g.D.Door.door_faults c.service.new.door)
    c.listen.ensures.opened
    (c.listen.ensures.counted.unfailed (λ failed. true≢false (sym failed ∙ sym c.is_err.ensures.value ∙ c.if-is_err.false)))
    c.in-Err.ensures.door

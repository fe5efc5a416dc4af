use Rattle.std.proofs.Common.{◌∙◌, ℕ, List, None, Some, Vec, Global, map, ap, refl, subst}
use Rattle.tc_io.specs.Sinks.{sink_of}
use Rattle.tc_io.specs.Sources.{source_of}
use Rattle.tc_visits.specs.Service.{door_of}
use Rattle.tucson.specs.Commands.{IsCommandOf}
use Rattle.tucson.specs.Texts.{usage_text}
use Rattle.tucson.specs.declared.command.Command.TheVariants.{Run, Load, Verify}
use Rattle.tucson.proofs.Returning.{returns-usage}
use Rattle.tucson.proofs.top.tucson.Goals as goal

-- the bytes of a word
abbrev bytes : Vec ℕ Global → List ℕ
bytes w = w.items

pub returns-in-Some-Run : goal.returns-in-Some-Run
returns-in-Some-Run g c =
    let words = map bytes c.args.words.now in (
      Some (Run c.in-Some-Run.workers),
      subst (IsCommandOf words) (c.in-Some-Run.is ∙ ap Some c.in-Some-Run.field-0-is) c.command_of.ensures,
      c.run_main.ensures (door_of g.D.Door.opened g.D.Door.door_faults c.args.door.now),
    )

pub returns-in-Some-Load : goal.returns-in-Some-Load
returns-in-Some-Load g c =
    let words = map bytes c.args.words.now in (
      Some (Load c.in-Some-Load.agents c.in-Some-Load.start),
      subst (IsCommandOf words) (c.in-Some-Load.is ∙ ap Some c.in-Some-Load.field-0-is) c.command_of.ensures,
      c.load_main.ensures (source_of g.S.Source.left g.S.Source.read_faults g.S.Source.sure c.args.source.now)
          (door_of g.D.Door.opened g.D.Door.door_faults c.args.door.now),
    )

pub returns-in-Some-Verify : goal.returns-in-Some-Verify
returns-in-Some-Verify g c =
    let words = map bytes c.args.words.now in (
      Some Verify,
      subst (IsCommandOf words) (c.in-Some-Verify.is ∙ ap Some c.in-Some-Verify.field-0-is) c.command_of.ensures,
      c.verify_main.ensures (door_of g.D.Door.opened g.D.Door.door_faults c.args.door.now),
    )

pub returns-in-None : goal.returns-in-None
returns-in-None g c =
    let words = map bytes c.args.words.now in (
      None,
      subst (IsCommandOf words) c.in-None.is c.command_of.ensures,
      returns-usage (source_of g.S.Source.left g.S.Source.read_faults g.S.Source.sure c.args.source.now)
          (sink_of g.K.Sink.taken g.K.Sink.write_faults g.K.Sink.sure c.args.sink.now)
          (sink_of g.K.Sink.taken g.K.Sink.write_faults g.K.Sink.sure c.written.new.sink)
          (door_of g.D.Door.opened g.D.Door.door_faults c.args.door.now) usage_text c.written.result refl c.written.ensures.wrote
          c.written.ensures.reads c.written.ensures.writes,
    )

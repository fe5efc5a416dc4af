use Rattle.std.proofs.Common.{sym, ◌∙◌, arith}
use Rattle.tc_histtext.proofs.Steps.{logs_left, no_end_yet}
use Rattle.tc_histtext.proofs.reading.Reading.end.Goals as goal
use Rattle.tc_histtext.proofs.reading.Reading.end.Goals.{then-not-may_tell-via-then-not-may_tell, then-not-may_tell-via-else-not-may_tell+then-len-agents}

pub returns-then-not-may_tell : goal.returns-then-not-may_tell
returns-then-not-may_tell c =
    let r = c.args.self.now in
    elim c.then-not-may_tell.branch [
      | then-not-may_tell-via-then-not-may_tell w ↦
          no_end_yet c.args.centres.now c.args.agents.now r.place r.histories.items r.logs.items c.args.blocked (sym c.may_tell.ensures ∙ w.if-not-may_tell.true) c.requires.sound.0
      | then-not-may_tell-via-else-not-may_tell+then-len-agents w ↦
          logs_left c.args.centres.now c.args.agents.now r.place r.histories.items r.logs.items c.args.blocked
          (λ same. omega (arith, w.if-len-agents.true, w.len.ensures, r.logs.ok.0, same)) c.requires.sound.0
    ]

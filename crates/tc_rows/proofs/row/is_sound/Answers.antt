use Rattle.std.proofs.Common.{length, ap, arith}
use Rattle.std.proofs.lemmas.Result.{IfOk-weaker}
use Rattle.tc_rows.proofs.Sounding.{index-made}
use Rattle.tc_rows.proofs.row.is_sound.Goals as goal

pub is_placed-requires-clause-made : goal.is_placed-requires-clause-made
is_placed-requires-clause-made c =
    index-made c.args.config.now c.args.histories.now c.args.index.now c.requires.quiet c.requires.index

pub is_placed-requires-clause-few : goal.is_placed-requires-clause-few
is_placed-requires-clause-few c =
    omega (arith, c.requires.inside, c.agents-agents.ensures.config.few_agents, ap length c.agents-agents.ensures.agents)

pub is_told_there-requires-clause-alone : goal.is_told_there-requires-clause-alone
is_told_there-requires-clause-alone c = (c.is_placed.ensures.0 c.if-not-is_placed.false).alone

pub returns : goal.returns
returns c = λ a at.
    IfOk-weaker c.is_told_there.result _ _
    (λ y h. (
      λ yes. record { placed = c.is_placed.ensures.0 c.if-not-is_placed.false; told = h.0 yes },
      λ sound. h.1 sound.told,
    ))
    (c.is_told_there.ensures a at)

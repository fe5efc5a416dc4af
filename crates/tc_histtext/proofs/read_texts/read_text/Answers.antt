use Rattle.std.proofs.Common.{subst}
use Rattle.tc_histtext.specs.Answers.{IsFound}
use Rattle.tc_histtext.proofs.LineLaws.{line_laws}
use Rattle.tc_histtext.proofs.OneAnswer.{fault-one, text-one}
use Rattle.tc_histtext.proofs.read_texts.read_text.Goals as goal

pub returns-in-Text-clause-same : goal.returns-in-Text-clause-same
returns-in-Text-clause-same c t is =
    text-one c.args.centres.now c.args.agents.now (line_laws c.args.agents.now c.requires.differ) c.in-Text.text t c.args.text.now
    (subst (IsFound c.args.centres.now c.args.agents.now c.args.text.now) c.in-Text.is c.in_ok-text.ensures) is

pub returns-clause-first : goal.returns-clause-first
returns-clause-first c k is =
    fault-one c.args.centres.now c.args.agents.now c.args.text.now c.in-Fault.line k
    (subst (IsFound c.args.centres.now c.args.agents.now c.args.text.now) c.in-Fault.is c.in_ok-text.ensures) is

use Rattle.tc_verify.specs.declared.verdicts.Question.TheVariants.{Run, Service}
use Rattle.tc_verify.proofs.OneVerdict.{verdict-one}
use Rattle.tc_verify.proofs.laws.a_text_has_one_verdict.Goals as goal

pub returns-clause-run : goal.returns-clause-run
returns-clause-run d c bytes v w differ is other = verdict-one Run c bytes differ v w is other

pub returns-clause-service : goal.returns-clause-service
returns-clause-service d c bytes v w differ is other = verdict-one Service c bytes differ v w is other

use Rattle.std.proofs.Common.{sym, ap₂, subst, ◌∙◌}
use Rattle.tc_config.specs.Answers.{IsConfigWant, IsThisRefusal}
use Rattle.tc_config.specs.Texts.{IsRefused, Spells}
use Rattle.tc_verify.specs.Verdicts.{IsVerdictOn}
use Rattle.tc_verify.specs.declared.judging.Judgement.TheVariants.{Refused}
use Rattle.tc_verify.proofs.OneParting.{parted-one}
use Rattle.tc_verify.proofs.judging.judge.Goals as goal

pub returns-in_ok-line-in-Ok-clause-verdict : goal.returns-in_ok-line-in-Ok-clause-verdict
returns-in_ok-line-in-Ok-clause-verdict c first second config verdict parts spells is =
    let one = parted-one c.args.input.now first second c.parted.result.0.now c.parted.result.1.now parts c.parted.ensures in
    let same = c.in-Ok.ensures.same config (subst (λ text. Spells text config) one.0 spells) in
    c.in_ok-verdict-in-Ok.ensures.same verdict
    (subst (λ k. IsVerdictOn c.args.question k c.parted.result.1.now verdict) (sym same) (subst (λ text. IsVerdictOn c.args.question config text verdict) one.1 is))

pub returns-in_ok-line-in-Ok-clause-refused : goal.returns-in_ok-line-in-Ok-clause-refused
returns-in_ok-line-in-Ok-clause-refused c first second clause why parts is =
    let one = parted-one c.args.input.now first second c.parted.result.0.now c.parted.result.1.now parts c.parted.ensures in
    absurd (c.in-Ok.ensures.refused clause why (subst (λ text. IsRefused text clause why) one.0 is))

pub returns-in-Err-Bad-clause-verdict : goal.returns-in-Err-Bad-clause-verdict
returns-in-Err-Bad-clause-verdict c first second config verdict parts spells is =
    let one = parted-one c.args.input.now first second c.parted.result.0.now c.parted.result.1.now parts c.parted.ensures in
    subst IsConfigWant c.in-Err-Bad.field-0-is (c.in-Err-Bad.ensures.whole config (subst (λ text. Spells text config) one.0 spells))

pub returns-in-Err-Bad-clause-refused : goal.returns-in-Err-Bad-clause-refused
returns-in-Err-Bad-clause-refused c first second clause why parts is =
    let one = parted-one c.args.input.now first second c.parted.result.0.now c.parted.result.1.now parts c.parted.ensures in
    let this = subst (IsThisRefusal clause why) c.in-Err-Bad.field-0-is (c.in-Err-Bad.ensures.first clause why (subst (λ text. IsRefused text clause why) one.0 is)) in
    ap₂ Refused (c.in-Err-Bad.clause-is ∙ this.0) (c.in-Err-Bad.cause-is ∙ this.1)

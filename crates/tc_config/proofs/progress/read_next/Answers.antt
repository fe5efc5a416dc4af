use Rattle.tc_config.specs.Answers.{IsConfigFault}
use Rattle.tc_config.specs.Drafts.{config_of}
use Rattle.tc_config.proofs.Onward.{handed_on, told_refused}
use Rattle.tc_config.proofs.progress.read_next.Goals as goal

pub returns-in_err-piece-clause-fault : goal.returns-in_err-piece-clause-fault
returns-in_err-piece-clause-fault c =
    let text = c.args.text.now in
    let before = c.args.progress.now in
    let conf = config_of before.draft in
    handed_on c.from_residual.result (IsConfigFault text) c.in_err-piece.field-0.0 c.from_residual.ensures.1
    (told_refused text before.from before.count conf c.in_err-piece.field-0.0 c.requires.progress.read c.requires.short
    (c.in_err-piece.ensures.fault conf))

use Rattle.std.proofs.Common.{Err, subst, sym}
use Rattle.tc_config.specs.Answers.{IsFaultAt}
use Rattle.tc_config.specs.Drafts.{config_of}
use Rattle.tc_config.specs.Forms.{IsFormed}
use Rattle.tc_config.proofs.FirstCauses.{told-fault}
use Rattle.tc_config.proofs.Onward.{told_refused}
use Rattle.tc_config.proofs.PieceByPiece.{found_here, more_read, shapeless}
use Rattle.tc_config.proofs.progress.add_piece.Goals as goal

pub returns-in_default-clause-fault : goal.returns-in_default-clause-fault
returns-in_default-clause-fault c =
    let text = c.args.text.now in
    let before = c.args.progress.now in
    let conf = config_of before.draft in
    told_refused text before.from before.count conf c.bad.result c.requires.progress.read c.requires.short
    (subst (IsFaultAt text before.from before.count conf) (sym c.bad.ensures)
    (shapeless text before.from before.count conf c.args.piece c.requires.piece c.requires.place c.in_default.is))

pub returns-in-Err-clause-fault : goal.returns-in-Err-clause-fault
returns-in-Err-clause-fault c =
    let text = c.args.text.now in
    let before = c.args.progress.now in
    let conf = config_of before.draft in
    let piece = c.requires.piece in
    told_refused text before.from before.count conf c.refused.result c.requires.progress.read c.requires.short
    (c.refused.ensures text before.from c.args.piece.behind conf piece.term (found_here text before.from c.args.piece piece c.requires.place)
    (told-fault conf piece.term c.in-Some.form (Err c.in-Err.fault) (subst (IsFormed piece.term) c.in-Some.is piece.formed)
    c.in-Err.ensures.fault))

pub returns-clause-added : goal.returns-clause-added
returns-clause-added c =
    let before = c.args.progress.now in record {
      draft = c.in_default-add.ensures.added.draft;
      read = more_read c.args.text.now before.from before.count c.args.piece c.in-Some.form before.draft c.add.new.draft
          c.requires.progress.read c.requires.piece c.requires.place c.in-Some.is c.in_default-add.ensures.added;
    }

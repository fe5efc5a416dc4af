use Rattle.tc_config.proofs.progress.next_piece.Goals as goal

pub returns-in-Err-clause-fault : goal.returns-in-Err-clause-fault
returns-in-Err-clause-fault c d = c.no_clause.ensures c.args.text.now c.args.from d c.in-Err.ensures.unread

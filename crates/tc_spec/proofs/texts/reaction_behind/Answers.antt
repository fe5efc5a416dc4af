use Rattle.tc_spec.proofs.texts.reaction_behind.Goals as goal

pub returns-in-Err-clause-fault : goal.returns-in-Err-clause-fault
returns-in-Err-clause-fault c = c.refused.ensures c.args.clause.now c.in-Err.ensures.fault

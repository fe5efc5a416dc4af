use Rattle.tc_spec.proofs.NoGap.{text_gap}
use Rattle.tc_spec.proofs.OneText.{clauses_or_fault, one_fault}
use Rattle.tc_spec.proofs.laws.a_text_is_clauses_or_has_one_fault.Goals as goal

pub returns-clause-fault : goal.returns-clause-fault
returns-clause-fault c = one_fault

pub returns-clause-not_both : goal.returns-clause-not_both
returns-clause-not_both c = clauses_or_fault

pub returns-clause-not_neither : goal.returns-clause-not_neither
returns-clause-not_neither c = text_gap

use Rattle.tc_spec.proofs.Decoding.{one_rule}
use Rattle.tc_spec.proofs.Exact.{excluded, same_cause}
use Rattle.tc_spec.proofs.NoGap.{term_gap}
use Rattle.tc_spec.proofs.laws.a_term_is_a_reaction_or_has_one_cause.Goals as goal

pub returns-clause-reaction : goal.returns-clause-reaction
returns-clause-reaction c = one_rule

pub returns-clause-cause : goal.returns-clause-cause
returns-clause-cause c = same_cause

pub returns-clause-not_both : goal.returns-clause-not_both
returns-clause-not_both c = excluded

pub returns-clause-not_neither : goal.returns-clause-not_neither
returns-clause-not_neither c = term_gap

use Rattle.tc_policy.proofs.Numbers.{number-first, number-stands, number-has, number-none}
use Rattle.tc_policy.proofs.laws.numbers_are_of_grants.Goals as goal

pub returns-clause-first : goal.returns-clause-first
returns-clause-first c = number-first

pub returns-clause-stands : goal.returns-clause-stands
returns-clause-stands c = number-stands

pub returns-clause-has : goal.returns-clause-has
returns-clause-has c = number-has

pub returns-clause-none : goal.returns-clause-none
returns-clause-none c = number-none

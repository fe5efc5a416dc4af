use Rattle.std.proofs.Common.{ap}
use Rattle.tc_term.proofs.Numbered.{renumbered-pattern}
use Rattle.tc_term.specs.Text.{text_of}
use Rattle.tc_term.proofs.laws.template_keeps_its_numbers.Goals as goal

pub returns-clause-same : goal.returns-clause-same
returns-clause-same c = renumbered-pattern

pub returns-clause-text : goal.returns-clause-text
returns-clause-text c = λ t pattern. ap text_of (renumbered-pattern t pattern)

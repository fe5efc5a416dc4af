use Rattle.std.proofs.Common.{subst, List}
use Rattle.tc_model.specs.declared.reactions.GuardTest.{GuardTest}
use Rattle.tc_spec.specs.Guards.{Allows, Forbids}
use Rattle.tc_spec.proofs.triggers.has_guard_for.Goals as goal

pub returns-clause-yes : goal.returns-clause-yes
returns-clause-yes c holds =
    subst (λ (ts : List GuardTest). Allows c.args.phase c.args.sign ts) c.guard.ensures.guard (c.allows.ensures.yes holds)

pub returns-clause-no : goal.returns-clause-no
returns-clause-no c fails =
    subst (λ (ts : List GuardTest). Forbids c.args.phase c.args.sign ts) c.guard.ensures.guard (c.allows.ensures.no fails)

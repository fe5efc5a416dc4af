-- Guards by their tests.
use Rattle.std.specs.Prelude.{◌≡◌, List, All}
use Rattle.tc_term.specs.Tree.{Tree}
use Rattle.tc_model.specs.Events.{Occurrence}
use Rattle.tc_model.specs.Reactions.{test_term}
use Rattle.tc_model.specs.Triggers.{Holds}
use Rattle.tc_model.specs.declared.events.Phase.{Phase}
use Rattle.tc_model.specs.declared.events.Sign.{Sign}
use Rattle.tc_model.specs.declared.reactions.GuardTest.{GuardTest}

-- the term is a test's
abbrev pub IsTestTerm : Tree → Type 0
IsTestTerm t = (test : GuardTest) × (test_term test ≡ t)

-- all tests hold of an event of this phase and this sign, and they don't
abbrev pub Allows : Phase → Sign → List GuardTest → Type 0
Allows phase sign tests =
    (e : Occurrence) → e.phase ≡ phase → e.sign ≡ sign → All (Holds e) tests

abbrev pub Forbids : Phase → Sign → List GuardTest → Type 0
Forbids phase sign tests =
    (e : Occurrence) → e.phase ≡ phase → e.sign ≡ sign → All (Holds e) tests → ⊥

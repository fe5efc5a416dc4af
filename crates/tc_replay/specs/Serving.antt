-- An operation at a centre beside what is recorded of it.
use Rattle.std.specs.Prelude.{◌≡◌, ℕ, List}
use Rattle.tc_term.specs.Tree.{Tree}
use Rattle.tc_model.specs.Events.{Setting}
use Rattle.tc_model.specs.Reactions.{Rule}
use Rattle.tc_model.specs.State.{Origin, State}
use Rattle.tc_model.specs.Tables.{setting_of}
use Rattle.tc_model.specs.declared.calls.CallId.{CallId}

-- the call is made at a state that has these tuples and these clauses, where reactions run in this
-- setting and within this budget
pub record IsMadeAt (origin : Origin) (s : State) (id : CallId) (clauses : List Rule)
    (setting : Setting) (budget : ℕ) (tuples : List Tree) : Type 0 where
  pub clauses_are : s.clauses ≡ clauses
  pub tuples_are : s.tuples ≡ tuples
  pub setting_is : setting_of origin id ≡ setting
  pub budget_is : origin.budget ≡ budget

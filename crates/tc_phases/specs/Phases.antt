-- What a phase of an operation comes to.
use Rattle.std.specs.Prelude.{◌≡◌, ◌≤◌, ℕ, Option, Some, None, List, []}
use Rattle.tc_lists.specs.Firsts.{IsFirst}
use Rattle.tc_term.specs.Tree.{Tree}
use Rattle.tc_term.specs.Variables.{var_bound}
use Rattle.tc_bag.specs.Stock.{Row, Stock, tuples_of}
use Rattle.tc_search.specs.Found.{IsFound}
use Rattle.tc_model.specs.Choices.{TheFirst}
use Rattle.tc_model.specs.Events.{Occurrence, Setting, IsSetting, success_event, failure_event}
use Rattle.tc_model.specs.State.{IsMatch, NoneMatches, after_taking}
use Rattle.tc_model.specs.Tuples.{after_items}
use Rattle.tc_model.specs.Cascades.{IsWhole, IsOver}
use Rattle.tc_model.specs.declared.calls.Wants.{Wants}
use Rattle.tc_model.specs.declared.calls.Wants.TheVariants.{Take, Look, Absence}
use Rattle.tc_model.specs.declared.events.EventOp.TheVariants as op
use Rattle.tc_model.specs.declared.items.Item.{Item}
use Rattle.tc_model.specs.declared.limits.TheConstants.{MOST_BUDGET}
use Rattle.tc_cascade.specs.declared.cascade.Cascade.{Cascade}
use Rattle.tc_cascade.specs.declared.cascade.Cascade.TheVariants.{Whole, Over}
use Rattle.tc_phases.specs.declared.regime.Regime.{Regime}

-- in whose name reactions run, and where
abbrev pub setting_in : Regime → Setting
setting_in regime = record { agent = regime.agent.now; centre = regime.centre.now }

-- names of few enough bytes, and a budget that isn't too great
pub record IsRegime (regime : Regime) : Type 0 where
  pub setting : IsSetting (setting_in regime)
  pub budget : regime.budget ≤ MOST_BUDGET

-- the event of a search that has found this tuple for the template: it has succeeded with the
-- tuple, or has failed where it looks for absence
abbrev pub found_event : Wants → Tree → Tree → Occurrence
found_event Take template tuple = success_event op.Inp tuple
found_event Look template tuple = success_event op.Rdp tuple
found_event Absence template tuple = failure_event op.Nop template

-- the event of a search that has found none: it has failed, or has succeeded where it looks for
-- absence
abbrev pub missing_event : Wants → Tree → Occurrence
missing_event Take template = failure_event op.Inp template
missing_event Look template = failure_event op.Rdp template
missing_event Absence template = success_event op.Nop template

-- the reactions to an event, over these tuples: all within the budget
abbrev pub Reacts : Regime → Occurrence → List Tree → List Item → Type 0
Reacts regime e tuples items =
    IsWhole TheFirst regime.spec.now (setting_in regime) regime.budget e tuples items

-- they go over the budget
abbrev pub Overruns : Regime → Occurrence → List Tree → List Item → Type 0
Overruns regime e tuples items =
    IsOver TheFirst regime.spec.now (setting_in regime) regime.budget e tuples items

-- the reactions to an event, from these tuples on, are all done within the budget, and the tuples
-- are those after them; or they go over the budget, and all is as before
abbrev pub IsPhase : Regime → Occurrence → List Tree → Stock → Stock → Cascade → Type 0
IsPhase regime e start old new (Whole items) =
    Reacts regime e start items × (tuples_of new.now ≡ after_items items start)
IsPhase regime e start old new (Over items) = Overruns regime e start items × (new ≡ old)

-- the first tuple that matches is found, and the phase of that begins with the tuples that are
-- left; or none matches, and the phase of that begins with all tuples
abbrev pub IsSearch : Regime → Wants → Tree → Stock → Stock → Option Tree → Cascade
    → Type 0
IsSearch regime wants template old new (Some tuple) cascade =
    IsFirst (IsMatch template) (tuples_of old.now) tuple
    × IsPhase regime (found_event wants template tuple)
    (after_taking wants tuple (tuples_of old.now)) old new cascade
IsSearch regime wants template old new None cascade =
    NoneMatches (tuples_of old.now) template
    × IsPhase regime (missing_event wants template) (tuples_of old.now) old new cascade

-- the tuple of this age is the first that some template matches
pub record IsOldest (rows : List Row) (age : ℕ) : Type 0 where
  pub template : Tree
  pub tuple : Tree
  pub found : IsFound (var_bound template) [] template rows age tuple

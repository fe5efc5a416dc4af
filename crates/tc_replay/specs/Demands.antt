-- What the tables of calls and of answers demand of the tuples and of the reactions.
use Rattle.std.specs.Prelude.{◌≡◌, ◌↔◌, ℕ, List, []}
use Rattle.tc_term.specs.Tree.{Tree}
use Rattle.tc_model.specs.Choices.{AnyOne}
use Rattle.tc_model.specs.Events.{Setting}
use Rattle.tc_model.specs.Reactions.{Rule, clauses_text}
use Rattle.tc_model.specs.State.{Origin, State, after_call, after_search, unless_over, with_tuples}
use Rattle.tc_model.specs.Tables.{IsServed, IsGiven, setting_of}
use Rattle.tc_model.specs.Tuples.{after_items}
use Rattle.tc_model.specs.declared.calls.CallId.{CallId}
use Rattle.tc_model.specs.declared.calls.Op.{Op}
use Rattle.tc_model.specs.declared.calls.Request.{Request}
use Rattle.tc_model.specs.declared.calls.Wants.{Wants}
use Rattle.tc_model.specs.declared.items.Item.{Item}
use Rattle.tc_model.specs.declared.outcomes.Outcome.{Outcome}
use Rattle.tc_replay.specs.Acts.{CanAct, IsAllowed, after_act, event_of}
use Rattle.tc_replay.specs.Replays.{IsCascade}
use Rattle.tc_replay.specs.declared.cascade.Ending.{Ending}
use Rattle.tc_replay.specs.declared.cascade.Ending.TheVariants.{Whole, Over}
use Rattle.tc_replay.specs.declared.demands.Demand.{Demand}
use Rattle.tc_replay.specs.declared.demands.Demand.TheVariants.{Reactions, NoReaction, Text, Never}

-- where reactions to something are over the budget, nothing of it stays
abbrev pub unless_ended_over : Ending → List Tree → List Tree → List Tree
unless_ended_over Whole before reached = reached
unless_ended_over Over before reached = before

-- what is demanded holds of the items, over these tuples, whatever is chosen
abbrev pub IsMet : List Rule → Setting → ℕ → Demand → List Tree → List Item → Type 0
IsMet clauses setting budget (Reactions op act ending) tuples items =
    CanAct act tuples
    × IsCascade ending clauses setting budget (event_of op act) (after_act act tuples) items
IsMet clauses setting budget NoReaction tuples items = items ≡ []
IsMet clauses setting budget (Text text) tuples items =
    (text.now ≡ clauses_text clauses) × (items ≡ [])
IsMet clauses setting budget Never tuples items = ⊥

-- the tuples behind
abbrev pub after_demand : Demand → List Item → List Tree → List Tree
after_demand (Reactions op act ending) items tuples =
    unless_ended_over ending tuples (after_items items (after_act act tuples))
after_demand NoReaction items tuples = tuples
after_demand (Text text) items tuples = tuples
after_demand Never items tuples = tuples

-- the reactions are to an event of the table of events
abbrev pub IsTriggered : Demand → Type 0
IsTriggered (Reactions op act ending) = IsAllowed op act
IsTriggered NoReaction = Unit {0}
IsTriggered (Text text) = Unit {0}
IsTriggered Never = Unit {0}

-- the table of calls demands this where an operation has this outcome
pub record IsOfCall (operation : Op) (result : Outcome) (demand : Demand) : Type 0 where
  pub exact : (origin : Origin) (s : State) (id : CallId) (items : List Item)
      → IsServed AnyOne origin s id operation result items
      ↔ IsMet s.clauses (setting_of origin id) origin.budget demand s.tuples items
  pub tuples : (origin : Origin) (s : State) (id : CallId) (items : List Item)
      → IsServed AnyOne origin s id operation result items
      → (after_call id operation result items s).tuples ≡ after_demand demand items s.tuples
  pub triggered : IsTriggered demand

-- the tuples after an answer
abbrev pub answered : Wants → Outcome → List Item → State → List Tree
answered wants result items s =
    (unless_over result s
    (with_tuples (after_items items (after_search wants result s.tuples)) s)).tuples

-- a request for a template
abbrev pub request_of : CallId → Wants → Tree → Request
request_of id wants template = record { id = id; wants = wants; template = template }

-- the table of answers demands this where a request for the template is given this outcome
pub record IsOfAnswer (wants : Wants) (template : Tree) (result : Outcome) (demand : Demand)
    : Type 0 where
  pub exact : (origin : Origin) (s : State) (id : CallId) (items : List Item)
      → IsGiven AnyOne origin s (request_of id wants template) result items
      ↔ IsMet s.clauses (setting_of origin id) origin.budget demand s.tuples items
  pub tuples : (origin : Origin) (s : State) (id : CallId) (items : List Item)
      → IsGiven AnyOne origin s (request_of id wants template) result items
      → answered wants result items s ≡ after_demand demand items s.tuples
  pub triggered : IsTriggered demand

-- The state of a centre, and what each entry of its history makes of it.
use Rattle.std.specs.Prelude.{◌≢◌, ℕ, ◌<◌, ◌≤◌, ◌^◌, if◌then◌else◌}
use Rattle.std.specs.Prelude.{List, [], ◌∷◌, ◌++◌, All, AllPairs, Contains, length}
use Rattle.tc_lists.specs.Firsts.{NoneOf}
use Rattle.tc_term.specs.Tree.{Tree, IsTuple}
use Rattle.tc_term.specs.Variables.{var_bound}
use Rattle.tc_term.specs.Equations.{Matches}
use Rattle.tc_model.specs.Calls.{same_id}
use Rattle.tc_model.specs.Reactions.{Rule, AreClauses}
use Rattle.tc_model.specs.Tuples.{without_first, after_items}
use Rattle.tc_model.specs.Typed.{AreBytes, IsTypedRequest}
use Rattle.tc_model.specs.declared.limits.TheConstants.{MOST_NAME_BYTES, MOST_BUDGET, MOST_TUPLES}
use Rattle.tc_model.specs.declared.calls.CallId.{CallId}
use Rattle.tc_model.specs.declared.calls.Op.{Op}
use Rattle.tc_model.specs.declared.calls.Op.TheVariants.{Out, In, Rd, Inp, Rdp, No, Nop}
use Rattle.tc_model.specs.declared.calls.Op.TheVariants.{SetSpec, GetSpec}
use Rattle.tc_model.specs.declared.calls.Request.{Request}
use Rattle.tc_model.specs.declared.calls.Wants.{Wants}
use Rattle.tc_model.specs.declared.calls.Wants.TheVariants.{Take, Look, Absence}
use Rattle.tc_model.specs.declared.items.Item.{Item}
use Rattle.tc_model.specs.declared.outcomes.Outcome.{Outcome}
use Rattle.tc_model.specs.declared.outcomes.Outcome.TheVariants as outcome
use Rattle.tc_model.specs.declared.entries.Entry.{Entry}
use Rattle.tc_model.specs.declared.entries.Entry.TheVariants.{Called, Gave, Looked}

-- the tuples and the requests that wait, each oldest first, and the clauses
pub record State : Type 0 where
  pub tuples : List Tree
  pub clauses : List Rule
  pub pending : List Request

-- what a centre begins with: its name, its agents' names, its budget, its tuples and its clauses
pub record Origin : Type 0 where
  pub name : List ℕ
  pub agents : List (List ℕ)
  pub budget : ℕ
  pub tuples : List Tree
  pub clauses : List Rule

-- these, as what a centre begins with
abbrev pub origin_from : List ℕ → List (List ℕ) → ℕ → List Tree → List Rule → Origin
origin_from name agents budget tuples clauses = record {
  name = name;
  agents = agents;
  budget = budget;
  tuples = tuples;
  clauses = clauses;
}

-- the name of a centre or of an agent
pub record IsName (name : List ℕ) : Type 0 where
  pub bytes : AreBytes name
  pub short : length name ≤ MOST_NAME_BYTES

-- what a centre may begin with
pub record IsOrigin (origin : Origin) : Type 0 where
  pub name : IsName origin.name
  pub some_agent : 0 < length origin.agents
  pub agents : length origin.agents < 2 ^ 32
  pub names_differ : AllPairs ◌≢◌ origin.agents
  pub agent_names : All IsName origin.agents
  pub some_budget : 1 ≤ origin.budget
  pub budget : origin.budget ≤ MOST_BUDGET
  pub tuples : All IsTuple origin.tuples
  pub few_tuples : length origin.tuples ≤ MOST_TUPLES
  pub clauses : AreClauses origin.clauses

-- no request waits at first
abbrev pub opening : Origin → State
opening origin = record { tuples = origin.tuples; clauses = origin.clauses; pending = [] }

-- what the program's types promise of a state
pub record IsTypedState (s : State) : Type 0 where
  pub tuples : All IsTuple s.tuples
  pub clauses : AreClauses s.clauses
  pub pending : All IsTypedRequest s.pending

-- the tuple matches the template
abbrev pub IsMatch : Tree → Tree → Type 0
IsMatch template tuple = Matches (var_bound template) [] template tuple

-- some tuple of the list matches the template
pub record SomeMatches (tuples : List Tree) (template : Tree) : Type 0 where
  pub tuple : Tree
  pub stands : Contains tuples tuple
  pub matches : IsMatch template tuple

-- no tuple of the list matches the template
abbrev pub NoneMatches : List Tree → Tree → Type 0
NoneMatches tuples template = NoneOf (IsMatch template) tuples

-- one of the tuples that match is wanted, and not that there is none
abbrev pub WantsTuple : Wants → Type 0
WantsTuple Take = Unit {0}
WantsTuple Look = Unit {0}
WantsTuple Absence = ⊥

-- what is wanted of the tuples that match the template is there: one of them, or that there is none
abbrev pub IsThere : Wants → List Tree → Tree → Type 0
IsThere Take tuples template = SomeMatches tuples template
IsThere Look tuples template = SomeMatches tuples template
IsThere Absence tuples template = NoneMatches tuples template

-- what the request wants is there
abbrev pub IsAnswerable : List Tree → Request → Type 0
IsAnswerable tuples request = IsThere request.wants tuples request.template

-- no request that waits can be answered
abbrev pub IsQuiescent : State → Type 0
IsQuiescent s = NoneOf (IsAnswerable s.tuples) s.pending

-- the requests without the first of this call
abbrev pub without_request : CallId → List Request → List Request
without_request id [] = []
without_request id (r ∷ rs) = if same_id r.id id then rs else r ∷ without_request id rs

-- what the first request of this call wants
abbrev pub wants_of : CallId → List Request → Wants
wants_of id [] = Look
wants_of id (r ∷ rs) = if same_id r.id id then r.wants else wants_of id rs

-- the tuples without the one that is taken; one that is looked at stays
abbrev pub after_taking : Wants → Tree → List Tree → List Tree
after_taking Take tuple tuples = without_first tuple tuples
after_taking Look tuple tuples = tuples
after_taking Absence tuple tuples = tuples

-- the state with these tuples, or with these clauses
abbrev pub with_tuples : List Tree → State → State
with_tuples tuples s = record s { tuples = tuples }

abbrev pub with_clauses : List Rule → State → State
with_clauses clauses s = record s { clauses = clauses }

-- the state with a request more, behind the others
abbrev pub with_request : CallId → Wants → Tree → State → State
with_request id wants template s =
    record s {
      pending = s.pending ++ record { id = id; wants = wants; template = template } ∷ [];
    }

-- the state without the request of this call
abbrev pub with_answered : CallId → State → State
with_answered id s = record s { pending = without_request id s.pending }

-- the tuples after a search with this outcome: the one that it tells is taken, or stays
abbrev pub after_search : Wants → Outcome → List Tree → List Tree
after_search wants (outcome.Took u) tuples = after_taking wants u tuples
after_search wants outcome.NoTuple tuples = tuples
after_search wants outcome.Absent tuples = tuples
after_search wants (outcome.Found u) tuples = tuples
after_search wants outcome.Done tuples = tuples
after_search wants outcome.Pending tuples = tuples
after_search wants (outcome.Spec text) tuples = tuples
after_search wants (outcome.Over phase tuple) tuples = tuples

-- the state that was reached; where the reactions went over the budget, the state before
abbrev pub unless_over : Outcome → State → State → State
unless_over (outcome.Over phase tuple) before reached = before
unless_over outcome.Done before reached = reached
unless_over (outcome.Took u) before reached = reached
unless_over outcome.NoTuple before reached = reached
unless_over outcome.Absent before reached = reached
unless_over (outcome.Found u) before reached = reached
unless_over outcome.Pending before reached = reached
unless_over (outcome.Spec text) before reached = reached

-- the state that a call has reached with its outcome and its items
abbrev pub reached_by : CallId → Op → Outcome → List Item → State → State
reached_by id (Out t) result items s = with_tuples (after_items items (s.tuples ++ t ∷ [])) s
reached_by id (Inp t) result items s =
    with_tuples (after_items items (after_search Take result s.tuples)) s
reached_by id (Rdp t) result items s =
    with_tuples (after_items items (after_search Look result s.tuples)) s
reached_by id (In t) result items s =
    with_request id Take t (with_tuples (after_items items s.tuples) s)
reached_by id (Rd t) result items s =
    with_request id Look t (with_tuples (after_items items s.tuples) s)
reached_by id (No t) result items s =
    with_request id Absence t (with_tuples (after_items items s.tuples) s)
reached_by id (Nop t) result items s = with_tuples (after_items items s.tuples) s
reached_by id (SetSpec clauses) result items s = with_clauses clauses s
reached_by id GetSpec result items s = s

-- the state after a call
abbrev pub after_call : CallId → Op → Outcome → List Item → State → State
after_call id op result items s = unless_over result s (reached_by id op result items s)

-- the state after an answer: its request is gone
abbrev pub after_answer : CallId → Outcome → List Item → State → State
after_answer id result items s =
    with_answered id
    (unless_over result s
    (with_tuples (after_items items (after_search (wants_of id s.pending) result s.tuples)) s))

-- the state after an entry
abbrev pub after_entry : Entry → State → State
after_entry (Called id op result items) s = after_call id op result items s
after_entry (Gave id result items) s = after_answer id result items s
after_entry (Looked id asked reply) s = s

-- the state after a history: its entries fix it
abbrev pub after_history : State → List Entry → State
after_history s [] = s
after_history s (e ∷ es) = after_history (after_entry e s) es

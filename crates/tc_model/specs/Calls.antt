-- An agent's calls in a history.
use Rattle.std.specs.Prelude.{◌≡◌, ℕ, ◌==◌, Bool, false, ◌&&◌, List, filter}
use Rattle.tc_model.specs.declared.calls.CallId.{CallId}
use Rattle.tc_model.specs.declared.entries.Entry.{Entry}
use Rattle.tc_model.specs.declared.entries.Entry.TheVariants.{Called, Gave, Looked}

-- the agent's call of this number
abbrev pub call_of : ℕ → ℕ → CallId
call_of agent number = record { agent = agent; number = number }

-- the id of an entry
abbrev pub id_of : Entry → CallId
id_of (Called id op outcome items) = id
id_of (Gave id outcome items) = id
id_of (Looked id asked reply) = id

-- whether two ids are the same
abbrev pub same_id : CallId → CallId → Bool
same_id i j = (i.agent == j.agent) && (i.number == j.number)

-- whether the agent made the entry: it called, or asked what became of a call
abbrev pub is_call_of : ℕ → Entry → Bool
is_call_of agent (Called id op outcome items) = id.agent == agent
is_call_of agent (Gave id outcome items) = false
is_call_of agent (Looked id asked reply) = id.agent == agent

-- the entries that the agent made, in order
abbrev pub calls_of : ℕ → List Entry → List Entry
calls_of agent history = filter (is_call_of agent) history

-- the entry is the call of this id
abbrev pub IsCallOf : CallId → Entry → Type 0
IsCallOf id (Called i op result items) = i ≡ id
IsCallOf id (Gave i result items) = ⊥
IsCallOf id (Looked i asked reply) = ⊥

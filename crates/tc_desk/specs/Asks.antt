-- Which ask a script makes next, after what became of the asks before.
use Rattle.std.specs.Prelude.{◌≡◌, ℕ, ◌+◌, ◌==◌, if◌then◌else◌, List, []}
use Rattle.std.specs.Prelude.{◌∷◌, ◌++◌}
use Rattle.std.specs.Prelude.{map, length, take, slice_get, Option, Some, None}
use Rattle.std.proofs.Common.{get_or}
use Rattle.tc_term.specs.Tree.{Tree, Variable}
use Rattle.tc_term.specs.TreeView.{tree_of}
use Rattle.tc_term.specs.Variables.{instance}
use Rattle.tc_term.specs.Equations.{Equation, HasValue}
use Rattle.tc_model.specs.Scripts.{Lines}
use Rattle.tc_model.specs.declared.asks.Ask.{Ask}
use Rattle.tc_model.specs.declared.asks.Ask.TheVariants.{Out, In, Rd, Inp, Rdp, No, Nop}
use Rattle.tc_model.specs.declared.asks.Ask.TheVariants.{SetSpec, GetSpec}
use Rattle.tc_model.specs.declared.outcomes.Reply.{Reply}
use Rattle.tc_model.specs.declared.outcomes.Reply.TheVariants as reply
use Rattle.tc_model.specs.declared.scripts.ScriptItem.{ScriptItem}
use Rattle.tc_desk.specs.declared.rows.LogResult.{LogResult}
use Rattle.tc_desk.specs.declared.rows.LogResult.TheVariants.{Replied, Pending, Refused, Polled}

-- an item of a script, with the script's place and the number of its variables
pub record ScriptStep : Type 0 where
  pub script : ℕ
  pub vars : ℕ
  pub item : ScriptItem

-- the items of a script at this place
abbrev pub steps_at : ℕ → Lines → List ScriptStep
steps_at place s =
    map (λ (i : ScriptItem). record { script = place; vars = s.vars; item = i }) s.items

-- the items of scripts whose places are counted from this one
abbrev pub steps_from : ℕ → List Lines → List ScriptStep
steps_from place [] = []
steps_from place (s ∷ ss) = steps_at place s ++ steps_from (place + 1) ss

-- the items of all scripts, one script after another
abbrev pub steps_of : List Lines → List ScriptStep
steps_of scripts = steps_from 0 scripts

-- a template is equal to the tuple that came for it; no other reply says anything of a template
abbrev pub told : Tree → Reply → List Equation
told t (reply.Tuple u) = (t, u) ∷ []
told t reply.Done = []
told t reply.NoTuple = []
told t reply.Absent = []
told t (reply.Found u) = []
told t (reply.Spec text) = []
told t (reply.OverBudget phase) = []

-- the same of an ask: one that asks for a tuple, by its template as it is written
abbrev pub told_of : Ask → Reply → List Equation
told_of (Out t) r = []
told_of (In t) r = told (tree_of t) r
told_of (Rd t) r = told (tree_of t) r
told_of (Inp t) r = told (tree_of t) r
told_of (Rdp t) r = told (tree_of t) r
told_of (No t) r = []
told_of (Nop t) r = []
told_of (SetSpec t) r = []
told_of GetSpec r = []

-- what is equal after an ask has come to this
abbrev pub equation : Ask → LogResult → List Equation
equation ask (Replied r) = told_of ask r
equation ask Pending = []
equation ask (Refused why) = []
equation ask (Polled r) = []

-- what is equal in one script, after the first items of all have come to these results
abbrev pub equations : ℕ → List ScriptStep → List LogResult → List Equation
equations place [] rs = []
equations place (s ∷ ss) [] = []
equations place (s ∷ ss) (r ∷ rs) =
    (if s.script == place then equation s.item.ask r else []) ++ equations place ss rs

-- for each of so many variables the value that it has under the equations, or none where it has
-- none
pub record AreValues (vars : ℕ) (es : List Equation) (values : List (Option Tree)) : Type 0 where
  pub whole : length values ≡ vars
  pub some : (n : ℕ) (v : Tree) → slice_get values n ≡ Some (Some v)
      → HasValue vars es (Variable n) v
  pub none : (n : ℕ) → slice_get values n ≡ Some None → (v : Tree)
      → HasValue vars es (Variable n) v → ⊥

-- a variable's value; where it has none, the variable
abbrev pub value_or_variable : ℕ → Option Tree → Tree
value_or_variable n (Some v) = v
value_or_variable n None = Variable n

-- the term with each variable replaced that has a value
abbrev pub with_values : List (Option Tree) → Tree → Tree
with_values values t = instance (λ n. value_or_variable n (get_or values n None)) t

-- the second ask is the first one with each variable replaced that has a value
abbrev pub IsFilled : List (Option Tree) → Ask → Ask → Type 0
IsFilled values (Out t) (Out u) = tree_of u ≡ with_values values (tree_of t)
IsFilled values (In t) (In u) = tree_of u ≡ with_values values (tree_of t)
IsFilled values (Rd t) (Rd u) = tree_of u ≡ with_values values (tree_of t)
IsFilled values (Inp t) (Inp u) = tree_of u ≡ with_values values (tree_of t)
IsFilled values (Rdp t) (Rdp u) = tree_of u ≡ with_values values (tree_of t)
IsFilled values (No t) (No u) = tree_of u ≡ with_values values (tree_of t)
IsFilled values (Nop t) (Nop u) = tree_of u ≡ with_values values (tree_of t)
IsFilled values (SetSpec t) (SetSpec u) = tree_of u ≡ with_values values (tree_of t)
IsFilled values GetSpec GetSpec = Unit {0}
IsFilled values written filled = ⊥

-- the item at place k of an agent's scripts, and what it asks after the items before it have come
-- to these results
pub record IsAsk
    (scripts : List Lines) (k : ℕ) (results : List LogResult) (step : ScriptStep) (ask : Ask)
    : Type 0 where
  pub stands : slice_get (steps_of scripts) k ≡ Some step
  pub values : List (Option Tree)
  pub exact : AreValues step.vars (equations step.script (take k (steps_of scripts)) results) values
  pub filled : IsFilled values step.item.ask ask

-- What a template that is being read may still take, node by node.
use Rattle.std.specs.Prelude.{ℕ, zero, suc, ◌+◌, ◌-◌, if◌then◌else◌, ◌||◌}
use Rattle.std.specs.Prelude.{nat_lt, nat_le, nat_eq, length, Some, None}
use Rattle.std.specs.declared.option.Option.{Option}
use Rattle.tc_term.specs.Limits.{most_variables}
use Rattle.tc_term.specs.Room as term
use Rattle.tc_term.specs.Tree.{Tree, Variable, Atomic, Number, Compound, Trees, Last, More}
use Rattle.tc_read.specs.declared.budget.Budget.{Budget}

-- what is left behind a node whose name has so many bytes
abbrev pub paid : ℕ → Budget → Option Budget
paid size budget = if nat_eq budget.room.nodes 0 || nat_lt budget.room.name_bytes size then None
    else Some (record budget {
      room = record {
        nodes = budget.room.nodes - 1;
        name_bytes = budget.room.name_bytes - size;
      };
    })

-- what is left behind a variable, which has come before or is the next
abbrev pub numbered : ℕ → Budget → Option Budget
numbered n budget = if nat_le most_variables n || nat_lt budget.variables n then None
    else (if nat_lt n budget.variables then Some budget
    else Some (record budget { variables = n + 1 }))

-- what a whole template may take
abbrev pub whole : Budget
whole = record { room = term.whole; variables = 0 }

-- what is done with what is left, if anything is
abbrev pub then_in : {X : Type 0} → Option Budget → (Budget → Option X) → Option X
then_in None go = None
then_in (Some budget) go = go budget

-- what is left behind a term of at most this depth, if it doesn't take too much
abbrev mutual
  pub spent : ℕ → Budget → Tree → Option Budget
  spent zero budget t = None
  spent (suc d) budget (Variable n) = then_in (numbered n budget) (paid 0)
  spent (suc d) budget (Atomic name) = paid (length name) budget
  spent (suc d) budget (Number z) = paid 0 budget
  spent (suc d) budget (Compound name args) =
      then_in (paid (length name) budget) (λ left. spent_all d left args)

  pub spent_all : ℕ → Budget → Trees → Option Budget
  spent_all d budget (Last t) = spent d budget t
  spent_all d budget (More t ts) = then_in (spent d budget t) (λ left. spent_all d left ts)

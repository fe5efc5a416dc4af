-- Templates whose canonical text the reader of terms and clauses reads back.
use Rattle.std.specs.Prelude.{ℕ, ◌+◌, ◌≤◌, max, if◌then◌else◌, IsTrue}
use Rattle.tc_term.specs.Limits.{most_brackets}
use Rattle.tc_term.specs.Text.{Place, Alone, Behind, is_dot, is_nil}
use Rattle.tc_term.specs.Tree.{Tree, Variable, Atomic, Number, Compound, Trees, Last, More}
use Rattle.tc_term.specs.Variables.{IsPattern}
use Rattle.tc_term.specs.NameBytes.{has_read_names}

-- the bracket of a list is open around its elements; behind an element it is open already
abbrev pub in_list : Place → ℕ → ℕ
in_list Alone n = n + 1
in_list Behind n = n

-- how many brackets the text of a term in its place has open at most
abbrev mutual
  pub opened : Place → Tree → ℕ
  opened place (Variable n) = 0
  opened Alone (Atomic name) = if is_nil name then 1 else 0
  opened Behind (Atomic name) = 0
  opened place (Number z) = 0
  opened place (Compound name (More t (Last u))) =
      if is_dot name then in_list place (max (opened Alone t) (opened Behind u))
      else max (opened Alone t) (opened Alone u) + 1
  opened place (Compound name args) = opened_in_all args + 1

  pub opened_in_all : Trees → ℕ
  opened_in_all (Last t) = opened Alone t
  opened_in_all (More t ts) = max (opened Alone t) (opened_in_all ts)

-- the text of the template has few brackets open, and no name in it holds a byte below 32
-- but line feeds and tabs
pub record IsReadable (t : Tree) : Type 0 where
  pub pattern : IsPattern t
  pub few_open : opened Alone t ≤ most_brackets
  pub names : IsTrue (has_read_names t)

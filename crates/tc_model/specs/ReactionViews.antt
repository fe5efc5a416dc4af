-- The reaction that a value of the program stands for.
use Rattle.tc_term.specs.TreeView.{tree_of}
use Rattle.tc_model.specs.Reactions.{Rule, IsRule}
use Rattle.tc_model.specs.declared.reactions.Reaction.TheInside.{Inside}

abbrev pub rule_of : Inside → Rule
rule_of r = record {
  vars = r.vars;
  form = r.form;
  op = r.op;
  head = tree_of r.head;
  guard = r.guard.items;
  goals = r.goals.items;
}

abbrev pub IsReaction : Inside → Type 0
IsReaction r = IsRule (rule_of r)

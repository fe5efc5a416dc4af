use Rattle.tc_term.specs.TreeView.{tree_of}
use Rattle.tc_goals.proofs.Plain.{var_bound-template}
use Rattle.tc_goals.proofs.Values.{value_is, no_value}
use Rattle.tc_replay.proofs.goal.has_no_value.Goals as goal

pub value-requires : goal.value-requires
value-requires c = var_bound-template (tree_of c.args.t.now) c.args.store.now.vars c.requires

pub returns-in_default-clause-none : goal.returns-in_default-clause-none
returns-in_default-clause-none c =
    λ _. no_value c.args.store.now (tree_of c.args.t.now) c.in_ok-_value.field-0 c.in_ok-_value.ensures.none c.in_default.not-Some

pub returns-clause-some : goal.returns-clause-some
returns-clause-some c = λ _. (
  c.in-Some._value,
  value_is c.args.store.now (tree_of c.args.t.now) c.in-Some._value c.in_ok-_value.field-0 c.in-Some.is c.in_ok-_value.ensures.found,
)

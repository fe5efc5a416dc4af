use Rattle.tc_term.specs.TreeView.{tree_of}
use Rattle.tc_goals.proofs.Plain.{var_bound-template}
use Rattle.tc_goals.proofs.Values.{value_is, no_value}
use Rattle.tc_body.proofs.goal.put.Goals as goal

pub value-requires : goal.value-requires
value-requires c = var_bound-template (tree_of c.args.t.now) c.args.store.now.vars c.requires.bound

pub returns-in_default-clause-none : goal.returns-in_default-clause-none
returns-in_default-clause-none c =
    λ _. no_value c.args.store.now (tree_of c.args.t.now) c.in_ok-value.field-0 c.in_ok-value.ensures.none c.in_default.not-Some

pub returns-clause-put : goal.returns-clause-put
returns-clause-put c = λ _. record {
  value = c.in-Some.value;
  is = value_is c.args.store.now (tree_of c.args.t.now) c.in-Some.value c.in_ok-value.field-0 c.in-Some.is c.in_ok-value.ensures.found;
  put = c.in_ok-add.ensures.put;
  recorded = rw c.in_ok-copy.ensures at c.in_ok-record.ensures.recorded;
}

use Rattle.tc_term.specs.TreeView.{tree_of}
use Rattle.tc_goals.proofs.Plain.{var_bound-template}
use Rattle.tc_goals.proofs.Values.{value_is, no_value, number_is}
use Rattle.tc_goals.proofs.goal.number.Goals as goal

pub value-requires : goal.value-requires
value-requires c = var_bound-template (tree_of c.args.t.now) c.args.store.now.vars c.requires

pub returns-in_default : goal.returns-in_default
returns-in_default c = λ i h.
    no_value c.args.store.now (tree_of c.args.t.now) c.in_ok-value.field-0 c.in_ok-value.ensures.none c.in_default.not-Some h.value h.is

pub returns : goal.returns
returns c =
    number_is c.args.store.now (tree_of c.args.t.now) c.in-Some.value c.eval.result
    (value_is c.args.store.now (tree_of c.args.t.now) c.in-Some.value c.in_ok-value.field-0 c.in-Some.is c.in_ok-value.ensures.found)
    c.eval.ensures

use Rattle.tc_model.specs.declared.outcomes.Reply.TheVariants.{Tuple, Found}
use Rattle.tc_term.specs.TreeView.{tree_of}
use Rattle.tc_audit.proofs.Telling.{equal-tuples}
use Rattle.tc_audit.proofs.looks.is_equal.Goals as goal

pub returns-in-Tuple-Tuple : goal.returns-in-Tuple-Tuple
returns-in-Tuple-Tuple c =
    equal-tuples Tuple (λ t u same. cc) c.eq.result c.args.a.now c.args.b.now c.in-Tuple-Tuple.t c.in-Tuple-Tuple.u
    (tree_of c.term.result.now) (tree_of c.term-in-Tuple-Tuple.result.now) c.in-Tuple-Tuple.is-0 c.in-Tuple-Tuple.is-1
    c.term.ensures.term c.term-in-Tuple-Tuple.ensures.term c.eq.ensures

pub returns-in-Found-Found : goal.returns-in-Found-Found
returns-in-Found-Found c =
    equal-tuples Found (λ t u same. cc) c.eq-in-Found-Found.result c.args.a.now c.args.b.now c.in-Found-Found.t c.in-Found-Found.u
    (tree_of c.term-in-Found-Found.result.now) (tree_of c.term-in-Found-Found-2.result.now) c.in-Found-Found.is-0 c.in-Found-Found.is-1
    c.term-in-Found-Found.ensures.term c.term-in-Found-Found-2.ensures.term c.eq-in-Found-Found.ensures

use Rattle.std.proofs.Common.{◌≡◌, List, All, map, ap, sym, ◌∙◌, arith}
use Rattle.tc_lists.proofs.Options.{IfNone-at}
use Rattle.tc_term.specs.Tree.{Tree}
use Rattle.tc_term.specs.TreeView.{tree_of}
use Rattle.tc_model.specs.Events.{op_name}
use Rattle.tc_model.specs.Reactions.{Rule, clause_of_form, goal_term, guard_term, of_one}
use Rattle.tc_spec.specs.Written.{IsGoalTerm, nested}
use Rattle.tc_spec.proofs.Answered.{headed, pushed_only, caused_goal, spelt, not_small, some_says}
use Rattle.tc_spec.proofs.Spelling.{is_rule}
use Rattle.tc_spec.proofs.reading.read_shaped.Goals as goal

pub returns-in_default-found-clause-fault : goal.returns-in_default-found-clause-fault
returns-in_default-found-clause-fault c =
    caused_goal c.args.p.now (tree_of c.in-Some.term.now) (tree_of c.args.body.now) c.args.form c.in-Some.op c.args.guard.items
    c.new-leaves.result.items c.deref.result.now
    (headed c.args.p.now (tree_of c.args.head.now) (tree_of c.args.body.now) (tree_of c.in-Some.term.now) c.args.form c.in-Some.op
    c.args.guard.items c.requires.shaped c.in-Some.ensures.some)
    c.new-leaves.ensures.items (ap (map tree_of) c.deref.ensures.value ∙ c.in_ok-push_leaves.ensures)
    (IfNone-at (All (IsGoalTerm c.args.form) (map tree_of c.deref.result.now) → ⊥) c.in_ok-found.found c.in_default-found.is
    c.in_ok-found.ensures.none)

pub returns-then-len-gt-MOST_GOALS-clause-fault : goal.returns-then-len-gt-MOST_GOALS-clause-fault
returns-then-len-gt-MOST_GOALS-clause-fault c =
    let r : Rule = record {
      vars = 0;
      form = c.args.form;
      op = c.in-Some.op;
      head = tree_of c.in-Some.term.now;
      guard = c.args.guard.items;
      goals = c.in-Some-found.goals.items;
    } in
    let goals : map (goal_term c.args.form) c.in-Some-found.goals.items ≡ map tree_of c.deref.result.now =
    some_says c.args.form _ c.in_ok-found.found c.in-Some-found.goals (map tree_of c.deref.result.now) c.in-Some-found.is c.in_ok-found.ensures.goals in (
      r,
      spelt c.args.p.now (tree_of c.args.body.now) r c.new-leaves.result.items c.deref.result.now
          (headed c.args.p.now (tree_of c.args.head.now) (tree_of c.args.body.now) (tree_of c.in-Some.term.now) c.args.form c.in-Some.op
          c.args.guard.items c.requires.shaped c.in-Some.ensures.some)
          c.new-leaves.ensures.items (ap (map tree_of) c.deref.ensures.value ∙ c.in_ok-push_leaves.ensures) goals,
      omega (arith, c.if-len-gt-MOST_GOALS.true, c.len.ensures, c.in-Some-found.goals.ok.0),
    )

pub returns-then-not-is_small-clause-fault : goal.returns-then-not-is_small-clause-fault
returns-then-not-is_small-clause-fault c =
    let r : Rule = record {
      vars = 0;
      form = c.args.form;
      op = c.in-Some.op;
      head = tree_of c.in-Some.term.now;
      guard = c.args.guard.items;
      goals = c.in-Some-found.goals.items;
    } in
    let goals : map (goal_term c.args.form) c.in-Some-found.goals.items ≡ map tree_of c.deref.result.now =
    some_says c.args.form _ c.in_ok-found.found c.in-Some-found.goals (map tree_of c.deref.result.now) c.in-Some-found.is c.in_ok-found.ensures.goals in (
      r,
      spelt c.args.p.now (tree_of c.args.body.now) r c.new-leaves.result.items c.deref.result.now
          (headed c.args.p.now (tree_of c.args.head.now) (tree_of c.args.body.now) (tree_of c.in-Some.term.now) c.args.form c.in-Some.op
          c.args.guard.items c.requires.shaped c.in-Some.ensures.some)
          c.new-leaves.ensures.items (ap (map tree_of) c.deref.ensures.value ∙ c.in_ok-push_leaves.ensures) goals,
      omega (arith, c.if-len-gt-MOST_GOALS.false, c.len.ensures, c.in-Some-found.goals.ok.0),
      not_small (tree_of c.in_ok-clause.clause) c.is_small.result r c.push_leaves.new.into.items c.if-not-is_small.true
          c.is_small.ensures.no
          (c.in_ok-clause.ensures
          ∙ ap (λ guard. clause_of_form c.args.form (of_one (op_name c.in-Some.op) (tree_of c.in-Some.term.now)) (guard_term guard) (nested (map tree_of c.push_leaves.new.into.items))) c.deref-2.ensures.value)
          (goals ∙ ap (map tree_of) c.deref.ensures.value),
    )

pub new-requires : goal.new-requires
new-requires c =
    let r : Rule = record {
      vars = c.vars.result;
      form = c.args.form;
      op = c.in-Some.op;
      head = tree_of c.in_ok-term.term;
      guard = c.args.guard.items;
      goals = c.in-Some-found.goals.items;
    } in
    let goals : map (goal_term c.args.form) c.in-Some-found.goals.items ≡ map tree_of c.deref.result.now =
    some_says c.args.form _ c.in_ok-found.found c.in-Some-found.goals (map tree_of c.deref.result.now) c.in-Some-found.is c.in_ok-found.ensures.goals in
    let small = c.is_small.ensures.yes c.if-not-is_small.false in
    let head = of_one (op_name c.in-Some.op) (tree_of c.in-Some.term.now) in
    is_rule c.args.p.now (tree_of c.in-Some.term.now) (tree_of c.args.body.now) (tree_of c.in_ok-clause.clause) r
    c.term-pattern.ensures.pattern c.requires.names
    (headed c.args.p.now (tree_of c.args.head.now) (tree_of c.args.body.now) (tree_of c.in-Some.term.now) c.args.form c.in-Some.op
    c.args.guard.items c.requires.shaped c.in-Some.ensures.some)
    (sym c.in_ok-term.ensures)
    (goals ∙ pushed_only c.new-leaves.result.items c.deref.result.now (tree_of c.args.body.now) c.new-leaves.ensures.items
    (ap (map tree_of) c.deref.ensures.value ∙ c.in_ok-push_leaves.ensures))
    c.vars.ensures.count (omega (arith, c.if-len-gt-MOST_GOALS.false, c.len.ensures, c.in-Some-found.goals.ok.0))
    (c.in_ok-clause.ensures
    ∙ ap (λ guard. clause_of_form c.args.form head (guard_term guard) (nested (map tree_of c.push_leaves.new.into.items))) c.deref-2.ensures.value
    ∙ ap (λ (ts : List Tree). clause_of_form c.args.form head (guard_term c.args.guard.items) (nested ts))
    (pushed_only c.new-leaves.result.items c.push_leaves.new.into.items (tree_of c.args.body.now) c.new-leaves.ensures.items c.in_ok-push_leaves.ensures))
    small.0 small.1

use Rattle.std.proofs.Common.{◌+◌, ◌-◌, [], ◌∷◌, List, length, drop, refl, sym, ap, subst, ◌∙◌, arith, length-append}
use Rattle.std.proofs.lemmas.List.{nil_from_length}
use Rattle.tc_lists.proofs.Bools.{none_from_test}
use Rattle.tc_model.specs.Reactions.{Rule}
use Rattle.tc_bag.specs.Stock.{tuples_of}
use Rattle.tc_bag.proofs.Additions.{adds-younger-again}
use Rattle.tc_model.specs.Triggers.{IsClause}
use Rattle.tc_cascade.specs.Adding.{Adds, Stands}
use Rattle.tc_cascade.proofs.Counting.{at_tuples, counted_first, counted_next}
use Rattle.tc_cascade.proofs.Waves.{at_first, at_stands, at_next, at_whole}
use Rattle.tc_cascade.proofs.cascade.run.Goals as goal

pub loop-k-init : goal.loop-k-init
loop-k-init g c =
    let adds = subst (λ e. Adds c.args.spec.now (e ∷ []) (c.args.budget + 1) c.new-triggered.result c.add.new.triggered) c.in_ok-copy.ensures c.in_ok-add.ensures.adds in
    record {
      at = at_first c.args.spec.now c.args.context.now c.args.e.now c.args.bag.now c.new-items.result.items c.new-triggered.result c.add.new.triggered
          c.args.budget (c.args.budget + 1 - 0) (omega arith) c.new-items.ensures.items c.new-triggered.ensures adds;
      count = ap length c.new-items.ensures.items;
      saved = refl;
      next = omega arith;
      adds = record { rises = omega arith; added = λ r there older. there };
      counted = counted_first c.args.spec.now c.args.e.now c.in_ok-copy.field-0 c.new-items.result.items (tuples_of c.args.bag.now.now)
          c.args.steps.now c.add.new.steps c.in_ok-copy.ensures c.new-items.ensures.items c.add.ensures.counted;
      rises = c.add.ensures.rises;
    }

pub returns-in_default-clause-ends : goal.returns-in_default-clause-ends
returns-in_default-clause-ends g c =
    let lt = c.loop-k-test.true in
    let count = c.loop-k.invariant.count in
    at_whole c.args.spec.now c.args.context.now c.args.e.now c.args.bag.now c.loop-k.bag c.loop-k.items.items c.new.result c.loop-k.triggered
    (c.args.budget + 1 - c.loop-k.k) c.args.budget c.loop-k.invariant.at c.in_default.ensures.none
    (omega (arith, lt)) (omega (arith, lt, count)) c.new.ensures

pub clause_at-reaction-requires : goal.clause_at-reaction-requires
clause_at-reaction-requires g c =
    subst (λ (cs : List Rule). Stands cs c.in-Some.clause) (sym c.clauses.ensures)
    (at_stands c.args.spec.now c.args.context.now c.args.e.now c.args.bag.now c.loop-k.bag c.loop-k.items.items c.loop-k.triggered
    (drop 1 c.loop-k.triggered) (record { clause = c.in-Some.clause; event = c.in-Some.event.now }) (c.args.budget + 1 - c.loop-k.k)
    (let lt = c.loop-k-test.true in omega (arith, lt)) c.loop-k.invariant.at c.in-Some.ensures.some)

pub loop-k-preserved : goal.loop-k-preserved
loop-k-preserved g c =
    let cs = c.args.spec.now in
    let items = c.loop-k.items.items in
    let item = c.in_ok-item.item in
    let reaction = c.clause_at-reaction.result.now in
    let more_room = c.args.budget + 1 - (c.loop-k.k + 1) in
    let lt = c.loop-k-test.true in
    let clause : IsClause cs c.in-Some.clause reaction =
    subst (λ (xs : List Rule). IsClause xs c.in-Some.clause reaction) c.clauses.ensures c.clause_at-reaction.ensures in
    let adds : Adds cs c.in_ok-item.events.items more_room c.pass.new.self c.add_all.new.triggered =
    subst (λ n. Adds cs c.in_ok-item.events.items n c.pass.new.self c.add_all.new.triggered) (omega arith) c.in_ok-add_all.ensures.adds in
    record {
      at = at_next cs c.args.context.now c.args.e.now c.args.bag.now c.loop-k.bag c.execute.new.bag items c.append.new.items.items
          (record { clause = c.in-Some.clause; event = c.in-Some.event.now }) c.loop-k.triggered (drop 1 c.loop-k.triggered) c.pass.new.self c.add_all.new.triggered
          (c.args.budget + 1 - c.loop-k.k) more_room reaction item c.in_ok-item.events.items
          (omega (arith, lt)) c.loop-k.invariant.at c.in-Some.ensures.some c.pass.ensures clause c.in_ok-item.ensures.body
          c.in_ok-item.ensures.names c.in_ok-item.ensures.tuples c.in_ok-item.ensures.events adds c.in_ok-append.ensures;
      count = ap length c.in_ok-append.ensures ∙ (length-append items (item ∷ []) ∙ ap (λ n. n + 1) c.loop-k.invariant.count);
      saved = c.in_ok-item.ensures.saved ∙ c.loop-k.invariant.saved;
      next = omega (arith, c.in_ok-item.ensures.next, c.loop-k.invariant.next);
      adds = adds-younger-again c.args.bag.now c.loop-k.bag c.execute.new.bag c.loop-k.invariant.adds c.execute.ensures.adds;
      counted = counted_next cs c.args.e.now items c.append.new.items.items item reaction c.in-Some.clause c.in_ok-item.events.items
          (tuples_of c.args.bag.now.now) (tuples_of c.loop-k.bag.now) c.args.steps.now c.loop-k.steps c.execute.new.steps c.add_all.new.steps
          clause c.in_ok-item.ensures.names.1
          (at_tuples cs c.args.context.now c.args.e.now c.args.bag.now c.loop-k.bag items c.loop-k.triggered (c.args.budget + 1 - c.loop-k.k) c.loop-k.invariant.at)
          c.in_ok-item.ensures.events c.in_ok-append.ensures c.loop-k.invariant.counted c.in_ok-item.ensures.counted c.in_ok-add_all.ensures.counted;
      rises = omega (arith, c.loop-k.invariant.rises, c.execute.ensures.rises, c.add_all.ensures.rises);
    }

pub returns-then-is_empty-clause-ends : goal.returns-then-is_empty-clause-ends
returns-then-is_empty-clause-ends g c =
    let end = c.loop-k.auto.k-end in
    let count = c.loop-k.invariant.count in
    at_whole c.args.spec.now c.args.context.now c.args.e.now c.args.bag.now c.loop-k.bag c.loop-k.items.items c.new-then-is_empty.result c.loop-k.triggered
    (c.args.budget + 1 - c.loop-k.k) c.args.budget c.loop-k.invariant.at (nil_from_length c.loop-k.triggered (none_from_test (length c.loop-k.triggered) c.is_empty.result c.is_empty.ensures c.if-is_empty.true))
    (omega (arith, end)) (omega (arith, end, count)) c.new-then-is_empty.ensures

pub returns-in_err-item-clause-adds : goal.returns-in_err-item-clause-adds
returns-in_err-item-clause-adds g c =
    adds-younger-again c.args.bag.now c.loop-k.bag c.execute.new.bag c.loop-k.invariant.adds c.execute.ensures.adds

pub returns-in_err-append-clause-adds : goal.returns-in_err-append-clause-adds
returns-in_err-append-clause-adds g c =
    adds-younger-again c.args.bag.now c.loop-k.bag c.execute.new.bag c.loop-k.invariant.adds c.execute.ensures.adds

pub returns-in_err-add_all-clause-adds : goal.returns-in_err-add_all-clause-adds
returns-in_err-add_all-clause-adds g c =
    adds-younger-again c.args.bag.now c.loop-k.bag c.execute.new.bag c.loop-k.invariant.adds c.execute.ensures.adds

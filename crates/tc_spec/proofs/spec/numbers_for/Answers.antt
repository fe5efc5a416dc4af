use Rattle.std.proofs.Common.{◌≡◌, ◌<◌, length, sym, subst, ◌∙◌, arith}
use Rattle.tc_term.specs.TreeView.{tree_of}
use Rattle.tc_spec.proofs.Parted.{part_enough, part_found}
use Rattle.tc_spec.proofs.Sifting.{of_enough}
use Rattle.tc_spec.specs.Indexed.{IsPart}
use Rattle.tc_spec.proofs.spec.numbers_for.Goals as goal

pub returns-in_default : goal.returns-in_default
returns-in_default c clauses index =
    of_enough clauses c.args.e.now c.op-op.result c.numbers_in.result.now c.op-op.ensures (c.numbers_in.ensures clauses index)

pub returns-in-None : goal.returns-in-None
returns-in-None c clauses index =
    of_enough clauses c.args.e.now c.op-op.result c.numbers_in-in-None.result.now c.op-op.ensures (c.numbers_in-in-None.ensures clauses index)

pub returns-in-Some-numbers_at : goal.returns-in-Some-numbers_at
returns-in-Some-numbers_at c clauses index =
    let count = length c.args.index.now.parts.items in
    let len : c.len.result ≡ count = omega (arith, c.len.ensures, c.args.index.now.parts.ok.0) in
    let inside : c.in-Some.part < count = omega (arith, c.in-Some.ensures.inside, len) in
    let part : IsPart count c.in-Some.part clauses c.index.result.now =
    subst (λ p. IsPart count c.in-Some.part clauses p) (sym c.index.ensures)
    (index.parts.each c.in-Some.part c.index.result.now inside) in
    part_enough count c.in-Some.part c.phase.result c.sign.result clauses c.args.e.now c.in-Some-numbers_at.numbers.now
    (c.in-Some-numbers_at.ensures count c.in-Some.part clauses part)
    (part_found count c.len.result c.in-Some.part c.op-op.result c.args.e.now (tree_of c.term.result.now) len c.op-op.ensures
    (c.term.ensures.term ∙ c.term-term.ensures.term) c.in-Some.ensures.part)
    c.phase.ensures c.sign.ensures

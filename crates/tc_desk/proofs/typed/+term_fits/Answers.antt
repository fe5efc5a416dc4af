use Rattle.std.proofs.Common.{ap, sym, subst, FitsSigned, w64, rules}
use Rattle.tc_lists.proofs.Elements.{All-take_read, All-from_take}
use Rattle.tc_term.specs.TreeView.{tree_of}
use Rattle.tc_model.specs.Typed.{AreBytes, Is32}
use Rattle.tc_desk.specs.Typed.{IsTypedTree}
use Rattle.tc_desk.proofs.Typing.{IsTypedTerm, IsTypedTree-compound}
use Rattle.tc_desk.proofs.typed.+term_fits.Goals as goal

pub loop-arg-preserved : goal.loop-arg-preserved
loop-arg-preserved t c =
    All-take_read IsTypedTerm c.items-arg-items.result.now c.loop-arg.arg-index c.arg-item.result c.loop-arg-test.true
    c.arg-item.is c.loop-arg.invariant c.term_fits.ensures

pub returns-after-loop-arg : goal.returns-after-loop-arg
returns-after-loop-arg t c =
    let items = c.items-arg-items.result.now in
    let bytes = subst AreBytes c.bytes-in-Comp.ensures c.bytes_fit-in-Comp.ensures in
    let each = All-from_take IsTypedTerm items c.loop-arg.arg-index c.loop-arg-test.false c.loop-arg.invariant in
    IsTypedTree-compound (tree_of c.args.t.now) c.in-Comp.name c.in-Comp.args items
    (ap tree_of c.in-Comp.is) c.items-arg-items.ensures.trees bytes each

pub returns-in-Var : goal.returns-in-Var
returns-in-Var t c =
    let fits : Is32 c.in-Var.n = search rules in
    subst IsTypedTree (sym (ap tree_of c.in-Var.is)) fits

pub returns-in-Int : goal.returns-in-Int
returns-in-Int t c =
    let fits : FitsSigned w64 c.in-Int.n = search rules in
    subst IsTypedTree (sym (ap tree_of c.in-Int.is)) fits

pub returns-in-Atom : goal.returns-in-Atom
returns-in-Atom t c =
    subst IsTypedTree (sym (ap tree_of c.in-Atom.is)) (subst AreBytes c.bytes.ensures c.bytes_fit.ensures)

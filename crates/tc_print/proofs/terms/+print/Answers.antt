use Rattle.std.proofs.Common.{append-nil, codes, refl, ap, sym, subst, ◌∙◌, ◌++◌, OnOk, ◌≡◌}
use Rattle.std.proofs.Common.{rules}
use Rattle.std.proofs.lemmas.List.{at_drop_all}
use Rattle.tc_term.proofs.Variables.{variables_in, variables_after_all-trees_of}
use Rattle.tc_term.specs.Variables.{variables_after_all}
use Rattle.std.proofs.lemmas.Int.{to_z-of_z}
use mir.Syntax.{w64}
use mir.Val.{SFits, of_z, to_z}
use Rattle.tc_print.proofs.terms.+print.Goals.{write_tail-then-not-is_empty_list+in_ok-write_behind-2, write_tail-else-not-is_empty_list}
use Rattle.tc_term.specs.Tree.{Atomic, Number}
use Rattle.tc_print.proofs.Parts.{separated, separated-texts_after, text_after-empty_list}
use Rattle.tc_print.proofs.Written.{OnOk-behind, OnOk-cell, OnOk-compound, applied-joined, text_after-closed}
use Rattle.tc_print.specs.Printing.{text_after, texts_after}
use Rattle.tc_term.specs.Text.{Alone, Behind, name_text, text_in}
use Rattle.tc_term.specs.TreeView.{tree_of}
use Rattle.tc_print.proofs.terms.+print.Goals as goal

pub write_behind-returns-clause-appended : goal.write_behind-returns-clause-appended
write_behind-returns-clause-appended t c =
    OnOk-behind c.write_term.result c.args.into.now.items c.write_term.new.into.items c.push.new.self.items
    (text_after c.args.seen.now Alone (tree_of c.args.t.now)) c.args.byte c.in_ok-push.ensures.items c.write_term.ensures.appended

pub write_term-returns-in-Some-clause-appended : goal.write_term-returns-in-Some-clause-appended
write_term-returns-in-Some-clause-appended t c =
    OnOk-cell c.write_tail.result c.args.into.now.items c.write_tail.new.into.items Alone 91 c.args.seen.now c.write_behind.new.seen
    c.write_behind.new.into.items (tree_of c.args.t.now) (tree_of c.in-Some.head.now) (tree_of c.in-Some.tail.now)
    c.in-Some.ensures.some refl c.in_ok-write_behind.ensures.appended c.in_ok-write_behind.ensures.seen
    c.write_tail.ensures.appended

pub write_tail-returns-in-Some-clause-appended : goal.write_tail-returns-in-Some-clause-appended
write_tail-returns-in-Some-clause-appended t c =
    OnOk-cell c.write_tail.result c.args.into.now.items c.write_tail.new.into.items Behind 44 c.args.seen.now c.write_behind.new.seen
    c.write_behind.new.into.items (tree_of c.args.t.now) (tree_of c.in-Some.head.now) (tree_of c.in-Some.tail.now)
    c.in-Some.ensures.some refl c.in_ok-write_behind.ensures.appended c.in_ok-write_behind.ensures.seen
    c.write_tail.ensures.appended

pub write_tail-returns-clause-appended : goal.write_tail-returns-clause-appended
write_tail-returns-clause-appended t c =
    elim c.if-not-is_empty_list.branch [
      | write_tail-then-not-is_empty_list+in_ok-write_behind-2 w ↦
          text_after-closed c.args.seen.now c.args.into.now.items
          w.write_behind-then-not-is_empty_list.new.into.items c.push.new.self.items (tree_of c.args.t.now)
          (λ empty. let true_false = w.if-not-is_empty_list.ensures.1 empty in absurd (cc)) c.in_default.ensures.none
          w.in_ok-write_behind-2.ensures.appended
          (c.in_ok-push.ensures.items ∙ ap (λ into. into.items ++ codes "]") w.into-is)
      | write_tail-else-not-is_empty_list w ↦
          c.in_ok-push.ensures.items ∙ ap (λ into. into.items ++ codes "]") w.into-is
          ∙ ap (λ text. c.args.into.now.items ++ text)
          (sym (text_after-empty_list c.args.seen.now (tree_of c.args.t.now) (w.if-not-is_empty_list.ensures.0 refl)))
    ]

pub write_term-returns-in-Atom-clause-appended : goal.write_term-returns-in-Atom-clause-appended
unfolding text_in
write_term-returns-in-Atom-clause-appended t c =
    subst (λ u. OnOk c.append_atom.result (c.append_atom.new.into.items ≡ c.args.into.now.items ++ text_after c.args.seen.now Alone u))
    (ap Atomic c.bytes.ensures ∙ sym (ap tree_of c.in-Atom.is)) c.append_atom.ensures.appended

pub write_term-returns-in-Int-clause-appended : goal.write_term-returns-in-Int-clause-appended
unfolding text_in
write_term-returns-in-Int-clause-appended t c =
    let fits : SFits w64 c.in-Int.n = search rules in
    let number : to_z w64 (of_z w64 c.in-Int.n) ≡ c.in-Int.n = to_z-of_z w64 c.in-Int.n fits in
    subst (λ u. OnOk c.append_integer.result (c.append_integer.new.text.items ≡ c.args.into.now.items ++ text_after c.args.seen.now Alone u))
    (ap Number number ∙ sym (ap tree_of c.in-Int.is)) c.append_integer.ensures.appended

pub write_term-returns-in-Comp-clause-appended : goal.write_term-returns-in-Comp-clause-appended
write_term-returns-in-Comp-clause-appended t c =
    OnOk-compound c.write_compound.result c.args.into.now.items c.write_compound.new.into.items c.args.seen.now (tree_of c.args.t.now)
    c.in-Comp.name c.in-Comp.args (ap tree_of c.in-Comp.is) c.in_default.ensures.none c.write_compound.ensures.appended

pub write_compound-returns-clause-seen : goal.write_compound-returns-clause-seen
write_compound-returns-clause-seen t c =
    let ts = c.items-arg-items.result.now in
    sym (at_drop_all (variables_in c.loop-arg.seen) ts c.loop-arg.arg-index c.loop-arg-test.false) ∙ c.loop-arg.invariant.seen
    ∙ sym (variables_after_all-trees_of c.args.seen.now ts c.items-arg-items.ensures.some)
    ∙ ap (variables_after_all c.args.seen.now) c.items-arg-items.ensures.trees

pub write_compound-returns-clause-appended : goal.write_compound-returns-clause-appended
write_compound-returns-clause-appended t c =
    let ts = c.items-arg-items.result.now in
    let written = c.loop-arg.into.items in
    let nothing_left = at_drop_all (separated c.loop-arg.seen c.loop-arg.separator) ts c.loop-arg.arg-index c.loop-arg-test.false in
    let all = separated-texts_after c.args.seen.now 40 ts c.items-arg-items.ensures.some
    ∙ ap (λ us. codes "(" ++ texts_after c.args.seen.now us) c.items-arg-items.ensures.trees in
    c.in_ok-push.ensures.items
    ∙ ap (λ text. text ++ codes ")")
    (sym (append-nil written) ∙ ap (λ text. written ++ text) (sym nothing_left) ∙ c.loop-arg.invariant.text
    ∙ ap (λ text. c.args.into.now.items ++ name_text c.args.name.now ++ text) all)
    ∙ applied-joined c.args.into.now.items c.args.name.now (texts_after c.args.seen.now c.args.args.now)

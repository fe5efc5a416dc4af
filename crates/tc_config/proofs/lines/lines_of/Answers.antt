use Rattle.std.proofs.Common.{◌≡◌, codes, ap, subst, sym, ◌∙◌}
use Rattle.std.specs.Prelude.{IfNone, IfSome}
use Rattle.tc_lists.proofs.Options.{none_from_never}
use Rattle.tc_term.specs.TreeView.{tree_of}
use Rattle.tc_model.specs.Lines.{line_term}
use Rattle.tc_model.specs.Reactions.{of_two}
use Rattle.tc_model.specs.declared.lines.Line.{Line}
use Rattle.tc_config.specs.Words.{AreCells}
use Rattle.tc_config.proofs.Cells.{first_is_line, lines_onto, lines_onto-end, lines_onto-push, rest_is_list}
use Rattle.tc_config.proofs.lines.lines_of.Goals as goal

pub returns-in-End-clause-some : goal.returns-in-End-clause-some
returns-in-End-clause-some c =
    let ended = subst (AreCells (tree_of c.loop-lines.rest)) c.in-End.is c.in_ok-cells.ensures in
    sym c.loop-lines.invariant ∙ ap (lines_onto c.loop-lines.lines.items) ended ∙ lines_onto-end c.loop-lines.lines.items

pub returns-in-Neither-clause-none : goal.returns-in-Neither-clause-none
returns-in-Neither-clause-none c ms e =
    let neither = subst (AreCells (tree_of c.loop-lines.rest)) c.in-Neither.is c.in_ok-cells.ensures in
    let rest = rest_is_list c.loop-lines.lines.items ms (tree_of c.loop-lines.rest) (c.loop-lines.invariant ∙ e) in
    neither rest.0 rest.1

pub returns-in_default-clause-none : goal.returns-in_default-clause-none
returns-in_default-clause-none c ms e =
    let cell = subst (AreCells (tree_of c.loop-lines.rest)) c.in-Cell.is c.in_ok-cells.ensures in
    let rest = rest_is_list c.loop-lines.lines.items ms (tree_of c.loop-lines.rest) (c.loop-lines.invariant ∙ e) in
    let first = first_is_line (tree_of c.in-Cell.head) (tree_of c.in-Cell.tail) rest.0 (sym cell ∙ rest.1) in
    let none =
    subst (λ o. IfNone o ((l : Line) → tree_of c.in-Cell.head ≡ line_term l → ⊥))
    (none_from_never c.in_ok-found-in-Cell.found c.in_default.not-Some) c.in_ok-found-in-Cell.ensures.none in
    none first.0 first.1

pub loop-lines-preserved : goal.loop-lines-preserved
loop-lines-preserved c =
    let cell = subst (AreCells (tree_of c.loop-lines.rest)) c.in-Cell.is c.in_ok-cells.ensures in
    let some =
    subst (λ o. IfSome o (λ (l : Line). tree_of c.in-Cell.head ≡ line_term l)) c.in-Some.is c.in_ok-found-in-Cell.ensures.some in
    ap (λ ls. lines_onto ls (tree_of c.in-Cell.tail)) c.in_ok-push-in-Cell.ensures.items
    ∙ lines_onto-push c.loop-lines.lines.items c.in-Some.line (tree_of c.in-Cell.tail)
    ∙ ap (λ h. lines_onto c.loop-lines.lines.items (of_two (codes ".") h (tree_of c.in-Cell.tail))) (sym some)
    ∙ ap (lines_onto c.loop-lines.lines.items) (sym cell) ∙ c.loop-lines.invariant

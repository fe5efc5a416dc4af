use Rattle.std.proofs.Common.{◌≡◌, List, ℕ, subst, sym, length}
use Rattle.std.specs.List.{range_with_len}
use Rattle.tc_term.proofs.Numbered.{renumbered-in_order}
use Rattle.tc_term.proofs.Renumbering.{in_order-renumbered}
use Rattle.tc_term.specs.TreeView.{tree_of}
use Rattle.tc_term.proofs.template.renumbered.Goals as goal

pub returns-then-count_up-clause-ok : goal.returns-then-count_up-clause-ok
returns-then-count_up-clause-ok c =
    sym (renumbered-in_order (tree_of c.args.t)
    (subst (λ (ns : List ℕ). ns ≡ range_with_len 0 (length ns)) c.requires.seen (c.count_up.ensures.0 c.if-count_up.true)))

pub returns-in-Err-clause-renamed : goal.returns-in-Err-clause-renamed
returns-in-Err-clause-renamed c = λ same.
    let in_order =
    c.count_up.ensures.1
    (subst (λ (ns : List ℕ). ns ≡ range_with_len 0 (length ns)) (sym c.requires.seen) (in_order-renumbered (tree_of c.args.t) same)) in
    let not = c.if-count_up.false in
    absurd (cc)

use Rattle.std.proofs.Common.{◌∙◌, ap, subst, arith}
use Rattle.tc_term.specs.TreeView.{tree_of}
use Rattle.tc_read.specs.Items.{kept_item}
use Rattle.tc_read.specs.Judging.{IsRead}
use Rattle.tc_read.proofs.Judging.{judged_ok, pattern_kept}
use Rattle.tc_read.proofs.read.judge.Goals as goal

pub known-requires-clause-pattern : goal.known-requires-clause-pattern
known-requires-clause-pattern c =
    let t = tree_of c.in-Small.measured.term in
    let m = c.in-Small.measured in
    (pattern_kept c.args.variables t (subst (λ k. IsRead k c.args.variables) (ap kept_item c.in-Small.is) c.requires)
    (omega (arith, m.counted, m.few)) (omega (arith, m.deep, m.flat)) (omega (arith, m.named, m.short)) c.if-variables-gt-MOST_VARIABLES-2.false).0

pub known-requires-clause-count : goal.known-requires-clause-count
known-requires-clause-count c =
    let t = tree_of c.in-Small.measured.term in
    let m = c.in-Small.measured in
    (pattern_kept c.args.variables t (subst (λ k. IsRead k c.args.variables) (ap kept_item c.in-Small.is) c.requires)
    (omega (arith, m.counted, m.few)) (omega (arith, m.deep, m.flat)) (omega (arith, m.named, m.short)) c.if-variables-gt-MOST_VARIABLES-2.false).1

pub returns-else-variables-gt-MOST_VARIABLES-2 : goal.returns-else-variables-gt-MOST_VARIABLES-2
returns-else-variables-gt-MOST_VARIABLES-2 c = λ behind r k v.
    let t = tree_of c.in-Small.measured.term in
    let m = c.in-Small.measured in
    let pattern = (pattern_kept c.args.variables t (subst (λ k. IsRead k c.args.variables) (ap kept_item c.in-Small.is) c.requires)
    (omega (arith, m.counted, m.few)) (omega (arith, m.deep, m.flat)) (omega (arith, m.named, m.short)) c.if-variables-gt-MOST_VARIABLES-2.false).0 in
    judged_ok c.args.place behind c.args.variables r t c.known.result (k ∙ ap kept_item c.in-Small.is) pattern.template.fits c.if-variables-gt-MOST_VARIABLES-2.false c.known.ensures

use Rattle.std.proofs.Common.{cond, true, sym, ap, ◌∙◌, ◌≡◌, arith}
use Rattle.std.specs.BTreeMap.{is_at}
use Rattle.tc_bag.specs.Pairs.{pair_cmp}
use Rattle.tc_bag.proofs.PairOrder.{same_first, same_second, was_or_is}
use Rattle.tc_bag.proofs.pairs.Pairs.enter.Goals as goal

pub returns-clause-kept : goal.returns-clause-kept
returns-clause-kept c = λ d a has.
    let same = is_at (pair_cmp (c.args.first, c.args.second)) (d, a) in
    c.in_ok-insert.ensures.updates.0 (d, a) ∙ ap (λ b. cond same true b) has ∙ grind (arith)

pub returns-clause-others : goal.returns-clause-others
returns-clause-others c = λ d a has.
    was_or_is (is_at (pair_cmp (c.args.first, c.args.second)) (d, a)) _ ((d ≡ c.args.first) × (a ≡ c.args.second))
    (λ same. (same_first c.args.first c.args.second d a same, same_second c.args.first c.args.second d a same))
    (sym (c.in_ok-insert.ensures.updates.0 (d, a)) ∙ has)

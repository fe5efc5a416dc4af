use Rattle.std.proofs.Common.{sym, ◌∙◌}
use Rattle.std.proofs.lemmas.Bool.{true≢false}
use Rattle.std.specs.BTreeMap.{is_at}
use Rattle.tc_bag.specs.Pairs.{pair_cmp}
use Rattle.tc_bag.proofs.PairOrder.{apart, apart_first, is_gone, is_itself, was_there}
use Rattle.tc_bag.proofs.pairs.Pairs.leave.Goals as goal

pub returns : goal.returns
returns c =
    let one = c.args.first in
    let two = c.args.second in record {
      gone = λ has. true≢false (sym has ∙ c.remove.ensures.updates.0 (one, two)
          ∙ is_gone (is_at (pair_cmp (one, two)) (one, two)) _ (is_itself one two));
      kept = λ d a other has. c.remove.ensures.updates.2 (d, a) (apart one two d a (λ same. other (sym same))) ∙ has;
      apart = λ d a other has. c.remove.ensures.updates.2 (d, a) (apart_first one two d a (λ same. other (sym same))) ∙ has;
      others = λ d a has.
          was_there (is_at (pair_cmp (one, two)) (d, a)) _ (sym (c.remove.ensures.updates.0 (d, a)) ∙ has);
    }

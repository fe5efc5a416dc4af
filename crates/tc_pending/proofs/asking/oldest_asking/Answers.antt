use Rattle.std.proofs.Common.{◌≡◌, take, subst, arith}
use Rattle.tc_lists.specs.Firsts.{NoneOf}
use Rattle.tc_pending.specs.Answers.{AsksFor}
use Rattle.tc_pending.specs.Filed.{tuples_in}
use Rattle.tc_pending.proofs.Filed.{HasFirst-filed}
use Rattle.tc_pending.proofs.Lookups.{oldest}
use Rattle.tc_pending.proofs.asking.oldest_asking.Goals as goal

pub looked_up-place-requires-clause-indexed : goal.looked_up-place-requires-clause-indexed
looked_up-place-requires-clause-indexed g c =
    let waiters = c.args.waiters.now in
    let filed = c.requires.lent.filed in
    record {
      codes = c.requires.lent.codes;
      each = filed.each;
      rises = filed.rises;
      has = HasFirst-filed waiters.index.now waiters.filed waiters.codes.now waiters.serials.now filed c.count_below.result c.min-start.result
          c.count_below.ensures.inside (omega arith) c.count_below.ensures.below;
      inside = omega (arith, c.requires.inside);
    }

pub returns-then-place-start-clause-found : goal.returns-then-place-start-clause-found
returns-then-place-start-clause-found g c =
    oldest (AsksFor (tuples_in c.args.left) c.args.tuple.now) c.args.waiters.now.requests.now c.looked_up-place.result
    (c.looked_up-place.ensures.asks c.if-place-start.true) c.looked_up-place.ensures.none

pub gone_through-requires-clause-none : goal.gone_through-requires-clause-none
gone_through-requires-clause-none g c =
    let all : c.looked_up-place.result ≡ c.min-start.result = omega arith in
    subst (λ n. NoneOf (AsksFor (tuples_in c.args.left) c.args.tuple.now) (take n c.args.waiters.now.requests.now)) all
    c.looked_up-place.ensures.none

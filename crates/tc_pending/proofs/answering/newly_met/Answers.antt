use Rattle.std.proofs.Common.{◌<◌, ◌+◌, Some, sym, subst, arith}
use Rattle.tc_bag.specs.declared.key.Key.TheVariants.{Any}
use Rattle.tc_bag.specs.Keys.{IsOfKey}
use Rattle.tc_bag.specs.Stock.{Row, row}
use Rattle.tc_search.proofs.Passing.{candidate_below}
use Rattle.tc_pending.proofs.Newly.{IsSoFar, far-found, far-none, far-next, far-inside, far-no, none-met}
use Rattle.tc_pending.proofs.answering.newly_met.Given as given
use Rattle.tc_pending.proofs.answering.newly_met.Goals as goal
use Rattle.tc_pending.proofs.answering.newly_met.Goals.{in-Some-oldest_asking, in_default-oldest_asking}

-- the candidate's age
below : (g : given.Over) (c : goal.Joined-oldest_asking g) → c.in-Some.age < c.args.bag.now.next
below g c =
    candidate_below (IsOfKey Any) c.loop-age.from c.args.bag.now.next c.args.bag.now.now (row c.in-Some.age c.in-Some.tuple.now)
    c.in-Some.ensures.rises c.in-Some.ensures.found

pub overflow_add-from : goal.overflow_add-from
overflow_add-from g c = omega (arith, below g c, c.in-Some.ensures.limit)

pub loop-age-smaller : goal.loop-age-smaller
loop-age-smaller g c = omega (arith, below g c, c.in-Some.ensures.found.has.0)

-- the requests so far, with the next candidate
further : (g : given.Over) (c : goal.Joined-oldest_asking g)
    → IsSoFar c.args.bag.now.now c.args.waiters.now.requests.now c.args.known.requests c.match-oldest_asking.next c.match-oldest_asking.count
    (c.in-Some.age + 1)
further g c =
    let rows = c.args.bag.now.now in
    let requests = c.args.waiters.now.requests.now in
    let most = c.args.known.requests in
    let age = c.in-Some.age in
    let far = c.loop-age.invariant.far in
    let this : Row = row age c.in-Some.tuple.now in
    elim c.match-oldest_asking.branch [
      | in-Some-oldest_asking w ↦
          let place = w.in-Some-oldest_asking.place in
          subst (λ n. IsSoFar rows requests most n c.match-oldest_asking.count (age + 1)) (sym w.next-is)
          (subst (λ k. IsSoFar rows requests most (Some (place, age)) k (age + 1)) (sym w.count-is)
          (far-found rows requests most c.loop-age.next c.loop-age.count c.loop-age.from far c.args.bag.now.next this
          c.in-Some.ensures.rises c.in-Some.ensures.found place w.in-Some-oldest_asking.ensures.inside
          w.in-Some-oldest_asking.ensures.found))
      | in_default-oldest_asking w ↦
          subst (λ n. IsSoFar rows requests most n c.match-oldest_asking.count (age + 1)) (sym w.next-is)
          (subst (λ k. IsSoFar rows requests most c.loop-age.next k (age + 1)) (sym w.count-is)
          (far-none rows requests most c.loop-age.next c.loop-age.count c.loop-age.from far c.args.bag.now.next this
          c.in-Some.ensures.rises c.in-Some.ensures.found w.in_default-oldest_asking.ensures.none))
    ]

pub loop-age-preserved : goal.loop-age-preserved
loop-age-preserved g c = record {
  far = further g c;
  rises = omega (arith, c.loop-age.invariant.rises, c.in-Some.ensures.steps_rise, c.oldest_asking.ensures.rises);
}

pub returns-clause-found : goal.returns-clause-found
returns-clause-found g c =
    far-next c.args.bag.now.now c.args.waiters.now.requests.now c.args.known.requests c.loop-age.next c.loop-age.count c.loop-age.from
    c.loop-age.invariant.far
    (none-met c.args.bag.now.now c.args.waiters.now.requests.now c.loop-age.count c.loop-age.from c.loop-age.invariant.far.known
    c.in_default.ensures.none)

pub returns-clause-inside : goal.returns-clause-inside
returns-clause-inside g c =
    far-inside c.args.bag.now.now c.args.waiters.now.requests.now c.args.known.requests c.loop-age.next c.loop-age.count c.loop-age.from
    c.loop-age.invariant.far

pub returns-clause-none : goal.returns-clause-none
returns-clause-none g c =
    far-no c.args.bag.now.now c.args.waiters.now.requests.now c.args.known.requests c.loop-age.next c.loop-age.count c.loop-age.from
    c.loop-age.invariant.far
    (none-met c.args.bag.now.now c.args.waiters.now.requests.now c.loop-age.count c.loop-age.from c.loop-age.invariant.far.known
    c.in_default.ensures.none)

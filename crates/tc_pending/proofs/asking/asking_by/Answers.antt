use Rattle.std.proofs.Common.{◌<◌, Some, length, sym, ap, ◌∙◌, arith}
use Rattle.std.proofs.lemmas.Bool.{true≢false}
use Rattle.std.proofs.lemmas.Option.{slice_get-get_or}
use Rattle.tc_pending.specs.Filed.{Asks}
use Rattle.tc_pending.proofs.Lookups.{none-up, none-further}
use Rattle.tc_pending.proofs.asking.asking_by.Goals as goal

pub returns-then-is_asking-clause-none : goal.returns-then-is_asking-clause-none
returns-then-is_asking-clause-none g c =
    none-up (Asks c.args.wanted.now) c.args.waiters.now.requests.now c.args.waiters.now.codes.now c.requires.indexed.codes c.args.code c.loop-place.at
    c.loop-place.invariant.none c.in-Some.place c.in-Some.ensures.found

pub loop-place-preserved : goal.loop-place-preserved
loop-place-preserved g c =
    let requests = c.args.waiters.now.requests.now in
    let place = c.in-Some.place in
    let r = c.index-requests-place.result in
    let inside : place < length requests = omega (arith, c.in-Some.ensures.inside.1, c.requires.indexed.inside) in
    record {
      inside = omega (arith, c.in-Some.ensures.inside.1);
      none = none-further (Asks c.args.wanted.now) requests c.args.waiters.now.codes.now c.requires.indexed.codes c.args.code c.loop-place.at
          c.loop-place.invariant.none place r
          (slice_get-get_or requests place r inside ∙ ap Some (sym c.index-requests-place.is))
          (λ asks. absurd (true≢false (sym (c.if-is_asking.ensures.exact.1 asks))))
          c.in-Some.ensures.found;
      rises = omega (arith, c.loop-place.invariant.rises, c.if-is_asking.ensures.rises);
    }

pub returns-clause-none : goal.returns-clause-none
returns-clause-none g c =
    none-up (Asks c.args.wanted.now) c.args.waiters.now.requests.now c.args.waiters.now.codes.now c.requires.indexed.codes c.args.code c.loop-place.at
    c.loop-place.invariant.none c.args.count c.in_default.ensures.none

use Rattle.std.proofs.Common.{◌≡◌, ◌+◌, None, length, get_or, refl, arith}
use Rattle.tc_spec.proofs.Parted.{InPart, all_places, place_kept}
use Rattle.tc_spec.proofs.Sifting.{HasClause, kept_none}
use Rattle.tc_spec.proofs.parts.part_of.Goals as goal

pub loop-i-init : goal.loop-i-init
loop-i-init c clauses count are =
    kept_none (λ k. k + 1) (HasClause clauses (InPart count c.args.part)) c.new-numbers.result.items c.new-numbers.ensures.items

pub loop-i-preserved : goal.loop-i-preserved
loop-i-preserved c clauses count are =
    place_kept count c.args.part clauses c.args.places.now c.loop-i.numbers.items c.keep_if.new.numbers.items c.loop-i.i
    (get_or c.args.places.now c.loop-i.i None) None c.is_in-keep.result are c.loop-i-test.true refl (c.loop-i.invariant clauses count are)
    c.is_in-keep.ensures c.in_ok-keep_if.ensures

pub returns : goal.returns
returns c clauses count are =
    let all : c.loop-i.i ≡ length c.args.places.now = omega (arith, c.loop-i-test.false, c.loop-i.auto.i-end) in
    all_places count c.args.part clauses c.args.places.now c.loop-i.numbers.items c.loop-i.i are all (c.loop-i.invariant clauses count are)

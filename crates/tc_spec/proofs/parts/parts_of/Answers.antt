use Rattle.std.proofs.Common.{◌≡◌, ◌<◌, ◌∙◌, sym, subst, arith, rules}
use Rattle.tc_spec.proofs.Parted.{parts_none, parts_more, parts_all}
use Rattle.tc_spec.specs.Indexed.{AreInPart}
use Rattle.tc_spec.proofs.parts.parts_of.Goals as goal

pub loop-place-init : goal.loop-place-init
loop-place-init c =
    parts_none c.args.clauses.now c.clamp-count.result c.in_ok-parts.parts.items c.in_ok-parts.ensures.items

pub by_guard-requires : goal.by_guard-requires
by_guard-requires c =
    subst (AreInPart c.clamp-count.result c.loop-place.place c.args.clauses.now) (sym c.deref-in-loop-place.ensures.value)
    (c.in_ok-numbers.ensures c.args.clauses.now c.clamp-count.result (c.deref.ensures.value ∙ c.in_ok-places.ensures))

pub loop-place-preserved : goal.loop-place-preserved
loop-place-preserved c =
    parts_more c.args.clauses.now c.clamp-count.result c.loop-place.parts.items c.push.new.self.items c.in_ok-part.part
    c.loop-place.place c.loop-place.invariant c.in_ok-part.ensures c.in_ok-push.ensures.items

pub returns : goal.returns
returns c =
    let all : c.loop-place.place ≡ c.clamp-count.result = omega (arith, c.loop-place-test.false, c.loop-place.auto.place-end) in
    let some : 0 < c.clamp-count.result = search rules in
    parts_all c.args.clauses.now c.clamp-count.result c.loop-place.parts.items c.loop-place.place c.loop-place.invariant all some

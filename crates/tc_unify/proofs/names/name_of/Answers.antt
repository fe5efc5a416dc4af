use Rattle.std.proofs.Common.{refl}
use Rattle.tc_unify.proofs.ShortNames.{name_next}
use Rattle.tc_unify.proofs.names.name_of.Goals as goal

pub loop-rest-preserved : goal.loop-rest-preserved
loop-rest-preserved c =
    let next = name_next c.args.code c.loop-rest.rest _ c.loop-rest.bytes.items c.push.new.self.items c.loop-rest.invariant.name c.loop-rest-test.true c.loop-rest.invariant.below refl c.in_ok-push.ensures.items in
    record { name = next.0; below = next.1 }

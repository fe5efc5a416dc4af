use Rattle.test_shared_rows.proofs.Numbers.{numbers-call}
use Rattle.test_shared_rows.proofs.playing.call.Goals as goal

pub wait-requires-clause-may : goal.wait-requires-clause-may
wait-requires-clause-may g c = record {
  own = c.call-called.ensures.kept.own;
  free = c.call-called.ensures.kept.free;
  next = numbers-call c.args.pass.now c.call-called.new.pass c.args.number c.requires.next c.args.centre.now c.in_ok-op.op
      c.call-called.result c.call-called.ensures.served c.call-called.ensures.refused;
}

pub returns-in_ok-reply_text-in-Ok-Replied : goal.returns-in_ok-reply_text-in-Ok-Replied
returns-in_ok-reply_text-in-Ok-Replied g c = record {
  kept = c.call-called.ensures.kept;
  next = numbers-call c.args.pass.now c.call-called.new.pass c.args.number c.requires.next c.args.centre.now c.in_ok-op.op
      c.call-called.result c.call-called.ensures.served c.call-called.ensures.refused;
}

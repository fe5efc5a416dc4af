use Rattle.std.proofs.Common.{[], refl, sym}
use Rattle.tc_session.proofs.Pending.{pends_same}
use Rattle.tc_session.proofs.SoFar.{begins}
use Rattle.tc_session.proofs.going.Session.new.Goals as goal

pub invariant_of-result : goal.invariant_of-result
invariant_of-result g c = record {
  free = c.requires.free;
  pends = pends_same c.log.result.now (g.D.Desk.state c.args.desk).log c.pending_place-pending.result c.pending_place-pending.ensures (sym c.log.ensures);
}

pub returns-clause-begins : goal.returns-clause-begins
returns-clause-begins g c = record {
  held = [];
  holds = sym c.new-lines.ensures;
  so_far = begins _ _ _ _ _ refl c.new-replies.ensures.items;
}

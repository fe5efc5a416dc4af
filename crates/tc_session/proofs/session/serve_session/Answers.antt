use Rattle.std.proofs.Common.{refl, sym, ◌∙◌, arith}
use Rattle.tc_session.proofs.SoFar.{begins}
use Rattle.tc_session.proofs.Kept.{kept_both, kept_same}
use Rattle.tc_session.proofs.Pending.{pends_same}
use Rattle.tc_session.proofs.session.serve_session.Goals as goal

pub loop-init : goal.loop-init
loop-init g c = record {
  can = tt;
  finite = tt;
  buffer = omega arith;
  so_far = begins _ _ _ _ _ c.new-lines.ensures c.new-replies.ensures.items;
  pends = pends_same c.log.result.now (g.D.Desk.state c.args.desk.now).log c.pending_place-pending.result c.pending_place-pending.ensures (sym c.log.ensures);
  kept = kept_same (g.D.Desk.state c.args.desk.now) c.requires.free;
  bond = refl;
  sound = λ sound. sound;
}

pub loop-preserved : goal.loop-preserved
loop-preserved g c = record {
  can = tt;
  finite = tt;
  buffer = omega (arith, c.loop.invariant.buffer);
  so_far = c.in_default.ensures.steps _ c.loop.invariant.so_far;
  pends = c.step-over.ensures.pends;
  kept = kept_both _ _ _ c.loop.invariant.kept c.step-over.ensures.kept;
  bond = c.step-over.ensures.bond ∙ c.loop.invariant.bond;
  sound = λ sound. c.step-over.ensures.sound (c.loop.invariant.sound sound);
}

pub returns-in-Some-over-clause-session : goal.returns-in-Some-over-clause-session
returns-in-Some-over-clause-session g c = (c.in-Some-over.ensures.steps _ c.loop.invariant.so_far).session

pub returns-in-Some-over-clause-kept : goal.returns-in-Some-over-clause-kept
returns-in-Some-over-clause-kept g c = kept_both _ _ _ c.loop.invariant.kept c.in-Some-over.ensures.kept

pub returns-in-Some-over-clause-reads : goal.returns-in-Some-over-clause-reads
returns-in-Some-over-clause-reads g c = (c.in-Some-over.ensures.steps _ c.loop.invariant.so_far).reads

pub returns-in-Some-over-clause-writes : goal.returns-in-Some-over-clause-writes
returns-in-Some-over-clause-writes g c = (c.in-Some-over.ensures.steps _ c.loop.invariant.so_far).writes

pub returns-in-Some-over-clause-read_sure : goal.returns-in-Some-over-clause-read_sure
returns-in-Some-over-clause-read_sure g c = (c.in-Some-over.ensures.steps _ c.loop.invariant.so_far).read_sure

pub returns-in-Some-over-clause-write_sure : goal.returns-in-Some-over-clause-write_sure
returns-in-Some-over-clause-write_sure g c = (c.in-Some-over.ensures.steps _ c.loop.invariant.so_far).write_sure

use Rattle.tc_site.proofs.Pausing.{took-holds}
use Rattle.test_site_rows.proofs.holding.serve_beside.Goals as goal

pub resume-requires : goal.resume-requires
resume-requires g c = record { held = (0, took-holds c.args.holder.now c.pause.new.self 0 c.in-Ok.paused c.in-Ok.ensures.paused) }

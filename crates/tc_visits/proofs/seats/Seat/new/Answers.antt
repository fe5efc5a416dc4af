use Rattle.tc_site.proofs.Configured.{permits_by}
use Rattle.tc_visits.proofs.Sittings.{sits-first}
use Rattle.tc_visits.proofs.seats.Seat.new.Goals as goal

pub invariant_of-result : goal.invariant_of-result
invariant_of-result g c =
    sits-first g.L.Source.left g.L.Source.read_faults g.L.Source.sure g.L.Sink.taken g.L.Sink.write_faults g.L.Sink.sure permits_by
    c.args.site.now c.args.kit c.of-agent.result.value c.args.link c.of-opened.result.value c.new-desk.result c.new.result
    c.requires c.of-agent.ensures c.of-opened.ensures c.new-desk.ensures.new c.new-desk.ensures.site c.new-desk.ensures.agent c.new-desk.ensures.sound
    c.new.ensures.desk c.new.ensures.begins

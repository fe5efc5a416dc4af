use Rattle.std.proofs.Common.{List, refl}
use Rattle.tc_policy.specs.declared.grants.Grant.{Grant}
use Rattle.tc_site.proofs.Configured.{permits_by}
use Rattle.tc_site.specs.Sites.{EndedDeskState}
use Rattle.tc_visits.proofs.Sittings.{is-left, seat-ended, sits-in, sits-same}
use Rattle.tc_visits.proofs.seats.Seat.end_alone.Goals as goal

pub invariant_of-self-then-not-set_blocking : goal.invariant_of-self-then-not-set_blocking
invariant_of-self-then-not-set_blocking g c =
    let kit = c.self.inside.kit.value in
    let opened = c.self.inside.opened.value in
    let sits = sits-in g.L.Source.left g.L.Source.read_faults g.L.Source.sure g.L.Sink.taken g.L.Sink.write_faults g.L.Sink.sure permits_by kit opened
    c.self.inside.session c.self.inside.left c.in-Some.session c.in-Some.is c.self.invariant in
    sits-same g.L.Source.left g.L.Source.read_faults g.L.Source.sure g.L.Sink.taken g.L.Sink.write_faults g.L.Sink.sure permits_by kit opened
    c.in-Some.session c.set_blocking.new.self sits c.set_blocking.ensures.desk c.set_blocking.ensures.underway

pub invariant_of-self-2 : goal.invariant_of-self-2
invariant_of-self-2 g c =
    let kit = c.self.inside.kit.value in
    let opened = c.self.inside.opened.value in
    let before = c.set_blocking.new.self in
    let after = c.finish-end.new.session in
    let sits = sits-same g.L.Source.left g.L.Source.read_faults g.L.Source.sure g.L.Sink.taken g.L.Sink.write_faults g.L.Sink.sure permits_by kit opened
    c.in-Some.session before (sits-in g.L.Source.left g.L.Source.read_faults g.L.Source.sure g.L.Sink.taken g.L.Sink.write_faults g.L.Sink.sure permits_by kit opened
    c.self.inside.session c.self.inside.left c.in-Some.session c.in-Some.is c.self.invariant)
    c.set_blocking.ensures.desk c.set_blocking.ensures.underway in
    let d : EndedDeskState (List Grant) = record { site = after.desk.site; agent = after.desk.agent; log = after.desk.log } in
    seat-ended g.L.Source.left g.L.Source.read_faults g.L.Source.sure g.L.Sink.taken g.L.Sink.write_faults g.L.Sink.sure permits_by kit opened
    c.leave.new.session c.leave.result d c.finish-end.result c.leave.ensures.taken (c.leave.ensures.desk after refl) c.leave.ensures.end
    (is-left g.L.Source.left g.L.Source.read_faults g.L.Source.sure g.L.Sink.taken g.L.Sink.write_faults g.L.Sink.sure permits_by kit opened
    before after sits c.finish-end.ensures.bond c.finish-end.ensures.sound d c.finish-end.result c.finish-end.ensures.over refl)

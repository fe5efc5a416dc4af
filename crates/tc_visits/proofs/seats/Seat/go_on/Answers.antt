use Rattle.std.proofs.Common.{List, refl}
use Rattle.tc_policy.specs.declared.grants.Grant.{Grant}
use Rattle.tc_site.proofs.Configured.{permits_by}
use Rattle.tc_site.specs.Desks.{desk_of}
use Rattle.tc_site.specs.Sites.{EndedDeskState}
use Rattle.tc_visits.proofs.Sittings.{is-left, not-over, seat-ended, sits-in, sits-on}
use Rattle.tc_visits.proofs.seats.Seat.go_on.Goals as goal

pub invariant_of-self-in-Over : goal.invariant_of-self-in-Over
invariant_of-self-in-Over g c =
    let kit = c.self.inside.kit.value in
    let opened = c.self.inside.opened.value in
    let before = c.in-Some.session in
    let after = c.go_on.new.session in
    let sits = sits-in g.L.Source.left g.L.Source.read_faults g.L.Source.sure g.L.Sink.taken g.L.Sink.write_faults g.L.Sink.sure permits_by kit opened
    c.self.inside.session c.self.inside.left before c.in-Some.is c.self.invariant in
    let d : EndedDeskState (List Grant) = record { site = after.desk.site; agent = after.desk.agent; log = after.desk.log } in
    seat-ended g.L.Source.left g.L.Source.read_faults g.L.Source.sure g.L.Sink.taken g.L.Sink.write_faults g.L.Sink.sure permits_by kit opened
    c.leave.new.session c.leave.result d c.in-Over.end c.leave.ensures.taken (c.leave.ensures.desk after refl) c.leave.ensures.end
    (is-left g.L.Source.left g.L.Source.read_faults g.L.Source.sure g.L.Sink.taken g.L.Sink.write_faults g.L.Sink.sure permits_by kit opened
    before after sits c.go_on.ensures.bond c.go_on.ensures.sound d c.in-Over.end c.in-Over.ensures.goes_on refl)

pub invariant_of-self-in_default-go_on : goal.invariant_of-self-in_default-go_on
invariant_of-self-in_default-go_on g c =
    let kit = c.self.inside.kit.value in
    let opened = c.self.inside.opened.value in
    let before = c.in-Some.session in
    let after = c.go_on.new.session in
    let sits = sits-in g.L.Source.left g.L.Source.read_faults g.L.Source.sure g.L.Sink.taken g.L.Sink.write_faults g.L.Sink.sure permits_by kit opened
    c.self.inside.session c.self.inside.left before c.in-Some.is c.self.invariant in
    sits-on g.L.Source.left g.L.Source.read_faults g.L.Source.sure g.L.Sink.taken g.L.Sink.write_faults g.L.Sink.sure permits_by kit opened
    before after sits c.go_on.ensures.bond c.go_on.ensures.sound
    (λ from u. not-over desk_of g.L.Source.left g.L.Source.read_faults g.L.Source.sure g.L.Sink.taken g.L.Sink.write_faults g.L.Sink.sure from c.go_on.result after
    c.in_default-go_on.not-Over (c.go_on.ensures.goes_on from u))

use Rattle.std.proofs.Common.{refl, sym, subst}
use Rattle.tc_io.specs.Links.{connection_of}
use Rattle.tc_site.proofs.Configured.{permits_by}
use Rattle.tc_visits.specs.Seats.{IsLeft}
use Rattle.tc_visits.specs.declared.seats.Left.{Left}
use Rattle.tc_visits.proofs.Sittings.{is-left, left-in, left-same, sits-in}
use Rattle.tc_visits.proofs.seats.Seat.into_visit.Goals.{in-Some-default, in-None-Some}
use Rattle.tc_visits.proofs.seats.Seat.into_visit.Goals as goal

pub new-requires-2 : goal.new-requires-2
new-requires-2 g c =
    let kit = c.self.inside.kit.value in
    let opened = c.self.inside.opened.value in
    let at = connection_of g.L.Source.left g.L.Source.sure g.L.Sink.sure opened in
    let left : IsLeft permits_by kit at c.match-session.desk.desk c.match-session.desk.end =
    elim c.match-session.branch [
      | in-Some-default w ↦
          subst (λ (l : Left g.row.L.Denot). IsLeft permits_by kit at l.desk l.end) (sym w.desk-is)
          (left-same g.L.Source.left g.L.Source.read_faults g.L.Source.sure g.L.Sink.taken g.L.Sink.write_faults g.L.Sink.sure permits_by kit opened
          w.new.result.desk w.new.result.desk w.finish-end.result w.new.result.end refl w.new.ensures.end
          (is-left g.L.Source.left g.L.Source.read_faults g.L.Source.sure g.L.Sink.taken g.L.Sink.write_faults g.L.Sink.sure permits_by kit opened
          w.in-Some-default.session w.finish-end.new.session
          (sits-in g.L.Source.left g.L.Source.read_faults g.L.Source.sure g.L.Sink.taken g.L.Sink.write_faults g.L.Sink.sure permits_by kit opened
          c.self.inside.session c.self.inside.left w.in-Some-default.session w.in-Some-default.is-0 c.self.invariant)
          w.finish-end.ensures.bond w.finish-end.ensures.sound w.new.result.desk w.finish-end.result w.finish-end.ensures.over w.new.ensures.desk))
      | in-None-Some w ↦
          subst (λ (l : Left g.row.L.Denot). IsLeft permits_by kit at l.desk l.end) (sym w.desk-is)
          (left-in g.L.Source.left g.L.Source.read_faults g.L.Source.sure g.L.Sink.taken g.L.Sink.write_faults g.L.Sink.sure permits_by kit opened
          c.self.inside.session c.self.inside.left w.in-None-Some.left w.in-None-Some.is-0 w.in-None-Some.is-1 c.self.invariant)
    ] in
    left.visit

use Rattle.std.proofs.Common.{◌≡◌, ℕ, List, sym, subst}
use Rattle.tc_session.proofs.Underway.{comes, none_taken, opened, same_link, same_sitting}
use Rattle.tc_session.specs.SoFar.{IsSoFar, Moment, moment}
use Rattle.tc_session.specs.Underway.{ComesTo}
use Rattle.tc_session.specs.declared.going.Step.{Step}
use Rattle.tc_session.proofs.going.Session.step.Goals.{in-Some-over, in-None}
use Rattle.tc_session.proofs.going.Session.step.Goals as goal

pub returns-then-not-has_room-clause-goes_on : goal.returns-then-not-has_room-clause-goes_on
returns-then-not-has_room-clause-goes_on g c from before =
    let b = opened g.D.Desk.state g.L.Source.left g.L.Source.read_faults g.L.Source.sure g.L.Sink.taken g.L.Sink.write_faults g.L.Sink.sure from _ _ c.self.view_is before in
    record {
      held = b.held;
      holds = b.holds;
      so_far = same_link from _ _ _ b.so_far c.has_room.ensures.source c.has_room.ensures.sink;
    }

pub returns-in-Some-clause-goes_on : goal.returns-in-Some-clause-goes_on
returns-in-Some-clause-goes_on g c from before =
    let b = opened g.D.Desk.state g.L.Source.left g.L.Source.read_faults g.L.Source.sure g.L.Sink.taken g.L.Sink.write_faults g.L.Sink.sure from _ _ c.self.view_is before in
    let s = same_link from _ _ _ b.so_far c.has_room.ensures.source c.has_room.ensures.sink in
    c.in-Some.ensures.steps from b.held (g.D.Desk.state c.self.inside.desk) s

-- no whole line is held, so those are all bytes that are held
pub returns-in_default-next_line-clause-goes_on : goal.returns-in_default-next_line-clause-goes_on
returns-in_default-next_line-clause-goes_on g c from before =
    let b = opened g.D.Desk.state g.L.Source.left g.L.Source.read_faults g.L.Source.sure g.L.Sink.taken g.L.Sink.write_faults g.L.Sink.sure from _ _ c.self.view_is before in
    let s = same_link from _ _ _ b.so_far c.has_room.ensures.source c.has_room.ensures.sink in
    let p = c.in_default.ensures.steps from b.held (g.D.Desk.state c.self.inside.desk) s in
    let is : b.held ≡ c.next_line.new.lines = c.in_default-next_line.ensures.line b.held b.holds in
    comes g.D.Desk.state g.L.Source.left g.L.Source.read_faults g.L.Source.sure g.L.Sink.taken g.L.Sink.write_faults g.L.Sink.sure from c.read.result _ c.read.new.lines (none_taken c.next_line.new.taken c.read.new.lines c.next_line.ensures.taken)
    (c.read.ensures from (g.D.Desk.state c.self.inside.desk)
    (subst (λ (held : List ℕ). IsSoFar from (moment g.L.Source.left g.L.Source.read_faults g.L.Source.sure g.L.Sink.taken g.L.Sink.write_faults g.L.Sink.sure c.prepare.new.link held c.prepare.new.replies.items (g.D.Desk.state c.self.inside.desk))) is p))

pub returns-then-waits-clause-goes_on : goal.returns-then-waits-clause-goes_on
returns-then-waits-clause-goes_on g c from before =
    let b = opened g.D.Desk.state g.L.Source.left g.L.Source.read_faults g.L.Source.sure g.L.Sink.taken g.L.Sink.write_faults g.L.Sink.sure from _ _ c.self.view_is before in
    let s = same_link from _ _ _ b.so_far c.has_room.ensures.source c.has_room.ensures.sink in
    let p = c.in_default.ensures.steps from b.held (g.D.Desk.state c.self.inside.desk) s in
    comes g.D.Desk.state g.L.Source.left g.L.Source.read_faults g.L.Source.sure g.L.Sink.taken g.L.Sink.write_faults g.L.Sink.sure from c.pause.result _ b.held (c.in-Some-next_line.ensures.line b.held b.holds) (c.pause.ensures from b.held (g.D.Desk.state c.self.inside.desk) p)

-- the line is used
pub returns-clause-goes_on : goal.returns-clause-goes_on
returns-clause-goes_on g c from before =
    let b = opened g.D.Desk.state g.L.Source.left g.L.Source.read_faults g.L.Source.sure g.L.Sink.taken g.L.Sink.write_faults g.L.Sink.sure from _ _ c.self.view_is before in
    let s = same_link from _ _ _ b.so_far c.has_room.ensures.source c.has_room.ensures.sink in
    let p = c.in_default.ensures.steps from b.held (g.D.Desk.state c.self.inside.desk) s in
    let begins = c.in-Some-next_line.ensures.line b.held b.holds in
    let now : Moment = moment g.L.Source.left g.L.Source.read_faults g.L.Source.sure g.L.Sink.taken g.L.Sink.write_faults g.L.Sink.sure c.serve_line-over.new.link c.next_line.new.lines c.serve_line-over.new.replies.items (g.D.Desk.state c.serve_line-over.new.desk) in
    comes g.D.Desk.state g.L.Source.left g.L.Source.read_faults g.L.Source.sure g.L.Sink.taken g.L.Sink.write_faults g.L.Sink.sure from c.match-over.result _ c.next_line.new.lines (none_taken c.next_line.new.taken c.next_line.new.lines c.next_line.ensures.taken)
    (elim c.match-over.branch [
      | in-Some-over w ↦ subst (λ (step : Step). ComesTo from step now) (sym w.result-is) (w.in-Some-over.ensures.steps from b.held c.next_line.new.lines begins p)
      | in-None w ↦ subst (λ (step : Step). ComesTo from step now) (sym w.result-is) (w.in-None.ensures.steps from b.held c.next_line.new.lines begins p)
    ])

pub returns-then-not-has_room-clause-kept : goal.returns-then-not-has_room-clause-kept
returns-then-not-has_room-clause-kept g c = same_sitting g.D.Desk.state _ _ c.self.view_is c.self.invariant.free

pub returns-in-Some-clause-kept : goal.returns-in-Some-clause-kept
returns-in-Some-clause-kept g c = same_sitting g.D.Desk.state _ _ c.self.view_is c.self.invariant.free

pub returns-in_default-next_line-clause-kept : goal.returns-in_default-next_line-clause-kept
returns-in_default-next_line-clause-kept g c = same_sitting g.D.Desk.state _ _ c.self.view_is c.self.invariant.free

pub returns-then-waits-clause-kept : goal.returns-then-waits-clause-kept
returns-then-waits-clause-kept g c = same_sitting g.D.Desk.state _ _ c.self.view_is c.self.invariant.free

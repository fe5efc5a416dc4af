use Rattle.std.proofs.Common.{◌≡◌, ◌+◌, false, Some, subst}
use Rattle.std.specs.List.{slice_get}
use Rattle.tc_desk.specs.Logs.{is_pending}
use Rattle.tc_asks.specs.Places.{IsItemAt}
use Rattle.tc_asks.specs.Progress.{HasTakenIn, Progress}
use Rattle.tc_asks.proofs.Taken.{taken_next}
use Rattle.tc_asks.proofs.asker.Asker.take_in.Goals as goal

pub returns-clause-taken : goal.returns-clause-taken
returns-clause-taken c scripts log =
    let s = c.self.inside in
    let p : Progress = record { rows = s.rows; script = s.place.script; item = s.place.item; known = s.bindings } in
    let next : Progress = record { rows = s.rows + 1; script = s.place.script; item = s.place.item + 1; known = c.tell.new.bindings } in
    subst
    (λ (q : Progress). IsItemAt scripts q.script q.item c.args.item.now → slice_get log q.rows ≡ Some c.args.row.now
    → is_pending c.args.row.now.result ≡ false → HasTakenIn scripts log q → HasTakenIn scripts log next)
    c.self.view_is
    (λ at came settled taken. taken_next scripts log p c.args.item.now c.args.row.now c.tell.new.bindings taken at came settled c.in_ok-tell.ensures.told)

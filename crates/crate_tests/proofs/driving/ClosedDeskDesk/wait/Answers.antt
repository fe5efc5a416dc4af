use Rattle.std.proofs.Common.{length, refl, sym}
use Rattle.std.proofs.lemmas.Option.{slice_get_read}
use Rattle.tc_desk.proofs.Logs.{any_pending-none}
use Rattle.crate_tests.proofs.driving.ClosedDeskDesk.wait.Goals as goal

pub returns-clause-spent : goal.returns-clause-spent
returns-clause-spent g c = λ spent.
    let log = c.args.self.now.log.items in
    let stands = spent.is.stands in
    absurd
    (any_pending-none log stands.0 spent.row c.args.self.now.settled
    (slice_get_read log (length log) stands.0 spent.row refl stands.1 (sym stands.2)) spent.is.pending)

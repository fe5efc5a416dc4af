use Rattle.tc_desk.proofs.Fitting.{none-waits_ask, reply-fits_ask}
use Rattle.tc_desk.proofs.laws.results_fit_their_asks.Goals as goal

pub returns-clause-reply : goal.returns-clause-reply
returns-clause-reply c origin history id ask reply run served =
    reply-fits_ask origin history id ask run served.0 reply served.1

pub returns-clause-pending : goal.returns-clause-pending
returns-clause-pending c origin history id ask run called none = none-waits_ask origin history id ask run called none

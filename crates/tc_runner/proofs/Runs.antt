-- What holds of runs that may go on.
use Rattle.tc_runner.specs.Runs.{HasCores, MayGoOn}
use Rattle.tc_runner.specs.declared.opening.Opened.{Opened}

-- a run that may go on has its cores and its logs
pub HasCores-may : (run : Opened) → MayGoOn run → HasCores run
HasCores-may run may = record { are = may.goes.are; none = may.none; whole = may.goes.going.follow.whole }

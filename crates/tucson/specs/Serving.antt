-- A service that has ended.
use Rattle.tc_desk.specs.Logs.{rows_of}
use Rattle.tc_runner.specs.Cores.{histories}
use Rattle.tc_visits.specs.Service.{DoorState, IsServiceBy}
use Rattle.tc_visits.specs.declared.service.Service.{Service}

-- the service is one over the connections that a door has opened meanwhile
abbrev pub IsServed : DoorState → DoorState → Service → Type 0
IsServed door after s =
    IsServiceBy door after s.all s.enough s.run.plan
    (histories s.run.plan s.run.cores.items) (rows_of s.run.logs.items)

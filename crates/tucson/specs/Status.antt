-- The numbers of the statuses.
use Rattle.std.specs.Prelude.{ℕ, Bool, true, false}
use Rattle.tc_verify.specs.declared.verdicts.Verdict.{Verdict}
use Rattle.tc_verify.specs.declared.verdicts.Verdict.TheVariants.{Yes}
use Rattle.tucson.specs.declared.status.Status.{Status}
use Rattle.tucson.specs.declared.status.Status.TheVariants.{Ended, WriteFault, Refused, Blocked}
use Rattle.tucson.specs.declared.status.Status.TheVariants.{No, ReadFault, NoMemory, Usage, NetFault}

-- the number with which the program exits
abbrev pub number_of : Status → ℕ
number_of Ended = 0
number_of WriteFault = 1
number_of (Refused clause cause) = 2
number_of Blocked = 3
number_of No = 4
number_of ReadFault = 5
number_of NoMemory = 6
number_of Usage = 7
number_of NetFault = 8

-- the status of a run, at whose end some agent waits, or none does
abbrev pub status_of_run : Bool → Status
status_of_run true = Blocked
status_of_run false = Ended

-- the status of a service, at whose end some agent waits, or none does, by whether each agent had a
-- connection, and whether each session found memory to its end
abbrev pub status_of_service : (all enough waits : Bool) → Status
status_of_service all false waits = NoMemory
status_of_service false true waits = NetFault
status_of_service true true waits = status_of_run waits

-- the status of a verdict on a text
abbrev pub status_of_verdict : Verdict → Status
status_of_verdict Yes = Ended
status_of_verdict verdict = No

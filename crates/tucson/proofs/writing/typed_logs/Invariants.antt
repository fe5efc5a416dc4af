use Rattle.std.proofs.Common.{All, take}
use Rattle.tc_desk.specs.Typed.{IsTypedRow}
use Rattle.tucson.proofs.writing.typed_logs.Given as goal

-- the rows of the first logs are typed
abbrev pub invariant-loop-log : goal.invariant-loop-log
invariant-loop-log l = All (λ log. All IsTypedRow log.items) (take l.log-index l.logs)

use Rattle.std.proofs.Common.{rules, ◌∙◌, ◌≡◌, length, ap}
use Rattle.std.proofs.lemmas.List.{nil_from_length}
use Rattle.tc_model.specs.Choices.{TheFirst}
use Rattle.tc_config.specs.Good.{IsGood}
use Rattle.tc_desk.specs.Logs.{rows_of}
use Rattle.tc_runner.specs.Cores.{Goes, histories}
use Rattle.tc_lists.proofs.Parts.{take-append_all}
use Rattle.tc_runner.proofs.Exchanges.{exchanged}
use Rattle.tc_runner.proofs.running.go_on.Goals as goal

pub returns-clause-good : goal.returns-clause-good
returns-clause-good g c =
    let run = c.args.run in
    let cores = take-append_all c.finish.new.cores run.cores.items run.cores.len (search rules) (search rules) in
    let logs = take-append_all c.finish.new.logs run.logs.items run.logs.len (search rules) (search rules) in
    exchanged (λ cores logs. IsGood TheFirst run.plan (histories run.plan cores) (rows_of logs)) c.finish.new.cores _ c.finish.new.logs _ cores logs c.in_ok-finish.ensures.good

pub returns-clause-goes : goal.returns-clause-goes
returns-clause-goes g c =
    let run = c.args.run in
    let cores = take-append_all c.finish.new.cores run.cores.items run.cores.len (search rules) (search rules) in
    let logs = take-append_all c.finish.new.logs run.logs.items run.logs.len (search rules) (search rules) in
    let long : length c.finish.new.cores ≡ length run.cores.items = search rules in
    record {
      goes = exchanged (λ cores logs. Goes run.plan cores (rows_of logs)) c.finish.new.cores _ c.finish.new.logs _ cores logs c.in_ok-finish.ensures.goes;
      none = λ no_agent. cores ∙ nil_from_length c.finish.new.cores (long ∙ ap length (c.requires.none no_agent));
    }

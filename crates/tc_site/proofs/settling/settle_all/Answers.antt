use Rattle.std.proofs.Common.{Vec, arith}
use Rattle.std.specs.Global.{Global}
use Rattle.std.proofs.lemmas.List.{length-map}
use Rattle.tc_desk.specs.Logs.{rows_of}
use Rattle.tc_lists.proofs.Results.{OnErr-always}
use Rattle.tc_desk.specs.declared.rows.LogRow.{LogRow}
use Rattle.tc_site.proofs.Settled.{agree-set, settled-all, settled-part, settled-step}
use Rattle.tc_site.proofs.settling.settle_all.Goals as goal

pub returns-in_err-settle_log-clause-agree : goal.returns-in_err-settle_log-clause-agree
returns-in_err-settle_log-clause-agree c =
    agree-set c.args.names.now c.args.cores.now c.loop-agent.logs c.loop-agent.agent c.settle_log.new.log c.loop-agent.invariant.agree c.settle_log.ensures.agrees

pub returns-in_err-settle_log-clause-part : goal.returns-in_err-settle_log-clause-part
returns-in_err-settle_log-clause-part c =
    OnErr-always _ _
    (settled-part c.args.names.now c.args.cores.now (rows_of c.args.logs.now) c.loop-agent.logs c.loop-agent.agent c.index-logs-agent.result c.settle_log.new.log
    c.in_err-settle_log.ensures.same c.loop-agent.invariant.swept)

pub loop-agent-preserved : goal.loop-agent-preserved
loop-agent-preserved c =
    let many = c.loop-agent.auto.logs in
    record {
      swept =
          settled-step c.args.names.now c.args.cores.now (rows_of c.args.logs.now) c.loop-agent.logs c.loop-agent.agent c.index-logs-agent.result c.settle_log.new.log
          (omega (arith, many, c.loop-agent-test.true)) c.loop-agent.invariant.swept c.in_ok-settle_log.ensures.settled;
      agree = agree-set c.args.names.now c.args.cores.now c.loop-agent.logs c.loop-agent.agent c.settle_log.new.log c.loop-agent.invariant.agree c.settle_log.ensures.agrees;
    }

pub returns-clause-settled : goal.returns-clause-settled
returns-clause-settled c =
    let many = length-map c.args.logs.now (λ (log : Vec LogRow Global). log.items) in
    settled-all c.args.names.now c.args.cores.now (rows_of c.args.logs.now) c.loop-agent.logs c.loop-agent.agent (omega (arith, many, c.loop-agent-test.false))
    c.loop-agent.invariant.swept

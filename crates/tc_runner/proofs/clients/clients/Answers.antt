use Rattle.std.proofs.Common.{◌≡◌, ◌+◌, ◌∙◌, List, sym, ap, subst, length, get_or, Vec, arith}
use Rattle.std.specs.Global.{Global}
use Rattle.tc_desk.specs.declared.rows.LogRow.{LogRow}
use Rattle.tc_runner.specs.Clients.{IsClient, IsLog}
use Rattle.tc_desk.specs.Logs.{rows_of}
use Rattle.tc_runner.specs.Cores.{histories}
use Rattle.tc_runner.proofs.Left.{AreClientsBelow, AreClientsBelow-push, IsLog-follows}
use Rattle.tc_runner.proofs.Turns.{agent-at, rows-at}
use Rattle.tc_runner.proofs.clients.clients.Goals as goal

pub client_of-requires : goal.client_of-requires
client_of-requires c =
    let k = c.loop-agent.agent in
    let a = c.index-agents-agent.result in
    let many = ap length c.agents-agents.ensures.agents in
    let stands = agent-at c.args.plan.now c.agents-agents.result.now k a c.agents-agents.ensures.agents c.loop-agent-test.true c.index-agents-agent.is in
    let at = rows-at c.args.plan.now c.args.cores.now c.args.logs.now k c.index-logs-agent.result c.requires (omega (arith, many, c.loop-agent-test.true)) in
    let log = (get_or c.args.logs.now k c.index-logs-agent.result).items in
    let read : c.deref.result.now ≡ log = c.deref.ensures.value ∙ ap (λ (v : Vec LogRow Global). v.items) c.index-logs-agent.is in
    subst (IsLog a.scripts) (sym read)
    (IsLog-follows c.args.plan.now k a (histories c.args.plan.now c.args.cores.now) log (c.requires.going.follow.each k a log stands at))

pub loop-agent-preserved : goal.loop-agent-preserved
loop-agent-preserved c =
    let k = c.loop-agent.agent in
    let a = c.index-agents-agent.result in
    let many = ap length c.agents-agents.ensures.agents in
    let stands = agent-at c.args.plan.now c.agents-agents.result.now k a c.agents-agents.ensures.agents c.loop-agent-test.true c.index-agents-agent.is in
    let at = rows-at c.args.plan.now c.args.cores.now c.args.logs.now k c.index-logs-agent.result c.requires (omega (arith, many, c.loop-agent-test.true)) in
    let log = (get_or c.args.logs.now k c.index-logs-agent.result).items in
    let read : c.deref.result.now ≡ log = c.deref.ensures.value ∙ ap (λ (v : Vec LogRow Global). v.items) c.index-logs-agent.is in
    subst (AreClientsBelow (k + 1) c.args.plan.now.agents (rows_of c.args.logs.now)) (sym c.in_ok-push.ensures.items)
    (AreClientsBelow-push k c.args.plan.now.agents (rows_of c.args.logs.now) c.loop-agent.clients.items a log c.in_ok-client_of.field-0 c.loop-agent.invariant stands at
    (subst (λ (l : List LogRow). IsClient k a.scripts l c.in_ok-client_of.field-0) read c.in_ok-client_of.ensures))

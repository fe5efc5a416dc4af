use Rattle.std.proofs.Common.{◌≡◌, ◌+◌, ◌<◌, Bool, true, length, get_or, set, sym, subst, ap, arith}
use Rattle.tc_desk.specs.Logs.{rows_of}
use Rattle.tc_runner.specs.Steps.{Moves}
use Rattle.tc_runner.proofs.Sweeping.{IsGood-still, Sweeping, Sweeping-skip}
use Rattle.tc_runner.proofs.Turns.{turn-client, turn-goes, turned-clients, turned-goes, turned-moved, turned-still}
use Rattle.tc_runner.proofs.running.sweep.Goals as goal
use Rattle.tc_runner.proofs.running.sweep.Goals.{else-branch, then-branch}

pub step-requires-clause-goes : goal.step-requires-clause-goes
step-requires-clause-goes g c =
    let so = Sweeping-skip (c.args.all ≡ true) c.args.plan.now (rows_of c.args.logs.now) c.loop-agent.place c.in-Some.agent c.loop-agent.cores
    (rows_of c.loop-agent.logs) c.loop-agent.clients c.loop-agent.moved c.loop-agent.invariant c.in-Some.ensures.each in
    let inside : c.in-Some.agent < length c.agents-agents.result.now = let below = c.in-Some.ensures.some.1 in omega (arith, below) in
    turn-goes (c.args.all ≡ true) c.args.plan.now (rows_of c.args.logs.now) c.in-Some.agent c.loop-agent.cores c.loop-agent.logs c.loop-agent.clients c.loop-agent.moved so
    c.agents-agents.result.now c.agents-agents.ensures.agents inside c.index-agents-agent.result c.index-agents-agent.is
    c.index-logs-agent.result c.index-clients-agent.result

pub step-requires-clause-client : goal.step-requires-clause-client
step-requires-clause-client g c =
    let so = Sweeping-skip (c.args.all ≡ true) c.args.plan.now (rows_of c.args.logs.now) c.loop-agent.place c.in-Some.agent c.loop-agent.cores
    (rows_of c.loop-agent.logs) c.loop-agent.clients c.loop-agent.moved c.loop-agent.invariant c.in-Some.ensures.each in
    let inside : c.in-Some.agent < length c.agents-agents.result.now = let below = c.in-Some.ensures.some.1 in omega (arith, below) in
    turn-client (c.args.all ≡ true) c.args.plan.now (rows_of c.args.logs.now) c.in-Some.agent c.loop-agent.cores c.loop-agent.logs c.loop-agent.clients c.loop-agent.moved so
    c.agents-agents.result.now c.agents-agents.ensures.agents inside c.index-agents-agent.result c.index-agents-agent.is
    c.index-logs-agent.result c.index-clients-agent.result

pub returns-in_err-step-clause-goes : goal.returns-in_err-step-clause-goes
returns-in_err-step-clause-goes g c =
    let so = Sweeping-skip (c.args.all ≡ true) c.args.plan.now (rows_of c.args.logs.now) c.loop-agent.place c.in-Some.agent c.loop-agent.cores
    (rows_of c.loop-agent.logs) c.loop-agent.clients c.loop-agent.moved c.loop-agent.invariant c.in-Some.ensures.each in
    let inside : c.in-Some.agent < length c.agents-agents.result.now = let below = c.in-Some.ensures.some.1 in omega (arith, below) in
    turned-goes (c.args.all ≡ true) c.args.plan.now (rows_of c.args.logs.now) c.in-Some.agent c.loop-agent.cores c.loop-agent.logs c.loop-agent.clients c.loop-agent.moved so
    c.agents-agents.result.now c.agents-agents.ensures.agents inside c.index-agents-agent.result c.index-agents-agent.is
    c.index-logs-agent.result c.index-clients-agent.result c.step.new.cores c.step.new.log c.step.new.client c.step.ensures.touches c.step.ensures.goes c.step.ensures.client

pub returns-in_err-step-clause-clients : goal.returns-in_err-step-clause-clients
returns-in_err-step-clause-clients g c =
    let so = Sweeping-skip (c.args.all ≡ true) c.args.plan.now (rows_of c.args.logs.now) c.loop-agent.place c.in-Some.agent c.loop-agent.cores
    (rows_of c.loop-agent.logs) c.loop-agent.clients c.loop-agent.moved c.loop-agent.invariant c.in-Some.ensures.each in
    let inside : c.in-Some.agent < length c.agents-agents.result.now = let below = c.in-Some.ensures.some.1 in omega (arith, below) in
    turned-clients (c.args.all ≡ true) c.args.plan.now (rows_of c.args.logs.now) c.in-Some.agent c.loop-agent.cores c.loop-agent.logs c.loop-agent.clients c.loop-agent.moved so
    c.agents-agents.result.now c.agents-agents.ensures.agents inside c.index-agents-agent.result c.index-agents-agent.is
    c.index-logs-agent.result c.index-clients-agent.result c.step.new.cores c.step.new.log c.step.new.client c.step.ensures.touches c.step.ensures.goes c.step.ensures.client

pub loop-agent-preserved : goal.loop-agent-preserved
loop-agent-preserved g c =
    let so = Sweeping-skip (c.args.all ≡ true) c.args.plan.now (rows_of c.args.logs.now) c.loop-agent.place c.in-Some.agent c.loop-agent.cores
    (rows_of c.loop-agent.logs) c.loop-agent.clients c.loop-agent.moved c.loop-agent.invariant c.in-Some.ensures.each in
    let inside : c.in-Some.agent < length c.agents-agents.result.now = let below = c.in-Some.ensures.some.1 in omega (arith, below) in
    let logs = rows_of (set c.loop-agent.logs c.in-Some.agent c.step.new.log) in
    let clients = set c.loop-agent.clients c.in-Some.agent c.step.new.client in
    let agent = (get_or c.loop-agent.clients c.in-Some.agent c.index-clients-agent.result).agent in
    let log = (get_or c.loop-agent.logs c.in-Some.agent c.index-logs-agent.result).items in
    let Swept : Bool → Type 0 =
    λ moved. Sweeping (c.args.all ≡ true) c.args.plan.now (rows_of c.args.logs.now) (c.in-Some.agent + 1) c.step.new.cores logs clients moved in
    let Moved : Bool → Type 0 =
    λ moved. Moves c.args.plan.now agent c.index-agents-agent.result c.loop-agent.cores c.step.new.cores log c.step.new.log.items moved in
    elim c.if-branch.branch [
      | then-branch w ↦
          subst Swept (sym w.moved-is)
          (turned-moved (c.args.all ≡ true) c.args.plan.now (rows_of c.args.logs.now) c.in-Some.agent c.loop-agent.cores c.loop-agent.logs c.loop-agent.clients c.loop-agent.moved so
          c.agents-agents.result.now c.agents-agents.ensures.agents inside c.index-agents-agent.result c.index-agents-agent.is
          c.index-logs-agent.result c.index-clients-agent.result c.step.new.cores c.step.new.log c.step.new.client c.step.ensures.touches c.step.ensures.goes c.step.ensures.client
          (subst Moved w.if-branch.true c.in_ok-step.ensures.moves))
      | else-branch w ↦
          subst Swept (sym w.moved-is)
          (turned-still (c.args.all ≡ true) c.args.plan.now (rows_of c.args.logs.now) c.in-Some.agent c.loop-agent.cores c.loop-agent.logs c.loop-agent.clients c.loop-agent.moved so
          c.agents-agents.result.now c.agents-agents.ensures.agents inside c.index-agents-agent.result c.index-agents-agent.is
          c.index-logs-agent.result c.index-clients-agent.result c.step.new.cores c.step.new.log c.step.new.client c.step.ensures.touches c.step.ensures.goes c.step.ensures.client
          (subst Moved w.if-branch.false c.in_ok-step.ensures.moves))
    ]

pub returns-clause-good : goal.returns-clause-good
returns-clause-good g c all still =
    let many = ap length c.agents-agents.ensures.agents in
    let last = c.in_default.ensures.none all in
    IsGood-still (c.args.all ≡ true) c.args.plan.now (rows_of c.args.logs.now) (rows_of c.loop-agent.logs) c.loop-agent.cores c.loop-agent.clients c.loop-agent.place c.loop-agent.moved
    (omega (arith, many, last)) c.loop-agent.invariant all still

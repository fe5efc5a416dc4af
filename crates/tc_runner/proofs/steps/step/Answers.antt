use Rattle.std.proofs.Common.{◌≡◌, ◌<◌, ◌≤◌, ◌∙◌, false, List, refl, sym, subst, length, get_or}
use Rattle.tc_model.specs.Calls.{call_of}
use Rattle.tc_desk.specs.Asks.{steps_of}
use Rattle.tc_desk.specs.Logs.{any_pending}
use Rattle.tc_desk.specs.declared.rows.LogRow.{LogRow}
use Rattle.tc_lists.proofs.Options.{IfNone-at}
use Rattle.tc_model.specs.Replies.{reply_in}
use Rattle.tc_model.specs.Scripts.{Lines}
use Rattle.tc_runner.specs.Clients.{WaitsAt, left_of}
use Rattle.tc_runner.specs.Cores.{histories}
use Rattle.tc_runner.specs.Steps.{GoesOn, Looks}
use Rattle.tc_runner.proofs.Follow.{Follows-within, IsEnded-complete}
use Rattle.tc_runner.proofs.Left.{left-asked}
use Rattle.tc_runner.proofs.Looking.{read-called, read-goes, read-none, read-settled, read-taken, waiting-core}
use Rattle.tc_runner.proofs.steps.step.Goals as goal

pub bounds-cores-place : goal.bounds-cores-place
bounds-cores-place g c =
    let w = subst (WaitsAt c.args.a.now.scripts c.args.log.now.items) c.in-Some.is c.requires.client.waits in
    waiting-core c.args.plan.now c.args.client.now.agent c.args.a.now c.args.cores.now c.args.log.now.items c.requires.goes c.in-Some.place w

pub look-requires-clause-called : goal.look-requires-clause-called
look-requires-clause-called g c =
    let w = subst (WaitsAt c.args.a.now.scripts c.args.log.now.items) c.in-Some.is c.requires.client.waits in
    read-called c.args.plan.now c.args.client.now.agent c.args.a.now c.args.cores.now c.args.log.now.items c.requires.goes c.in-Some.place w
    c.index-cores-place.result c.len-number.result (c.len-number.ensures ∙ c.args.log.now.ok.0)

pub returns-then-not-branch-clause-goes : goal.returns-then-not-branch-clause-goes
returns-then-not-branch-clause-goes g c =
    let w = subst (WaitsAt c.args.a.now.scripts c.args.log.now.items) c.in-Some.is c.requires.client.waits in
    let told = reply_in (get_or c.args.cores.now c.in-Some.place c.index-cores-place.result).history (call_of c.args.client.now.agent c.len-number.result) in
    let looks = subst (Looks told c.args.log.now.items c.look.new.log.items) c.if-not-branch.true c.in_ok-look.ensures.looks in
    let none = read-none c.args.plan.now c.args.client.now.agent c.args.a.now c.args.cores.now c.args.log.now.items c.requires.goes c.in-Some.place w
    c.index-cores-place.result c.len-number.result (c.len-number.ensures ∙ c.args.log.now.ok.0) c.look.new.log.items looks in
    subst (GoesOn c.args.plan.now c.args.client.now.agent c.args.a.now c.args.cores.now) (sym none.0) c.requires.goes

pub returns-then-not-branch-clause-moves : goal.returns-then-not-branch-clause-moves
returns-then-not-branch-clause-moves g c =
    let w = subst (WaitsAt c.args.a.now.scripts c.args.log.now.items) c.in-Some.is c.requires.client.waits in
    let told = reply_in (get_or c.args.cores.now c.in-Some.place c.index-cores-place.result).history (call_of c.args.client.now.agent c.len-number.result) in
    let looks = subst (Looks told c.args.log.now.items c.look.new.log.items) c.if-not-branch.true c.in_ok-look.ensures.looks in
    let none = read-none c.args.plan.now c.args.client.now.agent c.args.a.now c.args.cores.now c.args.log.now.items c.requires.goes c.in-Some.place w
    c.index-cores-place.result c.len-number.result (c.len-number.ensures ∙ c.args.log.now.ok.0) c.look.new.log.items looks in
    (refl, none.0, none.1)

pub returns-in-Some-clause-goes : goal.returns-in-Some-clause-goes
returns-in-Some-clause-goes g c =
    let w = subst (WaitsAt c.args.a.now.scripts c.args.log.now.items) c.in-Some.is c.requires.client.waits in
    let told = reply_in (get_or c.args.cores.now c.in-Some.place c.index-cores-place.result).history (call_of c.args.client.now.agent c.len-number.result) in
    let looks = subst (Looks told c.args.log.now.items c.look.new.log.items) c.if-not-branch.false c.in_ok-look.ensures.looks in
    read-goes c.args.plan.now c.args.client.now.agent c.args.a.now c.args.cores.now c.args.log.now.items c.requires.goes c.in-Some.place w
    c.index-cores-place.result c.len-number.result (c.len-number.ensures ∙ c.args.log.now.ok.0) c.look.new.log.items looks

pub returns-in-Some-clause-client : goal.returns-in-Some-clause-client
returns-in-Some-clause-client g c =
    let w = subst (WaitsAt c.args.a.now.scripts c.args.log.now.items) c.in-Some.is c.requires.client.waits in
    let told = reply_in (get_or c.args.cores.now c.in-Some.place c.index-cores-place.result).history (call_of c.args.client.now.agent c.len-number.result) in
    let looks = subst (Looks told c.args.log.now.items c.look.new.log.items) c.if-not-branch.false c.in_ok-look.ensures.looks in
    record {
      agent_is = refl;
      taken = read-taken c.args.plan.now c.args.client.now.agent c.args.a.now c.args.cores.now c.args.log.now.items c.requires.goes c.in-Some.place w
          c.index-cores-place.result c.len-number.result (c.len-number.ensures ∙ c.args.log.now.ok.0) c.look.new.log.items looks
          c.args.client.now.asker c.asker_stays_fit.ensures.longer c.asker_stays_fit.ensures.settled c.requires.client.taken;
      waits = read-settled c.args.plan.now c.args.client.now.agent c.args.a.now c.args.cores.now c.args.log.now.items c.requires.goes c.in-Some.place w
          c.index-cores-place.result c.len-number.result (c.len-number.ensures ∙ c.args.log.now.ok.0) c.look.new.log.items looks;
    }

pub returns-in_default-2-clause-moves : goal.returns-in_default-2-clause-moves
returns-in_default-2-clause-moves g c =
    let settled : any_pending c.args.log.now.items ≡ false =
    subst (WaitsAt c.args.a.now.scripts c.args.log.now.items) c.in_default.is c.requires.client.waits in
    let all : length (steps_of c.items.result.now) ≤ length c.deref.result.now =
    IfNone-at (length (steps_of c.items.result.now) ≤ length c.deref.result.now) c.in_ok-next.field-0 c.in_default-2.is c.in_ok-next.ensures.none in (
      refl,
      refl,
      IsEnded-complete c.args.plan.now c.args.client.now.agent c.args.a.now (histories c.args.plan.now c.args.cores.now) c.args.log.now.items
          c.requires.goes.follows settled
          (subst (λ (ss : List Lines). length (steps_of ss) ≤ length c.args.log.now.items) c.items.ensures
          (subst (λ (l : List LogRow). length (steps_of c.items.result.now) ≤ length l) c.deref.ensures.value all)),
    )

pub returns-clause-moves : goal.returns-clause-moves
returns-clause-moves g c =
    let asked = c.in_ok-client.ensures.asked in
    let goes = c.in_ok-client.ensures.goes in
    let within = Follows-within c.args.plan.now c.args.client.now.agent c.args.a.now (histories c.args.plan.now c.ask.new.cores) c.ask.new.log.items goes.follows in
    let settled : any_pending c.args.log.now.items ≡ false =
    subst (WaitsAt c.args.a.now.scripts c.args.log.now.items) c.in_default.is c.requires.client.waits in
    subst (λ l. left_of c.args.a.now l < left_of c.args.a.now c.args.log.now.items) (sym asked.pushed)
    (left-asked c.args.a.now c.args.log.now.items asked.row settled (subst (λ (l : List LogRow). length l ≤ length (steps_of c.args.a.now.scripts)) asked.pushed within))

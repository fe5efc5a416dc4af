use Rattle.std.proofs.Common.{◌≡◌, AllPairs, false, sym, subst}
use Rattle.tc_model.specs.Calls.{same_id}
use Rattle.tc_model.specs.State.{State}
use Rattle.tc_model.proofs.WaitingCalls.{waiting-run}
use Rattle.tc_audit.specs.Beginnings.{origin_in}
use Rattle.tc_audit.specs.Reached.{IsSound, state_of}
use Rattle.tc_audit.proofs.Following.{exact-called, exact-gave, exact-looked, ok-if}
use Rattle.tc_audit.proofs.Resting.{sound-rested}
use Rattle.tc_audit.proofs.history.is_legal.Goals as goal

pub rest-requires-clause-quiet : goal.rest-requires-clause-quiet
rest-requires-clause-quiet c = (c.is_heard.ensures.0 c.if-not-is_heard.false).0

pub rest-requires-in-Looked-clause-quiet : goal.rest-requires-in-Looked-clause-quiet
rest-requires-in-Looked-clause-quiet c = (c.is_heard-in-Looked.ensures.0 c.if-not-is_heard-2.false).0

pub give-requires-clause-once : goal.give-requires-clause-once
give-requires-clause-once c =
    subst (λ (s : State). AllPairs (λ q r. same_id q.id r.id ≡ false) s.pending) (sym c.requires.state)
    (waiting-run (origin_in c.args.beginning.now) c.args.history.now c.requires.run).once

pub returns-in_ok-rest-in-Called-clause-exact : goal.returns-in_ok-rest-in-Called-clause-exact
returns-in_ok-rest-in-Called-clause-exact c =
    exact-called (origin_in c.args.beginning.now) c.args.history.now (state_of c.args.reached.now) c.args.entry.now c.in-Called.id
    c.in-Called.op c.in-Called.outcome c.in-Called.items c.items.result.now (state_of c.rest.new.reached) c.in-Called.is
    c.in_ok-rest-in-Called.ensures.state c.items.ensures (c.is_heard.ensures.0 c.if-not-is_heard.false) c.serve.result
    c.serve.ensures.exact

pub returns-in-Gave-clause-exact : goal.returns-in-Gave-clause-exact
returns-in-Gave-clause-exact c =
    exact-gave (origin_in c.args.beginning.now) c.args.history.now (state_of c.args.reached.now) c.args.entry.now c.in-Gave.id
    c.in-Gave.outcome c.in-Gave.items c.items-in-Gave.result.now c.in-Gave.is c.items-in-Gave.ensures c.give.result
    c.give.ensures.exact

pub returns-in_ok-rest-in-Looked-clause-exact : goal.returns-in_ok-rest-in-Looked-clause-exact
returns-in_ok-rest-in-Looked-clause-exact c =
    exact-looked (origin_in c.args.beginning.now) c.args.history.now (state_of c.args.reached.now) c.args.entry.now c.in-Looked.id
    c.in-Looked.asked c.in-Looked.reply c.in-Looked.is (c.is_heard-in-Looked.ensures.0 c.if-not-is_heard-2.false) c.is_told.result
    c.is_told.ensures

pub returns-in_ok-rest-in-Looked-clause-sound : goal.returns-in_ok-rest-in-Looked-clause-sound
returns-in_ok-rest-in-Looked-clause-sound c =
    ok-if (IsSound c.rest-in-Looked.new.reached)
    (sound-rested c.rest-in-Looked.new.reached c.in_ok-rest-in-Looked.ensures.rested) c.is_told.result

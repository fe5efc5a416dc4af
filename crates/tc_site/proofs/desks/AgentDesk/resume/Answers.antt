use Rattle.tc_site.specs.Desks.{AgentState}
use Rattle.tc_site.specs.Pausing.{HoldsTurn}
use Rattle.tc_site.proofs.Pausing.{holds-here, resumed-desk, resumed-state, resumes}
use Rattle.tc_site.proofs.desks.AgentDesk.resume.Goals as goal

pub invariant_of-self : goal.invariant_of-self
invariant_of-self g c =
    let d : AgentState _ = record { site = c.self.inside.site.now; agent = c.self.inside.agent; passes = c.self.inside.passes.items; log = c.self.inside.log.items; pending = c.self.inside.pending; held = c.self.inside.held } in
    let place = c.in-Some.place in
    let holds : HoldsTurn d place c.args.paused = holds-here d c.args.self.now place c.args.paused c.self.view_is c.in-Some.is c.requires.held in
    resumed-desk d c.self.invariant place c.args.paused holds c.index_mut-pass.result.now c.resume.new.pass c.index_mut-pass.ensures.value c.resume.ensures.after

pub returns-clause-resumed : goal.returns-clause-resumed
returns-clause-resumed g c =
    let d : AgentState _ = record { site = c.self.inside.site.now; agent = c.self.inside.agent; passes = c.self.inside.passes.items; log = c.self.inside.log.items; pending = c.self.inside.pending; held = c.self.inside.held } in
    let place = c.in-Some.place in
    let holds : HoldsTurn d place c.args.paused = holds-here d c.args.self.now place c.args.paused c.self.view_is c.in-Some.is c.requires.held in
    resumes d c.self.invariant place c.args.paused holds c.index_mut-pass.result.now c.resume.new.pass c.index_mut-pass.ensures.value c.resume.ensures.after c.args.self.now c.self.view_is

pub returns-clause-state : goal.returns-clause-state
returns-clause-state g c =
    let d : AgentState _ = record { site = c.self.inside.site.now; agent = c.self.inside.agent; passes = c.self.inside.passes.items; log = c.self.inside.log.items; pending = c.self.inside.pending; held = c.self.inside.held } in
    let place = c.in-Some.place in
    let holds : HoldsTurn d place c.args.paused = holds-here d c.args.self.now place c.args.paused c.self.view_is c.in-Some.is c.requires.held in
    resumed-state d c.self.invariant place c.args.paused holds c.index_mut-pass.result.now c.resume.new.pass c.index_mut-pass.ensures.value c.resume.ensures.after c.args.self.now c.self.view_is

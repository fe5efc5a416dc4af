use Rattle.std.proofs.Common.{◌<◌, ◌∙◌, ap, length, subst, sym}
use Rattle.tc_lists.proofs.Results.{OnErr-always}
use Rattle.tc_site.specs.Desks.{AgentState, desk_of}
use Rattle.tc_site.proofs.Pausing.{may-pause, pause-desk, pauses, spent-still}
use Rattle.tc_site.proofs.desks.AgentDesk.pause.Goals as goal

pub pause-requires-clause-own : goal.pause-requires-clause-own
pause-requires-clause-own g c =
    let d : AgentState _ = record { site = c.self.inside.site.now; agent = c.self.inside.agent; passes = c.self.inside.passes.items; log = c.self.inside.log.items; pending = c.self.inside.pending; held = c.self.inside.held } in
    let free = ap (λ (x : AgentState _). (desk_of x).free) c.self.view_is ∙ c.requires.free in
    let inside : c.args.centre < length d.site.names = subst (λ (x : AgentState _). c.args.centre < length x.site.names) (sym c.self.view_is) c.requires.inside in
    let may =
    may-pause d c.self.invariant c.args.centre c.centre.result.now c.index_mut-pass.result.now inside
    c.centre.ensures c.index_mut-pass.ensures.value free in
    may.own

pub pause-requires-clause-free : goal.pause-requires-clause-free
pause-requires-clause-free g c =
    let d : AgentState _ = record { site = c.self.inside.site.now; agent = c.self.inside.agent; passes = c.self.inside.passes.items; log = c.self.inside.log.items; pending = c.self.inside.pending; held = c.self.inside.held } in
    let free = ap (λ (x : AgentState _). (desk_of x).free) c.self.view_is ∙ c.requires.free in
    let inside : c.args.centre < length d.site.names = subst (λ (x : AgentState _). c.args.centre < length x.site.names) (sym c.self.view_is) c.requires.inside in
    let may =
    may-pause d c.self.invariant c.args.centre c.centre.result.now c.index_mut-pass.result.now inside
    c.centre.ensures c.index_mut-pass.ensures.value free in
    may.idle

pub invariant_of-self-2 : goal.invariant_of-self-2
invariant_of-self-2 g c =
    let d : AgentState _ = record { site = c.self.inside.site.now; agent = c.self.inside.agent; passes = c.self.inside.passes.items; log = c.self.inside.log.items; pending = c.self.inside.pending; held = c.self.inside.held } in
    let free = ap (λ (x : AgentState _). (desk_of x).free) c.self.view_is ∙ c.requires.free in
    let inside : c.args.centre < length d.site.names = subst (λ (x : AgentState _). c.args.centre < length x.site.names) (sym c.self.view_is) c.requires.inside in
    let may =
    may-pause d c.self.invariant c.args.centre c.centre.result.now c.index_mut-pass.result.now inside
    c.centre.ensures c.index_mut-pass.ensures.value free in
    pause-desk d c.self.invariant free c.args.centre may.centre may.named c.centre.result.now c.index_mut-pass.result.now
    c.centre.ensures may.at_pass c.in_ok-paused.paused c.pause.new.pass c.in_ok-paused.ensures.paused

pub returns-clause-paused : goal.returns-clause-paused
returns-clause-paused g c =
    let d : AgentState _ = record { site = c.self.inside.site.now; agent = c.self.inside.agent; passes = c.self.inside.passes.items; log = c.self.inside.log.items; pending = c.self.inside.pending; held = c.self.inside.held } in
    let free = ap (λ (x : AgentState _). (desk_of x).free) c.self.view_is ∙ c.requires.free in
    let inside : c.args.centre < length d.site.names = subst (λ (x : AgentState _). c.args.centre < length x.site.names) (sym c.self.view_is) c.requires.inside in
    let may =
    may-pause d c.self.invariant c.args.centre c.centre.result.now c.index_mut-pass.result.now inside
    c.centre.ensures c.index_mut-pass.ensures.value free in
    pauses d c.self.invariant free c.args.centre may.centre may.named c.centre.result.now c.index_mut-pass.result.now
    c.centre.ensures may.at_pass c.in_ok-paused.paused c.pause.new.pass c.in_ok-paused.ensures.paused c.args.self.now c.self.view_is

pub returns-in_err-paused-clause-spent : goal.returns-in_err-paused-clause-spent
returns-in_err-paused-clause-spent g c =
    let d : AgentState _ = record { site = c.self.inside.site.now; agent = c.self.inside.agent; passes = c.self.inside.passes.items; log = c.self.inside.log.items; pending = c.self.inside.pending; held = c.self.inside.held } in
    let free = ap (λ (x : AgentState _). (desk_of x).free) c.self.view_is ∙ c.requires.free in
    let inside : c.args.centre < length d.site.names = subst (λ (x : AgentState _). c.args.centre < length x.site.names) (sym c.self.view_is) c.requires.inside in
    let may =
    may-pause d c.self.invariant c.args.centre c.centre.result.now c.index_mut-pass.result.now inside
    c.centre.ensures c.index_mut-pass.ensures.value free in
    OnErr-always c.from_residual.result _
    (spent-still d c.args.centre c.index_mut-pass.result.now c.pause.new.pass may.at_pass c.in_err-paused.ensures.spent c.args.self.now
    c.self.view_is)

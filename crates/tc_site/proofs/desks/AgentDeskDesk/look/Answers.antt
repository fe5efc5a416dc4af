use Rattle.std.proofs.Common.{ap₂}
use Rattle.tc_site.proofs.Becoming.{looked-becomes, looked-desk}
use Rattle.tc_site.proofs.Seeing.{has-pass}
use Rattle.tc_site.proofs.desks.AgentDeskDesk.look.Goals as goal

pub look_for-seen-requires : goal.look_for-seen-requires
look_for-seen-requires g c =
    let has =
    has-pass c.self.invariant c.self.view_is c.requires.free c.in_ok-at.ensures.ok_part c.centre-centre.ensures
    c.index_mut-pass.ensures.value in
    record { may = has.may }

pub invariant_of-self : goal.invariant_of-self
invariant_of-self g c =
    let has =
    has-pass c.self.invariant c.self.view_is c.requires.free c.in_ok-at.ensures.ok_part c.centre-centre.ensures
    c.index_mut-pass.ensures.value in
    looked-desk c.self.invariant has c.look_for-seen.ensures.kept c.look_for-seen.new.log.items c.look_for-seen.result
    c.still-self-inside.ensures c.look_for-seen.ensures.looked

pub returns : goal.returns
returns g c =
    let has =
    has-pass c.self.invariant c.self.view_is c.requires.free c.in_ok-at.ensures.ok_part c.centre-centre.ensures
    c.index_mut-pass.ensures.value in
    let becomes =
    looked-becomes c.self.invariant has c.look_for-seen.ensures.kept c.look_for-seen.new.log.items c.look_for-seen.result
    c.still-self-inside.ensures c.look_for-seen.ensures.looked g.W.Warden.permits c.self.view_is c.in_ok-at.ensures.ok_part in
    record {
      bond = ap₂ (λ site agent. (site, agent)) becomes.site becomes.agent;
      kept = becomes.kept;
      turns = becomes.turns;
      sound = becomes.sound;
      became = becomes.came;
    }

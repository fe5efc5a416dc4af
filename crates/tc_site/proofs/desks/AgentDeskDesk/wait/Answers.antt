use Rattle.std.proofs.Common.{ap₂, subst, sym}
use Rattle.tc_desk.specs.Desks.{HasNoTurnLeft}
use Rattle.tc_site.specs.Desks.{AgentState, desk_of}
use Rattle.tc_site.proofs.Becoming.{waited-becomes, waited-desk}
use Rattle.tc_site.proofs.Seeing.{has-pass, pass-spent}
use Rattle.tc_site.proofs.desks.AgentDeskDesk.wait.Goals as goal

pub wait_for-waited-requires : goal.wait_for-waited-requires
wait_for-waited-requires g c =
    let has =
    has-pass c.self.invariant c.self.view_is c.requires.free c.in_ok-at.ensures.ok_part c.centre-centre.ensures
    c.index_mut-pass.ensures.value in
    record { may = has.may }

pub invariant_of-self : goal.invariant_of-self
invariant_of-self g c =
    let has =
    has-pass c.self.invariant c.self.view_is c.requires.free c.in_ok-at.ensures.ok_part c.centre-centre.ensures
    c.index_mut-pass.ensures.value in
    waited-desk c.self.invariant has c.wait_for-waited.ensures.kept c.wait_for-waited.new.log.items c.wait_for-waited.result
    c.left-self-inside.ensures c.wait_for-waited.ensures.turns c.wait_for-waited.ensures.waited

pub returns : goal.returns
returns g c =
    let has =
    has-pass c.self.invariant c.self.view_is c.requires.free c.in_ok-at.ensures.ok_part c.centre-centre.ensures
    c.index_mut-pass.ensures.value in
    let becomes =
    waited-becomes c.self.invariant has c.wait_for-waited.ensures.kept c.wait_for-waited.new.log.items
    c.wait_for-waited.result c.left-self-inside.ensures c.wait_for-waited.ensures.turns c.wait_for-waited.ensures.waited
    g.W.Warden.permits c.self.view_is c.in_ok-at.ensures.ok_part in
    record {
      bond = ap₂ (λ site agent. (site, agent)) becomes.site becomes.agent;
      kept = becomes.kept;
      turns = becomes.turns;
      spent = λ none.
          c.wait_for-waited.ensures.spent
          (pass-spent _ c.self.invariant _ has.waiting _ has.at_pass (subst (λ (x : AgentState g.row.W.Denot). HasNoTurnLeft (desk_of x)) (sym c.self.view_is) none));
      sound = becomes.sound;
      became = becomes.came;
    }

use Rattle.std.proofs.Common.{ap₂}
use Rattle.tc_site.proofs.Becoming.{polled-becomes, polled-desk_now}
use Rattle.tc_site.proofs.Polled.{polled-next}
use Rattle.tc_site.proofs.Seeing.{has-pass}
use Rattle.tc_site.proofs.There.{poll-there}
use Rattle.tc_site.proofs.desks.AgentDeskDesk.poll.Goals as goal

pub poll_for-polled-requires : goal.poll_for-polled-requires
poll_for-polled-requires g c =
    let has =
    has-pass c.self.invariant c.self.view_is c.requires.free c.in_ok-at.ensures.ok_part c.centre-centre.ensures
    c.index_mut-pass.ensures.value in
    record {
      may = has.may;
      next = polled-next _ c.self.invariant has.free _ has.waiting _ _ has.at_centre has.at_pass;
    }

pub invariant_of-self : goal.invariant_of-self
invariant_of-self g c =
    let has =
    has-pass c.self.invariant c.self.view_is c.requires.free c.in_ok-at.ensures.ok_part c.centre-centre.ensures
    c.index_mut-pass.ensures.value in
    polled-desk_now c.self.invariant has c.poll_for-polled.ensures.kept c.poll_for-polled.new.log.items
    c.poll_for-polled.result c.still-self-inside.ensures (c.poll_for-polled.ensures.polled has.waiting.row_is has.at_row)

pub returns : goal.returns
returns g c =
    let has =
    has-pass c.self.invariant c.self.view_is c.requires.free c.in_ok-at.ensures.ok_part c.centre-centre.ensures
    c.index_mut-pass.ensures.value in
    let becomes =
    polled-becomes c.self.invariant has c.poll_for-polled.ensures.kept c.poll_for-polled.new.log.items
    c.poll_for-polled.result c.still-self-inside.ensures (c.poll_for-polled.ensures.polled has.waiting.row_is has.at_row)
    g.W.Warden.permits c.self.view_is c.in_ok-at.ensures.ok_part in
    record {
      bond = ap₂ (λ site agent. (site, agent)) becomes.site becomes.agent;
      kept = becomes.kept;
      turns = becomes.turns;
      sound = becomes.sound;
      became = becomes.came;
      there = poll-there has c.in_ok-at.ensures.ok_part c.poll_for-polled.new.pass c.poll_for-polled.new.log.items
          c.still-self-inside.result c.poll_for-polled.result c.args.self.now c.self.view_is
          (c.poll_for-polled.ensures.polled has.waiting.row_is has.at_row);
    }

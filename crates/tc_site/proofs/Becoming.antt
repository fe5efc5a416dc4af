-- What a look, a wait and a poll for the reply to the pending row make of a desk: all that is promised of each.
use Rattle.std.proofs.Common.{◌≡◌, ℕ, List, Option, Some, MatchResult, Result, set, refl, sym, subst}
use Rattle.tc_desk.specs.Desks.{DeskState, Gets, Keeps, Leaves, Looks, Polls, Spends, Stays, Waits}
use Rattle.tc_desk.specs.declared.desks.DeskFault.{DeskFault}
use Rattle.tc_desk.specs.declared.desks.Seen.{Seen}
use Rattle.tc_desk.specs.declared.rows.LogRow.{LogRow}
use Rattle.tc_model.specs.State.{Origin}
use Rattle.tc_model.specs.declared.asks.Primitive.{Primitive}
use Rattle.tc_model.specs.declared.entries.Entry.{Entry}
use Rattle.tc_shared.specs.Passes as passes
use Rattle.tc_turn.specs.Passes.{TurnstileState, PassState}
use Rattle.tc_site.specs.Desks.{AgentState, IsDesk, IsDecidedLog, desk_of}
use Rattle.tc_site.specs.Looking.{IsLook, IsWait, left_of, still_of}
use Rattle.tc_site.specs.Polling.{IsPolled}
use Rattle.tc_site.specs.declared.waiting.WaitingAt.{WaitingAt}
use Rattle.tc_site.proofs.Polled.{polled-became, polled-desk, polled-keeps, polled-sound, polled-spends}
use Rattle.tc_site.proofs.Seeing.{HasPass, look-became, look-desk, look-keeps, look-sound, look-spends}
use Rattle.tc_site.proofs.Seeing.{wait-became, wait-desk, wait-keeps, wait-sound, wait-turns}

-- the desk d became e, which is the same agent's: so many turns were taken, and this came of it
pub record Becomes {W : Type 0} (permits : W → ℕ → ℕ → Primitive → Option ℕ) (Turns Came : DeskState → DeskState → Type 0)
    (d e : AgentState W) : Type 0 where
  pub site : e.site ≡ d.site
  pub agent : e.agent ≡ d.agent
  pub kept : Keeps (desk_of d) (desk_of e)
  pub turns : Turns (desk_of d) (desk_of e)
  pub sound : IsDecidedLog permits d.site d.agent d.log → IsDecidedLog permits e.site e.agent e.log
  pub came : Came (desk_of d) (desk_of e)

-- what comes of a look, of a wait and of a poll that ended so
abbrev pub LookCame : Result Seen DeskFault → DeskState → DeskState → Type 0
LookCame r d e = MatchResult r (λ seen. Looks d seen e) (λ why. Stays d why e)

abbrev pub WaitCame : {A : Type 0} → Result A DeskFault → DeskState → DeskState → Type 0
WaitCame r d e = MatchResult r (λ _. Gets d e) (λ why. Leaves d why e)

abbrev pub PollCame : Result Seen DeskFault → DeskState → DeskState → Type 0
PollCame r d e = Polls d r e

-- the desk with another pass of this centre, another log, and its pending row there
abbrev pub after : {W : Type 0} → AgentState W → ℕ → PassState Entry Origin → List LogRow → Option WaitingAt → AgentState W
after d place q log pending = record {
  site = d.site;
  agent = d.agent;
  passes = set d.passes place q;
  log = log;
  pending = pending;
  held = d.held;
}

-- the same of an equal desk, and of one with an equal pending row
becomes-equal : {W : Type 0} (permits : W → ℕ → ℕ → Primitive → Option ℕ) (Turns Came : DeskState → DeskState → Type 0) {d s : AgentState W}
    (place : ℕ) (q : PassState Entry Origin) (log : List LogRow) {now later : Option WaitingAt} → d ≡ s → now ≡ later
    → Becomes permits Turns Came d (after d place q log later) → Becomes permits Turns Came s (after d place q log now)
becomes-equal permits Turns Came {d = d} place q log {now = now} same still becomes =
    subst (λ x. Becomes permits Turns Came x (after d place q log now)) same
    (subst (λ o. Becomes permits Turns Came d (after d place q log o)) (sym still) becomes)

module _ {W : Type 0} {d : AgentState W} (is : IsDesk d) {w : WaitingAt}
    {t : TurnstileState Origin} {p q : PassState Entry Origin} (has : HasPass d w t p) (kept : passes.KeepsPass t p q) (log : List LogRow)
    {pending : Option WaitingAt} where
  -- after a look
  module _ (r : Result Seen DeskFault) (still : pending ≡ still_of w r) (look : IsLook t w.row p d.log r q log) where
    pub looked-desk : IsDesk (after d w.centre q log pending)
    looked-desk =
        subst (λ o. IsDesk (after d w.centre q log o)) (sym still)
        (look-desk d is w has.waiting t p q has.at_centre has.at_pass kept has.may.free log r look)

    pub looked-becomes : (permits : W → ℕ → ℕ → Primitive → Option ℕ) {s : AgentState W} → d ≡ s → d.pending ≡ Some w
        → Becomes permits (Spends 1) (LookCame r) s (after d w.centre q log pending)
    looked-becomes permits same at =
        becomes-equal permits (Spends 1) (LookCame r) w.centre q log same still (record {
          site = refl;
          agent = refl;
          kept = look-keeps d is w has.waiting t p q has.at_centre has.at_pass kept has.may.free log r has.free look;
          turns = look-spends d is w has.waiting t p q has.at_centre has.at_pass kept has.may.free log r look;
          sound = look-sound d is w has.waiting t p q has.at_centre has.at_pass kept has.may.free permits log r look;
          came = look-became d is w has.waiting t p q has.at_centre has.at_pass kept has.may.free log r at look;
        })

  -- after a wait
  module _ {A : Type 0} (r : Result A DeskFault) (left : pending ≡ left_of w r) (waits : passes.WaitsInTurns t p q) (wait : IsWait w.row p d.log r q log) where
    pub waited-desk : IsDesk (after d w.centre q log pending)
    waited-desk =
        subst (λ o. IsDesk (after d w.centre q log o)) (sym left)
        (wait-desk d is w has.waiting t p q has.at_centre has.at_pass kept has.may.free waits log r wait)

    pub waited-becomes : (permits : W → ℕ → ℕ → Primitive → Option ℕ) {s : AgentState W} → d ≡ s → d.pending ≡ Some w
        → Becomes permits Waits (WaitCame r) s (after d w.centre q log pending)
    waited-becomes permits same at =
        becomes-equal permits Waits (WaitCame r) w.centre q log same left (record {
          site = refl;
          agent = refl;
          kept = wait-keeps d is w has.waiting t p q has.at_centre has.at_pass kept has.may.free waits log r has.free wait (left_of w r);
          turns = wait-turns d is w has.waiting t p q has.at_centre has.at_pass kept has.may.free waits log (left_of w r);
          sound = wait-sound d is w has.waiting t p q has.at_centre has.at_pass kept has.may.free waits permits log r wait;
          came = wait-became d is w has.waiting t p q has.at_centre has.at_pass kept has.may.free waits log r at wait;
        })

  -- after a poll
  module _ (r : Result Seen DeskFault) (still : pending ≡ still_of w r) (poll : IsPolled t w.row p has.waiting.row_is.centre d.log r q log) where
    pub polled-desk_now : IsDesk (after d w.centre q log pending)
    polled-desk_now =
        subst (λ o. IsDesk (after d w.centre q log o)) (sym still)
        (polled-desk d is has.free w has.waiting t p has.at_centre has.at_pass q kept log r poll)

    pub polled-becomes : (permits : W → ℕ → ℕ → Primitive → Option ℕ) {s : AgentState W} → d ≡ s → d.pending ≡ Some w
        → Becomes permits (Spends 1) (PollCame r) s (after d w.centre q log pending)
    polled-becomes permits same at =
        becomes-equal permits (Spends 1) (PollCame r) w.centre q log same still (record {
          site = refl;
          agent = refl;
          kept = polled-keeps d is has.free w has.waiting t p has.at_centre has.at_pass q kept log r has.free poll;
          turns = polled-spends d is has.free w has.waiting t p has.at_centre has.at_pass q kept log r poll;
          sound = polled-sound d is has.free w has.waiting t p has.at_centre has.at_pass q kept permits log r poll;
          came = polled-became d is has.free w has.waiting t p has.at_centre has.at_pass q kept log r at poll;
        })

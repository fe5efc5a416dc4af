-- What the turn of a call or of a poll came to, at the centre that it went to.
use Rattle.std.proofs.Common.{◌≡◌, ℕ, ◌+◌, List, Bool, Option, Some, Ok, Err, Result, inl, inr, length, refl, sym, ap, ◌∙◌, subst}
use Rattle.std.specs.List.{slice_get}
use Rattle.std.proofs.lemmas.Option.{same_Some}
use Rattle.tc_lists.proofs.Pairs.{AllPairs-one_place}
use Rattle.tc_desk.specs.Desks.{with_row}
use Rattle.tc_desk.specs.Operands.{OpOf, Sound}
use Rattle.tc_desk.specs.declared.desks.DeskFault.{DeskFault}
use Rattle.tc_desk.specs.declared.desks.DeskFault.TheVariants as fault
use Rattle.tc_desk.specs.declared.desks.Seen.{Seen}
use Rattle.tc_desk.specs.declared.desks.Served.{Served}
use Rattle.tc_desk.specs.declared.rows.LogRow.{LogRow}
use Rattle.tc_desk.specs.declared.rows.LogResult.{LogResult}
use Rattle.tc_desk.specs.declared.rows.LogResult.TheVariants.{Replied, Pending, Refused, Polled}
use Rattle.tc_desk.specs.declared.rows.Refusal.{Refusal}
use Rattle.tc_desk.specs.declared.rows.Refusal.TheVariants as refusal
use Rattle.tc_model.specs.State.{Origin}
use Rattle.tc_model.specs.Asks.{primitive_of}
use Rattle.tc_model.specs.declared.asks.Ask.{Ask}
use Rattle.tc_model.specs.declared.asks.Primitive.{Primitive}
use Rattle.tc_model.specs.declared.calls.Op.{Op}
use Rattle.tc_model.specs.declared.entries.Entry.{Entry}
use Rattle.tc_shared.specs.Passes.{SeesRoom}
use Rattle.tc_turn.specs.Passes.{TurnstileState, PassState}
use Rattle.tc_site.specs.Desks.{AgentState, IsDesk, WardenPermits}
use Rattle.tc_site.specs.Judging.{IsAllowed, IsDenied, IsRefusedFor}
use Rattle.tc_site.specs.Polling.{IsPolled}
use Rattle.tc_site.specs.There.{CallsThere, GoesTo, IsCallThere, IsPollThere, MayAsk, PollsThere}
use Rattle.tc_site.specs.Turns.{IsTurn, told_of}
use Rattle.tc_site.specs.declared.waiting.WaitingAt.{WaitingAt}
use Rattle.tc_site.proofs.Becoming.{after}
use Rattle.tc_site.proofs.Seeing.{HasPass}

-- what holds of the name that stands at a place, of each name that stands there
pub at-name : {W : Type 0} {d s : AgentState W} {name : List ℕ} (place : ℕ) (P : List ℕ → Type 0) → d ≡ s → slice_get d.site.names place ≡ Some name
    → P name → (centre : List ℕ) → slice_get s.site.names place ≡ Some centre → P centre
at-name {W = W} {name = name} place P same named holds centre at =
    subst P (same_Some name centre (sym named ∙ ap (λ (x : AgentState W). slice_get x.site.names place) same ∙ at)) holds

-- what was judged, as what the warden says
module _ {W : Type 0} (permits : W → ℕ → ℕ → Primitive → Option ℕ) (d : AgentState W) (waits : Bool) (centre : List ℕ) (ask : Ask) where
  pub allowed-may : (place : ℕ) → IsAllowed permits d.site d.agent waits centre ask place → MayAsk permits d centre ask
  allowed-may place allowed = record {
    place = place;
    named = allowed.named;
    role = allowed.role;
    has = allowed.has;
    may = allowed.may;
  }

  denied-may : IsDesk d → IsDenied permits d.site d.agent waits centre ask → MayAsk permits d centre ask → ⊥
  denied-may is denied may =
      let place : may.place ≡ denied.place =
      AllPairs-one_place d.site.names may.place denied.place centre is.site.differ may.named denied.named in
      let role : may.role ≡ denied.role = same_Some may.role denied.role (sym may.has ∙ denied.has) in
      denied.may_not
      (subst (λ n. WardenPermits permits d.site.warden denied.role n (primitive_of ask)) place
      (subst (λ r. WardenPermits permits d.site.warden r may.place (primitive_of ask)) role may.may))

module _ {W : Type 0} (d : AgentState W) (centre : List ℕ) (place : ℕ) (named : slice_get d.site.names place ≡ Some centre)
    (t : TurnstileState Origin) (p q : PassState Entry Origin) (at-t : slice_get d.site.centres place ≡ Some t)
    (at-p : slice_get d.passes place ≡ Some p) (log : List LogRow) (pending : Option WaitingAt) where
  abbrev goes-to : GoesTo d centre place (after d place q log pending)
  goes-to = record { named = named; t = t; p = p; q = q; at_centre = at-t; at_pass = at-p; after = refl }

  -- memory ran out in the turn
  pub room-there : (permits : W → ℕ → ℕ → Primitive → Option ℕ) (ask : Ask) (told : Result Served Refusal) (s : AgentState W) → told ≡ Err refusal.NoMemory → d ≡ s → MayAsk permits d centre ask
      → SeesRoom t p q → IsCallThere permits s centre ask told (after d place q log pending)
  room-there permits ask told s is same may room =
      subst (λ r. IsCallThere permits s centre ask r (after d place q log pending)) (sym is)
      (subst (λ x. IsCallThere permits x centre ask (Err refusal.NoMemory) (after d place q log pending)) same
      (inr (may, record { place = place; there = goes-to; room = room })))

  module _ (permits : W → ℕ → ℕ → Primitive → Option ℕ) (ask : Ask) (op : Op) (sound : OpOf ask (Sound op)) (may : MayAsk permits d centre ask) where
    calls : (became : LogResult) → log ≡ with_row d.log centre (Some ask) became → IsTurn t p (length d.log + 1) op became q
        → CallsThere d centre ask (told_of became) (after d place q log pending)
    calls became log-is turn = record {
      place = place;
      there = goes-to;
      op = op;
      is = sound;
      became = became;
      turn = turn;
      row = log-is;
      told_is = refl;
    }

    came : (became : LogResult) → IsTurn t p (length d.log + 1) op became q → CallsThere d centre ask (told_of became) (after d place q log pending)
        → IsCallThere permits d centre ask (told_of became) (after d place q log pending)
    came (Replied reply) turn calls = (may, calls)
    came Pending turn calls = (may, calls)
    came (Refused refusal.TurnsSpent) turn calls = (may, calls)
    came (Refused (refusal.Full weight many)) turn calls = (may, calls)
    came (Refused refusal.UnknownCentre) turn calls = absurd turn
    came (Refused refusal.Waiting) turn calls = absurd turn
    came (Refused refusal.Denied) turn calls = absurd turn
    came (Refused refusal.TooBig) turn calls = absurd turn
    came (Refused refusal.NotGround) turn calls = absurd turn
    came (Refused (refusal.BadSpec bad)) turn calls = absurd turn
    came (Refused refusal.NoMemory) turn calls = absurd turn
    came (Polled told) turn calls = absurd turn

    -- the call came to its turn
    pub call-there : (became : LogResult) (row : ℕ) (told : Result Served Refusal) (s : AgentState W) → row ≡ length d.log
        → log ≡ with_row d.log centre (Some ask) became → told ≡ told_of became → d ≡ s → IsTurn t p (row + 1) op became q
        → IsCallThere permits s centre ask told (after d place q log pending)
    call-there became row told s row-is log-is told-is same turn =
        let turn' : IsTurn t p (length d.log + 1) op became q = subst (λ n. IsTurn t p (n + 1) op became q) row-is turn in
        subst (λ x. IsCallThere permits x centre ask told (after d place q log pending)) same
        (subst (λ r. IsCallThere permits d centre ask r (after d place q log pending)) (sym told-is)
        (came became turn' (calls became log-is turn')))

-- a call that came to no turn
module _ {W : Type 0} (permits : W → ℕ → ℕ → Primitive → Option ℕ) (d : AgentState W) (centre : List ℕ) (ask : Ask) (log : List LogRow)
    (s : AgentState W) (same : d ≡ s) where
  abbrev still : AgentState W
  still = record { site = d.site; agent = d.agent; passes = d.passes; log = log; pending = d.pending; held = d.held }

  nowhere : still.passes ≡ s.passes
  nowhere = ap (λ (x : AgentState W). x.passes) same

  -- the warden's answer is that of the same desk
  may-same : MayAsk permits d centre ask → MayAsk permits s centre ask
  may-same = subst (λ x. MayAsk permits x centre ask) same

  not-same : (MayAsk permits d centre ask → ⊥) → MayAsk permits s centre ask → ⊥
  not-same = subst (λ x. MayAsk permits x centre ask → ⊥) same

  pub refused-there : IsDesk d → (waits : Bool) (why : Refusal)
      → IsRefusedFor permits d.site d.agent waits centre ask why → IsCallThere permits s centre ask (Err why)
      (record { site = d.site; agent = d.agent; passes = d.passes; log = log; pending = d.pending; held = d.held })
  refused-there is waits refusal.UnknownCentre refused = nowhere
  refused-there is waits refusal.Waiting refused = nowhere
  refused-there is waits refusal.Denied refused = (not-same (denied-may permits d waits centre ask is refused), nowhere)
  refused-there is waits refusal.TooBig refused = (may-same (allowed-may permits d waits centre ask refused.place refused.allowed), nowhere)
  refused-there is waits refusal.NotGround refused = (may-same (allowed-may permits d waits centre ask refused.place refused.allowed), nowhere)
  refused-there is waits (refusal.BadSpec bad) refused = (may-same (allowed-may permits d waits centre ask refused.place refused.allowed), nowhere)
  refused-there is waits refusal.TurnsSpent refused = absurd refused
  refused-there is waits (refusal.Full weight many) refused = absurd refused
  refused-there is waits refusal.NoMemory refused = inl nowhere

  -- memory ran out before a turn
  pub none-there : (told : Result Served Refusal) → told ≡ Err refusal.NoMemory
      → IsCallThere permits s centre ask told
      (record { site = d.site; agent = d.agent; passes = d.passes; log = log; pending = d.pending; held = d.held })
  none-there told is = subst (λ r. IsCallThere permits s centre ask r still) (sym is) (inl nowhere)

-- a poll for the reply to the pending row
module _ {W : Type 0} {d : AgentState W} {w : WaitingAt} {t : TurnstileState Origin} {p : PassState Entry Origin} (has : HasPass d w t p)
    (at : d.pending ≡ Some w) (q : PassState Entry Origin) (log : List LogRow) (pending : Option WaitingAt) where
  polls : (r : Result Seen DeskFault) → IsPolled t w.row p has.waiting.row_is.centre d.log r q log → PollsThere d r (after d w.centre q log pending)
  polls r poll = record {
    at = w;
    pending = at;
    row = has.waiting.row_is;
    at_row = has.at_row;
    there = goes-to d has.waiting.row_is.centre w.centre has.waiting.named t p q has.at_centre has.at_pass log pending;
    polled = poll;
  }

  came-poll : (r : Result Seen DeskFault) → IsPolled t w.row p has.waiting.row_is.centre d.log r q log → IsPollThere d r (after d w.centre q log pending)
  came-poll (Ok seen) poll = polls (Ok seen) poll
  came-poll (Err fault.TurnsSpent) poll = polls (Err fault.TurnsSpent) poll
  came-poll (Err (fault.Full weight many)) poll = polls (Err (fault.Full weight many)) poll
  came-poll (Err fault.NoMemory) poll = polls (Err fault.NoMemory) poll
  came-poll (Err fault.Idle) poll = absurd poll

  pub poll-there : (r : Result Seen DeskFault) (s : AgentState W) → d ≡ s → IsPolled t w.row p has.waiting.row_is.centre d.log r q log
      → IsPollThere s r (after d w.centre q log pending)
  poll-there r s same poll = subst (λ x. IsPollThere x r (after d w.centre q log pending)) same (came-poll r poll)

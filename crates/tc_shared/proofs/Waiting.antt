-- What waiting makes of a pass.
use Rattle.std.proofs.Common.{◌≡◌, ℕ, ◌+◌, ◌-◌, ◌≤◌, List, refl, sym, ap, ◌∙◌, subst, length, arith}
use mathlib.Core.List.{IsPrefix}
use Rattle.tc_lists.proofs.Prefixes.{IsPrefix-trans, IsPrefix-whole, length-IsPrefix}
use Rattle.std.specs.List.{Contains}
use Rattle.std.proofs.lemmas.List.Elements.{Contains-append_left}
use Rattle.tc_model.specs.Run.{HasCall}
use Rattle.tc_model.specs.State.{Origin}
use Rattle.tc_model.specs.declared.entries.Entry.{Entry}
use Rattle.tc_turn.specs.Passes.{TurnstileState, PassState}
use Rattle.tc_shared.specs.declared.answers.LookFault.{LookFault}
use Rattle.tc_shared.specs.declared.answers.LookFault.TheVariants as look
use Rattle.tc_model.specs.Calls.{call_of}
use Rattle.tc_shared.specs.Passes.{IsPassOf, Sees, Rests, WaitsInTurns, IsLookRefused, after_turn}

-- a pass that has only waited since p, and so many entries that it will know at least after its next turn
pub record HasWaited (t : TurnstileState Origin) (p r : PassState Entry Origin) : Type 0 where
  pub own : IsPassOf t r
  pub known : IsPrefix p.seen r.seen
  pub after : r ≡ record p { turns = r.turns; seen = r.seen; floor = r.floor }
  pub fell : r.turns ≤ p.turns
  pub next : ℕ
  pub turns : p.turns + length p.seen ≤ r.turns + next
  pub near : next ≤ length r.seen + 1
  pub far : (k : ℕ) → r.floor ≤ k → length r.seen ≤ k → next ≤ k

-- a sleep takes no turn
pub rested-turns : (t : TurnstileState Origin) (n r : PassState Entry Origin) → Rests t n r → r.turns ≡ n.turns
rested-turns t n r rests = ap (λ (x : PassState Entry Origin). x.turns) rests.after

module _ (t : TurnstileState Origin) (p : PassState Entry Origin) where
  pub waited-first : IsPassOf t p → HasWaited t p p
  waited-first own = record {
    own = own;
    known = IsPrefix-whole p.seen;
    after = refl;
    fell = omega arith;
    next = length p.seen;
    turns = omega arith;
    near = omega arith;
    far = λ k floor long. long;
  }

  -- a look that took its turn
  pub seen-waits : (l n : PassState Entry Origin) → HasWaited t p l → Sees t l n → WaitsInTurns t p n
  seen-waits l n waited sees =
      let is : n ≡ after_turn l n.seen l.mine = sees.after in
      let fewer : n.turns ≡ l.turns - 1 = ap (λ (x : PassState Entry Origin). x.turns) is in
      let kept : n.floor ≡ l.floor = ap (λ (x : PassState Entry Origin). x.floor) is in
      let more = length-IsPrefix l.seen n.seen sees.finds.known in
      let far = waited.far (length n.seen) sees.finds.floor more in
      let some = sees.finds.left in
      let turns = waited.turns in
      let fell = waited.fell in
      record {
        own = sees.finds.own;
        fell = omega (arith, fewer, fell);
        turns = omega (arith, fewer, far, some, turns);
        known = IsPrefix-trans p.seen l.seen n.seen waited.known sees.finds.known;
        after = is
            ∙ ap (λ (x : PassState Entry Origin). record x { turns = l.turns - 1; seen = n.seen }) waited.after
            ∙ ap (λ (k : ℕ). record p { turns = k; seen = n.seen; floor = l.floor }) (sym fewer)
            ∙ ap (λ (k : ℕ). record p { turns = n.turns; seen = n.seen; floor = k }) (sym kept);
      }

  -- and the sleep after it
  pub waited-more : (n r : PassState Entry Origin) → WaitsInTurns t p n → Rests t n r → HasWaited t p r
  waited-more n r waits rests =
      let is : r ≡ record n { floor = r.floor } = rests.after in
      let same_turns = rested-turns t n r rests in
      let same_seen : r.seen ≡ n.seen = ap (λ (x : PassState Entry Origin). x.seen) is in
      let same_length : length r.seen ≡ length n.seen = ap (λ (h : List Entry). length h) same_seen in
      let moved : IsPassOf t (record n { floor = r.floor }) =
      record { own = waits.own.own; agent = waits.own.agent; rest = waits.own.rest; mine = waits.own.mine } in
      let above = rests.floor in
      let turns = waits.turns in
      let fell = waits.fell in
      record {
        own = subst (IsPassOf t) (sym is) moved;
        known = subst (IsPrefix p.seen) (sym same_seen) waits.known;
        after = is ∙ ap (λ (x : PassState Entry Origin). record x { floor = r.floor }) waits.after
            ∙ ap (λ (k : ℕ). record p { turns = k; seen = n.seen; floor = r.floor }) (sym same_turns)
            ∙ ap (λ (h : List Entry). record p { turns = r.turns; seen = h; floor = r.floor }) (sym same_seen);
        fell = omega (arith, fell, same_turns);
        next = length n.seen + 1;
        turns = omega (arith, turns, same_turns);
        near = omega (arith, same_length);
        far = λ k floor long. omega (arith, floor, above);
      }

  -- a look that was refused
  pub refused-waits : (l n : PassState Entry Origin) → HasWaited t p l → (fault : LookFault) → IsLookRefused t l fault n → WaitsInTurns t p n
  refused-waits l n waited look.TurnsSpent refused =
      let near = waited.near in
      let turns = waited.turns in
      subst (WaitsInTurns t p) (sym refused.1)
      (record { own = waited.own; fell = waited.fell; turns = omega (arith, near, turns); known = waited.known; after = waited.after })
  refused-waits l n waited look.NoMemory refused = seen-waits l n waited refused

-- a call that the pass knew stands in what it knows later
pub called-later : (t : TurnstileState Origin) (l n r : PassState Entry Origin) (number : ℕ)
    → HasCall (call_of l.number number) l.seen → Sees t l n → Rests t n r → HasCall (call_of r.number number) r.seen
called-later t l n r number called sees rests =
    let same_seen : r.seen ≡ n.seen = ap (λ (x : PassState Entry Origin). x.seen) rests.after in
    let same_number : r.number ≡ l.number =
    ap (λ (x : PassState Entry Origin). x.number) rests.after ∙ ap (λ (x : PassState Entry Origin). x.number) sees.after in
    let more : IsPrefix l.seen r.seen = subst (IsPrefix l.seen) (sym same_seen) sees.finds.known in
    subst (λ (k : ℕ). HasCall (record { agent = k; number = number }) r.seen) (sym same_number)
    (record {
      entry = called.entry;
      stands = subst (λ (h : List Entry). Contains h called.entry) more.1 (Contains-append_left l.seen more.0 called.entry called.stands);
      call = called.call;
    })

-- What an ask comes to at a core, by what is answered there.
use Rattle.std.proofs.Common.{◌≡◌, ◌<◌, ◌++◌, ◌∷◌, ℕ, true, List, Option, Some, None, All, Contains, Result, Ok, Err, IfOk, IfErr, IfSome, OnErr, length, take, refl, sym, ap, ◌∙◌, subst, arith}
use Rattle.std.specs.Option.{is_some}
use Rattle.std.proofs.lemmas.Bool.{false≢true}
use Rattle.std.proofs.lemmas.List.{drop_all, take_all}
use Rattle.std.proofs.lemmas.List.Elements.{All-nil, Contains-append_right}
use Rattle.tc_lists.proofs.Places.{Contains-slice_get}
use Rattle.tc_asks.specs.Operands.{IsFaultOf}
use Rattle.tc_asks.specs.declared.operands.OperandFault.{OperandFault}
use Rattle.tc_asks.specs.declared.operands.OperandFault.TheVariants as fault
use Rattle.tc_centre.specs.Centre.{Centre, state_of}
use Rattle.tc_centre.specs.Turns.{IsFullFault, Serves}
use Rattle.tc_centre.specs.declared.answers.Answer.{Answer}
use Rattle.tc_centre.specs.declared.answers.Answer.TheVariants as answer
use Rattle.tc_centre.specs.declared.answers.TurnFault.{TurnFault}
use Rattle.tc_centre.specs.declared.answers.TurnFault.TheVariants as turn
use Rattle.tc_desk.specs.Logs.{is_served}
use Rattle.tc_desk.specs.Operands.{OpOf, Sound}
use Rattle.tc_desk.specs.Served.{IsCalled, IsResult, IsServedAs, IsTurnedAway, WasFull}
use Rattle.tc_desk.specs.declared.rows.LogResult.{LogResult}
use Rattle.tc_desk.specs.declared.rows.LogResult.TheVariants.{Replied, Pending, Refused, Polled}
use Rattle.tc_desk.specs.declared.rows.Refusal.TheVariants as refusal
use Rattle.tc_model.specs.Calls.{calls_of, id_of}
use Rattle.tc_model.specs.Entries.{IsFull, pending_after}
use Rattle.tc_model.specs.Entries as entries
use Rattle.tc_model.specs.Run.{IsNext}
use Rattle.tc_model.specs.State.{Origin, IsQuiescent, opening, after_history}
use Rattle.tc_model.specs.declared.asks.Ask.{Ask}
use Rattle.tc_model.specs.declared.calls.CallId.{CallId}
use Rattle.tc_model.specs.declared.calls.Op.{Op}
use Rattle.tc_model.specs.declared.entries.Entry.{Entry}
use Rattle.tc_model.specs.declared.entries.Entry.TheVariants.{Called}
use Rattle.tc_policy.specs.Places.{IsFirstNumber}
use Rattle.tc_policy.specs.declared.grants.Grant.{Grant}
use Rattle.tc_runner.specs.Results.{Changes, refusal_of, result_of}

-- a grant that has a number stands among the grants
Contains-first : (g : Grant) (grants : List Grant) (number : ℕ) → IsFirstNumber g grants number → Contains grants g
Contains-first g grants number first = Contains-slice_get grants first.0 g first.2.stands

-- a grant that was given a number stands among the grants
pub Contains-some : (g : Grant) (grants : List Grant) (number : Option ℕ) → IfSome number (IsFirstNumber g grants) → is_some number ≡ true
    → Contains grants g
Contains-some g grants (Some number) first some = Contains-first g grants number first
Contains-some g grants None first some = absurd (false≢true some)

-- what an ask comes to that is permitted
pub IsResult-permitted : (permits : Type 0) (origin : Origin) (history : List Entry) (id : CallId) (ask : Ask) (became : LogResult) → permits
    → IsServedAs origin history id ask became → IsResult permits origin history id ask became
IsResult-permitted permits origin history id ask (Replied r) may served = (may, served)
IsResult-permitted permits origin history id ask Pending may served = (may, served)
IsResult-permitted permits origin history id ask (Refused refusal.TooBig) may served = (may, served)
IsResult-permitted permits origin history id ask (Refused refusal.NotGround) may served = (may, served)
IsResult-permitted permits origin history id ask (Refused (refusal.BadSpec bad)) may served = (may, served)
IsResult-permitted permits origin history id ask (Refused (refusal.Full heavy waiting)) may served = (may, served)
IsResult-permitted permits origin history id ask (Refused refusal.UnknownCentre) may served = absurd served
IsResult-permitted permits origin history id ask (Refused refusal.Waiting) may served = absurd served
IsResult-permitted permits origin history id ask (Refused refusal.Denied) may served = absurd served
IsResult-permitted permits origin history id ask (Refused refusal.TurnsSpent) may served = absurd served
IsResult-permitted permits origin history id ask (Refused refusal.NoMemory) may served = absurd served
IsResult-permitted permits origin history id ask (Polled r) may served = absurd served

-- an ask whose operand is faulty
pub IsServedAs-refused : (origin : Origin) (history : List Entry) (id : CallId) (ask : Ask) (why : OperandFault) → IsFaultOf ask why
    → IfOk (refusal_of why) (λ told. IsServedAs origin history id ask (Refused told))
IsServedAs-refused origin history id ask fault.TooBig is = is
IsServedAs-refused origin history id ask fault.NotGround is = is
IsServedAs-refused origin history id ask (fault.BadSpec bad) is = is
IsServedAs-refused origin history id ask fault.NoMemory is = tt

module _ (old new : Centre) (id : CallId) (ask : Ask) (op : Op) (next : IsNext old.origin old.history id) (rest : IsQuiescent (state_of old))
    (sound : OpOf ask (Sound op)) where
  called : (told : Answer) → Serves old new id op told → IsCalled new.history id ask
  called told s =
      let e : Entry = Called id op s.result s.items in
      let grown : new.history ≡ old.history ++ e ∷ s.gaves = ap (λ (x : Centre). x.history) s.appended in
      record {
        op = op;
        is = sound;
        called = record {
          result = s.result;
          items = s.items;
          stands = subst (λ h. Contains h e) (sym grown)
              (Contains-append_right old.history (e ∷ s.gaves) e (Contains-slice_get (e ∷ s.gaves) 0 e refl));
        };
      }

  turned_away : (weight pending : ℕ) → IsFullFault old (turn.Full weight pending) → new ≡ old
      → IsTurnedAway old.origin new.history id ask weight pending
  turned_away weight pending refused same =
      let history : List Entry = old.history in
      let whole : history ≡ take (length history) history = sym (take_all (length history) history (omega arith)) in
      let full : WasFull old.origin history id weight pending = record {
        n = length history;
        within = omega arith;
        quiescent = subst (λ h. IsQuiescent (after_history (opening old.origin) h)) whole rest;
        full = subst (IsFull old.origin) whole refused.0;
        weighed = refused.1 ∙ ap entries.weight whole;
        waited = refused.2 ∙ ap (pending_after old.origin) whole;
        before = subst (λ h. All (λ e. (id_of e).number < id.number) (calls_of id.agent h)) whole next.number;
        behind = subst (λ h. All (λ e. id.number < (id_of e).number) (calls_of id.agent h))
            (sym (drop_all (length history) history (omega arith))) (All-nil (λ e. id.number < (id_of e).number));
      } in
      record {
        op = op;
        is = sound;
        full = subst (λ (x : Centre). WasFull old.origin x.history id weight pending) (sym same) full;
      }

  -- what the ask came to, by what the turn says
  pub IsServedAs-turned : (r : Result Answer TurnFault) → IfOk r (Serves old new id op) → IfErr r (IsFullFault old) → OnErr r (new ≡ old)
      → IfOk (result_of r) (IsServedAs old.origin new.history id ask)
  IsServedAs-turned (Ok (answer.Replied reply)) serves refused same = (called (answer.Replied reply) serves, serves.answer)
  IsServedAs-turned (Ok answer.Pending) serves refused same = called answer.Pending serves
  IsServedAs-turned (Err (turn.Full weight pending)) serves refused same = turned_away weight pending refused same
  IsServedAs-turned (Err turn.NoMemory) serves refused same = tt

  -- what has changed
  pub Changes-turned : (r : Result Answer TurnFault) → IfOk r (Serves old new id op) → OnErr r (new ≡ old)
      → IfOk (result_of r) (λ became. Changes id old new (is_served became))
  Changes-turned (Ok (answer.Replied reply)) serves same = record { op = op; told = answer.Replied reply; serves = serves }
  Changes-turned (Ok answer.Pending) serves same = record { op = op; told = answer.Pending; serves = serves }
  Changes-turned (Err (turn.Full weight pending)) serves same = same
  Changes-turned (Err turn.NoMemory) serves same = tt

  pub same-turned : (r : Result Answer TurnFault) → OnErr r (new ≡ old) → OnErr (result_of r) (new ≡ old)
  same-turned (Ok (answer.Replied reply)) same = tt
  same-turned (Ok answer.Pending) same = tt
  same-turned (Err (turn.Full weight pending)) same = tt
  same-turned (Err turn.NoMemory) same = same

-- What every call keeps of a pass.
use Rattle.std.proofs.Common.{◌≡◌, ℕ, ◌+◌, ◌<◌, List, [], ◌∷◌, All, false, refl, sym, ap, ◌∙◌, subst, arith}
use Rattle.std.proofs.lemmas.List.Elements.{All-weaker, All-push, Contains-append_right, Contains-append_left, Contains-push}
use Rattle.tc_model.specs.Calls.{id_of, call_of}
use Rattle.tc_model.specs.Run.{HasCall}
use Rattle.tc_model.specs.State.{Origin}
use Rattle.tc_model.specs.declared.calls.Op.{Op}
use Rattle.tc_model.specs.declared.entries.Entry.{Entry}
use Rattle.tc_model.specs.declared.entries.Entry.TheVariants.{Called}
use Rattle.tc_centre.specs.declared.answers.Answer.{Answer}
use Rattle.tc_centre.specs.declared.answers.Poll.{Poll}
use Rattle.tc_turn.specs.Passes.{TurnstileState, PassState}
use Rattle.tc_shared.specs.declared.answers.CallFault.{CallFault}
use Rattle.tc_shared.specs.declared.answers.CallFault.TheVariants as call
use Rattle.tc_shared.specs.declared.answers.LookFault.{LookFault}
use Rattle.tc_shared.specs.declared.answers.LookFault.TheVariants as look
use Rattle.tc_shared.specs.declared.answers.SharedPollFault.{SharedPollFault}
use Rattle.tc_shared.specs.declared.answers.SharedPollFault.TheVariants as shared
use Rattle.tc_shared.specs.Passes.{IsPassOf, KeepsPass, CallsInTurn, PollsInTurn, Sees, IsCallRefused, IsSharedPollRefused, IsLookRefused, WaitsInTurns, after_turn}

-- all numbers below one are below the next
below-next : (number : ℕ) (mine : List Entry) → All (λ e. (id_of e).number < number) mine → All (λ e. (id_of e).number < number + 1) mine
below-next number mine below =
    All-weaker (λ e. (id_of e).number < number) (λ e. (id_of e).number < number + 1) (λ e less. omega (arith, less)) mine below

module _ (t : TurnstileState Origin) (p q : PassState Entry Origin) (own : IsPassOf t p) (free : p.holds ≡ false) where
  -- a turn that is over
  keeps-turn : (history mine : List Entry) → IsPassOf t q → q ≡ after_turn p history mine → KeepsPass t p q
  keeps-turn history mine owned after = record {
    own = owned;
    number = ap (λ (x : PassState Entry Origin). x.number) after;
    free = ap (λ (x : PassState Entry Origin). x.holds) after ∙ free;
  }

  -- no turn was taken
  keeps-same : q ≡ p → KeepsPass t p q
  keeps-same same = record {
    own = subst (IsPassOf t) (sym same) own;
    number = ap (λ (x : PassState Entry Origin). x.number) same;
    free = ap (λ (x : PassState Entry Origin). x.holds) same ∙ free;
  }

  pub keeps-sees : Sees t p q → KeepsPass t p q
  keeps-sees sees = keeps-turn q.seen p.mine sees.finds.own sees.after

  pub keeps-call-refused : (fault : CallFault) → IsCallRefused t p fault q → KeepsPass t p q
  keeps-call-refused call.TurnsSpent refused = keeps-same refused.1
  keeps-call-refused (call.Full weight pending) refused = keeps-sees refused.sees
  keeps-call-refused call.NoMemory refused = keeps-sees refused.sees

  pub keeps-poll-refused : (asked : ℕ) (fault : SharedPollFault) → IsSharedPollRefused t p asked fault q → KeepsPass t p q
  keeps-poll-refused asked shared.TurnsSpent refused = keeps-same refused.1
  keeps-poll-refused asked shared.Stranger refused = keeps-sees refused.0
  keeps-poll-refused asked (shared.Full weight pending) refused = keeps-sees refused.0.sees
  keeps-poll-refused asked shared.NoMemory refused = keeps-sees refused.0.sees

  pub keeps-look-refused : (fault : LookFault) → IsLookRefused t p fault q → KeepsPass t p q
  keeps-look-refused look.TurnsSpent refused = keeps-same refused.1
  keeps-look-refused look.NoMemory refused = keeps-sees refused

  pub keeps-waits : WaitsInTurns t p q → KeepsPass t p q
  keeps-waits waits = record {
    own = waits.own;
    number = ap (λ (x : PassState Entry Origin). x.number) waits.after;
    free = ap (λ (x : PassState Entry Origin). x.holds) waits.after ∙ free;
  }

  module _ (number : ℕ) (op : Op) (told : Answer) (makes : CallsInTurn t p number op told q) where
    pub keeps-makes : KeepsPass t p q
    keeps-makes = keeps-turn _ _ makes.finds.own makes.after

    -- the pass knows its call then
    pub makes-call : HasCall (call_of p.number number) q.seen
    makes-call =
        let e : Entry = Called (call_of p.number number) op makes.result makes.items in
        subst (HasCall (call_of p.number number)) (sym (ap (λ (x : PassState Entry Origin). x.seen) makes.after)) (record {
          entry = e;
          stands = Contains-append_right makes.found (e ∷ makes.gaves) e (Contains-append_left (e ∷ []) makes.gaves e (Contains-push [] e));
          call = refl;
        })

    pub makes-own_call : HasCall (call_of q.number number) q.seen
    makes-own_call =
        subst (λ (k : ℕ). HasCall (record { agent = k; number = number }) q.seen) (sym keeps-makes.number) makes-call

    -- the next number is above all of the agent's
    pub makes-below : All (λ e. (id_of e).number < number) p.mine → All (λ e. (id_of e).number < number + 1) q.mine
    makes-below below =
        let e : Entry = Called (call_of p.number number) op makes.result makes.items in
        subst (All (λ x. (id_of x).number < number + 1)) (sym (ap (λ (x : PassState Entry Origin). x.mine) makes.after))
        (All-push (λ x. (id_of x).number < number + 1) p.mine e (below-next number p.mine below) (omega arith))

  pub keeps-tells : (number asked : ℕ) (told : Poll) → PollsInTurn t p number asked told q → KeepsPass t p q
  keeps-tells number asked told tells = keeps-turn _ _ tells.finds.own tells.after

-- The numbers of an agent's entries stay below that of its next call.
use Rattle.std.proofs.Common.{◌≡◌, ℕ, ◌+◌, ◌<◌, List, [], ◌∷◌, ◌++◌, All, Ok, Err, IfOk, refl, sym, ap, subst, arith}
use Rattle.std.specs.Prelude.{IfErr}
use Rattle.std.specs.declared.result.Result.{Result}
use Rattle.std.proofs.lemmas.List.Elements.{All-append, All-cons, All-nil, All-weaker}
use Rattle.tc_centre.specs.declared.answers.Answer.{Answer}
use Rattle.tc_centre.specs.declared.answers.Poll.{Poll}
use Rattle.tc_model.specs.Calls.{id_of, call_of}
use Rattle.tc_model.specs.State.{Origin}
use Rattle.tc_model.specs.declared.calls.Op.{Op}
use Rattle.tc_model.specs.declared.entries.Entry.{Entry}
use Rattle.tc_model.specs.declared.entries.Entry.TheVariants.{Called, Looked}
use Rattle.tc_shared.specs.Passes.{IsCallRefused, IsSharedPollRefused, CallsInTurn, PollsInTurn}
use Rattle.tc_shared.specs.declared.answers.CallFault.{CallFault}
use Rattle.tc_shared.specs.declared.answers.CallFault.TheVariants as call
use Rattle.tc_shared.specs.declared.answers.SharedPollFault.{SharedPollFault}
use Rattle.tc_shared.specs.declared.answers.SharedPollFault.TheVariants as poll
use Rattle.tc_turn.specs.Passes.{TurnstileState, PassState}
use Rattle.test_shared_rows.specs.Plays.{NumbersBelow}

numbers-next : (n : ℕ) (es : List Entry) → All (λ e. (id_of e).number < n) es → All (λ e. (id_of e).number < n + 1) es
numbers-next n es below = All-weaker (λ e. (id_of e).number < n) (λ e. (id_of e).number < n + 1) (λ e less. omega (arith, less)) es below

module _ (p q : PassState Entry Origin) (n : ℕ) (below : NumbersBelow n p) where
  -- the agent has no entry more
  pub numbers-same : q.mine ≡ p.mine → NumbersBelow (n + 1) q
  numbers-same same = subst (All (λ e. (id_of e).number < n + 1)) (sym same) (numbers-next n p.mine below)

  -- or one of this number
  numbers-own : (e : Entry) → (id_of e).number ≡ n → q.mine ≡ p.mine ++ e ∷ [] → NumbersBelow (n + 1) q
  numbers-own e is grown =
      subst (All (λ d. (id_of d).number < n + 1)) (sym grown)
      (All-append (λ d. (id_of d).number < n + 1) p.mine (e ∷ []) (numbers-next n p.mine below)
      (All-cons (λ d. (id_of d).number < n + 1) e [] (omega (arith, is)) (All-nil (λ d. (id_of d).number < n + 1))))

  -- after a call
  pub numbers-call : (t : TurnstileState Origin) (op : Op) (r : Result Answer CallFault) → IfOk r (λ told. CallsInTurn t p n op told q)
      → IfErr r (λ fault. IsCallRefused t p fault q) → NumbersBelow (n + 1) q
  numbers-call t op (Ok told) makes refused =
      numbers-own (Called (call_of p.number n) op makes.result makes.items) refl (ap (λ (x : PassState Entry Origin). x.mine) makes.after)
  numbers-call t op (Err call.TurnsSpent) makes refused = numbers-same (ap (λ (x : PassState Entry Origin). x.mine) refused.1)
  numbers-call t op (Err (call.Full weight pending)) makes refused =
      numbers-same (ap (λ (x : PassState Entry Origin). x.mine) refused.sees.after)
  numbers-call t op (Err call.NoMemory) makes refused = numbers-same (ap (λ (x : PassState Entry Origin). x.mine) refused.sees.after)

  -- after a poll
  pub numbers-poll : (t : TurnstileState Origin) (asked : ℕ) (r : Result Poll SharedPollFault) → IfOk r (λ told. PollsInTurn t p n asked told q)
      → IfErr r (λ fault. IsSharedPollRefused t p asked fault q) → NumbersBelow (n + 1) q
  numbers-poll t asked (Ok told) tells refused =
      numbers-own (Looked (call_of p.number n) asked tells.reply) refl (ap (λ (x : PassState Entry Origin). x.mine) tells.after)
  numbers-poll t asked (Err poll.TurnsSpent) tells refused = numbers-same (ap (λ (x : PassState Entry Origin). x.mine) refused.1)
  numbers-poll t asked (Err poll.Stranger) tells refused = numbers-same (ap (λ (x : PassState Entry Origin). x.mine) refused.0.after)
  numbers-poll t asked (Err (poll.Full weight pending)) tells refused =
      numbers-same (ap (λ (x : PassState Entry Origin). x.mine) refused.0.sees.after)
  numbers-poll t asked (Err poll.NoMemory) tells refused = numbers-same (ap (λ (x : PassState Entry Origin). x.mine) refused.0.sees.after)

-- What an ask has come to, as its centre's history goes on.
use Rattle.std.proofs.Common.{◌≡◌, ◌<◌, ◌++◌, ℕ, List, All, take, drop, refl, sym, ap, subst, ◌∙◌, length-append, arith}
use Rattle.std.proofs.lemmas.List.{take-append-le, drop-append-le}
use Rattle.std.proofs.lemmas.List.Elements.{All-append, Contains-append_left, filter-append}
use Rattle.tc_model.proofs.Histories.{reply_in-IsPrefix}
use Rattle.tc_model.specs.Calls.{id_of, is_call_of, calls_of}
use Rattle.tc_model.specs.Entries.{IsFull, weight, pending_after}
use Rattle.tc_model.specs.State.{Origin, IsQuiescent, opening, after_history}
use Rattle.tc_model.specs.declared.asks.Ask.{Ask}
use Rattle.tc_model.specs.declared.calls.CallId.{CallId}
use Rattle.tc_model.specs.declared.calls.Op.{Op}
use Rattle.tc_model.specs.declared.entries.Entry.{Entry}
use Rattle.tc_model.specs.declared.entries.Entry.TheVariants.{Called}
use Rattle.tc_desk.specs.Served.{HasCalled, IsCalled, WasFull, IsServedAs}
use Rattle.tc_desk.specs.declared.rows.LogResult.{LogResult}
use Rattle.tc_desk.specs.declared.rows.LogResult.TheVariants.{Replied, Pending, Refused, Polled}
use Rattle.tc_desk.specs.declared.rows.Refusal.TheVariants as refusal

pub HasCalled-append : (id : CallId) (op : Op) (history more : List Entry)
    → HasCalled id op history → HasCalled id op (history ++ more)
HasCalled-append id op history more h = record {
  result = h.result;
  items = h.items;
  stands = Contains-append_left history more (Called id op h.result h.items) h.stands;
}

pub IsCalled-append : (history more : List Entry) (id : CallId) (ask : Ask)
    → IsCalled history id ask → IsCalled (history ++ more) id ask
IsCalled-append history more id ask h = record {
  op = h.op;
  is = h.is;
  called = HasCalled-append id h.op history more h.called;
}

pub WasFull-append : (origin : Origin) (history more : List Entry) (id : CallId) (heavy waiting : ℕ)
    → All (λ e. id.number < (id_of e).number) (calls_of id.agent more)
    → WasFull origin history id heavy waiting → WasFull origin (history ++ more) id heavy waiting
WasFull-append origin history more id heavy waiting above h =
    let P : Entry → Type 0 = λ e. id.number < (id_of e).number in
    let front : take h.n history ≡ take h.n (history ++ more) = sym (take-append-le h.n history more h.within) in
    let behind : drop h.n (history ++ more) ≡ drop h.n history ++ more = drop-append-le h.n history more h.within in
    let split : calls_of id.agent (drop h.n (history ++ more)) ≡ calls_of id.agent (drop h.n history) ++ calls_of id.agent more =
    ap (calls_of id.agent) behind ∙ filter-append (is_call_of id.agent) (drop h.n history) more in
    record {
      n = h.n;
      within = omega (arith, h.within, length-append history more);
      quiescent = subst (λ es. IsQuiescent (after_history (opening origin) es)) front h.quiescent;
      full = subst (IsFull origin) front h.full;
      weighed = h.weighed ∙ ap weight front;
      waited = h.waited ∙ ap (pending_after origin) front;
      before = subst (λ es. All (λ e. (id_of e).number < id.number) (calls_of id.agent es)) front h.before;
      behind = subst (All P) (sym split)
          (All-append P (calls_of id.agent (drop h.n history)) (calls_of id.agent more) h.behind above);
    }

pub IsServedAs-append : (origin : Origin) (history more : List Entry) (id : CallId) (ask : Ask) (result : LogResult)
    → All (λ e. id.number < (id_of e).number) (calls_of id.agent more)
    → IsServedAs origin history id ask result → IsServedAs origin (history ++ more) id ask result
IsServedAs-append origin history more id ask (Replied r) above h =
    (IsCalled-append history more id ask h.0, reply_in-IsPrefix history (history ++ more) id r (more, refl) h.1)
IsServedAs-append origin history more id ask Pending above h = IsCalled-append history more id ask h
IsServedAs-append origin history more id ask (Refused (refusal.Full heavy waiting)) above h = record {
  op = h.op;
  is = h.is;
  full = WasFull-append origin history more id heavy waiting above h.full;
}
IsServedAs-append origin history more id ask (Refused refusal.TooBig) above h = h
IsServedAs-append origin history more id ask (Refused refusal.NotGround) above h = h
IsServedAs-append origin history more id ask (Refused (refusal.BadSpec bad)) above h = h
IsServedAs-append origin history more id ask (Refused refusal.UnknownCentre) above h = absurd h
IsServedAs-append origin history more id ask (Refused refusal.Waiting) above h = absurd h
IsServedAs-append origin history more id ask (Refused refusal.Denied) above h = absurd h
IsServedAs-append origin history more id ask (Refused refusal.TurnsSpent) above h = absurd h
IsServedAs-append origin history more id ask (Refused refusal.NoMemory) above h = absurd h
IsServedAs-append origin history more id ask (Polled r) above h = absurd h

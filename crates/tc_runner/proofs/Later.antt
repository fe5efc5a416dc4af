-- Histories that go on, and what stays true of an agent's rows.
use Rattle.std.proofs.Common.{◌≡◌, ℕ, ◌+◌, ◌<◌, ◌≤◌, List, [], ◌++◌, Some, All, length, take, refl, sym, ◌∙◌, subst}
use Rattle.std.specs.List.{slice_get}
use Rattle.std.proofs.lemmas.List.{append-nil}
use Rattle.std.proofs.lemmas.List.Elements.{All-nil}
use Rattle.std.proofs.lemmas.Option.{same_Some}
use Rattle.tc_config.specs.Configurations.{Configuration}
use Rattle.tc_config.specs.Good.{IsRow, Permits, origin_of}
use Rattle.tc_config.specs.declared.configs.AgentConf.{AgentConf}
use Rattle.tc_desk.specs.Logs.{results_of}
use Rattle.tc_desk.specs.Asks.{IsAsk}
use Rattle.tc_desk.specs.Served.{IsResult}
use Rattle.tc_desk.specs.declared.rows.LogRow.{LogRow}
use Rattle.tc_desk.specs.declared.rows.LogResult.{LogResult}
use Rattle.tc_desk.specs.declared.rows.LogResult.TheVariants.{Refused}
use Rattle.tc_desk.specs.declared.rows.Refusal.TheVariants as refusal
use Rattle.tc_desk.proofs.Histories.{IsServedAs-append}
use Rattle.tc_desk.proofs.Growing.{above-top}
use Rattle.tc_model.specs.Asks.{primitive_of}
use Rattle.tc_model.specs.Calls.{id_of, calls_of, call_of}
use Rattle.tc_model.specs.State.{Origin}
use Rattle.tc_model.specs.declared.asks.Ask.{Ask}
use Rattle.tc_model.specs.declared.calls.CallId.{CallId}
use Rattle.tc_model.specs.declared.entries.Entry.{Entry}
use Rattle.tc_lists.proofs.Sets.{slice_get-as_long}

-- what a history has become, where the agent's new entries have numbers above this one
pub record IsLonger (agent top : ℕ) (old new : List Entry) : Type 0 where
  pub more : List Entry
  pub grown : new ≡ old ++ more
  pub above : All (λ e. top < (id_of e).number) (calls_of agent more)

-- each history has gone on so
pub record IsLater (agent top : ℕ) (old new : List (List Entry)) : Type 0 where
  pub whole : length new ≡ length old
  pub each : (place : ℕ) (before after : List Entry) → slice_get old place ≡ Some before → slice_get new place ≡ Some after → IsLonger agent top before after

pub IsLonger-same : (agent top : ℕ) (history : List Entry) → IsLonger agent top history history
IsLonger-same agent top history = record {
  more = [];
  grown = sym (append-nil history);
  above = All-nil (λ e. top < (id_of e).number);
}

pub IsLater-same : (agent top : ℕ) (histories : List (List Entry)) → IsLater agent top histories histories
IsLater-same agent top histories = record {
  whole = refl;
  each = λ place before after was is.
      subst (IsLonger agent top before) (same_Some before after (sym was ∙ is)) (IsLonger-same agent top before);
}

-- what an ask has come to stays so
pub IsResult-append : (permits : Type 0) (origin : Origin) (history more : List Entry) (id : CallId) (ask : Ask) (result : LogResult)
    → All (λ e. id.number < (id_of e).number) (calls_of id.agent more)
    → IsResult permits origin history id ask result → IsResult permits origin (history ++ more) id ask result
IsResult-append permits origin history more id ask (Refused refusal.Denied) above h = h
IsResult-append permits origin history more id ask result above h =
    (h.0, IsServedAs-append origin history more id ask result above h.1)

-- a row stays one of the agent's rows, as histories and the log go on
pub IsRow-later : (c : Configuration) (old new : List (List Entry)) (agent : ℕ) (a : AgentConf) (log log' : List LogRow) (k top : ℕ) (row : LogRow)
    → k + 1 ≤ top → IsLater agent top old new → take k (results_of log') ≡ take k (results_of log)
    → IsRow c old agent a log k row → IsRow c new agent a log' k row
IsRow-later c old new agent a log log' k top row within later same is =
    let here = slice_get-as_long old new is.step.item.centre is.history later.whole is.there in
    let longer : IsLonger agent top is.history here.0 = later.each is.step.item.centre is.history here.0 is.there here.1 in
    let id : CallId = call_of agent (k + 1) in
    let permits : Type 0 = Permits c a.role is.step.item.centre (primitive_of is.asked) in
    let origin : Origin = origin_of c is.centre in
    record {
      number = is.number;
      step = is.step;
      asked = is.asked;
      asks = subst (λ rs. IsAsk a.scripts k rs is.step is.asked) (sym same) is.asks;
      ask = is.ask;
      centre = is.centre;
      known = is.known;
      named = is.named;
      history = here.0;
      there = here.1;
      result = subst (λ h. IsResult permits origin h id is.asked row.result) (sym longer.grown)
          (IsResult-append permits origin is.history longer.more id is.asked row.result
          (above-top (k + 1) top (calls_of agent longer.more) within longer.above) is.result);
    }

-- Logs that agree with the histories follow their scripts.
use Rattle.std.proofs.Common.{◌≡◌, ◌∙◌, ℕ, ◌+◌, true, List, Some, All, length, map, sym, ap, subst}
use Rattle.std.specs.List.{slice_get}
use Rattle.std.proofs.lemmas.Option.{same_Some}
use Rattle.tc_config.specs.Configurations.{Configuration, IsConfig, centre_names}
use Rattle.tc_config.specs.Good.{Follows, IsNoLook, IsRow, IsServedNumber, Permits, origin_of}
use Rattle.tc_config.specs.declared.configs.AgentConf.{AgentConf}
use Rattle.tc_config.specs.declared.configs.CentreConf.{CentreConf}
use Rattle.tc_desk.specs.Agreeing.{Agrees, AgreesRow, HasRow, IsMadeBy}
use Rattle.tc_desk.specs.Decided.{IsDecided, IsDecidedAs, IsReadAs}
use Rattle.tc_desk.specs.Logs.{is_served}
use Rattle.tc_desk.specs.Served.{IsResult, IsServedAs}
use Rattle.tc_desk.specs.declared.rows.LogRow.{LogRow}
use Rattle.tc_desk.specs.declared.rows.LogResult.{LogResult}
use Rattle.tc_desk.specs.declared.rows.LogResult.TheVariants.{Replied, Pending, Refused, Polled}
use Rattle.tc_desk.specs.declared.rows.Refusal.TheVariants as refusal
use Rattle.tc_model.specs.Asks.{primitive_of}
use Rattle.tc_model.specs.Calls.{id_of, calls_of, call_of}
use Rattle.tc_model.specs.State.{Origin}
use Rattle.tc_model.specs.declared.asks.Ask.{Ask}
use Rattle.tc_model.specs.declared.calls.CallId.{CallId}
use Rattle.tc_model.specs.declared.entries.Entry.{Entry}
use Rattle.tc_model.specs.declared.entries.Entry.TheVariants.{Called, Gave, Looked}
use Rattle.tc_lists.proofs.Sets.{slice_get-as_long, slice_get-map_at, slice_get-map_from}
use Rattle.tc_lists.proofs.Pairs.{AllPairs-one_place}
use Rattle.tc_sched.specs.Clients.{IsItemResult, IsOfScripts}

-- what a row says that agrees and is decided, its ask may have come to
result-of : (permits : Type 0) (origin : Origin) (history : List Entry) (id : CallId) (log : List LogRow) (k : ℕ) (row : LogRow) (ask : Ask) (became : LogResult)
    → row.ask ≡ Some ask → IsItemResult became → AgreesRow origin history id log k row became → IsReadAs ask became → IsDecidedAs permits became
    → IsResult permits origin history id ask became
result-of permits origin history id log k row ask (Replied r) is may agrees read decided =
    (decided, subst (λ x. IsServedAs origin history id x (Replied r)) (same_Some agrees.ask ask (sym agrees.asked ∙ is)) agrees.served)
result-of permits origin history id log k row ask Pending is may agrees read decided =
    (decided, subst (λ x. IsServedAs origin history id x Pending) (same_Some agrees.0.ask ask (sym agrees.0.asked ∙ is)) agrees.0.served)
result-of permits origin history id log k row ask (Refused refusal.UnknownCentre) is may agrees read decided = absurd may
result-of permits origin history id log k row ask (Refused refusal.Waiting) is may agrees read decided = absurd may
result-of permits origin history id log k row ask (Refused refusal.Denied) is may agrees read decided = decided
result-of permits origin history id log k row ask (Refused refusal.TooBig) is may agrees read decided = (decided, read)
result-of permits origin history id log k row ask (Refused refusal.NotGround) is may agrees read decided = (decided, read)
result-of permits origin history id log k row ask (Refused (refusal.BadSpec bad)) is may agrees read decided = (decided, read)
result-of permits origin history id log k row ask (Refused refusal.TurnsSpent) is may agrees read decided = absurd may
result-of permits origin history id log k row ask (Refused (refusal.Full weight pending)) is may agrees read decided =
    (decided, record { op = read.0; is = read.1; full = agrees })
result-of permits origin history id log k row ask (Refused refusal.NoMemory) is may agrees read decided = absurd may
result-of permits origin history id log k row ask (Polled told) is may agrees read decided = absurd may

-- whatever made an entry was served, where no row polled
served-by : (e : Entry) (became : LogResult) → IsItemResult became → IsMadeBy e became → is_served became ≡ true
served-by (Called id op result items) became may made = made
served-by (Looked id asked told) became may made = absurd (subst IsItemResult made may)
served-by (Gave id result items) became may made = absurd made

module _ (c : Configuration) (config : IsConfig c) (histories : List (List Entry)) (whole : length histories ≡ length c.centres)
    (agent : ℕ) (a : AgentConf) (log : List LogRow)
    (agrees : Agrees (map (origin_of c) c.centres) (centre_names c) histories agent log)
    (decided : IsDecided (Permits c a.role) (centre_names c) log)
    (are : IsOfScripts (centre_names c) a.scripts log) where
  abbrev name : CentreConf → List ℕ
  name s = s.name

  row-is : (k : ℕ) (row : LogRow) → slice_get log k ≡ Some row → IsRow c histories agent a log k row
  row-is k row at =
      let is = are.rows k row at in
      let place : ℕ = is.step.item.centre in
      let there = slice_get-map_from name c.centres place row.centre is.centre in
      let s : CentreConf = there.0 in
      let history = slice_get-as_long c.centres histories place s whole there.1 in
      record {
        number = agrees.numbers k row at;
        step = is.step;
        asked = is.asked;
        asks = is.asks;
        ask = is.ask;
        centre = s;
        known = there.1;
        named = sym there.2;
        history = history.0;
        there = history.1;
        result =
            result-of (Permits c a.role place (primitive_of is.asked)) (origin_of c s) history.0 (call_of agent (k + 1)) log k row is.asked row.result
            is.ask is.result
            (agrees.rows k place row (origin_of c s) history.0 at is.centre (slice_get-map_at (origin_of c) c.centres place s there.1) history.1)
            (decided.read k row is.asked at is.ask)
            (decided.decided k row is.asked place at is.ask is.centre);
      }

  served-number : (place : ℕ) (centre : List ℕ) (e : Entry) → slice_get (centre_names c) place ≡ Some centre → HasRow log centre e
      → IsServedNumber a log place (id_of e).number
  served-number place centre e at has =
      let is = are.rows has.k has.row has.stands in
      record {
        k = has.k;
        counted = has.counted;
        row = has.row;
        stands = has.stands;
        served = served-by e has.row.result is.result has.made;
        step = is.step;
        item = is.asks.stands;
        there = AllPairs-one_place (centre_names c) is.step.item.centre place centre config.centres_differ (is.centre ∙ ap Some has.there) at;
      }

  -- the name of the centre that has this history
  name-at : (place : ℕ) (history : List Entry) → slice_get histories place ≡ Some history
      → (centre : List ℕ) × (slice_get (centre_names c) place ≡ Some centre)
  name-at place history there =
      let s = slice_get-as_long histories c.centres place history (sym whole) there in
      (s.0.name, slice_get-map_at name c.centres place s.0 s.1)

  pub Follows-agreed : Follows c histories agent a log
  Follows-agreed = record {
    rows = row-is;
    last = are.last;
    calls = λ place history there k d inside.
        let centre = name-at place history there in
        served-number place centre.0 _ centre.1 (agrees.calls place centre.0 history centre.1 there k d inside);
  }

  -- the agent has made no look
  no-look : (e : Entry) (centre : List ℕ) → HasRow log centre e → IsNoLook e
  no-look (Called id op result items) centre has = tt
  no-look (Gave id result items) centre has = tt
  no-look (Looked id asked told) centre has = absurd (subst IsItemResult has.made (are.rows has.k has.row has.stands).result)

  pub no-looks : (place : ℕ) (history : List Entry) → slice_get histories place ≡ Some history → All IsNoLook (calls_of agent history)
  no-looks place history there k d inside =
      let centre = name-at place history there in
      no-look _ centre.0 (agrees.calls place centre.0 history centre.1 there k d inside)

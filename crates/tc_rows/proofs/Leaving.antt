-- Rows that a service has left, as a text tells them, may stand where they stand.
use Rattle.std.proofs.Common.{◌≡◌, ℕ, ◌+◌, ◌<◌, true, List, Some, None, Option, All, length, map, slice_get, take, refl, sym, subst, ap, ◌∙◌, arith}
use Rattle.std.proofs.lemmas.List.Elements.{All-weaker}
use Rattle.std.proofs.lemmas.Option.{slice_get_within}
use Rattle.tc_config.specs.Configurations.{Configuration, centre_names}
use Rattle.tc_config.specs.Good.{Permits, origin_of}
use Rattle.tc_config.specs.declared.configs.AgentConf.{AgentConf}
use Rattle.tc_config.specs.declared.configs.CentreConf.{CentreConf}
use Rattle.tc_desk.specs.Agreeing.{Agrees, AgreesRow, HasPolled, HasRow, HaveRows, IsMadeBy, NamesCentre}
use Rattle.tc_desk.specs.Decided.{IsDecided, IsDecidedAs}
use Rattle.tc_desk.specs.Logs.{is_served}
use Rattle.tc_desk.specs.Operands.{OpOf, Sound}
use Rattle.tc_desk.specs.declared.rows.LogResult.{LogResult}
use Rattle.tc_desk.specs.declared.rows.LogResult.TheVariants.{Replied, Pending, Refused, Polled}
use Rattle.tc_desk.specs.declared.rows.LogRow.{LogRow}
use Rattle.tc_desk.specs.declared.rows.Refusal.TheVariants as refusal
use Rattle.tc_desk.proofs.Growing.{AgreesRow-like, AreLike, IsLike}
use Rattle.tc_histline.specs.declared.lines.TextRow.{TextRow}
use Rattle.tc_histline.specs.declared.versions.Version.{Version}
use Rattle.tc_histline.specs.declared.versions.Version.TheVariants.{One, Two}
use Rattle.tc_histtext.specs.ReadTexts.{as_logged}
use Rattle.tc_lists.proofs.Sets.{slice_get-map_at, slice_get-map_from}
use Rattle.tc_model.specs.Asks.{primitive_of}
use Rattle.tc_model.specs.Calls.{call_of, calls_of}
use Rattle.tc_model.specs.Replies.{reply_in}
use Rattle.tc_model.specs.State.{Origin}
use Rattle.tc_model.specs.declared.asks.Ask.{Ask}
use Rattle.tc_model.specs.declared.asks.Ask.TheVariants.{Out, In, Rd, Inp, Rdp, No, Nop, SetSpec, GetSpec}
use Rattle.tc_model.specs.declared.asks.Primitive.{Primitive}
use Rattle.tc_model.specs.declared.calls.CallId.{CallId}
use Rattle.tc_model.specs.declared.calls.Op.{Op}
use Rattle.tc_model.specs.declared.calls.Op.TheVariants as operation
use Rattle.tc_model.specs.declared.entries.Entry.{Entry}
use Rattle.tc_model.specs.declared.entries.Entry.TheVariants.{Called, Gave, Looked}
use Rattle.tc_model.specs.declared.outcomes.Reply.{Reply}
use Rattle.tc_rows.specs.Rows.{logged, told, told_row}
use Rattle.tc_rows.specs.ServedRows.{AgreesTold, AreServedRows, AreUnanswered, IsServedRow, op_primitive}
use Rattle.tc_rows.proofs.Polling.{polled-rows}

-- an operation needs what its ask needs
op-needs : (ask : Ask) (op : Op) → OpOf ask (Sound op) → op_primitive op ≡ primitive_of ask
op-needs (Out t) op is = ap op_primitive is.2
op-needs (In t) op is = ap op_primitive is.1
op-needs (Rd t) op is = ap op_primitive is.1
op-needs (Inp t) op is = ap op_primitive is.1
op-needs (Rdp t) op is = ap op_primitive is.1
op-needs (No t) op is = ap op_primitive is.1
op-needs (Nop t) op is = ap op_primitive is.1
op-needs (SetSpec t) op is = ap op_primitive is.1.is
op-needs GetSpec op is = let same : op ≡ operation.GetSpec = cc in ap op_primitive same

module _ (version : Version) where
  -- what is told was served just where it was
  served-told : (result : LogResult) → is_served (told version result) ≡ is_served result
  served-told (Replied reply) = refl
  served-told Pending = refl
  served-told (Refused why) = refl
  served-told (Polled reply) = refl

  -- what made an entry is told so
  made-told : (e : Entry) (result : LogResult) → IsMadeBy e result → IsMadeBy e (told version result)
  made-told (Called id op outcome items) result is = served-told result ∙ is
  made-told (Looked id asked reply) result is = ap (told version) is
  made-told (Gave id outcome items) result is = absurd is

-- and it is told of the same centre
named-told : (version : Version) (names : List (List ℕ)) (centre : List ℕ) (result : LogResult) → NamesCentre names centre result
    → NamesCentre names centre (told version result)
named-told version names centre (Replied reply) is = is
named-told version names centre Pending is = is
named-told version names centre (Polled reply) is = is
named-told Two names centre (Refused why) is = is
named-told One names centre (Refused (refusal.Full weight pending)) is = is
named-told One names centre (Refused refusal.UnknownCentre) is = is
named-told One names centre (Refused refusal.Waiting) is = is
named-told One names centre (Refused refusal.Denied) is = is
named-told One names centre (Refused refusal.TooBig) is = is
named-told One names centre (Refused refusal.NotGround) is = is
named-told One names centre (Refused (refusal.BadSpec bad)) is = is
named-told One names centre (Refused refusal.TurnsSpent) is = is
named-told One names centre (Refused refusal.NoMemory) is = is

module _ (version : Version) (log : List LogRow) where
  abbrev rows : List TextRow
  rows = map (told_row version) log

  abbrev as_told : LogRow → LogRow
  as_told row = as_logged (told_row version row)

  there-told : (k : ℕ) (row : LogRow) → slice_get log k ≡ Some row → slice_get (logged rows) k ≡ Some (as_told row)
  there-told k row at =
      slice_get-map_at as_logged rows k (told_row version row) (slice_get-map_at (told_row version) log k row at)

  like-told : (k : ℕ) → AreLike k log (logged rows)
  like-told k = record {
    there = λ j x before at.
        let like : IsLike x (as_told x) = record { number = refl; centre = refl; served = served-told version x.result } in
        (as_told x, there-told j x at, like);
    back = λ j y before at.
        let r = slice_get-map_from as_logged rows j y at in
        let x = slice_get-map_from (told_row version) log j r.0 r.1 in
        let is : as_told x.0 ≡ y = ap as_logged x.2 ∙ r.2 in
        let like : IsLike x.0 (as_told x.0) = record { number = refl; centre = refl; served = served-told version x.0.result } in
        (x.0, x.1, subst (IsLike x.0) is like);
  }

  -- the row of an entry is told
  row-told : (centre : List ℕ) (e : Entry) → HasRow log centre e → HasRow (logged rows) centre e
  row-told centre e has = record {
    k = has.k;
    counted = has.counted;
    row = as_told has.row;
    stands = there-told has.k has.row has.stands;
    there = has.there;
    made = made-told version e has.row.result has.made;
  }

  module _ (permits : Primitive → Type 0) (origin : Origin) (history : List Entry) (id : CallId) (k : ℕ) (row : LogRow)
      (within : k < length rows)
      (decided : (ask : Ask) → row.ask ≡ Some ask → IsDecidedAs (permits (primitive_of ask)) row.result)
      (waits : row.result ≡ Pending → reply_in history id ≡ None) where
    abbrev Told : LogResult → Type 0
    Told result = AgreesTold version permits origin history id (logged (take k rows)) (as_told row) (told version result)

    -- what a row tells agrees as the row does
    agrees-told : (result : LogResult) → row.result ≡ result → AgreesRow origin history id log k row result → Told result
    agrees-told (Replied reply) is agrees =
        let may : permits (primitive_of agrees.ask) =
        subst (IsDecidedAs (permits (primitive_of agrees.ask))) is (decided agrees.ask agrees.asked) in (
          record {
            op = agrees.served.0.op;
            called = agrees.served.0.called;
            permitted = subst permits (sym (op-needs agrees.ask agrees.served.0.op agrees.served.0.is)) may;
          },
          agrees.served.1,
        )
    agrees-told Pending is agrees =
        let come = agrees.0 in
        let may : permits (primitive_of come.ask) =
        subst (IsDecidedAs (permits (primitive_of come.ask))) is (decided come.ask come.asked) in (
          record {
            op = come.served.op;
            called = come.served.called;
            permitted = subst permits (sym (op-needs come.ask come.served.op come.served.is)) may;
          },
          waits is,
        )
    agrees-told (Refused why) is agrees = record { whole = why; tells = refl; agrees = agrees }
    agrees-told (Polled reply) is agrees =
        let polled : HasPolled history id (logged rows) k row reply =
        AgreesRow-like origin history id log (logged rows) k row (Polled reply) (like-told k) agrees in
        (polled-rows history id rows k (as_told row) reply (omega (arith, within))).0
        (record { earlier = polled.earlier; last = polled.last; there = polled.there; stands = polled.stands })

-- rows of a log that agrees, is decided, and whose pending rows have no reply
pub left-served : (version : Version) (c : Configuration) (histories : List (List Entry)) (agent : ℕ) (a : AgentConf) (log : List LogRow)
    → Agrees (map (origin_of c) c.centres) (centre_names c) histories agent log
    → IsDecided (Permits c a.role) (centre_names c) log
    → AreUnanswered (centre_names c) histories agent log
    → AreServedRows version c histories agent a (map (told_row version) log)
left-served version c histories agent a log agrees decided waits =
    let rows : List TextRow = map (told_row version) log in
    let stands : (k : ℕ) (whole : LogRow) → slice_get log k ≡ Some whole
    → IsServedRow version c histories agent a rows k (told_row version whole) =
    λ k whole at. record {
      number = agrees.numbers k whole at;
      known = named-told version (centre_names c) whole.centre whole.result (agrees.known k whole at);
      agrees = λ place s history ats named ath.
          let name : slice_get (centre_names c) place ≡ Some whole.centre =
          slice_get-map_at (λ (x : CentreConf). x.name) c.centres place s ats ∙ ap Some named in
          agrees-told version log (Permits c a.role place) (origin_of c s) history (call_of agent (k + 1)) k whole
          (slice_get_within rows k (told_row version whole) (slice_get-map_at (told_row version) log k whole at))
          (λ ask asked. decided.decided k whole ask place at asked name)
          (λ pending. waits k place whole history at pending name ath)
          whole.result refl
          (agrees.rows k place whole (origin_of c s) history at name (slice_get-map_at (origin_of c) c.centres place s ats) ath);
    } in
    record {
      rows_are = λ k row at.
          let whole = slice_get-map_from (told_row version) log k row at in
          subst (IsServedRow version c histories agent a rows k) whole.2 (stands k whole.0 whole.1);
      calls = λ place centre history name ath.
          All-weaker (HasRow log centre) (HasRow (logged rows) centre) (row-told version log centre) (calls_of agent history)
          (agrees.calls place centre history name ath);
    }

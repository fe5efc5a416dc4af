-- Each line of what is written may stand in a text.
use Rattle.std.proofs.Common.{◌≡◌, ◌+◌, ℕ, Option, Some, None, IfSome, List, [], ◌∷◌, ◌++◌, All, map, slice_get, refl, subst, arith}
use Rattle.std.specs.List.{flat_map}
use Rattle.std.proofs.lemmas.List.Elements.{All-append, All-cons, All-head, All-map, All-nil, All-tail, All-weaker}
use Rattle.std.proofs.lemmas.Option.{slice_get_within}
use Rattle.tc_lists.proofs.Elements.{All-from_slice_get, All-slice_get}
use Rattle.tc_lists.proofs.Sets.{slice_get_inside}
use Rattle.tc_model.specs.Calls.{call_of}
use Rattle.tc_model.specs.Entries.{IsNumbered, IsOutcomeWellFormed}
use Rattle.tc_model.specs.State.{Origin}
use Rattle.tc_model.specs.Typed.{AreBytes, IsTypedItem, IsTypedOp, IsTypedOutcome, IsTypedReply}
use Rattle.tc_model.specs.declared.asks.Ask.{Ask}
use Rattle.tc_model.specs.declared.calls.CallId.{CallId}
use Rattle.tc_model.specs.declared.calls.Op.{Op}
use Rattle.tc_model.specs.declared.calls.Op.TheVariants.{Out, In, Rd, Inp, Rdp, No, Nop, SetSpec, GetSpec}
use Rattle.tc_model.specs.declared.entries.Entry.{Entry}
use Rattle.tc_model.specs.declared.entries.Entry.TheVariants.{Called, Gave, Looked}
use Rattle.tc_model.specs.declared.events.Phase.TheVariants.{Pre, Post}
use Rattle.tc_model.specs.declared.items.Item.{Item}
use Rattle.tc_model.specs.declared.outcomes.Outcome.{Outcome}
use Rattle.tc_model.specs.declared.outcomes.Outcome.TheVariants as outcome
use Rattle.tc_model.specs.declared.outcomes.Reply.{Reply}
use Rattle.tc_model.specs.declared.outcomes.Reply.TheVariants as reply
use Rattle.tc_desk.specs.Served.{IsResult}
use Rattle.tc_desk.specs.Typed.{IsTypedResult, IsTypedRow}
use Rattle.tc_desk.specs.declared.rows.LogResult.{LogResult}
use Rattle.tc_desk.specs.declared.rows.LogResult.TheVariants.{Replied, Pending, Refused, Polled}
use Rattle.tc_desk.specs.declared.rows.LogRow.{LogRow}
use Rattle.tc_desk.specs.declared.rows.Refusal.TheVariants as refusal
use Rattle.tc_config.specs.Configurations.{Configuration, IsAgent, IsCentre, IsConfig, agent_names, centre_names}
use Rattle.tc_config.specs.Good.{AllFollow}
use Rattle.tc_config.specs.declared.configs.AgentConf.{AgentConf}
use Rattle.tc_config.specs.declared.configs.CentreConf.{CentreConf}
use Rattle.tc_histline.specs.Lines.{HasLine, HasRowLine, IsResultIn}
use Rattle.tc_histline.specs.Operations.{IsWrittenIn, written_op}
use Rattle.tc_histline.specs.Outcomes.{IsOutcomeIn, IsReplyIn, IsToldIn}
use Rattle.tc_histline.specs.declared.lines.Line.{Line}
use Rattle.tc_histline.specs.declared.lines.Line.TheVariants as line
use Rattle.tc_histline.specs.declared.lines.TextRow.{TextRow}
use Rattle.tc_histline.specs.declared.versions.Version.TheVariants.{Two}
use Rattle.tc_histtext.specs.Lines.{HasLines, HaveLines}
use Rattle.tc_histtext.specs.ReadTexts.{entry_lines, histories_lines, lines_of, logs_lines}
use Rattle.tc_rows.specs.Rows.{told, told_row}
use Rattle.tc_verify.specs.RunTexts.{text_telling}

-- what is typed has a text in the second version
op-in : (op : Op) → IsTypedOp op → IsWrittenIn Two (written_op op)
op-in (Out t) typed = typed
op-in (In t) typed = typed
op-in (Rd t) typed = typed
op-in (Inp t) typed = typed
op-in (Rdp t) typed = typed
op-in (No t) typed = typed
op-in (Nop t) typed = typed
op-in (SetSpec clauses) typed = tt
op-in GetSpec typed = tt

outcome-in : (o : Outcome) → IsTypedOutcome o → IsOutcomeWellFormed o → IsOutcomeIn Two o
outcome-in outcome.Done typed formed = tt
outcome-in (outcome.Took t) typed formed = typed
outcome-in outcome.NoTuple typed formed = tt
outcome-in outcome.Absent typed formed = tt
outcome-in (outcome.Found t) typed formed = typed
outcome-in outcome.Pending typed formed = tt
outcome-in (outcome.Spec text) typed formed = tt
outcome-in (outcome.Over Pre None) typed formed = tt
outcome-in (outcome.Over Pre (Some t)) typed formed = absurd formed
outcome-in (outcome.Over Post None) typed formed = tt
outcome-in (outcome.Over Post (Some t)) typed formed = typed

reply-in : (r : Reply) → IsTypedReply r → IsReplyIn Two r
reply-in reply.Done typed = tt
reply-in (reply.Tuple t) typed = typed
reply-in reply.NoTuple typed = tt
reply-in reply.Absent typed = tt
reply-in (reply.Found t) typed = typed
reply-in (reply.Spec text) typed = tt
reply-in (reply.OverBudget phase) typed = tt

told-in : (r : Option Reply) → IfSome r IsTypedReply → IsToldIn Two r
told-in (Some r) typed = reply-in r typed
told-in None typed = tt

-- a result that is no want of memory has a line
result-in : (became : LogResult) → (became ≡ Refused refusal.NoMemory → ⊥) → IsTypedResult became → IsResultIn Two (told Two became)
result-in (Replied r) wants typed = reply-in r typed
result-in Pending wants typed = tt
result-in (Polled r) wants typed = told-in r typed
result-in (Refused refusal.UnknownCentre) wants typed = tt
result-in (Refused refusal.Waiting) wants typed = tt
result-in (Refused refusal.Denied) wants typed = tt
result-in (Refused refusal.TooBig) wants typed = tt
result-in (Refused refusal.NotGround) wants typed = tt
result-in (Refused (refusal.BadSpec bad)) wants typed = typed
result-in (Refused refusal.TurnsSpent) wants typed = tt
result-in (Refused (refusal.Full weight pending)) wants typed = typed
result-in (Refused refusal.NoMemory) wants typed = absurd (wants refl)

-- what an ask may have come to is none
no-want : (permits : Type 0) (origin : Origin) (history : List Entry) (id : CallId) (ask : Ask) (became : LogResult)
    → IsResult permits origin history id ask became → became ≡ Refused refusal.NoMemory → ⊥
no-want permits origin history id ask became is wants = (subst (IsResult permits origin history id ask) wants is).1

-- what is told of it in the second version is what it is
typed-told : (became : LogResult) → IsTypedResult became → IsTypedResult (told Two became)
typed-told (Replied r) typed = typed
typed-told Pending typed = tt
typed-told (Refused why) typed = typed
typed-told (Polled r) typed = typed

module _ (agents : List (List ℕ)) where
  -- the line may stand in a text of these agents
  abbrev Stands : Line → Type 0
  Stands l = HasLine Two agents l

  items-stand : (items : List Item) → All IsTypedItem items → All IsNumbered items → All Stands (map line.Reaction items)
  items-stand [] typed numbered = All-nil Stands
  items-stand (i ∷ is) typed numbered =
      All-cons Stands (line.Reaction i) (map line.Reaction is) (All-head IsTypedItem i is typed, All-head IsNumbered i is numbered)
      (items-stand is (All-tail IsTypedItem i is typed) (All-tail IsNumbered i is numbered))

  entry-stands : (e : Entry) → HasLines agents e → All Stands (entry_lines e)
  entry-stands (Called id op result items) has =
      All-cons Stands (line.Entry (Called id op result [])) (map line.Reaction items) (record {
        typed = (has.typed.0, has.typed.1, has.typed.2, All-nil IsTypedItem);
        agent = has.agent;
        written = (op-in op has.typed.1, outcome-in result has.typed.2 has.form.0, refl);
      }) (items-stand items has.typed.3 has.form.1)
  entry-stands (Gave id result items) has =
      All-cons Stands (line.Entry (Gave id result [])) (map line.Reaction items) (record {
        typed = (has.typed.0, has.typed.1, All-nil IsTypedItem);
        agent = has.agent;
        written = (outcome-in result has.typed.1 has.form.0, refl);
      }) (items-stand items has.typed.2 has.form.1)
  entry-stands (Looked id asked reply) has =
      All-cons Stands (line.Entry (Looked id asked reply)) [] (record {
        typed = has.typed;
        agent = has.agent;
        written = told-in reply has.typed.2;
      }) (All-nil Stands)

  history-stands : (history : List Entry) → All (HasLines agents) history → All Stands (flat_map entry_lines history)
  history-stands [] has = All-nil Stands
  history-stands (e ∷ es) has =
      All-append Stands (entry_lines e) (flat_map entry_lines es) (entry-stands e (All-head (HasLines agents) e es has))
      (history-stands es (All-tail (HasLines agents) e es has))

  histories-stand : (names : List (List ℕ)) (hs : List (List Entry)) → All AreBytes names → All (All (HasLines agents)) hs
      → All Stands (histories_lines names hs)
  histories-stand [] hs named has = All-nil Stands
  histories-stand (n ∷ ns) [] named has = All-nil Stands
  histories-stand (n ∷ ns) (h ∷ hs) named has =
      All-cons Stands (line.Centre n) (flat_map entry_lines h ++ histories_lines ns hs) (All-head AreBytes n ns named)
      (All-append Stands (flat_map entry_lines h) (histories_lines ns hs) (history-stands h (All-head (All (HasLines agents)) h hs has))
      (histories-stand ns hs (All-tail AreBytes n ns named) (All-tail (All (HasLines agents)) h hs has)))

  logs-stand : (names : List (List ℕ)) (logs : List (List TextRow)) → All AreBytes names → All (All (HasRowLine Two)) logs
      → All Stands (logs_lines names logs)
  logs-stand [] logs named has = All-nil Stands
  logs-stand (n ∷ ns) [] named has = All-nil Stands
  logs-stand (n ∷ ns) (l ∷ ls) named has =
      All-cons Stands (line.Agent n) (map line.Row l ++ logs_lines ns ls) (All-head AreBytes n ns named)
      (All-append Stands (map line.Row l) (logs_lines ns ls) (All-map Stands line.Row l (All-head (All (HasRowLine Two)) l ls has))
      (logs-stand ns ls (All-tail AreBytes n ns named) (All-tail (All (HasRowLine Two)) l ls has)))

-- no row tells of want of memory
abbrev pub NoneWants : List (List LogRow) → Type 0
NoneWants logs =
    (agent k : ℕ) (log : List LogRow) (row : LogRow) → slice_get logs agent ≡ Some log → slice_get log k ≡ Some row
    → row.result ≡ Refused refusal.NoMemory → ⊥

-- none of a run does
pub run-wants : (c : Configuration) (hs : List (List Entry)) (logs : List (List LogRow)) → AllFollow c hs logs → NoneWants logs
run-wants c hs logs follow agent k log row at there =
    let a = slice_get_inside c.agents agent (omega (arith, slice_get_within logs agent log at, follow.whole)) in
    let is = (follow.each agent a.0 log a.1 at).rows k row there in
    no-want _ _ is.history (call_of agent (k + 1)) is.asked row.result is.result

row-stands : (row : LogRow) → IsTypedRow row → (row.result ≡ Refused refusal.NoMemory → ⊥) → HasRowLine Two (told_row Two row)
row-stands row typed wants = record {
  number = typed.number;
  centre = typed.centre;
  result = typed-told row.result typed.result;
  written = result-in row.result wants typed.result;
}

rows-stand : (logs : List (List LogRow)) → NoneWants logs → All (All IsTypedRow) logs
    → All (All (HasRowLine Two)) (map (map (told_row Two)) logs)
rows-stand logs wants typed =
    All-map (All (HasRowLine Two)) (map (told_row Two)) logs
    (All-from_slice_get (λ (log : List LogRow). All (HasRowLine Two) (map (told_row Two) log)) logs
    (λ agent log at.
    All-map (HasRowLine Two) (told_row Two) log
    (All-from_slice_get (λ (row : LogRow). HasRowLine Two (told_row Two row)) log
    (λ k row there.
    row-stands row (All-slice_get IsTypedRow log k row (All-slice_get (All IsTypedRow) logs agent log typed at) there)
    (wants agent k log row at there)))))

-- each line of what histories and logs say may stand in a text
pub lines-stand : (c : Configuration) (hs : List (List Entry)) (logs : List (List LogRow)) → IsConfig c
    → HaveLines (centre_names c) (agent_names c) hs → NoneWants logs → All (All IsTypedRow) logs
    → All (HasLine Two (agent_names c)) (lines_of (centre_names c) (agent_names c) (text_telling Two hs logs))
lines-stand c hs logs config have wants typed =
    let P = HasLine Two (agent_names c) in
    let t = text_telling Two hs logs in
    let centres : All AreBytes (centre_names c) =
    All-map AreBytes (λ (s : CentreConf). s.name) c.centres (All-weaker IsCentre (λ (s : CentreConf). AreBytes s.name) (λ s is. is.name.bytes) c.centres config.centres) in
    let agents : All AreBytes (agent_names c) =
    All-map AreBytes (λ (a : AgentConf). a.name) c.agents (All-weaker (IsAgent c) (λ (a : AgentConf). AreBytes a.name) (λ a is. is.name.bytes) c.agents config.agents) in
    let histories = histories-stand (agent_names c) (centre_names c) hs centres have.lines in
    let rows = logs-stand (agent_names c) (agent_names c) t.logs agents (rows-stand logs wants typed) in
    let end = All-cons P (line.End t.blocked) [] tt (All-nil P) in
    All-cons P (line.First Two) _ tt
    (All-append P (histories_lines (centre_names c) hs) _ histories
    (All-append P (logs_lines (agent_names c) t.logs) (line.End t.blocked ∷ []) rows end))

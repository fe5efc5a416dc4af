-- What is known of an agent, as its log gets a row or a reply; and how much is left to do.
use Rattle.std.proofs.Common.{◌≡◌, ℕ, zero, suc, ◌+◌, ◌-◌, ◌<◌, ◌≤◌, true, false, ◌||◌, cond, List, [], ◌∷◌, ◌++◌, Some, length, get_or, refl, sym, ap, ◌∙◌, subst, arith, ⊎_elim}
use Rattle.std.proofs.Math.ListN.{set}
use Rattle.std.specs.List.{slice_get}
use Rattle.std.proofs.lemmas.Bool.{false≢true}
use Rattle.std.proofs.lemmas.List.{length-append, set_at}
use Rattle.std.proofs.lemmas.Option.{none-some, same_Some, get_or_from_slice_get}
use Rattle.tc_asks.specs.Nexts.{IsNextAsk}
use Rattle.tc_asks.specs.declared.next.Next.{Next}
use Rattle.tc_config.specs.Configurations.{Configuration}
use Rattle.tc_config.specs.Good.{Follows}
use Rattle.tc_config.specs.declared.configs.AgentConf.{AgentConf}
use Rattle.tc_desk.specs.Asks.{ScriptStep, steps_of}
use Rattle.tc_desk.specs.Logs.{any_pending, is_pending}
use Rattle.tc_desk.specs.declared.rows.LogRow.{LogRow}
use Rattle.tc_desk.specs.declared.rows.LogResult.{LogResult}
use Rattle.tc_desk.specs.declared.rows.LogResult.TheVariants.{Replied, Pending, Refused, Polled}
use Rattle.tc_lists.proofs.Parts.{nil_or_push}
use Rattle.tc_lists.proofs.Places.{slice_get_push, slice_get_pushed}
use Rattle.tc_model.specs.Scripts.{Lines}
use Rattle.tc_model.specs.declared.entries.Entry.{Entry}
use Rattle.tc_model.specs.declared.outcomes.Reply.{Reply}
use Rattle.tc_runner.specs.Clients.{AreClients, IsClient, IsLog, IsWaiting, WaitsAt, left_in, left_of, waits_of}
use Rattle.tc_runner.specs.Steps.{IsLastAnswered}
use Rattle.tc_runner.specs.declared.clients.Client.{Client}
use Rattle.tc_runner.proofs.Follow.{Follows-within}
use Rattle.tc_desk.proofs.Logs.{any_pending-front, any_pending-push, is_pending-true, any_pending-push_settled}
use Rattle.tc_lists.proofs.Sets.{slice_get_inside}
use Rattle.tc_lists.proofs.Bools.{cond-le_one}

-- where the agent waits after an ask
pub WaitsAt-asked : (scripts : List Lines) (log : List LogRow) (row : LogRow) (next : Next) (r : LogResult) → any_pending log ≡ false
    → IsNextAsk scripts log next → row.result ≡ r → WaitsAt scripts (log ++ row ∷ []) (waits_of r next.centre)
WaitsAt-asked scripts log row next Pending settled asks is = record {
  front = log;
  row = row;
  last = refl;
  pending = is;
  settled = settled;
  step = asks.step;
  item = asks.asks.stands;
  there = sym asks.centre;
}
WaitsAt-asked scripts log row next (Replied reply) settled asks is = any_pending-push_settled log row settled (ap is_pending is)
WaitsAt-asked scripts log row next (Refused why) settled asks is = any_pending-push_settled log row settled (ap is_pending is)
WaitsAt-asked scripts log row next (Polled reply) settled asks is = any_pending-push_settled log row settled (ap is_pending is)

-- the agent doesn't wait any more
pub settled-answered : (front : List LogRow) (row : LogRow) (reply : Reply) → any_pending front ≡ false
    → any_pending (front ++ record row { result = Replied reply } ∷ []) ≡ false
settled-answered front row reply settled = any_pending-push_settled front (record row { result = Replied reply }) settled refl

-- a row more, and less is left
pub left-asked : (a : AgentConf) (log : List LogRow) (row : LogRow) → any_pending log ≡ false
    → length (log ++ row ∷ []) ≤ length (steps_of a.scripts) → left_of a (log ++ row ∷ []) < left_of a log
left-asked a log row settled within =
    let most = cond-le_one (any_pending (log ++ row ∷ [])) in
    let none : ◌≡◌ {A = ℕ} (cond (any_pending log) 1 0) 0 = ap (λ b. cond b 1 0) settled in
    omega (arith, most, none, within, length-append log (row ∷ []))

-- the reply, and less is left
pub left-answered : (a : AgentConf) (front : List LogRow) (row : LogRow) (reply : Reply) → any_pending front ≡ false → row.result ≡ Pending
    → left_of a (front ++ record row { result = Replied reply } ∷ []) < left_of a (front ++ row ∷ [])
left-answered a front row reply settled pending =
    let now : LogRow = record row { result = Replied reply } in
    let none : ◌≡◌ {A = ℕ} (cond (any_pending (front ++ now ∷ [])) 1 0) 0 = ap (λ b. cond b 1 0) (settled-answered front row reply settled) in
    let one : ◌≡◌ {A = ℕ} (cond (any_pending (front ++ row ∷ [])) 1 0) 1 =
    ap (λ b. cond b 1 0) (any_pending-push front row ∙ ap (λ b. b || is_pending row.result) settled ∙ ap is_pending pending) in
    omega (arith, none, one, length-append front (row ∷ []), length-append front (now ∷ []))

-- less is left in all, where less is left for one agent
pub left_in-set : (agents : List AgentConf) (logs : List (List LogRow)) (k : ℕ) (a : AgentConf) (old new : List LogRow) → slice_get agents k ≡ Some a
    → slice_get logs k ≡ Some old → left_of a new < left_of a old → left_in agents (set logs k new) < left_in agents logs
left_in-set [] logs k a old new at was less = absurd (none-some a at)
left_in-set (b ∷ bs) [] k a old new at was less = absurd (none-some old was)
left_in-set (b ∷ bs) (l ∷ ls) zero a old new at was less =
    let same : b ≡ a = same_Some b a at in
    let here : l ≡ old = same_Some l old was in
    let less-here : left_of b new < left_of b l =
    subst (λ x. left_of b new < left_of b x) (sym here) (subst (λ x. left_of x new < left_of x old) (sym same) less) in
    omega (arith, less-here)
left_in-set (b ∷ bs) (l ∷ ls) (suc k) a old new at was less =
    let less-there = left_in-set bs ls k a old new at was less in omega (arith, less-there)

-- an agent of whose rows one is pending waits, and the last is that row
pub IsWaiting-last : (scripts : List Lines) (log : List LogRow) (place : ℕ) → IsLog scripts log → any_pending log ≡ true
    → ((step : ScriptStep) → slice_get (steps_of scripts) (length log - 1) ≡ Some step → step.item.centre ≡ place) → IsWaiting scripts log place
IsWaiting-last scripts log place is pending there =
    ⊎_elim
    (λ (none : log ≡ []). absurd (false≢true (sym (ap any_pending none) ∙ pending)))
    (λ (parts : (front : List LogRow) × (last : LogRow) × (log ≡ front ++ last ∷ [])).
    let front = parts.0 in
    let row = parts.1 in
    let many : length log ≡ length front + 1 = let same = ap length parts.2 in omega (arith, same, length-append front (row ∷ [])) in
    let settled : any_pending front ≡ false =
    any_pending-front front (row ∷ []) (λ k x at waits.
    let last = is.last k x (ap (λ l. slice_get l k) parts.2 ∙ at) waits in omega (arith, last, many)) in
    let here : is_pending row.result ≡ true =
    ap (λ b. b || is_pending row.result) (sym settled) ∙ sym (any_pending-push front row) ∙ sym (ap any_pending parts.2) ∙ pending in
    let step = slice_get_inside (steps_of scripts) (length front) (omega (arith, is.within, many)) in
    let waiting : IsWaiting scripts log place = record {
      front = front;
      row = row;
      last = parts.2;
      pending = is_pending-true row.result here;
      settled = settled;
      step = step.0;
      item = step.1;
      there = there step.0 (ap (slice_get (steps_of scripts)) (omega (arith, many)) ∙ step.1);
    } in
    waiting)
    (nil_or_push log)

-- there is a last row
pub some-row : (log : List LogRow) → any_pending log ≡ true → 1 ≤ length log
some-row [] pending = absurd (false≢true pending)
some-row (row ∷ rows) pending = omega arith

-- the last row gets its reply
pub IsAnswered-set : (reply : Reply) (log : List LogRow) (n : ℕ) (row : LogRow) → n + 1 ≡ length log → row ≡ get_or log n row
    → IsLastAnswered reply log (set log n (record row { result = Replied reply }))
IsAnswered-set reply log n row last at =
    ⊎_elim
    (λ (none : log ≡ []). absurd (let same = ap length none in omega (arith, same, last)))
    (λ (parts : (front : List LogRow) × (end : LogRow) × (log ≡ front ++ end ∷ [])).
    let front = parts.0 in
    let place : length front ≡ n = let same = ap length parts.2 in omega (arith, same, last, length-append front (parts.1 ∷ [])) in
    let end : row ≡ parts.1 =
    at ∙ ap (λ l. get_or l n row) parts.2 ∙ ap (λ k. get_or (front ++ parts.1 ∷ []) k row) (sym place)
    ∙ get_or_from_slice_get (front ++ parts.1 ∷ []) (length front) parts.1 row (slice_get_pushed front parts.1) in
    let answered : IsLastAnswered reply log (set log n (record row { result = Replied reply })) = record {
      front = front;
      row = row;
      last = parts.2 ∙ ap (λ x. front ++ x ∷ []) (sym end);
      now = ap (λ l. set l n (record row { result = Replied reply })) parts.2
          ∙ set_at front parts.1 [] (record row { result = Replied reply }) n place;
    } in
    answered)
    (nil_or_push log)

-- the first agents have their clients
pub record AreClientsBelow (n : ℕ) (agents : List AgentConf) (logs : List (List LogRow)) (clients : List Client) : Type 0 where
  pub many : length clients ≡ n
  pub each : (k : ℕ) (a : AgentConf) (log : List LogRow) (client : Client) → slice_get agents k ≡ Some a → slice_get logs k ≡ Some log
      → slice_get clients k ≡ Some client → IsClient k a.scripts log client

pub AreClientsBelow-none : (agents : List AgentConf) (logs : List (List LogRow)) → AreClientsBelow 0 agents logs []
AreClientsBelow-none agents logs = record { many = refl; each = λ k a log client who what which. absurd (none-some client which) }

pub AreClientsBelow-push : (n : ℕ) (agents : List AgentConf) (logs : List (List LogRow)) (clients : List Client) (a : AgentConf) (log : List LogRow) (client : Client)
    → AreClientsBelow n agents logs clients → slice_get agents n ≡ Some a → slice_get logs n ≡ Some log → IsClient n a.scripts log client
    → AreClientsBelow (n + 1) agents logs (clients ++ client ∷ [])
AreClientsBelow-push n agents logs clients a log client so stands at is = record {
  many = omega (arith, so.many, length-append clients (client ∷ []));
  each = λ k b l x who what which.
      ⊎_elim
      (λ (before : (k < length clients) × (slice_get clients k ≡ Some x)). so.each k b l x who what before.1)
      (λ (last : (k ≡ length clients) × (x ≡ client)).
      let here : k ≡ n = omega (arith, last.0, so.many) in
      let same-agent : a ≡ b = same_Some a b (sym stands ∙ ap (slice_get agents) (sym here) ∙ who) in
      let same-log : log ≡ l = same_Some log l (sym at ∙ ap (slice_get logs) (sym here) ∙ what) in
      subst (λ j. IsClient j b.scripts l x) (sym here)
      (subst (λ (y : AgentConf). IsClient n y.scripts l x) same-agent
      (subst (λ y. IsClient n a.scripts y x) same-log (subst (IsClient n a.scripts log) (sym last.1) is))))
      (slice_get_push clients client k x which);
}

pub AreClients-whole : (n : ℕ) (agents : List AgentConf) (logs : List (List LogRow)) (clients : List Client) → AreClientsBelow n agents logs clients
    → n ≡ length agents → AreClients agents logs clients
AreClients-whole n agents logs clients so all = record { whole = so.many ∙ all; each = so.each }

-- the log of an agent whose log follows
pub IsLog-follows : (c : Configuration) (agent : ℕ) (a : AgentConf) (histories : List (List Entry)) (log : List LogRow) → Follows c histories agent a log
    → IsLog a.scripts log
IsLog-follows c agent a histories log follows = record { last = follows.last; within = Follows-within c agent a histories log follows }

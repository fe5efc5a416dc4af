-- What the calls of a desk make of the rows of scripts.
use Rattle.std.proofs.Common.{◌≡◌, ◌≢◌, ◌↔◌, ℕ, ◌+◌, ◌-◌, ◌*◌, ◌<◌, ◌≤◌, true, false, ◌||◌, cond, List, [], ◌∷◌, Option, Some, IfSome, IfOk, IsErr, OnErr, Result, Ok, Err, get_or, length, refl, sym, ap, ◌∙◌, subst, arith, inl, inr, ⊎_elim, slice_index}
use Rattle.std.specs.List.{slice_get}
use Rattle.std.proofs.lemmas.Bool.{false≢true}
use Rattle.std.proofs.lemmas.List.{length-append}
use Rattle.std.proofs.lemmas.Option.{slice_get_within, slice_get-get_or}
use Rattle.tc_asks.specs.Nexts.{IsNextAsk}
use Rattle.tc_asks.specs.Progress.{HasTakenIn, Progress}
use Rattle.tc_asks.specs.declared.next.Next.{Next}
use Rattle.tc_desk.specs.Asks.{IsAsk, steps_of}
use Rattle.tc_desk.specs.Desks.{DeskState, Calls, Keeps, Spends, Makes, Refuses, MayRefuse, HasNoTurn, IsServedBy, IsRowAnswered, refused_log, replied, with_row}
use Rattle.tc_desk.specs.Logs.{any_pending, is_pending}
use Rattle.tc_desk.specs.declared.desks.Served.{Served}
use Rattle.tc_desk.specs.declared.desks.Served.TheVariants as served
use Rattle.tc_desk.specs.declared.rows.LogRow.{LogRow}
use Rattle.tc_desk.specs.declared.rows.LogResult.{LogResult}
use Rattle.tc_desk.specs.declared.rows.LogResult.TheVariants.{Refused}
use Rattle.tc_desk.specs.declared.rows.Refusal.{Refusal}
use Rattle.tc_desk.specs.declared.rows.Refusal.TheVariants as refusal
use Rattle.tc_lists.proofs.Options.{IfSome-at}
use Rattle.tc_lists.proofs.Places.{Contains-slice_get}
use Rattle.tc_lists.proofs.Bools.{cond-le_one}
use Rattle.tc_model.specs.Scripts.{Lines}
use Rattle.tc_model.specs.declared.asks.Ask.{Ask}
use Rattle.tc_model.specs.declared.outcomes.Reply.{Reply}
use Rattle.tc_sched.specs.Clients.{Client, IsActor, IsItemResult, IsOfScripts}
use Rattle.tc_sched.specs.Steps.{AsksNext, IsCall, IsReady, Steps, Went, left, left_of}
use Rattle.tc_sched.specs.declared.actor.Step.{Step}
use Rattle.tc_sched.specs.declared.actor.Step.TheVariants as step
use Rattle.tc_desk.proofs.Logs.{any_pending-push, results-whole}
use Rattle.tc_sched.proofs.Rows.{answered-last, next-placed, rows-answered, rows-front, rows-push, rows-within, taken-answered, taken-push}

served-item : (how : Served) (result : LogResult) → IsServedBy how result → IsItemResult result
served-item served.Replied result by = subst IsItemResult (sym by.1) tt
served-item served.Pending result by = subst IsItemResult (sym by) tt

-- a turn is left at each centre
abbrev pub HasTurns : DeskState → Type 0
HasTurns d = (k : ℕ) → k < length d.names → 1 ≤ slice_index d.turns k

pub turn-left : (d : DeskState) (centre : List ℕ) → HasTurns d → HasNoTurn d centre → ⊥
turn-left d centre turns spent =
    let within = slice_get_within d.names spent.place centre spent.named in
    let some = turns spent.place within in
    omega (arith, some, spent.none)

refused-item : (d e : DeskState) (centre : List ℕ) (place : ℕ) (ask : Ask) (why : Refusal) → HasTurns d → any_pending d.log ≡ false
    → slice_get d.names place ≡ Some centre → why ≢ refusal.NoMemory → MayRefuse d centre ask why e → IsItemResult (Refused why)
refused-item d e centre place ask refusal.UnknownCentre can idle named some may = absurd (may.0 (Contains-slice_get d.names place centre named))
refused-item d e centre place ask refusal.Waiting can idle named some may = absurd (false≢true (sym idle ∙ may.1))
refused-item d e centre place ask refusal.Denied can idle named some may = tt
refused-item d e centre place ask refusal.TooBig can idle named some may = tt
refused-item d e centre place ask refusal.NotGround can idle named some may = tt
refused-item d e centre place ask (refusal.BadSpec bad) can idle named some may = tt
refused-item d e centre place ask refusal.TurnsSpent can idle named some may = absurd (turn-left d centre can may.2)
refused-item d e centre place ask (refusal.Full weight pending) can idle named some may = tt
refused-item d e centre place ask refusal.NoMemory can idle named some may = absurd (some refl)

refused-row : (log : List LogRow) (centre : List ℕ) (ask : Ask) (why : Refusal) → why ≢ refusal.NoMemory
    → refused_log log centre ask why ≡ with_row log centre (Some ask) (Refused why)
refused-row log centre ask refusal.UnknownCentre some = refl
refused-row log centre ask refusal.Waiting some = refl
refused-row log centre ask refusal.Denied some = refl
refused-row log centre ask refusal.TooBig some = refl
refused-row log centre ask refusal.NotGround some = refl
refused-row log centre ask (refusal.BadSpec bad) some = refl
refused-row log centre ask refusal.TurnsSpent some = refl
refused-row log centre ask (refusal.Full weight pending) some = refl
refused-row log centre ask refusal.NoMemory some = absurd (some refl)

-- the log of a desk that was called has one row more
record HasRow (d e : DeskState) (centre : List ℕ) (ask : Ask) : Type 0 where
  result : LogResult
  item : IsItemResult result
  log : e.log ≡ with_row d.log centre (Some ask) result

-- the next ask may be made, at the centre of this name
pub record CanAsk {D : Type 0} (state : D → DeskState) (c : Client D) (next : Next) (centre : List ℕ) : Type 0 where
  pub turns : HasTurns (state c.desk)
  pub idle : any_pending (state c.desk).log ≡ false
  pub is : IsNextAsk c.scripts (state c.desk).log next
  pub named : slice_get (state c.desk).names next.centre ≡ Some centre

pub ready-turns : {D : Type 0} (state : D → DeskState) (names : List (List ℕ)) (c : Client D) → IsReady state 1 names c → HasTurns (state c.desk)
ready-turns state names c r k below = r.turns_left k (subst (λ (ns : List (List ℕ)). k < length ns) r.names below)

-- the centre of the next ask is one of the desk's
pub next-inside : {D : Type 0} (state : D → DeskState) (names : List (List ℕ)) (c w : Client D) (found : Option Next) (next : Next) → w ≡ c
    → IsReady state 1 names c → found ≡ Some next → IfSome found (IsNextAsk c.scripts (state c.desk).log) → next.centre < length (state w.desk).names
next-inside state names c w found next same ready at is =
    let asks = IfSome-at (IsNextAsk c.scripts (state c.desk).log) found next at is in
    subst (λ v. next.centre < length (state v.desk).names) (sym same)
    (subst (λ (ns : List (List ℕ)). next.centre < length ns) (sym ready.names)
    (next-placed (length names) c.scripts (state c.desk).log next ready.placed asks))

-- the next ask was made
module _ {D : Type 0} (state : D → DeskState) (c : Client D) (next : Next) (centre : List ℕ) (e : DeskState) (can : CanAsk state c next centre)
    (call : IsCall (state c.desk) centre next.ask e) where
  abbrev d : DeskState
  d = state c.desk

  has-row : HasRow d e centre next.ask
  has-row =
      ⊎_elim
      (λ (made : (how : Served) × Makes d centre next.ask how e). record {
        result = made.1.result;
        item = served-item made.0 made.1.result made.1.served;
        log = made.1.log;
      })
      (λ (refused : (why : Refusal) × (why ≢ refusal.NoMemory) × Refuses d centre next.ask why e). record {
        result = Refused refused.0;
        item = refused-item d e centre next.centre next.ask refused.0 can.turns can.idle can.named refused.1 refused.2.may;
        log = refused.2.log ∙ refused-row d.log centre next.ask refused.0 refused.1;
      })
      call

  abbrev row : LogRow
  row = record { number = length d.log + 1; centre = centre; ask = Some next.ask; result = has-row.result }

  pub asks-next : AsksNext c.scripts d e
  asks-next = record { idle = can.idle; next = next; is = can.is; centre = centre; named = can.named; made = call }

  pub asked-actor : (asker : Option Progress) → IsActor d c.scripts asker → e.names ≡ d.names → IsActor e c.scripts asker
  asked-actor asker is same = record {
    rows = subst (λ ns. IsOfScripts ns c.scripts e.log) (sym same)
        (subst (IsOfScripts d.names c.scripts) (sym has-row.log)
        (rows-push d.names c.scripts d.log row is.rows can.idle
        (record {
          number = refl;
          step = can.is.step;
          asked = next.ask;
          asks = subst (λ rs. IsAsk c.scripts (length d.log) rs can.is.step next.ask) (sym (results-whole d.log (row ∷ []))) can.is.asks;
          ask = refl;
          centre = ap (slice_get d.names) (sym can.is.centre) ∙ can.named;
          result = has-row.item;
        })));
    taken = subst (λ l. IfSome asker (HasTakenIn c.scripts l)) (sym has-row.log) (taken-push c.scripts d.log (row ∷ []) asker is.taken);
  }

  pub asked-left : left e c.scripts < left_of state c
  asked-left =
      let most = cond-le_one (any_pending e.log) in
      let none : ◌≡◌ {A = ℕ} (cond (any_pending d.log) 1 0) 0 = ap (λ b. cond b 1 0) can.idle in
      let within = slice_get_within (steps_of c.scripts) (length d.log) can.is.step can.is.asks.stands in
      let long : length e.log ≡ length d.log + 1 = ap length has-row.log ∙ length-append d.log (row ∷ []) in
      omega (arith, most, none, within, long)

-- what has come of the next ask, for an agent that is seen as c, and whose desk is then x
pub record Asked {D B : Type 0} (state : D → DeskState) (bond : D → B) (is_sound : D → Type 0) (c w : Client D) (x : D) (asker : Option Progress) : Type 0 where
  pub actor : IsActor (state x) w.scripts asker
  pub went : Went state bond is_sound 1 c (record w { desk = x })
  pub asks : AsksNext c.scripts (state c.desk) (state x)
  pub less : left (state x) w.scripts < left_of state c

-- what every call of a desk does
pub record Called {D B : Type 0} (state : D → DeskState) (bond : D → B) (is_sound : D → Type 0) (d x : D) : Type 0 where
  pub bound : bond x ≡ bond d
  pub kept : Keeps (state d) (state x)
  pub spent : Spends 1 (state d) (state x)
  pub sound : is_sound d → is_sound x

pub asked : {D B : Type 0} (state : D → DeskState) (bond : D → B) (is_sound : D → Type 0) (c w : Client D) (x : D) (asker : Option Progress) (next : Next) (centre : List ℕ)
    → w ≡ c → CanAsk state w next centre → IsCall (state w.desk) centre next.ask (state x) → Called state bond is_sound w.desk x → IsActor (state w.desk) w.scripts asker
    → Asked state bond is_sound c w x asker
asked {D} state bond is_sound c w x asker next centre same can call called is =
    let less = asked-left state w next centre (state x) can call in record {
      actor = asked-actor state w next centre (state x) can call asker is called.kept.names;
      went = subst (λ (u : Client D). Went state bond is_sound 1 u (record w { desk = x })) same
          (record {
            bound = called.bound;
            agent = refl;
            scripts = refl;
            kept = called.kept;
            spent = called.spent;
            sound = called.sound;
            left = omega (arith, less);
          });
      asks = subst (λ (u : Client D). AsksNext u.scripts (state u.desk) (state x)) same (asks-next state w next centre (state x) can call);
      less = subst (λ (u : Client D). left (state x) w.scripts < left_of state u) same less;
    }

-- what has come of a step that ended with the call of the next ask, for an agent that is seen as c, and whose desk is then x
pub record Stepped {D B E : Type 0} (state : D → DeskState) (bond : D → B) (is_sound : D → Type 0) (c w : Client D) (x : D) (asker : Option Progress)
    (result : Result Step E) : Type 0 where
  pub actor : IsActor (state x) w.scripts asker
  pub went : Went state bond is_sound 1 c (record w { desk = x })
  pub steps : IfOk result (λ s. Steps state c s (record w { desk = x }))
  pub less : IfOk result (λ s. s ≡ step.Moved → left (state x) w.scripts < left_of state c)
  pub same : OnErr result ((state x).log ≡ (state c.desk).log)

module _ {D B E : Type 0} (state : D → DeskState) (bond : D → B) (is_sound : D → Type 0) (c w : Client D) (x : D) (asker : Option Progress) (same : w ≡ c)
    (called : Called state bond is_sound w.desk x) (is : IsActor (state w.desk) w.scripts asker) where
  -- the ask was made
  asked-moved : (s : Step) → s ≡ step.Moved → Asked state bond is_sound c w x asker → Stepped {E = E} state bond is_sound c w x asker (Ok s)
  asked-moved s moved all = record {
    actor = all.actor;
    went = all.went;
    steps = subst (λ t. Steps state c t (record w { desk = x })) (sym moved) (inr all.asks);
    less = λ _. all.less;
    same = tt;
  }

  -- there was no memory for it
  not-asked : (e : E) → (state x).log ≡ (state w.desk).log → Stepped {E = E} state bond is_sound c w x asker (Err e)
  not-asked e still = record {
    actor = record {
      rows = subst (λ ns. IsOfScripts ns w.scripts (state x).log) (sym called.kept.names)
          (subst (IsOfScripts (state w.desk).names w.scripts) (sym still) is.rows);
      taken = subst (λ l. IfSome asker (HasTakenIn w.scripts l)) (sym still) is.taken;
    };
    went = subst (λ (u : Client D). Went state bond is_sound 1 u (record w { desk = x })) same
        (record {
          bound = called.bound;
          agent = refl;
          scripts = refl;
          kept = called.kept;
          spent = called.spent;
          sound = called.sound;
          left = subst (λ l. 2 * (length (steps_of w.scripts) - length l) + cond (any_pending l) 1 0 ≤ left_of state w) (sym still) (omega arith);
        });
    steps = tt;
    less = tt;
    same = still ∙ ap (λ (u : Client D). (state u.desk).log) same;
  }

  stepped-at : (next : Next) (centre : List ℕ) (call : Result Served Refusal) (result : Result Step E) → CanAsk state w next centre
      → IfOk result (λ s. s ≡ step.Moved) → (IsErr result ↔ (call ≡ Err refusal.NoMemory)) → Calls (state w.desk) centre next.ask call (state x)
      → Stepped state bond is_sound c w x asker result
  stepped-at next centre (Ok how) (Ok s) can moved memory became =
      asked-moved s moved (asked state bond is_sound c w x asker next centre same can (inl (how, became)) called is)
  stepped-at next centre (Ok how) (Err e) can moved memory became = absurd (cc (memory.0 refl))
  stepped-at next centre (Err why) (Ok s) can moved memory became =
      asked-moved s moved
      (asked state bond is_sound c w x asker next centre same can
      (inr (why, (λ none. absurd (cc (memory.1 (ap Err none)))), became)) called is)
  stepped-at next centre (Err why) (Err e) can moved memory became =
      let none : why ≡ refusal.NoMemory = cc (memory.0 refl) in
      not-asked e (became.log ∙ ap (refused_log (state w.desk).log centre next.ask) none)

  -- the next ask was made, or there was no memory for it
  pub stepped : (names : List (List ℕ)) (found : Option Next) (next : Next) (call : Result Served Refusal) (result : Result Step E)
      → IsReady state 1 names c → any_pending (state c.desk).log ≡ false → found ≡ Some next → IfSome found (IsNextAsk c.scripts (state c.desk).log)
      → ((centre : List ℕ) → slice_get (state w.desk).names next.centre ≡ Some centre → Calls (state w.desk) centre next.ask call (state x))
      → IfOk result (λ s. s ≡ step.Moved) → (IsErr result ↔ (call ≡ Err refusal.NoMemory))
      → Stepped state bond is_sound c w x asker result
  stepped names found next call result ready idle at asks became moved memory =
      let centre = get_or (state w.desk).names next.centre [] in
      let named = slice_get-get_or (state w.desk).names next.centre [] (next-inside state names c w found next same ready at asks) in
      let can : CanAsk state w next centre = record {
        turns = subst (λ (v : Client D). HasTurns (state v.desk)) (sym same) (ready-turns state names c ready);
        idle = subst (λ (v : Client D). any_pending (state v.desk).log ≡ false) (sym same) idle;
        is = subst (λ (v : Client D). IsNextAsk v.scripts (state v.desk).log next) (sym same)
            (IfSome-at (IsNextAsk c.scripts (state c.desk).log) found next at asks);
        named = named;
      } in
      stepped-at next centre call result can moved memory (became centre named)

-- a look that found the reply
module _ (d e : DeskState) (scripts : List Lines) (reply : Reply) (of : IsOfScripts d.names scripts d.log) (answered : IsRowAnswered d.log reply e.log) where
  pub answered-actor : (asker : Option Progress) → IsActor d scripts asker → e.names ≡ d.names → IsActor e scripts asker
  answered-actor asker is same = record {
    rows = subst (λ ns. IsOfScripts ns scripts e.log) (sym same) (rows-answered d.names scripts d.log e.log reply of answered);
    taken = taken-answered d.names scripts d.log e.log reply asker of answered is.taken;
  }

  was-pending : any_pending d.log ≡ true
  was-pending =
      let last = answered-last d.names scripts d.log e.log reply of answered in
      let settled = rows-front d.names scripts answered.front answered.row (subst (IsOfScripts d.names scripts) last.from of) in
      ap any_pending last.from ∙ any_pending-push answered.front answered.row
      ∙ ap (λ b. b || is_pending answered.row.result) settled ∙ ap is_pending answered.pending

  pub answered-left : left e scripts < left d scripts
  answered-left =
      let last = answered-last d.names scripts d.log e.log reply of answered in
      let none : ◌≡◌ {A = ℕ} (cond (any_pending e.log) 1 0) 0 = ap (λ b. cond b 1 0) answered.settled in
      let one : ◌≡◌ {A = ℕ} (cond (any_pending d.log) 1 0) 1 = ap (λ b. cond b 1 0) was-pending in
      let before = ap length last.from in
      let after = ap length last.to in
      let most = rows-within d.names scripts d.log of in
      omega (arith, none, one, before, after, most, length-append answered.front (answered.row ∷ []), length-append answered.front (replied answered.row reply ∷ []))

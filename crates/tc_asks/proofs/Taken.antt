-- What an asker has taken in, as it takes in a row or goes on to a script, and as the log changes.
use Rattle.std.proofs.Common.{◌≡◌, ◌<◌, ◌≤◌, ◌+◌, if◌then◌else◌, inl, inr, ℕ, true, false, List, [], ◌∷◌, ◌++◌, Option, Some, length, take, get_or, refl, ap, sym, ◌∙◌, subst, length-append, arith}
use Rattle.std.specs.List.{slice_get}
use Rattle.std.specs.Option.{option_map}
use Rattle.std.proofs.Math.Seq.{get_or-append_seam}
use Rattle.std.proofs.lemmas.Bool.{cases_lt, false_from_ne_true}
use Rattle.std.proofs.lemmas.Bool.Decides.{eqb_tells}
use Rattle.std.proofs.lemmas.List.{length-map, length-take, map-append, take-append-le, take_all}
use Rattle.std.proofs.lemmas.List.Elements.{All-push, All-same}
use Rattle.std.proofs.lemmas.Option.{get_or_from_slice_get, slice_get-map, slice_get_within}
use Rattle.std.proofs.lemmas.List.Folds.{list_any-from_Any}
use Rattle.tc_lists.proofs.Parts.{take_read}
use Rattle.tc_term.specs.Equations.{Equation, Equations}
use Rattle.tc_term.specs.Tree.{Tree}
use Rattle.tc_model.specs.Scripts.{Lines}
use Rattle.tc_model.specs.declared.asks.Ask.{Ask}
use Rattle.tc_model.specs.declared.scripts.ScriptItem.{ScriptItem}
use Rattle.tc_desk.specs.Asks.{AreValues, IsFilled, ScriptStep, equation, equations, steps_of}
use Rattle.tc_desk.specs.Logs.{any_pending, is_pending, results_of}
use Rattle.tc_desk.specs.declared.rows.LogRow.{LogRow}
use Rattle.tc_desk.specs.declared.rows.LogResult.TheVariants.{Pending}
use Rattle.tc_asks.specs.Bindings.{AreKnown}
use Rattle.tc_asks.specs.Nexts.{IsNextAsk}
use Rattle.tc_asks.specs.Places.{IsItemAt, IsPlaced, script_at}
use Rattle.tc_asks.specs.Progress.{HasTakenIn, Progress}
use Rattle.tc_asks.proofs.Steps.{step_at}
use Rattle.tc_asks.proofs.Told.{equations-longer, equations-next, equations-none, said}

-- what the rows before a row say of the script in which its item stands, and what the row says
abbrev pub said_before : List Lines → List LogRow → Progress → List Equation
said_before scripts log p = equations p.script (take p.rows (steps_of scripts)) (results_of log)

said_next : (scripts : List Lines) (log : List LogRow) (p : Progress) (i : ScriptItem) (row : LogRow) → IsPlaced scripts p.script p.item p.rows →
    IsItemAt scripts p.script p.item i → slice_get log p.rows ≡ Some row →
    equations p.script (take (p.rows + 1) (steps_of scripts)) (results_of log) ≡ said_before scripts log p ++ equation i.ask row.result
said_next scripts log p i row placed at came =
    let step : ScriptStep = record { script = p.script; vars = (script_at scripts p.script).vars; item = i } in
    let own : said p.script step row.result ≡ equation i.ask row.result =
    elim (eqb_tells p.script p.script) [
      | inl same ↦ ap (λ b. if b then equation i.ask row.result else []) same.0
      | inr other ↦ absurd (other.1 refl)
    ] in
    equations-next p.script p.rows (steps_of scripts) step (results_of log) row.result (step_at scripts p.script p.item p.rows i placed at)
    (slice_get-map (λ (r : LogRow). r.result) log p.rows ∙ ap (option_map (λ (r : LogRow). r.result)) came)
    ∙ ap (λ es. said_before scripts log p ++ es) own

-- the row of the next item is taken in
pub taken_next : (scripts : List Lines) (log : List LogRow) (p : Progress) (i : ScriptItem) (row : LogRow) (known : Option Equations) →
    HasTakenIn scripts log p → IsItemAt scripts p.script p.item i → slice_get log p.rows ≡ Some row → is_pending row.result ≡ false →
    ((vars : ℕ) (es : List Equation) → AreKnown vars es p.known → AreKnown vars (es ++ equation i.ask row.result) known) →
    HasTakenIn scripts log (record { rows = p.rows + 1; script = p.script; item = p.item + 1; known = known })
taken_next scripts log p i row known taken at came settled told =
    let within : p.rows < length log = slice_get_within log p.rows row came in
    record {
      rows = omega (arith, within);
      settled =
          All-same (λ (r : LogRow). is_pending r.result ≡ false) (take (p.rows + 1) log) (take p.rows log ++ row ∷ [])
          (take_read log p.rows row within (sym (get_or_from_slice_get log p.rows row row came)))
          (All-push (λ (r : LogRow). is_pending r.result ≡ false) (take p.rows log) row taken.settled settled);
      placed = record {
        before = omega (arith, taken.placed.before);
        inside = omega (arith, slice_get_within (script_at scripts p.script).items p.item i at.stands);
      };
      known =
          subst (λ es. AreKnown (script_at scripts p.script).vars es known) (sym (said_next scripts log p i row taken.placed at came))
          (told (script_at scripts p.script).vars (said_before scripts log p) taken.known);
    }

-- a script is begun
begun : (scripts : List Lines) (log : List LogRow) (p : Progress) (n : ℕ) (known : Option Equations) →
    HasTakenIn scripts log p → IsPlaced scripts n 0 p.rows → AreKnown (script_at scripts n).vars [] known →
    HasTakenIn scripts log (record { rows = p.rows; script = n; item = 0; known = known })
begun scripts log p n known taken placed known_none = record {
  rows = taken.rows;
  settled = taken.settled;
  placed = placed;
  known =
      subst (λ es. AreKnown (script_at scripts n).vars es known) (sym (equations-none scripts n p.rows (results_of log) placed)) known_none;
}

pub taken_onward : (scripts : List Lines) (log : List LogRow) (p : Progress) (n k : ℕ) (known : Option Equations) → k ≡ 0 →
    HasTakenIn scripts log p → IsPlaced scripts n k p.rows → AreKnown (script_at scripts n).vars [] known →
    HasTakenIn scripts log (record { rows = p.rows; script = n; item = k; known = known })
taken_onward scripts log p n k known first taken placed known_none =
    subst (λ m. HasTakenIn scripts log (record { rows = p.rows; script = n; item = m; known = known })) (sym first)
    (begun scripts log p n known taken (subst (λ m. IsPlaced scripts n m p.rows) first placed) known_none)

-- rows that come behind change nothing
said_longer : (scripts : List Lines) (log more : List LogRow) (p : Progress) → p.rows ≤ length log → said_before scripts (log ++ more) p ≡ said_before scripts log p
said_longer scripts log more p few =
    let steps = take p.rows (steps_of scripts) in
    ap (equations p.script steps) (map-append (λ (r : LogRow). r.result) log more)
    ∙ equations-longer p.script steps (results_of log) (results_of more)
    (omega (arith, few, length-take p.rows (steps_of scripts), length-map log (λ (r : LogRow). r.result)))

pub taken_longer : (scripts : List Lines) (log more : List LogRow) (p : Progress) → HasTakenIn scripts log p → HasTakenIn scripts (log ++ more) p
taken_longer scripts log more p taken = record {
  rows = omega (arith, taken.rows, length-append log more);
  settled =
      All-same (λ (r : LogRow). is_pending r.result ≡ false) (take p.rows (log ++ more)) (take p.rows log) (take-append-le p.rows log more taken.rows) taken.settled;
  placed = taken.placed;
  known =
      subst (λ es. AreKnown (script_at scripts p.script).vars es p.known) (sym (said_longer scripts log more p taken.rows)) taken.known;
}

-- a row that is pending has not been taken in
pub taken_shorter : (scripts : List Lines) (log : List LogRow) (row : LogRow) (p : Progress) → row.result ≡ Pending →
    HasTakenIn scripts (log ++ row ∷ []) p → HasTakenIn scripts log p
taken_shorter scripts log row p pending taken =
    let all = log ++ row ∷ [] in
    let few : p.rows ≤ length log =
    elim (cases_lt (length log) p.rows) [
      | inl past ↦
          let whole : take p.rows all ≡ all = take_all p.rows all (omega (arith, past, length-append log (row ∷ []))) in
          let last : is_pending row.result ≡ false =
          ap (λ (r : LogRow). is_pending r.result) (sym (get_or-append_seam log row [] row) ∙ ap (λ rs. get_or rs (length log) row) (sym whole))
          ∙ taken.settled (length log) row (omega (arith, ap length whole, length-append log (row ∷ []))) in
          let apart : true ≡ false = sym (ap is_pending pending) ∙ last in
          absurd (cc)
      | inr within ↦ within
    ] in
    record {
      rows = few;
      settled =
          All-same (λ (r : LogRow). is_pending r.result ≡ false) (take p.rows log) (take p.rows all)
          (sym (take-append-le p.rows log (row ∷ []) few)) taken.settled;
      placed = taken.placed;
      known = subst (λ es. AreKnown (script_at scripts p.script).vars es p.known) (said_longer scripts log (row ∷ []) p few) taken.known;
    }

-- where no row is pending, this row isn't
pub unpending : (log : List LogRow) (k : ℕ) (row : LogRow) → any_pending log ≡ false → slice_get log k ≡ Some row → is_pending row.result ≡ false
unpending log k row none at =
    false_from_ne_true (is_pending row.result) (λ is.
    let within = slice_get_within log k row at in
    let some : any_pending log ≡ true =
    list_any-from_Any (λ (r : LogRow). is_pending r.result) log (k, row, within, get_or_from_slice_get log k row row at, is) in
    let apart : true ≡ false = sym some ∙ none in
    absurd (cc))

-- the next item, filled, is what is asked next
pub next_found : (scripts : List Lines) (log : List LogRow) (p : Progress) (i : ScriptItem) (ask : Ask) → HasTakenIn scripts log p → p.rows ≡ length log →
    IsItemAt scripts p.script p.item i →
    ((vars : ℕ) (es : List Equation) → AreKnown vars es p.known → (values : List (Option Tree)) × AreValues vars es values) →
    ((vars : ℕ) (es : List Equation) (values : List (Option Tree)) → AreKnown vars es p.known → AreValues vars es values → IsFilled values i.ask ask) →
    IsNextAsk scripts log (record { centre = i.centre; ask = ask })
next_found scripts log p i ask taken whole at valued filled =
    let vars = (script_at scripts p.script).vars in
    let value = valued vars (said_before scripts log p) taken.known in
    record {
      step = record { script = p.script; vars = vars; item = i };
      asks = record {
        stands = ap (slice_get (steps_of scripts)) (sym whole) ∙ step_at scripts p.script p.item p.rows i taken.placed at;
        values = value.0;
        exact = subst (λ n. AreValues vars (equations p.script (take n (steps_of scripts)) (results_of log)) value.0) whole value.1;
        filled = filled vars (said_before scripts log p) value.0 taken.known value.1;
      };
      centre = refl;
    }

-- What an agent asks, by what a text tells of the asks before.
use Rattle.std.proofs.Common.{◌≡◌, ℕ, ◌==◌, if◌then◌else◌, List, [], ◌∷◌, ◌++◌, map, take, refl, subst, ap, ap₂, ◌∙◌}
use Rattle.std.proofs.lemmas.List.{take-map}
use Rattle.tc_term.specs.Equations.{Equation}
use Rattle.tc_config.specs.Configurations.{Configuration}
use Rattle.tc_config.specs.Good.{IsRow}
use Rattle.tc_config.specs.declared.configs.AgentConf.{AgentConf}
use Rattle.tc_desk.specs.Asks.{AreValues, IsAsk, ScriptStep, equation, equations, steps_of}
use Rattle.tc_desk.specs.Logs.{results_of}
use Rattle.tc_desk.specs.declared.rows.LogRow.{LogRow}
use Rattle.tc_desk.specs.declared.rows.LogResult.{LogResult}
use Rattle.tc_desk.specs.declared.rows.LogResult.TheVariants.{Replied, Pending, Refused, Polled}
use Rattle.tc_histline.specs.declared.versions.Version.{Version}
use Rattle.tc_model.specs.Scripts.{Lines}
use Rattle.tc_model.specs.declared.asks.Ask.{Ask}
use Rattle.tc_model.specs.declared.entries.Entry.{Entry}
use Rattle.tc_rows.specs.Rows.{logged, told, told_row}

-- results after which the same is equal
abbrev pub AreAlike : List LogResult → List LogResult → Type 0
AreAlike rs qs = (script : ℕ) (steps : List ScriptStep) → equations script steps rs ≡ equations script steps qs

module _ (version : Version) where
  -- what is told of a result says the same of a template
  equation-told : (ask : Ask) (r : LogResult) → equation ask (told version r) ≡ equation ask r
  equation-told ask (Replied reply) = refl
  equation-told ask Pending = refl
  equation-told ask (Refused why) = refl
  equation-told ask (Polled reply) = refl

  equations-told : (script : ℕ) (steps : List ScriptStep) (rs : List LogResult)
      → equations script steps (map (told version) rs) ≡ equations script steps rs
  equations-told script [] rs = refl
  equations-told script (s ∷ ss) [] = refl
  equations-told script (s ∷ ss) (r ∷ rs) =
      ap₂ (λ (here : List Equation) (behind : List Equation). (if s.script == script then here else []) ++ behind)
      (equation-told s.item.ask r) (equations-told script ss rs)

  results-told : (log : List LogRow) → results_of (logged (map (told_row version) log)) ≡ map (told version) (results_of log)
  results-told [] = refl
  results-told (row ∷ log) = ap (λ rs. told version row.result ∷ rs) (results-told log)

  -- the first results of a log, and what is told of them
  pub results-alike : (log : List LogRow) (k : ℕ)
      → AreAlike (take k (results_of (logged (map (told_row version) log)))) (take k (results_of log))
  results-alike log k script steps =
      ap (λ rs. equations script steps (take k rs)) (results-told log)
      ∙ (ap (equations script steps) (take-map (told version) k (results_of log))
      ∙ equations-told script steps (take k (results_of log)))

-- the same is asked after results that are alike
pub IsAsk-alike : (scripts : List Lines) (k : ℕ) (rs qs : List LogResult) (step : ScriptStep) (ask : Ask) → AreAlike rs qs
    → IsAsk scripts k rs step ask → IsAsk scripts k qs step ask
IsAsk-alike scripts k rs qs step ask alike is = record {
  stands = is.stands;
  values = is.values;
  exact = subst (λ es. AreValues step.vars es is.values) (alike step.script (take k (steps_of scripts))) is.exact;
  filled = is.filled;
}

-- so a row of one log is one of the other
abbrev pub IsRow-alike : (c : Configuration) (histories : List (List Entry)) (agent : ℕ) (a : AgentConf) (log other : List LogRow)
    (k : ℕ) (row : LogRow) → AreAlike (take k (results_of log)) (take k (results_of other))
    → IsRow c histories agent a log k row → IsRow c histories agent a other k row
IsRow-alike c histories agent a log other k row alike is = record {
  number = is.number;
  step = is.step;
  asked = is.asked;
  asks = IsAsk-alike a.scripts k (take k (results_of log)) (take k (results_of other)) is.step is.asked alike is.asks;
  ask = is.ask;
  centre = is.centre;
  known = is.known;
  named = is.named;
  history = is.history;
  there = is.there;
  result = is.result;
}

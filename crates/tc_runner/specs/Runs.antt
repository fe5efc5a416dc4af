-- A run, as far as it has come: its plan, its cores and its logs.
use Rattle.std.specs.Prelude.{◌≡◌, List, [], All, length}
use Rattle.tc_centre.specs.Centre.{Centre}
use Rattle.tc_config.specs.Good.{IsGood}
use Rattle.tc_desk.specs.Logs.{rows_of}
use Rattle.tc_desk.specs.declared.rows.LogRow.{LogRow}
use Rattle.tc_model.specs.Choices.{TheFirst}
use Rattle.tc_runner.specs.Cores.{AreCores, Goes, histories}
use Rattle.tc_runner.specs.declared.opening.Opened.{Opened}

-- each centre is opened, if there is an agent, and else none; and each agent has a log
pub record HasCores (run : Opened) : Type 0 where
  pub are : AreCores run.plan run.cores.items
  pub none : length run.plan.agents ≡ 0 → run.cores.items ≡ []
  pub whole : length (rows_of run.logs.items) ≡ length run.plan.agents

-- it may go on; where there is no agent, no centre is opened
pub record MayGoOn (run : Opened) : Type 0 where
  pub goes : Goes run.plan run.cores.items (rows_of run.logs.items)
  pub none : length run.plan.agents ≡ 0 → run.cores.items ≡ []

-- nothing has happened in it yet
pub record IsFresh (run : Opened) : Type 0 where
  pub may : MayGoOn run
  pub unserved : All (λ (x : Centre). x.history ≡ []) run.cores.items
  pub unasked : All (λ (log : List LogRow). log ≡ []) (rows_of run.logs.items)

-- it is a good one, in which every choice was the first
abbrev pub IsGoodRun : Opened → Type 0
IsGoodRun run =
    IsGood TheFirst run.plan (histories run.plan run.cores.items) (rows_of run.logs.items)

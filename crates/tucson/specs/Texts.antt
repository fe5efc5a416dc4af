-- The texts that a call may write.
use Rattle.std.specs.Prelude.{ℕ, ℤ, List, codes, map, zip, Option}
use Rattle.tc_centre.specs.Centre.{Centre, state_of}
use Rattle.tc_model.specs.declared.entries.Entry.{Entry}
use Rattle.tc_desk.specs.Logs.{is_blocked}
use Rattle.tc_desk.specs.declared.rows.LogRow.{LogRow}
use Rattle.tc_histtext.specs.Text.{run_text}
use Rattle.tc_histline.specs.declared.versions.Version.TheVariants.{Two}
use Rattle.tc_config.specs.Configurations.{Configuration, agent_names, centre_names}
use Rattle.tc_config.specs.Good.{origin_of}
use Rattle.tc_config.specs.declared.configs.CentreConf.{CentreConf}
use Rattle.tc_load.specs.Counts.{counted_in}
use Rattle.tc_load.specs.Summaries.{summary}

-- the forms of words
abbrev pub usage_text : List ℕ
usage_text = codes "usage: tucson run [--workers N] | verify | load N SEED | serve PORT\n"

-- the text of a run or of a service: history by history, log by log
abbrev pub whole_text : Configuration → List (List Entry) → List (List LogRow) → List ℕ
whole_text c = run_text Two (centre_names c) (agent_names c)

-- what a centre has counted at the end of its history
abbrev pub core_count : Centre → Option ℤ
core_count x = counted_in (state_of x).tuples

-- the centre of a configuration, with this history
abbrev pub core_at : Configuration → CentreConf × List Entry → Centre
core_at c (s, history) = record { origin = origin_of c s; history = history }

-- what each centre has counted at the end of its history
abbrev pub counts_of : Configuration → List (List Entry) → List (Option ℤ)
counts_of c histories = map (λ at. core_count (core_at c at)) (zip c.centres histories)

-- the summary of a workload's run: what each centre has counted, beside what was drawn
abbrev pub load_summary : ℕ → ℕ → Configuration → List (List Entry) → List (List LogRow)
    → List ℕ
load_summary agents start c histories logs =
    summary agents start (counts_of c histories) (is_blocked logs)

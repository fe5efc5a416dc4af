-- The text of histories and logs.
use Rattle.std.specs.Prelude.{ℕ, List, [], ◌∷◌, ◌++◌}
use Rattle.std.specs.List.{flat_map}
use Rattle.tc_lists.specs.Texts.{joined}
use Rattle.tc_model.specs.declared.entries.Entry.{Entry}
use Rattle.tc_desk.specs.Logs.{is_blocked}
use Rattle.tc_desk.specs.declared.rows.LogRow.{LogRow}
use Rattle.tc_histline.specs.Text.{agent_heading, centre_heading, end_text, entry_text, row_text}
use Rattle.tc_histline.specs.Text.{version_text}
use Rattle.tc_histline.specs.declared.versions.Version.{Version}

-- a centre's history, and an agent's log
abbrev pub history_text : List (List ℕ) → List ℕ → List Entry → List ℕ
history_text agents centre history = centre_heading centre ++ flat_map (entry_text agents) history

abbrev pub log_text : Version → List ℕ → List LogRow → List ℕ
log_text v agent log = agent_heading agent ++ flat_map (row_text v) log

-- each centre's history, and each agent's log, in order
abbrev pub histories_text : List (List ℕ) → List (List ℕ) → List (List Entry) → List ℕ
histories_text agents (n ∷ ns) (h ∷ hs) = history_text agents n h ++ histories_text agents ns hs
histories_text agents ns hs = []

abbrev pub logs_text : Version → List (List ℕ) → List (List LogRow) → List ℕ
logs_text v (n ∷ ns) (l ∷ ls) = log_text v n l ++ logs_text v ns ls
logs_text v ns ls = []

-- the text of the histories of these centres and of the logs of these agents
abbrev pub run_text :
    Version → List (List ℕ) → List (List ℕ) → List (List Entry) → List (List LogRow)
    → List ℕ
run_text v centres agents histories logs =
    joined (
    version_text v ∷ histories_text agents centres histories ∷ logs_text v agents logs ∷
    end_text (is_blocked logs) ∷ [])

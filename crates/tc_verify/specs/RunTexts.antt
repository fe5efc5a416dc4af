-- Texts of runs.
use Rattle.std.specs.Prelude.{◌≡◌, ℕ, List, All, map}
use Rattle.tc_model.specs.Choices.{AnyOne}
use Rattle.tc_model.specs.declared.entries.Entry.{Entry}
use Rattle.tc_desk.specs.Logs.{is_blocked}
use Rattle.tc_desk.specs.declared.rows.LogRow.{LogRow}
use Rattle.tc_config.specs.Configurations.{Configuration, agent_names, centre_names}
use Rattle.tc_config.specs.Good.{IsGood}
use Rattle.tc_histline.specs.Lines.{HasLine}
use Rattle.tc_histline.specs.declared.versions.Version.{Version}
use Rattle.tc_histtext.specs.ReadTexts.{lines_of}
use Rattle.tc_histtext.specs.Text.{run_text}
use Rattle.tc_histtext.specs.declared.read_texts.Text.{Text}
use Rattle.tc_rows.specs.Rows.{told_row}

-- what a text of this version tells of histories and logs
abbrev pub text_telling : Version → List (List Entry) → List (List LogRow) → Text
text_telling version histories logs = record {
  version = version;
  histories = histories;
  logs = map (map (told_row version)) logs;
  blocked = is_blocked logs;
}

-- the bytes are the text, in one of the versions, of histories and logs of a run of the
-- configuration in which any choice was taken; each of its lines may stand in a text of that
-- version
pub record IsTextOfRun (c : Configuration) (bytes : List ℕ) : Type 0 where
  pub version : Version
  pub histories : List (List Entry)
  pub logs : List (List LogRow)
  pub good : IsGood AnyOne c histories logs
  pub lines : All (HasLine version (agent_names c))
      (lines_of (centre_names c) (agent_names c) (text_telling version histories logs))
  pub is : bytes ≡ run_text version (centre_names c) (agent_names c) histories logs

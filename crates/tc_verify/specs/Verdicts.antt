-- Verdicts on texts: each is one cause, the first in their order.
use Rattle.std.specs.Prelude.{◌≡◌, ◌<◌, ℕ, Bool, List, Some, slice_get}
use Rattle.std.specs.List.{list_any}
use Rattle.tc_model.specs.declared.entries.Entry.{Entry}
use Rattle.tc_desk.specs.Logs.{is_pending}
use Rattle.tc_config.specs.Configurations.{Configuration, agent_names, centre_names}
use Rattle.tc_config.specs.Good.{origin_of}
use Rattle.tc_config.specs.declared.configs.AgentConf.{AgentConf}
use Rattle.tc_config.specs.declared.configs.CentreConf.{CentreConf}
use Rattle.tc_histline.specs.declared.lines.TextRow.{TextRow}
use Rattle.tc_histline.specs.declared.versions.Version.{Version}
use Rattle.tc_histtext.specs.ReadTexts.{IsFirstFault, IsText}
use Rattle.tc_histtext.specs.declared.read_texts.Text.{Text}
use Rattle.tc_replay.specs.Bad.{IsBadAt, IsQuietRun}
use Rattle.tc_rows.specs.Rows.{AreQuietRuns, AreSound, IsFirstFaulty}
use Rattle.tc_rows.specs.ServedRows.{AreServedRows, IsFirstUnserved}
use Rattle.tc_verify.specs.declared.verdicts.Question.{Question}
use Rattle.tc_verify.specs.declared.verdicts.Question.TheVariants.{Run, Service}
use Rattle.tc_verify.specs.declared.verdicts.Verdict.{Verdict}
use Rattle.tc_verify.specs.declared.verdicts.Verdict.TheVariants.{NoAgent, NoEnd, NoEntry, NoText, Yes}

-- the centres before this place have histories of runs to quiet states
abbrev pub AreQuietBefore : Configuration → List (List Entry) → ℕ → Type 0
AreQuietBefore c histories place =
    (k : ℕ) (centre : CentreConf) (history : List Entry) → k < place
    → slice_get c.centres k ≡ Some centre → slice_get histories k ≡ Some history
    → IsQuietRun (origin_of c centre) history

-- the centre at this place is the first whose history isn't such a run, by the entry of this number
pub record IsFirstBad (c : Configuration) (histories : List (List Entry)) (place number : ℕ)
    : Type 0 where
  pub before : AreQuietBefore c histories place
  pub centre : CentreConf
  pub known : slice_get c.centres place ≡ Some centre
  pub history : List Entry
  pub there : slice_get histories place ≡ Some history
  pub bad : IsBadAt (origin_of c centre) history number

-- the bytes are a text of the configuration's centres and agents, whose histories are those of runs
-- to quiet states
pub record IsTextOfRuns (c : Configuration) (bytes : List ℕ) (t : Text) : Type 0 where
  pub text : IsText (centre_names c) (agent_names c) t bytes
  pub runs : AreQuietRuns c t.histories

-- an agent's rows are as asked: sound as those of a run, or such as a service may leave
abbrev pub AreRowsOf : Question → Version → Configuration → List (List Entry) → ℕ → AgentConf
    → List TextRow → Type 0
AreRowsOf Run = AreSound
AreRowsOf Service = AreServedRows

-- of rows that are not, this is the first at fault
abbrev pub IsFirstAtFault : Question → Version → Configuration → List (List Entry) → ℕ
    → AgentConf → List TextRow → ℕ → Type 0
IsFirstAtFault Run = IsFirstFaulty
IsFirstAtFault Service = IsFirstUnserved

-- the rows of the agents before this place are as asked
abbrev pub AreSoundBefore : Question → Configuration → Text → ℕ → Type 0
AreSoundBefore question c t place =
    (k : ℕ) (a : AgentConf) (rows : List TextRow) → k < place
    → slice_get c.agents k ≡ Some a → slice_get t.logs k ≡ Some rows
    → AreRowsOf question t.version c t.histories k a rows

-- the agent at this place is the first that has a row at fault, and this is its first
pub record IsFirstAgent (question : Question) (c : Configuration) (t : Text) (agent number : ℕ)
    : Type 0 where
  pub before : AreSoundBefore question c t agent
  pub a : AgentConf
  pub known : slice_get c.agents agent ≡ Some a
  pub rows : List TextRow
  pub there : slice_get t.logs agent ≡ Some rows
  pub first : IsFirstAtFault question t.version c t.histories agent a rows number

-- the rows of every agent are as asked
abbrev pub AreAllSound : Question → Configuration → Text → Type 0
AreAllSound question c t =
    (k : ℕ) (a : AgentConf) (rows : List TextRow)
    → slice_get c.agents k ≡ Some a → slice_get t.logs k ≡ Some rows
    → AreRowsOf question t.version c t.histories k a rows

-- besides, the rows of every agent are as asked
pub record IsSoundText (question : Question) (c : Configuration) (bytes : List ℕ) (t : Text)
    : Type 0 where
  pub text : IsTextOfRuns c bytes t
  pub rows : AreAllSound question c t

-- whether some row is pending
abbrev pub some_pending : List TextRow → Bool
some_pending rows = list_any (λ (row : TextRow). is_pending row.result) rows

-- whether some row of these logs is
abbrev pub any_waits : List (List TextRow) → Bool
any_waits logs = list_any some_pending logs

-- the last line says whether some row is pending
abbrev pub EndsAsRows : Text → Type 0
EndsAsRows t = t.blocked ≡ any_waits t.logs

-- the verdict on the bytes, by what is asked of them
abbrev pub IsVerdictOn : Question → Configuration → List ℕ → Verdict → Type 0
IsVerdictOn question c bytes Yes = (t : Text) × IsSoundText question c bytes t × EndsAsRows t
IsVerdictOn question c bytes (NoText line) =
    IsFirstFault (centre_names c) (agent_names c) bytes line
IsVerdictOn question c bytes (NoEntry centre number) =
    (t : Text) × IsText (centre_names c) (agent_names c) t bytes
    × IsFirstBad c t.histories centre number
IsVerdictOn question c bytes (NoAgent agent number) =
    (t : Text) × IsTextOfRuns c bytes t × IsFirstAgent question c t agent number
IsVerdictOn question c bytes NoEnd =
    (t : Text) × IsSoundText question c bytes t × (EndsAsRows t → ⊥)

-- the verdict on them as the text of a run
abbrev pub IsVerdict : Configuration → List ℕ → Verdict → Type 0
IsVerdict = IsVerdictOn Run

-- the verdict on them as the text of a service
abbrev pub IsAudit : Configuration → List ℕ → Verdict → Type 0
IsAudit = IsVerdictOn Service

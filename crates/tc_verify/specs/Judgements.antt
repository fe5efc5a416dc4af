-- An input of a configuration and a text, judged.
use Rattle.std.specs.Prelude.{◌≡◌, ℕ, List}
use Rattle.tc_config.specs.Configurations.{Configuration}
use Rattle.tc_config.specs.Texts.{IsRefused, Spells}
use Rattle.tc_config.specs.declared.faults.ConfigCause.{ConfigCause}
use Rattle.tc_verify.specs.Inputs.{IsParted}
use Rattle.tc_verify.specs.Texts.{verdict_text}
use Rattle.tc_verify.specs.Verdicts.{IsVerdictOn}
use Rattle.tc_verify.specs.declared.judging.Judgement.{Judgement}
use Rattle.tc_verify.specs.declared.judging.Judgement.TheVariants.{Judged, Refused}
use Rattle.tc_verify.specs.declared.verdicts.Question.{Question}
use Rattle.tc_verify.specs.declared.verdicts.Verdict.{Verdict}

-- the first part of the input spells a configuration, and this is the verdict on the other part,
-- with the line that tells it
pub record IsJudged (question : Question) (input : List ℕ) (verdict : Verdict) (line : List ℕ)
    : Type 0 where
  pub first : List ℕ
  pub second : List ℕ
  pub parts : IsParted input first second
  pub config : Configuration
  pub spells : Spells first config
  pub is : IsVerdictOn question config second verdict
  pub line_is : line ≡ verdict_text config verdict

-- the first part of the input is refused as a configuration, for this clause and this cause
pub record IsRefusedWith (input : List ℕ) (clause : ℕ) (why : ConfigCause) : Type 0 where
  pub first : List ℕ
  pub second : List ℕ
  pub parts : IsParted input first second
  pub refused : IsRefused first clause why

-- what an input comes to
abbrev pub IsJudgement : Question → List ℕ → Judgement → Type 0
IsJudgement question input (Judged verdict line) = IsJudged question input verdict line
IsJudgement question input (Refused clause why) = IsRefusedWith input clause why

-- it comes to this verdict
abbrev pub HasVerdict : Verdict → Judgement → Type 0
HasVerdict verdict (Judged other line) = other ≡ verdict
HasVerdict verdict (Refused clause why) = ⊥

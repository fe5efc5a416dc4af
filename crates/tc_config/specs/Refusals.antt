-- What is written of a configuration that is refused.
use Rattle.std.specs.Prelude.{ℕ, decimal, List, [], ◌∷◌, codes}
use Rattle.tc_lists.specs.Texts.{joined}
use Rattle.tc_config.specs.declared.faults.ConfigCause.{ConfigCause}
use Rattle.tc_config.specs.declared.faults.ConfigCause.TheVariants as cause

-- the words of a cause
abbrev pub config_cause_text : ConfigCause → List ℕ
config_cause_text cause.Syntax = codes "syntax"
config_cause_text cause.Size = codes "size"
config_cause_text cause.Shape = codes "shape"
config_cause_text cause.Reaction = codes "reaction"
config_cause_text cause.UnknownCentre = codes "unknown centre"
config_cause_text cause.UnknownRole = codes "unknown role"
config_cause_text cause.UnknownAgent = codes "unknown agent"
config_cause_text cause.Twice = codes "twice"
config_cause_text cause.NotGround = codes "not ground"
config_cause_text cause.Count = codes "count"
config_cause_text cause.Length = codes "length"

-- that a configuration is refused: its first faulty clause, and why
abbrev pub refused_text : ℕ → ConfigCause → List ℕ
refused_text clause why =
    joined (
    codes "configuration refused: clause " ∷ decimal clause ∷ codes ": " ∷
    config_cause_text why ∷ codes "\n" ∷ [])

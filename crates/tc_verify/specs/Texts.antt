-- Verdicts as lines.
use Rattle.std.specs.Prelude.{◌<◌, ℕ, decimal, List, [], ◌∷◌, codes, length}
use Rattle.std.proofs.Common.{get_or}
use Rattle.tc_lists.specs.Texts.{joined}
use Rattle.tc_term.specs.Text.{atom_text}
use Rattle.tc_config.specs.Configurations.{Configuration, agent_names, centre_names}
use Rattle.tc_verify.specs.declared.verdicts.Verdict.{Verdict}
use Rattle.tc_verify.specs.declared.verdicts.Verdict.TheVariants.{NoAgent, NoEnd, NoEntry, NoText, Yes}

-- the line of a verdict that tells what isn't so, of what by its name, and where
abbrev pub place_text : List ℕ → List ℕ → ℕ → List ℕ
place_text words name number =
    joined (words ∷ atom_text name ∷ codes " " ∷ decimal number ∷ codes "\n" ∷ [])

-- the line of a verdict, with its end; centres and agents by their names
abbrev pub verdict_text : Configuration → Verdict → List ℕ
verdict_text c Yes = codes "yes\n"
verdict_text c (NoText line) = joined (codes "no text " ∷ decimal line ∷ codes "\n" ∷ [])
verdict_text c (NoEntry centre number) =
    place_text (codes "no entry ") (get_or (centre_names c) centre []) number
verdict_text c (NoAgent agent number) =
    place_text (codes "no agent ") (get_or (agent_names c) agent []) number
verdict_text c NoEnd = codes "no end\n"

-- the centre or the agent that it tells, if it tells one, is there
abbrev pub IsOfKnown : Configuration → Verdict → Type 0
IsOfKnown c Yes = Unit {0}
IsOfKnown c (NoText line) = Unit {0}
IsOfKnown c (NoEntry centre number) = centre < length c.centres
IsOfKnown c (NoAgent agent number) = agent < length c.agents
IsOfKnown c NoEnd = Unit {0}

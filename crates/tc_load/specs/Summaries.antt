-- The summary of a run of the workload.
use Rattle.std.specs.Prelude.{ℕ, ℤ, ◌*◌, Bool, true, false, List, [], ◌∷◌}
use Rattle.std.specs.Prelude.{codes, decimal, Option, Some, None}
use Rattle.std.specs.Fmt.{signed_decimal}
use Rattle.std.specs.List.{enumerate_from, flat_map}
use Rattle.tc_lists.specs.Texts.{joined}
use Rattle.tc_load.specs.Words.{drawn_in, words_of}
use Rattle.tc_load.specs.declared.limits.TheConstants.{SCRIPTS}

-- what a centre has counted, if it has
abbrev pub count_text : Option ℤ → List ℕ
count_text (Some n) = signed_decimal n
count_text None = codes "none"

-- the line of a centre: how many words named it, and what it has counted
abbrev pub tally_text : ℕ → ℕ → Option ℤ → List ℕ
tally_text k drawn counted =
    joined (
    codes "c" ∷ decimal k ∷ codes " drawn " ∷ decimal drawn ∷
    codes " counted " ∷ count_text counted ∷ codes "\n" ∷ [])

-- the line of a centre of this number and this count, with what these words draw
abbrev pub tally_of : List ℕ → ℕ × Option ℤ → List ℕ
tally_of words (k, counted) = tally_text k (drawn_in k words) counted

-- whether an agent's request was left pending
abbrev pub ending_text : Bool → List ℕ
ending_text true = codes "end blocked\n"
ending_text false = codes "end ended\n"

-- the line of the command
abbrev pub command_text : ℕ → ℕ → List ℕ
command_text agents start =
    joined (codes "load " ∷ decimal agents ∷ codes " " ∷ decimal start ∷ codes "\n" ∷ [])

-- the line of the command, a line for each centre with what these words draw, and the end
abbrev pub summary_text : ℕ → ℕ → List ℕ → List (Option ℤ) → Bool → List ℕ
summary_text agents start words counted blocked =
    joined (
    command_text agents start ∷
    flat_map (tally_of words) (enumerate_from 0 counted) ∷
    ending_text blocked ∷ [])

-- the summary of so many agents from this start, of what each centre has counted
abbrev pub summary : ℕ → ℕ → List (Option ℤ) → Bool → List ℕ
summary agents start counted blocked =
    summary_text agents start (words_of (SCRIPTS * agents) start) counted blocked

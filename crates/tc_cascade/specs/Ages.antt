-- How many ages a cascade takes.
use Rattle.std.specs.Prelude.{ℕ, ◌*◌}
use Rattle.tc_model.specs.declared.limits.TheConstants.{MOST_BUDGET, MOST_GOALS}

-- one for each goal of each reaction, at most
abbrev pub most_ages : ℕ
most_ages = MOST_GOALS * MOST_BUDGET

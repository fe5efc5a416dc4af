-- What a sink has taken, and what writing adds to it.
use Rattle.std.specs.Prelude.{◌≡◌, ℕ, ◌≤◌, Bool, List, ◌++◌, length, take}
use Rattle.std.specs.Option.{option_map}
use Rattle.std.specs.Io.KnownBytes.{Appends}
use Rattle.std.specs.declared.option.Option.{Option}

-- what an object keeps as a sink
pub record SinkState : Type 0 where
  pub taken : Option (List ℕ)
  pub write_faults : ℕ
  pub sure : Bool

-- what the object s keeps as a sink: what it has taken, its write faults, and whether it is sure
abbrev pub sink_of : {S : Type 0} → (S → Option (List ℕ)) → (S → ℕ) → (S → Bool) → S
    → SinkState
sink_of taken write_faults sure s =
    record { taken = taken s; write_faults = write_faults s; sure = sure s }

-- what was taken, and then these bytes
abbrev pub appended : Option (List ℕ) → List ℕ → Option (List ℕ)
appended taken bytes = option_map (λ before. before ++ bytes) taken

-- a front of these bytes is taken
abbrev pub AppendsFront : Option (List ℕ) → Option (List ℕ) → List ℕ → Type 0
AppendsFront old new bytes = (n : ℕ) × (n ≤ length bytes) × (new ≡ appended old (take n bytes))

-- known contents stay at the front, and at most a front of these bytes stands behind them
abbrev pub AppendsAtMost : Option (List ℕ) → Option (List ℕ) → List ℕ → Type 0
AppendsAtMost old new bytes = (n : ℕ) × (n ≤ length bytes) × Appends old new (take n bytes)

-- The first entry of a history that isn't legal.
use Rattle.std.specs.Prelude.{◌≡◌, ◌+◌, ℕ, List, length, slice_get, take}
use Rattle.std.specs.Option.{MatchOption}
use Rattle.tc_model.specs.Choices.{AnyOne}
use Rattle.tc_model.specs.Run.{IsRun, IsLegal}
use Rattle.tc_model.specs.State.{Origin, IsQuiescent, opening, after_history}
use Rattle.tc_model.specs.declared.entries.Entry.{Entry}
use Rattle.tc_model.specs.declared.entries.Entry.TheVariants.{Called, Gave, Looked}

-- the entry of this number, counted from 1, is the first that isn't legal; behind the last one, the
-- last state isn't quiet
pub record IsBadAt (origin : Origin) (history : List Entry) (number : ℕ) : Type 0 where
  pub place : ℕ
  pub counted : number ≡ place + 1
  pub run : IsRun origin (take place history)
  pub bad : MatchOption (slice_get history place)
      ((place ≡ length history) × (IsQuiescent (after_history (opening origin) history) → ⊥))
      (λ e. IsLegal AnyOne origin (take place history)
      (after_history (opening origin) (take place history)) e → ⊥)

-- a run to a quiet state
pub record IsQuietRun (origin : Origin) (history : List Entry) : Type 0 where
  pub run : IsRun origin history
  pub quiescent : IsQuiescent (after_history (opening origin) history)

-- whether the entry is an answer to a request
abbrev pub IsGave : Entry → Type 0
IsGave (Called id op result items) = ⊥
IsGave (Gave id result items) = Unit {0}
IsGave (Looked id asked reply) = ⊥

abbrev pub IsNoGave : Entry → Type 0
IsNoGave (Called id op result items) = Unit {0}
IsNoGave (Gave id result items) = ⊥
IsNoGave (Looked id asked reply) = Unit {0}

-- What is noted of a history: where it tells of its calls, and each agent's last number.
use Rattle.std.specs.Prelude.{◌≡◌, ℕ, List, length}
use Rattle.tc_model.specs.declared.entries.Entry.{Entry}
use Rattle.tc_calls.specs.Numbers.{AreLast}
use Rattle.tc_calls.specs.Places.{ArePlaces, lists_of}
use Rattle.tc_audit.specs.declared.noted.Noted.{Noted}

-- it is that of the history, for so many agents
pub record IsNoted (agents : ℕ) (history : List Entry) (noted : Noted) : Type 0 where
  pub places : ArePlaces (lists_of noted.places.items) history
  pub lists : length noted.places.items ≡ agents
  pub last : AreLast noted.numbers.items history
  pub numbers : length noted.numbers.items ≡ agents

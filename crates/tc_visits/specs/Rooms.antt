-- Room for sessions.
use Rattle.std.specs.Prelude.{◌≡◌, ◌≤◌, ℕ, [], vec_capacity}
use Rattle.tc_visits.specs.declared.served.Room.{Room}

-- nothing stands in it yet, and of each kind so many find room
pub record HasRoom {L : Type 0} (agents : ℕ) (room : Room L) : Type 0 where
  pub no_seat : room.seats.items ≡ []
  pub no_visit : room.visits.items ≡ []
  pub none_idle : room.idle.items ≡ []
  pub seats : agents ≤ vec_capacity room.seats
  pub visits : agents ≤ vec_capacity room.visits
  pub idle : agents ≤ vec_capacity room.idle

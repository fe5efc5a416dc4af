use Rattle.std.proofs.Common.{◌≡◌, ◌+◌, ◌≤◌, ℕ, List, length, take, drop, vec_capacity}
use Rattle.tc_model.specs.declared.calls.Request.{Request}
use Rattle.tc_pending.specs.declared.changes.Change.{Change}
use Rattle.tc_pending.specs.Codes.{codes_of}
use Rattle.tc_pending.specs.Changes.{rewound, rewound_serials, AllFit}
use Rattle.tc_pending.proofs.changes.go_back.Given as goal

-- some of the latest changes are taken back
pub record IsOnWay (count : ℕ) (first requests : List Request) (numbers serials : List ℕ) (all changes : List Change) : Type 0 where
  pub fit : AllFit changes requests
  pub requests_left : rewound (drop count changes) requests ≡ rewound (drop count all) first
  pub serials_left : rewound_serials (drop count changes) serials ≡ rewound_serials (drop count all) numbers
  pub each : length serials ≡ length requests
  pub changes_left : take count changes ≡ take count all
  pub fewer : length requests + length changes ≤ length first + length all

abbrev pub invariant-loop-changes : goal.invariant-loop-changes
invariant-loop-changes l =
    IsOnWay l.count l.initial.requests.items l.requests.items l.initial.serials.items l.serials.items l.initial.changes.items l.changes.items
    × (l.codes.items ≡ codes_of l.requests.items)
    × (vec_capacity l.initial.codes ≤ vec_capacity l.codes)
    × (vec_capacity l.initial.serials ≤ vec_capacity l.serials)
    × (vec_capacity l.initial.requests ≤ vec_capacity l.requests)
    × (vec_capacity l.changes ≡ vec_capacity l.initial.changes)

abbrev pub decreases-loop-changes : goal.decreases-loop-changes
decreases-loop-changes l = length l.changes.items

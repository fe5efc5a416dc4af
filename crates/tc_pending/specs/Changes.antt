-- The log by which the list of requests goes back to its marks.
use Rattle.std.specs.Prelude.{ℕ, ◌≡◌, ◌+◌, ◌-◌, ◌≤◌, Bool, List, [], ◌∷◌}
use Rattle.std.specs.Prelude.{length}
use Rattle.std.specs.Prelude.{map, take, drop, insert, slice_index_or}
use Rattle.std.specs.declared.vec.Vec.{Vec}
use Rattle.std.specs.Vec.{vec_capacity}
use Rattle.tc_lists.specs.Marks.{Climbs}
use Rattle.tc_model.specs.declared.calls.Request.{Request}
use Rattle.tc_pending.specs.Codes.{codes_of}
use Rattle.tc_pending.specs.Filed.{IsFiled, NeverFree}
use Rattle.tc_pending.specs.declared.index.Index.{Index}
use Rattle.tc_pending.specs.declared.changes.Change.{Change}
use Rattle.tc_pending.specs.declared.changes.Change.TheVariants.{Added, Removed}

-- the requests before a change
abbrev pub earlier : Change → List Request → List Request
earlier Added requests = take (length requests - 1) requests
earlier (Removed place request serial) requests = insert requests place request

-- the requests before these changes, the latest last
abbrev pub rewound : List Change → List Request → List Request
rewound [] requests = requests
rewound (c ∷ cs) requests = earlier c (rewound cs requests)

-- the serial numbers before a change
abbrev pub earlier_serials : Change → List ℕ → List ℕ
earlier_serials Added serials = take (length serials - 1) serials
earlier_serials (Removed place request serial) serials = insert serials place serial

-- the serial numbers before these changes, the latest last
abbrev pub rewound_serials : List Change → List ℕ → List ℕ
rewound_serials [] serials = serials
rewound_serials (c ∷ cs) serials = earlier_serials c (rewound_serials cs serials)

-- the change can be taken back: a request that was removed has its place
abbrev pub Fits : Change → List Request → Type 0
Fits Added requests = Unit {0}
Fits (Removed place request serial) requests = place ≤ length requests

-- the changes can be taken back, the latest first
abbrev pub AllFit : List Change → List Request → Type 0
AllFit [] requests = Unit {0}
AllFit (c ∷ cs) requests = Fits c (rewound cs requests) × AllFit cs requests

-- the requests that there were at the marks, each the number of changes before it
abbrev pub saved_at : List ℕ → List Change → List Request → List (List Request)
saved_at marks changes requests = map (λ m. rewound (drop m changes) requests) marks

-- the changes since the oldest mark can be taken back, and the marks are in order
pub record IsLog (requests : List Request) (changes : List Change) (marks : List ℕ) : Type 0 where
  pub fit : AllFit changes requests
  pub climbs : Climbs marks (length changes)
  pub oldest : slice_index_or marks 0 (length changes) ≡ 0

-- the requests of these serial numbers are filed, and where none wanted absence each wants a tuple
pub record IsKept (index : Index) (filed : ℕ) (absences : Bool) (requests : List Request)
    (serials : List ℕ) : Type 0 where
  pub filed_is : IsFiled index filed (codes_of requests) serials
  pub absences_is : NeverFree absences requests

-- so are the requests now, and those before each of the changes
abbrev pub AreFiled : Index → ℕ → Bool → List Request → List ℕ → List Change → Type 0
AreFiled index filed absences requests serials changes =
    (n : ℕ) → IsKept index filed absences (rewound (drop n changes) requests)
    (rewound_serials (drop n changes) serials)

-- a log with room for each request to be removed, and for each change to be taken back; the codes
-- are those of the requests; and the requests that there are and may come back are filed
pub record IsSound {W X Y Z : Type 0} (requests : Vec Request X) (codes : Vec ℕ Z)
    (serials : Vec ℕ W)
    (index : Index) (below : ℕ) (absences : Bool) (changes : Vec Change Y) (marks : List ℕ)
    : Type 0 where
  pub coded : codes.items ≡ codes_of requests.items
  pub filed : AreFiled index below absences requests.items serials.items changes.items
  pub log : IsLog requests.items changes.items marks
  pub list_room : length requests.items + length changes.items ≤ vec_capacity requests
  pub codes_room : length codes.items + length changes.items ≤ vec_capacity codes
  pub serials_room : length serials.items + length changes.items ≤ vec_capacity serials
  pub log_room : length requests.items + length changes.items ≤ vec_capacity changes

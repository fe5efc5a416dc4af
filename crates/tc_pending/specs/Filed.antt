-- Serial numbers of requests, and an index of them by codes.
use Rattle.std.specs.Prelude.{ℕ, ◌≡◌, ◌%◌, ◌<◌, ◌≤◌, Bool, false, List, All, length}
use Rattle.std.specs.Prelude.{slice_index_or, slice_get, Option, Some, None, IsTrue}
use Rattle.std.specs.Borrow.{Bor}
use Rattle.std.specs.Option.{option_map}
use Rattle.tc_term.specs.Tree.{IsTuple, Tree}
use Rattle.tc_bag.specs.declared.bag.Bag.{Bag}
use Rattle.tc_bag.specs.Codes.{top_code}
use Rattle.tc_bag.specs.Pairs.{HasPair}
use Rattle.tc_bag.specs.Stock.{tuples_of}
use Rattle.tc_model.specs.State.{WantsTuple}
use Rattle.tc_model.specs.declared.calls.Request.{Request}
use Rattle.tc_model.specs.declared.calls.Wants.{Wants}
use Rattle.tc_model.specs.declared.calls.Wants.TheVariants.{Take, Absence}
use Rattle.tc_pending.specs.declared.asking.Wanted.{Wanted}
use Rattle.tc_pending.specs.declared.index.Index.{Index}
use Rattle.tc_pending.specs.declared.index.TheConstants.{REMAINDERS}
use Rattle.tc_pending.specs.declared.waiters.Waiters.{Waiters}
use Rattle.tc_pending.specs.Answers.{AsksFor}
use Rattle.tc_pending.specs.Codes.{code_of, code_for, request_code, codes_of}
use Rattle.tc_pending.specs.Rising.{NumbersRise}

-- the index has the pair of a code and a serial number, and that such a code was entered
abbrev pub Has : Index → ℕ → ℕ → Type 0
Has index code serial =
    HasPair index.pairs code serial
    × IsTrue (slice_index_or index.entered.items (code % REMAINDERS) false)

-- the index has the first so many pairs of these codes and serial numbers
abbrev pub HasFirst : Index → List ℕ → List ℕ → ℕ → Type 0
HasFirst index codes serials count =
    (k : ℕ) → k < count → Has index (slice_index_or codes k 0) (slice_index_or serials k 0)

-- the serial numbers beside these codes rise, and the index has those that are below `filed`
pub record IsFiled (index : Index) (filed : ℕ) (codes serials : List ℕ) : Type 0 where
  pub each : length serials ≡ length codes
  pub rises : NumbersRise serials
  pub has : (k : ℕ) → k < length serials → slice_index_or serials k 0 < filed
      → Has index (slice_index_or codes k 0) (slice_index_or serials k 0)

-- where no request wanted absence, each wants a tuple
abbrev pub NeverFree : Bool → List Request → Type 0
NeverFree absences requests = absences ≡ false → All (λ r. WantsTuple r.wants) requests

-- the requests that wait are lent with their codes, with the index of some of them, and with
-- whether one wanted absence
pub record AreLent (waiters : Waiters) : Type 0 where
  pub codes : waiters.codes.now ≡ codes_of waiters.requests.now
  pub filed : IsFiled waiters.index.now waiters.filed waiters.codes.now waiters.serials.now
  pub absences : NeverFree waiters.absences waiters.requests.now

-- the index has the first so many of the requests that wait
pub record AreIndexed (waiters : Waiters) (count : ℕ) : Type 0 where
  pub codes : waiters.codes.now ≡ codes_of waiters.requests.now
  pub each : length waiters.serials.now ≡ length waiters.codes.now
  pub rises : NumbersRise waiters.serials.now
  pub has : HasFirst waiters.index.now waiters.codes.now waiters.serials.now count
  pub inside : count ≤ length waiters.requests.now

-- the tuples of the bag that is lent, if one is
abbrev pub tuples_in : Option (Bor Bag) → Option (List Tree)
tuples_in bag = option_map (λ b. tuples_of b.now.now) bag

-- the request asks for the tuple
abbrev pub Asks : Wanted → Request → Type 0
Asks wanted = AsksFor (tuples_in wanted.left) wanted.tuple.now

-- what the requests want that may ask for the tuple
abbrev pub sought : Option (List Tree) → Wants
sought None = Take
sought (Some left) = Absence

-- a tuple with the codes of the requests that may ask for it
pub record IsWanted (wanted : Wanted) : Type 0 where
  pub tuple : IsTuple wanted.tuple.now
  pub any : wanted.any ≡ code_for (sought (tuples_in wanted.left)) 0
  pub top : wanted.top ≡ code_for (sought (tuples_in wanted.left)) (top_code wanted.tuple.now)
  pub whole : wanted.whole ≡ code_for (sought (tuples_in wanted.left)) (code_of wanted.tuple.now)

-- the index has each pair of one of these serial numbers still
abbrev pub KeepsAll : Index → Index → List ℕ → Type 0
KeepsAll old new serials =
    (c k : ℕ) → k < length serials → Has old c (slice_index_or serials k 0)
    → Has new c (slice_index_or serials k 0)

-- from a place up to another no code is this one
abbrev pub HasNone : List ℕ → ℕ → ℕ → ℕ → Type 0
HasNone codes code from to =
    (k : ℕ) → from ≤ k → k < to → slice_index_or codes k 0 ≡ code → ⊥

-- the request at this place has the property
pub record IsSuch (P : Request → Type 0) (requests : List Request) (place : ℕ) : Type 0 where
  pub request : Request
  pub stands : slice_get requests place ≡ Some request
  pub has : P request

-- none of the first so many requests that has this code has the property
abbrev pub NoneSuch : (Request → Type 0) → List Request → ℕ → ℕ → Type 0
NoneSuch P requests code count =
    (k : ℕ) (r : Request) → k < count → slice_get requests k ≡ Some r
    → request_code r ≡ code → P r → ⊥

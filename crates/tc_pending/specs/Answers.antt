-- Which request is answered next.
use Rattle.std.specs.Prelude.{◌≡◌, ℕ, ◌<◌, List, [], Option, Some, None, Contains, slice_get, take}
use Rattle.tc_lists.specs.Firsts.{NoneOf}
use Rattle.tc_term.specs.Tree.{Tree}
use Rattle.tc_term.specs.Variables.{var_bound}
use Rattle.tc_bag.specs.Stock.{Row, tuples_of}
use Rattle.tc_search.specs.Found.{IsFound}
use Rattle.tc_model.specs.State.{IsMatch, IsAnswerable, NoneMatches, SomeMatches, WantsTuple}
use Rattle.tc_model.specs.declared.calls.Request.{Request}
use Rattle.tc_model.specs.declared.calls.Wants.{Wants}
use Rattle.tc_model.specs.declared.calls.Wants.TheVariants.{Take, Look, Absence}
use Rattle.tc_pending.specs.declared.answering.Known.{Known}

-- the tuple of this age matches the template, and no older one does
pub record HasOldest (rows : List Row) (template : Tree) (age : ℕ) : Type 0 where
  pub tuple : Tree
  pub found : IsFound (var_bound template) [] template rows age tuple

-- what answers a request: the oldest tuple that matches, by its age; nothing, where absence is
-- wanted and none matches
abbrev pub IsAnsweredBy : List Row → Wants → Tree → Option ℕ → Type 0
IsAnsweredBy rows Take template (Some age) = HasOldest rows template age
IsAnsweredBy rows Look template (Some age) = HasOldest rows template age
IsAnsweredBy rows Absence template None = NoneMatches (tuples_of rows) template
IsAnsweredBy rows Take template None = ⊥
IsAnsweredBy rows Look template None = ⊥
IsAnsweredBy rows Absence template (Some age) = ⊥

-- no request before the one at this place can be answered, and this answers it
pub record IsNextAnswer (rows : List Row) (requests : List Request) (place : ℕ) (age : Option ℕ)
    : Type 0 where
  pub request : Request
  pub stands : slice_get requests place ≡ Some request
  pub none_before : NoneOf (IsAnswerable (tuples_of rows)) (take place requests)
  pub answer : IsAnsweredBy rows request.wants request.template age

-- the request wants a tuple, and one of these matches
pub record IsMet (tuples : List Tree) (request : Request) : Type 0 where
  pub wants : WantsTuple request.wants
  pub some : SomeMatches tuples request.template

-- the request wants absence, and none of these matches
pub record IsFree (tuples : List Tree) (request : Request) : Type 0 where
  pub wants : WantsTuple request.wants → ⊥
  pub none : NoneMatches tuples request.template

-- none of the requests that want a tuple can be answered by a tuple of a lower age
abbrev pub NoneOlder : ℕ → List Row → List Request → Type 0
NoneOlder age rows requests =
    (request : Request) (row : Row) → Contains requests request → WantsTuple request.wants
    → Contains rows row → row.age < age → IsMatch request.template row.tuple → ⊥

-- none of the first so many requests that want a tuple can be answered by a tuple of a lower age;
-- and each of them that wants absence had a tuple that matches among the rows `begun`
pub record IsKnown (known : Known) (begun rows : List Row) (requests : List Request) : Type 0 where
  pub older : NoneOlder known.age rows (take known.requests requests)
  pub had : NoneOf (IsFree (tuples_of begun)) (take known.requests requests)

-- the request at this place wants a tuple, the oldest that matches has this age, and none before it
-- that wants a tuple has one
pub record IsOldestMet (rows : List Row) (requests : List Request) (place age : ℕ) : Type 0 where
  pub request : Request
  pub stands : slice_get requests place ≡ Some request
  pub wants : WantsTuple request.wants
  pub oldest : HasOldest rows request.template age
  pub none_before : NoneOf (IsMet (tuples_of rows)) (take place requests)

-- the request asks for a tuple that has come: it wants one, and that matches; or, where these are
-- left, for a tuple that has gone: it wants absence, that matched, and none that is left does
abbrev pub AsksFor : Option (List Tree) → Tree → Request → Type 0
AsksFor None tuple request = WantsTuple request.wants × IsMatch request.template tuple
AsksFor (Some left) tuple request = IsFree left request × IsMatch request.template tuple

-- the request at this place has the property, and none before it has
pub record IsOldestSuch (P : Request → Type 0) (requests : List Request) (place : ℕ)
    : Type 0 where
  pub request : Request
  pub stands : slice_get requests place ≡ Some request
  pub has : P request
  pub none_before : NoneOf P (take place requests)

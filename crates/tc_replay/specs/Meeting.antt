-- A goal on tuples beside the effect that is recorded next.
use Rattle.std.specs.Prelude.{◌≡◌, ℕ, List, Option, Some, Contains}
use Rattle.tc_term.specs.Tree.{Tree}
use Rattle.tc_term.specs.Equations.{Equations, HasValue, Matches, with_pair}
use Rattle.tc_bag.specs.Stock.{Row, Stock, tuples_of, without_age, with_tuple}
use Rattle.tc_model.specs.Tuples.{without_first}
use Rattle.tc_model.specs.declared.items.Effect.{Effect}
use Rattle.tc_model.specs.declared.items.Effect.TheVariants.{Put, Took, Read}

-- the first tuple that is equal to this one has this age
pub record IsAgeOf (tuple : Tree) (rows : List Row) (age : ℕ) : Type 0 where
  pub there : Contains (tuples_of rows) tuple
  pub left : tuples_of (without_age age rows) ≡ without_first tuple (tuples_of rows)

-- a tuple that is in the bag has been met with the term
pub record HasMet (es more : Equations) (t tuple : Tree) (stock : Stock) : Type 0 where
  pub there : Contains (tuples_of stock.now) tuple
  pub added : more ≡ with_pair es t tuple

-- the tuple isn't in the bag, or doesn't match the term
abbrev pub MeetsNot : Equations → Tree → Tree → Stock → Type 0
MeetsNot es t tuple stock = Contains (tuples_of stock.now) tuple
    → Matches es.vars es.pairs t tuple → ⊥

-- the term's value was put, as the next effect says
pub record HasPutNext (es : Equations) (t : Tree) (next : Option Effect) (old new : Stock)
    : Type 0 where
  pub value : Tree
  pub is : HasValue es.vars es.pairs t value
  pub told : next ≡ Some (Put value)
  pub put : new ≡ with_tuple old value

-- the term has no value that the next effect puts
abbrev pub PutsNoNext : Equations → Tree → Option Effect → Type 0
PutsNoNext es t next = (value : Tree) → HasValue es.vars es.pairs t value
    → next ≡ Some (Put value) → ⊥

-- the next effect's tuple was taken
pub record HasTakenNext (es more : Equations) (t : Tree) (next : Option Effect) (old new : Stock)
    : Type 0 where
  pub tuple : Tree
  pub told : next ≡ Some (Took tuple)
  pub met : HasMet es more t tuple old
  pub left : tuples_of new.now ≡ without_first tuple (tuples_of old.now)

-- the next effect takes no tuple of the bag that matches the term
abbrev pub TakesNoNext : Equations → Tree → Option Effect → Stock → Type 0
TakesNoNext es t next stock = (tuple : Tree) → next ≡ Some (Took tuple)
    → MeetsNot es t tuple stock

-- the next effect's tuple was read
pub record HasReadNext (es more : Equations) (t : Tree) (next : Option Effect) (stock : Stock)
    : Type 0 where
  pub tuple : Tree
  pub told : next ≡ Some (Read tuple)
  pub met : HasMet es more t tuple stock

-- the next effect reads no tuple of the bag that matches the term
abbrev pub ReadsNoNext : Equations → Tree → Option Effect → Stock → Type 0
ReadsNoNext es t next stock = (tuple : Tree) → next ≡ Some (Read tuple)
    → MeetsNot es t tuple stock

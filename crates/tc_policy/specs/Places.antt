-- Where a grant stands first in a list.
use Rattle.std.specs.Prelude.{◌≡◌, ℕ, suc, ◌+◌, ◌-◌, nat_lt, if◌then◌else◌, Option, Some}
use Rattle.std.specs.Prelude.{None, List, [], ◌∷◌, Contains, slice_get, take, remove}
use Rattle.std.specs.HashMap.{HashMap, get}
use Rattle.std.specs.Option.{option_map}
use Rattle.tc_model.specs.declared.asks.Primitive.{Primitive}
use Rattle.tc_policy.specs.Same.{same_grant}
use Rattle.tc_policy.specs.declared.grants.Grant.{Grant}

-- that the role may use the primitive on the centre
abbrev pub grant : ℕ → ℕ → Primitive → Grant
grant role centre primitive = record { role = role; centre = centre; primitive = primitive }

-- the grant stands at this place, counted from 0, and at none before
pub record IsFirstAt (g : Grant) (grants : List Grant) (place : ℕ) : Type 0 where
  pub stands : slice_get grants place ≡ Some g
  pub first : Contains (take place grants) g → ⊥

-- the grant's first number, counted from 1
abbrev pub IsFirstNumber : Grant → List Grant → ℕ → Type 0
IsFirstNumber g grants number = (place : ℕ) × (number ≡ place + 1) × IsFirstAt g grants place

-- the first grant that is equal to this one is gone, and all others are left;
-- where none is, all are
pub record IsWithoutFirst (g : Grant) (old new : List Grant) : Type 0 where
  pub removed : (place : ℕ) → IsFirstAt g old place → new ≡ remove old place
  pub same : (Contains old g → ⊥) → new ≡ old

-- the first place of a grant, counted from 0
abbrev pub first_place : Grant → List Grant → Option ℕ
first_place g [] = None
first_place g (h ∷ hs) = if same_grant h g then Some 0 else option_map suc (first_place g hs)

-- the first number of a grant, counted from 1, where it stands in the list
abbrev pub first_number : Grant → List Grant → Option ℕ
first_number g grants = option_map suc (first_place g grants)

-- each grant has its first place
abbrev pub IsIndex : (Grant → Option ℕ) → List Grant → Type 0
IsIndex place_of grants = (g : Grant) → place_of g ≡ first_place g grants

-- the place that a map has for a grant
abbrev pub place_in : {S : Type 0} → HashMap Grant ℕ S → Grant → Option ℕ
place_in places g = get same_grant places g

-- a place once the grant at another has been removed
abbrev pub lowered : ℕ → ℕ → ℕ
lowered removed place = if nat_lt removed place then place - 1 else place

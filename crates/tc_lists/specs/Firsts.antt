-- The first element of a list that has a property.
use Rattle.std.specs.Prelude.{◌≡◌, List, ◌∷◌, ◌++◌, Contains}

-- no element of the list has the property
abbrev pub NoneOf : {X : Type 0} → (X → Type 0) → List X → Type 0
NoneOf {X} P xs = (x : X) → Contains xs x → P x → ⊥

-- the element stands in the list and has the property, and none before it has
pub record IsFirst {X : Type 0} (P : X → Type 0) (xs : List X) (x : X) : Type 0 where
  pub before : List X
  pub behind : List X
  pub split : xs ≡ before ++ x ∷ behind
  pub has : P x
  pub none : NoneOf P before

-- Keys, by which most tuples that a template doesn't match are told without matching.
use Rattle.std.specs.Prelude.{◌≡◌, ℕ, ◌+◌, ◌⊎◌, if◌then◌else◌, Option, Some, None, IfSome}
use Rattle.tc_term.specs.Tree.{Tree, Variable, Atomic, Number, Compound, Trees, Last, More, is_ground}
use Rattle.tc_bag.specs.declared.key.Key.{Key}
use Rattle.tc_bag.specs.declared.key.Key.TheVariants.{Any, Int, Atom, Comp}

-- how many arguments there are
abbrev pub arity : Trees → ℕ
arity (Last t) = 1
arity (More t ts) = 1 + arity ts

-- the key of a term: a variable has any, an atom its name, a compound its name and how many
-- arguments
abbrev pub key_of : Tree → Key
key_of (Variable n) = Any
key_of (Atomic name) = Atom name
key_of (Number n) = Int
key_of (Compound name args) = Comp name (arity args)

-- the tuple agrees with the key: that is any, or the tuple's own
abbrev pub IsOfKey : Key → Tree → Type 0
IsOfKey key tuple = (key ≡ Any) ⊎ (key ≡ key_of tuple)

-- the first of some arguments
abbrev pub first_of : Trees → Tree
first_of (Last t) = t
first_of (More t ts) = t

-- the first argument of a term, where there is one
abbrev pub first_argument : Tree → Option Tree
first_argument (Variable n) = None
first_argument (Atomic name) = None
first_argument (Number n) = None
first_argument (Compound name args) = Some (first_of args)

-- the first argument of a term, where there is one and it is ground
abbrev pub known_first : Tree → Option Tree
known_first (Variable n) = None
known_first (Atomic name) = None
known_first (Number n) = None
known_first (Compound name args) = if is_ground (first_of args) then Some (first_of args) else None

-- the tuple's first argument is this one, where one is given
abbrev pub HasFirst : Option Tree → Tree → Type 0
HasFirst first tuple = IfSome first (λ t. first_argument tuple ≡ Some t)

-- the tuple agrees with the key and has this first argument, where one is given
abbrev pub IsLike : Key → Option Tree → Tree → Type 0
IsLike key first tuple = IsOfKey key tuple × HasFirst first tuple

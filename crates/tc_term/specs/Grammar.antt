use Rattle.std.specs.Prelude.{◌≡◌, ℕ, ◌-◌, ◌≤◌, Bool, true, false, if◌then◌else◌}
use Rattle.std.specs.Prelude.{List, [], ◌∷◌, Option, Some, None, codes, bytes_eq}
use Rattle.tc_term.specs.Tokens.{Sign, EqColonEq, EqBackEq, EqLess, GreaterEq, BackEq, SlashSlash}
use Rattle.tc_term.specs.Tokens.{Equal, Less, Greater, Plus, Minus, Star, Ask, sign_bytes}

-- A token as the grammar sees it. A variable has its number. An integer has its value and its
-- place. A name is plain or quoted. An integer and a round bracket tell whether they directly
-- follow the token before.
pub data Token : Type 0 where
  Variable : ℕ → Token
  Integer : Bool → ℕ → ℕ → Token
  Name : Bool → List ℕ → Token
  Symbol : Sign → Token
  Open : Bool → Token
  Close OpenList CloseList Comma Bar : Token

-- an operator between two terms: its name, its priority, and the highest priority of each side
pub record Operator : Type 0 where
  pub name : List ℕ
  pub priority : ℕ
  pub left : ℕ
  pub right : ℕ

-- both sides are of lower priority
abbrev pub xfx : List ℕ → ℕ → Operator
xfx name p = record { name = name; priority = p; left = p - 1; right = p - 1 }

-- the left side may have the same priority
abbrev pub yfx : List ℕ → ℕ → Operator
yfx name p = record { name = name; priority = p; left = p; right = p - 1 }

-- the right side may have the same priority
abbrev pub xfy : List ℕ → ℕ → Operator
xfy name p = record { name = name; priority = p; left = p - 1; right = p }

-- the operator that a symbol is between two terms
abbrev pub operator_of : Sign → Operator
operator_of Ask = xfx (codes "?") 800
operator_of Equal = xfx (codes "=") 700
operator_of BackEq = xfx (codes "\\=") 700
operator_of EqColonEq = xfx (codes "=:=") 700
operator_of EqBackEq = xfx (codes "=\\=") 700
operator_of Less = xfx (codes "<") 700
operator_of Greater = xfx (codes ">") 700
operator_of EqLess = xfx (codes "=<") 700
operator_of GreaterEq = xfx (codes ">=") 700
operator_of Plus = yfx (codes "+") 500
operator_of Minus = yfx (codes "-") 500
operator_of Star = yfx (codes "*") 400
operator_of SlashSlash = yfx (codes "//") 400

-- the operator that a plain name is between two terms
abbrev pub operator_named : List ℕ → Option Operator
operator_named name = if bytes_eq name (codes "is") then Some (xfx (codes "is") 700)
    else (if bytes_eq name (codes "mod") then Some (yfx (codes "mod") 400) else None)

-- the highest priority of a term by itself and of one in round brackets, which is the comma's
abbrev pub whole_priority : ℕ
whole_priority = 1000

-- the highest priority of an argument, and of an element of a list
abbrev pub argument_priority : ℕ
argument_priority = 999

-- the priority of a minus with its term, and the highest one of that term
abbrev pub minus_priority : ℕ
minus_priority = 200

-- the operator that a token is behind a term
abbrev pub infix_of : Token → Option Operator
infix_of Comma = Some (xfy (codes ",") whole_priority)
infix_of (Symbol sign) = Some (operator_of sign)
infix_of (Name true name) = operator_named name
infix_of _ = None

-- the name that a token is before the brackets of a compound
abbrev pub functor_of : Token → Option (List ℕ)
functor_of (Name plain name) = Some name
functor_of (Symbol sign) = Some (sign_bytes sign)
functor_of _ = None

-- no bracket directly follows
abbrev pub NotCalled : List Token → Type 0
NotCalled (Open true ∷ ts) = ⊥
NotCalled _ = Unit {0}

-- no integer directly follows
abbrev pub NotNumber : List Token → Type 0
NotNumber (Integer true value place ∷ ts) = ⊥
NotNumber _ = Unit {0}

-- What the forms of terms mean: a variable by its number; a number by its sign, its size and its
-- place; an atom; and a compound by its name, its first argument and the others.
pub record Meaning (A : Type 0) : Type 0 where
  pub variable : ℕ → A
  pub number : Bool → ℕ → ℕ → A
  pub atom : List ℕ → A
  pub compound : List ℕ → A → List A → A

module _ {A : Type 0} (m : Meaning A) where
  -- the empty list
  abbrev pub nil : A
  nil = m.atom (codes "[]")

  -- a list cell of a head and a tail
  abbrev pub cell : A → A → A
  cell a b = m.compound (codes ".") a (b ∷ [])

  -- the prefix operator - with its operand
  abbrev pub negated : A → A
  negated a = m.compound (codes "-") a []

  -- an operator with both its sides
  abbrev pub between : Operator → A → A → A
  between op a b = m.compound op.name a (b ∷ [])

  mutual
    -- Derives m p ts a rest: the tokens ts begin with a term of priority at most p that means a;
    -- rest stands behind it.
    pub data Derives : ℕ → List Token → A → List Token → Type 0 where
      operand : {p : ℕ} {ts rest : List Token} {a : A} → Operand ts a rest → Derives p ts a rest
      prefix : {p : ℕ} {ts rest : List Token} {a : A}
          → minus_priority ≤ p → NotCalled ts → NotNumber ts
          → Derives minus_priority ts a rest → Derives p (Symbol Minus ∷ ts) (negated a) rest
      infix_term : {p : ℕ} {ts mid rest : List Token} {token : Token} {a b : A} (op : Operator)
          → infix_of token ≡ Some op → op.priority ≤ p
          → Derives op.left ts a (token ∷ mid) → Derives op.right mid b rest
          → Derives p ts (between op a b) rest

    -- an operand, of priority 0
    pub data Operand : List Token → A → List Token → Type 0 where
      variable : {n : ℕ} {rest : List Token} → Operand (Variable n ∷ rest) (m.variable n) rest
      integer : {glued : Bool} {n place : ℕ} {rest : List Token}
          → Operand (Integer glued n place ∷ rest) (m.number false n place) rest
      negative : {n place : ℕ} {rest : List Token}
          → Operand (Symbol Minus ∷ Integer true n place ∷ rest) (m.number true n place) rest
      atom : {plain : Bool} {name : List ℕ} {rest : List Token} → NotCalled rest
          → Operand (Name plain name ∷ rest) (m.atom name) rest
      compound : {token : Token} {name : List ℕ} {ts rest : List Token} {a : A} {more : List A}
          → functor_of token ≡ Some name → Arguments ts a more rest
          → Operand (token ∷ Open true ∷ ts) (m.compound name a more) rest
      no_items : {rest : List Token} → Operand (OpenList ∷ CloseList ∷ rest) nil rest
      items : {ts rest : List Token} {a : A} → Items ts a rest → Operand (OpenList ∷ ts) a rest
      group : {glued : Bool} {ts rest : List Token} {a : A}
          → Derives whole_priority ts a (Close ∷ rest) → Operand (Open glued ∷ ts) a rest

    -- the arguments of a compound, the first and the others, up to and with the closing bracket
    pub data Arguments : List Token → A → List A → List Token → Type 0 where
      last_argument : {ts rest : List Token} {a : A}
          → Derives argument_priority ts a (Close ∷ rest) → Arguments ts a [] rest
      more_arguments : {ts mid rest : List Token} {a b : A} {more : List A}
          → Derives argument_priority ts a (Comma ∷ mid) → Arguments mid b more rest
          → Arguments ts a (b ∷ more) rest

    -- a list from an element on, up to and with the closing bracket
    pub data Items : List Token → A → List Token → Type 0 where
      last_item : {ts rest : List Token} {a : A}
          → Derives argument_priority ts a (CloseList ∷ rest) → Items ts (cell a nil) rest
      list_tail : {ts mid rest : List Token} {a b : A}
          → Derives argument_priority ts a (Bar ∷ mid)
          → Derives argument_priority mid b (CloseList ∷ rest) → Items ts (cell a b) rest
      more_items : {ts mid rest : List Token} {a b : A}
          → Derives argument_priority ts a (Comma ∷ mid) → Items mid b rest
          → Items ts (cell a b) rest

  -- the tokens are a term that means a
  abbrev pub IsTerm : List Token → A → Type 0
  IsTerm ts a = Derives whole_priority ts a []

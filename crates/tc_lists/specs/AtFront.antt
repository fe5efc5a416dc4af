-- Reading at the front of bytes, as functions on lists: a word, one thing and then another, one of
-- several things; and what such a function is to do.
use Rattle.std.specs.Prelude.{◌≡◌, ℕ, List, ◌++◌, Some, None}
use Rattle.std.specs.declared.option.Option.{Option}
use Rattle.tc_lists.specs.Texts.{after}

-- what is read at the front, and what stands behind it; or nothing, where none of it stands there
abbrev pub Front : Type 0 → Type 0
Front X = Option (X × List ℕ)

-- what is read, as something that is made of it
abbrev pub made : {X Y : Type 0} → (X → Y) → Front X → Front Y
made make None = None
made make (Some (x, rest)) = Some (make x, rest)

-- one thing, and then another
abbrev pub and_then : {X Y : Type 0} → Front X → (X → List ℕ → Front Y) → Front Y
and_then None next = None
and_then (Some (x, rest)) next = next x rest

-- one thing, or where it isn't there another
abbrev pub or_else : {X : Type 0} → Front X → Front X → Front X
or_else None other = other
or_else (Some found) other = Some found

-- something behind a word, where the word is there
abbrev pub behind : {X : Type 0} → Option (List ℕ) → (List ℕ → Front X) → Front X
behind None read = None
behind (Some rest) read = read rest

-- this thing, where the word behind it is there
abbrev pub closed : {X : Type 0} → X → Option (List ℕ) → Front X
closed x None = None
closed x (Some rest) = Some (x, rest)

-- what is read, and a word behind it
abbrev pub closed_by : {X : Type 0} → List ℕ → Front X → Front X
closed_by word None = None
closed_by word (Some (x, rest)) = closed x (after word rest)

-- a word that stands for something
abbrev pub word_for : {X : Type 0} → X → List ℕ → List ℕ → Front X
word_for x word bytes = closed x (after word bytes)

-- a word, something, and a word
abbrev pub between : {X : Type 0}
    → List ℕ → List ℕ → (List ℕ → Front X) → List ℕ → Front X
between first close read bytes =
    behind (after first bytes) (λ rest. closed_by close (read rest))

-- what was read is good, and its text stands there
abbrev pub Takes : {X : Type 0}
    → (X → Type 0) → (X → List ℕ) → List ℕ → Front X → Type 0
Takes good text bytes None = Unit {0}
Takes good text bytes (Some (x, rest)) = good x × (bytes ≡ text x ++ rest)

-- what is read anywhere is good, and its text stands there
abbrev pub AlwaysTakes : {X : Type 0}
    → (X → Type 0) → (X → List ℕ) → (List ℕ → Front X) → Type 0
AlwaysTakes good text read = (bytes : List ℕ) → Takes good text bytes (read bytes)

-- the text of what is good is read again, whatever stands behind it
abbrev pub IsReadAgain : {X : Type 0}
    → (X → Type 0) → (X → List ℕ) → (List ℕ → Front X) → Type 0
IsReadAgain {X} good text read =
    (x : X) (rest : List ℕ) → good x → read (text x ++ rest) ≡ Some (x, rest)

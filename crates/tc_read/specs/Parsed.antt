-- What the parser finds, and what its loop keeps.
use Rattle.std.specs.Prelude.{◌≡◌, ◌↔◌, List, Option, Some, None}
use Rattle.tc_term.specs.Grammar.{Token, IsTerm}
use Rattle.tc_read.specs.declared.measured.Item.{Item}
use Rattle.tc_read.specs.Kept.{Kept, kept}
use Rattle.tc_read.specs.Items.{kept_item}

-- the tokens are this and nothing else, or they are no term
abbrev pub IsParsed : List Token → Option Item → Type 0
IsParsed ts None = (k : Kept) → IsTerm kept ts k → ⊥
IsParsed ts (Some item) = (k : Kept) → IsTerm kept ts k ↔ (kept_item item ≡ k)

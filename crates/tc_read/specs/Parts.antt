-- What stands at the front of a text between quotes.
use Rattle.std.specs.Prelude.{◌≡◌, ℕ, ◌+◌, ◌≤◌, List, length, Option, Some, None}
use Rattle.tc_read.specs.Lexing.{further, or_one, quoted_end}
use Rattle.tc_read.specs.declared.quoted.Part.{Part}
use Rattle.tc_read.specs.declared.quoted.Part.TheVariants.{Closing, Pair, Escape, Byte, Fault}

abbrev pub IsPart : List ℕ → Part → Type 0
IsPart text Closing = (quoted_end text ≡ Some 1) × (1 ≤ length text)
IsPart text (Pair rest) = (quoted_end text ≡ or_one (quoted_end rest.now))
    × (length text ≡ length rest.now + 2)
IsPart text (Escape rest) = (quoted_end text ≡ further 2 (quoted_end rest.now))
    × (length text ≡ length rest.now + 2)
IsPart text (Byte rest) = (quoted_end text ≡ further 1 (quoted_end rest.now))
    × (length text ≡ length rest.now + 1)
IsPart text Fault = quoted_end text ≡ None

-- the best end, where one was found before these bytes and another may be found behind them
abbrev pub better : ℕ → Option ℕ → Option ℕ → Option ℕ
better count best None = best
better count best (Some n) = Some (count + n)

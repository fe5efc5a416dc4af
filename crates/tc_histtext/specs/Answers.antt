-- What reading a text answers.
use Rattle.std.specs.Prelude.{◌≡◌, ℕ, List}
use Rattle.tc_histtext.specs.ReadTexts.{IsFirstFault, IsText}
use Rattle.tc_histtext.specs.declared.read_texts.Found.{Found}
use Rattle.tc_histtext.specs.declared.read_texts.Found.TheVariants as found
use Rattle.tc_histtext.specs.declared.read_texts.TextFault.{TextFault}
use Rattle.tc_histtext.specs.declared.read_texts.TextFault.TheVariants as fault

-- the bytes are this text, or this line is at fault
abbrev pub IsFound : List (List ℕ) → List (List ℕ) → List ℕ → Found → Type 0
IsFound centres agents bytes (found.Text t) = IsText centres agents t bytes
IsFound centres agents bytes (found.Fault k) = IsFirstFault centres agents bytes k

-- why the bytes are no text, as far as it is told
abbrev pub IsTextFault : List (List ℕ) → List (List ℕ) → List ℕ → TextFault → Type 0
IsTextFault centres agents bytes (fault.Line k) = IsFirstFault centres agents bytes k
IsTextFault centres agents bytes fault.NoMemory = Unit {0}

-- memory has run out
abbrev pub IsWant : TextFault → Type 0
IsWant (fault.Line k) = ⊥
IsWant fault.NoMemory = Unit {0}

-- this line is at fault, unless memory has run out
abbrev pub IsThisLine : ℕ → TextFault → Type 0
IsThisLine number (fault.Line k) = k ≡ number
IsThisLine number fault.NoMemory = Unit {0}

-- The lines of a history or of a log, and what was printed of them.
use Rattle.std.specs.Prelude.{◌≡◌, ◌<◌, ◌≤◌, ◌*◌, ℕ, List, [], ◌∷◌, All, drop, length, map, take}
use Rattle.std.specs.List.{flat_map}
use Rattle.tc_model.specs.Calls.{id_of}
use Rattle.tc_histline.specs.Text.{entry_text, row_text}
use Rattle.tc_histline.specs.declared.versions.Version.TheVariants.{Two}
use Rattle.tc_writing.specs.declared.lines.Lines.{Lines}
use Rattle.tc_writing.specs.declared.lines.Lines.TheVariants.{Entries, Rows}
use Rattle.tc_writing.specs.declared.shares.Printed.{Printed}

-- the text of each line
abbrev pub texts : Lines → List (List ℕ)
texts (Entries agents entries) = map (entry_text agents.now) entries.now
texts (Rows rows) = map (row_text Two) rows.now

-- the agent of each entry has a name
abbrev pub AreNamed : Lines → Type 0
AreNamed (Entries agents entries) = All (λ e. (id_of e).agent < length agents.now) entries.now
AreNamed (Rows rows) = Unit {0}

-- texts, one behind another
abbrev pub whole : List (List ℕ) → List ℕ
whole ts = flat_map (λ (t : List ℕ). t) ts

abbrev pub text_of : Lines → List ℕ
text_of lines = whole (texts lines)

-- the first of these lines were printed
pub record IsPrintedOf (ts : List (List ℕ)) (p : Printed) : Type 0 where
  pub some : p.lines ≤ length ts
  pub text : p.text.items ≡ whole (take p.lines ts)

abbrev pub IsPrinted : Lines → Printed → Type 0
IsPrinted share p = IsPrintedOf (texts share) p

-- the texts of the share of this number, from 0, in shares of this size
abbrev pub share_texts : ℕ → Lines → ℕ → List (List ℕ)
share_texts size wave n = take size (drop (n * size) (texts wave))

-- of each share of these texts the first lines were printed
abbrev pub ArePrinted : ℕ → List (List ℕ) → List Printed → Type 0
ArePrinted size ts [] = ts ≡ []
ArePrinted size ts (p ∷ ps) = IsPrintedOf (take size ts) p × ArePrinted size (drop size ts) ps

abbrev pub AreShares : ℕ → Lines → List Printed → Type 0
AreShares size wave ps = ArePrinted size (texts wave) ps

-- Texts that are made of pieces, and what stands behind a text.
use Rattle.std.specs.Prelude.{ℕ, ◌==◌, if◌then◌else◌, List, [], ◌∷◌, Some, None}
use Rattle.std.specs.List.{concat}
use Rattle.std.specs.declared.option.Option.{Option}

-- these texts, one after another
abbrev pub joined : List (List ℕ) → List ℕ
joined texts = concat texts

-- what stands behind this text at the front of the bytes, where it stands there
abbrev pub after : List ℕ → List ℕ → Option (List ℕ)
after [] bytes = Some bytes
after (t ∷ ts) [] = None
after (t ∷ ts) (b ∷ bs) = if t == b then after ts bs else None

-- Replies, as they are written.
use Rattle.std.specs.Prelude.{ℕ, List, ◌++◌, codes}

-- a reply of these words
abbrev pub reply_line : List ℕ → List ℕ
reply_line words = words ++ codes "\n"

-- what is wrong, in these words
abbrev pub error_line : List ℕ → List ℕ
error_line words = codes "error " ++ reply_line words

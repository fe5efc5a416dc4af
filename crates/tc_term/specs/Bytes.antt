-- Classes of bytes.
use Rattle.std.specs.Prelude.{ℕ, Bool, ◌||◌, ◌==◌, nat_le}
use Rattle.std.specs.Char.{is_ascii_lowercase, is_ascii_uppercase, is_ascii_alphanumeric}

-- a letter, a digit or an underscore
abbrev pub is_word : ℕ → Bool
is_word b = is_ascii_alphanumeric b || b == 95

-- what a name that isn't quoted begins with: a lower-case letter
abbrev pub is_name_start : ℕ → Bool
is_name_start b = is_ascii_lowercase b

-- what a variable begins with: an upper-case letter or an underscore
abbrev pub is_variable_start : ℕ → Bool
is_variable_start b = is_ascii_uppercase b || b == 95

-- what a name from the reader may hold: a byte from 32 on, a line feed or a tab
abbrev pub is_name_byte : ℕ → Bool
is_name_byte b = nat_le 32 b || b == 10 || b == 9

-- Short names as numbers.
use Rattle.std.specs.Prelude.{ℕ, zero, suc, ◌+◌, ◌*◌, ◌/◌, ◌%◌, List, [], ◌∷◌}
use Rattle.tc_unify.specs.declared.names.TheConstants.{SHORT}

-- the number of a name: the first byte is the lowest digit, and each digit counts one more
abbrev pub name_code : List ℕ → ℕ
name_code [] = 0
name_code (byte ∷ bytes) = name_code bytes * 256 + byte + 1

-- the name of a number, to so many bytes
abbrev pub name_within : ℕ → ℕ → List ℕ
name_within zero n = []
name_within (suc most) zero = []
name_within (suc most) (suc n) = n % 256 ∷ name_within most (n / 256)

-- the short name that has this number
abbrev pub name_at : ℕ → List ℕ
name_at n = name_within SHORT n

-- how many names have at most so many bytes
abbrev pub names_within : ℕ → ℕ
names_within zero = 1
names_within (suc most) = names_within most * 256 + 1

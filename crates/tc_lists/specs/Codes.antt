-- Codes: numbers of 64 bits by which things are looked up. Different things may have one code.
use Rattle.std.specs.Prelude.{ℕ, ◌+◌, ◌*◌, ◌%◌, ◌^◌}

-- a code and a number behind it; the factor is odd, so no two codes of one number become one
abbrev pub mixed : ℕ → ℕ → ℕ
mixed code n = (code * 11400714819323198485 + n) % 2 ^ 64

-- Numbers that grow at their end.
use Rattle.std.specs.Prelude.{ℕ, ◌+◌, ◌*◌, min}

-- n as the last digit, up to the largest number of 64 bits
abbrev pub appended : ℕ → ℕ → ℕ
appended digits n = min (min (digits * 10) 18446744073709551615 + n) 18446744073709551615

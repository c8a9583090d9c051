-- Decimals without leading zeros, and a line's fields.
use Rattle.std.specs.Prelude.{ℕ, ◌+◌, ◌-◌, ◌*◌, ◌≤◌, cond, List, [], ◌∷◌, Some, None, Ok, Err, codes, Option, Result, ◌==◌, nat_le}
use Rattle.std.specs.Char.{is_ascii_digit}
use Rattle.std.specs.Str.{bytes_eq}
use Rattle.text.specs.declared.number.FieldError.{FieldError}

-- the number that n and then these digits write
abbrev pub read_on : ℕ → List ℕ → Option ℕ
read_on n [] = Some n
read_on n (c ∷ cs) = cond (is_ascii_digit c) (read_on (n * 10 + (c - 48)) cs) None

-- a decimal: some digits, and no zero before another digit
abbrev pub numeral : List ℕ → Option ℕ
numeral [] = None
numeral (c ∷ []) = read_on 0 (c ∷ [])
numeral (c ∷ d ∷ cs) = cond (c == 48) None (read_on 0 (c ∷ d ∷ cs))

abbrev pub within : ℕ → Option ℕ → Option ℕ
within most None = None
within most (Some n) = cond (nat_le n most) (Some n) None

-- a field holds a number, or it is unfit
abbrev pub number_or : Option ℕ → Result (Option ℕ) FieldError
number_or (Some n) = Ok (Some n)
number_or None = Err (record {})

-- a blank has no number
abbrev pub field_of : ℕ → List ℕ → Result (Option ℕ) FieldError
field_of most bs = cond (bytes_eq bs (codes "-")) (Ok None) (number_or (within most (numeral bs)))

abbrev pub AtMost : ℕ → Result (Option ℕ) FieldError → Type 0
AtMost most (Ok (Some n)) = n ≤ most
AtMost most (Ok None) = Unit {0}
AtMost most (Err e) = Unit {0}

-- The lines of a script in an input.
use Rattle.std.specs.Prelude.{ℕ, cond, List, [], ◌∷◌, length, Some, None, codes, Option, nat_lt}
use Rattle.std.specs.Borrow.{Bor}
use Rattle.std.specs.Str.{bytes_eq}
use Rattle.text.specs.Split.{lines_of}

abbrev pub after_names : List (List ℕ) → Option (List (List ℕ))
after_names [] = None
after_names (l ∷ ls) = cond (bytes_eq l (codes "call slot generation value")) (Some ls) None

-- the lines after the names, where the input is short enough and begins with them
abbrev pub script_of : List ℕ → Option (List (List ℕ))
script_of bs = cond (nat_lt 65536 (length bs)) None (after_names (lines_of bs))

abbrev pub lines_in : Option (Bor (List ℕ)) → Option (List (List ℕ))
lines_in (Some r) = Some (lines_of r.now)
lines_in None = None

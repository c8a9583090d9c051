-- A list of bytes split at a byte.
use Rattle.std.specs.Prelude.{ℕ, cond, List, [], ◌∷◌, Some, None, Option, ◌==◌}

-- the first part goes on with x
abbrev pub onto : ℕ → List (List ℕ) → List (List ℕ)
onto x [] = (x ∷ []) ∷ []
onto x (p ∷ ps) = (x ∷ p) ∷ ps

-- the parts between the bytes `at`: one more than there are such bytes
abbrev pub split : ℕ → List ℕ → List (List ℕ)
split at [] = [] ∷ []
split at (x ∷ xs) = cond (x == at) ([] ∷ split at xs) (onto x (split at xs))

-- a line's fields, where there are four
pub record Four : Type 0 where
  pub call : List ℕ
  pub slot : List ℕ
  pub generation : List ℕ
  pub value : List ℕ

abbrev pub four_of : List (List ℕ) → Option Four
four_of [] = None
four_of (a ∷ []) = None
four_of (a ∷ b ∷ []) = None
four_of (a ∷ b ∷ c ∷ []) = None
four_of (a ∷ b ∷ c ∷ d ∷ []) = Some (record { call = a; slot = b; generation = c; value = d })
four_of (a ∷ b ∷ c ∷ d ∷ e ∷ fs) = None

-- what stands after the last byte 10 is a line only if it has a byte
abbrev pub last_line : List ℕ → List (List ℕ)
last_line [] = []
last_line (x ∷ xs) = (x ∷ xs) ∷ []

abbrev pub ended : List (List ℕ) → List (List ℕ)
ended [] = []
ended (l ∷ []) = last_line l
ended (l ∷ m ∷ ls) = l ∷ ended (m ∷ ls)

-- the lines of a text: byte 10 ends each, and the last may lack it
abbrev pub lines_of : List ℕ → List (List ℕ)
lines_of bs = ended (split 10 bs)

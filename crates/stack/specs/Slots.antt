-- What calls leave of a list of slots, and how many lent slots count.
use Rattle.std.specs.Prelude.{ℕ, ◌-◌, ◌≤◌, min, Bool, false, cond, List, [], ◌∷◌, ◌++◌, length, take, Some, None, Option, nat_lt}

-- one more at the end, where there is room
abbrev pub pushed_to : {U : Type 0} → ℕ → List U → U → List U
pushed_to room xs u = cond (nat_lt (length xs) room) (xs ++ u ∷ []) xs

abbrev pub popped_from : {U : Type 0} → List U → List U
popped_from xs = take (length xs - 1) xs

-- how many of the lent slots count: those beyond 2^32 - 1 do not
abbrev pub counted : ℕ → ℕ
counted lent = min lent 4294967295

-- a capacity is not above the maximum, where there is one
abbrev pub Under : ℕ → Option ℕ → Type 0
Under c None = Unit {0}
Under c (Some m) = c ≤ m

-- a request exceeds the maximum
abbrev pub exceeds : ℕ → Option ℕ → Bool
exceeds r None = false
exceeds r (Some m) = nat_lt m r

-- What a new limit does to a stack that takes one.
use Rattle.std.specs.Prelude.{◌≡◌, ℕ, ◌≤◌, Bool, true, false, cond, Some, None, Option, nat_le}
use Rattle.outcome.specs.Outcome.{Outcome, done, refused}

-- a limit below the slots is refused with 8
abbrev pub limit_answer : ℕ → ℕ → Outcome (Unit {0})
limit_answer n l = cond (nat_le n l) (done tt) (refused 8)

-- there is a maximum, and it is at most l
abbrev pub AtMost : ℕ → Option ℕ → Type 0
AtMost l None = ⊥
AtMost l (Some m) = m ≤ l

-- by the test 'the slots are within the limit'
abbrev pub BoundedIf : {C : Type 0} → (C → ℕ) → (C → Option ℕ) → Bool → ℕ → ℕ → C → C → Type 0
BoundedIf room limit true n l c d = (n ≤ room d) × (room d ≤ l) × AtMost l (limit d)
BoundedIf room limit false n l c d = d ≡ c

-- of n slots and a limit l: one that is refused changes no setting; one that is taken bounds capacity and maximum,
-- and leaves room for the slots
abbrev pub Bounded : {C : Type 0} → (C → ℕ) → (C → Option ℕ) → ℕ → ℕ → C → C → Type 0
Bounded room limit n l c d = BoundedIf room limit (nat_le n l) n l c d

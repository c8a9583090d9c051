-- The fixed stack: its one setting is the number of lent slots.
use Rattle.std.specs.Prelude.{◌≡◌, ℕ, cond, List, length, take, nat_lt}
use Rattle.outcome.specs.Outcome.{Outcome, done, refused}
use Rattle.stack.specs.Slots.{counted}
use Rattle.stack.specs.declared.fixed.FixedStack.{FixedStack}

abbrev pub fixed_list : {U : Type 0} → FixedStack U → List U
fixed_list s = take s.len s.slots.now

abbrev pub fixed_lent : {U : Type 0} → FixedStack U → ℕ
fixed_lent s = length s.slots.now

-- a request above the capacity is refused with 6, and any other changes nothing
abbrev pub fixed_answer : ℕ → ℕ → Outcome (Unit {0})
fixed_answer c r = cond (nat_lt (counted c) r) (refused 6) (done tt)

abbrev pub FixedRegrown : ℕ → ℕ → ℕ → Outcome (Unit {0}) → ℕ → Type 0
FixedRegrown c n r a d = (d ≡ c) × (a ≡ fixed_answer c r)

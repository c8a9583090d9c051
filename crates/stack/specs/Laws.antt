-- What each stack owes.
use Rattle.std.specs.Prelude.{◌≡◌, ℕ, ◌<◌, ◌≤◌, true, List, length, Option}
use Rattle.outcome.specs.Outcome.{Outcome, done, refused}
use Rattle.stack.specs.Slots.{Under, exceeds}

-- The list fits the capacity, which is below 2^32 and not above the maximum. A reallocation that is refused
-- changes nothing; one that is done keeps the maximum and leaves room for the request and the list; it is
-- refused with 6 exactly if the request exceeds the maximum.
pub record Laws {Self U Config : Type 0} (list : Self → List U) (config : Self → Config) (room : Config → ℕ) (limit : Config → Option ℕ) (regrown : Config → ℕ → ℕ → Outcome (Unit {0}) → Config → Type 0) : Type 0 where
  pub fits : (s : Self) → length (list s) ≤ room (config s)
  pub small : (s : Self) → room (config s) < 4294967296
  pub under : (s : Self) → Under (room (config s)) (limit (config s))
  pub unchanged : (c d : Config) (n r k : ℕ) → regrown c n r (refused k) d → d ≡ c
  pub granted : (c d : Config) (n r : ℕ) → n ≤ room c → regrown c n r (done tt) d → (limit d ≡ limit c) × (r ≤ room d) × (n ≤ room d)
  pub beyond : (c d : Config) (n r : ℕ) → regrown c n r (refused 6) d → exceeds r (limit c) ≡ true
  pub within : (c d : Config) (n r : ℕ) (a : Outcome (Unit {0})) → regrown c n r a d → exceeds r (limit c) ≡ true → a ≡ refused 6

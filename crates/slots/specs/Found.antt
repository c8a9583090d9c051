-- A found record, as one that stands.
use Rattle.std.specs.Prelude.{ℕ, ◌≤◌, Some, None, Option}
use Rattle.history.specs.Slots.{Held}
use Rattle.slots.specs.declared.find.Found.{Found}

abbrev pub held_in : {G V : Type 0} → Option (Found G V) → Option (Held G V)
held_in None = None
held_in (Some f) = Some (record { slot = f.slot; gen = f.generation; value = f.value })

-- what was found, if anything, is in one of n slots
abbrev pub Within : {G V : Type 0} → Option (Found G V) → ℕ → Type 0
Within None n = Unit {0}
Within (Some f) n = (1 ≤ f.slot) × (f.slot ≤ n)

-- Which record of the slots is meant.
use Rattle.std.specs.Prelude.{ℕ, ◌-◌, Bool, true, false, List, [], ◌∷◌, ◌++◌, length, filter, replicate, Some, None, Option, nat_le}
use Rattle.kinds.specs.Places.{slot_at}
use Rattle.kinds.specs.declared.slot.DirectSlot.{DirectSlot}
use Rattle.kinds.specs.declared.slot.DirectSlot.TheVariants.{Free, Allocated}
use Rattle.history.specs.Slots.{Slots, Held}
pub use Rattle.history.specs.Records.{record_in, match_in, named, found}

-- the first and the last of the records
abbrev pub first_of : {G V : Type 0} → List (Held G V) → Option (Held G V)
first_of [] = None
first_of (h ∷ hs) = Some h

abbrev pub last_of : {G V : Type 0} → List (Held G V) → Option (Held G V)
last_of [] = None
last_of (h ∷ []) = Some h
last_of (h ∷ k ∷ hs) = last_of (k ∷ hs)

-- the first of the records whose slot is at least n
abbrev pub first_from : {G V : Type 0} → ℕ → List (Held G V) → Option (Held G V)
first_from n hs = first_of (filter (λ h. nat_le n h.slot) hs)

-- the last of the records whose slot is at most n
abbrev pub last_to : {G V : Type 0} → ℕ → List (Held G V) → Option (Held G V)
last_to n hs = last_of (filter (λ h. nat_le h.slot n) hs)

-- how many records a slot holds
abbrev pub taken : {G V : Type 0} → DirectSlot G V → ℕ
taken Free = 0
taken (Allocated g v) = 1

-- free slots added up to n
abbrev pub filled : {G V : Type 0} → Slots G V → ℕ → Slots G V
filled s n = s ++ replicate (n - length s) Free

abbrev pub free_in : {G V : Type 0} → Option (DirectSlot G V) → Bool
free_in None = false
free_in (Some Free) = true
free_in (Some (Allocated g v)) = false

-- there is a last slot, and it is free
abbrev pub ends_free : {G V : Type 0} → Slots G V → Bool
ends_free s = free_in (slot_at s (length s))

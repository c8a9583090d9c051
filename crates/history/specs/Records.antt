-- Which record of the slots is meant.
use Rattle.std.specs.Prelude.{ℕ, Bool, cond, Some, None, Option}
use Rattle.kinds.specs.declared.slot.DirectSlot.{DirectSlot}
use Rattle.kinds.specs.declared.slot.DirectSlot.TheVariants.{Free, Allocated}
use Rattle.history.specs.Slots.{Slots, Ptr, Held, at}

-- the record of slot n, if that is allocated
abbrev pub record_in : {G V : Type 0} → ℕ → DirectSlot G V → Option (Held G V)
record_in n Free = None
record_in n (Allocated g v) = Some (record { slot = n; gen = g; value = v })

-- the same, if it is allocated with this generation
abbrev pub match_in : {G V : Type 0} → (G → G → Bool) → ℕ → DirectSlot G V → G → Option (Held G V)
match_in alike n Free g = None
match_in alike n (Allocated h v) g = cond (alike h g) (Some (record { slot = n; gen = h; value = v })) None

-- the record that an index's number names
abbrev pub named : {G V : Type 0} → ℕ → Slots G V → Option (Held G V)
named n s = record_in n (at n s)

-- the record that a pointer cites
abbrev pub found : {G V : Type 0} → (G → G → Bool) → Ptr G → Slots G V → Option (Held G V)
found alike p s = match_in alike p.slot (at p.slot s) p.gen

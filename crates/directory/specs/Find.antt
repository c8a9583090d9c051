-- Where a directory and an arena lead a pointer.
use Rattle.std.specs.Prelude.{Bool, Some, None, Option}
use Rattle.history.specs.Slots.{Slots, Ptr, Held}
use Rattle.history.specs.Records.{found}
use Rattle.history.specs.Directories.{Directory, recast_by}

-- the pointer with the value of the record, if there is one
abbrev pub with_record : {G V P : Type 0} → P → Option (Held G V) → Option (P × V)
with_record q None = None
with_record q (Some h) = Some (q, h.value)

module _ {G V P : Type 0} (alike : G → G → Bool) (view : P → Ptr G) (s : Slots G V) where
  abbrev pub looked_up : Option P → Option (P × V)
  looked_up None = None
  looked_up (Some q) = with_record q (found alike (view q) s)

  -- the pointer's recast, and the value of the record that this cites in the arena
  abbrev pub led_to : Directory G P → P → Option (P × V)
  led_to d p = looked_up (recast_by alike view d p)

-- The slab stack: its settings are the capacity and the number of lent slots.
use Rattle.std.specs.Prelude.{◌≡◌, ℕ, ◌*◌, min, max, Bool, true, false, List, length, take, nat_lt}
use Rattle.outcome.specs.Outcome.{Outcome, done, refused}
use Rattle.stack.specs.Slots.{counted}
use Rattle.slab_stack.specs.declared.slab.SlabStack.{SlabStack}

abbrev pub slab_list : {U : Type 0} → SlabStack U → List U
slab_list s = take s.len s.slots.now

abbrev pub slab_lent : {U : Type 0} → SlabStack U → ℕ
slab_lent s = length s.slots.now

abbrev pub slab_config : {U : Type 0} → SlabStack U → ℕ × ℕ
slab_config s = (s.room, slab_lent s)

-- by the tests 'r exceeds the capacity' and 'r exceeds the lent slots'
abbrev pub slab_answer : Bool → Bool → Outcome (Unit {0})
slab_answer true true = refused 7
slab_answer true false = done tt
slab_answer false t = done tt

-- it doubles, up to what is lent, where that is enough; it shrinks to the list at least
abbrev pub slab_room : Bool → Bool → ℕ → ℕ → ℕ → ℕ → ℕ
slab_room true true c l n r = c
slab_room true false c l n r = min l (max r (2 * c))
slab_room false t c l n r = max r n

abbrev pub SlabRegrown : ℕ × ℕ → ℕ → ℕ → Outcome (Unit {0}) → ℕ × ℕ → Type 0
SlabRegrown c n r a d = (a ≡ slab_answer (nat_lt c.0 r) (nat_lt (counted c.1) r)) × (d.0 ≡ slab_room (nat_lt c.0 r) (nat_lt (counted c.1) r) c.0 (counted c.1) n r) × (d.1 ≡ c.1)

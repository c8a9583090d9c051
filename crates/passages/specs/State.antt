-- A register, which is an arena of short indices, season numbers and 32-bit values over a limited slab, the directory of
-- its latest compression, and the state that answers depend on.
use Rattle.std.specs.Prelude.{[], ℕ, min, length}
use Rattle.answers.specs.declared.answer.Tally.{Tally}
use Rattle.arena.specs.Answers.{cited}
use Rattle.bulk.specs.Given.{point}
use Rattle.history.specs.Directories.{Directory}
use Rattle.history.specs.Slots.{Slots, Ptr, count}
use Rattle.numbering.specs.Kinds.{short_number}
use Rattle.numbering.specs.Pointers.{Pointer, pointer_at}
use Rattle.numbering.specs.declared.generation.SeasonGen.{SeasonGen}
use Rattle.numbering.specs.declared.index.ShortInx.{ShortInx}
use Rattle.kinds.specs.declared.slot.DirectSlot.{DirectSlot}
use Rattle.limited.specs.declared.limited.LimitedStack.{LimitedStack}
use Rattle.limited.specs.Limited.{limited_list, limited_config}
use Rattle.slab_stack.specs.SlabLaws.{slab_members}
use Rattle.stack.specs.Fixed.{fixed_list, fixed_lent}
use Rattle.stack.specs.Slots.{counted}
use Rattle.stack.specs.declared.fixed.FixedStack.{FixedStack}
use Rattle.slab_stack.specs.declared.slab.SlabStack.{SlabStack}

-- What a register's own calls depend on: its slots, the slab's capacity, how many slots are lent to it, and the limit.
pub record RegisterState : Type 0 where
  pub slots : Slots SeasonGen ℕ
  pub room : ℕ
  pub lent : ℕ
  pub limit : ℕ

-- With the latest directory: its slots, and how many are lent to it.
pub record State : Type 0 where
  pub register : RegisterState
  pub latest : Directory SeasonGen Pointer
  pub latest_room : ℕ

-- the register's stack: a slab under a limit
abbrev pub RegisterStack : Type 0
RegisterStack = LimitedStack (SlabStack (DirectSlot SeasonGen ℕ)) (DirectSlot SeasonGen ℕ) slab_members

-- read by its list and its settings: those of the slab, and the limit
abbrev pub register_of : RegisterStack → RegisterState
register_of r = let c = limited_config r in record { slots = limited_list r; room = c.0.0; lent = c.0.1; limit = c.1 }

abbrev pub state_of : RegisterStack → FixedStack (DirectSlot SeasonGen Pointer) → State
state_of r d = record { register = register_of r; latest = fixed_list d; latest_room = fixed_lent d }

-- a new register over so many lent slots
abbrev pub opened : ℕ → RegisterState
opened lent = record { slots = []; room = min 16 (counted lent); lent = lent; limit = min 16 (counted lent) }

abbrev pub capacity_of : RegisterState → ℕ
capacity_of r = min (min r.limit r.room) 65535

abbrev pub tally_of : RegisterState → Tally
tally_of r = record { count = count r.slots; slots = length r.slots; capacity = capacity_of r }

-- the pointer of a number and a season
abbrev pub short_point : Ptr SeasonGen → Pointer
short_point = point {P = Pointer} {I = ShortInx} {G = SeasonGen} (λ n. record { raw = n }) (λ i g. record { inx = i; generation = g })

-- and a pointer as its index's number and its season
abbrev pub short_view : Pointer → Ptr SeasonGen
short_view = cited {P = Pointer} short_number (λ p. p.inx) (λ p. p.generation)

-- the view of the pointer of a slot field and a generation field
abbrev pub cite : ℕ → ℕ → Ptr SeasonGen
cite slot season = short_view (pointer_at slot season)

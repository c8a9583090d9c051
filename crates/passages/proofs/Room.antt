-- When an arena over a fixed stack is given room.
use Rattle.std.proofs.Common.{◌≡◌, ℕ, min, leb, Ok, Err, Result, arith}
use Rattle.arena.specs.Reserve.{MadeRoom}
use Rattle.history.specs.Calls.{went}
use Rattle.arena.specs.Outcomes.{of_arena_reallocation}
use Rattle.arena.specs.declared.error.ArenaReallocationError.{ArenaReallocationError}
use Rattle.arena.specs.declared.error.ArenaReallocationError.TheVariants.{Stack, BeyondIndices}
use Rattle.stack.specs.declared.error.ReallocationError.TheVariants.{BeyondMaxCapacity, AllocError}
use Rattle.stack.specs.Fixed.{FixedRegrown}
use Rattle.stack.specs.Slots.{counted}

-- room is made exactly if the lent slots have it, and there are as many of them as before
pub made_room : (r : Result (Unit {0}) ArenaReallocationError) (n last lent after : ℕ) → MadeRoom FixedRegrown counted 65535 n last (of_arena_reallocation r) lent after → (went (of_arena_reallocation r) ≡ leb last (min (counted lent) 65535)) × (after ≡ lent)
made_room (Ok tt) n last lent after m = grind arith
made_room (Err BeyondIndices) n last lent after m = grind arith
made_room (Err (Stack BeyondMaxCapacity)) n last lent after m = grind arith
made_room (Err (Stack AllocError)) n last lent after m = grind arith

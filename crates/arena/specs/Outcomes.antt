-- What an answer with the error of this crate means.
use Rattle.std.specs.Prelude.{Bool, true, false, Ok, Err, Result}
use Rattle.outcome.specs.Outcome.{Outcome, done, refused}
use Rattle.stack.specs.Outcomes.{of_reallocation}
use Rattle.arena.specs.declared.error.ArenaReallocationError.{ArenaReallocationError}
use Rattle.arena.specs.declared.error.ArenaReallocationError.TheVariants as arena_realloc

-- the stack's fault under its own number, no index 7
abbrev pub of_arena_reallocation : Result (Unit {0}) ArenaReallocationError → Outcome (Unit {0})
of_arena_reallocation (Ok u) = done u
of_arena_reallocation (Err (arena_realloc.Stack e)) = of_reallocation (Err e)
of_arena_reallocation (Err arena_realloc.BeyondIndices) = refused 7

-- whether the fault is the arena's own: it has no index for so many slots
abbrev pub beyond_indices : Result (Unit {0}) ArenaReallocationError → Bool
beyond_indices (Ok u) = false
beyond_indices (Err (arena_realloc.Stack e)) = false
beyond_indices (Err arena_realloc.BeyondIndices) = true

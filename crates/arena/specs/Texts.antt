-- What is written of the error.
use Rattle.std.specs.Prelude.{ℕ, List, ◌++◌, codes}
use Rattle.stack.specs.Texts.{reallocation_text}
use Rattle.arena.specs.declared.error.ArenaReallocationError.{ArenaReallocationError}
use Rattle.arena.specs.declared.error.ArenaReallocationError.TheVariants as arena_realloc

-- a fault that another carries is written after it
abbrev pub arena_reallocation_text : ArenaReallocationError → List ℕ
arena_reallocation_text (arena_realloc.Stack e) = codes "the stack of the arena was given no room: " ++ reallocation_text e
arena_reallocation_text arena_realloc.BeyondIndices = codes "a capacity beyond the largest index was asked for"

use Rattle.std.proofs.Common.{◌≡◌, ℕ, List, drop, string_bytes}
use Rattle.passages.specs.State.{register_of}
use Rattle.stack.specs.Fixed.{fixed_lent}
use Rattle.trails.specs.Today.{AllTold}
use Rattle.trails.proofs.seasons.add_trails.Given as goal

abbrev pub invariant-loop-citation : goal.invariant-loop-citation
invariant-loop-citation l = (fixed_lent l.scratch ≡ fixed_lent l.initial.scratch) × ((end : List ℕ) → AllTold (fixed_lent l.initial.scratch) (register_of l.register).slots l.directories (drop l.citation-index l.citations) (string_bytes l.out) end → AllTold (fixed_lent l.initial.scratch) (register_of l.register).slots l.directories l.citations (string_bytes l.initial.out) end)

use Rattle.std.proofs.Common.{◌≡◌, drop}
use Rattle.stack.specs.Fixed.{fixed_list, fixed_lent}
use Rattle.trails.specs.Reports.{reports_in}
use Rattle.trails.specs.Today.{joined_on}
use Rattle.trails.proofs.trail.join_all.Given as goal

abbrev pub invariant-loop-directory : goal.invariant-loop-directory
invariant-loop-directory l = (fixed_lent l.scratch ≡ fixed_lent l.initial.scratch) × (joined_on (fixed_list l.scratch) (reports_in (drop l.directory-index l.directories)) ≡ joined_on (fixed_list l.initial.scratch) (reports_in l.directories))

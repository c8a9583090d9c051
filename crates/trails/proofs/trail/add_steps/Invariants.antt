use Rattle.std.proofs.Common.{string_bytes}
use Rattle.trails.proofs.Steps.{Sofar}
use Rattle.trails.proofs.trail.add_steps.Given as goal

abbrev pub invariant-loop-n : goal.invariant-loop-n
invariant-loop-n l = Sofar l.directories l.before l.fn.p (string_bytes l.initial.out) l.n l.at (string_bytes l.out)

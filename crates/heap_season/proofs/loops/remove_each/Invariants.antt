use Rattle.std.proofs.Common.{◌≡◌}
use Rattle.heap_season.proofs.loops.remove_each.Given as goal

abbrev pub invariant-loop-k : goal.invariant-loop-k
invariant-loop-k g l = g.S.NonZeroInxGenericStack.config l.register ≡ g.S.NonZeroInxGenericStack.config l.initial.register

use Rattle.std.proofs.Common.{string_bytes}
use Rattle.passages.specs.State.{state_of}
use Rattle.runner.proofs.Loops.{Sofar}
use Rattle.runner.proofs.script.add_answers.Given as goal
use Rattle.text.specs.Split.{lines_of}

abbrev pub invariant-loop-line : goal.invariant-loop-line
invariant-loop-line l = Sofar (state_of l.initial.register l.initial.latest) (string_bytes l.initial.out) (lines_of l.script) (state_of l.register l.latest) (string_bytes l.out) (lines_of l.line-iterator.rest.now)

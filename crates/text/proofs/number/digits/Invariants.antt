use Rattle.text.proofs.Numbers.{Sofar}
use Rattle.text.proofs.number.digits.Given as goal

abbrev pub invariant-loop-b : goal.invariant-loop-b
invariant-loop-b l = Sofar l.most l.bytes l.b-index l.n

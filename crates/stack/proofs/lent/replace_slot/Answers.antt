use Rattle.std.proofs.Common.{rules}
use Rattle.std.proofs.Math.Seq.{take-set-lt}
use Rattle.stack.proofs.lent.replace_slot.Goals as goal

pub returns-clause-slots : goal.returns-clause-slots
returns-clause-slots g c = search (rules, take-set-lt)

use Rattle.std.proofs.Common.{refl, rules}
use Rattle.text.proofs.Splits.{first_cut}
use Rattle.text.proofs.split.first_line.Goals as goal

pub returns-clause-first : goal.returns-clause-first
returns-clause-first c = rw c.unwrap_or.ensures (first_cut _ c.split_once.result _ refl refl (search rules) c.split_once.ensures.parts)

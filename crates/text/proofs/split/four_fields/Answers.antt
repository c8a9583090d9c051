use Rattle.std.proofs.Common.{rules}
use Rattle.text.proofs.Splits.{too_many}
use Rattle.text.proofs.split.four_fields.Goals as goal

pub returns-then-is_some : goal.returns-then-is_some
returns-then-is_some c = search (rules, too_many)

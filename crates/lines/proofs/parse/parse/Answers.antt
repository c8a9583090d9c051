use Rattle.std.proofs.Common.{rules}
use Rattle.lines.proofs.EachText.{each_asks}
use Rattle.lines.proofs.OneText.{only_asks}
use Rattle.lines.proofs.parse.parse.Goals as goal

pub returns-then-line-gt-LONGEST-clause-each : goal.returns-then-line-gt-LONGEST-clause-each
returns-then-line-gt-LONGEST-clause-each c = each_asks (search rules)

pub returns-in_err-ok_or-clause-each : goal.returns-in_err-ok_or-clause-each
returns-in_err-ok_or-clause-each c = each_asks (search rules)

pub returns-clause-only : goal.returns-clause-only
returns-clause-only c = only_asks (search rules)

pub returns-clause-each : goal.returns-clause-each
returns-clause-each c = each_asks (search rules)

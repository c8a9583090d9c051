use Rattle.std.proofs.Common.{rules}
use Rattle.season.proofs.EachText.{each_asks_for}
use Rattle.season.proofs.Texts.{only_asks_for}
use Rattle.season.proofs.parse.parse.Goals as goal

pub returns-then-line-gt-LONGEST-clause-each : goal.returns-then-line-gt-LONGEST-clause-each
returns-then-line-gt-LONGEST-clause-each c = each_asks_for (search rules)

pub returns-in_err-fields-clause-each : goal.returns-in_err-fields-clause-each
returns-in_err-fields-clause-each c = each_asks_for (search rules)

pub returns-then-is_word-clause-only : goal.returns-then-is_word-clause-only
returns-then-is_word-clause-only c = only_asks_for (search rules)

pub returns-then-is_word-clause-each : goal.returns-then-is_word-clause-each
returns-then-is_word-clause-each c = each_asks_for (search rules)

pub returns-in_err-parse-clause-each : goal.returns-in_err-parse-clause-each
returns-in_err-parse-clause-each c = each_asks_for (search rules)

pub returns-clause-only : goal.returns-clause-only
returns-clause-only c = only_asks_for (search rules)

pub returns-clause-each : goal.returns-clause-each
returns-clause-each c = each_asks_for (search rules)

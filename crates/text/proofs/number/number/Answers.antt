use Rattle.std.proofs.Common.{arith, rules}
use Rattle.text.proofs.Exact.{only_reads, each_reads}
use Rattle.text.proofs.number.number.Goals as goal

pub returns-in_default : goal.returns-in_default
returns-in_default c = record { reads = search rules; only = only_reads (omega arith) (search rules); each = each_reads (omega arith) (search rules) }

pub returns-in-empty : goal.returns-in-empty
returns-in-empty c = record { reads = search rules; only = only_reads (omega arith) (search rules); each = each_reads (omega arith) (search rules) }

pub returns-in-48 : goal.returns-in-48
returns-in-48 c = record { reads = search rules; only = only_reads (omega arith) (search rules); each = each_reads (omega arith) (search rules) }

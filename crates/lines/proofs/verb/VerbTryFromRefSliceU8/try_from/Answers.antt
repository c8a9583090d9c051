use Rattle.std.proofs.Common.{arith}
use Rattle.lines.proofs.Names.{spelled}
use Rattle.lines.specs.declared.verb.Verb.TheVariants.{Insert, Remove, Reserve, Compress, Recast}
use Rattle.lines.proofs.verb.VerbTryFromRefSliceU8.try_from.Goals as goal

pub returns-in-insert : goal.returns-in-insert
returns-in-insert c = spelled Insert c.args.name.now (omega arith, (omega arith, (omega arith, (omega arith, (omega arith, (omega arith, omega arith))))))

pub returns-in-remove : goal.returns-in-remove
returns-in-remove c = spelled Remove c.args.name.now (omega arith, (omega arith, (omega arith, (omega arith, (omega arith, (omega arith, omega arith))))))

pub returns-in-reserve : goal.returns-in-reserve
returns-in-reserve c = spelled Reserve c.args.name.now (omega arith, (omega arith, (omega arith, (omega arith, (omega arith, (omega arith, (omega arith, omega arith)))))))

pub returns-in-compress : goal.returns-in-compress
returns-in-compress c = spelled Compress c.args.name.now (omega arith, (omega arith, (omega arith, (omega arith, (omega arith, (omega arith, (omega arith, (omega arith, omega arith))))))))

pub returns-in-recast : goal.returns-in-recast
returns-in-recast c = spelled Recast c.args.name.now (omega arith, (omega arith, (omega arith, (omega arith, (omega arith, (omega arith, omega arith))))))

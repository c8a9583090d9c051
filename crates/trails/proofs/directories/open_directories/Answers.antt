use Rattle.std.proofs.Common.{rules, [], length, subst, append-nil}
use Rattle.trails.specs.Reports.{Opened}
use Rattle.trails.proofs.directories.open_directories.Goals as goal

pub returns : goal.returns
returns c = subst (Opened (length c.args.slots.now)) (append-nil c.loop-part.directories.items) (c.loop-part.invariant.1 [] (search rules))

use Rattle.std.proofs.Common.{string_bytes}
use Rattle.passages.specs.State.{register_of}
use Rattle.text.specs.Split.{lines_of}
use Rattle.trails.specs.Reports.{first_reports, rooms_left}
use Rattle.trails.proofs.Goings.{Sofar}
use Rattle.trails.proofs.seasons.add_season.Given as goal

abbrev pub invariant-loop-line : goal.invariant-loop-line
invariant-loop-line l = Sofar (record { number = 1; compressions = 0; rooms = rooms_left 0 l.initial.directories.items; register = register_of l.initial.register; citations = l.initial.citations.items; text = string_bytes l.initial.out }) (lines_of l.lines) (record { number = l.number; compressions = l.filled; rooms = rooms_left l.filled l.directories.items; register = register_of l.register; citations = l.citations.items; text = string_bytes l.out }) (lines_of l.line-iterator.rest.now) (first_reports l.filled l.directories.items)

-- What an answer with the error of this crate means.
use Rattle.std.specs.Prelude.{Ok, Err, Result}
use Rattle.outcome.specs.Outcome.{Outcome, done, refused}
use Rattle.arena.specs.declared.error.ArenaReallocationError.{ArenaReallocationError}
use Rattle.directory.specs.declared.error.DirectoryError.{DirectoryError}
use Rattle.directory.specs.declared.error.DirectoryError.TheVariants as directory

-- a directory that is given no room for a report 10
abbrev pub of_directory : Result (Unit {0}) DirectoryError → Outcome (Unit {0})
of_directory (Ok u) = done u
of_directory (Err e) = refused 10

-- what the directory's arena answered when it was asked for that room
abbrev pub carried : Result (Unit {0}) DirectoryError → Result (Unit {0}) ArenaReallocationError
carried (Ok u) = Ok u
carried (Err (directory.NoRoom e)) = Err e

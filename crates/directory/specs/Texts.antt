-- What is written of the error.
use Rattle.std.specs.Prelude.{ℕ, List, ◌++◌, codes}
use Rattle.arena.specs.Texts.{arena_reallocation_text}
use Rattle.directory.specs.declared.error.DirectoryError.{DirectoryError}
use Rattle.directory.specs.declared.error.DirectoryError.TheVariants as directory

abbrev pub directory_text : DirectoryError → List ℕ
directory_text (directory.NoRoom e) = codes "the directory was given no room for a report: " ++ arena_reallocation_text e

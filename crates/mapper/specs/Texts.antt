-- What is written of the error.
use Rattle.std.specs.Prelude.{ℕ, List, codes}

abbrev pub not_held_text : List ℕ
not_held_text = codes "the directory does not hold this pointer"

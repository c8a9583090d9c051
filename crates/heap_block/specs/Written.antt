-- What a block's slots are after one is written.
use Rattle.std.specs.Prelude.{ℕ, suc, List, ◌∷◌, ◌++◌, take, drop}

abbrev pub written : {U : Type 0} → List U → ℕ → U → List U
written xs i u = take i xs ++ u ∷ drop (suc i) xs

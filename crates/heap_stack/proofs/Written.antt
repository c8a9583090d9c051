-- One slot written: how the first of the slots change.
use Rattle.std.proofs.Common.{◌≡◌, ℕ, zero, suc, ◌+◌, ◌<◌, ◌≤◌, List, [], ◌∷◌, ◌++◌, length, take, set, Some, refl, arith}
use Rattle.std.proofs.lemmas.Bool.{lt-ltb}
use Rattle.std.proofs.lemmas.List.{length-take-le}
use Rattle.std.specs.List.{slice_get}
use Rattle.stack.specs.Slots.{pushed_to}
use Rattle.heap_block.specs.Written.{written}

module _ {U : Type 0} where
  one_more : (xs : List U) (i : ℕ) (u : U) → i ≤ length xs → take (i + 1) (written xs i u) ≡ take i xs ++ u ∷ []
  one_more xs zero u h = refl
  one_more [] (suc i) u h = absurd (omega arith)
  one_more (x ∷ xs) (suc i) u h = grind (arith, one_more xs i u)

  -- the one behind the first i, where there is room
  pub push_written : (xs : List U) (i room : ℕ) (u : U) → i ≤ length xs → i < room → take (i + 1) (written xs i u) ≡ pushed_to room (take i xs) u
  push_written xs i room u h l = rw (length-take-le i xs h, lt-ltb i room l) (one_more xs i u h)

  -- one of the first n
  pub put_written : (xs : List U) (n i : ℕ) (u : U) → i < n → n ≤ length xs → take n (written xs i u) ≡ set (take n xs) i u
  put_written xs zero i u l h = absurd (omega arith)
  put_written [] (suc n) i u l h = absurd (omega arith)
  put_written (x ∷ xs) (suc n) zero u l h = refl
  put_written (x ∷ xs) (suc n) (suc i) u l h = grind (arith, put_written xs n i u)

  -- the next of those that are copied
  pub copy_written : (xs : List U) (i : ℕ) (u : U) → slice_get xs i ≡ Some u → written (take i xs) i u ≡ take (i + 1) xs
  copy_written [] i u h = cc
  copy_written (x ∷ xs) zero u h = cc
  copy_written (x ∷ xs) (suc i) u h = grind (arith, copy_written xs i u)

-- What a block owns, and what a reference to it lends, at slots of the type R.
use Rattle.std.specs.Prelude.{ℕ, zero, suc, ◌+◌, ◌*◌, ◌^◌, List, [], ◌∷◌}
use Rattle.std.specs.Mem.{type_size}
use base.Fraction.{full_share}
use base.Fml.{Lft, Fml, ftrue, ffalse, fsep, flt, froom}
use mir.Syntax.{Ty, ty_array}
use mir.Raw.{raw}
use denote.RattleType.{RattleType}
use denote.Memory.{lone, part_at, shared_of}
use denote.Sharing.{nothing, said, beside}
use denote.RawPtr.{Ptr, block_ptr, null_ptr}

abbrev pub rest : {X : Type 0} → List X → List X
rest [] = []
rest (x ∷ xs) = xs

module _ (R : RattleType) where
  -- one place, o bytes into the memory b: the first of the slots lies there, or it is room where there is none
  abbrev pub place : ℕ → ℕ → List R.Denot → Fml
  place b o [] = froom (raw (lone R.mir)) b o
  place b o (x ∷ xs) = part_at R full_share x b o

  -- n places side by side, in the first of which the slots lie
  abbrev pub places : ℕ → ℕ → ℕ → List R.Denot → Fml
  places b o zero xs = ftrue
  places b o (suc n) xs = fsep (place b o xs) (places b (o + type_size R) n (rest xs))

  abbrev pub place_lent : ℕ → ℕ → List R.Denot → Lft → Fml
  place_lent b o [] = nothing
  place_lent b o (x ∷ xs) = shared_of R x b o

  abbrev pub places_lent : ℕ → ℕ → ℕ → List R.Denot → Lft → Fml
  places_lent b o zero xs = nothing
  places_lent b o (suc n) xs = beside (place_lent b o xs) (places_lent b (o + type_size R) n (rest xs))

  -- n places take fewer than 2^63 bytes
  abbrev pub fit : ℕ → Fml
  fit n = flt (n * type_size R) (2 ^ 63)

  -- with no place there is no block; else it has its places, and the right, the allocator's, to give it back
  abbrev pub block_owns : (Ty → Ptr → Fml) → Ptr → ℕ → List R.Denot → Fml
  block_owns right p zero xs = ftrue
  block_owns right (block_ptr b o) (suc n) xs = fsep (fit (suc n)) (fsep (places b o (suc n) xs) (right (raw (ty_array (lone R.mir) (suc n))) (block_ptr b o)))
  block_owns right null_ptr (suc n) xs = ffalse

  abbrev pub block_lends : Ptr → ℕ → List R.Denot → Lft → Fml
  block_lends p zero xs = nothing
  block_lends (block_ptr b o) (suc n) xs = beside (said (fit (suc n))) (places_lent b o (suc n) xs)
  block_lends null_ptr (suc n) xs = said ffalse

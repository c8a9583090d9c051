-- A reference to a block is made where one to a slot is: it lends the written slots, and not the room. Assumes `Logic`.
use Prim.Native.Nat.{ℕ, zero, suc, ◌+◌}
use mathlib.Core.List.{List, [], ◌∷◌}
use mir.Syntax.{Ty, ty_array}
use mir.Raw.{raw}
use seplogic.Ra.Ura.{Ura}
use base.Fml.{Fml, Lft, Incl, ftrue, ffalse, fsep}
use types.Logic.{Logic}
use denote.RattleType.{RattleType, RowLaws}
use denote.Memory.{lone}
use denote.Param.Laws.{Laws}
use denote.RawPtr.{Ptr, block_ptr, null_ptr}
use denote.Sharing.{ShrLaws, said}
use denote.SharingLaws.{beside_shr_laws, nothing_shr_laws, said_shr_laws}
use denote.Shares.{Shares-less}
use denote.Struct.Lending.{Lends, Lends-both, Lends-first, Lends-nothing, Lends-said, Lends-false}
use Rattle.std.specs.Mem.{type_size}
use Rattle.heap_block.specs.Places.{rest, place, places, place_lent, places_lent, fit, block_owns, block_lends}

module _ (R : RattleType) (L : RowLaws R) where
  place_laws : (b o : ℕ) (xs : List R.Denot) → ShrLaws (place_lent R b o xs)
  place_laws b o [] = nothing_shr_laws
  place_laws b o (x ∷ xs) = L x b o

  places_laws : (b o n : ℕ) (xs : List R.Denot) → ShrLaws (places_lent R b o n xs)
  places_laws b o zero xs = nothing_shr_laws
  places_laws b o (suc n) xs = beside_shr_laws _ _ (place_laws b o xs) (places_laws b (o + type_size R) n (rest xs))

  pub block_laws : (p : Ptr) (n : ℕ) (xs : List R.Denot) → ShrLaws (block_lends R p n xs)
  block_laws p zero xs = nothing_shr_laws
  block_laws (block_ptr b o) (suc n) xs = beside_shr_laws _ _ (said_shr_laws (fit R (suc n)) tt) (places_laws b o (suc n) xs)
  block_laws null_ptr (suc n) xs = said_shr_laws ffalse tt

module _ {M : Type 1} {𝓤 : Ura M} (𝓛 : Logic 𝓤) (l : Lft) (R : RattleType) (L : Laws R) (inc : Incl l R.lives) where
  place_lends : (b o : ℕ) (xs : List R.Denot) → Lends 𝓛 (place R b o xs) (place_lent R b o xs) l
  place_lends b o [] = Lends-nothing 𝓛 (place R b o []) l
  place_lends b o (x ∷ xs) = λ κ ts. Shares-less 𝓛 R R.lives l inc (L.shares 𝓛) x κ ts b o

  places_lend : (b o n : ℕ) (xs : List R.Denot) → Lends 𝓛 (places R b o n xs) (places_lent R b o n xs) l
  places_lend b o zero xs = Lends-nothing 𝓛 ftrue l
  places_lend b o (suc n) xs = Lends-both 𝓛 (place R b o xs) (places R b (o + type_size R) n (rest xs)) (place_lent R b o xs) (places_lent R b (o + type_size R) n (rest xs)) l
      (place_lends b o xs) (places_lend b (o + type_size R) n (rest xs))

  pub lends_block : (right : Ty → Ptr → Fml) (p : Ptr) (n : ℕ) (xs : List R.Denot) → Lends 𝓛 (block_owns R right p n xs) (block_lends R p n xs) l
  lends_block right p zero xs = Lends-nothing 𝓛 ftrue l
  lends_block right (block_ptr b o) (suc n) xs = let all = places R b o (suc n) xs in let back = right (raw (ty_array (lone R.mir) (suc n))) (block_ptr b o) in
      Lends-both 𝓛 (fit R (suc n)) (fsep all back) (said (fit R (suc n))) (places_lent R b o (suc n) xs) l (Lends-said 𝓛 (fit R (suc n)) tt l)
      (Lends-first 𝓛 all back (places_lent R b o (suc n) xs) l (places_lend b o (suc n) xs))
  lends_block right null_ptr (suc n) xs = Lends-false 𝓛 (said ffalse) l

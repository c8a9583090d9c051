-- What a `&` to a block shows: where it starts, and a `&` to each slot. Assumes `Logic`.
use Prim.Native.Nat.{ℕ, zero, suc, ◌+◌, ◌*◌, ◌<◌, ◌^◌}
use native.Mathlib.Nat.{not-suc-le-zero}
use mathlib.Core.List.{List, [], ◌∷◌}
use lib.ListN.{length, get_or}
use seplogic.Ra.Ura.{Ura}
use base.Logic.{ent, sep, guard, never, id⊢}
use base.Fml.{Lft, fhide}
use types.Logic.{Logic, sem}
use types.Kit.{‵, ◌⊛◌, ◌$◌, ◌∵◌, !, qed, move, keep, use1, split, fsplit, flt_l, check, done}
use denote.Memory.{hidden_shr}
use denote.Opens.{unhide, hide}
use denote.RawPtr.{RawPtr, block_ptr, null_ptr}
use denote.Struct.Lending.{lent_out}
use Rattle.std.specs.contracts.marker.PhantomData as marker
use Rattle.std.proofs.mem.Param.{El, R, el_x}
use Rattle.std.proofs.alloc.Calls.{Al}
use Rattle.heap_block.specs.Places.{block_lends}
use Rattle.heap_block.specs.contracts.block.Block as C
use Rattle.heap_block.proofs.Memory.{sz, slot_seen, P, Br, Words}

module _ (E : El) (Z : Al) {M : Type 1} {𝓤 : Ura M} (𝓛 : Logic 𝓤) (κ : Lft) (d : (Br E Z).Denot) (b o : ℕ) where
  pub shown : ent 𝓤 (sem 𝓛 (hidden_shr (Br E Z) κ d b o)) (sep 𝓤 (sem 𝓛 (hidden_shr RawPtr κ d.start b (o + 0))) (sem 𝓛 (block_lends (R E) d.start d.room d.slots κ)))
  shown = qed 𝓛 (‵ (hidden_shr (Br E Z) κ d b o) ∷ []) ∵
      use1 𝓛 (‵ (hidden_shr (Words E Z) κ (d.start, (tt, tt)) b o) ⊛ ‵ (fhide (C.the_lent (R E) (P E Z) Z.g d d.start κ)))
      (lent_out 𝓛 (C.struct (R E) (P E Z) Z.g) (C.the_codes (el_x E) Z.row.Denot (R E).coded (P E Z).coded (marker.the_row (P E Z)).coded) (C.the_heap (R E) (P E Z) Z.g) (C.the_lent (R E) (P E Z) Z.g) κ d b o) $ split ! $
      unhide ! $ fsplit ! $ fsplit ! $ keep ! (3 ∷ 0 ∷ []) $ unhide ! $ move ! (1 ∷ 0 ∷ []) $ hide ! $ done !

module _ (E : El) {M : Type 1} {𝓤 : Ura M} (𝓛 : Logic 𝓤) (κ : Lft) where
  pub none_at_null : (n : ℕ) (xs : List (el_x E)) → 0 < n → ent 𝓤 (sem 𝓛 (block_lends (R E) null_ptr n xs κ)) (never 𝓤)
  none_at_null zero xs pos = absurd (not-suc-le-zero pos)
  none_at_null (suc n) xs pos = id⊢ 𝓤 (never 𝓤)

  pub slot_lent : (b o n : ℕ) (xs : List (el_x E)) (i : ℕ) (d : el_x E) → i < n → i < length xs
      → ent 𝓤 (sem 𝓛 (block_lends (R E) (block_ptr b o) n xs κ)) (guard 𝓤 (n * sz E < 2 ^ 63) (sem 𝓛 (hidden_shr (R E) κ (get_or xs i d) b (i * sz E + o))))
  slot_lent b o zero xs i d lt le = absurd (not-suc-le-zero lt)
  slot_lent b o (suc n) xs i d lt le = qed 𝓛 (‵ (block_lends (R E) (block_ptr b o) (suc n) xs κ) ∷ []) ∵ fsplit ! $ flt_l ! (λ fit.
      use1 𝓛 (‵ (hidden_shr (R E) κ (get_or xs i d) b (i * sz E + o))) (slot_seen E 𝓛 b κ (suc n) xs i d o lt le) $ check ! fit $ done !)

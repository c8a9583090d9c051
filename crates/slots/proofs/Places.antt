-- One slot written: how the list, its length and its count change.
use Rattle.std.proofs.Common.{◌≡◌, ℕ, zero, suc, ◌+◌, ◌-◌, ◌<◌, ◌≤◌, max, true, [], ◌∷◌, ◌++◌, length, set, replicate, Some, refl, arith}
use Rattle.std.proofs.lemmas.List.{length-replicate}
use Rattle.std.proofs.lemmas.Option.{gets, slice_get_past, slice_get_within}
use Rattle.std.specs.List.{slice_get}
use Rattle.kinds.specs.Places.{slot_at, slot_put}
use Rattle.stack.specs.Slots.{pushed_to}
use Rattle.kinds.specs.declared.slot.DirectSlot.{DirectSlot}
use Rattle.kinds.specs.declared.slot.DirectSlot.TheVariants.{Free}
use Rattle.history.specs.Slots.{Slots, or_free, at, count, is_held, place, write}
use Rattle.slots.specs.Records.{taken, filled}

pub count_le : {G V : Type 0} (s : Slots G V) → count s ≤ length s
count_le [] = omega arith
count_le (x ∷ s) = grind (arith, count_le s)

module _ {G V : Type 0} where
  pushed_nil : (i : ℕ) (x : DirectSlot G V) → replicate i Free ++ x ∷ [] ≡ place i x []
  pushed_nil zero x = refl
  pushed_nil (suc i) x = grind (arith, pushed_nil i x)

  pushed_filled : (s : Slots G V) (i : ℕ) (x : DirectSlot G V) → length s ≤ i → filled s i ++ x ∷ [] ≡ place i x s
  pushed_filled [] i x h = let q : i - 0 ≡ i = omega arith in rw q (pushed_nil i x)
  pushed_filled (y ∷ s) zero x h = absurd (omega arith)
  pushed_filled (y ∷ s) (suc i) x h = grind (arith, pushed_filled s i x)

  length_filled : (s : Slots G V) (i : ℕ) → length s ≤ i → length (filled s i) ≡ i
  length_filled [] i h = let q : i - 0 ≡ i = omega arith in rw q (length-replicate i Free)
  length_filled (y ∷ s) zero h = absurd (omega arith)
  length_filled (y ∷ s) (suc i) h = grind (arith, length_filled s i)

  set_place : (s : Slots G V) (i : ℕ) (x : DirectSlot G V) → i < length s → set s i x ≡ place i x s
  set_place [] i x h = absurd (omega arith)
  set_place (y ∷ s) zero x h = refl
  set_place (y ∷ s) (suc i) x h = grind (arith, set_place s i x)

  -- what was there goes, and x comes
  count_place : (s : Slots G V) (i : ℕ) (x : DirectSlot G V) → count (place i x s) + taken (or_free (slice_get s i)) ≡ count s + taken x
  count_place [] zero x = grind arith
  count_place [] (suc i) x = count_place [] i x
  count_place (y ∷ s) zero x = grind arith
  count_place (y ∷ s) (suc i) x = grind (arith, count_place s i x)

  length_place : (s : Slots G V) (i : ℕ) (x : DirectSlot G V) → length (place i x s) ≡ max (suc i) (length s)
  length_place [] zero x = refl
  length_place [] (suc i) x = omega (arith, length_place [] i x)
  length_place (y ∷ s) zero x = omega arith
  length_place (y ∷ s) (suc i) x = omega (arith, length_place s i x)

  -- a slot that holds a record, written as a stack does it
  pub write_held : (s : Slots G V) (n : ℕ) (x : DirectSlot G V) → is_held (at n s) ≡ true → (slot_put s n x ≡ write n x s) × (count (write n x s) + 1 ≡ count s + taken x) × (length (write n x s) ≡ length s)
  write_held s zero x h = cc
  write_held s (suc i) x h = grind (arith, gets, set_place s i x, count_place s i x, length_place s i x)

  -- a slot that is there and free
  pub write_free : (s : Slots G V) (n : ℕ) (x : DirectSlot G V) → slot_at s n ≡ Some Free → (slot_put s n x ≡ write n x s) × (count (write n x s) ≡ count s + taken x) × (length (write n x s) ≡ max n (length s))
  write_free s zero x h = cc
  write_free s (suc i) x h = grind (arith, slice_get_within s i Free, set_place s i x, count_place s i x, length_place s i x)

  -- a slot behind those that are there, and behind as many free ones as it needs
  pub write_behind : (s : Slots G V) (n room : ℕ) (x : DirectSlot G V) → length s + 1 ≤ n → n ≤ room → (pushed_to room (filled s (n - 1)) x ≡ write n x s) × (count (write n x s) ≡ count s + taken x) × (length (write n x s) ≡ max n (length s))
  write_behind s zero room x l h = absurd (omega arith)
  write_behind s (suc i) room x l h = grind (arith, slice_get_past s i, length_filled s i, pushed_filled s i x, count_place s i x, length_place s i x)

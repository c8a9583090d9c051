-- Free slots popped from the end, one by one.
use Rattle.std.proofs.Common.{◌≡◌, ℕ, zero, suc, ◌+◌, ◌≤◌, true, false, [], ◌∷◌, length, sym, refl, ap, ◌∙◌, arith}
use Rattle.kinds.specs.declared.slot.DirectSlot.{DirectSlot}
use Rattle.stack.specs.Slots.{popped_from}
use Rattle.history.specs.Slots.{Slots, count, pop_free, trimmed}
use Rattle.slots.specs.Records.{ends_free}

module _ {G V : Type 0} where
  ends_tail : (x y : DirectSlot G V) (s : Slots G V) → (ends_free (x ∷ y ∷ s) ≡ ends_free (y ∷ s)) × (popped_from (x ∷ y ∷ s) ≡ x ∷ popped_from (y ∷ s))
  ends_tail x y s = grind arith

  pub pop_one : (s : Slots G V) → ends_free s ≡ true → (popped_from s ≡ pop_free s) × (length (pop_free s) + 1 ≡ length s) × (count (pop_free s) ≡ count s)
  pop_one [] h = cc
  pop_one (x ∷ []) h = grind arith
  pop_one (x ∷ y ∷ s) h = let e = ends_tail x y s in let o = pop_one (y ∷ s) (sym e.0 ∙ h) in grind arith

  pop_none : (s : Slots G V) → ends_free s ≡ false → pop_free s ≡ s
  pop_none [] h = refl
  pop_none (x ∷ []) h = grind arith
  pop_none (x ∷ y ∷ s) h = ap (λ t. x ∷ t) (pop_none (y ∷ s) (sym (ends_tail x y s).0 ∙ h))

  pub trimmed_next : (k : ℕ) (s : Slots G V) → trimmed (k + 1) s ≡ pop_free (trimmed k s)
  trimmed_next zero s = refl
  trimmed_next (suc k) s = grind (arith, trimmed_next k (pop_free s))

  trimmed_none : (k : ℕ) (s : Slots G V) → ends_free s ≡ false → trimmed k s ≡ s
  trimmed_none zero s h = refl
  trimmed_none (suc k) s h = grind (arith, pop_none s h, trimmed_none k s h)

  pub trimmed_stays : (k n : ℕ) (s : Slots G V) → ends_free (trimmed k s) ≡ false → k ≤ n → trimmed n s ≡ trimmed k s
  trimmed_stays zero n s h l = trimmed_none n s h
  trimmed_stays (suc k) zero s h l = absurd (omega arith)
  trimmed_stays (suc k) (suc n) s h l = trimmed_stays k n (pop_free s) h (omega arith)

-- The first and the last of the records that a search looks for, from what each slot is.
use Rattle.std.proofs.Common.{◌≡◌, ℕ, zero, suc, ◌+◌, ◌-◌, ◌<◌, ◌≤◌, Bool, true, not, eqb, nat_le, filter, [], ◌∷◌, List, length, is_some, Some, None, Option, MatchOption, refl, arith}
use Rattle.std.proofs.lemmas.Option.{slice_get_past}
use Rattle.std.specs.List.{slice_get}
use Rattle.std.specs.Option.{IfSome}
use Rattle.kinds.specs.declared.slot.DirectSlot.TheVariants.{Free, Allocated}
use Rattle.history.specs.Slots.{Slots, Held, or_free, at, count, held}
use Rattle.slots.specs.Records.{record_in, named, first_of, last_of, first_from, last_to}
use Rattle.slots.specs.Found.{held_in, Within}
use Rattle.slots.specs.declared.find.Found.{Found}

module _ {G V : Type 0} where
  -- the record of place i, whose slot is m
  abbrev nth : Slots G V → ℕ → ℕ → Option (Held G V)
  nth s i m = record_in m (or_free (slice_get s i))

  last_cons : (a h : Held G V) (hs : List (Held G V)) → Some h ≡ last_of hs → Some h ≡ last_of (a ∷ hs)
  last_cons a h [] e = cc
  last_cons a h (b ∷ hs) e = e

  module _ (wanted : ℕ → Bool) where
    abbrev chosen : ℕ → Slots G V → List (Held G V)
    chosen k s = filter (λ h. wanted h.slot) (held k s)

    none_chosen : (k : ℕ) (s : Slots G V) → ((i m : ℕ) → m ≡ k + i → i < length s → wanted m ≡ true → None ≡ nth s i m) → chosen k s ≡ []
    none_chosen k [] free = refl
    none_chosen k (Free ∷ s) free = none_chosen (suc k) s (λ i m e l w. free (suc i) m (omega arith) (omega arith) w)
    none_chosen k (Allocated g v ∷ s) free = grind (arith, free 0 k, none_chosen (suc k) s (λ i m e l w. free (suc i) m (omega arith) (omega arith) w))

    first_chosen : (k : ℕ) (s : Slots G V) (n p : ℕ) (h : Held G V) → p ≡ k + n → wanted p ≡ true → Some h ≡ nth s n p → ((i m : ℕ) → m ≡ k + i → i < length s → i < n → wanted m ≡ true → None ≡ nth s i m) → Some h ≡ first_of (chosen k s)
    first_chosen k [] n p h q y e free = cc
    first_chosen k (x ∷ s) zero p h q y e free = grind arith
    first_chosen k (Free ∷ s) (suc n) p h q y e free = first_chosen (suc k) s n p h (omega arith) y e (λ i m r l b w. free (suc i) m (omega arith) (omega arith) (omega arith) w)
    first_chosen k (Allocated g v ∷ s) (suc n) p h q y e free = grind (arith, free 0 k, first_chosen (suc k) s n p h (omega arith) y e (λ i m r l b w. free (suc i) m (omega arith) (omega arith) (omega arith) w))

    last_chosen : (k : ℕ) (s : Slots G V) (n p : ℕ) (h : Held G V) → p ≡ k + n → wanted p ≡ true → Some h ≡ nth s n p → ((i m : ℕ) → m ≡ k + i → i < length s → n < i → wanted m ≡ true → None ≡ nth s i m) → Some h ≡ last_of (chosen k s)
    last_chosen k [] n p h q y e free = cc
    last_chosen k (x ∷ s) zero p h q y e free = grind (arith, none_chosen (suc k) s (λ i m r l w. free (suc i) m (omega arith) (omega arith) (omega arith) w))
    last_chosen k (Free ∷ s) (suc n) p h q y e free = last_chosen (suc k) s n p h (omega arith) y e (λ i m r l b w. free (suc i) m (omega arith) (omega arith) (omega arith) w)
    last_chosen k (Allocated g v ∷ s) (suc n) p h q y e free = grind (arith, last_cons, last_chosen (suc k) s n p h (omega arith) y e (λ i m r l b w. free (suc i) m (omega arith) (omega arith) (omega arith) w))

    -- what a search answered: a record that stands in its slot and is wanted, and no wanted one in the slots that it
    -- passed before
    pub record Search (s : Slots G V) (Passed : ℕ → ℕ → Type 0) (r : Option (Found G V)) : Type 0 where
      pub own : IfSome r (λ f. held_in (Some f) ≡ named f.slot s)
      pub meant : IfSome r (λ f. wanted f.slot ≡ true)
      pub free : (k : ℕ) → 1 ≤ k → k ≤ length s → wanted k ≡ true → MatchOption r (None ≡ named k s) (λ f. Passed k f.slot → None ≡ named k s)

    first_named : (s : Slots G V) (n : ℕ) (h : Held G V) → Some h ≡ named n s → wanted n ≡ true → ((k : ℕ) → 1 ≤ k → k ≤ length s → wanted k ≡ true → k < n → None ≡ named k s) → Some h ≡ first_of (chosen 1 s)
    first_named s zero h e y free = cc
    first_named s (suc n) h e y free = first_chosen 1 s n (suc n) h (omega arith) y (grind arith) (λ i m q l b w. grind (arith, free m))

    last_named : (s : Slots G V) (n : ℕ) (h : Held G V) → Some h ≡ named n s → wanted n ≡ true → ((k : ℕ) → 1 ≤ k → k ≤ length s → wanted k ≡ true → n < k → None ≡ named k s) → Some h ≡ last_of (chosen 1 s)
    last_named s zero h e y free = cc
    last_named s (suc n) h e y free = last_chosen 1 s n (suc n) h (omega arith) y (grind arith) (λ i m q l b w. grind (arith, free m))

    none_found : (s : Slots G V) (Passed : ℕ → ℕ → Type 0) → Search s Passed None → chosen 1 s ≡ []
    none_found s Passed x = none_chosen 1 s (λ i m q l w. grind (arith, x.free m))

    pub first_found : (s : Slots G V) (r : Option (Found G V)) → Search s (λ k n. k < n) r → held_in r ≡ first_of (chosen 1 s)
    first_found s None x = grind (arith, none_found s _ x)
    first_found s (Some f) x = first_named s f.slot _ x.own x.meant x.free

    pub last_found : (s : Slots G V) (r : Option (Found G V)) → Search s (λ k n. n < k) r → held_in r ≡ last_of (chosen 1 s)
    last_found s None x = grind (arith, none_found s _ x)
    last_found s (Some f) x = last_named s f.slot _ x.own x.meant x.free

  -- every record is in a slot from 1 up to the last
  pub all_from : (n k : ℕ) (s : Slots G V) → n ≤ k → filter (λ h. nat_le n h.slot) (held k s) ≡ held k s
  all_from n k [] l = refl
  all_from n k (Free ∷ s) l = all_from n (suc k) s (omega arith)
  all_from n k (Allocated g v ∷ s) l = grind (arith, all_from n (suc k) s)

  pub all_to : (n k : ℕ) (s : Slots G V) → k + length s ≤ n + 1 → filter (λ h. nat_le h.slot n) (held k s) ≡ held k s
  all_to n k [] l = refl
  all_to n k (Free ∷ s) l = all_to n (suc k) s (omega arith)
  all_to n k (Allocated g v ∷ s) l = grind (arith, all_to n (suc k) s)

  -- a record in slot n is the first from n on, and where there is none, the first behind n is
  pub here_first : (s : Slots G V) (n : ℕ) (h : Held G V) → Some h ≡ named n s → Some h ≡ first_from n (held 1 s)
  here_first s n h e = first_named (nat_le n) s n h e (grind arith) (λ k l b w c. absurd (grind arith))

  passed : (d k n : ℕ) (s : Slots G V) → None ≡ nth s d n → n ≡ k + d → filter (λ h. nat_le (suc n) h.slot) (held k s) ≡ filter (λ h. nat_le n h.slot) (held k s)
  passed d k n [] e q = refl
  passed zero k n (Free ∷ s) e q = grind (arith, all_from (suc n) (suc k) s, all_from n (suc k) s)
  passed zero k n (Allocated g v ∷ s) e q = cc
  passed (suc d) k n (Free ∷ s) e q = passed d (suc k) n s e (omega arith)
  passed (suc d) k n (Allocated g v ∷ s) e q = grind (arith, passed d (suc k) n s e (omega arith))

  pub past_first : (s : Slots G V) (n : ℕ) → None ≡ named n s → first_from (n + 1) (held 1 s) ≡ first_from n (held 1 s)
  past_first s zero e = grind (arith, all_from 1 1 s, all_from 0 1 s)
  past_first s (suc i) e = grind (arith, passed i 1 (suc i) s (grind arith) (omega arith))

  -- the same up to n
  pub here_last : (s : Slots G V) (n : ℕ) (h : Held G V) → Some h ≡ named n s → Some h ≡ last_to n (held 1 s)
  here_last s n h e = last_named (λ k. nat_le k n) s n h e (grind arith) (λ k l b w c. absurd (grind arith))

  none_to : (n k : ℕ) (s : Slots G V) → n < k → filter (λ h. nat_le h.slot n) (held k s) ≡ []
  none_to n k [] l = refl
  none_to n k (Free ∷ s) l = none_to n (suc k) s (omega arith)
  none_to n k (Allocated g v ∷ s) l = grind (arith, none_to n (suc k) s)

  before : (d k i : ℕ) (s : Slots G V) → None ≡ nth s d (suc i) → suc i ≡ k + d → filter (λ h. nat_le h.slot i) (held k s) ≡ filter (λ h. nat_le h.slot (suc i)) (held k s)
  before d k i [] e q = refl
  before zero k i (Free ∷ s) e q = grind (arith, none_to i (suc k) s, none_to (suc i) (suc k) s)
  before zero k i (Allocated g v ∷ s) e q = cc
  before (suc d) k i (Free ∷ s) e q = before d (suc k) i s e (omega arith)
  before (suc d) k i (Allocated g v ∷ s) e q = grind (arith, before d (suc k) i s e (omega arith))

  pub past_last : (s : Slots G V) (n : ℕ) → None ≡ named n s → last_to (n - 1) (held 1 s) ≡ last_to n (held 1 s)
  past_last s zero e = refl
  past_last s (suc i) e = grind (arith, before i 1 i s (grind arith) (omega arith))

  any_held : (k : ℕ) (s : Slots G V) → is_some (first_of (held k s)) ≡ not (eqb (count s) 0)
  any_held k [] = refl
  any_held k (Free ∷ s) = any_held (suc k) s
  any_held k (Allocated g v ∷ s) = grind arith

  last_is : (hs : List (Held G V)) → is_some (last_of hs) ≡ is_some (first_of hs)
  last_is [] = refl
  last_is (h ∷ []) = refl
  last_is (h ∷ i ∷ hs) = last_is (i ∷ hs)

  -- there is one exactly if the count is not 0
  pub first_counted : (s : Slots G V) (r : Option (Found G V)) → held_in r ≡ first_of (held 1 s) → is_some r ≡ not (eqb (count s) 0)
  first_counted s None e = grind (arith, any_held 1 s)
  first_counted s (Some f) e = grind (arith, any_held 1 s)

  pub last_counted : (s : Slots G V) (r : Option (Found G V)) → held_in r ≡ last_of (held 1 s) → is_some r ≡ not (eqb (count s) 0)
  last_counted s None e = grind (arith, any_held 1 s, last_is (held 1 s))
  last_counted s (Some f) e = grind (arith, any_held 1 s, last_is (held 1 s))

  inside : (s : Slots G V) (n : ℕ) (h : Held G V) → Some h ≡ named n s → (1 ≤ n) × (n ≤ length s)
  inside s zero h e = cc
  inside s (suc i) h e = grind (arith, slice_get_past s i)

  -- a record that stands in its slot stands in one of the slots
  pub stands_within : (s : Slots G V) (r : Option (Found G V)) → IfSome r (λ f. held_in (Some f) ≡ named f.slot s) → Within r (length s)
  stands_within s None e = tt
  stands_within s (Some f) e = inside s f.slot _ e

  first_in : (n k : ℕ) (s : Slots G V) (h : Held G V) → Some h ≡ first_from n (held k s) → (k ≤ h.slot) × (or_free (slice_get s (h.slot - k)) ≡ Allocated h.gen h.value)
  first_in n k [] h e = cc
  first_in n k (Free ∷ s) h e = grind (arith, first_in n (suc k) s h e)
  first_in n k (Allocated g v ∷ s) h e = grind (arith, first_in n (suc k) s h)

  -- a record that is found stands in its slot
  pub first_stands : (n : ℕ) (s : Slots G V) (h : Held G V) → Some h ≡ first_from n (held 1 s) → at h.slot s ≡ Allocated h.gen h.value
  first_stands n s h e = grind (arith, first_in n 1 s h e)

-- The slots of an arena, and what can be done to them.
use Rattle.std.specs.Prelude.{ℕ, zero, suc, Bool, true, false, List, [], ◌∷◌, Some, None, Option}
use Rattle.kinds.specs.Places.{slot_at}
use Rattle.kinds.specs.declared.slot.DirectSlot.{DirectSlot}
use Rattle.kinds.specs.declared.slot.DirectSlot.TheVariants.{Free, Allocated}

-- slot 1 first
abbrev pub Slots : Type 0 → Type 0 → Type 0
Slots G V = List (DirectSlot G V)

-- A pointer, whatever its kind: the number of its index, or 0 where that does not convert, and a generation.
pub record Ptr (G : Type 0) : Type 0 where
  pub slot : ℕ
  pub gen : G

-- A record where it stands.
pub record Held (G V : Type 0) : Type 0 where
  pub slot : ℕ
  pub gen : G
  pub value : V

abbrev pub to : {G : Type 0} → ℕ → G → Ptr G
to n g = record { slot = n; gen = g }

abbrev pub ptr : {G V : Type 0} → Held G V → Ptr G
ptr h = to h.slot h.gen

-- with another value
abbrev pub revalued : {G V : Type 0} → V → Held G V → Held G V
revalued v h = record { slot = h.slot; gen = h.gen; value = v }

abbrev pub or_free : {G V : Type 0} → Option (DirectSlot G V) → DirectSlot G V
or_free None = Free
or_free (Some x) = x

-- slot n: free beyond the slots, and at 0, which no index has
abbrev pub at : {G V : Type 0} → ℕ → Slots G V → DirectSlot G V
at n s = or_free (slot_at s n)

-- how many slots are allocated
abbrev pub count : {G V : Type 0} → Slots G V → ℕ
count [] = 0
count (Free ∷ s) = count s
count (Allocated g v ∷ s) = suc (count s)

-- the records by rising slot; the first of the list is slot k
abbrev pub held : {G V : Type 0} → ℕ → Slots G V → List (Held G V)
held k [] = []
held k (Free ∷ s) = held (suc k) s
held k (Allocated g v ∷ s) = record { slot = k; gen = g; value = v } ∷ held (suc k) s

abbrev pub is_free : {G V : Type 0} → DirectSlot G V → Bool
is_free Free = true
is_free (Allocated g v) = false

abbrev pub is_held : {G V : Type 0} → DirectSlot G V → Bool
is_held Free = false
is_held (Allocated g v) = true

-- allocated with this generation
abbrev pub has_gen : {G V : Type 0} → (G → G → Bool) → DirectSlot G V → G → Bool
has_gen alike Free g = false
has_gen alike (Allocated h v) g = alike h g

-- the generation stays, the value is new
abbrev pub with_value : {G V : Type 0} → V → DirectSlot G V → DirectSlot G V
with_value v Free = Free
with_value v (Allocated g u) = Allocated g v

-- place i, counted from 0, takes x, behind as many free slots as it needs
abbrev pub place : {G V : Type 0} → ℕ → DirectSlot G V → Slots G V → Slots G V
place zero x [] = x ∷ []
place zero x (y ∷ s) = x ∷ s
place (suc i) x [] = Free ∷ place i x []
place (suc i) x (y ∷ s) = y ∷ place i x s

-- slot n takes x
abbrev pub write : {G V : Type 0} → ℕ → DirectSlot G V → Slots G V → Slots G V
write zero x s = s
write (suc i) x s = place i x s

-- the last slot goes if it is free
abbrev pub pop_free : {G V : Type 0} → Slots G V → Slots G V
pop_free [] = []
pop_free (Free ∷ []) = []
pop_free (Allocated g v ∷ []) = Allocated g v ∷ []
pop_free (x ∷ y ∷ s) = x ∷ pop_free (y ∷ s)

-- free slots go from the end, at most k of them
abbrev pub trimmed : {G V : Type 0} → ℕ → Slots G V → Slots G V
trimmed zero s = s
trimmed (suc k) s = trimmed k (pop_free s)

-- The calls that may alter an arena, and what each does to its slots.
use Rattle.std.specs.Prelude.{◌≡◌, ℕ, ◌-◌, Bool, true, false, cond, not, ◌&&◌, List, [], ◌∷◌, map, length, Some, None, Option, ◌==◌, nat_le}
use Rattle.outcome.specs.Outcome.{Outcome, done, overflowed, refused}
use Rattle.kinds.specs.declared.slot.DirectSlot.TheVariants.{Free, Allocated}
use Rattle.history.specs.Slots.{Slots, Ptr, Held, at, is_free, is_held, has_gen, with_value, write, trimmed}
use Rattle.history.specs.Mapped.{Mapping, records, in_place, moving, packed, those_named, put_all, settle, rising, freed}
use Rattle.history.specs.Recasts.{Recasting, all_recast, recast_each, recast_until, join_each}

-- How a call names a record: by an index, or by a pointer, whose generation is then asked for.
pub data Name (G : Type 0) : Type 0 where
  index : ℕ → Name G
  pointer : Ptr G → Name G

abbrev pub slot_of : {G : Type 0} → Name G → ℕ
slot_of (index n) = n
slot_of (pointer p) = p.slot

abbrev pub slots_of : {G : Type 0} → List (Name G) → List ℕ
slots_of names = map slot_of names

-- A call with its arguments. A drain comes with the pointer that it gave by its rule, and `bring`, which is a clone or a
-- transfer in, with the records that the other arena then shows, as the mapper leaves them; `hand_over` is a transfer
-- out.
pub data Call (G V : Type 0) : Type 0 where
  insert : Ptr G → V → Call G V
  edit : Name G → V → Call G V
  edit_all : List (Name G) → Mapping G V → Call G V
  remove : Name G → Call G V
  drain : Option (Ptr G) → Call G V
  clear : Call G V
  bring : List (Held G V) → Call G V
  hand_over : Call G V
  compress : Mapping G V → Call G V
  recast : Recasting V → Call G V
  join : Recasting V → Call G V
  trim : ℕ → Call G V
  reallocate : ℕ → Call G V
  limit : ℕ → Call G V

-- the recast that a call makes, if it is one
abbrev pub recast_of : {G V : Type 0} → Call G V → Option (Recasting V)
recast_of (recast q) = Some q
recast_of c = None

-- A line of a history: a call, and whether it was accepted.
pub record Entry (G V : Type 0) : Type 0 where
  pub call : Call G V
  pub accepted : Bool

abbrev pub went : {X : Type 0} → Outcome X → Bool
went (done x) = true
went (overflowed x) = true
went (refused n) = false

-- the entry of a call with the answer that it gave
abbrev pub entry : {G V X : Type 0} → Call G V → Outcome X → Entry G V
entry c o = record { call = c; accepted = went o }

-- what an accepted call does
abbrev pub effect : {G V : Type 0} → Call G V → Slots G V → Slots G V
effect (insert p v) s = write p.slot (Allocated p.gen v) s
effect (edit name v) s = write (slot_of name) (with_value v (at (slot_of name) s)) s
effect (edit_all names f) s = put_all (slots_of names) (f (in_place (those_named (slots_of names) (records s)))) s
effect (remove name) s = write (slot_of name) Free s
effect (drain None) s = s
effect (drain (Some p)) s = write p.slot Free s
effect clear s = []
effect (bring hs) s = settle [] hs
effect hand_over s = freed s
effect (compress f) s = packed (f (moving 1 (records s))) (records s)
effect (recast q) s = recast_each q s
effect (join q) s = join_each q s
effect (trim k) s = trimmed k s
effect (reallocate r) s = trimmed (length s - r) s
effect (limit l) s = trimmed (length s - l) s

-- what a refused call leaves: the trim before a capacity request stands, and so does what a recast did before the first
-- value that is not held
abbrev pub leaves : {G V : Type 0} → Call G V → Slots G V → Slots G V
leaves (insert p v) s = s
leaves (edit name v) s = s
leaves (edit_all names f) s = s
leaves (remove name) s = s
leaves (drain p) s = s
leaves clear s = s
leaves (bring hs) s = s
leaves hand_over s = s
leaves (compress f) s = s
leaves (recast q) s = recast_until q s
leaves (join q) s = s
leaves (trim k) s = s
leaves (reallocate r) s = trimmed (length s - r) s
leaves (limit l) s = trimmed (length s - l) s

abbrev pub after : {G V : Type 0} → Entry G V → Slots G V → Slots G V
after e s = cond e.accepted (effect e.call s) (leaves e.call s)

-- a number that no other of the list is
abbrev pub other_than : ℕ → List ℕ → Bool
other_than n [] = true
other_than n (m ∷ ms) = not (n == m) && other_than n ms

abbrev pub distinct : List ℕ → Bool
distinct [] = true
distinct (n ∷ ns) = other_than n ns && distinct ns

module _ {G V : Type 0} (alike : G → G → Bool) where
  -- the record named is there
  abbrev pub names : Name G → Slots G V → Bool
  names (index n) s = is_held (at n s)
  names (pointer p) s = has_gen alike (at p.slot s) p.gen

  abbrev pub names_all : List (Name G) → Slots G V → Bool
  names_all [] s = true
  names_all (name ∷ rest) s = names name s && names_all rest s

  -- what the slots themselves ask of a call; capacities are the stack's to ask
  abbrev pub asks : Call G V → Slots G V → Bool
  asks (insert p v) s = nat_le 1 p.slot && is_free (at p.slot s)
  asks (edit name v) s = names name s
  asks (edit_all names f) s = names_all names s && distinct (slots_of names)
  asks (remove name) s = names name s
  asks (drain None) s = true
  asks (drain (Some p)) s = names (pointer p) s
  asks clear s = true
  asks (bring hs) s = rising 0 hs
  asks hand_over s = true
  asks (compress f) s = true
  asks (recast q) s = all_recast q (records s)
  asks (join q) s = true
  asks (trim k) s = true
  asks (reallocate r) s = true
  asks (limit l) s = true

  -- One call on an arena: it is accepted only where the slots allow it, and leaves them as it says.
  pub record Step (e : Entry G V) (s t : Slots G V) : Type 0 where
    pub asked : e.accepted ≡ true → asks e.call s ≡ true
    pub slots : t ≡ after e s

  -- Calls, newest first, lead from slots to slots.
  pub data Through (s : Slots G V) : List (Entry G V) → Slots G V → Type 0 where
    still : Through s [] s
    next : {e : Entry G V} {h : List (Entry G V)} {t u : Slots G V} → Through s h t → Step e t u → Through s (e ∷ h) u

  -- A history leads from a new arena to these slots.
  abbrev pub Leads : List (Entry G V) → Slots G V → Type 0
  Leads h s = Through [] h s

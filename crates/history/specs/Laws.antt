-- What holds of an arena after every history that leads to it.
use Rattle.std.specs.Prelude.{◌≡◌, ℕ, ◌+◌, ◌<◌, ◌≤◌, Bool, true, cond, ◌⊎◌, List, [], ◌∷◌, ◌++◌, length, Some, None, Option, ◌==◌}
use Rattle.std.specs.List.{slice_get}
use Rattle.kinds.specs.Places.{slot_at}
use Rattle.kinds.specs.declared.slot.DirectSlot.TheVariants.{Allocated}
use Rattle.history.specs.Slots.{Slots, Ptr, Held, ptr, revalued, at}
use Rattle.history.specs.Mapped.{records, in_place, moving, report, those_named}
use Rattle.history.specs.Recasts.{Recasting, or_kept, recast_or_kept, all_recast}
use Rattle.history.specs.Calls.{Name, index, pointer, slot_of, slots_of, Call, insert, edit, edit_all, remove, drain, clear, bring, hand_over, compress, recast, join, trim, reallocate, limit, Entry, recast_of, Leads}
use Rattle.history.specs.Roll.{Line, standing, roll}

abbrev pub In : {X : Type 0} → X → List X → Type 0
In x [] = ⊥
In x (y ∷ ys) = (x ≡ y) ⊎ In x ys

-- Each standing record is in its slot with its generation and latest value, and in no other; no other slot is
-- occupied; and so many records stand.
pub record Stands {G V : Type 0} (lines : List (Line G V)) (s : Slots G V) (len : ℕ) : Type 0 where
  pub each : (l : Line G V) → In l lines → at l.stand.slot s ≡ Allocated l.stand.gen l.stand.value
  pub only : (n : ℕ) (g : G) (v : V) → at n s ≡ Allocated g v → (l : Line G V) × In l lines × (l.stand ≡ record { slot = n; gen = g; value = v })
  pub apart : (l m : Line G V) → In l lines → In m lines → l.stand.slot ≡ m.stand.slot → l ≡ m
  pub one : (l m : Line G V) → In l lines → In m lines → l.number ≡ m.number → l ≡ m
  pub listed : records s ≡ standing lines
  pub counted : len ≡ length lines

-- What is put at slot n last, of values put at these slots in order; v where nothing is.
abbrev pub latest : {V : Type 0} → ℕ → List ℕ → List V → V → V
latest n [] vs v = v
latest n (m ∷ ms) [] v = v
latest n (m ∷ ms) (u ∷ us) v = latest n ms us (cond (n == m) u v)

-- What a compression makes of a record, of those that stand: its pointers are a pair of the report, its generation
-- stays, and its value is that which the mapper gives in its place.
pub record Moved {G V : Type 0} (given : List V) (all : List (Held G V)) (old new : Held G V) : Type 0 where
  pub reported : In (record { old = ptr old; new = ptr new }) (report all)
  pub gen : new.gen ≡ old.gen
  pub value : new.value ≡ or_kept old.value (slot_at given new.slot)

-- What a refused recast leaves of a record, of those that stand: its value is recast if those of all records in lower
-- slots are held.
pub record Until {G V : Type 0} (q : Recasting V) (all : List (Held G V)) (old new : Held G V) : Type 0 where
  pub lower : List (Held G V)
  pub higher : List (Held G V)
  pub parts : all ≡ lower ++ old ∷ higher
  pub value : new ≡ revalued (cond (all_recast q lower) (recast_or_kept q old.value) old.value) old

-- What a record that stands before an accepted call, and after it, is after it; `all` stand before it. None stands
-- both before and after a call that ends all.
abbrev pub Becomes : {G V : Type 0} → Call G V → List (Held G V) → Held G V → Held G V → Type 0
Becomes (insert p v) all old new = new ≡ old
Becomes (edit name v) all old new = new ≡ cond (old.slot == slot_of name) (revalued v old) old
Becomes (edit_all names f) all old new =
    new ≡ revalued (latest old.slot (slots_of names) (f (in_place (those_named (slots_of names) all))) old.value) old
Becomes (remove name) all old new = new ≡ old
Becomes (drain p) all old new = new ≡ old
Becomes clear all old new = ⊥
Becomes (bring hs) all old new = ⊥
Becomes hand_over all old new = ⊥
Becomes (compress f) all old new = Moved (f (moving 1 all)) all old new
Becomes (recast q) all old new = new ≡ revalued (recast_or_kept q old.value) old
Becomes (join q) all old new = (q old.value ≡ Some new.value) × (new ≡ revalued new.value old)
Becomes (trim k) all old new = new ≡ old
Becomes (reallocate r) all old new = new ≡ old
Becomes (limit l) all old new = new ≡ old

-- what it is after a refused one: the same, but for a recast
abbrev pub Remains : {G V : Type 0} → Option (Recasting V) → List (Held G V) → Held G V → Held G V → Type 0
Remains None all old new = new ≡ old
Remains (Some q) all old new = Until q all old new

abbrev pub Passes : {G V : Type 0} → Entry G V → List (Held G V) → Held G V → Held G V → Type 0
Passes e all old new = cond e.accepted (Becomes e.call all old new) (Remains (recast_of e.call) all old new)

-- what stands after a history
abbrev pub standing_after : {G V : Type 0} → List (Entry G V) → List (Held G V)
standing_after h = standing (roll h).lines

-- A record carried through the calls that came after a history, one after the other: its slot, its generation and its
-- latest value. Before each of the calls it stands.
abbrev pub Carried : {G V : Type 0} → (later h : List (Entry G V)) → Held G V → Held G V → Type 0
Carried [] h old new = new ≡ old
Carried {G} {V} (e ∷ later) h old new =
    (between : Held G V) × Carried later h old between × In between (standing_after (later ++ h)) × Passes e (standing_after (later ++ h)) between new

-- where an accepted call leaves a pointer's record: a compression by its report, any other call in its slot
abbrev pub Sends : {G V : Type 0} → Call G V → List (Held G V) → Ptr G → Ptr G → Type 0
Sends (insert p v) all old new = new ≡ old
Sends (edit name v) all old new = new ≡ old
Sends (edit_all names f) all old new = new ≡ old
Sends (remove name) all old new = new ≡ old
Sends (drain p) all old new = new ≡ old
Sends clear all old new = new ≡ old
Sends (bring hs) all old new = new ≡ old
Sends hand_over all old new = new ≡ old
Sends (compress f) all old new = In (record { old = old; new = new }) (report all)
Sends (recast q) all old new = new ≡ old
Sends (join q) all old new = new ≡ old
Sends (trim k) all old new = new ≡ old
Sends (reallocate r) all old new = new ≡ old
Sends (limit l) all old new = new ≡ old

abbrev pub Follows : {G V : Type 0} → Entry G V → List (Held G V) → Ptr G → Ptr G → Type 0
Follows e all old new = cond e.accepted (Sends e.call all old new) (new ≡ old)

-- A pointer carried through the report of each later compression.
abbrev pub Reported : {G V : Type 0} → (later h : List (Entry G V)) → Ptr G → Ptr G → Type 0
Reported [] h old new = new ≡ old
Reported {G} {V} (e ∷ later) h old new =
    (between : Ptr G) × Reported later h old between × Follows e (standing_after (later ++ h)) between new

-- The k-th record, counted from 0, that an accepted call brings in.
abbrev pub Brings : {G V : Type 0} → Call G V → ℕ → Held G V → Type 0
Brings (insert p v) k first = (k ≡ 0) × (first ≡ record { slot = p.slot; gen = p.gen; value = v })
Brings (edit name v) k first = ⊥
Brings (edit_all names f) k first = ⊥
Brings (remove name) k first = ⊥
Brings (drain p) k first = ⊥
Brings clear k first = ⊥
Brings (bring hs) k first = slice_get hs k ≡ Some first
Brings hand_over k first = ⊥
Brings (compress f) k first = ⊥
Brings (recast q) k first = ⊥
Brings (join q) k first = ⊥
Brings (trim n) k first = ⊥
Brings (reallocate r) k first = ⊥
Brings (limit l) k first = ⊥

-- how many records an accepted call brings in
abbrev pub brought_in : {G V : Type 0} → Call G V → ℕ
brought_in (insert p v) = 1
brought_in (bring hs) = length hs
brought_in c = 0

-- how many a history has brought in
abbrev pub arrivals : {G V : Type 0} → List (Entry G V) → ℕ
arrivals [] = 0
arrivals (e ∷ h) = arrivals h + cond e.accepted (brought_in e.call) 0

-- A standing record was brought in by an accepted insertion, clone or transfer: its number is how many came before it.
-- What was brought in, carried through the calls since, is what stands: in its first slot, carried through the report
-- of each compression since, and under its first generation.
pub record Arrived {G V : Type 0} (h : List (Entry G V)) (l : Line G V) : Type 0 where
  pub first : Held G V
  pub place : ℕ
  pub by : Call G V
  pub before : List (Entry G V)
  pub since : List (Entry G V)
  pub whole : h ≡ since ++ (record { call = by; accepted = true } ∷ before)
  pub brought : Brings by place first
  pub number : l.number ≡ arrivals before + place
  pub carried : Carried since (record { call = by; accepted = true } ∷ before) first l.stand
  pub reported : Reported since (record { call = by; accepted = true } ∷ before) (ptr first) (ptr l.stand)
  pub gen : l.stand.gen ≡ first.gen

-- Of a record that stood earlier and stands now: what stood then, carried through the calls since, is what stands now,
-- in the slot where the reports since lead, and under the same generation.
pub record Keeps {G V : Type 0} (later h : List (Entry G V)) (l m : Line G V) : Type 0 where
  pub carried : Carried later h l.stand m.stand
  pub reported : Reported later h (ptr l.stand) (ptr m.stand)
  pub gen : m.stand.gen ≡ l.stand.gen

abbrev pub Carries : {G V : Type 0} → (later h : List (Entry G V)) → Type 0
Carries {G} {V} later h = (l m : Line G V) → In l (roll h).lines → In m (roll (later ++ h)).lines → l.number ≡ m.number → Keeps later h l m

-- Any two records keep the order of slots of every earlier moment at which both stood.
abbrev pub Ordered : {G V : Type 0} → (later h : List (Entry G V)) → Type 0
Ordered {G} {V} later h = (l l' m m' : Line G V) → In l (roll h).lines → In l' (roll h).lines → In m (roll (later ++ h)).lines → In m' (roll (later ++ h)).lines →
    l.number ≡ m.number → l'.number ≡ m'.number → l.stand.slot < l'.stand.slot → m.stand.slot < m'.stand.slot

-- A record is carried to one record at most, and a pointer to one pointer.
pub record Once {G V : Type 0} (later h : List (Entry G V)) : Type 0 where
  pub record_of : (old a b : Held G V) → Carried later h old a → Carried later h old b → a ≡ b
  pub pointer_of : (old a b : Ptr G) → Reported later h old a → Reported later h old b → a ≡ b

-- no number is here twice
abbrev pub Different : List ℕ → Type 0
Different [] = Unit {0}
Different (n ∷ ns) = (In n ns → ⊥) × Different ns

module _ {G V : Type 0} (alike : G → G → Bool) where
  -- the record named is one of these: by a pointer, under its generation
  abbrev pub Named : Name G → List (Line G V) → Type 0
  Named (index n) lines = (l : Line G V) × In l lines × (l.stand.slot ≡ n)
  Named (pointer p) lines = (l : Line G V) × In l lines × (l.stand.slot ≡ p.slot) × (alike l.stand.gen p.gen ≡ true)

  abbrev pub AllNamed : List (Name G) → List (Line G V) → Type 0
  AllNamed [] lines = Unit {0}
  AllNamed (name ∷ names) lines = Named name lines × AllNamed names lines

  -- What stood when a call was accepted: an insertion found no record in its slot, and a call that names records found
  -- them; a list edit found each once, and a recast held all values.
  abbrev pub Allowed : Call G V → List (Line G V) → Type 0
  Allowed (insert p v) lines = (1 ≤ p.slot) × ((l : Line G V) → In l lines → l.stand.slot ≡ p.slot → ⊥)
  Allowed (edit name v) lines = Named name lines
  Allowed (edit_all names f) lines = AllNamed names lines × Different (slots_of names)
  Allowed (remove name) lines = Named name lines
  Allowed (drain (Some p)) lines = Named (pointer p) lines
  Allowed (recast q) lines = (l : Line G V) → In l lines → (v : V) × (q l.stand.value ≡ Some v)
  Allowed c lines = Unit {0}

-- The whole promise, of slots and a count: whichever history led to them.
pub record Lawful {G V : Type 0} (alike : G → G → Bool) (s : Slots G V) (len : ℕ) : Type 0 where
  pub stands : (h : List (Entry G V)) → Leads alike h s → Stands (roll h).lines s len
  pub arrived : (h : List (Entry G V)) → Leads alike h s → (l : Line G V) → In l (roll h).lines → Arrived h l
  pub kept : (later h : List (Entry G V)) → Leads alike (later ++ h) s → Carries later h
  pub once : (later h : List (Entry G V)) → Leads alike (later ++ h) s → Once later h
  pub ordered : (later h : List (Entry G V)) → Leads alike (later ++ h) s → Ordered later h
  pub allowed : (later h : List (Entry G V)) (c : Call G V) → Leads alike (later ++ (record { call = c; accepted = true } ∷ h)) s → Allowed alike c (roll h).lines

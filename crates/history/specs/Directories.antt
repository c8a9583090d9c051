-- Directories: arenas of pointers that hold the reports of compressions. A pointer is seen as its index's number and its
-- generation (`view`); `point` makes the pointer of such a pair.
use Rattle.std.specs.Prelude.{◌≡◌, Bool, true, false, List, [], ◌∷◌, ◌++◌, map, Some, None, Option}
use Rattle.history.specs.Slots.{Slots, Ptr, Held, ptr}
use Rattle.history.specs.Records.{found}
use Rattle.history.specs.Mapped.{Pair, records, settle}
use Rattle.history.specs.Recasts.{join_each}
use Rattle.history.specs.Calls.{insert, clear, Entry, Through}

-- the slots of a directory
abbrev pub Directory : Type 0 → Type 0 → Type 0
Directory G P = Slots G P

abbrev pub value_of : {G V : Type 0} → Option (Held G V) → Option V
value_of None = None
value_of (Some h) = Some h.value

module _ {G P : Type 0} (view : P → Ptr G) where
  -- the old pointer and the new one of each of its records
  abbrev pub pairs_in : Directory G P → List (Pair G G)
  pairs_in d = map (λ h. record { old = ptr h; new = view h.value }) (records d)

  -- at each old pointer of a report the new one, and nothing else
  abbrev pub Holds : Directory G P → List (Pair G G) → Type 0
  Holds d ps = pairs_in d ≡ ps

module _ {G P : Type 0} (alike : G → G → Bool) (view : P → Ptr G) where
  -- the recast of a pointer: what the directory holds at it
  abbrev pub recast_by : Directory G P → P → Option P
  recast_by d p = value_of (found alike (view p) d)

  -- a directory joined with the next one
  abbrev pub joined_with : Directory G P → Directory G P → Directory G P
  joined_with d e = join_each (recast_by e) d

-- A way to bracket the joins of directories.
pub data Brackets (G P : Type 0) : Type 0 where
  one : Directory G P → Brackets G P
  both : Brackets G P → Brackets G P → Brackets G P

-- the directories in their order
abbrev pub bracketed : {G P : Type 0} → Brackets G P → List (Directory G P)
bracketed (one d) = d ∷ []
bracketed (both a b) = bracketed a ++ bracketed b

-- what they join to
abbrev pub joined : {G P : Type 0} → (G → G → Bool) → (P → Ptr G) → Brackets G P → Directory G P
joined alike view (one d) = d
joined alike view (both a b) = joined_with alike view (joined alike view a) (joined alike view b)

-- an insertion for each pair of a report, after the calls of h
abbrev pub entered : {G P : Type 0} → (Ptr G → P) → List (Pair G G) → List (Entry G P) → List (Entry G P)
entered point [] h = h
entered point (p ∷ ps) h = entered point ps (record { call = insert p.old (point p.new); accepted = true } ∷ h)

-- A directory's filling, as calls of its own history: a clear, and the insertions.
abbrev pub filling : {G P : Type 0} → (Ptr G → P) → List (Pair G G) → List (Entry G P)
filling point ps = entered point ps (record { call = clear; accepted = true } ∷ [])

-- the records that a report makes in a directory: at each old pointer the new one
abbrev pub report_records : {G P : Type 0} → (Ptr G → P) → List (Pair G G) → List (Held G P)
report_records point ps = map (λ p. record { slot = p.old.slot; gen = p.old.gen; value = point p.new }) ps

-- what a filling leaves, whatever was there
abbrev pub filled_slots : {G P : Type 0} → (Ptr G → P) → List (Pair G G) → Directory G P
filled_slots point ps = settle [] (report_records point ps)

module _ {G P : Type 0} where
  -- what a compression makes of a directory shown: refused, it changes nothing
  abbrev pub Filled : (G → G → Bool) → (Ptr G → P) → Bool → List (Pair G G) → (d e : Directory G P) → Type 0
  Filled alike point true ps d e = Through alike d (filling point ps) e
  Filled alike point false ps d e = e ≡ d

  -- and then it holds just the report
  abbrev pub HoldsAfter : (P → Ptr G) → Bool → List (Pair G G) → Directory G P → Type 0
  HoldsAfter view true ps e = Holds view e ps
  HoldsAfter view false ps e = Unit {0}

-- A season's calls, and the reports that it keeps.
use Rattle.std.specs.Prelude.{◌≡◌, ℕ, ◌-◌, ◌<◌, min, nat_le, Bool, true, false, List, [], ◌∷◌, ◌++◌, map, take, drop, Some, None, Ok, Err, Option, Result}
use Rattle.answers.specs.Refusals.{number_of}
use Rattle.answers.specs.declared.refusal.Refusal.{Refusal}
use Rattle.history.specs.Directories.{Directory, Holds}
use Rattle.history.specs.Mapped.{Pair, records, settle}
use Rattle.history.specs.Slots.{Held}
use Rattle.numbering.specs.declared.generation.SeasonGen.{SeasonGen}
use Rattle.kinds.specs.declared.slot.DirectSlot.{DirectSlot}
use Rattle.outcome.specs.Outcome.{Outcome, done, refused}
use Rattle.numbering.specs.Pointers.{Pointer}
use Rattle.passages.specs.State.{RegisterState, short_view}
use Rattle.stack.specs.Fixed.{fixed_list, fixed_lent}
use Rattle.stack.specs.declared.fixed.FixedStack.{FixedStack}

-- a register but for its slots: its room, what is lent to it, and its limit
abbrev pub settings_of : RegisterState → RegisterState
settings_of r = record { slots = []; room = r.room; lent = r.lent; limit = r.limit }

-- carried out, or refused under a number
abbrev pub of_call : {X : Type 0} → Result X Refusal → Outcome X
of_call (Ok x) = done x
of_call (Err r) = refused (number_of r)

-- a call that finds its record is carried out; any other is refused with 3
abbrev pub held_or_not : Option (Held SeasonGen ℕ) → Outcome (Unit {0})
held_or_not None = refused 3
held_or_not (Some h) = done tt

-- the slots lent to the directories that are not filled yet, the next one first
abbrev pub rooms_left : ℕ → List (FixedStack (DirectSlot SeasonGen Pointer)) → List ℕ
rooms_left n ds = map (λ d. fixed_lent d) (drop n ds)

-- there is a next directory, and it has room for so many slots
abbrev pub takes : List ℕ → ℕ → Bool
takes [] n = false
takes (r ∷ rs) n = nat_le n (min r 65535)

-- an accepted compression uses the next one up
abbrev pub used : Bool → List ℕ → List ℕ
used false rooms = rooms
used true [] = []
used true (r ∷ rs) = rs

-- the slots of directories
abbrev pub reports_in : List (FixedStack (DirectSlot SeasonGen Pointer)) → List (Directory SeasonGen Pointer)
reports_in ds = map (λ d. fixed_list d) ds

-- those of the first so many
abbrev pub first_reports : ℕ → List (FixedStack (DirectSlot SeasonGen Pointer)) → List (Directory SeasonGen Pointer)
first_reports n ds = reports_in (take n ds)

-- These are empty, and so many slots are lent to them in order: to each 256, or as many as are left.
abbrev pub Opened : ℕ → List (FixedStack (DirectSlot SeasonGen Pointer)) → Type 0
Opened left [] = left ≡ 0
Opened left (d ∷ ds) = (0 < left) × (fixed_list d ≡ []) × (fixed_lent d ≡ min 256 left) × Opened (left - 256) ds

-- a directory's copy: its records, and no slot behind the last
abbrev pub copied : Directory SeasonGen Pointer → Directory SeasonGen Pointer
copied d = settle [] (records d)

-- An accepted compression adds a directory behind those filled before, which holds just its report and is its own copy; a
-- refused one leaves them as they are.
abbrev pub Added : Bool → List (Pair SeasonGen SeasonGen) → (ds es : List (Directory SeasonGen Pointer)) → Type 0
Added true ps ds es = (d : Directory SeasonGen Pointer) × (es ≡ ds ++ (d ∷ [])) × Holds short_view d ps × (copied d ≡ d)
Added false ps ds es = es ≡ ds

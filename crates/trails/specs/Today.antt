-- Where a citation leads today.
use Rattle.std.specs.Prelude.{◌≡◌, ℕ, List, [], ◌∷◌, ◌++◌, true, min, nat_lt, drop, Some, Ok, Err, Option, Result}
use Rattle.bulk.specs.Brought.{last_slot}
use Rattle.directory.specs.Find.{looked_up, led_to}
use Rattle.history.specs.Calls.{Entry}
use Rattle.history.specs.Directories.{Directory, joined_with}
use Rattle.history.specs.Laws.{Lawful}
use Rattle.history.specs.Mapped.{records}
use Rattle.history.specs.Slots.{Slots, count}
use Rattle.history.specs.Spans.{Span, all_ended, directories, Traced, Promise}
use Rattle.numbering.specs.Kinds.{season_alike}
use Rattle.numbering.specs.declared.generation.SeasonGen.{SeasonGen}
use Rattle.kinds.specs.declared.slot.DirectSlot.{DirectSlot}
use Rattle.directory.specs.declared.error.DirectoryError.{DirectoryError}
use Rattle.stack.specs.Slots.{counted}
use Rattle.stack.specs.declared.fixed.FixedStack.{FixedStack}
use Rattle.trails.specs.Chronicle.{Chronicle}
use Rattle.trails.specs.Lines.{trail_text}
use Rattle.numbering.specs.Pointers.{Pointer}
use Rattle.passages.specs.State.{short_view}
use Rattle.trails.specs.Reports.{reports_in, copied}
use Rattle.trails.specs.declared.trail.Citation.{Citation}

-- a directory joined with all these, one after the other
abbrev pub joined_on : Directory SeasonGen Pointer → List (Directory SeasonGen Pointer) → Directory SeasonGen Pointer
joined_on d [] = d
joined_on d (e ∷ es) = joined_on (joined_with season_alike short_view d e) es

-- by the reports of the compressions since; with none, the pointer itself
abbrev pub today_of : Slots SeasonGen ℕ → List (Directory SeasonGen Pointer) → Pointer → Option (Pointer × ℕ)
today_of s [] p = looked_up season_alike short_view s (Some p)
today_of s (d ∷ ds) p = led_to season_alike short_view s (joined_on (copied d) ds) p

-- What holds of the register and of the joined directories, whichever histories led to them. And where these are the
-- directories of the last spans of a chronicle: of a pointer given in the first of these spans, what is said of a join.
pub record Promised (s : Slots SeasonGen ℕ) (d : Directory SeasonGen Pointer) (ds : List (Directory SeasonGen Pointer)) : Type 0 where
  pub whole : Promise season_alike short_view (joined_on (copied d) ds) s
  pub traced : (h : List (Entry SeasonGen ℕ)) (front : List (Directory SeasonGen Pointer)) (c : Chronicle h (front ++ (d ∷ ds)) s) (before : List (Span SeasonGen ℕ Pointer)) (x : Span SeasonGen ℕ Pointer) (xs : List (Span SeasonGen ℕ Pointer)) →
      c.spans ≡ before ++ (x ∷ xs) → d ∷ ds ≡ directories (x ∷ xs) → Traced season_alike short_view (joined_on (copied d) ds) s x xs (all_ended before []) c.later

-- with none of them, what holds of the register alone
abbrev pub PromiseToday : Slots SeasonGen ℕ → List (Directory SeasonGen Pointer) → Type 0
PromiseToday s [] = Lawful season_alike s (count s)
PromiseToday s (d ∷ ds) = Promised s d ds

-- a scratch directory of so many slots has no slot for the last record of the first of these
abbrev pub NoRoomFor : ℕ → List (Directory SeasonGen Pointer) → Type 0
NoRoomFor room [] = ⊥
NoRoomFor room (d ∷ ds) = nat_lt (min (counted room) 65535) (last_slot (records d)) ≡ true

-- an answer of today is by the reports since; it is refused only for want of room in the scratch directory
abbrev pub Answered : (room : ℕ) → Slots SeasonGen ℕ → List (Directory SeasonGen Pointer) → Pointer → Result (Option (Pointer × ℕ)) DirectoryError → Type 0
Answered room s ds p (Ok r) = r ≡ today_of s ds p
Answered room s ds p (Err e) = NoRoomFor room ds

-- A citation's trail is added to a text: its line, those of the compressions since, and today's.
abbrev pub Told : (room : ℕ) → Slots SeasonGen ℕ → List (Directory SeasonGen Pointer) → Citation → (old new : List ℕ) → Type 0
Told room s since c old new = (answer : Result (Option (Pointer × ℕ)) DirectoryError) × Answered room s since c.pointer answer × (new ≡ old ++ trail_text c since answer)

-- Those of all these citations are, in order; the directories are those of the whole season.
abbrev pub AllTold : (room : ℕ) → Slots SeasonGen ℕ → List (FixedStack (DirectSlot SeasonGen Pointer)) → List Citation → (old new : List ℕ) → Type 0
AllTold room s ds [] old new = new ≡ old
AllTold room s ds (c ∷ cs) old new = (between : List ℕ) × Told room s (reports_in (drop c.before ds)) c old between × AllTold room s ds cs between new

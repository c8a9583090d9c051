-- A season's directories and the history of its register.
use Rattle.std.specs.Prelude.{◌≡◌, ℕ, ◌+◌, min, true, cond, List, [], ◌∷◌, ◌++◌, Some, None, Ok, Err, Option, Result}
use Rattle.history.specs.Calls as history
use Rattle.history.specs.Calls.{Entry, Leads, went, entry, after, pointer}
use Rattle.history.specs.Directories.{Directory}
use Rattle.history.specs.Mapped.{kept}
use Rattle.history.specs.Slots.{Slots}
use Rattle.history.specs.Spans.{Span, all_ended, unbroken, Successive, directories}
use Rattle.numbering.specs.Kinds.{season_alike}
use Rattle.numbering.specs.declared.generation.SeasonGen.{SeasonGen}
use Rattle.lines.specs.declared.error.LineError.{LineError}
use Rattle.outcome.specs.Outcome.{Outcome}
use Rattle.numbering.specs.Pointers.{Pointer}
use Rattle.passages.specs.State.{RegisterState, cite, short_view}
use Rattle.season.specs.Meaning.{meaning}
use Rattle.season.specs.declared.call.Call.{Call}
use Rattle.season.specs.declared.call.Call.TheVariants.{Insert, Remove, Edit, Compress, Cite}
use Rattle.answers.specs.declared.refusal.Refusal.{Refusal}
use Rattle.trails.specs.Answers.{Gets, Notes}
use Rattle.trails.specs.Reports.{settings_of, of_call, used, copied}
use Rattle.trails.specs.declared.trail.Citation.{Citation}

-- the call of the register's history that a season's call is; a citation is none
abbrev pub recorded : Call → Option (history.Call SeasonGen ℕ)
recorded (Insert s g v) = Some (history.insert (cite s g) v)
recorded (Remove s g) = Some (history.remove (pointer (cite s g)))
recorded (Edit s g v) = Some (history.edit (pointer (cite s g)) v)
recorded Compress = Some (history.compress kept)
recorded (Cite s g) = None

abbrev pub entries : {X : Type 0} → Option (history.Call SeasonGen ℕ) → Outcome X → List (Entry SeasonGen ℕ)
entries None o = []
entries (Some c) o = entry c o ∷ []

-- what a line with this answer adds to the history
abbrev pub adds : {X : Type 0} → Result Call LineError → Outcome X → List (Entry SeasonGen ℕ)
adds (Ok c) o = entries (recorded c) o
adds (Err e) o = []

-- the slots that calls leave, newest first
abbrev pub left_by : List (Entry SeasonGen ℕ) → Slots SeasonGen ℕ → Slots SeasonGen ℕ
left_by [] s = s
left_by (e ∷ es) s = after e (left_by es s)

-- each is its own copy
abbrev pub OwnCopies : List (Directory SeasonGen Pointer) → Type 0
OwnCopies [] = Unit {0}
OwnCopies (d ∷ ds) = (copied d ≡ d) × OwnCopies ds

-- Of a history that led to the slots: these are the directories of all its compressions, in order, and each holds just the
-- report of its own.
pub record Chronicle (h : List (Entry SeasonGen ℕ)) (ds : List (Directory SeasonGen Pointer)) (s : Slots SeasonGen ℕ) : Type 0 where
  pub spans : List (Span SeasonGen ℕ Pointer)
  pub later : List (Entry SeasonGen ℕ)
  pub whole : h ≡ later ++ all_ended spans []
  pub leads : Leads season_alike (later ++ all_ended spans []) s
  pub unbroken : unbroken later ≡ true
  pub successive : Successive short_view spans []
  pub listed : ds ≡ directories spans
  pub copies : OwnCopies ds

-- whichever history led to what was, with these calls it goes on to what is
abbrev pub GoesOn : List (Entry SeasonGen ℕ) → (ds es : List (Directory SeasonGen Pointer)) (s t : Slots SeasonGen ℕ) → Type 0
GoesOn calls ds es s t = (h : List (Entry SeasonGen ℕ)) → Chronicle h ds s → Chronicle (calls ++ h) es t

-- What a season has come to at a line: the line's number, how many compressions were accepted, the slots lent to each
-- directory that is left, the register, and what was noted and written.
pub record Point : Type 0 where
  pub number : ℕ
  pub compressions : ℕ
  pub rooms : List ℕ
  pub register : RegisterState
  pub citations : List Citation
  pub text : List ℕ

-- before the first line, which is line 2 of the input
abbrev pub start : List ℕ → RegisterState → List ℕ → Point
start rooms st text = record { number = 1; compressions = 0; rooms = rooms; register = st; citations = []; text = text }

-- how many compressions were accepted, this line's too
abbrev pub counted_with : {X : Type 0} → ℕ → Result Call LineError → Outcome X → ℕ
counted_with k (Ok Compress) o = cond (went o) (k + 1) k
counted_with k p o = k

-- the directories that are left after this line
abbrev pub rooms_with : {X : Type 0} → List ℕ → Result Call LineError → Outcome X → List ℕ
rooms_with rooms (Ok Compress) o = used (went o) rooms
rooms_with rooms p o = rooms

-- A line is carried out: what it gets from the register as it is, what that leaves, and what is noted or written of it.
pub record LineDone (a : Point) (p : Result Call LineError) (answer : Result (Option Pointer) Refusal) (b : Point) : Type 0 where
  pub gets : Gets a.register a.rooms p (of_call answer)
  pub slots : b.register.slots ≡ left_by (adds p (of_call answer)) a.register.slots
  pub settings : settings_of b.register ≡ settings_of a.register
  pub number : b.number ≡ min (a.number + 1) 18446744073709551615
  pub compressions : b.compressions ≡ counted_with a.compressions p (of_call answer)
  pub rooms : b.rooms ≡ rooms_with a.rooms p (of_call answer)
  pub notes : Notes b.number b.compressions answer a.citations b.citations a.text b.text

-- The lines of a season, carried out one after the other, and the calls that they add to the history.
abbrev pub CarriedOut : Point → List (List ℕ) → Point → List (Entry SeasonGen ℕ) → Type 0
CarriedOut a [] z calls = (z ≡ a) × (calls ≡ [])
CarriedOut a (l ∷ ls) z calls = (answer : Result (Option Pointer) Refusal) × (b : Point) × (more : List (Entry SeasonGen ℕ)) ×
    LineDone a (meaning l) answer b × CarriedOut b ls z more × (calls ≡ more ++ adds (meaning l) (of_call answer))

-- From a register on that has no directory filled: the lines are carried out, and the history goes on by just their calls.
pub record Ran (lines : List (List ℕ)) (es : List (Directory SeasonGen Pointer)) (a z : Point) : Type 0 where
  pub calls : List (Entry SeasonGen ℕ)
  pub carried : CarriedOut a lines z calls
  pub on : GoesOn calls [] es a.register.slots z.register.slots

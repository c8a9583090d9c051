-- What a line of a season gets.
use Rattle.std.specs.Prelude.{◌≡◌, ℕ, cond, List, [], ◌∷◌, ◌++◌, Some, None, Ok, Err, Option, Result}
use Rattle.answers.specs.declared.refusal.Refusal.{Refusal}
use Rattle.bulk.specs.Brought.{last_slot}
use Rattle.history.specs.Mapped.{records}
use Rattle.history.specs.Records.{found}
use Rattle.numbering.specs.Kinds.{season_alike}
use Rattle.answers.specs.Refusals.{line_number}
use Rattle.lines.specs.declared.error.LineError.{LineError}
use Rattle.outcome.specs.Outcome.{Outcome, done, overflowed, refused}
use Rattle.numbering.specs.Pointers.{Pointer, pointer_at}
use Rattle.passages.specs.State.{RegisterState, capacity_of, short_view}
use Rattle.season.specs.declared.call.Call.{Call}
use Rattle.season.specs.declared.call.Call.TheVariants.{Insert, Remove, Edit, Compress, Cite}
use Rattle.slots.specs.Inserted.{insert_answer}
use Rattle.trails.specs.Lines.{written}
use Rattle.trails.specs.Reports.{held_or_not, takes}
use Rattle.trails.specs.declared.line.Line.TheVariants.{Refused}
use Rattle.trails.specs.declared.trail.Citation.{Citation}

-- an accepted call gives this to be noted
abbrev pub noted : Option Pointer → Outcome (Unit {0}) → Outcome (Option Pointer)
noted p (done u) = done p
noted p (overflowed u) = overflowed p
noted p (refused n) = refused n

-- By the register, and by how many slots are lent to each directory that is not filled yet: a citation gives its pointer,
-- and any other call nothing.
abbrev pub Gets : RegisterState → List ℕ → Result Call LineError → Outcome (Option Pointer) → Type 0
Gets st rooms (Ok (Insert s g v)) o = o ≡ noted None (insert_answer (capacity_of st) (short_view (pointer_at s g)) st.slots)
Gets st rooms (Ok (Remove s g)) o = o ≡ noted None (held_or_not (found season_alike (short_view (pointer_at s g)) st.slots))
Gets st rooms (Ok (Edit s g v)) o = o ≡ noted None (held_or_not (found season_alike (short_view (pointer_at s g)) st.slots))
Gets st rooms (Ok Compress) o = o ≡ noted None (cond (takes rooms (last_slot (records st.slots))) (done tt) (refused 10))
Gets st rooms (Ok (Cite s g)) o = o ≡ noted (Some (pointer_at s g)) (held_or_not (found season_alike (short_view (pointer_at s g)) st.slots))
Gets st rooms (Err e) o = o ≡ refused (line_number e)

-- What becomes of the text and of the citations at a line that gets this answer, so many compressions having come before.
abbrev pub Notes : (line before : ℕ) → Result (Option Pointer) Refusal → (cs ds : List Citation) (out grown : List ℕ) → Type 0
Notes line before (Ok None) cs ds out grown = (ds ≡ cs) × (grown ≡ out)
Notes line before (Ok (Some p)) cs ds out grown = (ds ≡ cs ++ (record { line = line; pointer = p; before = before } ∷ [])) × (grown ≡ out)
Notes line before (Err r) cs ds out grown = (ds ≡ cs) × (grown ≡ out ++ written (Refused line r))

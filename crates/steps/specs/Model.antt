-- What each call of a script answers, and what it leaves of the register and of the latest directory.
use Rattle.std.specs.Prelude.{ℕ, ◌-◌, min, Bool, true, false, cond, List, [], ◌∷◌, length, Some, None, Ok, Err, Option, Result, nat_le, nat_lt}
use Rattle.answers.specs.Shown.{Reply}
use Rattle.answers.specs.declared.answer.Concerned.{Concerned}
use Rattle.answers.specs.declared.answer.Concerned.TheVariants.{Record, Pointer, Value, Nothing}
use Rattle.arena.specs.Answers.{value_answer, edit_answer}
use Rattle.bulk.specs.Brought.{last_slot}
use Rattle.slots.specs.Inserted.{insert_answer}
use Rattle.slots.specs.Records.{found}
use Rattle.history.specs.Calls as history
use Rattle.history.specs.Calls.{Entry, entry, after, pointer}
use Rattle.history.specs.Directories.{Directory, recast_by, filling, filled_slots}
use Rattle.history.specs.Mapped.{Pair, kept, records, report}
use Rattle.history.specs.Slots.{Slots, count, trimmed}
use Rattle.numbering.specs.Kinds.{season_alike}
use Rattle.outcome.specs.Outcome.{Outcome, done, overflowed, refused}
use Rattle.numbering.specs.declared.generation.SeasonGen.{SeasonGen}
use Rattle.answers.specs.Refusals.{line_number}
use Rattle.lines.specs.declared.call.Call.{Call}
use Rattle.lines.specs.declared.call.Call.TheVariants.{Insert, Edit, Get, Remove, Trim, Reserve, Limit, Clear, Compress, Recast}
use Rattle.lines.specs.declared.error.LineError.{LineError}
use Rattle.stack.specs.Limits.{limit_answer}
use Rattle.slab_stack.specs.Slab.{slab_answer, slab_room}
use Rattle.stack.specs.Slots.{counted}
use Rattle.numbering.specs.Pointers as pointers
use Rattle.numbering.specs.Pointers.{pointer_at}
use Rattle.passages.specs.State.{RegisterState, State, capacity_of, tally_of, short_point, short_view, cite}

-- what an accepted call shows
abbrev pub shown : {X : Type 0} → (X → Concerned) → Outcome X → Outcome Concerned
shown f (done x) = done (f x)
shown f (overflowed x) = overflowed (f x)
shown f (refused n) = refused n

-- the slots that a capacity request leaves
abbrev pub cut_to : ℕ → Slots SeasonGen ℕ → Slots SeasonGen ℕ
cut_to n s = trimmed (length s - n) s

-- by the tests 'beyond the indices' and 'beyond the limit': 7, 6, or what the slab says
abbrev pub reserve_by : Bool → Bool → Outcome (Unit {0}) → Outcome (Unit {0})
reserve_by true t o = refused 7
reserve_by false true o = refused 6
reserve_by false false o = o

abbrev pub room_by : Bool → Bool → ℕ → ℕ → ℕ
room_by true t old new = old
room_by false true old new = old
room_by false false old new = new

abbrev pub reserve_outcome : RegisterState → ℕ → Outcome (Unit {0})
reserve_outcome r n = reserve_by (nat_lt 65535 n) (nat_lt r.limit n) (slab_answer (nat_lt r.room n) (nat_lt (counted r.lent) n))

abbrev pub reserve_room : RegisterState → ℕ → ℕ
reserve_room r n = room_by (nat_lt 65535 n) (nat_lt r.limit n) r.room (slab_room (nat_lt r.room n) (nat_lt (counted r.lent) n) r.room (counted r.lent) (length (cut_to n r.slots)) n)

-- what a compression reports
abbrev pub report_of : State → List (Pair SeasonGen SeasonGen)
report_of st = report (records st.register.slots)

-- the latest directory has room for the slot of the last record, or for 0 where there is none
abbrev pub takes_report : State → Bool
takes_report st = nat_le (last_slot (records st.register.slots)) (min st.latest_room 65535)

-- the pointer held, or 9
abbrev pub held_answer : Option pointers.Pointer → Outcome Concerned
held_answer None = refused 9
held_answer (Some p) = done (Pointer p.inx.raw p.generation.season)

abbrev pub recast_outcome : Directory SeasonGen pointers.Pointer → ℕ → ℕ → Outcome Concerned
recast_outcome d s g = held_answer (recast_by season_alike short_view d (pointer_at s g))

-- whether a call is accepted, with what it shows, or its refusal's number
abbrev pub outcome : State → Call → Outcome Concerned
outcome st (Insert s g v) = shown (λ _. Record s g v) (insert_answer (capacity_of st.register) (cite s g) st.register.slots)
outcome st (Edit s g v) = shown (λ u. Record s g u) (edit_answer v (found season_alike (cite s g) st.register.slots))
outcome st (Get s g) = shown (λ u. Record s g u) (value_answer (found season_alike (cite s g) st.register.slots))
outcome st (Remove s g) = shown (λ u. Record s g u) (value_answer (found season_alike (cite s g) st.register.slots))
outcome st (Trim n) = done (Value (length st.register.slots - length (trimmed n st.register.slots)))
outcome st (Reserve n) = shown (λ _. Value n) (reserve_outcome st.register n)
outcome st (Limit n) = shown (λ _. Value n) (limit_answer (length (cut_to n st.register.slots)) n)
outcome st Clear = done Nothing
outcome st Compress = cond (takes_report st) (done (Value (count st.register.slots))) (refused 10)
outcome st (Recast s g) = recast_outcome st.latest s g

-- the call in the history of the register's arena; a get and a recast are none, since they alter nothing
abbrev pub recorded : Call → Option (history.Call SeasonGen ℕ)
recorded (Insert s g v) = Some (history.insert (cite s g) v)
recorded (Edit s g v) = Some (history.edit (pointer (cite s g)) v)
recorded (Get s g) = None
recorded (Remove s g) = Some (history.remove (pointer (cite s g)))
recorded (Trim n) = Some (history.trim n)
recorded (Reserve n) = Some (history.reallocate n)
recorded (Limit n) = Some (history.limit n)
recorded Clear = Some history.clear
recorded Compress = Some (history.compress kept)
recorded (Recast s g) = None

abbrev pub entries : Option (history.Call SeasonGen ℕ) → Outcome Concerned → List (Entry SeasonGen ℕ)
entries None o = []
entries (Some c) o = entry c o ∷ []

abbrev pub slots_by : Option (history.Call SeasonGen ℕ) → Outcome Concerned → Slots SeasonGen ℕ → Slots SeasonGen ℕ
slots_by None o s = s
slots_by (Some c) o s = after (entry c o) s

abbrev pub room_after : RegisterState → Call → ℕ
room_after r (Reserve n) = reserve_room r n
room_after r c = r.room

abbrev pub limit_after : RegisterState → Call → ℕ
limit_after r (Limit n) = cond (nat_le (length (cut_to n r.slots)) n) n r.limit
limit_after r c = r.limit

abbrev pub register_after : State → Call → RegisterState
register_after st c = record {
  slots = slots_by (recorded c) (outcome st c) st.register.slots;
  room = room_after st.register c;
  lent = st.register.lent;
  limit = limit_after st.register c;
}

-- only an accepted compression alters the latest directory: it fills it with its report
abbrev pub fills : State → Call → Bool
fills st Compress = takes_report st
fills st c = false

abbrev pub latest_after : State → Call → Directory SeasonGen pointers.Pointer
latest_after st c = cond (fills st c) (filled_slots short_point (report_of st)) st.latest

abbrev pub state_after : State → Call → State
state_after st c = record { register = register_after st c; latest = latest_after st c; latest_room = st.latest_room }

-- a register with no directory beside it, which its own calls do not ask for
abbrev pub alone : RegisterState → State
alone r = record { register = r; latest = []; latest_room = 0 }

-- the answer to a line: a call's, or 12 or 13
abbrev pub answer_to : State → Result Call LineError → Reply
answer_to st (Ok c) = record { verdict = outcome st c; tally = tally_of (register_after st c) }
answer_to st (Err e) = record { verdict = refused (line_number e); tally = tally_of st.register }

abbrev pub after_line : State → Result Call LineError → State
after_line st (Ok c) = state_after st c
after_line st (Err e) = st

-- what the line adds to the history of the register's arena
abbrev pub adds : State → Result Call LineError → List (Entry SeasonGen ℕ)
adds st (Ok c) = entries (recorded c) (outcome st c)
adds st (Err e) = []

-- and to that of the latest directory: the calls of its filling, where it is filled
abbrev pub latest_adds : State → Result Call LineError → List (Entry SeasonGen pointers.Pointer)
latest_adds st (Ok c) = cond (fills st c) (filling short_point (report_of st)) []
latest_adds st (Err e) = []

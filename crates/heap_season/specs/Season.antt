-- What the calls of a season answer, over any stack.
use Rattle.std.specs.Prelude.{ℕ, min, List, ◌++◌, length, codes, Some, None, Option}
use Rattle.answers.specs.declared.answer.Concerned.{Concerned}
use Rattle.answers.specs.declared.answer.Concerned.TheVariants.{Record, Pointer as Cited, Nothing}
use Rattle.answers.specs.declared.answer.Tally.{Tally}
use Rattle.answers.specs.Shown.{Reply, reply_line}
use Rattle.arena.specs.Answers.{cited}
use Rattle.directory.specs.Find.{led_to}
use Rattle.history.specs.Directories.{Directory, recast_by}
use Rattle.history.specs.Slots.{Slots, Ptr, count}
use Rattle.numbering.specs.Kinds.{short_number, season_alike}
use Rattle.numbering.specs.declared.generation.SeasonGen.{SeasonGen}
use Rattle.numbering.specs.Pointers.{Pointer, pointer}
use Rattle.outcome.specs.Outcome.{Outcome, done, overflowed, refused}

-- a pointer as its index's number and its season
abbrev pub view : Pointer → Ptr SeasonGen
view = cited {P = Pointer} short_number (λ p. p.inx) (λ p. p.generation)

-- what is held in these slots, in a stack of this capacity
abbrev pub tally_of : {V : Type 0} → Slots SeasonGen V → ℕ → Tally
tally_of s room = record { count = count s; slots = length s; capacity = min room 65535 }

abbrev pub record_at : Pointer → ℕ → Concerned
record_at p v = Record p.inx.raw p.generation.season v

-- what a call that is done shows
abbrev pub shown : {X : Type 0} → (X → Concerned) → Outcome X → Outcome Concerned
shown f (done x) = done (f x)
shown f (overflowed x) = overflowed (f x)
shown f (refused n) = refused n

-- done or refused, whatever is shown
abbrev pub bare : {X : Type 0} → Outcome X → Outcome (Unit {0})
bare (done x) = done tt
bare (overflowed x) = overflowed tt
bare (refused n) = refused n

-- the pointer that is held, or 9
abbrev pub held_answer : Option Pointer → Outcome Concerned
held_answer None = refused 9
held_answer (Some p) = done (Cited p.inx.raw p.generation.season)

-- the record that is found, or 3
abbrev pub found_answer : Option (Pointer × ℕ) → Outcome Concerned
found_answer None = refused 3
found_answer (Some x) = done (record_at x.0 x.1)

-- the pointer of a number and a season
abbrev pub point : Ptr SeasonGen → Pointer
point p = pointer p.slot p.gen

-- the line of an answer, behind the name of its call
abbrev pub line_of : List ℕ → Reply → List ℕ
line_of call r = call ++ (codes " " ++ reply_line r)

-- and that of what is held in these slots
abbrev pub held_line : {V : Type 0} → Slots SeasonGen V → ℕ → List ℕ
held_line s room = line_of (codes "held") (record { verdict = done Nothing; tally = tally_of s room })

-- the lines of where a directory leads a pointer, and of the record there
abbrev pub recast_and_find_lines : Slots SeasonGen ℕ → ℕ → Directory SeasonGen Pointer → ℕ → Pointer → List ℕ
recast_and_find_lines s room d directory_room p =
    line_of (codes "recast") (record { verdict = held_answer (recast_by season_alike view d p); tally = tally_of d directory_room })
    ++ line_of (codes "find") (record { verdict = found_answer (led_to season_alike view s d p); tally = tally_of s room })

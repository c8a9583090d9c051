-- A run over the lines of a script.
use Rattle.std.specs.Prelude.{ℕ, List, [], ◌∷◌, ◌++◌, Some, None, codes, Option}
use Rattle.answers.specs.Shown.{reply_line}
use Rattle.history.specs.Calls.{Entry}
use Rattle.numbering.specs.declared.generation.SeasonGen.{SeasonGen}
use Rattle.lines.specs.Meaning.{meaning}
use Rattle.lines.specs.Script.{script_of}
use Rattle.outcome.specs.Outcome.{refused}
use Rattle.numbering.specs.Pointers.{Pointer}
use Rattle.passages.specs.State.{State, tally_of}
use Rattle.steps.specs.Model.{answer_to, after_line, adds, latest_adds}

-- what is written of lines, from a state on
abbrev pub output : State → List (List ℕ) → List ℕ
output st [] = []
output st (l ∷ ls) = reply_line (answer_to st (meaning l)) ++ output (after_line st (meaning l)) ls

-- the state after them
abbrev pub after_all : State → List (List ℕ) → State
after_all st [] = st
after_all st (l ∷ ls) = after_all (after_line st (meaning l)) ls

-- what they add to the history of the register's arena, newest first
abbrev pub adds_all : State → List (List ℕ) → List (Entry SeasonGen ℕ)
adds_all st [] = []
adds_all st (l ∷ ls) = adds_all (after_line st (meaning l)) ls ++ adds st (meaning l)

-- and to that of the latest directory
abbrev pub latest_adds_all : State → List (List ℕ) → List (Entry SeasonGen Pointer)
latest_adds_all st [] = []
latest_adds_all st (l ∷ ls) = latest_adds_all (after_line st (meaning l)) ls ++ latest_adds st (meaning l)

-- an input that is no script has no lines to carry out
abbrev pub lines_by : Option (List (List ℕ)) → List (List ℕ)
lines_by (Some ls) = ls
lines_by None = []

-- of an input that is no script only 11 is written
abbrev pub answers_to : State → Option (List (List ℕ)) → List ℕ
answers_to st (Some ls) = output st ls
answers_to st None = reply_line (record { verdict = refused 11; tally = tally_of st.register })

abbrev pub state_by : State → Option (List (List ℕ)) → State
state_by st (Some ls) = after_all st ls
state_by st None = st

abbrev pub adds_by : State → Option (List (List ℕ)) → List (Entry SeasonGen ℕ)
adds_by st (Some ls) = adds_all st ls
adds_by st None = []

abbrev pub latest_adds_by : State → Option (List (List ℕ)) → List (Entry SeasonGen Pointer)
latest_adds_by st (Some ls) = latest_adds_all st ls
latest_adds_by st None = []

-- the whole report on an input
abbrev pub report : State → List ℕ → List ℕ
report st bs = codes "answer slot generation value count slots capacity\n" ++ answers_to st (script_of bs)

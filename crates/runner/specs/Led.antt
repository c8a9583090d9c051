-- A run and the histories of the register's arena and of its latest directory.
use Rattle.std.specs.Prelude.{◌≡◌, ℕ, List, ◌++◌, Option}
use Rattle.history.specs.Calls.{Entry, Leads}
use Rattle.numbering.specs.Kinds.{season_alike}
use Rattle.numbering.specs.declared.generation.SeasonGen.{SeasonGen}
use Rattle.numbering.specs.Pointers.{Pointer}
use Rattle.passages.specs.State.{State}
use Rattle.runner.specs.Run.{lines_by, adds_by, adds_all, latest_adds_by, latest_adds_all, after_all}

-- Whichever history led to the register, that history with these calls leads to what it is now; and whichever history
-- led to the latest directory, that history with these fillings leads to what that is now.
pub record GoesOn (old new : State) (calls : List (Entry SeasonGen ℕ)) (fillings : List (Entry SeasonGen Pointer)) : Type 0 where
  pub register : (h : List (Entry SeasonGen ℕ)) → Leads season_alike h old.register.slots → Leads season_alike (calls ++ h) new.register.slots
  pub latest : (h : List (Entry SeasonGen Pointer)) → Leads season_alike h old.latest → Leads season_alike (fillings ++ h) new.latest

-- The histories go on by the script's calls, and by the fillings of its accepted compressions.
abbrev pub Led : State → Option (List (List ℕ)) → State → Type 0
Led old script new = GoesOn old new (adds_by old script) (latest_adds_by old script)

-- Some first lines of a script were carried out, and no other: where memory fails, a run stops between two lines.
pub record Reached (old : State) (lines : List (List ℕ)) (new : State) : Type 0 where
  pub front : List (List ℕ)
  pub back : List (List ℕ)
  pub parts : lines ≡ front ++ back
  pub state : new ≡ after_all old front

-- Then too the histories go on, by just the calls of those lines.
pub record Stopped (old : State) (script : Option (List (List ℕ))) (new : State) : Type 0 where
  pub reached : Reached old (lines_by script) new
  pub led : GoesOn old new (adds_all old reached.front) (latest_adds_all old reached.front)

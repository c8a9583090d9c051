-- What is written of a season.
use Rattle.std.specs.Prelude.{ℕ, ◌+◌, List, [], ◌∷◌, ◌++◌, codes, decimal, Some, None, Ok, Err, Option, Result}
use Rattle.answers.specs.Refusals.{number_of}
use Rattle.answers.specs.Shown.{spaced}
use Rattle.answers.specs.declared.refusal.Refusal.{Refusal}
use Rattle.answers.specs.declared.refusal.Refusal.TheVariants.{NoRoomForReport}
use Rattle.history.specs.Directories.{Directory, recast_by}
use Rattle.numbering.specs.Kinds.{season_alike}
use Rattle.numbering.specs.declared.generation.SeasonGen.{SeasonGen}
use Rattle.directory.specs.declared.error.DirectoryError.{DirectoryError}
use Rattle.numbering.specs.Pointers.{Pointer}
use Rattle.passages.specs.State.{short_view}
use Rattle.trails.specs.declared.line.Line.{Line}
use Rattle.trails.specs.declared.trail.Citation.{Citation}
use Rattle.trails.specs.declared.line.Line.TheVariants.{NoSeason, Refused, Totals, Cites, Moved, Ended, Today, EndedToday, RefusedToday}

-- slot and generation, with a space between
abbrev pub pointer_text : Pointer → List ℕ
pointer_text p = spaced (decimal p.inx.raw) (decimal p.generation.season)

abbrev pub refused_text : Refusal → List ℕ
refused_text r = codes "refused, " ++ decimal (number_of r)

abbrev pub gone_text : Pointer → List ℕ
gone_text p = pointer_text p ++ codes " is no longer there"

abbrev pub line_text : Line → List ℕ
line_text (NoSeason r) = refused_text r
line_text (Refused line r) = codes "line " ++ (decimal line ++ (codes ": " ++ refused_text r))
line_text (Totals c n) = codes "compressions " ++ (decimal c ++ (codes ", records " ++ decimal n))
line_text (Cites line p) = codes "line " ++ (decimal line ++ (codes " cites " ++ pointer_text p))
line_text (Moved c p q) = codes "compression " ++ (decimal c ++ (codes ": " ++ (pointer_text p ++ (codes " -> " ++ pointer_text q))))
line_text (Ended c p) = codes "compression " ++ (decimal c ++ (codes ": " ++ gone_text p))
line_text (Today p v) = codes "today: " ++ (pointer_text p ++ (codes " value " ++ decimal v))
line_text (EndedToday p) = codes "today: " ++ gone_text p
line_text (RefusedToday r) = codes "today: " ++ refused_text r

-- with its line break
abbrev pub written : Line → List ℕ
written l = line_text l ++ (10 ∷ [])

-- the line of the compression of this number, which leads a pointer to another, or to none
abbrev pub moved_line : ℕ → Pointer → Option Pointer → Line
moved_line n p (Some q) = Moved n p q
moved_line n p None = Ended n p

-- the last line of a trail that came through every compression, to this pointer
abbrev pub today_line : Pointer → Result (Option (Pointer × ℕ)) DirectoryError → Line
today_line p (Ok (Some r)) = Today r.0 r.1
today_line p (Ok None) = EndedToday p
today_line p (Err e) = RefusedToday NoRoomForReport

-- where a compression's directory leads a pointer
abbrev pub led_by : Directory SeasonGen Pointer → Pointer → Option Pointer
led_by d p = recast_by season_alike short_view d p

abbrev pub onward : (Pointer → List ℕ) → Option Pointer → List ℕ
onward f None = []
onward f (Some q) = f q

-- The lines of the compressions after the n-th, whose directories these are: up to the one that leads to none.
abbrev pub steps_text : ℕ → List (Directory SeasonGen Pointer) → Pointer → List ℕ
steps_text n [] p = []
steps_text n (d ∷ ds) p = written (moved_line (n + 1) p (led_by d p)) ++ onward (λ q. steps_text (n + 1) ds q) (led_by d p)

abbrev pub through : (Pointer → Option Pointer) → Option Pointer → Option Pointer
through f None = None
through f (Some q) = f q

-- the pointer that comes through all of them
abbrev pub come_through : List (Directory SeasonGen Pointer) → Pointer → Option Pointer
come_through [] p = Some p
come_through (d ∷ ds) p = through (λ q. come_through ds q) (led_by d p)

-- a citation's line, those of the compressions since, and today's if the pointer came through all of them
abbrev pub trail_text : Citation → List (Directory SeasonGen Pointer) → Result (Option (Pointer × ℕ)) DirectoryError → List ℕ
trail_text c since answer = written (Cites c.line c.pointer) ++ (steps_text c.before since c.pointer ++ onward (λ at. written (today_line at answer)) (come_through since c.pointer))

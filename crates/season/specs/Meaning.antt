-- What one line of a season means, without its byte 10.
use Rattle.std.specs.Prelude.{ℕ, Bool, true, false, cond, ◌&&◌, ◌||◌, List, length, Some, None, Ok, Err, codes, Option, Result, nat_lt}
use Rattle.std.specs.Str.{bytes_eq}
use Rattle.lines.specs.Call.{fits, number_in}
use Rattle.lines.specs.Meaning as runner
use Rattle.lines.specs.declared.call.Call as runner_call
use Rattle.lines.specs.declared.call.Call.TheVariants as shared
use Rattle.lines.specs.declared.error.LineError.{LineError}
use Rattle.lines.specs.declared.error.LineError.TheVariants.{Unknown, Unfit}
use Rattle.season.specs.declared.call.Call.{Call}
use Rattle.season.specs.declared.call.Call.TheVariants.{Insert, Remove, Edit, Compress, Cite}
use Rattle.text.specs.Number.{field_of}
use Rattle.text.specs.Split.{Four, split, four_of}

-- the runner's call, where a season has it too
abbrev pub of_runner : runner_call.Call → Result Call LineError
of_runner (shared.Insert s g v) = Ok (Insert s g v)
of_runner (shared.Edit s g v) = Ok (Edit s g v)
of_runner (shared.Get s g) = Err Unknown
of_runner (shared.Remove s g) = Ok (Remove s g)
of_runner (shared.Trim n) = Err Unknown
of_runner (shared.Reserve n) = Err Unknown
of_runner (shared.Limit n) = Err Unknown
of_runner shared.Clear = Err Unknown
of_runner shared.Compress = Ok Compress
of_runner (shared.Recast s g) = Err Unknown

-- what the runner reads in a line, in a season
abbrev pub of_line : Result runner_call.Call LineError → Result Call LineError
of_line (Ok c) = of_runner c
of_line (Err e) = Err e

-- a slot, a generation and a blank
abbrev pub cited_by : Four → Result Call LineError
cited_by f = cond (fits true (field_of 65535 f.slot) && (fits true (field_of 4294967295 f.generation) && fits false (field_of 4294967295 f.value))) (Ok (Cite (number_in (field_of 65535 f.slot)) (number_in (field_of 4294967295 f.generation)))) (Err Unfit)

-- the names that the runner has too
abbrev pub is_shared : List ℕ → Bool
is_shared name = bytes_eq name (codes "insert") || (bytes_eq name (codes "remove") || (bytes_eq name (codes "edit") || bytes_eq name (codes "compress")))

-- by the name; any other name is unknown, whatever the fields
abbrev pub with_name : List ℕ → Option Four → Result Call LineError
with_name line None = Err Unknown
with_name line (Some f) = cond (bytes_eq f.call (codes "cite")) (cited_by f) (cond (is_shared f.call) (of_line (runner.meaning line)) (Err Unknown))

abbrev pub meaning : List ℕ → Result Call LineError
meaning line = cond (nat_lt 80 (length line)) (Err Unknown) (with_name line (four_of (split 32 line)))

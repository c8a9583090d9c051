-- What one line means, without its byte 10.
use Rattle.std.specs.Prelude.{ℕ, cond, List, length, Some, None, Ok, Err, Option, Result, nat_lt}
use Rattle.std.specs.Option.{ok_or}
use Rattle.lines.specs.Call.{Field, asked}
use Rattle.text.specs.Number.{field_of}
use Rattle.text.specs.Split.{Four, split, four_of}
use Rattle.lines.specs.Verb.{verb_of}
use Rattle.lines.specs.declared.call.Call.{Call}
use Rattle.lines.specs.declared.error.LineError.{LineError}
use Rattle.lines.specs.declared.error.LineError.TheVariants.{Unknown, Unfit}
use Rattle.lines.specs.declared.verb.Verb.{Verb}

abbrev pub field_or_unfit : Field → Result (Option ℕ) LineError
field_or_unfit (Ok o) = Ok o
field_or_unfit (Err e) = Err Unfit

abbrev pub with_verb : Option Verb → Four → Result Call LineError
with_verb (Some verb) f = ok_or (asked verb (field_of 65535 f.slot) (field_of 4294967295 f.generation) (field_of 4294967295 f.value)) Unfit
with_verb None f = Err Unknown

abbrev pub with_fields : Option Four → Result Call LineError
with_fields (Some f) = with_verb (verb_of f.call) f
with_fields None = Err Unknown

abbrev pub meaning : List ℕ → Result Call LineError
meaning line = cond (nat_lt 80 (length line)) (Err Unknown) (with_fields (four_of (split 32 line)))

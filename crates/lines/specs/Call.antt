-- Which fields a call wants, and the call that a line asks for.
use Rattle.std.specs.Prelude.{ℕ, Bool, true, false, cond, ◌&&◌, Some, None, Ok, Err, Option, Result}
use Rattle.lines.specs.declared.call.Call.{Call}
use Rattle.lines.specs.declared.call.Call.TheVariants as call
use Rattle.text.specs.declared.number.FieldError.{FieldError}
use Rattle.lines.specs.declared.verb.Verb.{Verb}
use Rattle.lines.specs.declared.verb.Verb.TheVariants.{Insert, Edit, Get, Remove, Trim, Reserve, Limit, Clear, Compress, Recast}

-- a call wants a pointer, that is a slot and a generation
abbrev pub wants_pointer : Verb → Bool
wants_pointer Insert = true
wants_pointer Edit = true
wants_pointer Get = true
wants_pointer Remove = true
wants_pointer Trim = false
wants_pointer Reserve = false
wants_pointer Limit = false
wants_pointer Clear = false
wants_pointer Compress = false
wants_pointer Recast = true

abbrev pub wants_value : Verb → Bool
wants_value Insert = true
wants_value Edit = true
wants_value Get = false
wants_value Remove = false
wants_value Trim = true
wants_value Reserve = true
wants_value Limit = true
wants_value Clear = false
wants_value Compress = false
wants_value Recast = false

-- what a field holds: a number, a blank, or neither
abbrev pub Field : Type 0
Field = Result (Option ℕ) FieldError

-- a wanted field is a number, and any other a blank
abbrev pub fits : Bool → Field → Bool
fits true (Ok (Some n)) = true
fits true (Ok None) = false
fits true (Err e) = false
fits false (Ok (Some n)) = false
fits false (Ok None) = true
fits false (Err e) = false

abbrev pub number_in : Field → ℕ
number_in (Ok (Some n)) = n
number_in (Ok None) = 0
number_in (Err e) = 0

-- the call at its numbers; what it does not want is passed over
abbrev pub call_at : Verb → ℕ → ℕ → ℕ → Call
call_at Insert s g v = call.Insert s g v
call_at Edit s g v = call.Edit s g v
call_at Get s g v = call.Get s g
call_at Remove s g v = call.Remove s g
call_at Trim s g v = call.Trim v
call_at Reserve s g v = call.Reserve v
call_at Limit s g v = call.Limit v
call_at Clear s g v = call.Clear
call_at Compress s g v = call.Compress
call_at Recast s g v = call.Recast s g

abbrev pub asked : Verb → Field → Field → Field → Option Call
asked verb s g v =
    cond (fits (wants_pointer verb) s && (fits (wants_pointer verb) g && fits (wants_value verb) v))
    (Some (call_at verb (number_in s) (number_in g) (number_in v)))
    None

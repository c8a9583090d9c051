-- What is written of an answer.
use Rattle.std.specs.Prelude.{ℕ, List, [], ◌∷◌, ◌++◌, codes, decimal}
use Rattle.answers.specs.Refusals.{of_verdict}
use Rattle.answers.specs.declared.answer.Answer.{Answer}
use Rattle.answers.specs.declared.answer.Concerned.{Concerned}
use Rattle.answers.specs.declared.answer.Concerned.TheVariants.{Record, Pointer, Value, Nothing}
use Rattle.answers.specs.declared.answer.Tally.{Tally}
use Rattle.outcome.specs.Outcome.{Outcome, done, overflowed, refused}

-- two texts with a space between
abbrev pub spaced : List ℕ → List ℕ → List ℕ
spaced a b = a ++ (codes " " ++ b)

-- a field that is blank
abbrev pub blank : List ℕ
blank = codes "-"

abbrev pub concerned_text : Concerned → List ℕ
concerned_text (Record s g v) = spaced (decimal s) (spaced (decimal g) (decimal v))
concerned_text (Pointer s g) = spaced (decimal s) (spaced (decimal g) blank)
concerned_text (Value v) = spaced blank (spaced blank (decimal v))
concerned_text Nothing = spaced blank (spaced blank blank)

abbrev pub tally_text : Tally → List ℕ
tally_text t = spaced (decimal t.count) (spaced (decimal t.slots) (decimal t.capacity))

abbrev pub verdict_text : Outcome Concerned → List ℕ
verdict_text (done c) = codes "ok"
verdict_text (overflowed c) = codes "ok"
verdict_text (refused n) = decimal n

-- a refused call shows no pointer and no value
abbrev pub concerned_in : Outcome Concerned → Concerned
concerned_in (done c) = c
concerned_in (overflowed c) = c
concerned_in (refused n) = Nothing

-- what an answer says: what became of the call, and how much is held then
pub record Reply : Type 0 where
  pub verdict : Outcome Concerned
  pub tally : Tally

abbrev pub reply_of : Answer → Reply
reply_of a = record { verdict = of_verdict a.verdict; tally = a.tally }

abbrev pub reply_text : Reply → List ℕ
reply_text r = spaced (verdict_text r.verdict) (spaced (concerned_text (concerned_in r.verdict)) (tally_text r.tally))

-- with its line break
abbrev pub reply_line : Reply → List ℕ
reply_line r = reply_text r ++ (10 ∷ [])

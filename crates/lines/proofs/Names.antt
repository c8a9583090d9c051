-- A name that is read byte by byte.
use Rattle.std.proofs.Common.{◌≡◌, ℕ, suc, ◌+◌, ◌<◌, List, [], ◌∷◌, length, get_or, drop, Ok, Some, sym, refl, ap, ◌∙◌, arith, add-one}
use Rattle.std.specs.Option.{ok_or}
use Rattle.std.proofs.lemmas.List.{drop_more, drop_all}
use Rattle.lines.specs.Verb.{name_of, verb_of}
use Rattle.lines.specs.declared.error.LineError.TheVariants.{Unknown}
use Rattle.lines.specs.declared.verb.Verb.{Verb}
use Rattle.lines.specs.declared.verb.Verb.TheVariants.{Insert, Edit, Get, Remove, Trim, Reserve, Limit, Clear, Compress, Recast}

-- from its i-th byte on, xs has just these bytes
abbrev pub ReadsFrom : List ℕ → ℕ → List ℕ → Type 0
ReadsFrom xs i [] = length xs ≡ i
ReadsFrom xs i (w ∷ ws) = (get_or xs i 0 ≡ w) × ReadsFrom xs (suc i) ws

reads_length : (xs : List ℕ) (i : ℕ) (ws : List ℕ) → ReadsFrom xs i ws → length xs ≡ i + length ws
reads_length xs i [] h = omega arith
reads_length xs i (w ∷ ws) h = omega (arith, reads_length xs (suc i) ws h.1)

reads : (xs : List ℕ) (i : ℕ) (ws : List ℕ) → ReadsFrom xs i ws → drop i xs ≡ ws
reads xs i [] h = drop_all i xs (omega arith)
reads xs i (w ∷ ws) h =
    let short : i < length xs = omega (arith, reads_length xs i (w ∷ ws) h) in
    drop_more xs i 0 short ∙ ap (λ l. get_or xs i 0 ∷ l) (rw add-one (reads xs (suc i) ws h.1)) ∙ ap (λ x. x ∷ ws) h.0

pub verb_named : (v : Verb) → verb_of (name_of v) ≡ Some v
verb_named Insert = refl
verb_named Edit = refl
verb_named Get = refl
verb_named Remove = refl
verb_named Trim = refl
verb_named Reserve = refl
verb_named Limit = refl
verb_named Clear = refl
verb_named Compress = refl
verb_named Recast = refl

pub spelled : (v : Verb) (name : List ℕ) → ReadsFrom name 0 (name_of v) → Ok v ≡ ok_or (verb_of name) Unknown
spelled v name h = sym (ap (λ n. ok_or (verb_of n) Unknown) (reads name 0 (name_of v) h) ∙ ap (λ o. ok_or o Unknown) (verb_named v))

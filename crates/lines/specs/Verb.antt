-- The names of the calls.
use Rattle.std.specs.Prelude.{ℕ, cond, List, [], ◌∷◌, Some, None, codes, Option}
use Rattle.std.specs.Str.{bytes_eq}
use Rattle.lines.specs.declared.verb.Verb.{Verb}
use Rattle.lines.specs.declared.verb.Verb.TheVariants.{Insert, Edit, Get, Remove, Trim, Reserve, Limit, Clear, Compress, Recast}

abbrev pub name_of : Verb → List ℕ
name_of Insert = codes "insert"
name_of Edit = codes "edit"
name_of Get = codes "get"
name_of Remove = codes "remove"
name_of Trim = codes "trim"
name_of Reserve = codes "reserve"
name_of Limit = codes "limit"
name_of Clear = codes "clear"
name_of Compress = codes "compress"
name_of Recast = codes "recast"

abbrev pub verbs : List Verb
verbs = Insert ∷ Edit ∷ Get ∷ Remove ∷ Trim ∷ Reserve ∷ Limit ∷ Clear ∷ Compress ∷ Recast ∷ []

-- the one of these calls that has the name
abbrev pub named : List ℕ → List Verb → Option Verb
named name [] = None
named name (v ∷ vs) = cond (bytes_eq name (name_of v)) (Some v) (named name vs)

abbrev pub verb_of : List ℕ → Option Verb
verb_of name = named name verbs

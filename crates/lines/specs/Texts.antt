-- The one text of a call.
use Rattle.std.specs.Prelude.{ℕ, ◌≤◌, List, ◌∷◌, ◌++◌, codes, decimal}
use Rattle.lines.specs.declared.call.Call.{Call}
use Rattle.lines.specs.declared.call.Call.TheVariants.{Insert, Edit, Get, Remove, Trim, Reserve, Limit, Clear, Compress, Recast}

-- four fields, one space between
abbrev pub row : List ℕ → List ℕ → List ℕ → List ℕ → List ℕ
row a b c d = a ++ (32 ∷ (b ++ (32 ∷ (c ++ (32 ∷ d)))))

abbrev pub blank : List ℕ
blank = codes "-"

abbrev pub call_text : Call → List ℕ
call_text (Insert s g v) = row (codes "insert") (decimal s) (decimal g) (decimal v)
call_text (Edit s g v) = row (codes "edit") (decimal s) (decimal g) (decimal v)
call_text (Get s g) = row (codes "get") (decimal s) (decimal g) blank
call_text (Remove s g) = row (codes "remove") (decimal s) (decimal g) blank
call_text (Trim n) = row (codes "trim") blank blank (decimal n)
call_text (Reserve n) = row (codes "reserve") blank blank (decimal n)
call_text (Limit n) = row (codes "limit") blank blank (decimal n)
call_text Clear = row (codes "clear") blank blank blank
call_text Compress = row (codes "compress") blank blank blank
call_text (Recast s g) = row (codes "recast") (decimal s) (decimal g) blank

-- slots have 16 bits, generations and values 32
abbrev pub InRange : Call → Type 0
InRange (Insert s g v) = (s ≤ 65535) × (g ≤ 4294967295) × (v ≤ 4294967295)
InRange (Edit s g v) = (s ≤ 65535) × (g ≤ 4294967295) × (v ≤ 4294967295)
InRange (Get s g) = (s ≤ 65535) × (g ≤ 4294967295)
InRange (Remove s g) = (s ≤ 65535) × (g ≤ 4294967295)
InRange (Trim n) = n ≤ 4294967295
InRange (Reserve n) = n ≤ 4294967295
InRange (Limit n) = n ≤ 4294967295
InRange Clear = Unit {0}
InRange Compress = Unit {0}
InRange (Recast s g) = (s ≤ 65535) × (g ≤ 4294967295)

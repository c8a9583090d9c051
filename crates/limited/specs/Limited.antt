-- A stack with a limit over any stack: its settings are those below, and the limit.
use Rattle.std.specs.Prelude.{◌≡◌, ℕ, min, Bool, true, false, cond, List, length, Some, None, Option, nat_le, nat_lt}
use Rattle.outcome.specs.Outcome.{Outcome, refused}
use Rattle.stack.specs.declared.generic.NonZeroInxGenericStack.{Ghosts}
use Rattle.limited.specs.declared.limited.LimitedStack.{LimitedStack}

-- the stack below, and what a stack under a limit lists and is set to
abbrev pub limited_below : {S U : Type 0} {N : Ghosts S U} → LimitedStack S U N → S
limited_below s = s.below

abbrev pub limited_list : {S U : Type 0} {N : Ghosts S U} → LimitedStack S U N → List U
limited_list {N = N} s = N.list s.below

abbrev pub limited_config : {S U : Type 0} {N : Ghosts S U} → LimitedStack S U N → N.Config × ℕ
limited_config {N = N} s = (N.config s.below, s.limit)

-- the smaller of the limit and the maximum below
abbrev pub lower : ℕ → Option ℕ → ℕ
lower l None = l
lower l (Some m) = min l m

-- 6 where the request exceeds the maximum; else what the stack below does
abbrev pub Cut : {C : Type 0} → (C → ℕ → ℕ → Outcome (Unit {0}) → C → Type 0) → Bool → C → ℕ → ℕ → Outcome (Unit {0}) → C → Type 0
Cut regrown true c n r a d = (d ≡ c) × (a ≡ refused 6)
Cut regrown false c n r a d = regrown c n r a d

abbrev pub LimitedRegrown : {S U : Type 0} (N : Ghosts S U) → N.Config × ℕ → ℕ → ℕ → Outcome (Unit {0}) → N.Config × ℕ → Type 0
LimitedRegrown N c n r a d = (d.1 ≡ c.1) × Cut N.regrown (nat_lt (lower c.1 (N.limit c.0)) r) c.0 n r a d.0

-- over any stack the settings below stay, and the limit is the new one where that is taken
abbrev pub LimitedRelimited : {S U : Type 0} (N : Ghosts S U) → LimitedStack S U N → ℕ → LimitedStack S U N → Type 0
LimitedRelimited N s l t = (N.config t.below ≡ N.config s.below) × (t.limit ≡ cond (nat_le (length (N.list s.below)) l) l s.limit)

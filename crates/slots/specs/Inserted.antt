-- An insertion at a slot's number.
use Rattle.std.specs.Prelude.{◌≡◌, ℕ, ◌+◌, ◌≤◌, max, true, cond, length}
use Rattle.outcome.specs.Outcome.{Outcome, done, overflowed, refused}
use Rattle.kinds.specs.Places.{in_range}
use Rattle.kinds.specs.declared.slot.DirectSlot.{DirectSlot}
use Rattle.history.specs.Slots.{Slots, Ptr, at, count, is_free, write}

-- an insertion where the capacity is k: 1 where no slot within it has the number, 2 where the slot is taken
abbrev pub insert_answer : {G V : Type 0} → ℕ → Ptr G → Slots G V → Outcome (Unit {0})
insert_answer k p s = cond (in_range p.slot k) (cond (is_free (at p.slot s)) (done tt) (refused 2)) (refused 1)

-- slot n, which was vacant, took x
pub record Placed {G V : Type 0} (n : ℕ) (x : DirectSlot G V) (s t : Slots G V) : Type 0 where
  pub low : 1 ≤ n
  pub vacant : is_free (at n s) ≡ true
  pub slots : t ≡ write n x s
  pub counted : count t ≡ count s + 1
  pub long : length t ≡ max n (length s)

-- what an insertion leaves: a refused one changes nothing
abbrev pub Inserted : {G V : Type 0} → Outcome (Unit {0}) → ℕ → DirectSlot G V → Slots G V → Slots G V → Type 0
Inserted (done u) n x s t = Placed n x s t
Inserted (overflowed u) n x s t = ⊥
Inserted (refused k) n x s t = t ≡ s

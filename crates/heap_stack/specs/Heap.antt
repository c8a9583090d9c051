-- The heap stack: its one setting is the capacity.
use Rattle.std.specs.Prelude.{◌≡◌, ℕ, ◌*◌, min, max, Bool, true, false, cond, ◌&&◌, not, ◌==◌, List, [], take, Ok, Err, Result, nat_lt}
use Rattle.outcome.specs.Outcome.{Outcome, done, overflowed, refused}
use Rattle.stack.specs.Outcomes.{of_reallocation}
use Rattle.stack.specs.declared.error.ReallocationError.{ReallocationError}
use Rattle.heap_stack.specs.declared.heap.HeapStack.{HeapStack}

abbrev pub heap_list : {U A : Type 0} → HeapStack U A → List U
heap_list s = take s.len s.block.slots

abbrev pub heap_room : {U A : Type 0} → HeapStack U A → ℕ
heap_room s = s.room

-- where more are asked for than there is room for: it doubles at least, and is 4 at least
abbrev pub heap_more : ℕ → ℕ → ℕ
heap_more c r = min (max (max r (2 * c)) 4) 4294967295

-- where fewer are: what is asked for or is there, but none or 4 at least
abbrev pub heap_less : ℕ → ℕ
heap_less m = cond (m == 0) 0 (max m 4)

-- the capacity after a reallocation that is done, of n slots with capacity c, to a request r
abbrev pub heap_grown : ℕ → ℕ → ℕ → ℕ
heap_grown c n r = cond (nat_lt c r) (heap_more c r) (cond (nat_lt r c) (heap_less (max r n)) c)

-- whether a new capacity m, where it was c, takes a block of the allocator
abbrev pub heap_asks : ℕ → ℕ → Bool
heap_asks c m = not (m == c) && nat_lt 0 m

-- what a move to the capacity m, where it was c, may leave: it is refused only where a block is asked for
abbrev pub HeapMoved : ℕ → ℕ → Outcome (Unit {0}) → ℕ → Type 0
HeapMoved c m (done u) d = d ≡ m
HeapMoved c m (overflowed u) d = ⊥
HeapMoved c m (refused k) d = (k ≡ 7) × (d ≡ c) × (heap_asks c m ≡ true)

-- by the test 'no capacity is so large': such a request is refused
abbrev pub HeapRegrownIf : Bool → ℕ → ℕ → Outcome (Unit {0}) → ℕ → Type 0
HeapRegrownIf true c m a d = (a ≡ refused 7) × (d ≡ c)
HeapRegrownIf false c m a d = HeapMoved c m a d

abbrev pub HeapRegrown : ℕ → ℕ → ℕ → Outcome (Unit {0}) → ℕ → Type 0
HeapRegrown c n r a d = HeapRegrownIf (nat_lt 4294967295 r) c (heap_grown c n r) a d

-- what is made of a request: an empty stack is reallocated to it
abbrev pub HeapMade : {U A : Type 0} → ℕ → Result (HeapStack U A) ReallocationError → Type 0
HeapMade r (Ok s) = (heap_list s ≡ []) × HeapRegrown 0 0 r (done tt) (heap_room s)
HeapMade r (Err e) = HeapRegrown 0 0 r (of_reallocation (Err e)) 0

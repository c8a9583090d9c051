use Rattle.std.proofs.Common.{◌≡◌, take}
use Rattle.heap_stack.proofs.heap.copy_slots.Given as goal

abbrev pub invariant-loop-i : goal.invariant-loop-i
invariant-loop-i g l = (l.to.slots ≡ take l.i l.from.slots) × (l.to.room ≡ l.initial.to.room) × (l.to.from ≡ l.initial.to.from)

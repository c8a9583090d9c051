use Rattle.std.proofs.Common.{arith}
use Rattle.heap_stack.proofs.heap.HeapStackNonZeroInxGenericStack.clear.Goals as goal

pub invariant_of-self : goal.invariant_of-self
invariant_of-self g c = let s = c.args.self.now in record { within = omega arith; room_of_block = s.room_of_block; small = s.small; heap_of_block = s.heap_of_block }

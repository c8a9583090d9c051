-- The heap stack keeps the laws.
use Rattle.std.specs.Prelude.{None}
use Rattle.std.proofs.Common.{arith, length-take}
use Rattle.stack.specs.Laws.{Laws}
use Rattle.heap_stack.specs.Heap.{heap_list, heap_room, HeapRegrown}
use Rattle.heap_stack.specs.declared.heap.HeapStack.{HeapStack}

pub heap_laws : {U A : Type 0} → Laws {Self = HeapStack U A} heap_list heap_room (λ c. c) (λ c. None) HeapRegrown
heap_laws = record {
  fits = λ s. simp length-take (omega arith);
  small = λ s. omega arith;
  under = λ s. tt;
  unchanged = λ c d n r k h. grind arith;
  granted = λ c d n r le h. grind arith;
  beyond = λ c d n r h. grind arith;
  within = λ c d n r a h e. cc;
}

use Rattle.std.proofs.Common.{◌≡◌, List, ◌++◌, length}
use Rattle.std.specs.Slice.Iter.{chunks_mut_rest, chunks_mut_size}
use Rattle.numbering.specs.declared.generation.SeasonGen.{SeasonGen}
use Rattle.kinds.specs.declared.slot.DirectSlot.{DirectSlot}
use Rattle.numbering.specs.Pointers.{Pointer}
use Rattle.stack.specs.declared.fixed.FixedStack.{FixedStack}
use Rattle.trails.specs.Reports.{Opened}
use Rattle.trails.proofs.directories.open_directories.Given as goal

abbrev pub invariant-loop-part : goal.invariant-loop-part
invariant-loop-part l = (chunks_mut_size l.part-iterator ≡ 256) × ((ds : List (FixedStack (DirectSlot SeasonGen Pointer))) → Opened (length (chunks_mut_rest l.part-iterator)) ds → Opened (length l.fn.slots) (l.directories.items ++ ds))

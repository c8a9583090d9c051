-- A reference to a block is made of a borrow of it. Assumes `Logic`.
use mathlib.Core.List.{[], ◌++◌}
use base.Fml.{Incl-trans}
use contract.BorrowLft.{meet_⊑_left}
use denote.RattleType.{RattleType}
use denote.Param.Laws.{Laws}
use denote.Param.Shared.{copy_shared}
use denote.Struct.Field.{RawPtr-field}
use denote.Struct.Laws.{RawPtr-copy, field_copy}
use denote.Struct.Lending.{of_Lends}
use Rattle.std.specs.contracts.marker.PhantomData as marker
use Rattle.std.specs.declared.alloc.Allocator.{Ghosts}
use Rattle.heap_block.specs.contracts.block.Block as C
use Rattle.heap_block.proofs.block.Block.TheLaw.Statement.{statement}
use Rattle.heap_block.proofs.Sharing.{block_laws, lends_block}

pub shares : (R B : RattleType) (g : Ghosts B.Denot) (L : Laws R) (K : Laws B) → statement R B g L K
shares R B g L K = of_Lends (C.struct R B g) (C.the_codes R.Denot B.Denot R.coded B.coded (marker.the_row B).coded) (C.the_heap R B g) (C.the_lent R B g)
    (λ d p. block_laws R L.shr_laws d.start d.room d.slots) (copy_shared RawPtr-field RawPtr-copy, (copy_shared (marker.the_field B) (field_copy (marker.the_type B) tt), tt))
    (λ M 𝓤 𝓛 d p. lends_block 𝓛 (C.the_row R B g).lives R L (Incl-trans (meet_⊑_left (R.lives ++ (B.lives ++ [])) _) (meet_⊑_left R.lives (B.lives ++ []))) (g.dealloc_token d.from) d.start d.room d.slots)

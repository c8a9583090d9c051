-- The slab stack keeps the laws.
use Rattle.std.specs.Prelude.{ℕ, None}
use Rattle.std.proofs.Common.{arith, length-take}
use Rattle.stack.specs.Laws.{Laws}
use Rattle.stack.specs.declared.generic.NonZeroInxGenericStack.{Ghosts}
use Rattle.slab_stack.specs.Slab.{slab_list, slab_config, SlabRegrown}
use Rattle.slab_stack.specs.declared.slab.SlabStack.{SlabStack}

pub slab_laws : {U : Type 0} → Laws {Self = SlabStack U} slab_list slab_config (λ c. c.0) (λ c. None) SlabRegrown
slab_laws = record {
  fits = λ s. simp length-take (omega arith);
  small = λ s. omega arith;
  under = λ s. tt;
  unchanged = λ c d n r k h. grind arith;
  granted = λ c d n r le h. grind arith;
  beyond = λ c d n r h. grind arith;
  within = λ c d n r a h e. cc;
}

-- all that the trait asks of it
abbrev pub slab_members : {U : Type 0} → Ghosts (SlabStack U) U
slab_members = record { Config = ℕ × ℕ; list = slab_list; config = slab_config; room = λ c. c.0; limit = λ c. None; regrown = SlabRegrown; laws = slab_laws }

-- The fixed stack keeps the laws.
use Rattle.std.specs.Prelude.{Some}
use Rattle.std.proofs.Common.{arith, length-take}
use Rattle.stack.specs.Laws.{Laws}
use Rattle.stack.specs.Slots.{counted}
use Rattle.stack.specs.Fixed.{fixed_list, fixed_lent, FixedRegrown}
use Rattle.stack.specs.declared.fixed.FixedStack.{FixedStack}

pub fixed_laws : {U : Type 0} → Laws {Self = FixedStack U} fixed_list fixed_lent counted (λ c. Some (counted c)) FixedRegrown
fixed_laws = record {
  fits = λ s. simp length-take (omega arith);
  small = λ s. omega arith;
  under = λ s. omega arith;
  unchanged = λ c d n r k h. h.0;
  granted = λ c d n r le h. grind arith;
  beyond = λ c d n r h. grind arith;
  within = λ c d n r a h e. grind arith;
}

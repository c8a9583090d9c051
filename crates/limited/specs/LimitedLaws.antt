-- A limited stack keeps the laws that the stack below keeps.
use Rattle.std.specs.Prelude.{ℕ, min, Some}
use Rattle.std.proofs.Common.{arith}
use Rattle.stack.specs.Laws.{Laws}
use Rattle.stack.specs.declared.generic.NonZeroInxGenericStack.{Ghosts}
use Rattle.limited.specs.Limited.{lower, limited_list, limited_config, LimitedRegrown}
use Rattle.limited.specs.declared.limited.LimitedStack.{LimitedStack}

module _ {S U : Type 0} (N : Ghosts S U) where
  pub limited_laws : Laws {Self = LimitedStack S U N} {U = U} {Config = N.Config × ℕ} limited_list limited_config (λ c. min c.1 (N.room c.0)) (λ c. Some (lower c.1 (N.limit c.0))) (LimitedRegrown N)
  limited_laws = record {
    fits = λ s. omega (arith, N.laws.fits);
    small = λ s. omega (arith, N.laws.small);
    under = λ s. grind (arith, N.laws.under);
    unchanged = λ c d n r e h. grind (arith, N.laws.unchanged);
    granted = λ c d n r le h. grind (arith, N.laws.granted);
    beyond = λ c d n r h. grind (arith, N.laws.beyond);
    within = λ c d n r a h e. grind (arith, N.laws.within);
  }

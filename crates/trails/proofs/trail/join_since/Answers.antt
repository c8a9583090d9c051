use Rattle.std.proofs.Common.{ap, ◌∙◌}
use Rattle.stack.specs.Fixed.{fixed_list}
use Rattle.trails.specs.Reports.{reports_in}
use Rattle.trails.specs.Today.{joined_on}
use Rattle.trails.proofs.Filled.{copy_is}
use Rattle.trails.proofs.trail.join_since.Goals as goal

pub returns-clause-slots : goal.returns-clause-slots
returns-clause-slots c = c.join_all.ensures.slots ∙ ap (λ d. joined_on d (reports_in c.args.rest.now)) (copy_is (fixed_list c.args.first.now) (fixed_list c.args.scratch.now) _ c.in_ok-clone_from_with.ensures.step)

use Rattle.std.proofs.Common.{sym, ◌∙◌}
use Rattle.text.proofs.Numbers.{no_more}
use Rattle.text.proofs.number.digits.Goals as goal

pub returns-in_err-n : goal.returns-in_err-n
returns-in_err-n c =
    rw c.from_residual.ensures (no_more c.loop-b.invariant c.loop-b-test.true (sym c.with_digit.ensures ∙ c.in_err-n.was))

use Rattle.std.proofs.Common.{sym, ◌∙◌}
use Rattle.std.proofs.lemmas.List.{take_rest}
use Rattle.text.proofs.Splits.{found, nowhere}
use Rattle.text.proofs.split.split_once.Goals as goal

pub returns-in_err-i-clause-parts : goal.returns-in_err-i-clause-parts
returns-in_err-i-clause-parts c =
    rw c.from_residual.ensures (nowhere _ _ (sym c.first_index.ensures ∙ c.in_err-i.was))

pub returns-clause-parts : goal.returns-clause-parts
returns-clause-parts c = rw take_rest (found _ _ c.in_ok-i.i (sym c.first_index.ensures ∙ c.in_ok-i.was)).0

use Rattle.std.proofs.Common.{rules, true}
use Rattle.std.proofs.lemmas.Result.{err_from_is_err_and}
use Rattle.passages.specs.State.{register_of}
use Rattle.trails.proofs.Copies.{own_copy}
use Rattle.trails.proofs.Filled.{one_more, no_more, kept_step}
use Rattle.trails.proofs.calls.compress.Goals as goal

pub returns-in_err-compress_into-clause-added : goal.returns-in_err-compress_into-clause-added
returns-in_err-compress_into-clause-added c =
    let p = err_from_is_err_and c.from_residual-in_err-compress_into.result c.from_residual-in_err-compress_into.ensures.1 in
    rw p.1 (no_more _ _ _)

pub returns-clause-step : goal.returns-clause-step
returns-clause-step c = kept_step true _ _ c.in_ok-compress_into.ensures.step

pub returns-clause-added : goal.returns-clause-added
returns-clause-added c = (_, one_more _ _ _ (search rules), c.in_ok-compress_into.ensures.holds, own_copy (λ p. record { inx = record { raw = p.slot }; generation = p.gen }) (register_of c.args.register.now).slots _ _ c.in_ok-compress_into.ensures.filled)

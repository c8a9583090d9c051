use Rattle.std.proofs.Common.{◌≡◌, rules}
use Rattle.answers.specs.Refusals.{of_verdict}
use Rattle.history.specs.Calls.{went}
use Rattle.directory.specs.Outcomes.{of_directory}
use Rattle.heap_season.proofs.Kept.{kept_step}
use Rattle.heap_season.proofs.calls.compress.Goals.{in-Ok, in-Err}
use Rattle.heap_season.proofs.calls.compress.Goals as goal

pub returns-clause-step : goal.returns-clause-step
returns-clause-step g c =
    let e : went (of_verdict c.match-compress_into.verdict) ≡ went (of_directory c.compress_into.result) = elim c.match-compress_into.branch [ in-Ok w ↦ search rules | in-Err w ↦ search rules ] in
    rw e (kept_step _ _ _ c.compress_into.ensures.step)

pub returns-clause-filled : goal.returns-clause-filled
returns-clause-filled g c =
    let e : went (of_verdict c.match-compress_into.verdict) ≡ went (of_directory c.compress_into.result) = elim c.match-compress_into.branch [ in-Ok w ↦ search rules | in-Err w ↦ search rules ] in
    rw e c.compress_into.ensures.filled

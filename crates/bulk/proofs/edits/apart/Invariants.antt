use Rattle.std.proofs.Common.{◌≡◌, drop}
use Rattle.history.specs.Calls.{other_than, distinct}
use Rattle.bulk.specs.Edits.{numbers}
use Rattle.bulk.proofs.edits.apart.Given as goal

abbrev pub invariant-loop-later : goal.invariant-loop-later
invariant-loop-later g l =
    let ns = numbers g.C.Citing.number in
    other_than l.n (ns (drop l.later-index l.later-items)) ≡ other_than l.n (ns l.later-items)

abbrev pub invariant-loop-place : goal.invariant-loop-place
invariant-loop-place g l =
    let ns = numbers g.C.Citing.number in
    distinct (ns (drop l.place l.items)) ≡ distinct (ns l.items)

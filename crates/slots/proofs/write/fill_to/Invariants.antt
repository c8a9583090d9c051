use Rattle.std.proofs.Common.{◌≡◌, ◌≤◌, max, length}
use Rattle.slots.specs.Records.{filled}
use Rattle.slots.proofs.write.fill_to.Given as goal

abbrev pub invariant-loop : goal.invariant-loop
invariant-loop g l =
    let s = g.S.NonZeroInxGenericStack in
    record {
      kept : s.config l.m ≡ s.config l.initial.m;
      slots : s.list l.m ≡ filled (s.list l.initial.m) l.counter;
      most : l.counter ≤ max l.n (length (s.list l.initial.m));
    }

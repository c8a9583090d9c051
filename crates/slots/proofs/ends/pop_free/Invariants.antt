use Rattle.std.proofs.Common.{◌≡◌, ◌+◌, length}
use Rattle.history.specs.Slots.{count, trimmed}
use Rattle.slots.proofs.ends.pop_free.Given as goal

abbrev pub invariant-loop-popped : goal.invariant-loop-popped
invariant-loop-popped g l =
    let s = g.S.NonZeroInxGenericStack in
    record {
      kept : s.config l.m ≡ s.config l.initial.m;
      slots : s.list l.m ≡ trimmed l.popped (s.list l.initial.m);
      gone : l.popped + length (s.list l.m) ≡ length (s.list l.initial.m);
      counted : count (s.list l.m) ≡ count (s.list l.initial.m);
    }

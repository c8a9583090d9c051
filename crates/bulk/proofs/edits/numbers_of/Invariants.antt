use Rattle.std.proofs.Common.{◌≡◌, length, take}
use Rattle.bulk.specs.Edits.{numbers}
use Rattle.bulk.proofs.edits.numbers_of.Given as goal

abbrev pub invariant-loop-place : goal.invariant-loop-place
invariant-loop-place g l =
    record {
      long : length l.numbers ≡ 8;
      written : take l.place l.numbers ≡ numbers g.C.Citing.number (take l.place l.items);
    }

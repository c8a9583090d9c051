use Rattle.std.proofs.Common.{rules, arith, ◌≡◌, ◌+◌, ◌-◌, ◌≤◌, nat_le, refl}
use Rattle.std.proofs.iter.runs.Sources.{ranges}
use Rattle.slots.proofs.Searches.{first_found}
use Rattle.slots.proofs.ends.record_above.Goals as goal

-- slot k is item k - 1 - n of the run, and `t` names that place for `search`
pub returns-clause-first : goal.returns-clause-first
returns-clause-first g c =
    let p = c.find_map.ensures.runs.0 in
    let s = g.S.NonZeroInxGenericStack.list c.args.m.now in
    let n = c.args.n in
    first_found (nat_le (n + 1)) s c.find_map.result (record {
      own = search rules;
      meant = search (rules, ranges);
      free = λ k l h w. let b : n + 1 ≤ k = grind arith in let t : p.at (k - 1 - n) ≡ p.at (k - 1 - n) = refl in search (rules, ranges, t, b);
    })

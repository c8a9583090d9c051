use Rattle.std.proofs.Common.{rules, ◌≡◌, ◌-◌, min, nat_le, length, refl}
use Rattle.std.proofs.iter.runs.Sources.{ranges}
use Rattle.slots.proofs.Searches.{last_found, stands_within}
use Rattle.slots.proofs.ends.record_below.Goals as goal

-- slot k is item min (n - 1) (length s) - k of the run, and `t` names that place for `search`
pub returns-clause-last : goal.returns-clause-last
returns-clause-last g c =
    let p = c.find_map.ensures.runs.0 in
    let s = g.S.NonZeroInxGenericStack.list c.args.m.now in
    let n = c.args.n in
    last_found (λ k. nat_le k (n - 1)) s c.find_map.result (record {
      own = search rules;
      meant = search (rules, ranges);
      free = λ k l h w. let t : p.at (min (n - 1) (length s) - k) ≡ p.at (min (n - 1) (length s) - k) = refl in search (rules, ranges, t);
    })

pub returns-clause-within : goal.returns-clause-within
returns-clause-within g c =
    let s = g.S.NonZeroInxGenericStack.list c.args.m.now in
    stands_within s c.find_map.result (search rules)

use Rattle.std.proofs.Common.{rules}
use Rattle.trails.proofs.Goings.{one_more, all_ran}
use Rattle.trails.proofs.seasons.add_season.Goals as goal

pub loop-line-preserved : goal.loop-line-preserved
loop-line-preserved c =
    let a = c.carry_out-answer.ensures in
    one_more {line = c.in-Some.line.now} c.carry_out-answer.result c.loop-line.invariant c.in-Some.ensures.steps c.parse.ensures.meaning a.chronicle
    (record { gets = a.answer; slots = a.slots; settings = a.settings; number = search rules; compressions = a.filled; rooms = a.rooms; notes = search rules })

pub returns : goal.returns
returns c = (_, all_ran c.loop-line.invariant c.in-None.ensures.steps.0)

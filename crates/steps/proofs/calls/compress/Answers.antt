use Rattle.std.proofs.Common.{rules, Ok, true, length}
use Rattle.history.specs.Mapped.{records, report}
use Rattle.bulk.specs.Brought.{last_slot}
use Rattle.stack.specs.Fixed.{fixed_list, fixed_lent}
use Rattle.passages.specs.State.{register_of}
use Rattle.steps.proofs.Compressed.{taken, then_holds, then_packed}
use Rattle.steps.proofs.calls.compress.Goals as goal

pub returns-clause-answer : goal.returns-clause-answer
returns-clause-answer c =
    let s = (register_of c.args.register.now).slots in
    let d = c.args.latest.now in
    let e = c.compress_into.new.directory in
    let t = taken (Ok (tt {0})) (length (fixed_list d)) (last_slot (records s)) (fixed_lent d) (fixed_lent e) c.in_ok-compress_into.ensures.grown in
    let p = then_packed (tt {0}) true s (register_of c.compress_into.new.arena).slots c.in_ok-compress_into.ensures.step in
    search (rules, t, p)

pub returns-clause-after : goal.returns-clause-after
returns-clause-after c =
    let s = (register_of c.args.register.now).slots in
    let d = c.args.latest.now in
    let e = c.compress_into.new.directory in
    let t = taken (Ok (tt {0})) (length (fixed_list d)) (last_slot (records s)) (fixed_lent d) (fixed_lent e) c.in_ok-compress_into.ensures.grown in
    let p = then_packed (tt {0}) true s (register_of c.compress_into.new.arena).slots c.in_ok-compress_into.ensures.step in
    let f = then_holds true (report (records s)) (fixed_list d) (fixed_list e) c.in_ok-compress_into.ensures.filled in
    search (rules, t, p, f)

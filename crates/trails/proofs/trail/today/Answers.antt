use Rattle.std.proofs.Common.{rules}
use Rattle.std.proofs.lemmas.List.{nil_from_length}
use Rattle.stack.specs.Fixed.{fixed_list}
use Rattle.passages.specs.State.{register_of}
use Rattle.trails.proofs.Today.{promised, lawful_now}
use Rattle.trails.proofs.trail.today.Goals as goal

pub returns-in_ok-join_since-in-Some-clause-promise : goal.returns-in_ok-join_since-in-Some-clause-promise
returns-in_ok-join_since-in-Some-clause-promise c = promised (register_of c.args.register.now).slots c.args.since.now c.in-Some.rest.now c.in-Some.first.now (fixed_list c.join_since.new.scratch) (search rules) c.in_ok-join_since-in-Some.ensures.slots c.find.ensures.promise

pub returns-in-None-clause-promise : goal.returns-in-None-clause-promise
returns-in-None-clause-promise c = lawful_now (register_of c.args.register.now).slots c.args.since.now (nil_from_length c.args.since.now (search rules))

use Rattle.std.proofs.Common.{rules, arith, refl}
use Rattle.std.proofs.lemmas.List.{drop_more}
use Rattle.trails.proofs.Steps.{one_step, last_text, last_end, all_text, all_end}
use Rattle.trails.proofs.trail.add_steps.Goals as goal

pub loop-n-init : goal.loop-n-init
loop-n-init c = record { text = refl; end = refl }

pub loop-n-preserved : goal.loop-n-preserved
loop-n-preserved c = one_step c.loop-n.invariant {d = c.index-directories-n.result} (search (rules, drop_more)) c.led_by-new.ensures (search rules) _ c.in-Some.is

pub returns-in_default-clause-text : goal.returns-in_default-clause-text
returns-in_default-clause-text c = last_text c.loop-n.invariant {d = c.index-directories-n.result} (search (rules, drop_more)) c.led_by-new.ensures (search rules) c.in_default.is

pub returns-in_default-clause-end : goal.returns-in_default-clause-end
returns-in_default-clause-end c = last_end c.loop-n.invariant {d = c.index-directories-n.result} (search (rules, drop_more)) c.led_by-new.ensures c.in_default.is

pub returns-clause-text : goal.returns-clause-text
returns-clause-text c = all_text c.loop-n.invariant (omega arith)

pub returns-clause-end : goal.returns-clause-end
returns-clause-end c = all_end c.loop-n.invariant (omega arith)

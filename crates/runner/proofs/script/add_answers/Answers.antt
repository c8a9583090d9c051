use Rattle.std.proofs.Common.{◌≡◌, ap, ◌∙◌}
use Rattle.runner.proofs.Loops.{none_yet, one_more, line_more, so_far, all_text, all_after}
use Rattle.runner.proofs.script.add_answers.Goals as goal
use Rattle.text.specs.Split.{lines_of}
use Rattle.text.specs.declared.split.Lines.{Lines}

pub loop-line-init : goal.loop-line-init
loop-line-init c =
    let all : lines_of c.into_iter-line-iterator.result.rest.now ≡ lines_of c.args.script.now = ap (λ (it : Lines). lines_of it.rest.now) c.into_iter-line-iterator.ensures.into_iter_gives ∙ c.new-line-items.ensures in
    rw all none_yet

pub loop-line-preserved : goal.loop-line-preserved
loop-line-preserved c = one_more c.loop-line.invariant {line = c.in-Some.line.now} c.in-Some.ensures.steps c.parse.ensures.meaning c.step-answer.ensures.answer c.step-answer.ensures.after c.in_ok-add_line.ensures

pub returns-in_err-add_line-clause-reached : goal.returns-in_err-add_line-clause-reached
returns-in_err-add_line-clause-reached c =
    line_more c.loop-line.invariant c.in-Some.line.now _ _ _ c.in-Some.ensures.steps c.parse.ensures.meaning c.step-answer.ensures.after

pub returns-clause-text : goal.returns-clause-text
returns-clause-text c = all_text c.loop-line.invariant c.in-None.ensures.steps.0

pub returns-clause-after : goal.returns-clause-after
returns-clause-after c = all_after c.loop-line.invariant c.in-None.ensures.steps.0

pub returns-clause-reached : goal.returns-clause-reached
returns-clause-reached c = so_far c.loop-line.invariant

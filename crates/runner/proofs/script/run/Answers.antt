use Rattle.std.proofs.Common.{◌++◌, sym, ap, ◌∙◌, subst, rules}
use Rattle.passages.specs.State.{State, state_of}
use Rattle.lines.specs.Script.{script_of}
use Rattle.runner.specs.Run.{lines_by, answers_to}
use Rattle.runner.specs.Led.{Led}
use Rattle.runner.proofs.Histories.{script_leads, none_reached, stopped_there}
use Rattle.runner.proofs.script.run.Goals as goal

pub returns : goal.returns
returns c =
    let old = state_of c.args.register.now c.args.latest.now in
    let script = script_of c.args.input.now in
    let e = c.in_ok-add_report.ensures in
    record {
      text = e.text ∙ ap (λ l. l ++ answers_to old script) c.in_ok-out.ensures.ok;
      after = e.after;
      led = subst (λ (st : State). Led old script st) (sym e.after) (script_leads old script);
      stopped = stopped_there old _ script c.add_report.ensures.reached;
    }

pub returns-in_err-out : goal.returns-in_err-out
returns-in_err-out c =
    let old = state_of c.args.register.now c.args.latest.now in
    let script = script_of c.args.input.now in
    record { text = search rules; after = search rules; led = search rules; stopped = stopped_there old old script (none_reached old (lines_by script)) }

pub returns-in_err-add_report : goal.returns-in_err-add_report
returns-in_err-add_report c =
    let old = state_of c.args.register.now c.args.latest.now in
    let script = script_of c.args.input.now in
    record { text = search rules; after = search rules; led = search rules; stopped = stopped_there old _ script c.add_report.ensures.reached }

use Rattle.std.proofs.Common.{rules, drop, ◌++◌, string_bytes, subst, ap, ◌∙◌}
use Rattle.passages.specs.State.{register_of}
use Rattle.stack.specs.Fixed.{fixed_lent}
use Rattle.trails.specs.Lines.{written}
use Rattle.trails.specs.Reports.{reports_in}
use Rattle.trails.specs.Today.{Answered}
use Rattle.trails.proofs.Trails.{behind, on_ok_map, ended, came}
use Rattle.trails.proofs.trail.add_trail.Goals as goal

pub returns-in_default-clause-told : goal.returns-in_default-clause-told
returns-in_default-clause-told c =
    let since = reports_in (drop c.args.citation.before c.args.directories.now) in
    ended (fixed_lent c.args.scratch.now) (register_of c.args.register.now).slots since c.args.citation (string_bytes c.args.out.now) _ _ c.in_ok-writeln.ensures.bytes c.in_ok-at.ensures.text (search rules)

pub returns-clause-told : goal.returns-clause-told
returns-clause-told c =
    let s = (register_of c.args.register.now).slots in
    let ds = c.args.directories.now in
    let cut = behind c.args.citation.before c.min.result ds (search rules) in
    let a = subst (λ xs. Answered (fixed_lent c.args.scratch.now) s (reports_in xs) c.args.citation.pointer c.today-answer.result) cut c.today-answer.ensures.answer in
    on_ok_map c.writeln-2.result (λ w. came (fixed_lent c.args.scratch.now) s (reports_in (drop c.args.citation.before ds)) c.args.citation (string_bytes c.args.out.now) _ _ c.in_ok-writeln.ensures.bytes c.in_ok-at.ensures.text c.in-Some.at c.today-answer.result (search rules) a (w ∙ ap (λ l. string_bytes c.add_steps.new.out ++ written l) c.today_line.ensures)) c.writeln-2.ensures.bytes

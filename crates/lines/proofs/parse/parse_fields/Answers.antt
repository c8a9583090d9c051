use Rattle.std.proofs.Common.{sym, ◌∙◌, ap}
use Rattle.std.specs.Option.{ok_or}
use Rattle.std.proofs.lemmas.Result.{err_from_is_err_and}
use Rattle.text.specs.Fields.{four_in}
use Rattle.lines.proofs.Fields.{all_read, value_unfit}
use Rattle.lines.specs.declared.error.LineError.TheVariants.{Unfit}
use Rattle.lines.proofs.parse.parse_fields.Goals as goal

pub returns-in_err-value : goal.returns-in_err-value
returns-in_err-value c =
    let p = err_from_is_err_and c.from_residual-in_err-value.result c.from_residual-in_err-value.ensures.1 in
    rw (p.1, p.2) (sym (value_unfit (four_in c.args.fields) (sym c.try_from.ensures ∙ c.in_ok-verb.was) (sym c.read_slot.ensures ∙ c.in_ok-slot.was) (sym c.read_field.ensures.reads ∙ c.in_ok-generation.was) (sym c.read_field-2.ensures.reads ∙ c.in_err-value.was)))

pub returns : goal.returns
returns c =
    c.ok_or.ensures.value
    ∙ ap (λ o. ok_or o Unfit) c.call_of.ensures
    ∙ sym (all_read (four_in c.args.fields) (sym c.try_from.ensures ∙ c.in_ok-verb.was) (sym c.read_slot.ensures ∙ c.in_ok-slot.was) (sym c.read_field.ensures.reads ∙ c.in_ok-generation.was) (sym c.read_field-2.ensures.reads ∙ c.in_ok-value.was))

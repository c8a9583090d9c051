-- A line's four fields, as the code holds them.
use Rattle.std.specs.Prelude.{Some, None, Option}
use Rattle.text.specs.Split.{Four}
use Rattle.text.specs.declared.split.Fields.{Fields}

abbrev pub four_in : Fields → Four
four_in f = record { call = f.call.now; slot = f.slot.now; generation = f.generation.now; value = f.value.now }

abbrev pub four_in_some : Option Fields → Option Four
four_in_some (Some f) = Some (four_in f)
four_in_some None = None

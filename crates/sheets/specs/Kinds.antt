-- The numbering of the lines of a register book.
use Rattle.std.specs.Prelude.{ℕ, ◌+◌, ◌-◌, ◌*◌, ◌/◌, ◌%◌, cond, ◌&&◌, Some, None, Option, nat_lt}
use Rattle.kinds.specs.Places.{in_range}
use Rattle.sheets.specs.declared.index.SheetInx.{SheetInx}

-- 200 lines to a sheet, 40 sheets
abbrev pub sheet_number : SheetInx → Option ℕ
sheet_number i = cond (nat_lt i.sheet 40 && in_range i.line 200) (Some (200 * i.sheet + i.line)) None

abbrev pub sheet_index : ℕ → SheetInx
sheet_index n = record { sheet = (n - 1) / 200; line = (n - 1) % 200 + 1 }

-- All that is made of a season.
use Rattle.std.specs.Prelude.{◌≡◌, ℕ, List, [], ◌++◌, Some, None, Option}
use Rattle.answers.specs.declared.refusal.Refusal.TheVariants.{NotAScript}
use Rattle.history.specs.Slots.{count}
use Rattle.numbering.specs.declared.generation.SeasonGen.{SeasonGen}
use Rattle.kinds.specs.declared.slot.DirectSlot.{DirectSlot}
use Rattle.numbering.specs.Pointers.{Pointer}
use Rattle.passages.specs.State.{RegisterState}
use Rattle.stack.specs.declared.fixed.FixedStack.{FixedStack}
use Rattle.trails.specs.Chronicle.{Point, start, Ran}
use Rattle.trails.specs.Lines.{written}
use Rattle.trails.specs.Reports.{reports_in, rooms_left}
use Rattle.trails.specs.Today.{AllTold}
use Rattle.trails.specs.declared.line.Line.TheVariants.{NoSeason, Totals}

-- The lines are carried out, with directories left that have these rooms, and their refusals written; then come the totals, and the trails of the citations by the
-- directories of the season's compressions.
pub record Whole (lines : List (List ℕ)) (rooms : List ℕ) (room : ℕ) (ds : List (FixedStack (DirectSlot SeasonGen Pointer))) (st en : RegisterState) (old new : List ℕ) : Type 0 where
  pub last : Point
  pub ran : Ran lines (reports_in ds) (start rooms st old) last
  pub register : last.register ≡ en
  pub told : AllTold room en.slots ds last.citations (last.text ++ written (Totals last.compressions (count en.slots))) new

-- of an input that is no season, only that is written, and nothing changes
abbrev pub WholeOf : Option (List (List ℕ)) → ℕ → (ds es : List (FixedStack (DirectSlot SeasonGen Pointer))) → (st en : RegisterState) → List ℕ → Type 0
WholeOf (Some lines) room ds es st en text = Whole lines (rooms_left 0 ds) room es st en [] text
WholeOf None room ds es st en text = (en ≡ st) × (es ≡ ds) × (text ≡ written (NoSeason NotAScript))

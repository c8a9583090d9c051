-- A compression whose mapper keeps the values.
use Rattle.std.proofs.Common.{ℕ, Bool, cond, refl, ap, ◌∙◌}
use Rattle.bulk.specs.Given.{given}
use Rattle.bulk.proofs.Kept.{given_kept}
use Rattle.history.specs.Calls.{compress, Step}
use Rattle.history.specs.Mapped.{records, moving, packed, kept}
use Rattle.history.specs.Slots.{Slots}
use Rattle.numbering.specs.Kinds.{season_alike}
use Rattle.numbering.specs.declared.generation.SeasonGen.{SeasonGen}
use Rattle.numbering.specs.declared.index.ShortInx.{ShortInx}
use Rattle.numbering.specs.Pointers.{Pointer}

pub kept_step : (b : Bool) (s t : Slots SeasonGen ℕ) → Step season_alike (record { call = compress (given {W = Unit {0}} {P = Pointer} (λ w p q v. w) (λ w p q v. v) (λ n. record { raw = n }) (λ i g. record { inx = i; generation = g }) tt); accepted = b }) s t → Step season_alike (record { call = compress kept; accepted = b }) s t
kept_step b s t h = record {
  asked = λ e. refl;
  slots = h.slots ∙ ap (λ vs. cond b (packed vs (records s)) s) (given_kept {W = Unit {0}} {I = ShortInx} {P = Pointer} (λ n. record { raw = n }) (λ i g. record { inx = i; generation = g }) (tt {0}) (moving 1 (records s)));
}

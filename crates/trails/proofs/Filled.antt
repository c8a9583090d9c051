-- The directories of the first compressions, as one more is filled.
use Rattle.std.proofs.Common.{◌≡◌, ℕ, suc, ◌+◌, ◌<◌, Bool, true, cond, List, [], ◌∷◌, ◌++◌, length, slice_set, refl, ap, ◌∙◌}
use Rattle.std.proofs.lemmas.List.{map-append, take_more_set, take-set}
use Rattle.bulk.specs.Given.{given}
use Rattle.bulk.proofs.Kept.{given_kept}
use Rattle.bulk.specs.Brought.{brought}
use Rattle.history.specs.Calls.{bring, compress, Step}
use Rattle.history.specs.Directories.{Directory}
use Rattle.history.specs.Mapped.{stays, records, moving, packed, settle, kept}
use Rattle.history.specs.Slots.{Slots, Ptr, Held}
use Rattle.numbering.specs.Kinds.{season_alike}
use Rattle.numbering.specs.declared.generation.SeasonGen.{SeasonGen}
use Rattle.numbering.specs.declared.index.ShortInx.{ShortInx}
use Rattle.kinds.specs.declared.slot.DirectSlot.{DirectSlot}
use Rattle.stack.specs.Fixed.{fixed_list}
use Rattle.stack.specs.declared.fixed.FixedStack.{FixedStack}
use Rattle.numbering.specs.Pointers.{Pointer}
use Rattle.trails.specs.Reports.{reports_in, first_reports, copied}

pub one_more : (ds : List (FixedStack (DirectSlot SeasonGen Pointer))) (n : ℕ) (d : FixedStack (DirectSlot SeasonGen Pointer)) → n < length ds → first_reports (n + 1) (slice_set ds n d) ≡ first_reports n ds ++ (fixed_list d ∷ [])
one_more ds n d h = ap reports_in (take_more_set ds n d h) ∙ map-append (λ e. fixed_list e) _ (d ∷ [])

pub no_more : (ds : List (FixedStack (DirectSlot SeasonGen Pointer))) (n : ℕ) (d : FixedStack (DirectSlot SeasonGen Pointer)) → first_reports n (slice_set ds n d) ≡ first_reports n ds
no_more ds n d = ap reports_in (take-set ds n d)

-- the mapper that keeps values makes of a compression what keeping values makes of it
pub kept_step : (b : Bool) (s t : Slots SeasonGen ℕ) → Step season_alike (record { call = compress (given {W = Unit {0}} {P = Pointer} (λ w p q v. w) (λ w p q v. v) (λ n. record { raw = n }) (λ i g. record { inx = i; generation = g }) tt); accepted = b }) s t → Step season_alike (record { call = compress kept; accepted = b }) s t
kept_step b s t h = record {
  asked = λ e. refl;
  slots = h.slots ∙ ap (λ vs. cond b (packed vs (records s)) s) (given_kept {W = Unit {0}} {I = ShortInx} {P = Pointer} (λ n. record { raw = n }) (λ i g. record { inx = i; generation = g }) (tt {0}) (moving 1 (records s)));
}

-- and brings a directory's records as they are
brought_kept : (old new : Ptr SeasonGen → Pointer) (k : ℕ) (hs : List (Held SeasonGen Pointer)) → brought {W = Unit {0}} (λ w p q v. w) (λ w p q v. v) old new stays k tt hs ≡ hs
brought_kept old new k [] = refl
brought_kept old new k (h ∷ hs) = ap (λ l. h ∷ l) (brought_kept old new (suc k) hs)

abbrev made : Ptr SeasonGen → Pointer
made p = record { inx = record { raw = p.slot }; generation = p.gen }

pub copy_is : (d s t : Directory SeasonGen Pointer) → Step season_alike (record { call = bring (brought {W = Unit {0}} (λ w p q v. w) (λ w p q v. v) made made stays 1 tt (records d)); accepted = true }) s t → t ≡ copied d
copy_is d s t h = h.slots ∙ ap (settle []) (brought_kept made made 1 (records d))

-- A directory that a compression filled is its own copy: no slot stands behind its last record.
use Rattle.std.proofs.Common.{◌≡◌, ℕ, [], sym, ap, ◌∙◌}
use Rattle.directory.proofs.Reported.{report_rises}
use Rattle.history.specs.Calls.{Through}
use Rattle.history.specs.Directories.{Directory, filling, report_records}
use Rattle.history.specs.Mapped.{records, report, settle}
use Rattle.history.specs.Slots.{Slots, Ptr}
use Rattle.history.proofs.Fills.{filling_leaves, settled}
use Rattle.history.proofs.Moves.{records_rise}
use Rattle.numbering.specs.Kinds.{season_alike}
use Rattle.numbering.specs.Pointers.{Pointer}
use Rattle.numbering.specs.declared.generation.SeasonGen.{SeasonGen}
use Rattle.trails.specs.Reports.{copied}

pub own_copy : (point : Ptr SeasonGen → Pointer) (s : Slots SeasonGen ℕ) (d e : Directory SeasonGen Pointer) → Through season_alike d (filling point (report (records s))) e → copied e ≡ e
own_copy point s d e x =
    let is = filling_leaves season_alike point (report (records s)) d e x in
    let rises = report_rises point 0 1 (records s) (records_rise 0 s) in
    ap copied is ∙ ap (settle []) (settled (report_records point (report (records s))) rises) ∙ sym is

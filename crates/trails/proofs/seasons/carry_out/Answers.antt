use Rattle.std.proofs.Common.{rules, ◌≡◌, Ok, Some, sym, ap, refl}
use Rattle.history.specs.Calls as history
use Rattle.history.specs.Calls.{went}
use Rattle.numbering.specs.Pointers.{Pointer}
use Rattle.passages.specs.State.{short_view}
use Rattle.season.specs.declared.call.Call.TheVariants.{Insert, Remove, Edit, Compress}
use Rattle.trails.specs.Reports.{of_call}
use Rattle.trails.proofs.Chronicles.{call_more, compression_more, never_both, line_on}
use Rattle.trails.proofs.seasons.carry_out.Goals as goal

pub returns-in-Insert-clause-chronicle : goal.returns-in-Insert-clause-chronicle
returns-in-Insert-clause-chronicle c =
    let w : went (of_call c.map.result) ≡ went (of_call c.insert.result) = search rules in
    let l : c.args.line ≡ Ok (Insert c.in-Insert.slot c.in-Insert.generation c.in-Insert.value) = search rules in
    line_on _ _ _ _ _ l (ap (λ (p : Pointer). Some (history.insert (short_view p) c.in-Insert.value)) (sym c.pointer.ensures)) w (call_more _ c.insert.ensures.step (never_both _))

pub returns-in-Remove-clause-chronicle : goal.returns-in-Remove-clause-chronicle
returns-in-Remove-clause-chronicle c =
    let w : went (of_call c.map-in-Remove.result) ≡ went (of_call c.remove.result) = search rules in
    let l : c.args.line ≡ Ok (Remove c.in-Remove.slot c.in-Remove.generation) = search rules in
    line_on _ _ _ _ _ l (ap (λ (p : Pointer). Some (history.remove (history.pointer (short_view p)))) (sym c.pointer-in-Remove.ensures)) w (call_more _ c.remove.ensures.step (never_both _))

pub returns-in-Edit-clause-chronicle : goal.returns-in-Edit-clause-chronicle
returns-in-Edit-clause-chronicle c =
    let w : went (of_call c.map-in-Edit.result) ≡ went (of_call c.edit.result) = search rules in
    let l : c.args.line ≡ Ok (Edit c.in-Edit.slot c.in-Edit.generation c.in-Edit.value) = search rules in
    line_on _ _ _ _ _ l (ap (λ (p : Pointer). Some (history.edit (history.pointer (short_view p)) c.in-Edit.value)) (sym c.pointer-in-Edit.ensures)) w (call_more _ c.edit.ensures.step (never_both _))

pub returns-in-Compress-clause-chronicle : goal.returns-in-Compress-clause-chronicle
returns-in-Compress-clause-chronicle c =
    let w : went (of_call c.map-in-Compress.result) ≡ went (of_call c.compress.result) = search rules in
    let l : c.args.line ≡ Ok Compress = search rules in
    line_on _ _ _ _ _ l refl w (compression_more _ c.compress.ensures.step c.compress.ensures.added)

use Rattle.directory.proofs.Reported.{filled_or_same, room_within}
use Rattle.directory.proofs.fill.fill.Goals as goal

pub returns-clause-filled : goal.returns-clause-filled
returns-clause-filled g c =
    let i = g.P.Inx.PtrInx in
    let p = g.P.Ptr in
    let l = g.met.P in
    let r = c.clone_from_with in
    (filled_or_same {V = g.row.V.Denot} i.largest i.indexed p.made p.mark l.Ptr.made_mark i.number p.index l.Ptr.made_index l.Inx.PtrInx.there _ (g.S.NonZeroInxGenericStack.list c.args.arena.now) _ _ _ _ c.new_pointers.ensures (room_within r.result _ _ r.ensures.whose) r.ensures.step).0

pub returns-clause-holds : goal.returns-clause-holds
returns-clause-holds g c =
    let i = g.P.Inx.PtrInx in
    let p = g.P.Ptr in
    let l = g.met.P in
    let r = c.clone_from_with in
    (filled_or_same {V = g.row.V.Denot} i.largest i.indexed p.made p.mark l.Ptr.made_mark i.number p.index l.Ptr.made_index l.Inx.PtrInx.there _ (g.S.NonZeroInxGenericStack.list c.args.arena.now) _ _ _ _ c.new_pointers.ensures (room_within r.result _ _ r.ensures.whose) r.ensures.step).1

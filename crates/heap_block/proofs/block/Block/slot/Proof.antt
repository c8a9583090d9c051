-- What a `&` to a block holds has a `&` to each slot. Assumes `Logic`.
use Rattle.std.proofs.Common.{◌≡◌, ℕ, ◌+◌, ◌*◌, ◌<◌, ◌≤◌, ◌^◌, List, [], ◌∷◌, refl, sym, subst, ◌∙◌, arith, w64}
use Rattle.std.specs.Prelude.{Some, slice_get}
use Rattle.std.proofs.lemmas.Option.{slice_get-get_or}
use Rattle.std.proofs.raw_atomic.Walks.{proved, leaves}
use Rattle.std.proofs.mem.Param.{El, R, el_x}
use Rattle.std.proofs.alloc.Calls.{Al}
use Rattle.std.proofs.ptr.Rows.{times_below, one_below}
use Rattle.std.proofs.slice.Lists.{hd}
use Rattle.std.proofs.VecSteps.Shapes.{after}
use Rattle.std.proofs.Words.{pointer_in, pointer_out}
use lib.ListN.{length, get_or}
use base.Fml.{ftrue, flft}
use base.Logic.{SProp, emp}
use contract.BorrowLft.{◌⊑◌}
use contract.Monad.{fact, fact_i}
use contract.Running.{tables}
use prog.Wp.{Env}
use mir.MapTy.{inst_fn}
use mir.Syntax.{named}
use mir.Val.{Val, vint, vptr}
use types.Kit.{‵, raw, ◌⊛◌, given, at_ret, ◌$◌, ◌∵◌, !, qed, by, move, keep, drop, use0, use1, learn, split, join, rewrite, fsplit, fjoin, feq_i, done}
use types.Run.{look, stop, fld, load, addr, size_lit, of_opd, bin, first, blocks, exec, returns, enter}
use types.ByLocal.{alloc_all, pass_all, free_all, look_at, get, through, sets, sets_last, env}
use denote.Builtin.{usize, RefOf}
use denote.Exit.{yes}
use denote.Memory.{hidden_shr}
use denote.Opens.{shr_dup}
use denote.Plain.{uint_vals, uint_Tells}
use denote.RattleType.{owns}
use denote.RawPtr.{Ptr, RawPtr, block_of, count_of, InBlock, at_block, in_a_block, ptr_row_laws}
use denote.Ref.{shr_vals, shr_Tells}
use denote.Signature.{plain, types_at}
use denote.Steps.{heard, nothing}
use denote.Triple.Entry.{Vals}
use denote.Triple.Walked.{Stays, walk_of, stay_dropped, Goes-dropped}
use Rattle.heap_block.specs.Places.{block_lends}
use Rattle.heap_block.proofs.Memory.{sz, args, Br}
use Rattle.heap_block.proofs.Lent.{shown, none_at_null, slot_lent}
use Rattle.heap_block.specs.contracts.block.Block.slot as F
use Rattle.heap_block.specs.contracts.block.Block.slot.Key.{name as key}
use Rattle.heap_block.proofs.block.Block.slot.Statement.{statement}
use Rattle.heap_block.proofs.block.Block.slot.Code as code

pub slot_spec : {M : Type 1} → statement M
slot_spec 𝓤 𝓛 𝓜 𝓡 wired X W LX LW g d dd met md =
    let E : El = record { row = X; laws = LX } in let Z : Al = record { row = W; laws = LW; g = g; d = d; drops = dd } in
    let T = F.ended X W g d dd in let c = F.clauses X W g d dd 𝓛 𝓜.mem 𝓡.returns in let function = inst_fn (args E Z) code.function in
    let 𝓣 = tables 𝓤 𝓛.H 𝓜 𝓡 𝓡.env in
    let self_dropped = stay_dropped (RefOf (0 ∷ []) tt (plain (λ _. Br E Z)) (λ _. tt)) yes in
    let stayed : Stays T.signature.params T.kept = (self_dropped, (stay_dropped (plain (λ _. usize)) yes, tt)) in
    proved 𝓛 T stayed c 𝓜 𝓡 (Goes-dropped 𝓛 3 (RefOf (0 ∷ []) tt (plain (λ _. Br E Z)) (λ _. tt)) yes (λ κs x f. refl), (Goes-dropped 𝓛 3 (plain (λ _. usize)) yes (λ κs x f. refl), tt))
    (key (args E Z)) function (code.unfolded 𝓤 𝓛.H 𝓜 𝓡 wired (X, (W, tt)) d dd)
    (λ κs. (shr_vals, (uint_vals w64, tt))) (λ κs. (shr_Tells (named 0) κs.0 (Br E Z), (uint_Tells w64, tt))) (λ κs qs bounds a none are.
    let κ = κs.0 in let κ₁ = κs.1.0 in let κ₂ = κs.1.1.0 in
    let vss : Vals T.signature κs = (shr_vals a.0, (uint_vals w64 a.1.0, tt)) in let y : (walk_of 𝓛 T stayed c).Ghost = ((κs, qs, bounds, a, vss), none) in
    let Post : Val → SProp 𝓤 = (walk_of 𝓛 T stayed c).post y in
    let rb : ℕ = a.0.ref_ptr.0 in let ro : ℕ = a.0.ref_ptr.1 in let h : (Br E Z).Denot = a.0.now in let i : ℕ = a.1.0 in
    let s : ℕ = sz E in let n : ℕ = h.room in let start : Ptr = h.start in
    let Word = hidden_shr RawPtr κ start rb (ro + 0) in
    qed 𝓛 (((‵ (flft κ qs.0) ⊛ ‵ (flft κ₁ qs.1.0) ⊛ ‵ (flft κ₂ qs.1.1.0) ⊛ ‵ ftrue) ⊛ ‵ (owns (types_at T.signature.params κs) a vss))
    ∷ (raw (fact 𝓤 (κ₁ ⊑ X.lives)) ⊛ raw (fact 𝓤 (κ₂ ⊑ W.lives)) ⊛ raw (fact 𝓤 (i < length h.slots))) ∷ []) ∵
    move ! (1 ∷ []) $ split ! $ drop ! $ split ! $ drop ! $ heard ! (i < length h.slots) (λ le.
    let within : length h.slots ≤ n = h.within in let lt : i < n = omega arith in let pos : 0 < n = omega arith in
    let any : el_x E = hd h.slots (omega arith) in let x : el_x E = get_or h.slots i any in let Says : Type 0 = slice_get h.slots i ≡ Some x in
    split ! $ split ! $ move ! (2 ∷ []) $ fsplit ! $ fsplit ! $ drop ! $
    use1 𝓛 (‵ Word ⊛ ‵ (block_lends (R E) start n h.slots κ)) (shown E Z 𝓛 κ h rb ro) $ split ! $ move ! (1 ∷ []) $
    in_a_block ! start (λ p. block_lends (R E) p n h.slots κ) (none_at_null E 𝓛 κ n h.slots pos) (λ b₀ o₀ e.
    let inside : InBlock start = subst InBlock (sym e) tt in let b : ℕ = block_of start in let o : ℕ = count_of start in
    rewrite ! 0 (λ (p : Ptr). ‵ (block_lends (R E) p n h.slots κ)) (sym e ∙ at_block start inside) refl $
    use1 𝓛 (given (n * s < 2 ^ 63) (‵ (hidden_shr (R E) κ x b (i * s + o)))) (slot_lent E 𝓛 κ b o n h.slots i any lt le) $ learn ! (λ fit.
    let small : s < 2 ^ 63 = one_below n s (2 ^ 63) pos fit in let tiny : s < 2 ^ 64 = omega arith in
    let part : i * s < 2 ^ 63 = times_below i n s (2 ^ 63) (omega arith) fit in let far : i * s < 2 ^ 64 = omega arith in
    -- [the `&` to x; where the block starts; the token; the other tokens]
    keep ! (1 ∷ 3 ∷ 4 ∷ 0 ∷ []) $
    enter ! 𝓣.C 𝓣.Λ function (vptr rb ro ∷ vint w64 i ∷ []) _ $ alloc_all ! (λ l. pass_all ! refl ((tt, tt), ((tt, record { fits = are.1.0.1 }), tt)) $
    let En : Env 𝓤 𝓛.H = env function.locals l in
    first ! $ blocks ! $
    pointer_in ! tt start inside rb (ro + 0) (qed 𝓛 (‵ Word ∷ []) ∵ shr_dup ! RawPtr ptr_row_laws start rb (ro + 0) κ $ done !) (λ q'.
    sets ! (of_opd ! (load ! (through ! refl (fld ! refl (stop !))) (look ! 1 refl))) refl (tt, tt) $
    pointer_out ! tt start inside rb (ro + 0) $
    sets ! (bin ! (get ! refl) (size_lit ! (record { fits = tiny })) (record { fits = far })) refl (tt, record { fits = far }) $
    sets ! (bin ! (get ! refl) (get ! refl) tt) refl (tt, tt) $ sets_last ! (addr ! (through ! refl (stop !))) refl (tt, tt) $
    exec ! 𝓣.C 𝓣.Λ En (after 1 function.body) (at_ret En Post) $ sets ! (of_opd ! (get ! refl)) refl (tt, tt) $
    returns ! (look_at ! 0 refl) $ free_all ! refl $
    -- [the token; where the block starts; the other tokens; the `&` to x]
    move ! (0 ∷ 2 ∷ []) $ join ! $ move ! (2 ∷ []) $ feq_i ! (List Val) (vptr b (i * s + o) ∷ []) (vptr b (i * s + o) ∷ []) refl $ fjoin ! $
    use0 𝓛 (raw (fact 𝓤 Says)) (fact_i 𝓤 Says (emp 𝓤) (slice_get-get_or h.slots i any le)) $
    nothing ! $ nothing ! $ fjoin ! $ nothing ! $ fjoin ! $ keep ! (3 ∷ 0 ∷ 2 ∷ 1 ∷ []) $
    by ! (leaves 𝓛 T stayed c y (vptr b (i * s + o)) (record { ref_ptr = (b, i * s + o); now = x }) (tt, (tt, tt)) (tt, (tt, tt)))))))))

-- All places are room, whatever lies there, and go back with the right to free them. Assumes `Logic`.
use Rattle.std.proofs.Common.{◌≡◌, ℕ, zero, suc, ◌*◌, ◌<◌, ◌^◌, List, [], ◌∷◌, ◌++◌, refl, sym, subst, ap, T, not, eqb, arith, lit<, w64}
use Rattle.std.proofs.raw_atomic.Walks.{leaves}
use Rattle.std.proofs.mem.Param.{El, R, elτ}
use Rattle.std.proofs.alloc.Calls.{Al, token, gives_key, Gives, at_gives, Gives-goes, Gives-Gives}
use Rattle.std.proofs.VecSteps.Shapes.{after}
use base.Fml.{Incl-trans, ftrue, froom, flft}
use base.Logic.{SProp, ent, id⊢}
use contract.BorrowLft.{◌⊑◌}
use contract.Monad.{fact}
use contract.Running.{Running, MachineTables, tables}
use prog.Capped.{capped_fits}
use prog.Memory.{align, capped}
use prog.Model.{Model}
use prog.Wp.{Env, WpFn}
use mir.MapTy.{inst_fn}
use mir.Syntax.{Fn, ty_unit, ty_array, ty_ptr}
use mir.Val.{Val, vunit, vint, vptr, has_ty, WT}
use seplogic.Ra.Ura.{Ura}
use types.Logic.{Logic}
use types.Kit.{Item, ⋆, ‵, raw, ◌⊛◌, given, later, learn, at_ret, ◌$◌, ◌∵◌, !, qed, by, move, keep, drop, use1, split, join, group, rewrite, fsplit, fsplit3, fjoin, feq_i, feq_l, suffices, await}
use types.Part.{whole, sub}
use types.Run.{stop, fld, lit, size_word, align_word, unit_lit, no_more, and_then, of_opd, bin, first, blocks, branches, skips, exec, returns, enter}
use types.ByLocal.{alloc_all, pass_all, free_all, look_at, get, get_in, is, sets, lands_last, env}
use denote.Builtin.{usize, RefOf}
use denote.Exit.{yes, no}
use denote.Memory.{lone}
use denote.RattleType.{owns}
use denote.RawPtr.{Ptr, block_ptr, null_ptr, ptr_val}
use denote.Signature.{plain, types_at}
use denote.Steps.{heard, nothing}
use denote.Triple.Call.{calls_at_last}
use denote.Triple.Clauses.{Clauses, Ended}
use denote.Triple.Statement.{Triple}
use denote.Triple.Table.{framed}
use denote.Triple.Walked.{Stays, walk_of, stay_dropped}
use Rattle.heap_block.specs.Places.{block_owns}
use Rattle.heap_block.proofs.Memory.{sz, uncapped, block_ty, block_size, block_align, all_room, block_val, args, P, Br, block_at, had}
use Rattle.heap_block.specs.contracts.block.Block.release as F
use Rattle.heap_block.proofs.block.Block.release.Code as code

positive : (n : ℕ) → T (not (eqb n 0)) → 0 < n
positive zero t = absurd t
positive (suc n) t = omega arith

ptr_typed : (p : Ptr) → T (has_ty ty_ptr (ptr_val p)) × WT (ptr_val p)
ptr_typed (block_ptr b o) = (tt, tt)
ptr_typed null_ptr = (tt, record { fits = lit< tt })

block_typed : (E : El) (Z : Al) (p : Ptr) → T (has_ty (lone (Br E Z).mir) (block_val p)) × WT (block_val p)
block_typed E Z (block_ptr b o) = (tt, (tt, (tt, tt)))
block_typed E Z null_ptr = (tt, (record { fits = lit< tt }, (tt, tt)))

module _ (E : El) (Z : Al) {M : Type 1} {𝓤 : Ura M} (𝓛 : Logic 𝓤) (𝓜 : Model 𝓤 𝓛.H) (𝓡 : Running 𝓤 𝓛.H 𝓜) where
  abbrev pub function : Fn
  function = inst_fn (args E Z) code.function

  abbrev pub Ends : Ended
  Ends = F.ended E.row Z.row Z.g Z.d Z.drops

  abbrev pub c : Clauses 𝓤 Ends
  c = F.clauses E.row Z.row Z.g Z.d Z.drops 𝓛 𝓜.mem 𝓡.returns

  abbrev pub stayed : Stays Ends.signature.params Ends.kept
  stayed = (stay_dropped (plain (λ _. Br E Z)) no, (stay_dropped (RefOf (0 ∷ []) tt (plain (λ _. P E Z)) (λ _. tt)) yes, (stay_dropped (plain (λ _. usize)) yes, tt)))

  abbrev pub 𝓣 : MachineTables 𝓤 𝓛.H 𝓜
  𝓣 = tables 𝓤 𝓛.H 𝓜 𝓡 𝓡.env

  abbrev Bound : Type 0
  Bound = (walk_of 𝓛 Ends stayed c).Ghost

  abbrev pub Goes : Bound → Type 1
  Goes y = ent 𝓤 ((walk_of 𝓛 Ends stayed c).pre y) (WpFn 𝓤 𝓛.H 𝓣.C 𝓣.Λ function ((walk_of 𝓛 Ends stayed c).args y) ((walk_of 𝓛 Ends stayed c).post y))

  module _ (z : Bound) where
    abbrev others : Item 𝓤
    others = ‵ (flft z.0.0.1.0 z.0.1.1.0) ⊛ ‵ (flft z.0.0.1.1.0 z.0.1.1.1.0) ⊛ ‵ ftrue

    abbrev Post : Val → SProp 𝓤
    Post = (walk_of 𝓛 Ends stayed c).post z

    ends : ent 𝓤 (⋆ 𝓛 (‵ (flft z.0.0.0 z.0.1.0) ∷ others ∷ [])) (Post vunit)
    ends = qed 𝓛 (‵ (flft z.0.0.0 z.0.1.0) ∷ others ∷ []) ∵ join ! $ feq_i ! (List Val) (vunit ∷ []) (vunit ∷ []) refl $
        nothing ! $ nothing ! $ fjoin ! $ nothing ! $ fjoin ! $ nothing ! $ fjoin ! $ nothing ! $ keep ! (3 ∷ 1 ∷ 2 ∷ 0 ∷ []) $
        by ! (leaves 𝓛 Ends stayed c z vunit tt (tt, (tt, (tt, tt))) (tt, (tt, (tt, tt))))

    pub walk : Triple 𝓤 (𝓣.C (gives_key Z)) (Gives Z 𝓛 𝓜.mem 𝓡.returns) → z.0.4.1.1.0 ≡ vint w64 z.0.3.1.1.0 ∷ [] → z.0.3.1.1.0 < 2 ^ 64 → Goes z
    walk callee e₂ fn =
        let κ = z.0.0.0 in let κ₁ = z.0.0.1.0 in let κ₂ = z.0.0.1.1.0 in let q = z.0.1.0 in
        let h : (Br E Z).Denot = z.0.3.0 in let hp : ℕ × ℕ = z.0.3.1.0.ref_ptr in let heap : Z.row.Denot = z.0.3.1.0.now in let n : ℕ = z.0.3.1.1.0 in let vss = z.0.4 in
        let s : ℕ = sz E in let al : ℕ = capped (align (elτ E)) in let τs = ty_array (elτ E) n in
        let Asks : Type 0 = (h.room ≡ n) × (h.from ≡ heap) in
        qed 𝓛 (((‵ (flft κ q) ⊛ others) ⊛ ‵ (owns (types_at Ends.signature.params z.0.0) z.0.3 vss))
        ∷ (raw (fact 𝓤 (κ₁ ⊑ E.row.lives)) ⊛ raw (fact 𝓤 (κ₂ ⊑ Z.row.lives)) ⊛ raw (fact 𝓤 Asks)) ∷ []) ∵
        move ! (1 ∷ []) $ split ! $ drop ! $ split ! $ heard ! (κ₂ ⊑ Z.row.lives) (λ outlived. heard ! Asks (λ asked.
        split ! $ split ! $ move ! (2 ∷ []) $ fsplit3 ! $ had E Z ! h vss.0 (λ e₀.
        rewrite ! 0 (λ (k : ℕ). ‵ (block_owns (R E) (token Z h.from) h.start k h.slots)) asked.0 refl $
        rewrite ! 0 (λ (w : Z.row.Denot). ‵ (block_owns (R E) (token Z w) h.start n h.slots)) asked.1 refl $
        move ! (1 ∷ []) $ fsplit ! $ feq_l ! (λ e₁. keep ! (1 ∷ 0 ∷ 3 ∷ 4 ∷ []) $
        -- [what the block owns; the allocator; the token; the other tokens]
        let us : List Val = block_val h.start ∷ vptr hp.0 hp.1 ∷ vint w64 n ∷ [] in
        let Run : List Val → SProp 𝓤 = λ ws. WpFn 𝓤 𝓛.H 𝓣.C 𝓣.Λ function ws Post in
        suffices ! (Run us) (subst (λ (ws : List Val). ent 𝓤 (Run us) (Run ws)) (sym (λ k. e₀ k ++ (e₁ k ++ (e₂ k ++ [])))) (id⊢ 𝓤 (Run us))) $
        enter ! 𝓣.C 𝓣.Λ function us Post $ alloc_all ! (λ l. pass_all ! refl (block_typed E Z h.start, ((tt, tt), ((tt, record { fits = fn }), tt))) $
        let En : Env 𝓤 𝓛.H = env function.locals l in
        sets ! (of_opd ! (get_in ! (fld ! refl (stop !)) (sub ! 0 refl (whole !)))) refl (ptr_typed h.start) $
        sets ! (bin ! (get ! refl) (lit ! tt) tt) refl (tt, tt) $
        first ! $ branches ! (get ! refl)
        (λ some. let pos : 0 < n = positive n some in
        block_at E (token Z heap) ! h.start n h.slots pos (λ b o at_b fit. let bytes : n * s < 2 ^ 64 = omega arith in
        let gives : (Gives Z 𝓛 𝓜.mem 𝓡.returns).Ghost = at_gives Z 𝓛 𝓜.mem 𝓡.returns κ q hp heap b o (n * s) al (block_ty E n) in
        use1 𝓛 (‵ (froom τs b o)) (all_room E 𝓛 b n h.slots o) $ use1 𝓛 (‵ (froom (block_ty E n) b o)) (𝓛.laws.room-raw τs b o) $
        blocks ! $ sets ! (is ! (of_opd ! (get ! refl)) (ap ptr_val at_b)) refl (tt, tt) $
        sets ! (is ! (bin ! (get ! refl) (size_word !) (record { fits = subst (λ (k : ℕ). k < 2 ^ 64) (sym (uncapped n s pos bytes)) bytes })) (ap (vint w64) (uncapped n s pos bytes))) refl (tt, record { fits = bytes }) $
        group ! 4 $ use1 𝓛 (raw ((Gives Z 𝓛 𝓜.mem 𝓡.returns).pre gives))
        (Gives-goes Z 𝓛 𝓜.mem 𝓡.returns κ q hp heap (Incl-trans z.0.2.0 outlived) b o (n * s) al (block_ty E n) (block_size E n bytes) (block_align E n) bytes (capped_fits (align (elτ E)))) $
        calls_at_last ! (framed 𝓤 𝓛.H 𝓜 𝓣) (Gives Z 𝓛 𝓜.mem 𝓡.returns) callee gives (and_then ! (get ! refl) (and_then ! (get ! refl) (and_then ! (get ! refl) (and_then ! (align_word !) (no_more !))))) (λ v.
        use1 𝓛 (later (given (v ≡ vunit) (‵ (flft κ q)))) (Gives-Gives Z 𝓛 𝓜.mem 𝓡.returns κ q hp heap b o (n * s) al (block_ty E n) v) $ await ! tt $ learn ! (λ freed.
        lands_last ! refl (subst (λ (u : Val). T (has_ty ty_unit u) × WT u) (sym freed) (tt, tt)) $ exec ! 𝓣.C 𝓣.Λ En (after 3 function.body) (at_ret En Post) $
        sets ! (of_opd ! (unit_lit !)) refl (tt, tt) $ returns ! (look_at ! 0 refl) $ free_all ! refl $ by ! ends))))
        (λ none. skips ! $ exec ! 𝓣.C 𝓣.Λ En (after 3 function.body) (at_ret En Post) $
        sets ! (of_opd ! (unit_lit !)) refl (tt, tt) $ returns ! (look_at ! 0 refl) $ free_all ! refl $ keep ! (2 ∷ 3 ∷ []) $ by ! ends))))))

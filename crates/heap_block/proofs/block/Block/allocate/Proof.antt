-- The allocator's room is places with no slot. Assumes `Logic`.
use Rattle.std.proofs.Common.{◌≡◌, ℕ, true, false, ◌*◌, ◌<◌, ◌≤◌, ◌^◌, List, [], ◌∷◌, refl, sym, subst, ap, arith, lit<, w64, mul-le-mul, lt_of_le_of_lt}
use Rattle.std.specs.Prelude.{Ok, Err}
use Rattle.std.proofs.raw_atomic.Walks.{proved, leaves}
use Rattle.std.proofs.mem.Param.{El, R, elτ}
use Rattle.std.proofs.alloc.Calls.{Al, token, Answer-typed, Takes, at_takes, Answered, Takes-goes, Takes-gives, answers}
use Rattle.std.proofs.ResultValues.{ok_of, err_of}
use Rattle.std.proofs.VecSteps.Shapes.{after, head, arm_body}
use Rattle.std.specs.contracts.result.Result as RS
use Rattle.std.specs.contracts.alloc.AllocError as AE
use base.Fml.{Incl-trans, ftrue, froom, flft}
use base.Logic.{SProp, emp}
use contract.BorrowLft.{◌⊑◌}
use contract.Monad.{fact, fact_i}
use contract.Running.{MachineTables, tables}
use prog.Capped.{capped_fits}
use prog.Memory.{align, capped}
use prog.Wp.{Env, Wp, after_seq, at_return}
use mir.MapTy.{inst_fn}
use mir.Syntax.{Fn, Body, named, ty_array}
use mir.Val.{Val, vint, vptr, vstruct, vcons, vnil, WT}
use types.Kit.{Post as After, any_q, Item, ‵, raw, ◌⊛◌, later, at_ret, ◌$◌, ◌∵◌, !, qed, by, move, keep, drop, use0, use1, use2, split, join, fsplit, fjoin, await}
use types.Match.{live, vrt, in_variant}
use types.Part.{whole, agg}
use types.Run.{stop, fld, lit, size_word, align_word, no_more, and_then, of_opd, bin, first, switches_on, exec, returns, enter}
use types.ByLocal.{alloc_all, pass_all, free_all, look_at, get, get_in, get_tag, is, sets, sets_last, lands_as, env}
use denote.Builtin.{usize, RefOf}
use denote.Exit.{yes}
use denote.Laws.{Is}
use denote.Plain.{uint_vals, uint_Tells}
use denote.RattleType.{RattleType, owns}
use denote.RawPtr.{block_ptr}
use denote.Ref.{shr_vals, shr_Tells}
use denote.Signature.{plain, types_at}
use denote.Steps.{heard, nothing, owned}
use denote.Struct.Declared as Declared
use denote.Struct.Struct.{Struct, Struct-Makes}
use denote.Triple.Call.{calls_at}
use denote.Triple.Entry.{Vals}
use denote.Triple.Table.{framed}
use denote.Triple.Walked.{Stays, walk_of, stay_dropped, Goes-dropped}
use Rattle.heap_block.specs.Places.{places}
use Rattle.heap_block.proofs.Memory.{sz, uncapped, block_ty, block_size, block_align, of_room, block_val, args, P, Br, block_back, made}
use Rattle.heap_block.specs.contracts.block.Block.allocate as F
use Rattle.heap_block.specs.contracts.block.Block.allocate.Key.{name as key}
use Rattle.heap_block.proofs.block.Block.allocate.Statement.{statement}
use Rattle.heap_block.proofs.block.Block.allocate.Code as code

product_fits : (n s : ℕ) → n < 4294967296 → s < 2147483648 → n * s < 2 ^ 63
product_fits n s few small = let few' : n ≤ 4294967295 = omega arith in let small' : s ≤ 2147483648 = omega arith in lt_of_le_of_lt (mul-le-mul few' small') (lit< tt)

pub allocate_spec : {M : Type 1} → statement M
allocate_spec 𝓤 𝓛 𝓜 𝓡 wired X W LX LW g d dd met md =
    let E : El = record { row = X; laws = LX } in let Z : Al = record { row = W; laws = LW; g = g; d = d; drops = dd } in
    let T = F.ended X W g d dd in let c = F.clauses X W g d dd 𝓛 𝓜.mem 𝓡.returns in let function : Fn = inst_fn (args E Z) code.function in
    let 𝓣 : MachineTables 𝓤 𝓛.H 𝓜 = tables 𝓤 𝓛.H 𝓜 𝓡 𝓡.env in
    let stayed : Stays T.signature.params T.kept = (stay_dropped (RefOf (0 ∷ []) tt (plain (λ _. P E Z)) (λ _. tt)) yes, (stay_dropped (plain (λ _. usize)) yes, tt)) in
    proved 𝓛 T stayed c 𝓜 𝓡 (Goes-dropped 𝓛 3 (RefOf (0 ∷ []) tt (plain (λ _. P E Z)) (λ _. tt)) yes (λ κs x f. refl), (Goes-dropped 𝓛 3 (plain (λ _. usize)) yes (λ κs x f. refl), tt))
    (key (args E Z)) function (code.unfolded 𝓤 𝓛.H 𝓜 𝓡 wired (X, (W, tt)) d dd)
    (λ κs. (shr_vals, (uint_vals w64, tt))) (λ κs. (shr_Tells (named 0) κs.0 (P E Z), (uint_Tells w64, tt))) (λ κs qs bounds a none are.
    let κ = κs.0 in let κ₁ = κs.1.0 in let κ₂ = κs.1.1.0 in let q = qs.0 in
    let vss : Vals T.signature κs = (shr_vals a.0, (uint_vals w64 a.1.0, tt)) in let y : (walk_of 𝓛 T stayed c).Ghost = ((κs, qs, bounds, a, vss), none) in
    let Post : Val → SProp 𝓤 = (walk_of 𝓛 T stayed c).post y in let Result : RattleType = RS.the_row (Br E Z) AE.the_row in
    let hp : ℕ × ℕ = a.0.ref_ptr in let heap : W.Denot = a.0.now in let n : ℕ = a.1.0 in let fn : n < 2 ^ 64 = are.1.0.1 in
    let s : ℕ = sz E in let al : ℕ = capped (align (elτ E)) in
    let Asks : Type 0 = (0 < n) × (n < 4294967296) × (s < 2147483648) in
    let Left : List (Item 𝓤) = ‵ (flft κ q) ∷ (‵ (flft κ₁ qs.1.0) ⊛ ‵ (flft κ₂ qs.1.1.0) ⊛ ‵ ftrue) ∷ [] in
    qed 𝓛 (((‵ (flft κ q) ⊛ ‵ (flft κ₁ qs.1.0) ⊛ ‵ (flft κ₂ qs.1.1.0) ⊛ ‵ ftrue) ⊛ ‵ (owns (types_at T.signature.params κs) a vss))
    ∷ (raw (fact 𝓤 (κ₁ ⊑ X.lives)) ⊛ raw (fact 𝓤 (κ₂ ⊑ W.lives)) ⊛ raw (fact 𝓤 Asks)) ∷ []) ∵
    move ! (1 ∷ []) $ split ! $ drop ! $ split ! $ heard ! (κ₂ ⊑ W.lives) (λ outlived. heard ! Asks (λ asked.
    let pos : 0 < n = asked.0 in let fit : n * s < 2 ^ 63 = product_fits n s asked.1 asked.2 in let bytes : n * s < 2 ^ 64 = omega arith in
    split ! $ split ! $ move ! (2 ∷ []) $ fsplit ! $ fsplit ! $ keep ! (1 ∷ 3 ∷ 4 ∷ []) $
    -- [the allocator; the token; the other tokens]
    enter ! 𝓣.C 𝓣.Λ function (vptr hp.0 hp.1 ∷ vint w64 n ∷ []) _ $ alloc_all ! (λ l. pass_all ! refl ((tt, tt), ((tt, record { fits = fn }), tt)) $
    let En : Env 𝓤 𝓛.H = env function.locals l in
    let both : Body = head (after 2 function.body) in
    let Then : After 𝓤 𝓛.H = any_q (after_seq 𝓤 𝓛.H (Wp 𝓤 𝓛.H 𝓣.C 𝓣.Λ En (after 3 function.body) (at_return 𝓤 𝓛.H En Post)) (at_return 𝓤 𝓛.H En Post)) in
    let asks : (Takes Z 𝓛 𝓜.mem 𝓡.returns).Ghost = at_takes Z 𝓛 𝓜.mem 𝓡.returns κ q hp heap (n * s) al (block_ty E n) in
    sets ! (is ! (bin ! (get ! refl) (size_word !) (record { fits = subst (λ (k : ℕ). k < 2 ^ 64) (sym (uncapped n s pos bytes)) bytes })) (ap (vint w64) (uncapped n s pos bytes))) refl (tt, record { fits = bytes }) $
    use2 𝓛 (raw ((Takes Z 𝓛 𝓜.mem 𝓡.returns).pre asks))
    (Takes-goes Z 𝓛 𝓜.mem 𝓡.returns κ q hp heap (Incl-trans bounds.0 outlived) (n * s) al (block_ty E n) (block_size E n bytes) (block_align E n) bytes (capped_fits (align (elτ E)))) $
    calls_at ! (framed 𝓤 𝓛.H 𝓜 𝓣) (Takes Z 𝓛 𝓜.mem 𝓡.returns) (met.allocate dd) asks (and_then ! (get ! refl) (and_then ! (get ! refl) (and_then ! (align_word !) (no_more !)))) (λ v.
    use1 𝓛 (later (raw (Answered Z 𝓛 𝓜.mem 𝓡.returns heap (block_ty E n) v) ⊛ ‵ (flft κ q))) (Takes-gives Z 𝓛 𝓜.mem 𝓡.returns κ q hp heap (n * s) al (block_ty E n) v) $ await ! tt $ split ! $
    answers Z ! 𝓜.mem 𝓡.returns heap (block_ty E n) v
    (λ b o e.
    let new : (Br E Z).Denot = record { start = block_ptr b o; by = record {}; slots = []; room = n; from = heap; within = omega arith } in
    let word : Val = block_val (block_ptr b o) in
    let all : WT (live 0 (vcons word vnil)) = (record { fits = lit< tt }, ((tt, (tt, tt)), tt)) in
    let Says : Type 0 = (new.slots ≡ []) × (new.room ≡ n) × (new.from ≡ heap) in
    lands_as ! e refl (Answer-typed true b o) $ first ! $ switches_on ! (get_tag ! (vrt ! refl (fld ! refl (stop !))) (whole !)) $ exec ! 𝓣.C 𝓣.Λ En (arm_body 0 both) Then $
    sets ! (of_opd ! (get_in ! (vrt ! refl (fld ! refl (stop !))) (in_variant ! 0 0 refl refl (whole !)))) refl (tt, tt) $ sets ! (of_opd ! (get ! refl)) refl (tt, tt) $
    sets ! (agg ! (no_more !)) refl (tt, tt) $ sets ! (agg ! (and_then ! (get ! refl) (and_then ! (get ! refl) (no_more !)))) refl (tt, (tt, (tt, tt))) $
    sets_last ! (agg ! (and_then ! (lit ! tt) (and_then ! (get ! refl) (no_more !)))) refl (tt, all) $
    exec ! 𝓣.C 𝓣.Λ En (after 3 function.body) (at_ret En Post) $ sets ! (of_opd ! (get ! refl)) refl (tt, all) $
    use1 𝓛 (‵ (froom (ty_array (elτ E) n) b o)) (𝓛.laws.raw-room (ty_array (elτ E) n) b o) $ use1 𝓛 (‵ (places (R E) b o n [])) (of_room E 𝓛 b n o) $
    block_back E (token Z heap) ! (block_ptr b o) b o n [] refl pos fit $ made E Z ! new $
    use1 𝓛 (‵ (Result.own_val (Ok new) (live 0 (vcons word vnil) ∷ []))) (ok_of 𝓛 (Br E Z) AE.the_row new word) $
    returns ! (look_at ! 0 refl) $ free_all ! refl $ move ! (1 ∷ 2 ∷ []) $ join ! $
    use0 𝓛 (raw (fact 𝓤 Says)) (fact_i 𝓤 Says (emp 𝓤) (refl, refl, refl)) $ nothing ! $ nothing ! $ fjoin ! $ nothing ! $ fjoin ! $ keep ! (2 ∷ 0 ∷ 3 ∷ 1 ∷ []) $
    by ! (leaves 𝓛 T stayed c y (live 0 (vcons word vnil)) (Ok new) (tt, (tt, tt)) (tt, (tt, tt))))
    (λ e.
    let Refusal : RattleType = Struct (Declared.shape AE.the_type) in
    let refused : Val = live 1 (vcons (vstruct vnil) vnil) in let all : WT refused = (record { fits = lit< tt }, (tt, tt)) in
    lands_as ! e refl (Answer-typed false 0 0) $ first ! $ switches_on ! (get_tag ! (vrt ! refl (fld ! refl (stop !))) (whole !)) $ exec ! 𝓣.C 𝓣.Λ En (arm_body 1 both) Then $
    sets ! (of_opd ! (get_in ! (vrt ! refl (fld ! refl (stop !))) (in_variant ! 1 0 refl refl (whole !)))) refl (tt, tt) $
    sets_last ! (agg ! (and_then ! (lit ! tt) (and_then ! (get ! refl) (no_more !)))) refl (tt, all) $
    exec ! 𝓣.C 𝓣.Λ En (after 3 function.body) (at_ret En Post) $ sets ! (of_opd ! (get ! refl)) refl (tt, all) $
    owned ! Refusal (Is Refusal) (Struct-Makes 𝓛 (Declared.shape AE.the_type) tt) tt (vstruct vnil ∷ []) (tt, (refl, tt)) $
    use1 𝓛 (‵ (Result.own_val (Err (record {})) (refused ∷ []))) (err_of 𝓛 (Br E Z) AE.the_row (record {}) (vstruct vnil)) $
    returns ! (look_at ! 0 refl) $ free_all ! refl $ move ! (1 ∷ 2 ∷ []) $ join ! $
    use0 𝓛 (raw (fact 𝓤 (Unit {0}))) (fact_i 𝓤 (Unit {0}) (emp 𝓤) tt) $ nothing ! $ nothing ! $ fjoin ! $ nothing ! $ fjoin ! $ keep ! (2 ∷ 0 ∷ 3 ∷ 1 ∷ []) $
    by ! (leaves 𝓛 T stayed c y refused (Err (record {})) (tt, (tt, tt)) (tt, (tt, tt)))))))))

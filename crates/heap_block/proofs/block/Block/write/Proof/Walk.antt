-- A place is room, whether or not a slot lies there, and takes one. Assumes `Logic`.
use Rattle.std.proofs.Common.{◌≡◌, ℕ, suc, ◌+◌, ◌*◌, ◌<◌, ◌≤◌, ◌^◌, List, [], ◌∷◌, take, drop as drop_l, refl, sym, arith, length-append, length-take, length-drop, w64}
use Rattle.std.proofs.raw_atomic.Walks.{leaves}
use Rattle.std.proofs.mem.Param.{El, R, el_x, elτ, Good}
use Rattle.std.proofs.alloc.Calls.{Al, token}
use Rattle.std.proofs.ptr.Rows.{times_below, one_below}
use Rattle.std.proofs.VecSteps.Shapes.{after}
use lib.ListN.{length}
use seplogic.Ra.Ura.{Ura}
use base.Fraction.{full_share}
use base.Fml.{ftrue, froom, flft}
use base.Logic.{SProp, ent, emp}
use contract.BorrowLft.{◌⊑◌}
use contract.Monad.{fact, fact_i}
use contract.Running.{Running, MachineTables, tables}
use prog.Model.{Model}
use prog.Wp.{Env, WpFn}
use mir.MapTy.{inst_fn}
use mir.Syntax.{Fn}
use mir.Val.{Val, vint, vptr, vunit}
use types.Logic.{Logic}
use types.Kit.{‵, raw, ◌⊛◌, at_ret, ◌$◌, ◌∵◌, !, qed, by, move, keep, drop, use0, use1, use3, split, join, rewrite, fsplit, fsplit3, fjoin, fjoin3, feq_i}
use types.Part.{whole, sub, look_in}
use types.Run.{init, stop, fld, load, size_lit, unit_lit, of_opd, bin, assigns_last, first, blocks, exec, returns, enter}
use types.ByLocal.{alloc_all, pass_all, free_all, look_at, get, through, sets, env}
use denote.Builtin.{usize}
use denote.Exit.{yes, no}
use denote.Memory.{cell_at}
use denote.RattleType.{owns}
use denote.RawPtr.{Ptr}
use denote.Signature.{plain, types_at}
use denote.Steps.{heard, nothing}
use denote.Triple.Clauses.{Clauses, Ended}
use denote.Triple.Entry.{Vals}
use denote.Triple.Walked.{Stays, walk_of, stay_dropped, stay_ref}
use Rattle.heap_block.specs.Written.{written}
use Rattle.heap_block.specs.Places.{places}
use Rattle.heap_block.proofs.Memory.{sz, besides, room_out, slot_in, args, Br, block_val, block_at, block_back, opens_block, closes_block}
use Rattle.heap_block.specs.contracts.block.Block.write as F
use Rattle.heap_block.proofs.block.Block.write.Code as code

still_within : {U : Type 0} (xs : List U) (i : ℕ) (u : U) (n : ℕ) → i ≤ length xs → i < n → length xs ≤ n → length (written xs i u) ≤ n
still_within xs i u n le lt fits = omega (arith, length-append (take i xs) (u ∷ drop_l (suc i) xs), length-take i xs, length-drop (suc i) xs)

module _ (E : El) (Z : Al) {M : Type 1} {𝓤 : Ura M} (𝓛 : Logic 𝓤) (𝓜 : Model 𝓤 𝓛.H) (𝓡 : Running 𝓤 𝓛.H 𝓜) where
  abbrev pub function : Fn
  function = inst_fn (args E Z) code.function

  abbrev pub T : Ended
  T = F.ended E.row Z.row Z.g Z.d Z.drops

  abbrev pub c : Clauses 𝓤 T
  c = F.clauses E.row Z.row Z.g Z.d Z.drops 𝓛 𝓜.mem 𝓡.returns

  abbrev pub stayed : Stays T.signature.params T.kept
  stayed = (stay_ref (0 ∷ []) tt (plain (λ _. Br E Z)), (stay_dropped (plain (λ _. usize)) yes, (stay_dropped (plain (λ _. R E)) no, tt)))

  abbrev pub 𝓣 : MachineTables 𝓤 𝓛.H 𝓜
  𝓣 = tables 𝓤 𝓛.H 𝓜 𝓡 𝓡.env

  abbrev Bound : Type 0
  Bound = (walk_of 𝓛 T stayed c).Ghost

  abbrev pub Goes : Bound → Type 1
  Goes y = ent 𝓤 ((walk_of 𝓛 T stayed c).pre y) (WpFn 𝓤 𝓛.H 𝓣.C 𝓣.Λ function ((walk_of 𝓛 T stayed c).args y) ((walk_of 𝓛 T stayed c).post y))

  abbrev pub at : (z : Bound) → Vals T.signature z.0.0 → Bound
  at z vss = ((z.0.0, z.0.1, z.0.2, z.0.3, vss), z.1)

  abbrev spelled : Bound → Val → Bound
  spelled z v = at z (vptr z.0.3.0.ref_ptr.0 z.0.3.0.ref_ptr.1 ∷ [], (vint w64 z.0.3.1.0 ∷ [], (v ∷ [], tt)))

  pub walk : (z : Bound) → z.0.3.1.0 < 2 ^ 64 → (v : Val) → Good E v → Goes (spelled z v)
  walk z fi v good =
      let κ = z.0.0.0 in let κ₁ = z.0.0.1.0 in let κ₂ = z.0.0.1.1.0 in let q = z.0.1.0 in let q₁ = z.0.1.1.0 in let q₂ = z.0.1.1.1.0 in
      let rb : ℕ = z.0.3.0.ref_ptr.0 in let ro : ℕ = z.0.3.0.ref_ptr.1 in let h : (Br E Z).Denot = z.0.3.0.now in let i : ℕ = z.0.3.1.0 in let u : el_x E = z.0.3.1.1.0 in
      let Post : Val → SProp 𝓤 = (walk_of 𝓛 T stayed c).post (spelled z v) in
      let s : ℕ = sz E in let n : ℕ = h.room in
      let Asks : Type 0 = (i ≤ length h.slots) × (i < n) in
      let Cell = λ (p : Ptr). ‵ (cell_at full_share (Br E Z).mir (block_val p ∷ []) rb ro) in
      qed 𝓛 (((‵ (flft κ q) ⊛ ‵ (flft κ₁ q₁) ⊛ ‵ (flft κ₂ q₂) ⊛ ‵ ftrue) ⊛ ‵ (owns (types_at T.signature.params z.0.0) z.0.3 (spelled z v).0.4))
      ∷ (raw (fact 𝓤 (κ₁ ⊑ E.row.lives)) ⊛ raw (fact 𝓤 (κ₂ ⊑ Z.row.lives)) ⊛ raw (fact 𝓤 Asks)) ∷ []) ∵
      move ! (1 ∷ []) $ split ! $ drop ! $ split ! $ drop ! $ heard ! Asks (λ asked.
      let within : length h.slots ≤ n = h.within in let le : i ≤ length h.slots = asked.0 in let lt : i < n = asked.1 in let pos : 0 < n = omega arith in
      let new : (Br E Z).Denot = record { start = h.start; by = h.by; slots = written h.slots i u; room = n; from = h.from; within = still_within h.slots i u n le lt within } in
      let Says : Type 0 = (new.slots ≡ written h.slots i u) × (new.room ≡ h.room) × (new.from ≡ h.from) in
      split ! $ split ! $ move ! (2 ∷ []) $ fsplit3 ! $ fsplit3 ! $ move ! (4 ∷ []) $ fsplit ! $ keep ! (3 ∷ 4 ∷ 6 ∷ 0 ∷ 7 ∷ []) $
      enter ! 𝓣.C 𝓣.Λ function (vptr rb ro ∷ vint w64 i ∷ v ∷ []) _ $ alloc_all ! (λ l. pass_all ! refl ((tt, tt), ((tt, record { fits = fi }), (good, tt))) $
      let En : Env 𝓤 𝓛.H = env function.locals l in
      opens_block E Z ! tt h rb ro $ block_at E (token Z h.from) ! h.start n h.slots pos (λ b o at_b fit.
      let small : s < 2 ^ 63 = one_below n s (2 ^ 63) pos fit in let tiny : s < 2 ^ 64 = omega arith in
      let part : i * s < 2 ^ 63 = times_below i n s (2 ^ 63) (omega arith) fit in let far : i * s < 2 ^ 64 = omega arith in
      use1 𝓛 (‵ (froom (elτ E) b (i * s + o)) ⊛ ‵ (besides E b o n h.slots i)) (room_out E 𝓛 b n h.slots i o lt) $ split ! $ rewrite ! 3 Cell at_b refl $
      -- [the room; the other places; the right to free; the struct; the open borrow; obs; auth; what u owns; the other tokens]
      first ! $ blocks ! $
      sets ! (of_opd ! (load ! (through ! refl (fld ! refl (stop !))) (look_in ! 3 (sub ! 0 refl (whole !))))) refl (tt, tt) $
      sets ! (bin ! (get ! refl) (size_lit ! (record { fits = tiny })) (record { fits = far })) refl (tt, record { fits = far }) $
      sets ! (bin ! (get ! refl) (get ! refl) tt) refl (tt, tt) $ sets ! (of_opd ! (get ! refl)) refl good $
      assigns_last ! (of_opd ! (get ! refl)) (through ! refl (stop !)) (init ! 0 refl good) $
      exec ! 𝓣.C 𝓣.Λ En (after 1 function.body) (at_ret En Post) $ sets ! (of_opd ! (unit_lit !)) refl (tt, tt) $
      rewrite ! 3 Cell (sym at_b) refl $ move ! (0 ∷ 7 ∷ []) $ use3 𝓛 (‵ (places (R E) b o n new.slots)) (slot_in E 𝓛 b n h.slots i o lt le u v) $
      block_back E (token Z h.from) ! h.start b o n new.slots at_b pos fit $ closes_block E Z ! tt new rb ro $ returns ! (look_at ! 0 refl) $ free_all ! refl $
      feq_i ! (List Val) (vptr rb ro ∷ []) (vptr rb ro ∷ []) refl $ fjoin3 ! $ nothing ! $ nothing ! $ fjoin ! $ nothing ! $ fjoin ! $ move ! (1 ∷ 0 ∷ []) $ fjoin ! $
      move ! (1 ∷ 2 ∷ []) $ join ! $ feq_i ! (List Val) (vunit ∷ []) (vunit ∷ []) refl $ use0 𝓛 (raw (fact 𝓤 Says)) (fact_i 𝓤 Says (emp 𝓤) (refl, refl, refl)) $ keep ! (2 ∷ 3 ∷ 1 ∷ 0 ∷ []) $
      by ! (leaves 𝓛 T stayed c (spelled z v) vunit tt (new, (tt, (tt, tt))) (tt, (tt, (tt, tt)))))))

-- The size is its own cap where it is small.
use Rattle.std.proofs.Common.{◌≡◌, ℕ, ◌^◌, ◌<◌, ◌≤◌, [], ◌∷◌, List, Bool, true, false, ltb, ltb-true, refl, arith, lit<, w64}
use Rattle.std.proofs.lemmas.Bool.{ltb-false}
use Rattle.std.proofs.raw_atomic.Walks.{proved, leaves}
use Rattle.std.specs.Mem.{type_size}
use mir.Syntax.{a_type}
use mir.MapTy.{inst_fn}
use mir.Val.{Val, vint, vbool}
use base.Logic.{emp, via, guard_i}
use contract.Monad.{fact, fact_i}
use contract.Running.{tables}
use prog.Memory.{size, capped}
use prog.Capped.{capped_is, capped_small}
use types.Kit.{‵, raw, ◌⊛◌, ◌$◌, ◌∵◌, !, qed, by, keep, use0, split, feq_i}
use types.Run.{size_word, bin, returns, enter}
use types.ByLocal.{alloc_all, pass_all, free_all, look_at, sets}
use denote.Param.{layouts, layout, param}
use denote.Steps.{nothing}
use denote.Triple.Entry.{alive}
use denote.Triple.Walked.{walk_of}
use Rattle.heap_block.specs.contracts.block.is_small.{ended, clauses}
use Rattle.heap_block.specs.contracts.block.is_small.Key.{name as key}
use Rattle.heap_block.proofs.block.is_small.Statement.{statement}
use Rattle.heap_block.proofs.block.is_small.Code as code

-- a size that is capped is large too
large : (n : ℕ) (b : Bool) → ltb n 2147483648 ≡ b → 2147483648 ≤ capped n → 2147483648 ≤ n
large n true e h = let low : n < 2147483648 = ltb-true _ _ e in let same = capped_is n (omega arith) in omega arith
large n false e h = ltb-false _ _ e

pub is_small_spec : {M : Type 1} → statement M
is_small_spec 𝓤 𝓛 𝓜 𝓡 wired X L =
    let T = ended X in let c = clauses X 𝓛 𝓜.mem 𝓡.returns in let args = layouts (a_type ∷ []) (X, tt) in let function = inst_fn args code.function in
    let 𝓣 = tables 𝓤 𝓛.H 𝓜 𝓡 𝓡.env in
    proved 𝓛 T tt c 𝓜 𝓡 tt (key args) function (code.unfolded 𝓤 𝓛.H 𝓜 𝓡 wired (X, tt)) (λ κs. tt) (λ κs. tt) (λ κs qs bounds a g are.
    let y : (walk_of 𝓛 T tt c).Ghost = ((κs, qs, bounds, a, tt), g) in
    let n = size (layout X) in let below = ltb (capped n) 2147483648 in let Says : Type 0 = (below ≡ true → type_size (param 0 X) < 2147483648) × (below ≡ false → 2147483648 ≤ type_size (param 0 X)) in
    qed 𝓛 ((raw (alive 𝓛 T.signature κs qs) ⊛ ‵ base.Fml.ftrue) ∷ raw ((c κs a).requires g) ∷ []) ∵ split ! $ keep ! (0 ∷ []) $
    enter ! 𝓣.C 𝓣.Λ function [] ((walk_of 𝓛 T tt c).post y) $ alloc_all ! (λ l. pass_all ! refl tt $
    sets ! (bin ! (size_word !) (record { go = λ K h. via 𝓤 _ h (guard_i 𝓤 _ (K (vint w64 2147483648)) (record { fits = lit< tt })) }) tt) refl (tt, tt) $
    use0 𝓛 (raw (fact 𝓤 Says)) (fact_i 𝓤 Says (emp 𝓤) ((λ e. let low : capped n < 2147483648 = ltb-true _ _ e in let fits : n < 2 ^ 63 = capped_small n (omega arith) in let same = capped_is n (omega arith) in omega arith), (λ e. let high : 2147483648 ≤ capped n = ltb-false _ _ e in large n (ltb n 2147483648) refl high))) $
    feq_i ! (List Val) (vbool below ∷ []) (vbool below ∷ []) refl $ nothing ! $
    returns ! (look_at ! 0 refl) $ free_all ! refl $ keep ! (3 ∷ 0 ∷ 1 ∷ 2 ∷ []) $ by ! (leaves 𝓛 T tt c y (vbool below) below tt tt)))

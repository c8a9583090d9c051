-- The walk is at each machine value that u may have. Assumes `Logic`.
mod Walk
use Rattle.std.proofs.Common.{[], ◌∷◌, refl, sym, subst}
use Rattle.std.proofs.raw_atomic.Walks.{proved_at}
use Rattle.std.proofs.mem.Param.{El, R, lawful, one}
use Rattle.std.proofs.alloc.Calls.{Al}
use denote.Builtin.{usize}
use denote.Exit.{yes, no}
use denote.Signature.{plain}
use denote.Triple.Entry.{Vals}
use denote.Triple.Walked.{Goes-dropped, Goes-ref}
use Rattle.heap_block.proofs.Memory.{args, Br}
use Rattle.heap_block.specs.contracts.block.Block.write.Key.{name as key}
use Rattle.heap_block.proofs.block.Block.write.Statement.{statement}
use Rattle.heap_block.proofs.block.Block.write.Code as code
use Rattle.heap_block.proofs.block.Block.write.Proof.Walk.{function, T, c, stayed, Goes, at, walk}

pub write_spec : {M : Type 1} → statement M
write_spec 𝓤 𝓛 𝓜 𝓡 wired X W LX LW g d dd met md =
    let E : El = record { row = X; laws = LX } in let Z : Al = record { row = W; laws = LW; g = g; d = d; drops = dd } in
    let T' = T E Z 𝓛 𝓜 𝓡 in
    proved_at 𝓛 T' (stayed E Z 𝓛 𝓜 𝓡) (c E Z 𝓛 𝓜 𝓡) 𝓜 𝓡
    (Goes-ref 𝓛 3 0 tt (plain (λ _. Br E Z)), (Goes-dropped 𝓛 3 (plain (λ _. usize)) yes (λ κs x f. refl), (Goes-dropped 𝓛 3 (plain (λ _. R E)) no (λ κs x f. refl), tt)))
    (key (args E Z)) (function E Z 𝓛 𝓜 𝓡) (code.unfolded 𝓤 𝓛.H 𝓜 𝓡 wired (X, (W, tt)) d dd)
    (λ z are. let got = one E z.0.4.1.1.0 ((lawful E 𝓛).typed z.0.3.1.1.0 z.0.4.1.1.0 are.1.1.0) in
    subst (λ (vss : Vals T'.signature z.0.0). Goes E Z 𝓛 𝓜 𝓡 (at E Z 𝓛 𝓜 𝓡 z vss)) (sym (λ k. (are.0.0 k, (are.1.0.0 k, (got.1 k, tt))))) (walk E Z 𝓛 𝓜 𝓡 z are.1.0.1 got.0 got.2))

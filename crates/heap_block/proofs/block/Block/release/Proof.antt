-- The walk is at each machine value that the block may have. Assumes `Logic`.
mod Walk
use Rattle.std.proofs.Common.{[], ◌∷◌, refl}
use Rattle.std.proofs.raw_atomic.Walks.{proved_at}
use Rattle.std.proofs.mem.Param.{El}
use Rattle.std.proofs.alloc.Calls.{Al}
use denote.Builtin.{usize, RefOf}
use denote.Exit.{yes, no}
use denote.Signature.{plain}
use denote.Triple.Walked.{Goes-dropped}
use Rattle.heap_block.proofs.Memory.{args, P, Br}
use Rattle.heap_block.specs.contracts.block.Block.release.Key.{name as key}
use Rattle.heap_block.proofs.block.Block.release.Statement.{statement}
use Rattle.heap_block.proofs.block.Block.release.Code as code
use Rattle.heap_block.proofs.block.Block.release.Proof.Walk.{function, Ends, c, stayed, walk}

pub release_spec : {M : Type 1} → statement M
release_spec 𝓤 𝓛 𝓜 𝓡 wired X W LX LW g d dd met md =
    let E : El = record { row = X; laws = LX } in let Z : Al = record { row = W; laws = LW; g = g; d = d; drops = dd } in
    proved_at 𝓛 (Ends E Z 𝓛 𝓜 𝓡) (stayed E Z 𝓛 𝓜 𝓡) (c E Z 𝓛 𝓜 𝓡) 𝓜 𝓡
    (Goes-dropped 𝓛 3 (plain (λ _. Br E Z)) no (λ κs x f. refl), (Goes-dropped 𝓛 3 (RefOf (0 ∷ []) tt (plain (λ _. P E Z)) (λ _. tt)) yes (λ κs x f. refl), (Goes-dropped 𝓛 3 (plain (λ _. usize)) yes (λ κs x f. refl), tt)))
    (key (args E Z)) (function E Z 𝓛 𝓜 𝓡) (code.unfolded 𝓤 𝓛.H 𝓜 𝓡 wired (X, (W, tt)) d dd)
    (λ z are. walk E Z 𝓛 𝓜 𝓡 z (met.deallocate dd) are.1.1.0.0 are.1.1.0.1)

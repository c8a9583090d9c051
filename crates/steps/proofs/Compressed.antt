-- A compression that fills the latest directory.
use Rattle.std.proofs.Common.{◌≡◌, ℕ, suc, min, leb, Bool, true, false, cond, List, [], ◌∷◌, Ok, Err, Result, refl, ap, ◌∙◌, arith}
use Rattle.arena.specs.Outcomes.{of_arena_reallocation}
use Rattle.arena.specs.Reserve.{MadeRoom}
use Rattle.bulk.specs.Given.{given}
use Rattle.bulk.proofs.Kept.{given_kept}
use Rattle.history.specs.Slots.{Slots, count, held}
use Rattle.directory.specs.Outcomes.{of_directory, carried}
use Rattle.directory.specs.declared.error.DirectoryError.{DirectoryError}
use Rattle.directory.specs.declared.error.DirectoryError.TheVariants.{NoRoom}
use Rattle.history.specs.Calls.{compress, went, Step}
use Rattle.history.specs.Mapped.{Pair, records, moving, packed, kept, rest}
use Rattle.history.specs.Directories.{Directory, Filled, filled_slots}
use Rattle.history.proofs.Fills.{filling_leaves}
use Rattle.numbering.specs.Kinds.{season_alike}
use Rattle.numbering.specs.declared.generation.SeasonGen.{SeasonGen}
use Rattle.kinds.specs.declared.slot.DirectSlot.TheVariants.{Free, Allocated}
use Rattle.numbering.specs.declared.index.ShortInx.{ShortInx}
use Rattle.numbering.specs.Pointers.{Pointer}
use Rattle.passages.specs.State.{short_point}
use Rattle.passages.proofs.Room.{made_room}
use Rattle.stack.specs.Fixed.{FixedRegrown}
use Rattle.stack.specs.Slots.{counted}

-- it takes a report exactly if it has room, and has as many lent slots as before
pub taken : (r : Result (Unit {0}) DirectoryError) (n last lent after : ℕ) → MadeRoom FixedRegrown counted 65535 n last (of_arena_reallocation (carried r)) lent after → (went (of_directory r) ≡ leb last (min lent 65535)) × (after ≡ lent)
taken (Ok tt) n last lent after m = grind (arith, made_room (Ok tt) n last lent after m)
taken (Err (NoRoom e)) n last lent after m = grind (arith, made_room (Err e) n last lent after m)

-- and what it then holds
pub then_holds : (b : Bool) (ps : List (Pair SeasonGen SeasonGen)) (d e : Directory SeasonGen Pointer) → Filled season_alike short_point b ps d e → e ≡ cond b (filled_slots short_point ps) d
then_holds true ps d e f = filling_leaves season_alike short_point ps d e f
then_holds false ps d e f = f

count_packed : (k : ℕ) (vs : List ℕ) (s : Slots SeasonGen ℕ) → count (packed vs (held k s)) ≡ count s
count_packed k vs [] = refl
count_packed k vs (Free ∷ s) = count_packed (suc k) vs s
count_packed k vs (Allocated g v ∷ s) = ap suc (count_packed (suc k) (rest vs) s)

-- values kept, the slots are packed, and so many records stand as before
pub then_packed : (w : Unit {0}) (b : Bool) (s t : Slots SeasonGen ℕ) →
    Step season_alike (record { call = compress (given {I = ShortInx} {P = Pointer} (λ w p q v. w) (λ w p q v. v) (λ n. record { raw = n }) (λ i g. record { inx = i; generation = g }) w); accepted = b }) s t →
    (t ≡ cond b (packed (kept (moving 1 (records s))) (records s)) s) × (count t ≡ count s)
then_packed w true s t x =
    let e : t ≡ packed (kept (moving 1 (records s))) (records s) =
    x.slots ∙ ap (λ vs. packed vs (records s)) (given_kept {I = ShortInx} {P = Pointer} (λ n. record { raw = n }) (λ i g. record { inx = i; generation = g }) w (moving 1 (records s))) in
    (e, ap count e ∙ count_packed 1 (kept (moving 1 (records s))) s)
then_packed w false s t x = (x.slots, ap count x.slots)

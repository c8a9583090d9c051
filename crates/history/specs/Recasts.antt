-- What a recast and a join make of slots. A recast gives another value for a value, or none where it does not hold it.
use Rattle.std.specs.Prelude.{Bool, cond, List, [], ◌∷◌, map, is_some, Some, None, Option}
use Rattle.std.specs.List.{list_all}
use Rattle.kinds.specs.declared.slot.DirectSlot.{DirectSlot}
use Rattle.kinds.specs.declared.slot.DirectSlot.TheVariants.{Free, Allocated}
use Rattle.history.specs.Slots.{Slots, Held}

abbrev pub Recasting : Type 0 → Type 0
Recasting V = V → Option V

abbrev pub or_kept : {V : Type 0} → V → Option V → V
or_kept v None = v
or_kept v (Some u) = u

-- the recast of a value, or the value itself where it is not held
abbrev pub recast_or_kept : {V : Type 0} → Recasting V → V → V
recast_or_kept q v = or_kept v (q v)

-- all values of these records are held
abbrev pub all_recast : {G V : Type 0} → Recasting V → List (Held G V) → Bool
all_recast q hs = list_all (λ h. is_some (q h.value)) hs

-- the first value that is not held
abbrev pub first_lost : {G V : Type 0} → Recasting V → List (Held G V) → Option V
first_lost q [] = None
first_lost q (h ∷ hs) = cond (is_some (q h.value)) (first_lost q hs) (Some h.value)

abbrev pub recast_slot : {G V : Type 0} → Recasting V → DirectSlot G V → DirectSlot G V
recast_slot q Free = Free
recast_slot q (Allocated g v) = Allocated g (recast_or_kept q v)

-- each value as its recast
abbrev pub recast_each : {G V : Type 0} → Recasting V → Slots G V → Slots G V
recast_each q s = map (recast_slot q) s

-- the values before the first that is not held, each as its recast
abbrev pub recast_until : {G V : Type 0} → Recasting V → Slots G V → Slots G V
recast_until q [] = []
recast_until q (Free ∷ s) = Free ∷ recast_until q s
recast_until q (Allocated g v ∷ s) = cond (is_some (q v)) (Allocated g (recast_or_kept q v) ∷ recast_until q s) (Allocated g v ∷ s)

-- free where there is no value
abbrev pub allocated : {G V : Type 0} → G → Option V → DirectSlot G V
allocated g None = Free
allocated g (Some v) = Allocated g v

abbrev pub join_slot : {G V : Type 0} → Recasting V → DirectSlot G V → DirectSlot G V
join_slot q Free = Free
join_slot q (Allocated g v) = allocated g (q v)

-- each value as its recast; slots whose value is not held are free
abbrev pub join_each : {G V : Type 0} → Recasting V → Slots G V → Slots G V
join_each q s = map (join_slot q) s

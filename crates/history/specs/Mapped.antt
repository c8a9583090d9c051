-- What a call on many records shows its mapper of them, and what records and slots become by the values that it gives.
use Rattle.std.specs.Prelude.{ℕ, suc, Bool, true, ◌&&◌, List, [], ◌∷◌, filter, map, ◌==◌, nat_lt}
use Rattle.std.specs.List.{flat_map}
use Rattle.kinds.specs.declared.slot.DirectSlot.TheVariants.{Free, Allocated}
use Rattle.history.specs.Slots.{Slots, Ptr, Held, to, ptr, at, held, with_value, write}

-- A pointer before a call and after it.
pub record Pair (H G : Type 0) : Type 0 where
  pub old : Ptr H
  pub new : Ptr G

-- What a mapper is shown of a record: its pointers, and its value.
pub record Shown (H G U : Type 0) : Type 0 where
  pub pair : Pair H G
  pub value : U

-- A mapper at a call: the values that it gives for all that it is shown, in order.
abbrev pub Mapping : (G V : Type 0) → Type 0
Mapping G V = List (Shown G G V) → List V

-- the mapper that keeps values
abbrev pub kept : {G V : Type 0} → Mapping G V
kept xs = map (λ x. x.value) xs

-- the records of slots, by rising slot
abbrev pub records : {G V : Type 0} → Slots G V → List (Held G V)
records s = held 1 s

-- Where a call takes a record that is the k-th of those that it goes through.
abbrev pub Place : (H G U : Type 0) → Type 0
Place H G U = ℕ → Held H U → Ptr G

-- it stays at its own pointer
abbrev pub stays : {G U : Type 0} → Place G G U
stays k h = ptr h

-- it comes to slot k, under its generation
abbrev pub moves_up : {G U : Type 0} → Place G G U
moves_up k h = to k h.gen

-- it comes to slot k, under the generation given
abbrev pub lines_up : {H G U : Type 0} → G → Place H G U
lines_up g k h = to k g

-- what a call shows of these records, of which the first is the k-th
abbrev pub going : {H G U : Type 0} → Place H G U → ℕ → List (Held H U) → List (Shown H G U)
going place k [] = []
going place k (h ∷ hs) = record { pair = record { old = ptr h; new = place k h }; value = h.value } ∷ going place (suc k) hs

-- where it leaves them in their slots
abbrev pub in_place : {G U : Type 0} → List (Held G U) → List (Shown G G U)
in_place hs = map (λ h. record { pair = record { old = ptr h; new = ptr h }; value = h.value }) hs

-- where it moves them, one after the other, to the slots from k on
abbrev pub moving : {G U : Type 0} → ℕ → List (Held G U) → List (Shown G G U)
moving k hs = going moves_up k hs

abbrev pub pairs : {H G U : Type 0} → List (Shown H G U) → List (Pair H G)
pairs xs = map (λ x. x.pair) xs

-- A compression's report: the old and the new pointer of each record, by rising slot.
abbrev pub report : {G V : Type 0} → List (Held G V) → List (Pair G G)
report hs = pairs (moving 1 hs)

-- what is shown of records: these pairs, and their values
abbrev pub shown_by : {H G U : Type 0} → List (Pair H G) → List (Held H U) → List (Shown H G U)
shown_by [] hs = []
shown_by (p ∷ ps) [] = []
shown_by (p ∷ ps) (h ∷ hs) = record { pair = p; value = h.value } ∷ shown_by ps hs

-- the value given first, or the record's own where none was given
abbrev pub given_or : {V : Type 0} → V → List V → V
given_or v [] = v
given_or v (u ∷ us) = u

abbrev pub rest : {V : Type 0} → List V → List V
rest [] = []
rest (v ∷ vs) = vs

-- a compression's slots: the records one after the other, with their new values, and no slot behind them
abbrev pub packed : {G V : Type 0} → List V → List (Held G V) → Slots G V
packed vs [] = []
packed vs (h ∷ hs) = Allocated h.gen (given_or h.value vs) ∷ packed (rest vs) hs

-- the records that stand at slot n: one, or none
abbrev pub those_at : {G V : Type 0} → ℕ → List (Held G V) → List (Held G V)
those_at n hs = filter (λ h. h.slot == n) hs

-- the records at the slots of a list, in its order
abbrev pub those_named : {G V : Type 0} → List ℕ → List (Held G V) → List (Held G V)
those_named ns hs = flat_map (λ n. those_at n hs) ns

-- values put into the records at the slots of a list, one after the other
abbrev pub put_all : {G V : Type 0} → List ℕ → List V → Slots G V → Slots G V
put_all [] vs s = s
put_all (n ∷ ns) [] s = s
put_all (n ∷ ns) (v ∷ vs) s = put_all ns vs (write n (with_value v (at n s)) s)

-- records brought in, one after the other
abbrev pub settle : {G V : Type 0} → Slots G V → List (Held G V) → Slots G V
settle s [] = s
settle s (h ∷ hs) = settle (write h.slot (Allocated h.gen h.value) s) hs

-- each in a slot above those before it, and above n
abbrev pub rising : {G V : Type 0} → ℕ → List (Held G V) → Bool
rising n [] = true
rising n (h ∷ hs) = nat_lt n h.slot && rising h.slot hs

-- all slots free
abbrev pub freed : {G V : Type 0} → Slots G V → Slots G V
freed s = map (λ x. Free) s

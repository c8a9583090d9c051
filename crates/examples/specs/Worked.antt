-- Examples of the rules, for a fixed stack of 8 and short indices: of the definitions that the contracts cite.
use Rattle.std.specs.Prelude.{◌≡◌, ℕ, ◌-◌, min, [], ◌∷◌, length}
use Rattle.kinds.specs.declared.slot.DirectSlot.TheVariants.{Free, Allocated}
use Rattle.numbering.specs.declared.generation.SeasonGen.{SeasonGen}
use Rattle.numbering.specs.Kinds.{short_number, season_alike}
use Rattle.numbering.specs.Pointers.{Pointer, pointer}
use Rattle.outcome.specs.Outcome.{done, refused}
use Rattle.stack.specs.Slots.{counted}
use Rattle.history.specs.Slots.{Slots, Ptr, to, trimmed}
use Rattle.history.specs.Mapped.{Pair, kept, records, report}
use Rattle.history.specs.Calls.{insert, remove, compress, index, effect}
use Rattle.history.specs.Directories.{Holds, joined_with, filled_slots}
use Rattle.slots.specs.Inserted.{insert_answer}
use Rattle.bulk.specs.Edits.{edits_answer}
use Rattle.arena.specs.Answers.{cited}

abbrev pub view : Pointer → Ptr SeasonGen
view p = cited short_number (λ q. q.inx) (λ q. q.generation) p

abbrev pub point : Ptr SeasonGen → Pointer
point p = pointer p.slot p.gen

-- the capacity: the smaller of the stack's and of the largest index
abbrev pub capacity : ℕ
capacity = min (counted 8) 65535

-- a pair of a report: from slot m to slot n, under one generation
abbrev pub pair : SeasonGen → ℕ → ℕ → Pair SeasonGen SeasonGen
pair g m n = record { old = to m g; new = to n g }

-- the slots with one record, in slot 8
abbrev pub eighth : SeasonGen → ℕ → Slots SeasonGen ℕ
eighth g v = effect (insert (to 8 g) v) []

pub record Worked : Type 0 where
  -- an insertion at 0 is refused with 1, at 8 it gives eight slots, and at 9 it is refused with 1
  pub at_0 : (g : SeasonGen) (s : Slots SeasonGen ℕ) → insert_answer capacity (view (pointer 0 g)) s ≡ refused 1
  pub at_8 : (g : SeasonGen) (v : ℕ) → (insert_answer {V = ℕ} capacity (view (pointer 8 g)) [] ≡ done tt) × (length (eighth g v) ≡ 8)
  pub at_9 : (g : SeasonGen) (s : Slots SeasonGen ℕ) → insert_answer capacity (view (pointer 9 g)) s ≡ refused 1
  -- a removal leaves the slots
  pub removed : (g : SeasonGen) (v : ℕ) → length (effect (remove (index 8)) (eighth g v)) ≡ 8
  -- a list edit asks whether slots differ before it asks whether they are allocated, and whether they are there before both
  pub twice : (g : SeasonGen) (v : ℕ) → edits_answer (3 ∷ 3 ∷ []) (eighth g v) ≡ refused 5
  pub beyond : (g : SeasonGen) (v : ℕ) → edits_answer (9 ∷ 9 ∷ []) (eighth g v) ≡ refused 4
  -- a compression moves what has free slots below it, and reports what stays too
  pub moved : (g h : SeasonGen) (u v : ℕ) →
      (effect (compress kept) (Free ∷ Allocated g u ∷ Free ∷ Allocated h v ∷ Free ∷ []) ≡ Allocated g u ∷ Allocated h v ∷ [])
      × (report (records (Free ∷ Allocated g u ∷ Free ∷ Allocated h v ∷ Free ∷ [])) ≡ pair g 2 1 ∷ pair h 4 2 ∷ [])
  pub stayed : (g h : SeasonGen) (u v : ℕ) →
      (effect (compress kept) (Allocated g u ∷ Allocated h v ∷ []) ≡ Allocated g u ∷ Allocated h v ∷ [])
      × (report (records (Allocated g u ∷ Allocated h v ∷ [])) ≡ pair g 1 1 ∷ pair h 2 2 ∷ [])
  -- a trim pops free slots from the end only
  pub popped : (g : SeasonGen) (v : ℕ) → length (Allocated g v ∷ Free ∷ Free ∷ []) - length (trimmed 5 (Allocated g v ∷ Free ∷ Free ∷ [])) ≡ 2
  -- two reports joined: what the second does not hold, or holds under another season only, is not there any more
  pub joined : (g h : SeasonGen) →
      (Holds view
      (joined_with season_alike view (filled_slots point (pair g 2 1 ∷ pair h 4 2 ∷ [])) (filled_slots point (pair h 2 1 ∷ [])))
      (pair h 4 1 ∷ []))
      × (Holds view
      (joined_with season_alike view (filled_slots point (pair (record { season = 1 }) 4 2 ∷ [])) (filled_slots point (pair (record { season = 2 }) 2 1 ∷ [])))
      [])

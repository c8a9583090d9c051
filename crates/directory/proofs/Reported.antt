-- What a directory takes in at a filling is the report.
use Rattle.std.proofs.Common.{◌≡◌, ℕ, suc, ◌+◌, ◌<◌, ◌≤◌, Bool, true, false, cond, nat_lt, Result, Ok, Err, List, [], ◌∷◌, length, Some, Option, refl, ap, ◌∙◌, inl, inr, arith}
use Rattle.kinds.specs.Places.{in_range}
use Rattle.arena.specs.Outcomes.{of_arena_reallocation, beyond_indices}
use Rattle.stack.specs.declared.error.ReallocationError.TheVariants.{BeyondMaxCapacity, AllocError}
use Rattle.arena.specs.declared.error.ArenaReallocationError.{ArenaReallocationError}
use Rattle.arena.specs.declared.error.ArenaReallocationError.TheVariants.{Stack, BeyondIndices}
use Rattle.history.specs.Slots.{Slots, Ptr, Held}
use Rattle.history.specs.Mapped.{Pair, stays, moving, pairs, records, rising, report}
use Rattle.history.specs.Laws.{In}
use Rattle.history.specs.Calls.{bring, went, Step, Through}
use Rattle.history.specs.Directories.{Holds, filling, Filled, HoldsAfter, report_records, filled_slots}
use Rattle.history.proofs.Fills.{filling_leads, filling_holds}
use Rattle.history.proofs.Moves.{records_rise}
use Rattle.bulk.specs.Given.{point}
use Rattle.bulk.specs.Brought.{brought, last_slot}
use Rattle.arena.specs.Answers.{cited}

module _ {G U : Type 0} where
  -- records in rising slots are no more than the last slot's number
  few : (n : ℕ) (h : Held G U) (hs : List (Held G U)) → rising n (h ∷ hs) ≡ true → n + length (h ∷ hs) ≤ last_slot (h ∷ hs)
  few n h [] r = grind arith
  few n h (k ∷ hs) r =
      let b : h.slot + length (k ∷ hs) ≤ last_slot (k ∷ hs) = few h.slot k hs (grind arith) in
      let l : n < h.slot = grind arith in
      omega (arith, b, l)

  pub few_records : (s : Slots G U) (m : ℕ) → last_slot (records s) ≤ m → length (records s) ≤ m
  few_records s m h = by_list (records s) (records_rise 0 s) h
    where
      by_list : (hs : List (Held G U)) → rising 0 hs ≡ true → last_slot hs ≤ m → length hs ≤ m
      by_list [] r h = omega arith
      by_list (k ∷ hs) r h = omega (arith, few 0 k hs r, h)

  -- a report's old pointers rise, and its new ones are slots from 1 on
  pub report_rises : {P : Type 0} (make : Ptr G → P) (n k : ℕ) (hs : List (Held G U)) → rising n hs ≡ true → rising n (report_records make (pairs (moving k hs))) ≡ true
  report_rises make n k [] r = refl
  report_rises make n k (h ∷ hs) r = grind (arith, report_rises make h.slot (suc k) hs (grind arith))

  pub new_within : (k m : ℕ) (hs : List (Held G U)) → k + length hs ≤ m + 1 → (p : Pair G G) → In p (pairs (moving k hs)) → (k ≤ p.new.slot) × (p.new.slot ≤ m)
  new_within k m [] l p i = absurd i
  new_within k m (h ∷ hs) l p (inl e) = let c : p.new.slot ≡ k = ap (λ (x : Pair G G). x.new.slot) e in (omega (arith, c), omega (arith, c, l))
  new_within k m (h ∷ hs) l p (inr i) = let b = new_within (suc k) m hs (omega (arith, l)) p i in (omega (arith, b.0), b.1)

module _ {I G P V : Type 0} (largest : ℕ) (indexed : ℕ → I) (made : I → G → P) (mark : P → G) (made_mark : (i : I) (g : G) → mark (made i g) ≡ g) where
  -- the mapper that gives new pointers
  abbrev pub next_moved : ℕ → P → P → V → ℕ
  next_moved w old new v = cond (in_range (w + 1) largest) (w + 1) w

  abbrev pub new_pointer : ℕ → P → P → V → P
  new_pointer w old new v = cond (in_range (w + 1) largest) (made (indexed (w + 1)) (mark old)) old

  pub brought_report : (k w j : ℕ) (hs : List (Held G V)) → w + length hs ≤ largest → j ≡ w + 1 →
      brought next_moved new_pointer (point indexed made) (point indexed made) stays k w hs ≡ report_records (point indexed made) (pairs (moving j hs))
  brought_report k w j [] l e = refl
  brought_report k w j (h ∷ hs) l e =
      let r : in_range (w + 1) largest ≡ true = grind (arith, l) in
      let b = brought_report (suc k) j (suc j) hs (omega (arith, l, e)) (omega arith) in
      rw (r, made_mark (indexed h.slot) h.gen, ← e) (ap (λ (t : List (Held G P)). record { slot = h.slot; gen = h.gen; value = made (indexed j) h.gen } ∷ t) b)

  -- what came into a directory by a clone with that mapper, came by a filling
  came_filled : (alike : G → G → Bool) (s : Slots G V) (d e : Slots G P) (m : ℕ) (b : Bool) → m ≡ 0 → b ≡ true → last_slot (records s) ≤ largest →
      Step alike (record { call = bring (brought next_moved new_pointer (point indexed made) (point indexed made) stays 1 m (records s)); accepted = b }) d e →
      (e ≡ filled_slots (point indexed made) (report (records s))) × Through alike d (filling (point indexed made) (report (records s))) e
  came_filled alike s d e m b z w l x =
      let c = brought_report 1 m 1 (records s) (omega (arith, few_records s largest l, z)) (omega (arith, z)) in
      let f : e ≡ filled_slots (point indexed made) (report (records s)) = x.slots ∙ (rw (w, c) refl) in
      (f, rw f (filling_leads alike (point indexed made) d (report (records s)) (report_rises (point indexed made) 0 1 (records s) (records_rise 0 s))))

  module _ (number : I → Option ℕ) (index : P → I) (made_index : (i : I) (g : G) → index (made i g) ≡ i) (there : (n : ℕ) → 1 ≤ n → n ≤ largest → number (indexed n) ≡ Some n) where
    filled_holds : (s : Slots G V) → last_slot (records s) ≤ largest → Holds (cited number index mark) (filled_slots (point indexed made) (report (records s))) (report (records s))
    filled_holds s l = filling_holds (cited number index mark) (point indexed made) (report (records s)) (report_rises (point indexed made) 0 1 (records s) (records_rise 0 s)) same
      where
        same : (p : Pair G G) → In p (report (records s)) → cited number index mark (point indexed made p.new) ≡ p.new
        same p i =
            let b = new_within 1 largest (records s) (omega (arith, few_records s largest l)) p i in
            rw (made_index (indexed p.new.slot) p.new.gen, made_mark (indexed p.new.slot) p.new.gen, there p.new.slot b.0 b.1) refl

    -- the directory after such a clone, which may have been refused
    pub filled_or_same : (alike : G → G → Bool) (s : Slots G V) (d e : Slots G P) (m : ℕ) (b : Bool) → m ≡ 0 → (b ≡ true → last_slot (records s) ≤ largest) →
        Step alike (record { call = bring (brought next_moved new_pointer (point indexed made) (point indexed made) stays 1 m (records s)); accepted = b }) d e →
        Filled alike (point indexed made) b (report (records s)) d e × HoldsAfter (cited number index mark) b (report (records s)) e
    filled_or_same alike s d e m false z l x = (x.slots, tt)
    filled_or_same alike s d e m true z l x =
        let f = came_filled alike s d e m true z refl (l refl) x in
        (f.1, rw f.0 (filled_holds s (l refl)))

-- room is given only within the indices
pub room_within : (r : Result (Unit {0}) ArenaReallocationError) (n m : ℕ) → beyond_indices r ≡ nat_lt m n → went (of_arena_reallocation r) ≡ true → n ≤ m
room_within (Ok u) n m e w = grind arith
room_within (Err (Stack BeyondMaxCapacity)) n m e w = cc
room_within (Err (Stack AllocError)) n m e w = cc
room_within (Err BeyondIndices) n m e w = cc

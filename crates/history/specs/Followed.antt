-- Two spans of an arena's history: that all premises of the promise on joined reports hold of them, and what the promise then
-- says. Pointers are their own view here.
use Rattle.std.specs.Prelude.{◌≡◌, ℕ, Bool, true, List, [], ◌∷◌, Some, None}
use Rattle.kinds.specs.declared.slot.DirectSlot.TheVariants.{Free, Allocated}
use Rattle.history.specs.Slots.{Slots, Ptr, Held, to, ptr, at}
use Rattle.history.specs.Records.{found}
use Rattle.history.specs.Mapped.{Pair, kept}
use Rattle.history.specs.Calls.{insert, remove, pointer, Entry, Leads}
use Rattle.history.specs.Roll.{Line, roll}
use Rattle.history.specs.Laws.{In, Stands, Carried}
use Rattle.history.specs.Directories.{Directory, recast_by, filled_slots}
use Rattle.history.specs.Spans.{Span, ended, all_ended, Successive, Apart, AllApart, Gives, Traced}

abbrev pub itself : {G : Type 0} → Ptr G → Ptr G
itself p = p

-- a pair of a report: from slot m to slot n, under one generation
abbrev pub pair : {G : Type 0} → G → ℕ → ℕ → Pair G G
pair g m n = record { old = to m g; new = to n g }

-- One pointer is of one record at most, and one record has one pointer.
pub record Alone {G V : Type 0} (l m : Line G V) : Type 0 where
  pub one_record : ptr l.stand ≡ ptr m.stand → l.number ≡ m.number
  pub one_pointer : l.number ≡ m.number → ptr l.stand ≡ ptr m.stand

module _ {G V : Type 0} (g h k : G) (u v w : V) where
  -- two insertions, at slots 2 and 4
  abbrev pub first : Span G V (Ptr G)
  first = record {
    calls = record { call = insert (to 4 h) v; accepted = true } ∷ record { call = insert (to 2 g) u; accepted = true } ∷ [];
    mapping = kept;
    directory = filled_slots itself (pair g 2 1 ∷ pair h 4 2 ∷ []);
  }

  -- then the first of the two records is taken out, and a third brought in
  abbrev pub second : Span G V (Ptr G)
  second = record {
    calls = record { call = insert (to 3 k) w; accepted = true } ∷ record { call = remove (pointer (to 1 g)); accepted = true } ∷ [];
    mapping = kept;
    directory = filled_slots itself (pair h 2 1 ∷ pair k 3 2 ∷ []);
  }

  abbrev pub both_ended : List (Entry G V)
  both_ended = all_ended (first ∷ second ∷ []) []

  -- What stands, by what is promised of every history.
  pub record Standing (s : Slots G V) (n : ℕ) : Type 0 where
    pub in_1 : at 1 s ≡ Allocated h v
    pub in_2 : at 2 s ≡ Allocated k w
    pub in_3 : at 3 s ≡ Free
    pub counted : n ≡ 2

  module _ (alike : G → G → Bool) where
    -- The premises hold together. A pointer is given by an insertion, and by the compression that opens a span.
    pub record Followed : Type 0 where
      pub leads : Leads alike both_ended (Allocated h v ∷ Allocated k w ∷ [])
      pub successive : Successive itself (first ∷ second ∷ []) []
      pub apart : AllApart (first ∷ second ∷ []) []
      pub apart_since : Apart both_ended []
      pub given : Gives [] first.calls 1 (to 4 h)
      pub given_too : Gives [] first.calls 0 (to 2 g)
      pub moved : Gives (ended first []) second.calls 1 (to 2 h)
      pub added : Gives (ended first []) second.calls 2 (to 3 k)

    -- What the joined reports say of the pointers of the two insertions: the second record's leads to it and to no other, and
    -- the first's to none.
    pub record Told (s : Slots G V) (d : Directory G (Ptr G)) : Type 0 where
      pub recast : (q : Ptr G) × (recast_by alike itself d (to 4 h) ≡ Some q) × (q ≡ to 1 h)
      pub finds : (q : Ptr G) × (recast_by alike itself d (to 4 h) ≡ Some q) × (found alike q s ≡ Some (record { slot = 1; gen = h; value = v }))
      pub only : (q : Ptr G) (r : Held G V) → recast_by alike itself d (to 4 h) ≡ Some q → found alike q s ≡ Some r → r ≡ record { slot = 1; gen = h; value = v }
      pub gone : recast_by alike itself d (to 2 g) ≡ None

    -- What holds of any slots and any directory of which the promise holds. The record that was taken out is carried no
    -- further.
    pub record Said : Type 0 where
      pub alone : (lines : List (Line G V)) (s : Slots G V) (n : ℕ) → Stands lines s n → (l m : Line G V) → In l lines → In m lines → Alone l m
      pub standing : (s : Slots G V) (n : ℕ) → Stands (roll both_ended).lines s n → Standing s n
      pub ended_for_good : (new : Held G V) → Carried second.calls (ended first []) (record { slot = 1; gen = g; value = u }) new → ⊥
      pub told : (s : Slots G V) (d : Directory G (Ptr G)) → Traced alike itself d s first (second ∷ []) [] [] → Told s d

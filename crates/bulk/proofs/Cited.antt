-- A list edit's questions, and what it makes of the slots.
use Rattle.std.proofs.Common.{◌≡◌, ℕ, zero, suc, ◌+◌, ◌<◌, ◌≤◌, Bool, true, false, not, cond, eqb, List, [], ◌∷◌, ◌++◌, ◌&&◌, length, Some, None, Option, is_some, refl, ap, arith}
use Rattle.std.specs.List.{slice_get, list_all}
use Rattle.std.proofs.lemmas.List.Folds.{list_all-map}
use Rattle.std.proofs.lemmas.Grind.{common_steps}
use Rattle.std.proofs.lemmas.Option.{gets, slice_get_past}
use Rattle.kinds.specs.declared.slot.DirectSlot.{DirectSlot}
use Rattle.kinds.specs.declared.slot.DirectSlot.TheVariants.{Allocated}
use Rattle.history.specs.Slots.{Slots, Held, or_free, at, is_held, held, write}
use Rattle.history.specs.Calls.{other_than, distinct, went}
use Rattle.history.specs.Mapped.{records, in_place, those_at, those_named, put_all}
use Rattle.slots.specs.Records.{record_in, named}
use Rattle.slots.proofs.Places.{write_held}
use Rattle.outcome.specs.Outcome.{Outcome, done, overflowed, refused}
use Rattle.bulk.specs.Given.{given, left}
use Rattle.bulk.specs.Edits.{numbers, first_unconverted, all_held, then_asked, scanned, fit, edits_refusal, edits_answer}

pub ruleset mapped_all = (list_all-map)

module _ {G V : Type 0} where
  abbrev listed : Option (Held G V) → List (Held G V)
  listed None = []
  listed (Some h) = h ∷ []

  those_below : (s : Slots G V) (n k : ℕ) → n < k → those_at n (held k s) ≡ []
  those_below [] n k l = refl
  those_below (x ∷ s) n k l = grind (arith, those_below s n (suc k))

  those_from : (s : Slots G V) (i k n : ℕ) → n ≡ k + i → those_at n (held k s) ≡ listed (record_in n (or_free (slice_get s i)))
  those_from [] i k n e = grind arith
  those_from (x ∷ s) zero k n e = grind (arith, those_below s n (suc k))
  those_from (x ∷ s) (suc i) k n e = grind (arith, those_from s i (suc k) n)

  -- the records at a slot: one, or none
  those_is : (n : ℕ) (s : Slots G V) → those_at n (records s) ≡ listed (named n s)
  those_is zero s = grind (arith, those_below s 0 1)
  those_is (suc i) s = grind (arith, those_from s i 1 (suc i))

  -- a write at one slot, which holds a record, leaves those of others
  write_other : (m n : ℕ) (x : DirectSlot G V) (s : Slots G V) → is_held (at n s) ≡ true → eqb n m ≡ false → at m (write n x s) ≡ at m s
  write_other m n x s a h = grind (arith, common_steps, gets, write_held s n x a)

  others_same : (ns : List ℕ) (n : ℕ) (x : DirectSlot G V) (s : Slots G V) → is_held (at n s) ≡ true → other_than n ns ≡ true →
      (those_named ns (records (write n x s)) ≡ those_named ns (records s)) × (all_held ns (write n x s) ≡ all_held ns s)
  others_same [] n x s a h = (refl, refl)
  others_same (m ∷ ns) n x s a h = grind (arith, others_same ns n x s, write_other m n x s, those_is m s, those_is m (write n x s))

other_push : (k n : ℕ) (ns : List ℕ) → other_than k (ns ++ n ∷ []) ≡ (other_than k ns && not (eqb k n))
other_push k n [] = grind arith
other_push k n (m ∷ ns) = grind (arith, other_push k n ns)

-- a scan that goes through has found no number twice
after_all : (slots k : ℕ) (before ns : List ℕ) → other_than k before ≡ false → went (scanned slots before ns) ≡ true → other_than k ns ≡ true
after_all slots k before [] h e = refl
after_all slots k before (n ∷ ns) h e = grind (arith, other_push k n before, after_all slots k (before ++ n ∷ []) ns)

scanned_apart : (slots : ℕ) (before ns : List ℕ) → went (scanned slots before ns) ≡ true → distinct ns ≡ true
scanned_apart slots before [] e = refl
scanned_apart slots before (n ∷ ns) e = grind (arith, other_push n n before, after_all slots n (before ++ n ∷ []) ns, scanned_apart slots (before ++ n ∷ []) ns)

both_went : (a b : Outcome (Unit {0})) → went (then_asked a b) ≡ true → (went a ≡ true) × (went b ≡ true)
both_went (done u) b e = (refl, e)
both_went (overflowed u) b e = (refl, e)
both_went (refused k) b e = cc

pub accepted : {G V : Type 0} (ns : List ℕ) (s : Slots G V) → went (edits_answer ns s) ≡ true → (all_held ns s ≡ true) × (distinct ns ≡ true)
accepted ns s e = grind (arith, both_went, scanned_apart (length s) [] ns)

held_within : {G V : Type 0} (n : ℕ) (s : Slots G V) → is_held (at n s) ≡ true → (eqb n 0 ≡ false) × (n ≤ length s)
held_within zero s h = cc
held_within (suc i) s h = grind (arith, slice_get_past s i)

-- slots that are allocated are there, and their indices convert
held_converted : {G V : Type 0} (ns : List ℕ) (s : Slots G V) → all_held ns s ≡ true → is_some (first_unconverted ns) ≡ false
held_converted [] s h = refl
held_converted (n ∷ ns) s h = grind (arith, held_within n s, held_converted ns s)

others_push : (before : List ℕ) (n : ℕ) (ns : List ℕ) → list_all (λ m. other_than m before) ns ≡ true → other_than n ns ≡ true → list_all (λ m. other_than m (before ++ n ∷ [])) ns ≡ true
others_push before n [] h o = refl
others_push before n (m ∷ ns) h o = grind (arith, other_push m n before, others_push before n ns)

scanned_all : {G V : Type 0} (before ns : List ℕ) (s : Slots G V) → list_all (λ m. other_than m before) ns ≡ true → distinct ns ≡ true → all_held ns s ≡ true → scanned (length s) before ns ≡ done tt
scanned_all before [] s o d h = refl
scanned_all before (n ∷ ns) s o d h = grind (arith, held_within n s, others_push before n ns, scanned_all (before ++ n ∷ []) ns s)

none_before : (ns : List ℕ) → list_all (λ m. other_than m []) ns ≡ true
none_before [] = refl
none_before (n ∷ ns) = none_before ns

pub fits : {G V : Type 0} (ns : List ℕ) (s : Slots G V) → fit ns s ≡ true → (edits_answer ns s ≡ done tt) × (all_held ns s ≡ true) × (distinct ns ≡ true)
fits ns s e = grind (arith, held_converted ns s, none_before ns, scanned_all [] ns s)

refused_first : (a b c : Outcome (Unit {0})) → went a ≡ false → then_asked a b ≡ then_asked a c
refused_first (done u) b c e = cc
refused_first (overflowed u) b c e = cc
refused_first (refused k) b c e = refl

after_asked : (b : Bool) (a : Outcome (Unit {0})) → went (cond b (refused 4) (then_asked a (refused 4))) ≡ false
after_asked true a = refl
after_asked false (done u) = refl
after_asked false (overflowed u) = refl
after_asked false (refused k) = refl

pub refuses : (ns : List ℕ) (slots : ℕ) → went (edits_refusal ns slots) ≡ false
refuses ns slots = after_asked (is_some (first_unconverted ns)) (scanned slots [] ns)

pub unfit : {G V : Type 0} (ns : List ℕ) (s : Slots G V) → fit ns s ≡ false → edits_answer ns s ≡ edits_refusal ns (length s)
unfit ns s e = grind (arith, scanned_apart (length s) [] ns, refused_first (scanned (length s) [] ns) (done tt) (refused 4))

pub cite_themselves : (ns : List ℕ) → numbers (λ n. Some n) ns ≡ ns
cite_themselves [] = refl
cite_themselves (n ∷ ns) = ap (λ t. n ∷ t) (cite_themselves ns)

module _ {W I G P V : Type 0} (next : W → P → P → V → W) (mapped : W → P → P → V → V) (indexed : ℕ → I) (made : I → G → P) where
  -- what is left to do of a list edit, by the numbers that are left and the mapper's state
  abbrev pub slots_then : List ℕ → W → Slots G V → Slots G V
  slots_then ns w s = put_all ns (given next mapped indexed made w (in_place (those_named ns (records s)))) s

  abbrev pub state_then : List ℕ → W → Slots G V → W
  state_then ns w s = left next mapped indexed made w (in_place (those_named ns (records s)))

  pub edit_step : (n : ℕ) (ns : List ℕ) (w : W) (s : Slots G V) (g : G) (v : V) → at n s ≡ Allocated g v → other_than n ns ≡ true →
      let p = made (indexed n) g in
      let t = write n (Allocated g (mapped w p p v)) s in
      (slots_then (n ∷ ns) w s ≡ slots_then ns (next w p p v) t) × (state_then (n ∷ ns) w s ≡ state_then ns (next w p p v) t) × (all_held ns t ≡ all_held ns s)
  edit_step n ns w s g v e h = grind (arith, those_is n s, others_same ns n (Allocated g (mapped w (made (indexed n) g) (made (indexed n) g) v)) s)

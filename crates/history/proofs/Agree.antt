-- The slots are those of the lines, in their order, and stay so under each call.
use Rattle.std.proofs.Common.{◌≡◌, ℕ, zero, suc, ◌+◌, ◌-◌, ◌<◌, ◌≤◌, Bool, true, false, ◌&&◌, leb, List, [], ◌∷◌, ◌++◌, map, length, is_some, Some, None, Option, cond, refl, ap, append-nil, append_assoc, arith}
use Rattle.std.specs.List.{slice_get}
use Rattle.std.proofs.lemmas.Bool.{le-ltb, eq-eqb, ne_eqb}
use Rattle.kinds.specs.declared.slot.DirectSlot.TheVariants.{Free, Allocated}
use Rattle.history.specs.Slots.{Slots, Held, or_free, at, held, is_free, with_value, place, write, pop_free, trimmed}
use Rattle.history.specs.Mapped.{rest, packed, put_all, settle, rising, freed}
use Rattle.history.specs.Recasts.{Recasting, or_kept, recast_each, recast_until, allocated, join_each}
use Rattle.history.specs.Calls.{slot_of, slots_of, Call, insert, edit, edit_all, remove, drain, clear, bring, hand_over, compress, recast, join, trim, reallocate, limit, Entry, after, asks, Step}
use Rattle.history.specs.Roll.{Line, Roll, standing, enter, put_in, put_each, without, resettled, recast_line, recast_lines_until, recastable, numbered, rolled}

abbrev pub line : {G V : Type 0} → ℕ → ℕ → G → V → Line G V
line i k g v = record { number = i; stand = record { slot = k; gen = g; value = v } }

-- the slots from k on are those of the lines
pub data Agrees (G V : Type 0) : ℕ → Slots G V → List (Line G V) → Type 0 where
  none : {k : ℕ} → Agrees G V k [] []
  free : {k : ℕ} {s : Slots G V} {ls : List (Line G V)} → Agrees G V (suc k) s ls → Agrees G V k (Free ∷ s) ls
  full : {k i : ℕ} {g : G} {v : V} {s : Slots G V} {ls : List (Line G V)} → Agrees G V (suc k) s ls → Agrees G V k (Allocated g v ∷ s) (line i k g v ∷ ls)

full' : {G V : Type 0} {k m i : ℕ} {g : G} {v : V} {s : Slots G V} {ls : List (Line G V)} → m ≡ k → Agrees G V (suc k) s ls → Agrees G V k (Allocated g v ∷ s) (line i m g v ∷ ls)
full' e a = rw e (full a)

enter_first : {G V : Type 0} {k : ℕ} {s : Slots G V} {ls : List (Line G V)} → (l : Line G V) → l.stand.slot < k → Agrees G V k s ls → enter l ls ≡ l ∷ ls
enter_first l h none = refl
enter_first l h (free a) = enter_first l (omega arith) a
enter_first l h (full a) = grind arith

enter_agrees : {G V : Type 0} {k : ℕ} {s : Slots G V} {ls : List (Line G V)} → (n i m : ℕ) (g : G) (v : V) → m ≡ k + n → or_free (slice_get s n) ≡ Free → Agrees G V k s ls → Agrees G V k (place n (Allocated g v) s) (enter (line i m g v) ls)
enter_agrees zero i m g v e f none = full' (omega arith) none
enter_agrees (suc n) i m g v e f none = free (enter_agrees n i m g v (omega arith) refl none)
enter_agrees zero i m g v e f (free a) = rw (enter_first (line i m g v) (omega arith) a) (full' (omega arith) a)
enter_agrees (suc n) i m g v e f (free a) = free (enter_agrees n i m g v (omega arith) f a)
enter_agrees zero i m g v e f (full a) = cc
enter_agrees {k = k} (suc n) i m g v e f (full a) = rw (le-ltb m k (omega arith)) (full (enter_agrees n i m g v (omega arith) f a))

without_none : {G V : Type 0} {k : ℕ} {s : Slots G V} {ls : List (Line G V)} → (m : ℕ) → m < k → Agrees G V k s ls → without m ls ≡ ls
without_none m h none = refl
without_none m h (free a) = without_none m (omega arith) a
without_none m h (full a) = grind (arith, without_none m (omega arith) a)

without_agrees : {G V : Type 0} {k : ℕ} {s : Slots G V} {ls : List (Line G V)} → (n m : ℕ) → m ≡ k + n → Agrees G V k s ls → Agrees G V k (place n Free s) (without m ls)
without_agrees zero m e none = free none
without_agrees (suc n) m e none = free (without_agrees n m (omega arith) none)
without_agrees zero m e (free a) = rw (without_none m (omega arith) a) (free a)
without_agrees (suc n) m e (free a) = free (without_agrees n m (omega arith) a)
without_agrees {k = k} zero m e (full a) = rw (eq-eqb k m (omega arith), without_none m (omega arith) a) (free a)
without_agrees {k = k} (suc n) m e (full a) = rw (ne_eqb k m (omega arith)) (full (without_agrees n m (omega arith) a))

put_none : {G V : Type 0} {k : ℕ} {s : Slots G V} {ls : List (Line G V)} → (m : ℕ) (v : V) → m < k → Agrees G V k s ls → put_in m v ls ≡ ls
put_none m v h none = refl
put_none m v h (free a) = put_none m v (omega arith) a
put_none m v h (full a) = grind (arith, put_none m v (omega arith) a)

put_agrees : {G V : Type 0} {k : ℕ} {s : Slots G V} {ls : List (Line G V)} → (n m : ℕ) (v : V) → m ≡ k + n → Agrees G V k s ls → Agrees G V k (place n (with_value v (or_free (slice_get s n))) s) (put_in m v ls)
put_agrees zero m v e none = free none
put_agrees (suc n) m v e none = free (put_agrees n m v (omega arith) none)
put_agrees zero m v e (free a) = rw (put_none m v (omega arith) a) (free a)
put_agrees (suc n) m v e (free a) = free (put_agrees n m v (omega arith) a)
put_agrees {k = k} zero m v e (full a) = rw (eq-eqb k m (omega arith), put_none m v (omega arith) a) (full a)
put_agrees {k = k} (suc n) m v e (full a) = rw (ne_eqb k m (omega arith)) (full (put_agrees n m v (omega arith) a))

pop_agrees : {G V : Type 0} {k : ℕ} {s : Slots G V} {ls : List (Line G V)} → Agrees G V k s ls → Agrees G V k (pop_free s) ls
pop_agrees none = none
pop_agrees (free none) = none
pop_agrees (free (free a)) = free (pop_agrees (free a))
pop_agrees (free (full a)) = free (pop_agrees (full a))
pop_agrees (full none) = full none
pop_agrees (full (free a)) = full (pop_agrees (free a))
pop_agrees (full (full a)) = full (pop_agrees (full a))

trim_agrees : {G V : Type 0} {k : ℕ} {s : Slots G V} {ls : List (Line G V)} → (n : ℕ) → Agrees G V k s ls → Agrees G V k (trimmed n s) ls
trim_agrees zero a = a
trim_agrees (suc n) a = trim_agrees n (pop_agrees a)

-- a record written, freed or given a value, at a slot's own number
insert_agrees : {G V : Type 0} {s : Slots G V} {ls : List (Line G V)} → (n i : ℕ) (g : G) (v : V) → leb 1 n && is_free (at n s) ≡ true → Agrees G V 1 s ls → Agrees G V 1 (write n (Allocated g v) s) (enter (line i n g v) ls)
insert_agrees zero i g v h a = cc
insert_agrees {s = s} (suc n) i g v h a = let f : or_free (slice_get s n) ≡ Free = grind arith in enter_agrees n i (suc n) g v (omega arith) f a

edit_agrees : {G V : Type 0} {s : Slots G V} {ls : List (Line G V)} → (n : ℕ) (v : V) → Agrees G V 1 s ls → Agrees G V 1 (write n (with_value v (at n s)) s) (put_in n v ls)
edit_agrees zero v a = rw (put_none 0 v (omega arith) a) a
edit_agrees {s = s} (suc n) v a = let q : at (suc n) s ≡ or_free (slice_get s n) = grind arith in rw q (put_agrees n (suc n) v (omega arith) a)

remove_agrees : {G V : Type 0} {s : Slots G V} {ls : List (Line G V)} → (n : ℕ) → Agrees G V 1 s ls → Agrees G V 1 (write n Free s) (without n ls)
remove_agrees zero a = rw (without_none 0 (omega arith) a) a
remove_agrees (suc n) a = without_agrees n (suc n) (omega arith) a

-- the records of the slots are those of the lines
pub records_of : {G V : Type 0} {k : ℕ} {s : Slots G V} {ls : List (Line G V)} → Agrees G V k s ls → held k s ≡ standing ls
records_of none = refl
records_of (free a) = records_of a
records_of (full a) = rw (records_of a) refl

put_all_agrees : {G V : Type 0} (ns : List ℕ) (vs : List V) {s : Slots G V} {ls : List (Line G V)} → Agrees G V 1 s ls → Agrees G V 1 (put_all ns vs s) (put_each ns vs ls)
put_all_agrees [] vs a = a
put_all_agrees (n ∷ ns) [] a = a
put_all_agrees (n ∷ ns) (v ∷ vs) a = put_all_agrees ns vs (edit_agrees n v a)

-- a record brought in behind all others
behind_agrees : {G V : Type 0} {k : ℕ} {s : Slots G V} {ls : List (Line G V)} → (n i m : ℕ) (g : G) (v : V) → m ≡ k + n → length s ≤ n → Agrees G V k s ls → (Agrees G V k (place n (Allocated g v) s) (ls ++ line i m g v ∷ [])) × (length (place n (Allocated g v) s) ≡ suc n)
behind_agrees zero i m g v e h none = (full' (omega arith) none, refl)
behind_agrees (suc n) i m g v e h none = let b = behind_agrees n i m g v (omega arith) (omega arith) none in (free b.0, ap suc b.1)
behind_agrees zero i m g v e h (free a) = absurd (omega arith)
behind_agrees zero i m g v e h (full a) = absurd (omega arith)
behind_agrees (suc n) i m g v e h (free a) = let b = behind_agrees n i m g v (omega arith) (omega arith) a in (free b.0, ap suc b.1)
behind_agrees (suc n) i m g v e h (full a) = let b = behind_agrees n i m g v (omega arith) (omega arith) a in (full b.0, ap suc b.1)

pub write_behind : {G V : Type 0} (x : Held G V) (i : ℕ) (s : Slots G V) (ls : List (Line G V)) → length s < x.slot → Agrees G V 1 s ls →
    (Agrees G V 1 (write x.slot (Allocated x.gen x.value) s) (ls ++ record { number = i; stand = x } ∷ [])) × (length (write x.slot (Allocated x.gen x.value) s) ≡ x.slot)
write_behind {G} {V} x i s ls h a = go x.slot refl
  where
    go : (n : ℕ) → x.slot ≡ n → (Agrees G V 1 (write n (Allocated x.gen x.value) s) (ls ++ record { number = i; stand = x } ∷ [])) × (length (write n (Allocated x.gen x.value) s) ≡ n)
    go zero e = absurd (omega arith)
    go (suc n) e = behind_agrees n i x.slot x.gen x.value (omega arith) (omega arith) a

pub settle_agrees : {G V : Type 0} (hs : List (Held G V)) (i : ℕ) (s : Slots G V) (ls : List (Line G V)) → rising (length s) hs ≡ true → Agrees G V 1 s ls → Agrees G V 1 (settle s hs) (ls ++ numbered i hs)
settle_agrees [] i s ls h a = rw (append-nil ls) a
settle_agrees (x ∷ hs) i s ls h a =
    let b = write_behind x i s ls (grind arith) a in
    rw (← append_assoc ls (record { number = i; stand = x } ∷ []) (numbered (suc i) hs)) (settle_agrees hs (suc i) _ _ (grind arith) b.0)

freed_agrees : {G V : Type 0} (k : ℕ) (s : Slots G V) → Agrees G V k (freed s) []
freed_agrees k [] = none
freed_agrees k (x ∷ s) = free (freed_agrees (suc k) s)

packed_agrees : {G V : Type 0} (k : ℕ) (vs : List V) (ls : List (Line G V)) → Agrees G V k (packed vs (standing ls)) (resettled k vs ls)
packed_agrees k vs [] = none
packed_agrees k vs (l ∷ ls) = full (packed_agrees (suc k) (rest vs) ls)

recast_agrees : {G V : Type 0} {k : ℕ} {s : Slots G V} {ls : List (Line G V)} → (q : Recasting V) → Agrees G V k s ls → Agrees G V k (recast_each q s) (map (recast_line q) ls)
recast_agrees q none = none
recast_agrees q (free a) = free (recast_agrees q a)
recast_agrees q (full a) = full (recast_agrees q a)

-- a slot's value recast if it is held, and what stands behind it as it is if not
until_next : {G V : Type 0} {k : ℕ} {s t : Slots G V} {ls ms : List (Line G V)} → (i : ℕ) (g : G) (v : V) (o : Option V) → Agrees G V (suc k) s ls → Agrees G V (suc k) t ms →
    Agrees G V k (cond (is_some o) (Allocated g (or_kept v o) ∷ t) (Allocated g v ∷ s)) (cond (is_some o) (line i k g (or_kept v o) ∷ ms) (line i k g v ∷ ls))
until_next i g v None a b = full a
until_next i g v (Some u) a b = full b

until_agrees : {G V : Type 0} {k : ℕ} {s : Slots G V} {ls : List (Line G V)} → (q : Recasting V) → Agrees G V k s ls → Agrees G V k (recast_until q s) (recast_lines_until q ls)
until_agrees q none = none
until_agrees q (free a) = free (until_agrees q a)
until_agrees q (full {i = i} {g = g} {v = v} a) = until_next i g v (q v) a (until_agrees q a)

map_cond : {X Y : Type 0} (f : X → Y) (b : Bool) (x : X) (xs : List X) → map f (cond b (x ∷ xs) xs) ≡ cond b (f x ∷ map f xs) (map f xs)
map_cond f true x xs = refl
map_cond f false x xs = refl

join_next : {G V : Type 0} {k : ℕ} {s : Slots G V} {ls : List (Line G V)} → (i : ℕ) (g : G) (v : V) (o : Option V) → Agrees G V (suc k) s ls →
    Agrees G V k (allocated g o ∷ s) (cond (is_some o) (line i k g (or_kept v o) ∷ ls) ls)
join_next i g v None a = free a
join_next i g v (Some u) a = full a

join_agrees : {G V : Type 0} {k : ℕ} {s : Slots G V} {ls : List (Line G V)} → (q : Recasting V) → Agrees G V k s ls → Agrees G V k (join_each q s) (map (recast_line q) (recastable q ls))
join_agrees q none = none
join_agrees q (free a) = free (join_agrees q a)
join_agrees q (full {k = k} {i = i} {g = g} {v = v} {ls = ls} a) = rw (map_cond (recast_line q) (is_some (q v)) (line i k g v) (recastable q ls)) (join_next i g v (q v) (join_agrees q a))

module _ {G V : Type 0} (alike : G → G → Bool) (r : Roll G V) (s : Slots G V) (a : Agrees G V 1 s r.lines) where
  call_agrees : (c : Call G V) (b : Bool) → (b ≡ true → asks alike c s ≡ true) → Agrees G V 1 (after (record { call = c; accepted = b }) s) (rolled (record { call = c; accepted = b }) r).lines
  call_agrees (insert p v) true h = insert_agrees p.slot r.next p.gen v (h refl) a
  call_agrees (edit name v) true h = edit_agrees (slot_of name) v a
  call_agrees (edit_all names f) true h = rw (records_of a) (put_all_agrees (slots_of names) _ a)
  call_agrees (remove name) true h = remove_agrees (slot_of name) a
  call_agrees (drain None) true h = a
  call_agrees (drain (Some p)) true h = remove_agrees p.slot a
  call_agrees clear true h = none
  call_agrees (bring hs) true h = settle_agrees hs r.next [] [] (h refl) none
  call_agrees hand_over true h = freed_agrees 1 s
  call_agrees (compress f) true h = rw (records_of a) (packed_agrees 1 _ r.lines)
  call_agrees (recast q) true h = recast_agrees q a
  call_agrees (join q) true h = join_agrees q a
  call_agrees (trim k) true h = trim_agrees k a
  call_agrees (reallocate n) true h = trim_agrees (length s - n) a
  call_agrees (limit l) true h = trim_agrees (length s - l) a
  call_agrees (insert p v) false h = a
  call_agrees (edit name v) false h = a
  call_agrees (edit_all names f) false h = a
  call_agrees (remove name) false h = a
  call_agrees (drain p) false h = a
  call_agrees clear false h = a
  call_agrees (bring hs) false h = a
  call_agrees hand_over false h = a
  call_agrees (compress f) false h = a
  call_agrees (recast q) false h = until_agrees q a
  call_agrees (join q) false h = a
  call_agrees (trim k) false h = a
  call_agrees (reallocate n) false h = trim_agrees (length s - n) a
  call_agrees (limit l) false h = trim_agrees (length s - l) a

  pub step_agrees : (e : Entry G V) (t : Slots G V) → Step alike e s t → Agrees G V 1 t (rolled e r).lines
  step_agrees e t x = rw x.slots (call_agrees e.call e.accepted x.asked)

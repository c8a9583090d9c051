-- Each line after a call is a new one, or comes from a line before it.
use Rattle.std.proofs.Common.{◌≡◌, ℕ, suc, ◌+◌, ◌≤◌, Bool, true, false, cond, eqb, ◌⊎◌, List, [], ◌∷◌, ◌++◌, map, is_some, Some, None, Option, refl, ap, inl, inr, arith}
use Rattle.std.specs.List.{slice_get}
use Rattle.history.specs.Slots.{Held, ptr, revalued}
use Rattle.history.specs.Mapped.{rest, moving, pairs}
use Rattle.history.specs.Recasts.{Recasting, or_kept, recast_or_kept}
use Rattle.history.specs.Calls.{slot_of, slots_of, Call, insert, edit, edit_all, remove, drain, clear, bring, hand_over, compress, recast, join, trim, reallocate, limit, Entry, recast_of}
use Rattle.history.specs.Roll.{Line, Roll, standing, enter, valued, put_in, put_each, without, resettled, recast_line, recast_lines_until, recastable, numbered, rolled}
use Rattle.history.specs.Laws.{In, latest, Until, Passes, Brings}

-- what is in a mapped list, comes from what is in the list
pub in_map : {X Y : Type 0} (f : X → Y) (y : Y) (xs : List X) → In y (map f xs) → (x : X) × In x xs × (y ≡ f x)
in_map f y [] i = absurd i
in_map f y (x ∷ xs) (inl e) = (x, inl refl, e)
in_map f y (x ∷ xs) (inr i) = let b = in_map f y xs i in (b.0, inr b.1, b.2)

pub map_in : {X Y : Type 0} (f : X → Y) (x : X) (xs : List X) → In x xs → In (f x) (map f xs)
map_in f x [] i = absurd i
map_in f x (y ∷ ys) (inl e) = inl (ap f e)
map_in f x (y ∷ ys) (inr i) = inr (map_in f x ys i)

unheld : {V : Type 0} (q : Recasting V) (v : V) → is_some (q v) ≡ false → recast_or_kept q v ≡ v
unheld q v h = grind arith

module _ {G V : Type 0} where
  -- a line that an accepted call adds
  pub record New (e : Entry G V) (r : Roll G V) (m : Line G V) : Type 0 where
    pub place : ℕ
    pub went : e.accepted ≡ true
    pub brought : Brings e.call place m.stand
    pub number : m.number ≡ r.next + place

  -- the line before the call that m was
  pub record Stem (e : Entry G V) (ls : List (Line G V)) (m : Line G V) : Type 0 where
    pub line : Line G V
    pub was : In line ls
    pub number : line.number ≡ m.number
    pub passes : Passes e (standing ls) line.stand m.stand

  in_enter : (l m : Line G V) (ls : List (Line G V)) → In m (enter l ls) → (m ≡ l) ⊎ In m ls
  in_enter l m [] i = grind arith
  in_enter l m (k ∷ ks) i = grind (arith, in_enter l m ks)

  then_put : (n : ℕ) (v : V) (ns : List ℕ) (vs : List V) (l k m : Line G V) → k ≡ cond (eqb l.stand.slot n) (valued v l) l →
      m ≡ record { number = k.number; stand = record { slot = k.stand.slot; gen = k.stand.gen; value = latest k.stand.slot ns vs k.stand.value } } →
      m ≡ record { number = l.number; stand = record { slot = l.stand.slot; gen = l.stand.gen; value = latest l.stand.slot (n ∷ ns) (v ∷ vs) l.stand.value } }
  then_put n v ns vs l k m e d = grind arith

  in_put_each : (ns : List ℕ) (vs : List V) (m : Line G V) (ls : List (Line G V)) → In m (put_each ns vs ls) →
      (l : Line G V) × In l ls × (m ≡ record { number = l.number; stand = record { slot = l.stand.slot; gen = l.stand.gen; value = latest l.stand.slot ns vs l.stand.value } })
  in_put_each [] vs m ls i = (m, i, refl)
  in_put_each (n ∷ ns) [] m ls i = (m, i, refl)
  in_put_each (n ∷ ns) (v ∷ vs) m ls i =
      let b = in_put_each ns vs m (put_in n v ls) i in
      let a = in_map (λ (l : Line G V). cond (eqb l.stand.slot n) (valued v l) l) b.0 ls b.1 in
      (a.0, a.1, then_put n v ns vs a.0 b.0 m a.2 b.2)

  in_without : (n : ℕ) (m : Line G V) (ls : List (Line G V)) → In m (without n ls) → In m ls
  in_without n m [] i = absurd i
  in_without n m (l ∷ ls) i = grind (arith, in_without n m ls)

  in_numbered : (k : ℕ) (hs : List (Held G V)) (m : Line G V) → In m (numbered k hs) → (i : ℕ) × (slice_get hs i ≡ Some m.stand) × (m.number ≡ k + i)
  in_numbered k [] m i = absurd i
  in_numbered k (h ∷ hs) m (inl e) = (0, grind arith, grind arith)
  in_numbered k (h ∷ hs) m (inr i) = let b = in_numbered (suc k) hs m i in (suc b.0, b.1, omega (arith, b.2))

  -- a line that came to the slots from k on, its place among them counted from 0
  record Resettled (k : ℕ) (vs : List V) (ls : List (Line G V)) (m : Line G V) : Type 0 where
    line : Line G V
    place : ℕ
    was : In line ls
    number : line.number ≡ m.number
    reported : In (record { old = ptr line.stand; new = ptr m.stand }) (pairs (moving k (standing ls)))
    gen : m.stand.gen ≡ line.stand.gen
    slot : m.stand.slot ≡ k + place
    value : m.stand.value ≡ or_kept line.stand.value (slice_get vs place)

  in_resettled : (k : ℕ) (vs : List V) (ls : List (Line G V)) (m : Line G V) → In m (resettled k vs ls) → Resettled k vs ls m
  in_resettled k vs [] m i = absurd i
  in_resettled k vs (l ∷ ls) m (inl e) = record { line = l; place = 0; was = inl refl; number = grind arith; reported = inl (grind arith); gen = grind arith; slot = grind arith; value = grind arith }
  in_resettled k vs (l ∷ ls) m (inr i) =
      let b = in_resettled (suc k) (rest vs) ls m i in
      record { line = b.line; place = suc b.place; was = inr b.was; number = b.number; reported = inr b.reported; gen = b.gen; slot = omega (arith, b.slot); value = grind (arith, b.value) }

  valued_stem : (name-slot : ℕ) (v : V) (l m : Line G V) → m ≡ cond (eqb l.stand.slot name-slot) (valued v l) l →
      (l.number ≡ m.number) × (m.stand ≡ cond (eqb l.stand.slot name-slot) (record { slot = l.stand.slot; gen = l.stand.gen; value = v }) l.stand)
  valued_stem n v l m e = grind arith

  in_recastable : (q : Recasting V) (m : Line G V) (ls : List (Line G V)) → In m (recastable q ls) → In m ls × (is_some (q m.stand.value) ≡ true)
  in_recastable q m [] i = absurd i
  in_recastable q m (l ∷ ls) i = grind (arith, in_recastable q m ls)

  joined : (q : Recasting V) (l m : Line G V) → is_some (q l.stand.value) ≡ true → m ≡ recast_line q l → (q l.stand.value ≡ Some m.stand.value) × (m.stand ≡ revalued m.stand.value l.stand)
  joined q l m h e = (grind arith, grind arith)

  -- what a recast leaves that stops: a line's value is recast if all before it are held
  record Reached (q : Recasting V) (ls : List (Line G V)) (m : Line G V) : Type 0 where
    line : Line G V
    was : In line ls
    number : line.number ≡ m.number
    until : Until q (standing ls) line.stand m.stand

  reached_first : (q : Recasting V) (l m : Line G V) (ls : List (Line G V)) → m ≡ recast_line q l → Reached q (l ∷ ls) m
  reached_first q l m ls e = record {
    line = l;
    was = inl refl;
    number = grind arith;
    until = record { lower = []; higher = standing ls; parts = refl; value = cc };
  }

  reached_next : (q : Recasting V) (l m : Line G V) (ls : List (Line G V)) → is_some (q l.stand.value) ≡ true → Reached q ls m → Reached q (l ∷ ls) m
  reached_next q l m ls h b = record {
    line = b.line;
    was = inr b.was;
    number = b.number;
    until = record { lower = l.stand ∷ b.until.lower; higher = b.until.higher; parts = cc b.until.parts; value = rw h b.until.value };
  }

  parted : (m : Line G V) (ls : List (Line G V)) → In m ls → (front : List (Held G V)) × (back : List (Held G V)) × (standing ls ≡ front ++ m.stand ∷ back)
  parted m [] i = absurd i
  parted m (l ∷ ls) (inl e) = ([], standing ls, grind arith)
  parted m (l ∷ ls) (inr i) = let b = parted m ls i in (l.stand ∷ b.0, b.1, cc b.2)

  -- a line that a recast did not come to, behind one whose value is not held
  reached_not : (q : Recasting V) (l m : Line G V) (ls : List (Line G V)) → is_some (q l.stand.value) ≡ false → In m (l ∷ ls) → Reached q (l ∷ ls) m
  reached_not q l m ls h (inl e) = record {
    line = l;
    was = inl refl;
    number = grind arith;
    until = record { lower = []; higher = standing ls; parts = refl; value = grind (arith, unheld q l.stand.value h) };
  }
  reached_not q l m ls h (inr i) =
      let b = parted m ls i in
      record {
        line = m;
        was = inr i;
        number = refl;
        until = record { lower = l.stand ∷ b.0; higher = b.1; parts = cc b.2; value = rw h refl };
      }

  in_until : (q : Recasting V) (m : Line G V) (ls : List (Line G V)) → In m (recast_lines_until q ls) → Reached q ls m
  in_until q m [] i = absurd i
  in_until q m (l ∷ ls) i = by_held (is_some (q l.stand.value)) refl i (in_until q m ls)
    where
      by_held : (b : Bool) → is_some (q l.stand.value) ≡ b → In m (cond (is_some (q l.stand.value)) (recast_line q l ∷ recast_lines_until q ls) (l ∷ ls)) →
          (In m (recast_lines_until q ls) → Reached q ls m) → Reached q (l ∷ ls) m
      by_held true h j others = elim (rw h at j) [ inl d ↦ reached_first q l m ls d | inr k ↦ reached_next q l m ls h (others k) ]
      by_held false h j others = reached_not q l m ls h (rw h at j)

  refused_stems : (c : Call G V) (o : Option (Recasting V)) → recast_of c ≡ o → (r : Roll G V) (m : Line G V) → In m (rolled (record { call = c; accepted = false }) r).lines →
      New (record { call = c; accepted = false }) r m ⊎ Stem (record { call = c; accepted = false }) r.lines m
  refused_stems c None e r m i = inr (record { line = m; was = rw e at i; number = refl; passes = rw e refl })
  refused_stems c (Some q) e r m i = let b = in_until q m r.lines (rw e at i) in inr (record { line = b.line; was = b.was; number = b.number; passes = rw e b.until })

  call_stems : (c : Call G V) (b : Bool) (r : Roll G V) (m : Line G V) → In m (rolled (record { call = c; accepted = b }) r).lines → New (record { call = c; accepted = b }) r m ⊎ Stem (record { call = c; accepted = b }) r.lines m
  call_stems (insert p v) true r m i = elim (in_enter _ m r.lines i) [
    | inl e ↦ inl (record { place = 0; went = refl; brought = (refl, cc); number = grind arith })
    | inr j ↦ inr (record { line = m; was = j; number = refl; passes = refl })
  ]
  call_stems (edit name v) true r m i =
      let b = in_map (λ (l : Line G V). cond (eqb l.stand.slot (slot_of name)) (valued v l) l) m r.lines i in
      let d = valued_stem (slot_of name) v b.0 m b.2 in
      inr (record { line = b.0; was = b.1; number = d.0; passes = d.1 })
  call_stems (edit_all names f) true r m i =
      let b = in_put_each (slots_of names) _ m r.lines i in
      inr (record { line = b.0; was = b.1; number = cc; passes = cc })
  call_stems (remove name) true r m i = inr (record { line = m; was = in_without (slot_of name) m r.lines i; number = refl; passes = refl })
  call_stems (drain None) true r m i = inr (record { line = m; was = i; number = refl; passes = refl })
  call_stems (drain (Some p)) true r m i = inr (record { line = m; was = in_without p.slot m r.lines i; number = refl; passes = refl })
  call_stems clear true r m i = absurd i
  call_stems (bring hs) true r m i = let b = in_numbered r.next hs m i in inl (record { place = b.0; went = refl; brought = b.1; number = b.2 })
  call_stems hand_over true r m i = absurd i
  call_stems (compress f) true r m i =
      let b = in_resettled 1 (f (moving 1 (standing r.lines))) r.lines m i in
      inr (record { line = b.line; was = b.was; number = b.number; passes = record { reported = b.reported; gen = b.gen; value = grind (arith, b.slot, b.value) } })
  call_stems (recast q) true r m i =
      let b = in_map (recast_line q) m r.lines i in
      inr (record { line = b.0; was = b.1; number = cc; passes = cc })
  call_stems (join q) true r m i =
      let b = in_map (recast_line q) m (recastable q r.lines) i in
      let a = in_recastable q b.0 r.lines b.1 in
      inr (record { line = b.0; was = a.0; number = cc; passes = joined q b.0 m a.1 b.2 })
  call_stems (trim k) true r m i = inr (record { line = m; was = i; number = refl; passes = refl })
  call_stems (reallocate n) true r m i = inr (record { line = m; was = i; number = refl; passes = refl })
  call_stems (limit l) true r m i = inr (record { line = m; was = i; number = refl; passes = refl })
  call_stems c false r m i = refused_stems c (recast_of c) refl r m i

  pub stems : (e : Entry G V) (r : Roll G V) (m : Line G V) → In m (rolled e r).lines → New e r m ⊎ Stem e r.lines m
  stems e r m i = call_stems e.call e.accepted r m i

  call_grows : (c : Call G V) (b : Bool) (r : Roll G V) → r.next ≤ (rolled (record { call = c; accepted = b }) r).next
  call_grows c b r = grind arith

  pub grows : (e : Entry G V) (r : Roll G V) → r.next ≤ (rolled e r).next
  grows e r = call_grows e.call e.accepted r

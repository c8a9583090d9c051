-- The laws over every history.
use Rattle.std.proofs.Common.{◌≡◌, ℕ, zero, suc, ◌+◌, ◌<◌, ◌≤◌, Bool, true, false, ◌⊎◌, List, [], ◌∷◌, ◌++◌, length, cond, sym, refl, ap, ◌∙◌, inl, inr, arith}
use Rattle.std.proofs.lemmas.Option.{slice_get_within}
use Rattle.std.specs.List.{slice_get}
use Rattle.kinds.specs.declared.slot.DirectSlot.TheVariants.{Allocated}
use Rattle.history.specs.Slots.{Slots, Held, ptr, or_free, at, count}
use Rattle.history.specs.Calls.{Call, Entry, Leads, still, next}
use Rattle.history.specs.Roll.{Line, Roll, standing, rolled, roll}
use Rattle.history.specs.Laws.{In, Stands, Arrived, Carries, Ordered, Brings, Follows, brought_in, arrivals}
use Rattle.history.proofs.Agree.{Agrees, none, free, full, line, records_of, step_agrees}
use Rattle.history.proofs.Stems.{New, Stem, stems, grows, map_in}
use Rattle.history.proofs.Moves.{lines_rise, passes_sent, follows_order}

module _ {G V : Type 0} where
  pub slot_low : {k : ℕ} {s : Slots G V} {ls : List (Line G V)} → Agrees G V k s ls → (l : Line G V) → In l ls → k ≤ l.stand.slot
  slot_low none l i = absurd i
  slot_low (free a) l i = omega (arith, slot_low a l i)
  slot_low (full a) l (inl e) = grind arith
  slot_low (full a) l (inr i) = omega (arith, slot_low a l i)

  slot_one : {k : ℕ} {s : Slots G V} {ls : List (Line G V)} → Agrees G V k s ls → (l m : Line G V) → In l ls → In m ls → l.stand.slot ≡ m.stand.slot → l ≡ m
  slot_one none l m i j e = absurd i
  slot_one (free a) l m i j e = slot_one a l m i j e
  slot_one (full a) l m (inl c) (inl d) e = cc
  slot_one (full a) l m (inl c) (inr j) e = grind (arith, slot_low a m j)
  slot_one (full a) l m (inr i) (inl d) e = grind (arith, slot_low a l i)
  slot_one (full a) l m (inr i) (inr j) e = slot_one a l m i j e

  each_at : {k : ℕ} {s : Slots G V} {ls : List (Line G V)} → Agrees G V k s ls → (n : ℕ) (l : Line G V) → In l ls → l.stand.slot ≡ k + n → or_free (slice_get s n) ≡ Allocated l.stand.gen l.stand.value
  each_at none n l i e = absurd i
  each_at (free a) zero l i e = absurd (omega (arith, slot_low a l i))
  each_at (free a) (suc n) l i e = each_at a n l i (omega arith)
  each_at (full a) zero l (inl d) e = grind arith
  each_at (full a) zero l (inr i) e = absurd (omega (arith, slot_low a l i))
  each_at (full a) (suc n) l (inl d) e = grind arith
  each_at (full a) (suc n) l (inr i) e = each_at a n l i (omega arith)

  only_at : {k : ℕ} {s : Slots G V} {ls : List (Line G V)} → Agrees G V k s ls → (n m : ℕ) (g : G) (v : V) → m ≡ k + n → or_free (slice_get s n) ≡ Allocated g v → (l : Line G V) × In l ls × (l.stand ≡ record { slot = m; gen = g; value = v })
  only_at none n m g v e d = cc
  only_at (free a) zero m g v e d = cc
  only_at (free a) (suc n) m g v e d = only_at a n m g v (omega arith) d
  only_at (full {k = k} {i = i} {g = h} {v = u} a) zero m g v e d = (line i k h u, inl refl, grind arith)
  only_at (full a) (suc n) m g v e d = let b = only_at a n m g v (omega arith) d in (b.0, inr b.1, b.2)

  counted_at : {k : ℕ} {s : Slots G V} {ls : List (Line G V)} → Agrees G V k s ls → count s ≡ length ls
  counted_at none = refl
  counted_at (free a) = counted_at a
  counted_at (full a) = ap suc (counted_at a)

  -- what a history keeps
  pub record Sound (r : Roll G V) (s : Slots G V) : Type 0 where
    pub agrees : Agrees G V 1 s r.lines
    pub below : (m : Line G V) → In m r.lines → m.number < r.next
    pub one : (m n : Line G V) → In m r.lines → In n r.lines → m.number ≡ n.number → m ≡ n

  -- where the call sent the pointer of the line that m was
  pub sent : (e : Entry G V) (ls : List (Line G V)) (m : Line G V) (x : Stem e ls m) → Follows e (standing ls) (ptr x.line.stand) (ptr m.stand) × (m.stand.gen ≡ x.line.stand.gen)
  sent e ls m x = passes_sent e (standing ls) x.line.stand m.stand x.passes

  -- two lines that were lines before keep their order
  stems_order : (e : Entry G V) (r : Roll G V) (s : Slots G V) → Sound r s → (m n : Line G V) (x : Stem e r.lines m) (y : Stem e r.lines n) →
      (x.line.stand.slot < y.line.stand.slot → m.stand.slot < n.stand.slot) × (x.line.stand.slot ≡ y.line.stand.slot → m.stand.slot ≡ n.stand.slot)
  stems_order e r s d m n x y = follows_order e (standing r.lines) (ptr x.line.stand) (ptr m.stand) (ptr y.line.stand) (ptr n.stand) (lines_rise d.agrees) (sent e r.lines m x).0 (sent e r.lines n y).0

  pub brings_one : (c : Call G V) (k : ℕ) (a b : Held G V) → Brings c k a → Brings c k b → a ≡ b
  brings_one c k a b x y = grind arith

  new_old : (e : Entry G V) (r : Roll G V) (s : Slots G V) → Sound r s → (m n : Line G V) → New e r m → Stem e r.lines n → m.number ≡ n.number → ⊥
  new_old e r s d m n x y k = omega (arith, d.below y.line y.was, x.number, y.number)

  new_one : (e : Entry G V) (r : Roll G V) (m n : Line G V) → New e r m → New e r n → m.number ≡ n.number → m ≡ n
  new_one e r m n x y k =
      let p : x.place ≡ y.place = omega (arith, x.number, y.number) in
      let b = brings_one e.call x.place m.stand n.stand x.brought (rw p y.brought) in
      grind arith

  step_one : (e : Entry G V) (r : Roll G V) (s t : Slots G V) → Sound r s → Agrees G V 1 t (rolled e r).lines → (m n : Line G V) → In m (rolled e r).lines → In n (rolled e r).lines → m.number ≡ n.number → m ≡ n
  step_one e r s t d a m n i j k = go (stems e r m i) (stems e r n j)
    where
      go : New e r m ⊎ Stem e r.lines m → New e r n ⊎ Stem e r.lines n → m ≡ n
      go (inl x) (inl y) = new_one e r m n x y k
      go (inl x) (inr y) = absurd (new_old e r s d m n x y k)
      go (inr x) (inl y) = absurd (new_old e r s d n m y x (sym k))
      go (inr x) (inr y) =
          let l = d.one x.line y.line x.was y.was (x.number ∙ k ∙ sym y.number) in
          slot_one a m n i j ((stems_order e r s d m n x y).1 (ap (λ (z : Line G V). z.stand.slot) l))

  pub new_below : (c : Call G V) (b : Bool) (r : Roll G V) (k : ℕ) (a : Held G V) → b ≡ true → Brings c k a → r.next + k < (rolled (record { call = c; accepted = b }) r).next
  new_below c false r k a e x = cc
  new_below c true r k a e x = grind (arith, slice_get_within)

  step_below : (e : Entry G V) (r : Roll G V) (s : Slots G V) → Sound r s → (m : Line G V) → In m (rolled e r).lines → m.number < (rolled e r).next
  step_below e r s d m i = go (stems e r m i)
    where
      go : New e r m ⊎ Stem e r.lines m → m.number < (rolled e r).next
      go (inl x) = omega (arith, x.number, new_below e.call e.accepted r x.place m.stand x.went x.brought)
      go (inr x) = omega (arith, grows e r, d.below x.line x.was, x.number)

module _ {G V : Type 0} (alike : G → G → Bool) where
  pub sound : (h : List (Entry G V)) (s : Slots G V) → Leads alike h s → Sound (roll h) s
  sound [] s still = record { agrees = none; below = λ m i. absurd i; one = λ m n i j e. absurd i }
  sound (e ∷ h) t (next {t = s} l x) =
      let d = sound h s l in
      let a = step_agrees alike (roll h) s d.agrees e t x in
      record { agrees = a; below = step_below e (roll h) s d; one = step_one e (roll h) s t d a }

  pub stands : (h : List (Entry G V)) (s : Slots G V) → Leads alike h s → (len : ℕ) → len ≡ count s → Stands (roll h).lines s len
  stands h s l len c = record {
    each = λ x i. at_line x i x.stand.slot refl;
    only = at_slot;
    apart = slot_one d.agrees;
    one = d.one;
    listed = records_of d.agrees;
    counted = c ∙ counted_at d.agrees;
  }
    where
      d : Sound (roll h) s
      d = sound h s l

      at_line : (x : Line G V) → In x (roll h).lines → (n : ℕ) → x.stand.slot ≡ n → at n s ≡ Allocated x.stand.gen x.stand.value
      at_line x i zero e = absurd (omega (arith, slot_low d.agrees x i))
      at_line x i (suc n) e = grind (arith, each_at d.agrees n x i)

      at_slot : (n : ℕ) (g : G) (v : V) → at n s ≡ Allocated g v → (x : Line G V) × In x (roll h).lines × (x.stand ≡ record { slot = n; gen = g; value = v })
      at_slot zero g v e = cc
      at_slot (suc n) g v e = only_at d.agrees n (suc n) g v (omega arith) (grind arith)

  told_arrivals : (c : Call G V) (b : Bool) (r : Roll G V) → (rolled (record { call = c; accepted = b }) r).next ≡ r.next + cond b (brought_in c) 0
  told_arrivals c b r = grind arith

  -- the number of the next arrival is how many there were
  next_arrivals : (h : List (Entry G V)) → (roll h).next ≡ arrivals h
  next_arrivals [] = refl
  next_arrivals (e ∷ h) = told_arrivals e.call e.accepted (roll h) ∙ ap (λ n. n + cond e.accepted (brought_in e.call) 0) (next_arrivals h)

  pub arrived : (h : List (Entry G V)) (s : Slots G V) → Leads alike h s → (m : Line G V) → In m (roll h).lines → Arrived h m
  arrived [] s still m i = absurd i
  arrived (e ∷ h) t (next {t = s} l x) m i = go (arrived h s l) (stems e (roll h) m i)
    where
      go : ((k : Line G V) → In k (roll h).lines → Arrived h k) → New e (roll h) m ⊎ Stem e (roll h).lines m → Arrived (e ∷ h) m
      go rest (inl y) = record {
        first = m.stand;
        place = y.place;
        by = e.call;
        before = h;
        since = [];
        whole = ap (λ b. record { call = e.call; accepted = b } ∷ h) y.went;
        brought = y.brought;
        number = y.number ∙ ap (λ n. n + y.place) (next_arrivals h);
        carried = refl;
        reported = refl;
        gen = refl;
      }
      go rest (inr y) =
          let a = rest y.line y.was in
          let w = sent e (roll h).lines m y in
          record {
            first = a.first;
            place = a.place;
            by = a.by;
            before = a.before;
            since = e ∷ a.since;
            whole = cc a.whole;
            brought = a.brought;
            number = sym y.number ∙ a.number;
            carried = (y.line.stand, a.carried, rw (← a.whole) (map_in (λ (z : Line G V). z.stand) y.line (roll h).lines y.was), rw (← a.whole) y.passes);
            reported = (ptr y.line.stand, a.reported, rw (← a.whole) w.0);
            gen = w.1 ∙ a.gen;
          }

  pub grown : (later h : List (Entry G V)) → (roll h).next ≤ (roll (later ++ h)).next
  grown [] h = omega arith
  grown (e ∷ later) h = omega (arith, grown later h, grows e (roll (later ++ h)))

  -- a line after a later call that has the number of an earlier line was a line before that call
  old_stem : (e : Entry G V) (later h : List (Entry G V)) (s : Slots G V) → Leads alike h s → (l m : Line G V) → In l (roll h).lines → In m (roll (e ∷ later ++ h)).lines → l.number ≡ m.number → Stem e (roll (later ++ h)).lines m
  old_stem e later h s k l m i j q = go (stems e (roll (later ++ h)) m j)
    where
      go : New e (roll (later ++ h)) m ⊎ Stem e (roll (later ++ h)).lines m → Stem e (roll (later ++ h)).lines m
      go (inl y) = absurd (omega (arith, (sound h s k).below l i, grown later h, y.number))
      go (inr y) = y

  pub kept : (later h : List (Entry G V)) (s : Slots G V) → Leads alike h s → (t : Slots G V) → Leads alike (later ++ h) t → Carries later h
  kept [] h s k t a l m i j e =
      let q = (sound h s k).one l m i j e in
      record { carried = cc; reported = cc; gen = cc }
  kept (e ∷ later) h s k t (next {t = u} a x) l m i j q =
      let y = old_stem e later h s k l m i j q in
      let b = kept later h s k u a l y.line i y.was (q ∙ sym y.number) in
      let w = sent e (roll (later ++ h)).lines m y in
      record { carried = (y.line.stand, b.carried, map_in (λ (z : Line G V). z.stand) y.line (roll (later ++ h)).lines y.was, y.passes); reported = (ptr y.line.stand, b.reported, w.0); gen = w.1 ∙ b.gen }

  pub ordered : (later h : List (Entry G V)) (s : Slots G V) → Leads alike h s → (t : Slots G V) → Leads alike (later ++ h) t → Ordered later h
  ordered [] h s k t a l l' m m' i i' j j' e e' lt =
      let q = (sound h s k).one l m i j e in
      let q' = (sound h s k).one l' m' i' j' e' in
      grind arith
  ordered (e ∷ later) h s k t (next {t = u} a x) l l' m m' i i' j j' q q' lt =
      let y = old_stem e later h s k l m i j q in
      let y' = old_stem e later h s k l' m' i' j' q' in
      let b = ordered later h s k u a l l' y.line y'.line i i' y.was y'.was (q ∙ sym y.number) (q' ∙ sym y'.number) lt in
      (stems_order e (roll (later ++ h)) u (sound (later ++ h) u a) m m' y y').0 b

  -- the history up to an earlier moment led to slots too
  pub earlier : (later h : List (Entry G V)) (t : Slots G V) → Leads alike (later ++ h) t → (s : Slots G V) × Leads alike h s
  earlier [] h t a = (t, a)
  earlier (e ∷ later) h t (next {t = u} a x) = earlier later h u a

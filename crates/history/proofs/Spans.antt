-- Where the joined directories of successive compressions lead a pointer.
use Rattle.std.proofs.Common.{◌≡◌, ℕ, zero, suc, ◌+◌, ◌<◌, ◌≤◌, Bool, true, false, ◌&&◌, cond, ◌⊎◌, List, [], ◌∷◌, ◌++◌, Some, None, Option, sym, refl, ap, ◌∙◌, inl, inr, arith}
use Rattle.std.specs.List.{slice_get}
use Rattle.kinds.specs.declared.slot.DirectSlot.{DirectSlot}
use Rattle.kinds.specs.declared.slot.DirectSlot.TheVariants.{Free, Allocated}
use Rattle.history.specs.Slots.{Slots, Ptr, Held, ptr, or_free, at, held, count}
use Rattle.history.specs.Records.{match_in, found}
use Rattle.history.specs.Mapped.{Mapping, Pair, records, moving, pairs, report, rest}
use Rattle.history.specs.Calls.{Call, compress, Entry, Leads, next}
use Rattle.history.specs.Roll.{Line, Roll, standing, resettled, rolled, roll}
use Rattle.history.specs.Laws.{In, Brings, Follows, standing_after}
use Rattle.history.specs.Directories.{Directory, value_of, pairs_in, Holds, recast_by}
use Rattle.history.specs.Spans.{is_compress, compresses, unbroken, Stood, StoodAt, Gives, Apart, Span, up_to, ended, all_ended, up_to_last, directories, Successive, AllApart, Recasts, Finds, Promise}
use Rattle.history.proofs.Stems.{New, Stem, stems, grows, in_map, map_in}
use Rattle.history.proofs.Runs.{Sound, sound, stands, sent, grown, earlier, brings_one, new_below}
use Rattle.history.proofs.Lawful.{lawful}
use Rattle.history.proofs.Joins.{then, through, recast_joined, any_bracketing}

none_added : {X : Type 0} (x : X) (front back : List X) → [] ≡ front ++ (x ∷ back) → ⊥
none_added x [] back e = cc
none_added x (y ∷ front) back e = cc

module _ {G V : Type 0} where
  follows_same : (c : Call G V) (b : Bool) (all : List (Held G V)) (p q : Ptr G) → b && is_compress c ≡ false → Follows (record { call = c; accepted = b }) all p q → q ≡ p
  follows_same c false all p q h x = x
  follows_same (compress f) true all p q h x = cc
  follows_same c true all p q h x = grind arith

  -- a line that no compression touched is under the pointer it had
  unmoved : (e : Entry G V) (r : Roll G V) (m : Line G V) (x : Stem e r.lines m) → compresses e ≡ false → ptr m.stand ≡ ptr x.line.stand
  unmoved e r m x h = follows_same e.call e.accepted (standing r.lines) (ptr x.line.stand) (ptr m.stand) h (sent e r.lines m x).0

  -- What has been given since a history, by a span that has had these calls.
  record Known (h es : List (Entry G V)) : Type 0 where
    every : (l : Line G V) → In l (roll (es ++ h)).lines → Gives h es l.number (ptr l.stand)
    stays : (n : ℕ) (p : Ptr G) → Gives h es n p → (l : Line G V) → In l (roll (es ++ h)).lines → l.number ≡ n → ptr l.stand ≡ p
    below : (n : ℕ) (p : Ptr G) → Gives h es n p → n < (roll (es ++ h)).next

  gives_on : (e : Entry G V) (h es : List (Entry G V)) (n : ℕ) (p : Ptr G) → Gives h es n p → Gives h (e ∷ es) n p
  gives_on e h es n p (inl x) = inl x
  gives_on e h es n p (inr x) = inr (record { by = x.by; before = x.before; since = e ∷ x.since; whole = cc x.whole; place = x.place; first = x.first; brought = x.brought; counted = x.counted; pointer = x.pointer })

  -- what was added is added by the newest call, or was before it
  pub record Newest (e : Entry G V) (h es : List (Entry G V)) (n : ℕ) (p : Ptr G) : Type 0 where
    pub went : e.accepted ≡ true
    pub place : ℕ
    pub first : Held G V
    pub brought : Brings e.call place first
    pub counted : n ≡ (roll (es ++ h)).next + place
    pub pointer : p ≡ ptr first

  pub last_given : (e : Entry G V) (h es : List (Entry G V)) (n : ℕ) (p : Ptr G) → Gives h (e ∷ es) n p → Newest e h es n p ⊎ Gives h es n p
  last_given e h es n p (inl x) = inr (inl x)
  last_given e h es n p (inr x) = by_since x.since x.whole
    where
      by_since : (since : List (Entry G V)) → e ∷ es ≡ since ++ (record { call = x.by; accepted = true } ∷ x.before) → Newest e h es n p ⊎ Gives h es n p
      by_since [] w =
          let c : e.call ≡ x.by = cc w in
          let b : es ≡ x.before = cc w in
          inl (record { went = cc w; place = x.place; first = x.first; brought = rw c x.brought; counted = rw b x.counted; pointer = x.pointer })
      by_since (y ∷ ys) w = inr (inr (record { by = x.by; before = x.before; since = ys; whole = cc w; place = x.place; first = x.first; brought = x.brought; counted = x.counted; pointer = x.pointer }))

  added_below : (e : Entry G V) (h es : List (Entry G V)) (n : ℕ) (p : Ptr G) → Newest e h es n p → n < (roll (e ∷ es ++ h)).next
  added_below e h es n p x = omega (arith, x.counted, new_below e.call e.accepted (roll (es ++ h)) x.place x.first x.went x.brought)

  -- a span without calls gives what it opened with
  pub given_first : (h : List (Entry G V)) (n : ℕ) (p : Ptr G) → Gives h [] n p → StoodAt h n p
  given_first h n p (inl x) = x
  given_first h n p (inr a) = absurd (none_added _ a.since a.before a.whole)

  known_made : (h : List (Entry G V)) (s : Slots G V) → Sound (roll h) s → Known h []
  known_made h s d = record {
    every = λ l i. inl (l, i, refl, refl);
    stays = λ n p g l i e. stays n p g l i e;
    below = λ n p g. below n p g;
  }
    where
      stays : (n : ℕ) (p : Ptr G) → Gives h [] n p → (l : Line G V) → In l (roll h).lines → l.number ≡ n → ptr l.stand ≡ p
      stays n p g l i e = let x = given_first h n p g in let q : l ≡ x.0 = d.one l x.0 i x.1 (e ∙ sym x.2) in rw q x.3

      below : (n : ℕ) (p : Ptr G) → Gives h [] n p → n < (roll h).next
      below n p g = let x = given_first h n p g in omega (arith, d.below x.0 x.1, x.2)

  known_next : (e : Entry G V) (h es : List (Entry G V)) (s : Slots G V) → Sound (roll (es ++ h)) s → compresses e ≡ false → Known h es → Known h (e ∷ es)
  known_next e h es s d c k = record {
    every = λ l i. every l (stems e (roll (es ++ h)) l i);
    stays = λ n p g l i q. stays n p l (last_given e h es n p g) (stems e (roll (es ++ h)) l i) q;
    below = λ n p g. below n p (last_given e h es n p g);
  }
    where
      every : (l : Line G V) → New e (roll (es ++ h)) l ⊎ Stem e (roll (es ++ h)).lines l → Gives h (e ∷ es) l.number (ptr l.stand)
      every l (inl x) = inr (record { by = e.call; before = es; since = []; whole = ap (λ (b : Bool). record { call = e.call; accepted = b } ∷ es) x.went; place = x.place; first = l.stand; brought = x.brought; counted = x.number; pointer = refl })
      every l (inr x) = rw (← x.number, unmoved e (roll (es ++ h)) l x c) (gives_on e h es x.line.number (ptr x.line.stand) (k.every x.line x.was))

      stays : (n : ℕ) (p : Ptr G) (l : Line G V) → Newest e h es n p ⊎ Gives h es n p → New e (roll (es ++ h)) l ⊎ Stem e (roll (es ++ h)).lines l → l.number ≡ n → ptr l.stand ≡ p
      stays n p l (inl a) (inl x) q =
          let o : x.place ≡ a.place = omega (arith, x.number, a.counted, q) in
          let b = brings_one e.call a.place l.stand a.first (rw (← o) x.brought) a.brought in
          rw (b, a.pointer) refl
      stays n p l (inl a) (inr x) q = absurd (omega (arith, a.counted, q, x.number, d.below x.line x.was))
      stays n p l (inr g) (inl x) q = absurd (omega (arith, k.below n p g, q, x.number))
      stays n p l (inr g) (inr x) q = unmoved e (roll (es ++ h)) l x c ∙ k.stays n p g x.line x.was (x.number ∙ q)

      below : (n : ℕ) (p : Ptr G) → Newest e h es n p ⊎ Gives h es n p → n < (roll (e ∷ es ++ h)).next
      below n p (inl a) = added_below e h es n p a
      below n p (inr g) = omega (arith, k.below n p g, grows e (roll (es ++ h)))

  known : (alike : G → G → Bool) (h es : List (Entry G V)) (s : Slots G V) → Leads alike (es ++ h) s → unbroken es ≡ true → Known h es
  known alike h [] s a u = known_made h s (sound alike h s a)
  known alike h (e ∷ es) s (next {t = t} a x) u = known_next e h es t (sound alike (es ++ h) t a) (grind arith) (known alike h es t a (grind arith))

  given_under : (h es : List (Entry G V)) → Known h es → (l : Line G V) (p : Ptr G) → In l (roll (es ++ h)).lines → ptr l.stand ≡ p → Gives h es l.number p
  given_under h es k l p i e = rw (← e) (k.every l i)

  -- a line of a later moment that had arrived by an earlier one was a line then
  by_stem : (alike : G → G → Bool) (e : Entry G V) (later h : List (Entry G V)) (m : Line G V) → m.number < (roll h).next →
      ((l : Line G V) → In l (roll (later ++ h)).lines → l.number < (roll h).next → Stood h l.number) →
      New e (roll (later ++ h)) m ⊎ Stem e (roll (later ++ h)).lines m → Stood h m.number
  by_stem alike e later h m b before (inl y) = absurd (omega (arith, b, y.number, grown alike later h))
  by_stem alike e later h m b before (inr y) = rw (← y.number) (before y.line y.was (rw y.number b))

  stood_before : (alike : G → G → Bool) (later h : List (Entry G V)) (m : Line G V) → In m (roll (later ++ h)).lines → m.number < (roll h).next → Stood h m.number
  stood_before alike [] h m i b = (m, i, refl)
  stood_before alike (e ∷ later) h m i b = by_stem alike e later h m b (λ l j c. stood_before alike later h l j c) (stems e (roll (later ++ h)) m i)

  -- a line before a compression and after it
  record Match (k : ℕ) (vs : List V) (ls : List (Line G V)) (l m : Line G V) : Type 0 where
    was : In l ls
    now : In m (resettled k vs ls)
    number : m.number ≡ l.number
    paired : In (record { old = ptr l.stand; new = ptr m.stand }) (pairs (moving k (standing ls)))

  match_next : (k : ℕ) (vs : List V) (ls : List (Line G V)) (j l m : Line G V) → Match (suc k) (rest vs) ls l m → Match k vs (j ∷ ls) l m
  match_next k vs ls j l m x = record { was = inr x.was; now = inr x.now; number = x.number; paired = inr x.paired }

  match_line : (k : ℕ) (vs : List V) (ls : List (Line G V)) (l : Line G V) → In l ls → (m : Line G V) × Match k vs ls l m
  match_line k vs [] l i = absurd i
  match_line k vs (j ∷ ls) l (inl e) = (_, record { was = inl e; now = inl refl; number = cc; paired = inl (grind arith) })
  match_line k vs (j ∷ ls) l (inr i) = let b = match_line (suc k) (rest vs) ls l i in (b.0, match_next k vs ls j l b.0 b.1)

  match_pair : (k : ℕ) (vs : List V) (ls : List (Line G V)) (p q : Ptr G) → In (record { old = p; new = q }) (pairs (moving k (standing ls))) →
      (l : Line G V) × (m : Line G V) × Match k vs ls l m × (ptr l.stand ≡ p) × (ptr m.stand ≡ q)
  match_pair k vs [] p q i = absurd i
  match_pair k vs (j ∷ ls) p q (inl e) = (j, _, record { was = inl refl; now = inl refl; number = refl; paired = inl refl }, sym (ap (λ (x : Pair G G). x.old) e), sym (ap (λ (x : Pair G G). x.new) e))
  match_pair k vs (j ∷ ls) p q (inr i) = let b = match_pair (suc k) (rest vs) ls p q i in (b.0, b.1, match_next k vs ls j b.0 b.1 b.2, b.3, b.4)

  -- what stands after a compression stood before it, and its pointers are a pair of the report
  compress_stem : (f : Mapping G V) (r : Roll G V) (m : Line G V) → In m (rolled (record { call = compress f; accepted = true }) r).lines →
      (l : Line G V) × In l r.lines × (l.number ≡ m.number) × In (record { old = ptr l.stand; new = ptr m.stand }) (report (standing r.lines))
  compress_stem f r m i = by_call (stems (record { call = compress f; accepted = true }) r m i)
    where
      by_call : New (record { call = compress f; accepted = true }) r m ⊎ Stem (record { call = compress f; accepted = true }) r.lines m →
          (l : Line G V) × In l r.lines × (l.number ≡ m.number) × In (record { old = ptr l.stand; new = ptr m.stand }) (report (standing r.lines))
      by_call (inl y) = absurd y.brought
      by_call (inr y) = (y.line, y.was, y.number, y.passes.reported)

module _ {G V : Type 0} where
  held_get : (k : ℕ) (s : Slots G V) (r : Held G V) → In r (held k s) → (n : ℕ) × (r.slot ≡ k + n) × (or_free (slice_get s n) ≡ Allocated r.gen r.value)
  held_get k [] r i = absurd i
  held_get k (Free ∷ s) r i = let b = held_get (suc k) s r i in (suc b.0, omega (arith, b.1), b.2)
  held_get k (Allocated g v ∷ s) r (inl e) = (0, grind arith, grind arith)
  held_get k (Allocated g v ∷ s) r (inr i) = let b = held_get (suc k) s r i in (suc b.0, omega (arith, b.1), b.2)

  get_held : (k : ℕ) (s : Slots G V) (n m : ℕ) (g : G) (v : V) → m ≡ k + n → or_free (slice_get s n) ≡ Allocated g v → In (record { slot = m; gen = g; value = v }) (held k s)
  get_held k [] n m g v e h = cc
  get_held k (Free ∷ s) zero m g v e h = cc
  get_held k (Free ∷ s) (suc n) m g v e h = get_held (suc k) s n m g v (omega arith) h
  get_held k (Allocated f u ∷ s) zero m g v e h = inl (grind arith)
  get_held k (Allocated f u ∷ s) (suc n) m g v e h = inr (get_held (suc k) s n m g v (omega arith) h)

  at_get : (s : Slots G V) (n : ℕ) → at (suc n) s ≡ or_free (slice_get s n)
  at_get s n = grind arith

  at_held : (s : Slots G V) (n : ℕ) (g : G) (v : V) → at n s ≡ Allocated g v → In (record { slot = n; gen = g; value = v }) (records s)
  at_held s zero g v e = cc
  at_held s (suc n) g v e = get_held 1 s n (suc n) g v (omega arith) (sym (at_get s n) ∙ e)

  held_at : (s : Slots G V) (r : Held G V) → In r (records s) → at r.slot s ≡ Allocated r.gen r.value
  held_at s r i = let b = held_get 1 s r i in let c : r.slot ≡ suc b.0 = omega (arith, b.1) in rw c (at_get s b.0 ∙ b.2)

module _ {G V : Type 0} (alike : G → G → Bool) (same : (a b : G) → alike a b ≡ true → a ≡ b) where
  matched : (n : ℕ) (h g : G) (v : V) (r : Held G V) (b : Bool) → alike h g ≡ b → cond b (Some (record { slot = n; gen = h; value = v })) None ≡ Some r →
      (Allocated h v ≡ Allocated r.gen r.value) × (r.slot ≡ n) × (r.gen ≡ g)
  matched n h g v r true t e = let q = same h g t in (grind arith, grind arith, grind arith)
  matched n h g v r false t e = cc

  match_slot : (n : ℕ) (x : DirectSlot G V) (g : G) (r : Held G V) → match_in alike n x g ≡ Some r → (x ≡ Allocated r.gen r.value) × (r.slot ≡ n) × (r.gen ≡ g)
  match_slot n Free g r e = cc
  match_slot n (Allocated h v) g r e = matched n h g v r (alike h g) refl e

  -- what a pointer cites is a record of the slots, under it
  in_found : (s : Slots G V) (p : Ptr G) (r : Held G V) → found alike p s ≡ Some r → In r (records s) × (ptr r ≡ p)
  in_found s p r e =
      let b = match_slot p.slot (at p.slot s) p.gen r e in
      (at_held s r.slot r.gen r.value (rw b.1 b.0), grind (arith, b.1, b.2))

found_in : {G V : Type 0} (alike : G → G → Bool) (itself : (a : G) → alike a a ≡ true) (s : Slots G V) (r : Held G V) → In r (records s) → found alike (ptr r) s ≡ Some r
found_in alike itself s r i = rw (held_at s r i, itself r.gen) refl

module _ {G P : Type 0} (alike : G → G → Bool) (same : (a b : G) → alike a b ≡ true → a ≡ b) (itself : (a : G) → alike a a ≡ true) (view : P → Ptr G) (d : Directory G P) (ps : List (Pair G G)) (holds : Holds view d ps) where
  value_some : (o : Option (Held G P)) (q : P) → value_of o ≡ Some q → (r : Held G P) × (o ≡ Some r) × (r.value ≡ q)
  value_some None q e = cc
  value_some (Some r) q e = (r, refl, cc)

  paired_by : (p q : P) (r : Held G P) → In r (records d) → ptr r ≡ view p → r.value ≡ q → In (record { old = view p; new = view q }) ps
  paired_by p q r i e v =
      let m : In (record { old = ptr r; new = view r.value }) (pairs_in view d) = map_in (λ (h : Held G P). record { old = ptr h; new = view h.value }) r (records d) i in
      let n : In (record { old = ptr r; new = view r.value }) ps = rw (← holds) m in
      rw (← e, ← v) n

  recast_under : (p : P) (r : Held G P) → In r (records d) → view p ≡ ptr r → recast_by alike view d p ≡ Some r.value
  recast_under p r i e = rw (e, found_in alike itself d r i) refl

  -- a directory that holds a report recasts just by its pairs
  held_pair : (p q : P) → recast_by alike view d p ≡ Some q → In (record { old = view p; new = view q }) ps
  held_pair p q e =
      let r = value_some (found alike (view p) d) q e in
      let b = in_found alike same d (view p) r.0 r.1 in
      paired_by p q r.0 b.0 b.1 r.2

  pair_held : (p : P) (x : Ptr G) → In (record { old = view p; new = x }) ps → (q : P) × (recast_by alike view d p ≡ Some q) × (view q ≡ x)
  pair_held p x i =
      let j : In (record { old = view p; new = x }) (pairs_in view d) = rw holds i in
      let r = in_map (λ (h : Held G P). record { old = ptr h; new = view h.value }) (record { old = view p; new = x }) (records d) j in
      (r.0.value, recast_under p r.0 r.1 (ap (λ (y : Pair G G). y.old) r.2), sym (ap (λ (y : Pair G G). y.new) r.2))

stood_as : {G V : Type 0} (h : List (Entry G V)) (m n : ℕ) → m ≡ n → Stood h m → Stood h n
stood_as h m n e y = (y.0, y.1, y.2 ∙ e)

module _ {G V P : Type 0} where
  -- what stands after the last of the spans stood at its compression, and the other way round
  last_on : (xs : List (Span G V P)) (x : Span G V P) (h : List (Entry G V)) (n : ℕ) → Stood (up_to_last x xs h) n → Stood (all_ended (x ∷ xs) h) n
  last_on [] x h n y = let b = match_line 1 (x.mapping (moving 1 (standing_after (up_to x h)))) (roll (up_to x h)).lines y.0 y.1 in (b.0, b.1.now, b.1.number ∙ y.2)
  last_on (z ∷ zs) x h n y = last_on zs z (ended x h) n y

  last_from : (xs : List (Span G V P)) (x : Span G V P) (h : List (Entry G V)) (n : ℕ) → Stood (all_ended (x ∷ xs) h) n → Stood (up_to_last x xs h) n
  last_from [] x h n y = let b = compress_stem x.mapping (roll (up_to x h)) y.0 y.1 in (b.0, b.1, b.2 ∙ y.2)
  last_from (z ∷ zs) x h n y = last_from zs z (ended x h) n y

  next_grows : (alike : G → G → Bool) (xs : List (Span G V P)) (h : List (Entry G V)) → (roll h).next ≤ (roll (all_ended xs h)).next
  next_grows alike [] h = omega arith
  next_grows alike (x ∷ xs) h = omega (arith, next_grows alike xs (ended x h), grown alike (record { call = compress x.mapping; accepted = true } ∷ x.calls) h)

  -- what stands after spans and had arrived before them stood before them
  stood_first : (alike : G → G → Bool) (xs : List (Span G V P)) (h : List (Entry G V)) (n : ℕ) → Stood (all_ended xs h) n → n < (roll h).next → Stood h n
  stood_first alike [] h n y b = y
  stood_first alike (x ∷ xs) h n y b =
      let g = grown alike (record { call = compress x.mapping; accepted = true } ∷ x.calls) h in
      let a = stood_first alike xs (ended x h) n y (omega (arith, b, g)) in
      let c = stood_before alike (record { call = compress x.mapping; accepted = true } ∷ x.calls) h a.0 a.1 (omega (arith, b, a.2)) in
      stood_as h a.0.number n a.2 c

  -- the history before spans led to slots too
  led : (alike : G → G → Bool) (xs : List (Span G V P)) (h : List (Entry G V)) (s : Slots G V) → Leads alike (all_ended xs h) s → (t : Slots G V) × Leads alike h t
  led alike [] h s a = (s, a)
  led alike (x ∷ xs) h s a = let b = led alike xs (ended x h) s a in earlier alike (record { call = compress x.mapping; accepted = true } ∷ x.calls) h b.0 b.1

module _ {G V P : Type 0} (alike : G → G → Bool) (same : (a b : G) → alike a b ≡ true → a ≡ b) (itself : (a : G) → alike a a ≡ true) (view : P → Ptr G) where
  -- One span: where its directory leads a pointer that it gave.
  module _ (h : List (Entry G V)) (x : Span G V P) (k : Known h x.calls) (holds : Holds view x.directory (report (standing_after (up_to x h)))) where
    span_there : (l : Line G V) (n : ℕ) (p : P) → Gives h x.calls n (view p) → In l (roll (ended x h)).lines → l.number ≡ n →
        (q : P) × (recast_by alike view x.directory p ≡ Some q) × (view q ≡ ptr l.stand)
    span_there l n p g i e =
        let b = compress_stem x.mapping (roll (up_to x h)) l i in
        let v : ptr b.0.stand ≡ view p = k.stays n (view p) g b.0 b.1 (b.2 ∙ e) in
        pair_held alike same itself view x.directory (report (standing_after (up_to x h))) holds p (ptr l.stand) (rw (← v) b.3)

    span_back : (n : ℕ) (p q : P) → Apart h x.calls → Gives h x.calls n (view p) → recast_by alike view x.directory p ≡ Some q → StoodAt (ended x h) n (view q)
    span_back n p q apart g e =
        let j = held_pair alike same itself view x.directory (report (standing_after (up_to x h))) holds p q e in
        let b = match_pair 1 (x.mapping (moving 1 (standing_after (up_to x h)))) (roll (up_to x h)).lines (view p) (view q) j in
        (b.1, b.2.now, b.2.number ∙ apart b.0.number n (view p) (given_under h x.calls k b.0 (view p) b.2.was b.3) g, b.4)

  -- the record of this number, under this pointer before spans, is led through their directories
  record Goes (xs : List (Span G V P)) (h : List (Entry G V)) (n : ℕ) (p : P) : Type 0 where
    forth : (l : Line G V) → In l (roll (all_ended xs h)).lines → l.number ≡ n → (q : P) × (through alike view (directories xs) p ≡ Some q) × (view q ≡ ptr l.stand)
    back : (q : P) → through alike view (directories xs) p ≡ Some q → StoodAt (all_ended xs h) n (view q)

  goes_first : (x : Span G V P) (xs : List (Span G V P)) (h : List (Entry G V)) → Known h x.calls → Holds view x.directory (report (standing_after (up_to x h))) → Apart h x.calls →
      ((n : ℕ) (p : P) → StoodAt (ended x h) n (view p) → Goes xs (ended x h) n p) → (n : ℕ) (p : P) → Gives h x.calls n (view p) → Goes (x ∷ xs) h n p
  goes_first x xs h k holds apart after n p g = record { forth = forth; back = λ q e. back (recast_by alike view x.directory p) refl q e }
    where
      forth : (l : Line G V) → In l (roll (all_ended (x ∷ xs) h)).lines → l.number ≡ n → (q : P) × (through alike view (directories (x ∷ xs)) p ≡ Some q) × (view q ≡ ptr l.stand)
      forth l i e =
          let b : n < (roll (ended x h)).next = omega (arith, k.below n (view p) g, grown alike (record { call = compress x.mapping; accepted = true } ∷ []) (up_to x h)) in
          let a = stood_first alike xs (ended x h) n (l, i, e) b in
          let o = span_there h x k holds a.0 n p g a.1 a.2 in
          let f = (after n o.0 (a.0, a.1, a.2, sym o.2)).forth l i e in
          (f.0, rw (o.1) f.1, f.2)

      back : (o : Option P) → recast_by alike view x.directory p ≡ o → (q : P) → then (recast_by alike view x.directory p) (through alike view (directories xs)) ≡ Some q → StoodAt (all_ended (x ∷ xs) h) n (view q)
      back None c q e = absurd (never q (rw c at e))
        where
          never : (q : P) → None ≡ Some q → ⊥
          never q e = cc
      back (Some o) c q e = (after n o (span_back h x k holds n p o apart g c)).back q (rw c at e)

  goes : (xs : List (Span G V P)) (h : List (Entry G V)) (s : Slots G V) → Leads alike (all_ended xs h) s → Successive view xs h → AllApart xs h → (n : ℕ) (p : P) → StoodAt h n (view p) → Goes xs h n p
  goes [] h s a u v n p y = record {
    forth = λ l i e. let q : l ≡ y.0 = (sound alike h s a).one l y.0 i y.1 (e ∙ sym y.2) in (p, refl, rw q (sym y.3));
    back = λ q e. let c : p ≡ q = cc in rw (← c) y;
  }
  goes (x ∷ xs) h s a u v n p y =
      let t = led alike xs (ended x h) s a in
      let t' = earlier alike (record { call = compress x.mapping; accepted = true } ∷ []) (up_to x h) t.0 t.1 in
      goes_first x xs h (known alike h x.calls t'.0 t'.1 u.0) u.1 v.0 (λ m q z. goes xs (ended x h) s a u.2 v.1 m q z) n p (inl y)

  module _ (d : Directory G P) (s : Slots G V) (x : Span G V P) (xs : List (Span G V P)) (h later : List (Entry G V)) (leads : Leads alike (later ++ all_ended (x ∷ xs) h) s)
      (u : Successive view (x ∷ xs) h) (recast : (p : P) → recast_by alike view d p ≡ through alike view (directories (x ∷ xs)) p) where
    first_known : Known h x.calls
    first_known =
        let e = earlier alike later (all_ended (x ∷ xs) h) s leads in
        let t = led alike xs (ended x h) e.0 e.1 in
        let t' = earlier alike (record { call = compress x.mapping; accepted = true } ∷ []) (up_to x h) t.0 t.1 in
        known alike h x.calls t'.0 t'.1 u.0

    spans_go : AllApart (x ∷ xs) h → (n : ℕ) (p : P) → Gives h x.calls n (view p) → Goes (x ∷ xs) h n p
    spans_go v n p g =
        let e = earlier alike later (all_ended (x ∷ xs) h) s leads in
        goes_first x xs h first_known u.1 v.0 (λ m q z. goes xs (ended x h) e.0 e.1 u.2 v.1 m q z) n p g

    recasts : AllApart (x ∷ xs) h → (n : ℕ) (p : P) → Gives h x.calls n (view p) → Recasts alike view d x xs h n p
    recasts v n p g =
        let o = spans_go v n p g in
        record {
          there = λ y. let l = last_on xs x h n y in let q = o.forth l.0 l.1 l.2 in (q.0, recast p ∙ q.1);
          stood = λ q e. let y = o.back q (sym (recast p) ∙ e) in last_from xs x h n (y.0, y.1, y.2);
          given = λ q e. o.back q (sym (recast p) ∙ e);
        }

    finds : AllApart (x ∷ xs) h → unbroken later ≡ true → Apart (all_ended (x ∷ xs) h) later → (n : ℕ) (p : P) → Gives h x.calls n (view p) → Finds alike view d s (later ++ all_ended (x ∷ xs) h) n p
    finds v w apart n p g = record { there = there; only = only }
      where
        t : (e : Slots G V) × Leads alike (all_ended (x ∷ xs) h) e
        t = earlier alike later (all_ended (x ∷ xs) h) s leads

        k : Known (all_ended (x ∷ xs) h) later
        k = known alike (all_ended (x ∷ xs) h) later s leads w

        o : Goes (x ∷ xs) h n p
        o = spans_go v n p g

        listed : records s ≡ standing_after (later ++ all_ended (x ∷ xs) h)
        listed = (stands alike (later ++ all_ended (x ∷ xs) h) s leads (count s) refl).listed

        there : (l : Line G V) → In l (roll (later ++ all_ended (x ∷ xs) h)).lines → l.number ≡ n → (q : P) × (recast_by alike view d p ≡ Some q) × (found alike (view q) s ≡ Some l.stand)
        there l i e =
            let b : l.number < (roll (all_ended (x ∷ xs) h)).next =
            omega (arith, e, first_known.below n (view p) g, grown alike (record { call = compress x.mapping; accepted = true } ∷ []) (up_to x h), next_grows alike xs (ended x h)) in
            let a = stood_before alike later (all_ended (x ∷ xs) h) l i b in
            let q = o.forth a.0 a.1 (a.2 ∙ e) in
            let c : ptr l.stand ≡ view q.0 = k.stays n (view q.0) (inl (a.0, a.1, a.2 ∙ e, sym q.2)) l i e in
            let j : In l.stand (records s) = rw listed (map_in (λ (m : Line G V). m.stand) l (roll (later ++ all_ended (x ∷ xs) h)).lines i) in
            (q.0, recast p ∙ q.1, rw (← c) (found_in alike itself s l.stand j))

        only : (q : P) (r : Held G V) → recast_by alike view d p ≡ Some q → found alike (view q) s ≡ Some r → (l : Line G V) × In l (roll (later ++ all_ended (x ∷ xs) h)).lines × (l.number ≡ n) × (l.stand ≡ r)
        only q r e f =
            let y = o.back q (sym (recast p) ∙ e) in
            let a = in_found alike same s (view q) r f in
            let j : In r (standing_after (later ++ all_ended (x ∷ xs) h)) = rw (← listed) a.0 in
            let l = in_map (λ (m : Line G V). m.stand) r (roll (later ++ all_ended (x ∷ xs) h)).lines j in
            let c : ptr l.0.stand ≡ view q = rw (← l.2) a.1 in
            (l.0, l.1, apart l.0.number n (view q) (given_under (all_ended (x ∷ xs) h) later k l.0 (view q) l.1 c) (inl y), sym l.2)

  pub promise : (d : Directory G P) (s : Slots G V) → Promise alike view d s
  promise d s = record {
    arena = lawful alike s (count s) refl;
    directory = lawful alike d (count d) refl;
    bracketing = λ a b e f. sym (any_bracketing alike view a b e) ∙ f;
    traced = λ x xs h later leads opening u b e f.
        let recast : (p : P) → recast_by alike view d p ≡ through alike view (directories (x ∷ xs)) p =
        λ p. ap (λ (z : Directory G P). recast_by alike view z p) (sym f) ∙ recast_joined alike view b p ∙ ap (λ (z : List (Directory G P)). through alike view z p) e in
        record { recasts = recasts d s x xs h later leads u recast; finds = finds d s x xs h later leads u recast };
  }

-- A record is carried to one record at most, and a pointer to one pointer.
use Rattle.std.proofs.Common.{◌≡◌, ℕ, suc, ◌<◌, Bool, true, false, List, [], ◌∷◌, ◌++◌, Some, None, Option, sym, refl, ◌∙◌, inl, inr, arith}
use Rattle.history.specs.Slots.{Slots, Ptr, Held, ptr}
use Rattle.history.specs.Mapped.{moving, pairs, rising}
use Rattle.history.specs.Recasts.{Recasting}
use Rattle.history.specs.Calls.{Call, compress, Entry, recast_of, Leads, next}
use Rattle.history.specs.Laws.{In, Until, Becomes, Remains, Passes, Sends, Follows, standing_after, Carried, Reported, Once}
use Rattle.history.proofs.Moves.{in_order, lines_rise}
use Rattle.history.proofs.Runs.{sound}

module _ {G V : Type 0} where
  pair_gen : (k : ℕ) (hs : List (Held G V)) (p q : Ptr G) → In (record { old = p; new = q }) (pairs (moving k hs)) → q.gen ≡ p.gen
  pair_gen k [] p q i = absurd i
  pair_gen k (h ∷ hs) p q (inl e) = grind arith
  pair_gen k (h ∷ hs) p q (inr i) = pair_gen (suc k) hs p q i

  sends_one : (c : Call G V) (all : List (Held G V)) (p a b : Ptr G) → rising 0 all ≡ true → Sends c all p a → Sends c all p b → a ≡ b
  sends_one (compress f) all p a b r x y =
      let k = (in_order 0 1 all p a p b r x y).1 refl in
      grind (arith, k, pair_gen 1 all p a x, pair_gen 1 all p b y)
  sends_one c all p a b r x y = grind arith

  becomes_one : (c : Call G V) (all : List (Held G V)) (old a b : Held G V) → rising 0 all ≡ true → Becomes c all old a → Becomes c all old b → a ≡ b
  becomes_one (compress f) all old a b r x y =
      let k = (in_order 0 1 all (ptr old) (ptr a) (ptr old) (ptr b) r x.reported y.reported).1 refl in
      grind (arith, k, x.gen, y.gen, x.value, y.value)
  becomes_one c all old a b r x y = grind arith

  -- what stands among records that rise from n on is above n
  above : (n : ℕ) (lower higher : List (Held G V)) (h : Held G V) → rising n (lower ++ h ∷ higher) ≡ true → n < h.slot
  above n [] higher h r = grind arith
  above n (l ∷ lower) higher h r = omega (arith, above l.slot lower higher h (grind arith), lt_of n l.slot (grind arith))
    where
      lt_of : (n m : ℕ) → n < m → n < m
      lt_of n m p = p

  parts_one : (n : ℕ) (all : List (Held G V)) (h : Held G V) (l l' r r' : List (Held G V)) → rising n all ≡ true → all ≡ l ++ h ∷ r → all ≡ l' ++ h ∷ r' → l ≡ l'
  parts_one n all h [] [] r r' k e d = refl
  parts_one n all h [] (x ∷ l') r r' k e d = absurd (grind (arith, above h.slot l' r' h))
  parts_one n all h (x ∷ l) [] r r' k e d = absurd (grind (arith, above h.slot l r h))
  parts_one n [] h (x ∷ l) (y ∷ l') r r' k e d = cc
  parts_one n (z ∷ all) h (x ∷ l) (y ∷ l') r r' k e d =
      let q = parts_one z.slot all h l l' r r' (grind arith) (cc e) (cc d) in
      cc (e, d, q)

  until_one : (q : Recasting V) (all : List (Held G V)) (old a b : Held G V) → rising 0 all ≡ true → Until q all old a → Until q all old b → a ≡ b
  until_one q all old a b r x y =
      let p = parts_one 0 all old x.lower y.lower x.higher y.higher r x.parts y.parts in
      x.value ∙ sym (rw p y.value)

  passes_call : (c : Call G V) (t : Bool) (all : List (Held G V)) (old a b : Held G V) → rising 0 all ≡ true →
      Passes (record { call = c; accepted = t }) all old a → Passes (record { call = c; accepted = t }) all old b → a ≡ b
  passes_call c true all old a b r x y = becomes_one c all old a b r x y
  passes_call c false all old a b r x y = remains_one (recast_of c) x y
    where
      remains_one : (o : Option (Recasting V)) → Remains o all old a → Remains o all old b → a ≡ b
      remains_one None x y = x ∙ sym y
      remains_one (Some q) x y = until_one q all old a b r x y

  follows_call : (c : Call G V) (t : Bool) (all : List (Held G V)) (p a b : Ptr G) → rising 0 all ≡ true →
      Follows (record { call = c; accepted = t }) all p a → Follows (record { call = c; accepted = t }) all p b → a ≡ b
  follows_call c true all p a b r x y = sends_one c all p a b r x y
  follows_call c false all p a b r x y = x ∙ sym y

module _ {G V : Type 0} (alike : G → G → Bool) where
  carried_one : (later h : List (Entry G V)) (s : Slots G V) → Leads alike (later ++ h) s → (old a b : Held G V) → Carried later h old a → Carried later h old b → a ≡ b
  carried_one [] h s l old a b x y = x ∙ sym y
  carried_one (e ∷ later) h s (next {t = u} l z) old a b x y =
      let m = carried_one later h u l old x.0 y.0 x.1 y.1 in
      passes_call e.call e.accepted (standing_after (later ++ h)) x.0 a b (lines_rise (sound alike (later ++ h) u l).agrees) x.3 (rw m y.3)

  reported_one : (later h : List (Entry G V)) (s : Slots G V) → Leads alike (later ++ h) s → (old a b : Ptr G) → Reported later h old a → Reported later h old b → a ≡ b
  reported_one [] h s l old a b x y = x ∙ sym y
  reported_one (e ∷ later) h s (next {t = u} l z) old a b x y =
      let m = reported_one later h u l old x.0 y.0 x.1 y.1 in
      follows_call e.call e.accepted (standing_after (later ++ h)) x.0 a b (lines_rise (sound alike (later ++ h) u l).agrees) x.2 (rw m y.2)

  pub once : (later h : List (Entry G V)) (s : Slots G V) → Leads alike (later ++ h) s → Once later h
  once later h s l = record { record_of = carried_one later h s l; pointer_of = reported_one later h s l }

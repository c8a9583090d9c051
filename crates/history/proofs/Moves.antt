-- Where a call leaves the records that stand: each under its generation, and in their order.
use Rattle.std.proofs.Common.{◌≡◌, ℕ, suc, ◌<◌, ◌≤◌, Bool, true, false, List, [], ◌∷◌, refl, inl, inr, arith}
use Rattle.kinds.specs.declared.slot.DirectSlot.TheVariants.{Free, Allocated}
use Rattle.history.specs.Slots.{Slots, Ptr, Held, ptr, held}
use Rattle.history.specs.Mapped.{moving, pairs, rising}
use Rattle.history.specs.Calls.{Call, compress, Entry}
use Rattle.history.specs.Roll.{Line, standing}
use Rattle.history.specs.Laws.{In, Becomes, Passes, Sends, Follows}
use Rattle.history.proofs.Agree.{Agrees, none, free, full}

-- two pointers that come out as two others keep their order
abbrev pub Kept : {G : Type 0} → Ptr G → Ptr G → Ptr G → Ptr G → Type 0
Kept p q p' q' = (p.slot < p'.slot → q.slot < q'.slot) × (p.slot ≡ p'.slot → q.slot ≡ q'.slot)

stay : {G : Type 0} (p q p' q' : Ptr G) → q ≡ p → q' ≡ p' → Kept p q p' q'
stay p q p' q' e d = (λ l. grind arith, λ l. grind arith)

module _ {G V : Type 0} where
  rising_above : (n m : ℕ) (hs : List (Held G V)) → m ≤ n → rising n hs ≡ true → rising m hs ≡ true
  rising_above n m [] l h = refl
  rising_above n m (x ∷ hs) l h = grind arith

  -- each record of slots stands above those before it
  pub records_rise : (k : ℕ) (s : Slots G V) → rising k (held (suc k) s) ≡ true
  records_rise k [] = refl
  records_rise k (Free ∷ s) = rising_above (suc k) k (held (suc (suc k)) s) (omega arith) (records_rise (suc k) s)
  records_rise k (Allocated g v ∷ s) = grind (arith, records_rise (suc k) s)

  pub lines_rise : {k : ℕ} {s : Slots G V} {ls : List (Line G V)} → Agrees G V (suc k) s ls → rising k (standing ls) ≡ true
  lines_rise none = refl
  lines_rise {k = k} (free {ls = ls} a) = rising_above (suc k) k (standing ls) (omega arith) (lines_rise a)
  lines_rise (full a) = grind (arith, lines_rise a)

  -- a pair of a report, of records above n, which come to the slots from k on
  low : (n k : ℕ) (hs : List (Held G V)) (p q : Ptr G) → rising n hs ≡ true → In (record { old = p; new = q }) (pairs (moving k hs)) → (n < p.slot) × (k ≤ q.slot)
  low n k [] p q r i = absurd i
  low n k (h ∷ hs) p q r (inl e) = grind arith
  low n k (h ∷ hs) p q r (inr i) = let b = low h.slot (suc k) hs p q (grind arith) i in (grind (arith, b.0), omega (arith, b.1))

  pub in_order : (n k : ℕ) (hs : List (Held G V)) (p q p' q' : Ptr G) → rising n hs ≡ true →
      In (record { old = p; new = q }) (pairs (moving k hs)) → In (record { old = p'; new = q' }) (pairs (moving k hs)) →
      Kept p q p' q'
  in_order n k [] p q p' q' r i j = absurd i
  in_order n k (h ∷ hs) p q p' q' r (inl e) (inl d) = (λ l. absurd (grind arith), λ l. grind arith)
  in_order n k (h ∷ hs) p q p' q' r (inl e) (inr j) = let b = low h.slot (suc k) hs p' q' (grind arith) j in (λ l. grind (arith, b.1), λ l. absurd (grind (arith, b.0)))
  in_order n k (h ∷ hs) p q p' q' r (inr i) (inl d) = let b = low h.slot (suc k) hs p q (grind arith) i in (λ l. absurd (grind (arith, b.0)), λ l. absurd (grind (arith, b.0)))
  in_order n k (h ∷ hs) p q p' q' r (inr i) (inr j) = in_order h.slot (suc k) hs p q p' q' (grind arith) i j

  -- what a call makes of a record is where it sends its pointer, under the same generation
  becomes_sent : (c : Call G V) (all : List (Held G V)) (old new : Held G V) → Becomes c all old new → Sends c all (ptr old) (ptr new) × (new.gen ≡ old.gen)
  becomes_sent (compress f) all old new b = (b.reported, b.gen)
  becomes_sent c all old new b = grind arith

  call_order : (c : Call G V) (all : List (Held G V)) (p q p' q' : Ptr G) → rising 0 all ≡ true → Sends c all p q → Sends c all p' q' → Kept p q p' q'
  call_order (compress f) all p q p' q' r e d = in_order 0 1 all p q p' q' r e d
  call_order c all p q p' q' r e d = grind (arith, stay p q p' q')

  passes_call : (c : Call G V) (b : Bool) (all : List (Held G V)) (old new : Held G V) → Passes (record { call = c; accepted = b }) all old new →
      Follows (record { call = c; accepted = b }) all (ptr old) (ptr new) × (new.gen ≡ old.gen)
  passes_call c true all old new x = becomes_sent c all old new x
  passes_call c false all old new x = grind arith

  pub passes_sent : (e : Entry G V) (all : List (Held G V)) (old new : Held G V) → Passes e all old new → Follows e all (ptr old) (ptr new) × (new.gen ≡ old.gen)
  passes_sent e all old new x = passes_call e.call e.accepted all old new x

  follows_call : (c : Call G V) (b : Bool) (all : List (Held G V)) (p q p' q' : Ptr G) → rising 0 all ≡ true →
      Follows (record { call = c; accepted = b }) all p q → Follows (record { call = c; accepted = b }) all p' q' → Kept p q p' q'
  follows_call c true all p q p' q' r e d = call_order c all p q p' q' r e d
  follows_call c false all p q p' q' r e d = stay p q p' q' e d

  pub follows_order : (e : Entry G V) (all : List (Held G V)) (p q p' q' : Ptr G) → rising 0 all ≡ true → Follows e all p q → Follows e all p' q' → Kept p q p' q'
  follows_order e all p q p' q' r x y = follows_call e.call e.accepted all p q p' q' r x y

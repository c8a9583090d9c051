-- What stood when a call was accepted.
use Rattle.std.proofs.Common.{◌≡◌, ℕ, Bool, true, List, [], ◌∷◌, ◌++◌, is_some, Some, None, Option, refl, ap, inl, inr, arith}
use Rattle.std.specs.List.{list_all}
use Rattle.kinds.specs.declared.slot.DirectSlot.{DirectSlot}
use Rattle.kinds.specs.declared.slot.DirectSlot.TheVariants.{Free, Allocated}
use Rattle.history.specs.Slots.{Slots, Held, at}
use Rattle.history.specs.Calls.{Name, index, pointer, slots_of, Call, insert, edit, edit_all, remove, drain, recast, Entry, other_than, distinct, names, names_all, asks, Leads, next}
use Rattle.history.specs.Roll.{Line, standing, roll}
use Rattle.history.specs.Laws.{In, Stands, Different, Named, AllNamed, Allowed}
use Rattle.history.proofs.Stems.{map_in}
use Rattle.history.proofs.Runs.{stands, earlier}

other_not_in : (n : ℕ) (ns : List ℕ) → other_than n ns ≡ true → In n ns → ⊥
other_not_in n [] h i = absurd i
other_not_in n (m ∷ ms) h (inl e) = grind arith
other_not_in n (m ∷ ms) h (inr i) = other_not_in n ms (grind arith) i

different : (ns : List ℕ) → distinct ns ≡ true → Different ns
different [] h = tt
different (n ∷ ns) h = (other_not_in n ns (grind arith), different ns (grind arith))

all_of : {X : Type 0} (f : X → Bool) (x : X) (xs : List X) → list_all f xs ≡ true → In x xs → f x ≡ true
all_of f x [] h i = absurd i
all_of f x (y ∷ ys) h (inl e) = grind arith
all_of f x (y ∷ ys) h (inr i) = all_of f x ys (grind arith) i

some_of : {V : Type 0} (o : Option V) → is_some o ≡ true → (v : V) × (o ≡ Some v)
some_of None h = cc
some_of (Some v) h = (v, refl)

module _ {G V : Type 0} (alike : G → G → Bool) where
  named : (s : Slots G V) (n : ℕ) (lines : List (Line G V)) → Stands lines s n → (name : Name G) → names alike name s ≡ true → Named alike name lines
  named s n lines d (index i) h = by_slot (at i s) refl
    where
      by_slot : (x : DirectSlot G V) → at i s ≡ x → Named alike (index i) lines
      by_slot Free e = cc
      by_slot (Allocated g v) e = let b = d.only i g v e in (b.0, b.1, ap (λ (z : Held G V). z.slot) b.2)
  named s n lines d (pointer p) h = by_slot (at p.slot s) refl
    where
      by_slot : (x : DirectSlot G V) → at p.slot s ≡ x → Named alike (pointer p) lines
      by_slot Free e = cc
      by_slot (Allocated g v) e =
          let b = d.only p.slot g v e in
          (b.0, b.1, ap (λ (z : Held G V). z.slot) b.2, grind (arith, b.2))

  all_named : (s : Slots G V) (n : ℕ) (lines : List (Line G V)) → Stands lines s n → (ns : List (Name G)) → names_all alike ns s ≡ true → AllNamed alike ns lines
  all_named s n lines d [] h = tt
  all_named s n lines d (name ∷ ns) h = (named s n lines d name (grind arith), all_named s n lines d ns (grind arith))

  found_allowed : (s : Slots G V) (n : ℕ) (lines : List (Line G V)) → Stands lines s n → (c : Call G V) → asks alike c s ≡ true → Allowed alike c lines
  found_allowed s n lines d (insert p v) h = (grind arith, λ l i e. grind (arith, d.each l i))
  found_allowed s n lines d (edit name v) h = named s n lines d name h
  found_allowed s n lines d (edit_all ns f) h = (all_named s n lines d ns (grind arith), different (slots_of ns) (grind arith))
  found_allowed s n lines d (remove name) h = named s n lines d name h
  found_allowed s n lines d (drain (Some p)) h = named s n lines d (pointer p) h
  found_allowed s n lines d (recast q) h = λ l i. some_of (q l.stand.value) (all_of (λ (z : Held G V). is_some (q z.value)) l.stand (standing lines) (rw (← d.listed) h) (map_in (λ (z : Line G V). z.stand) l lines i))
  found_allowed s n lines d c h = grind arith

  pub allowed : (later h : List (Entry G V)) (c : Call G V) (t : Slots G V) → Leads alike (later ++ (record { call = c; accepted = true } ∷ h)) t → Allowed alike c (roll h).lines
  allowed later h c t a = by_step (earlier alike later (record { call = c; accepted = true } ∷ h) t a)
    where
      by_step : (x : (s : Slots G V) × Leads alike (record { call = c; accepted = true } ∷ h) s) → Allowed alike c (roll h).lines
      by_step (u, next {t = s} l x) = found_allowed s _ (roll h).lines (stands alike h s l _ refl) c (x.asked refl)

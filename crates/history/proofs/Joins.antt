-- Joins of directories, bracketed in any way.
use Rattle.std.proofs.Common.{◌≡◌, ℕ, zero, suc, Bool, List, [], ◌∷◌, ◌++◌, Some, None, Option, sym, refl, ap, ◌∙◌, arith}
use Rattle.std.specs.List.{slice_get}
use Rattle.kinds.specs.declared.slot.DirectSlot.{DirectSlot}
use Rattle.kinds.specs.declared.slot.DirectSlot.TheVariants.{Free, Allocated}
use Rattle.history.specs.Slots.{Slots, Ptr, or_free, at}
use Rattle.history.specs.Records.{match_in}
use Rattle.history.specs.Recasts.{Recasting, allocated, join_slot, join_each}
use Rattle.history.specs.Directories.{Directory, value_of, recast_by, joined_with, Brackets, one, both, bracketed, joined}

-- the second recast of what the first gives
abbrev pub then : {A : Type 0} → Option A → Recasting A → Option A
then None q = None
then (Some a) q = q a

then_same : {A : Type 0} (o : Option A) → then o (λ a. Some a) ≡ o
then_same None = refl
then_same (Some a) = refl

then_then : {A : Type 0} (o : Option A) (q r : Recasting A) → then (then o q) r ≡ then o (λ a. then (q a) r)
then_then None q r = refl
then_then (Some a) q r = refl

then_each : {A : Type 0} (o : Option A) (q r : Recasting A) → ((a : A) → q a ≡ r a) → then o q ≡ then o r
then_each None q r e = refl
then_each (Some a) q r e = e a

module _ {G P : Type 0} where
  get_joined : (q : Recasting P) (d : Directory G P) (n : ℕ) → or_free (slice_get (join_each q d) n) ≡ join_slot q (or_free (slice_get d n))
  get_joined q [] n = refl
  get_joined q (x ∷ d) zero = refl
  get_joined q (x ∷ d) (suc n) = get_joined q d n

  at_joined : (q : Recasting P) (d : Directory G P) (n : ℕ) → at n (join_each q d) ≡ join_slot q (at n d)
  at_joined q d zero = refl
  at_joined q d (suc n) =
      let a : at (suc n) (join_each q d) ≡ or_free (slice_get (join_each q d) n) = grind arith in
      let b : at (suc n) d ≡ or_free (slice_get d n) = grind arith in
      a ∙ get_joined q d n ∙ ap (join_slot q) (sym b)

  allocated_joined : (q : Recasting P) (g : G) (o : Option P) → join_slot q (allocated g o) ≡ allocated g (then o q)
  allocated_joined q g None = refl
  allocated_joined q g (Some p) = refl

  -- joined twice is joined once, by both recasts
  join_twice : (q r t : Recasting P) → ((p : P) → t p ≡ then (r p) q) → (d : Directory G P) → join_each q (join_each r d) ≡ join_each t d
  join_twice q r t e [] = refl
  join_twice q r t e (Free ∷ d) = ap (λ (z : Slots G P). Free ∷ z) (join_twice q r t e d)
  join_twice q r t e (Allocated g p ∷ d) = rw (join_twice q r t e d, allocated_joined q g (r p), e p) refl

  join_same : (d : Directory G P) → join_each (λ p. Some p) d ≡ d
  join_same [] = refl
  join_same (Free ∷ d) = ap (λ (z : Slots G P). Free ∷ z) (join_same d)
  join_same (Allocated g p ∷ d) = ap (λ (z : Slots G P). Allocated g p ∷ z) (join_same d)

module _ {G P : Type 0} (alike : G → G → Bool) (view : P → Ptr G) where
  allocated_found : (q : Recasting P) (n : ℕ) (h g : G) (p : P) (o : Option P) → q p ≡ o → value_of (match_in alike n (allocated h (q p)) g) ≡ then (value_of (match_in alike n (Allocated h p) g)) q
  allocated_found q n h g p None e = grind arith
  allocated_found q n h g p (Some u) e = grind arith

  slot_found : (q : Recasting P) (n : ℕ) (x : DirectSlot G P) (g : G) → value_of (match_in alike n (join_slot q x) g) ≡ then (value_of (match_in alike n x g)) q
  slot_found q n Free g = refl
  slot_found q n (Allocated h p) g = allocated_found q n h g p (q p) refl

  -- a recast by a join is one by the first directory, and then one by the next
  recast_join : (d e : Directory G P) (p : P) → recast_by alike view (joined_with alike view d e) p ≡ then (recast_by alike view d p) (recast_by alike view e)
  recast_join d e p = rw (at_joined (recast_by alike view e) d (view p).slot) (slot_found (recast_by alike view e) (view p).slot (at (view p).slot d) (view p).gen)

  -- one recast after the other
  abbrev pub through : List (Directory G P) → P → Option P
  through [] p = Some p
  through (d ∷ ds) p = then (recast_by alike view d p) (through ds)

  through_all : (ds es : List (Directory G P)) (p : P) → through (ds ++ es) p ≡ then (through ds p) (through es)
  through_all [] es p = refl
  through_all (d ∷ ds) es p =
      then_each (recast_by alike view d p) (through (ds ++ es)) (λ a. then (through ds a) (through es)) (λ a. through_all ds es a)
      ∙ sym (then_then (recast_by alike view d p) (through ds) (through es))

  pub recast_joined : (b : Brackets G P) (p : P) → recast_by alike view (joined alike view b) p ≡ through (bracketed b) p
  recast_joined (one d) p = sym (then_same (recast_by alike view d p))
  recast_joined (both a b) p =
      let e : recast_by alike view (joined alike view a) p ≡ through (bracketed a) p = recast_joined a p in
      recast_join (joined alike view a) (joined alike view b) p
      ∙ (rw e (then_each (through (bracketed a) p) (recast_by alike view (joined alike view b)) (through (bracketed b)) (λ x. recast_joined b x)))
      ∙ sym (through_all (bracketed a) (bracketed b) p)

  -- the first directory, with its values recast by all that follow
  abbrev all_joined : List (Directory G P) → Directory G P
  all_joined [] = []
  all_joined (d ∷ ds) = join_each (through ds) d

  some : (b : Brackets G P) → (d : Directory G P) × (ds : List (Directory G P)) × (bracketed b ≡ d ∷ ds)
  some (one d) = (d, [], refl)
  some (both a b) = let x = some a in (x.0, x.1 ++ bracketed b, ap (λ (ds : List (Directory G P)). ds ++ bracketed b) x.2)

  in_order : (b : Brackets G P) → joined alike view b ≡ all_joined (bracketed b)
  in_order (one d) = sym (join_same d)
  in_order (both a b) =
      let x = some a in
      rw (in_order a, x.2)
      (join_twice (recast_by alike view (joined alike view b)) (through x.1) (through (x.1 ++ bracketed b))
      (λ p. through_all x.1 (bracketed b) p ∙ then_each (through x.1 p) (through (bracketed b)) (recast_by alike view (joined alike view b)) (λ y. sym (recast_joined b y))) x.0)

  pub any_bracketing : (a b : Brackets G P) → bracketed a ≡ bracketed b → joined alike view a ≡ joined alike view b
  any_bracketing a b e = in_order a ∙ ap all_joined e ∙ sym (in_order b)

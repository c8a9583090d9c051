-- The premises of what joined reports say hold together, and what it then says.
use Rattle.std.proofs.Common.{◌≡◌, ℕ, ◌+◌, Bool, true, List, [], ◌∷◌, Some, None, Option, refl, ap, sym, ◌∙◌, inl, inr, arith}
use Rattle.kinds.specs.declared.slot.DirectSlot.{DirectSlot}
use Rattle.kinds.specs.declared.slot.DirectSlot.TheVariants.{Free, Allocated}
use Rattle.history.specs.Slots.{Slots, Ptr, Held, to, ptr, at}
use Rattle.history.specs.Calls.{insert, still, next}
use Rattle.history.specs.Roll.{Line, roll}
use Rattle.history.specs.Laws.{In, Stands, Carried}
use Rattle.history.specs.Directories.{Directory, recast_by}
use Rattle.history.specs.Spans.{StoodAt, Gives, ended, Apart, AllApart, Traced}
use Rattle.history.proofs.Spans.{last_given, given_first}
use Rattle.history.specs.Followed.{itself, first, second, both_ended, Followed, Alone, Standing, Told, Said}

module _ {G V : Type 0} (g h k : G) (u v w : V) where
  in_first : (m : ℕ) (p : Ptr G) → Gives [] (first g h k u v w).calls m p → p.slot ≡ 2 + m + m
  in_first m p x = elim (last_given _ [] _ m p x) [
    | inl n ↦ grind (arith, n.brought, n.counted, n.pointer)
    | inr y ↦ elim (last_given _ [] [] m p y) [ inl n ↦ grind (arith, n.brought, n.counted, n.pointer) | inr z ↦ absurd (given_first [] m p z).1 ]
  ]

  in_second : (m : ℕ) (p : Ptr G) → Gives (ended (first g h k u v w) []) (second g h k u v w).calls m p → p.slot ≡ m + 1
  in_second m p x = elim (last_given _ _ _ m p x) [
    | inl n ↦ grind (arith, n.brought, n.counted, n.pointer)
    | inr y ↦ elim (last_given _ _ [] m p y) [ inl n ↦ absurd n.brought | inr z ↦ opened (given_first _ m p z) ]
  ]
    where
      opened : StoodAt (ended (first g h k u v w) []) m p → p.slot ≡ m + 1
      opened x = elim x.1 [ inl e ↦ grind (arith, x.2) | inr i ↦ elim i [ inl e ↦ grind (arith, x.2) | inr j ↦ absurd j ] ]

  since : (m : ℕ) (p : Ptr G) → Gives (both_ended g h k u v w) [] m p → p.slot ≡ m
  since m p z =
      let x = given_first (both_ended g h k u v w) m p z in
      elim x.1 [ inl e ↦ grind (arith, x.2) | inr i ↦ elim i [ inl e ↦ grind (arith, x.2) | inr j ↦ absurd j ] ]

  all_apart : AllApart (first g h k u v w ∷ second g h k u v w ∷ []) []
  all_apart = (λ m n p a b. omega (arith, in_first m p a, in_first n p b), (λ m n p a b. omega (arith, in_second m p a, in_second n p b), tt))

  apart_since : Apart (both_ended g h k u v w) []
  apart_since m n p a b = sym (since m p a) ∙ since n p b

  given : Gives [] (first g h k u v w).calls 1 (to 4 h)
  given = inr (record { by = insert (to 4 h) v; before = record { call = insert (to 2 g) u; accepted = true } ∷ []; since = []; whole = refl; place = 0; first = record { slot = 4; gen = h; value = v }; brought = (refl, refl); counted = refl; pointer = refl })

  given_too : Gives [] (first g h k u v w).calls 0 (to 2 g)
  given_too = inr (record { by = insert (to 2 g) u; before = []; since = record { call = insert (to 4 h) v; accepted = true } ∷ []; whole = refl; place = 0; first = record { slot = 2; gen = g; value = u }; brought = (refl, refl); counted = refl; pointer = refl })

  alone : (lines : List (Line G V)) (s : Slots G V) (n : ℕ) → Stands lines s n → (l m : Line G V) → In l lines → In m lines → Alone l m
  alone lines s n d l m i j = record {
    one_record = λ e. ap (λ (x : Line G V). x.number) (d.apart l m i j (ap (λ (p : Ptr G). p.slot) e));
    one_pointer = λ e. ap (λ (x : Line G V). ptr x.stand) (d.one l m i j e);
  }

  standing : (s : Slots G V) (n : ℕ) → Stands (roll (both_ended g h k u v w)).lines s n → Standing g h k u v w s n
  standing s n d = record { in_1 = d.each _ (inl refl); in_2 = d.each _ (inr (inl refl)); in_3 = free (at 3 s) refl; counted = d.counted }
    where
      free : (x : DirectSlot G V) → at 3 s ≡ x → at 3 s ≡ Free
      free Free e = e
      free (Allocated a b) e =
          let o = d.only 3 a b e in
          absurd (elim o.1 [ inl i ↦ grind (arith, o.2) | inr i ↦ elim i [ inl j ↦ grind (arith, o.2) | inr j ↦ j ] ])

  module _ (alike : G → G → Bool) (same : (a : G) → alike a a ≡ true) where
    pub followed : Followed g h k u v w alike
    followed = record {
      leads = next (next (next (next (next (next still
          (record { asked = λ e. refl; slots = refl })) (record { asked = λ e. refl; slots = refl })) (record { asked = λ e. refl; slots = refl }))
          (record { asked = λ e. same g; slots = refl })) (record { asked = λ e. refl; slots = refl })) (record { asked = λ e. refl; slots = refl });
      successive = (refl, refl, (refl, refl, tt));
      apart = all_apart;
      apart_since = apart_since;
      given = given;
      given_too = given_too;
      moved = inl (_, inr (inl refl), refl, refl);
      added = inr (record { by = insert (to 3 k) w; before = _; since = []; whole = refl; place = 0; first = record { slot = 3; gen = k; value = w }; brought = (refl, refl); counted = refl; pointer = refl });
    }

    ended_for_good : (new : Held G V) → Carried (second g h k u v w).calls (ended (first g h k u v w) []) (record { slot = 1; gen = g; value = u }) new → ⊥
    ended_for_good new x =
        let e : x.0 ≡ record { slot = 1; gen = g; value = u } = x.1.3 ∙ x.1.1 in
        gone x.0 e x.2
      where
        gone : (b : Held G V) → b ≡ record { slot = 1; gen = g; value = u } → In b (record { slot = 2; gen = h; value = v } ∷ []) → ⊥
        gone b e (inl d) = grind (arith, e, d)
        gone b e (inr i) = i

    told : (s : Slots G V) (d : Directory G (Ptr G)) → Traced alike itself d s (first g h k u v w) (second g h k u v w ∷ []) [] [] → Told g h k u v w alike s d
    told s d t =
        let r = t.recasts all_apart 1 (to 4 h) given in
        let f = t.finds all_apart refl apart_since 1 (to 4 h) given in
        let q = r.there (_, inl refl, refl) in
        record {
          recast = (q.0, q.1, at_last q.0 (r.given q.0 q.1));
          finds = f.there _ (inl refl) refl;
          only = λ x y e i. only_last y (f.only x y e i);
          gone = none (recast_by alike itself d (to 2 g)) refl;
        }
      where
        at_last : (p : Ptr G) → StoodAt (both_ended g h k u v w) 1 p → p ≡ to 1 h
        at_last p x = elim x.1 [ inl e ↦ grind (arith, x.2) | inr i ↦ elim i [ inl e ↦ grind (arith, x.2) | inr j ↦ absurd j ] ]

        only_last : (y : Held G V) → (l : Line G V) × In l (roll (both_ended g h k u v w)).lines × (l.number ≡ 1) × (l.stand ≡ y) → y ≡ record { slot = 1; gen = h; value = v }
        only_last y x = elim x.1 [ inl e ↦ grind (arith, x.2) | inr i ↦ elim i [ inl e ↦ grind (arith, x.2) | inr j ↦ absurd j ] ]

        none : (o : Option (Ptr G)) → recast_by alike itself d (to 2 g) ≡ o → recast_by alike itself d (to 2 g) ≡ None
        none None e = e
        none (Some q) e =
            let x = (t.recasts all_apart 0 (to 2 g) given_too).stood q e in
            absurd (elim x.1 [ inl i ↦ grind (arith, x.2) | inr i ↦ elim i [ inl j ↦ grind (arith, x.2) | inr j ↦ j ] ])

    pub said : Said g h k u v w alike
    said = record { alone = alone; standing = standing; ended_for_good = ended_for_good; told = told }

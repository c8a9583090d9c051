-- A directory filled with a report: a clear and insertions, after which it holds just the report.
use Rattle.std.proofs.Common.{◌≡◌, ℕ, zero, suc, ◌<◌, Bool, true, List, [], ◌∷◌, ◌++◌, map, length, refl, ap, ◌∙◌, inl, inr, arith}
use Rattle.std.proofs.lemmas.Option.{slice_get_past}
use Rattle.history.specs.Slots.{Slots, Ptr, Held, ptr, at, is_free}
use Rattle.history.specs.Mapped.{Pair, records, settle, rising}
use Rattle.history.specs.Calls.{insert, clear, Entry, Step, Through, still, next}
use Rattle.history.specs.Roll.{Line, standing, numbered}
use Rattle.history.specs.Laws.{In}
use Rattle.history.specs.Directories.{Holds, entered, filling, report_records, filled_slots}
use Rattle.history.proofs.Agree.{Agrees, none, records_of, write_behind, settle_agrees}

module _ {G P : Type 0} where
  free_behind : (s : Slots G P) (n : ℕ) → length s < n → is_free (at n s) ≡ true
  free_behind s zero h = absurd (omega (arith, h))
  free_behind s (suc n) h = grind (arith, slice_get_past s n (omega (arith, h)))

  standing_numbered : (i : ℕ) (hs : List (Held G P)) → standing (numbered i hs) ≡ hs
  standing_numbered i [] = refl
  standing_numbered i (h ∷ hs) = ap (λ (t : List (Held G P)). h ∷ t) (standing_numbered (suc i) hs)

  -- records that rise stand as they were brought
  pub settled : (hs : List (Held G P)) → rising 0 hs ≡ true → records (settle [] hs) ≡ hs
  settled hs h = records_of (settle_agrees hs 0 [] [] h none) ∙ standing_numbered 0 hs

module _ {G V : Type 0} (alike : G → G → Bool) where
  -- histories one after the other
  pub then_through : {s t : Slots G V} (h later : List (Entry G V)) {u : Slots G V} → Through alike s h t → Through alike t later u → Through alike s (later ++ h) u
  then_through h [] a still = a
  then_through h (e ∷ later) a (next b x) = next (then_through h later a b) x

  last_step : {s u : Slots G V} {e : Entry G V} {h : List (Entry G V)} → Through alike s (e ∷ h) u → (t : Slots G V) × Through alike s h t × Step alike e t u
  last_step (next {t = t} a x) = (t, a, x)

module _ {G P : Type 0} (alike : G → G → Bool) (point : Ptr G → P) where
  entered_leads : (ps : List (Pair G G)) (d t : Slots G P) (h : List (Entry G P)) (ls : List (Line G P)) → Agrees G P 1 t ls → rising (length t) (report_records point ps) ≡ true → Through alike d h t →
      Through alike d (entered point ps h) (settle t (report_records point ps))
  entered_leads [] d t h ls a r x = x
  entered_leads (p ∷ ps) d t h ls a r x =
      let new : Held G P = record { slot = p.old.slot; gen = p.old.gen; value = point p.new } in
      let low : length t < p.old.slot = grind arith in
      let b = write_behind new 0 t ls low a in
      entered_leads ps d _ _ _ b.0 (rw b.1 (grind arith)) (next x (record { asked = λ e. grind (arith, free_behind t p.old.slot low); slots = refl }))

  pub filling_leads : (d : Slots G P) (ps : List (Pair G G)) → rising 0 (report_records point ps) ≡ true → Through alike d (filling point ps) (filled_slots point ps)
  filling_leads d ps r = entered_leads ps d [] _ [] none r (next still (record { asked = λ e. refl; slots = refl }))

  entered_leaves : (ps : List (Pair G G)) (h : List (Entry G P)) (d e : Slots G P) → Through alike d (entered point ps h) e → (t : Slots G P) × Through alike d h t × (e ≡ settle t (report_records point ps))
  entered_leaves [] h d e a = (e, a, refl)
  entered_leaves (p ∷ ps) h d e a =
      let b = entered_leaves ps (record { call = insert p.old (point p.new); accepted = true } ∷ h) d e a in
      let c = last_step alike b.1 in
      (c.0, c.1, b.2 ∙ ap (λ t. settle t (report_records point ps)) c.2.slots)

  -- a filling leaves no other slots
  pub filling_leaves : (ps : List (Pair G G)) (d e : Slots G P) → Through alike d (filling point ps) e → e ≡ filled_slots point ps
  filling_leaves ps d e a =
      let b = entered_leaves ps (record { call = clear; accepted = true } ∷ []) d e a in
      let c = last_step alike b.1 in
      b.2 ∙ ap (λ t. settle t (report_records point ps)) c.2.slots

module _ {G P : Type 0} (view : P → Ptr G) (point : Ptr G → P) where
  pairs_again : (ps : List (Pair G G)) → ((p : Pair G G) → In p ps → view (point p.new) ≡ p.new) → map (λ (h : Held G P). record { old = ptr h; new = view h.value }) (report_records point ps) ≡ ps
  pairs_again [] e = refl
  pairs_again (p ∷ ps) e = rw (e p (inl refl), pairs_again ps (λ q i. e q (inr i))) refl

  pub filling_holds : (ps : List (Pair G G)) → rising 0 (report_records point ps) ≡ true → ((p : Pair G G) → In p ps → view (point p.new) ≡ p.new) → Holds view (filled_slots point ps) ps
  filling_holds ps r e = ap (map (λ (h : Held G P). record { old = ptr h; new = view h.value })) (settled (report_records point ps) r) ∙ pairs_again ps e

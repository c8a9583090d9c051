-- The promise over the directories since a citation.
use Rattle.std.proofs.Common.{◌≡◌, ℕ, true, List, [], ◌∷◌, ◌++◌, sym, refl, ap, ◌∙◌, subst, append_assoc, append-nil}
use Rattle.history.specs.Calls.{Entry, Leads}
use Rattle.history.specs.Directories.{Directory, Brackets, one, both, bracketed, joined}
use Rattle.history.specs.Slots.{Slots, count}
use Rattle.history.specs.Spans.{Span, opens, ended, all_ended, Successive, Promise}
use Rattle.history.proofs.Lawful.{lawful}
use Rattle.numbering.specs.Kinds.{season_alike}
use Rattle.numbering.specs.declared.generation.SeasonGen.{SeasonGen}
use Rattle.kinds.specs.declared.slot.DirectSlot.{DirectSlot}
use Rattle.stack.specs.Fixed.{fixed_list}
use Rattle.stack.specs.declared.fixed.FixedStack.{FixedStack}
use Rattle.trails.specs.Chronicle.{OwnCopies}
use Rattle.numbering.specs.Pointers.{Pointer}
use Rattle.passages.specs.State.{short_view}
use Rattle.trails.specs.Reports.{reports_in, copied}
use Rattle.trails.specs.Today.{joined_on, Promised, PromiseToday}

all_ended_append : (xs ys : List (Span SeasonGen ℕ Pointer)) (h : List (Entry SeasonGen ℕ)) → all_ended (xs ++ ys) h ≡ all_ended ys (all_ended xs h)
all_ended_append [] ys h = refl
all_ended_append (x ∷ xs) ys h = all_ended_append xs ys (ended x h)

opens_ended : (xs : List (Span SeasonGen ℕ Pointer)) (h : List (Entry SeasonGen ℕ)) → opens h ≡ true → opens (all_ended xs h) ≡ true
opens_ended [] h o = o
opens_ended (x ∷ xs) h o = opens_ended xs (ended x h) refl

successive_after : (xs ys : List (Span SeasonGen ℕ Pointer)) (h : List (Entry SeasonGen ℕ)) → Successive short_view (xs ++ ys) h → Successive short_view ys (all_ended xs h)
successive_after [] ys h s = s
successive_after (x ∷ xs) ys h s = successive_after xs ys (ended x h) s.2

own_at : (front : List (Directory SeasonGen Pointer)) (d : Directory SeasonGen Pointer) (ds : List (Directory SeasonGen Pointer)) → OwnCopies (front ++ (d ∷ ds)) → copied d ≡ d
own_at [] d ds o = o.0
own_at (x ∷ front) d ds o = own_at front d ds o.1

-- directories joined one after the other
abbrev bracket : Brackets SeasonGen Pointer → List (Directory SeasonGen Pointer) → Brackets SeasonGen Pointer
bracket b [] = b
bracket b (e ∷ es) = bracket (both b (one e)) es

bracketed_on : (b : Brackets SeasonGen Pointer) (es : List (Directory SeasonGen Pointer)) → bracketed (bracket b es) ≡ bracketed b ++ es
bracketed_on b [] = sym (append-nil (bracketed b))
bracketed_on b (e ∷ es) = bracketed_on (both b (one e)) es ∙ append_assoc (bracketed b) (e ∷ []) es

joined_of : (b : Brackets SeasonGen Pointer) (es : List (Directory SeasonGen Pointer)) → joined season_alike short_view (bracket b es) ≡ joined_on (joined season_alike short_view b) es
joined_of b [] = refl
joined_of b (e ∷ es) = joined_of (both b (one e)) es

all_promised : (s : Slots SeasonGen ℕ) (d : Directory SeasonGen Pointer) (ds : List (Directory SeasonGen Pointer)) → Promise season_alike short_view (joined_on (copied d) ds) s → Promised s d ds
all_promised s d ds p = record {
  whole = p;
  traced = λ h front c before x xs parts since.
      p.traced x xs (all_ended before []) c.later
      (subst (λ k. Leads season_alike (c.later ++ k) s) (ap (λ l. all_ended l []) parts ∙ all_ended_append before (x ∷ xs) []) c.leads)
      (opens_ended before [] refl)
      (successive_after before (x ∷ xs) [] (subst (λ l. Successive short_view l []) parts c.successive))
      (bracket (one d) ds)
      (bracketed_on (one d) ds ∙ since)
      (joined_of (one d) ds ∙ ap (λ e. joined_on e ds) (sym (own_at front d ds c.copies)));
}

pub promised : (s : Slots SeasonGen ℕ) (all rest : List (FixedStack (DirectSlot SeasonGen Pointer))) (first : FixedStack (DirectSlot SeasonGen Pointer)) (d : Directory SeasonGen Pointer) → all ≡ first ∷ rest → d ≡ joined_on (copied (fixed_list first)) (reports_in rest) → Promise season_alike short_view d s → PromiseToday s (reports_in all)
promised s all rest first d cut is h = subst (λ xs. PromiseToday s (reports_in xs)) (sym cut) (all_promised s (fixed_list first) (reports_in rest) (subst (λ x. Promise season_alike short_view x s) is h))

pub lawful_now : (s : Slots SeasonGen ℕ) (all : List (FixedStack (DirectSlot SeasonGen Pointer))) → all ≡ [] → PromiseToday s (reports_in all)
lawful_now s all none = subst (λ xs. PromiseToday s (reports_in xs)) (sym none) (lawful season_alike s (count s) refl)

-- A chronicle goes on with each call.
use Rattle.std.proofs.Common.{◌≡◌, ℕ, Bool, true, false, ◌&&◌, not, List, [], ◌∷◌, ◌++◌, Some, Ok, Result, sym, refl, ap, ◌∙◌, subst}
use Rattle.std.proofs.lemmas.List.{map-append}
use Rattle.history.specs.Calls as history
use Rattle.history.specs.Calls.{compress, Entry, went, entry, Step, Leads, still, next}
use Rattle.history.specs.Directories.{Directory, Holds}
use Rattle.history.specs.Laws.{standing_after}
use Rattle.history.specs.Mapped.{records, report, kept}
use Rattle.history.specs.Slots.{Slots, count}
use Rattle.history.specs.Spans.{Span, compresses, unbroken, ended, all_ended, up_to, Successive}
use Rattle.history.proofs.Runs.{stands}
use Rattle.numbering.specs.Kinds.{season_alike}
use Rattle.numbering.specs.declared.generation.SeasonGen.{SeasonGen}
use Rattle.lines.specs.declared.error.LineError.{LineError}
use Rattle.outcome.specs.Outcome.{Outcome}
use Rattle.season.specs.declared.call.Call.{Call}
use Rattle.trails.specs.Chronicle.{OwnCopies, Chronicle, GoesOn, recorded, adds}
use Rattle.numbering.specs.Pointers.{Pointer}
use Rattle.passages.specs.State.{short_view}
use Rattle.trails.specs.Reports.{copied, Added}

pub new_chronicle : {s : Slots SeasonGen ℕ} → s ≡ [] → Chronicle [] [] s
new_chronicle e = subst (λ s. Chronicle [] [] s) (sym e) (record { spans = []; later = []; whole = refl; leads = still; unbroken = refl; successive = tt; listed = refl; copies = tt })

abbrev SeasonSpan : Type 0
SeasonSpan = Span SeasonGen ℕ Pointer

all_ended_push : (xs : List SeasonSpan) (x : SeasonSpan) (h : List (Entry SeasonGen ℕ)) → all_ended (xs ++ (x ∷ [])) h ≡ ended x (all_ended xs h)
all_ended_push [] x h = refl
all_ended_push (y ∷ ys) x h = all_ended_push ys x (ended y h)

successive_push : (xs : List SeasonSpan) (x : SeasonSpan) (h : List (Entry SeasonGen ℕ)) → Successive short_view xs h → unbroken x.calls ≡ true → Holds short_view x.directory (report (standing_after (up_to x (all_ended xs h)))) → Successive short_view (xs ++ (x ∷ [])) h
successive_push [] x h s u d = (u, d, tt)
successive_push (y ∷ ys) x h s u d = (s.0, s.1, successive_push ys x (ended y h) s.2 u d)

copies_push : (ds : List (Directory SeasonGen Pointer)) (d : Directory SeasonGen Pointer) → OwnCopies ds → copied d ≡ d → OwnCopies (ds ++ (d ∷ []))
copies_push [] d o e = (e, tt)
copies_push (x ∷ ds) d o e = (o.0, copies_push ds d o.1 e)

module _ {ds : List (Directory SeasonGen Pointer)} {s t : Slots SeasonGen ℕ} where
  -- a call that is no accepted compression
  pub call_more : (e : Entry SeasonGen ℕ) → Step season_alike e s t → compresses e ≡ false → GoesOn (e ∷ []) ds ds s t
  call_more e step other h c = record {
    spans = c.spans;
    later = e ∷ c.later;
    whole = ap (λ k. e ∷ k) c.whole;
    leads = next c.leads step;
    unbroken = ap (λ b. not b && unbroken c.later) other ∙ c.unbroken;
    successive = c.successive;
    listed = c.listed;
    copies = c.copies;
  }

  -- an accepted compression closes a span
  span_more : {es : List (Directory SeasonGen Pointer)} → Step season_alike (record { call = compress kept; accepted = true }) s t → Added true (report (records s)) ds es → GoesOn (record { call = compress kept; accepted = true } ∷ []) ds es s t
  span_more {es} step a h c =
      let x : SeasonSpan = record { calls = c.later; mapping = kept; directory = a.0 } in
      let stood = (stands season_alike (c.later ++ all_ended c.spans []) s c.leads (count s) refl).listed in
      record {
        spans = c.spans ++ (x ∷ []);
        later = [];
        whole = ap (λ k. record { call = compress kept; accepted = true } ∷ k) c.whole ∙ sym (all_ended_push c.spans x []);
        leads = subst (λ k. Leads season_alike k t) (sym (all_ended_push c.spans x [])) (next c.leads step);
        unbroken = refl;
        successive = successive_push c.spans x [] c.successive c.unbroken (subst (λ hs. Holds short_view a.0 (report hs)) stood a.2);
        copies = subst OwnCopies (sym a.1) (copies_push ds a.0 c.copies a.3);
        listed = a.1 ∙ ap (λ l. l ++ (a.0 ∷ [])) c.listed ∙ sym (map-append (λ y. y.directory) c.spans (x ∷ []));
      }

  pub compression_more : {es : List (Directory SeasonGen Pointer)} (b : Bool) → Step season_alike (record { call = compress kept; accepted = b }) s t → Added b (report (records s)) ds es → GoesOn (record { call = compress kept; accepted = b } ∷ []) ds es s t
  compression_more true step a h c = span_more step a h c
  compression_more false step a h c = subst (λ es. Chronicle (record { call = compress kept; accepted = false } ∷ h) es t) (sym a) (call_more _ step refl h c)

pub never_both : (b : Bool) → b && false ≡ false
never_both true = refl
never_both false = refl

-- what a line adds is its call, accepted as the call was
pub adds_call : {X Y : Type 0} (line : Result Call LineError) (c : Call) (call : history.Call SeasonGen ℕ) (o : Outcome X) (r : Outcome Y) → line ≡ Ok c → recorded c ≡ Some call → went o ≡ went r → adds line o ≡ entry call r ∷ []
adds_call line c call o r l k w = rw (l, k, w) refl

module _ {X : Type 0} {s t : Slots SeasonGen ℕ} (line : Result Call LineError) (c : Call) (call : history.Call SeasonGen ℕ) (o : Outcome X) (r : Outcome (Unit {0})) (l : line ≡ Ok c) (k : recorded c ≡ Some call) (w : went o ≡ went r) where
  -- it goes on with the line as with the call
  pub line_on : {ds es : List (Directory SeasonGen Pointer)} → GoesOn (entry call r ∷ []) ds es s t → GoesOn (adds line o) ds es s t
  line_on {ds} {es} on = subst (λ e. GoesOn e ds es s t) (sym (adds_call line c call o r l k w)) on

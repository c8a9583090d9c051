-- A loop over the compressions since a citation.
use Rattle.std.proofs.Common.{◌≡◌, ℕ, ◌+◌, ◌≤◌, List, ◌∷◌, ◌++◌, length, drop, Some, None, Option, sym, ap, ◌∙◌, append_assoc, append-nil}
use Rattle.std.proofs.lemmas.List.{drop_all}
use Rattle.numbering.specs.declared.generation.SeasonGen.{SeasonGen}
use Rattle.kinds.specs.declared.slot.DirectSlot.{DirectSlot}
use Rattle.stack.specs.Fixed.{fixed_list}
use Rattle.stack.specs.declared.fixed.FixedStack.{FixedStack}
use Rattle.trails.specs.Lines.{written, moved_line, led_by, onward, steps_text, through, come_through}
use Rattle.numbering.specs.Pointers.{Pointer}
use Rattle.trails.specs.Reports.{reports_in}

-- out is written, at is the pointer that came so far, and what is left gives the whole
pub record Sofar (ds : List (FixedStack (DirectSlot SeasonGen Pointer))) (before : ℕ) (p : Pointer) (out₀ : List ℕ) (n : ℕ) (at : Pointer) (out : List ℕ) : Type 0 where
  pub text : out ++ steps_text n (reports_in (drop n ds)) at ≡ out₀ ++ steps_text before (reports_in (drop before ds)) p
  pub end : come_through (reports_in (drop n ds)) at ≡ come_through (reports_in (drop before ds)) p

module _ {ds : List (FixedStack (DirectSlot SeasonGen Pointer))} {before : ℕ} {p : Pointer} {out₀ : List ℕ} {n : ℕ} {at : Pointer} {out : List ℕ} (old : Sofar ds before p out₀ n at out) where
  module _ {d : FixedStack (DirectSlot SeasonGen Pointer)} (cut : drop n ds ≡ d ∷ drop (n + 1) ds) {new : Option Pointer} (led : new ≡ led_by (fixed_list d) at) where
    whole : out ++ (written (moved_line (n + 1) at new) ++ onward (λ q. steps_text (n + 1) (reports_in (drop (n + 1) ds)) q) new) ≡ out₀ ++ steps_text before (reports_in (drop before ds)) p
    whole = ap (λ o. out ++ (written (moved_line (n + 1) at o) ++ onward (λ q. steps_text (n + 1) (reports_in (drop (n + 1) ds)) q) o)) led ∙ sym (ap (λ l. out ++ steps_text n (reports_in l) at) cut) ∙ old.text

    ending : through (λ q. come_through (reports_in (drop (n + 1) ds)) q) new ≡ come_through (reports_in (drop before ds)) p
    ending = ap (through (λ q. come_through (reports_in (drop (n + 1) ds)) q)) led ∙ sym (ap (λ l. come_through (reports_in l) at) cut) ∙ old.end

    pub one_step : {grown : List ℕ} → grown ≡ out ++ written (moved_line (n + 1) at new) → (q : Pointer) → new ≡ Some q → Sofar ds before p out₀ (n + 1) q grown
    one_step writes q e = record {
      text = ap (λ o. o ++ steps_text (n + 1) (reports_in (drop (n + 1) ds)) q) writes ∙ append_assoc out (written (moved_line (n + 1) at new)) _ ∙ sym (ap (λ o. out ++ (written (moved_line (n + 1) at new) ++ onward (λ r. steps_text (n + 1) (reports_in (drop (n + 1) ds)) r) o)) e) ∙ whole;
      end = sym (ap (through (λ r. come_through (reports_in (drop (n + 1) ds)) r)) e) ∙ ending;
    }

    pub last_text : {grown : List ℕ} → grown ≡ out ++ written (moved_line (n + 1) at new) → new ≡ None → grown ≡ out₀ ++ steps_text before (reports_in (drop before ds)) p
    last_text writes e = writes ∙ ap (λ l. out ++ l) (sym (append-nil (written (moved_line (n + 1) at new)))) ∙ sym (ap (λ o. out ++ (written (moved_line (n + 1) at new) ++ onward (λ r. steps_text (n + 1) (reports_in (drop (n + 1) ds)) r) o)) e) ∙ whole

    pub last_end : new ≡ None → None ≡ come_through (reports_in (drop before ds)) p
    last_end e = sym (ap (through (λ r. come_through (reports_in (drop (n + 1) ds)) r)) e) ∙ ending

  pub all_text : length ds ≤ n → out ≡ out₀ ++ steps_text before (reports_in (drop before ds)) p
  all_text h = sym (append-nil out) ∙ sym (ap (λ l. out ++ steps_text n (reports_in l) at) (drop_all n ds h)) ∙ old.text

  pub all_end : length ds ≤ n → Some at ≡ come_through (reports_in (drop before ds)) p
  all_end h = sym (ap (λ l. come_through (reports_in l) at) (drop_all n ds h)) ∙ old.end

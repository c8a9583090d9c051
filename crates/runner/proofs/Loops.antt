-- A loop over the lines of a script.
use Rattle.std.proofs.Common.{◌≡◌, ℕ, List, [], ◌∷◌, ◌++◌, Result, sym, refl, ap, ◌∙◌, append_assoc, append-nil}
use Rattle.answers.specs.Shown.{Reply, reply_line}
use Rattle.lines.specs.Meaning.{meaning}
use Rattle.lines.specs.declared.call.Call.{Call}
use Rattle.lines.specs.declared.error.LineError.{LineError}
use Rattle.passages.specs.State.{State}
use Rattle.steps.specs.Model.{answer_to, after_line}
use Rattle.runner.specs.Run.{output, after_all}
use Rattle.runner.specs.Led.{Reached}

-- out is written, the state is st, and what is left gives the whole
pub record Sofar (st₀ : State) (out₀ : List ℕ) (lines : List (List ℕ)) (st : State) (out : List ℕ) (rest : List (List ℕ)) : Type 0 where
  pub text : out ++ output st rest ≡ out₀ ++ output st₀ lines
  pub after : after_all st rest ≡ after_all st₀ lines
  pub front : List (List ℕ)
  pub parts : lines ≡ front ++ rest
  pub state : st ≡ after_all st₀ front

after_push : (st : State) (front : List (List ℕ)) (line : List ℕ) → after_line (after_all st front) (meaning line) ≡ after_all st (front ++ line ∷ [])
after_push st [] line = refl
after_push st (l ∷ ls) line = after_push (after_line st (meaning l)) ls line

module _ {st₀ : State} {out₀ : List ℕ} {lines : List (List ℕ)} where
  pub none_yet : Sofar st₀ out₀ lines st₀ out₀ lines
  none_yet = record { text = refl; after = refl; front = []; parts = refl; state = refl }

  module _ {st : State} {out : List ℕ} {rest : List (List ℕ)} (old : Sofar st₀ out₀ lines st out rest) where
    pub so_far : Reached st₀ lines st
    so_far = record { front = old.front; back = rest; parts = old.parts; state = old.state }

    -- one line more, whether or not its answer could be written
    pub line_more : (line : List ℕ) (next : List (List ℕ)) (parsed : Result Call LineError) (new : State) → rest ≡ line ∷ next → parsed ≡ meaning line → new ≡ after_line st parsed → Reached st₀ lines new
    line_more line next parsed new cut reads moves = record {
      front = old.front ++ line ∷ [];
      back = next;
      parts = old.parts ∙ ap (λ ls. old.front ++ ls) cut ∙ sym (append_assoc old.front (line ∷ []) next);
      state = moves ∙ ap (after_line st) reads ∙ ap (λ s. after_line s (meaning line)) old.state ∙ after_push st₀ old.front line;
    }

    pub one_more : {line grown : List ℕ} {next : List (List ℕ)} {parsed : Result Call LineError} {answer : Reply} {new : State} → rest ≡ line ∷ next → parsed ≡ meaning line → answer ≡ answer_to st parsed → new ≡ after_line st parsed → grown ≡ out ++ reply_line answer → Sofar st₀ out₀ lines new grown next
    unfolding line_more
    one_more {line} {grown} {next} {parsed} {answer} {new} cut reads answers moves writes =
        let more = line_more line next parsed new cut reads moves in
        let state : new ≡ after_line st (meaning line) = moves ∙ ap (after_line st) reads in
        let told : grown ≡ out ++ reply_line (answer_to st (meaning line)) = writes ∙ ap (λ a. out ++ reply_line a) (answers ∙ ap (answer_to st) reads) in
        record {
          text = rw (state, told, append_assoc) (ap (λ ls. out ++ output st ls) (sym cut) ∙ old.text);
          after = rw state (ap (after_all st) (sym cut) ∙ old.after);
          front = more.front;
          parts = more.parts;
          state = more.state;
        }

    pub all_text : rest ≡ [] → out ≡ out₀ ++ output st₀ lines
    all_text e = sym (append-nil out) ∙ ap (λ ls. out ++ output st ls) (sym e) ∙ old.text

    pub all_after : rest ≡ [] → st ≡ after_all st₀ lines
    all_after e = ap (after_all st) (sym e) ∙ old.after

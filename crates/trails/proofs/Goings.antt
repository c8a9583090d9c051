-- A season's lines, carried out one after the other.
use Rattle.std.proofs.Common.{◌≡◌, ℕ, List, [], ◌∷◌, ◌++◌, Option, Result, sym, refl, subst, append_assoc, append-nil}
use Rattle.history.specs.Calls.{Entry}
use Rattle.history.specs.Directories.{Directory}
use Rattle.numbering.specs.declared.generation.SeasonGen.{SeasonGen}
use Rattle.lines.specs.declared.error.LineError.{LineError}
use Rattle.numbering.specs.Pointers.{Pointer}
use Rattle.season.specs.Meaning.{meaning}
use Rattle.season.specs.declared.call.Call.{Call}
use Rattle.answers.specs.declared.refusal.Refusal.{Refusal}
use Rattle.trails.specs.Reports.{of_call}
use Rattle.trails.specs.Chronicle.{Chronicle, GoesOn, Point, LineDone, CarriedOut, Ran, adds}

-- what was carried out, and what is left of the lines gives the whole
pub record Sofar (a : Point) (lines0 : List (List ℕ)) (b : Point) (lines : List (List ℕ)) (es : List (Directory SeasonGen Pointer)) : Type 0 where
  pub calls : List (Entry SeasonGen ℕ)
  pub rest : (z : Point) (more : List (Entry SeasonGen ℕ)) → CarriedOut b lines z more → CarriedOut a lines0 z (more ++ calls)
  pub on : GoesOn calls [] es a.register.slots b.register.slots

module _ {a : Point} {lines0 : List (List ℕ)} where
  pub none_yet : {es : List (Directory SeasonGen Pointer)} → es ≡ [] → Sofar a lines0 a lines0 es
  none_yet e = record {
    calls = [];
    rest = λ z more w. subst (CarriedOut a lines0 z) (sym (append-nil more)) w;
    on = λ h c. subst (λ es. Chronicle h es a.register.slots) (sym e) c;
  }

  pub one_more : {b b' : Point} {ls left : List (List ℕ)} {ds es : List (Directory SeasonGen Pointer)} {line : List ℕ} {p : Result Call LineError} (answer : Result (Option Pointer) Refusal) →
      Sofar a lines0 b left ds → left ≡ line ∷ ls → p ≡ meaning line → GoesOn (adds p (of_call answer)) ds es b.register.slots b'.register.slots → LineDone b p answer b' → Sofar a lines0 b' ls es
  one_more {b} {b'} {ls} {left} {ds} {es} {line} {p} answer s l m on done = record {
    calls = adds p (of_call answer) ++ s.calls;
    rest = λ z more w.
        let k : CarriedOut b (line ∷ ls) z (more ++ adds (meaning line) (of_call answer)) =
        (answer, b', more, subst (λ q. LineDone b q answer b') m done, w, refl) in
        let k' : CarriedOut b left z (more ++ adds p (of_call answer)) = rw (l, m) k in
        subst (CarriedOut a lines0 z) (append_assoc more (adds p (of_call answer)) s.calls) (s.rest z (more ++ adds p (of_call answer)) k');
    on = λ h c. subst (λ k. Chronicle k es b'.register.slots) (sym (append_assoc (adds p (of_call answer)) s.calls h)) (on (s.calls ++ h) (s.on h c));
  }

  pub all_ran : {b : Point} {left : List (List ℕ)} {es : List (Directory SeasonGen Pointer)} → Sofar a lines0 b left es → left ≡ [] → Ran lines0 es a b
  all_ran {b} s e = record { calls = s.calls; carried = s.rest b [] (rw e (refl, refl)); on = s.on }

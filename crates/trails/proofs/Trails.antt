-- A citation's trail, put together.
use Rattle.std.proofs.Common.{◌≡◌, ℕ, ◌-◌, min, List, [], ◌++◌, length, take, drop, Some, None, Ok, Err, Option, Result, OnOk, sym, refl, ap, ◌∙◌, append_assoc, append-nil, arith}
use Rattle.std.proofs.lemmas.List.{drop_min, length-drop, take_all}
use Rattle.history.specs.Directories.{Directory}
use Rattle.history.specs.Slots.{Slots}
use Rattle.numbering.specs.declared.generation.SeasonGen.{SeasonGen}
use Rattle.directory.specs.declared.error.DirectoryError.{DirectoryError}
use Rattle.trails.specs.Lines.{written, today_line, onward, steps_text, come_through}
use Rattle.numbering.specs.Pointers.{Pointer}
use Rattle.trails.specs.Today.{today_of, Answered, Told}
use Rattle.trails.specs.declared.line.Line.TheVariants.{Cites}
use Rattle.trails.specs.declared.trail.Citation.{Citation}

-- what stands behind a place of a list, or behind its end
pub behind : {X : Type 0} (n m : ℕ) (xs : List X) → m ≡ min n (length xs) → take (length xs - m) (drop m xs) ≡ drop n xs
behind n m xs e = ap (λ k. take k (drop m xs)) (sym (length-drop m xs)) ∙ take_all _ (drop m xs) (omega arith) ∙ ap (λ k. drop k xs) e ∙ drop_min n xs

pub on_ok_map : {X Y : Type 0} {P Q : Type 0} (r : Result X Y) → (P → Q) → OnOk r P → OnOk r Q
on_ok_map (Ok x) f h = f h
on_ok_map (Err e) f h = tt

module _ (room : ℕ) (s : Slots SeasonGen ℕ) (since : List (Directory SeasonGen Pointer)) (c : Citation) (old cited stepped : List ℕ) (cites : cited ≡ old ++ written (Cites c.line c.pointer)) (steps : stepped ≡ cited ++ steps_text c.before since c.pointer) where
  so_far : (l : List ℕ) → stepped ++ l ≡ old ++ (written (Cites c.line c.pointer) ++ (steps_text c.before since c.pointer ++ l))
  so_far l = ap (λ x. x ++ l) steps ∙ append_assoc cited (steps_text c.before since c.pointer) l ∙ ap (λ x. x ++ (steps_text c.before since c.pointer ++ l)) cites ∙ append_assoc old (written (Cites c.line c.pointer)) _

  pub ended : None ≡ come_through since c.pointer → Told room s since c old stepped
  ended e = (Ok (today_of s since c.pointer), refl, sym (append-nil stepped) ∙ so_far [] ∙ ap (λ o. old ++ (written (Cites c.line c.pointer) ++ (steps_text c.before since c.pointer ++ onward (λ at. written (today_line at (Ok (today_of s since c.pointer)))) o))) e)

  pub came : {new : List ℕ} (at : Pointer) (answer : Result (Option (Pointer × ℕ)) DirectoryError) → Some at ≡ come_through since c.pointer → Answered room s since c.pointer answer → new ≡ stepped ++ written (today_line at answer) → Told room s since c old new
  came at answer e a writes = (answer, a, writes ∙ so_far _ ∙ ap (λ o. old ++ (written (Cites c.line c.pointer) ++ (steps_text c.before since c.pointer ++ onward (λ q. written (today_line q answer)) o))) e)

-- A line whose fields are read one after another.
use Rattle.std.proofs.Common.{◌≡◌, ℕ, Bool, true, false, ◌&&◌, Some, None, Ok, Err, Option, refl, ap, ◌∙◌}
use Rattle.std.specs.Option.{ok_or}
use Rattle.std.proofs.lemmas.Bool.{cond-false}
use Rattle.lines.specs.Call.{Field, wants_pointer, wants_value, fits, asked}
use Rattle.lines.specs.Meaning.{field_or_unfit, with_verb}
use Rattle.lines.specs.Verb.{verb_of}
use Rattle.lines.specs.declared.error.LineError.TheVariants.{Unknown, Unfit}
use Rattle.lines.specs.declared.verb.Verb.{Verb}
use Rattle.text.specs.Number.{field_of}
use Rattle.text.specs.Split.{Four}
use Rattle.text.specs.declared.number.FieldError.{FieldError}

name_back : (o : Option Verb) (v : Verb) → ok_or o Unknown ≡ Ok v → o ≡ Some v
name_back (Some w) v e = cc
name_back None v e = cc

slot_back : (f : Field) (s : Option ℕ) → field_or_unfit f ≡ Ok s → f ≡ Ok s
slot_back (Ok o) s e = cc
slot_back (Err e) s h = cc

no_value : (w p q : Bool) (e : FieldError) → p && (q && fits w (Err e)) ≡ false
no_value true true true e = refl
no_value true true false e = refl
no_value true false q e = refl
no_value false true true e = refl
no_value false true false e = refl
no_value false false q e = refl

module _ (f : Four) {verb : Verb} {s g : Option ℕ} (name : ok_or (verb_of f.call) Unknown ≡ Ok verb) (slot : field_or_unfit (field_of 65535 f.slot) ≡ Ok s) (generation : field_of 4294967295 f.generation ≡ Ok g) where
  read_so_far : (v : Field) → field_of 4294967295 f.value ≡ v → with_verb (verb_of f.call) f ≡ ok_or (asked verb (Ok s) (Ok g) v) Unfit
  read_so_far v value =
      ap (λ o. with_verb o f) (name_back _ verb name)
      ∙ (λ i. ok_or (asked verb (slot_back _ s slot i) (generation i) (value i)) Unfit)

  pub all_read : {v : Option ℕ} → field_of 4294967295 f.value ≡ Ok v → with_verb (verb_of f.call) f ≡ ok_or (asked verb (Ok s) (Ok g) (Ok v)) Unfit
  all_read {v} value = read_so_far (Ok v) value

  pub value_unfit : {e : FieldError} → field_of 4294967295 f.value ≡ Err e → with_verb (verb_of f.call) f ≡ Err Unfit
  value_unfit {e} value =
      read_so_far (Err e) value
      ∙ ap (λ o. ok_or o Unfit) (cond-false _ _ _ (no_value (wants_value verb) (fits (wants_pointer verb) (Ok s)) (fits (wants_pointer verb) (Ok g)) e))

-- A line that asks for a call is the call's text, and the call is in range.
use Rattle.std.proofs.Common.{◌≡◌, ℕ, ◌^◌, ◌<◌, ◌≤◌, Bool, true, false, cond, ◌&&◌, eqb, ltb, List, [], ◌∷◌, ◌++◌, length, Some, None, Ok, Err, decimal, Option, Result, sym, refl, ap, ◌∙◌, subst, arith}
use Rattle.std.specs.Option.{ok_or}
use Rattle.std.specs.Str.{bytes_eq}
use Rattle.std.proofs.lemmas.Slice.Eq.{bytes_eq-Decides}
use Rattle.std.proofs.lemmas.Bool.{eqb-true, and_parts, false≢true}
use Rattle.lines.specs.Call.{Field, wants_pointer, wants_value, fits, number_in, call_at, asked}
use Rattle.lines.specs.Meaning.{with_verb, with_fields, meaning}
use Rattle.text.specs.Number.{numeral, within, number_or, field_of}
use Rattle.text.specs.Split.{Four, onto, split, four_of}
use Rattle.lines.specs.Texts.{row, blank, call_text, InRange}
use Rattle.lines.specs.Verb.{name_of, verbs, named, verb_of}
use Rattle.lines.specs.declared.call.Call.{Call}
use Rattle.lines.specs.declared.error.LineError.{LineError}
use Rattle.lines.specs.declared.error.LineError.TheVariants.{Unknown, Unfit}
use Rattle.lines.specs.declared.verb.Verb.{Verb}
use Rattle.lines.specs.declared.verb.Verb.TheVariants.{Insert, Edit, Get, Remove, Trim, Reserve, Limit, Clear, Compress, Recast}
use Rattle.text.proofs.Exact.{never, only_decimals}
use Rattle.text.proofs.Splits.{some_part}

-- the parts with the byte between them again
abbrev pub join : ℕ → List (List ℕ) → List ℕ
join at [] = []
join at (p ∷ []) = p
join at (p ∷ q ∷ ps) = p ++ (at ∷ join at (q ∷ ps))

join_onto : (at x : ℕ) (ps : List (List ℕ)) → join at (onto x ps) ≡ x ∷ join at ps
join_onto at x [] = refl
join_onto at x (p ∷ []) = refl
join_onto at x (p ∷ q ∷ ps) = refl

pub join_split : (at : ℕ) (bs : List ℕ) → join at (split at bs) ≡ bs
join_split at [] = refl
join_split at (x ∷ xs) = go (eqb x at) refl (join_split at xs)
  where
    go : (t : Bool) → eqb x at ≡ t → join at (split at xs) ≡ xs → join at (cond t ([] ∷ split at xs) (onto x (split at xs))) ≡ x ∷ xs
    go true e h = some_part at xs (λ ps. join at ([] ∷ ps) ≡ at ∷ join at ps) (λ _ _. refl) ∙ ap (λ l. at ∷ l) h ∙ ap (λ y. y ∷ xs) (sym (eqb-true x at e))
    go false e h = join_onto at x (split at xs) ∙ ap (λ l. x ∷ l) h

abbrev pub row_of : Four → List ℕ
row_of f = row f.call f.slot f.generation f.value

pub four_row : (ps : List (List ℕ)) (f : Four) → four_of ps ≡ Some f → join 32 ps ≡ row_of f
four_row [] f e = absurd (never e)
four_row (a ∷ []) f e = absurd (never e)
four_row (a ∷ b ∷ []) f e = absurd (never e)
four_row (a ∷ b ∷ c ∷ []) f e = absurd (never e)
four_row (a ∷ b ∷ c ∷ d ∷ []) f e =
    let same : ◌≡◌ {A = Four} (record { call = a; slot = b; generation = c; value = d }) f = cc in ap row_of same
four_row (a ∷ b ∷ c ∷ d ∷ g ∷ fs) f e = absurd (never e)

verb_name : (name : List ℕ) (vs : List Verb) (v : Verb) → named name vs ≡ Some v → name ≡ name_of v
verb_name name [] v e = absurd (never e)
verb_name name (w ∷ vs) v e = go (bytes_eq name (name_of w)) refl (verb_name name vs v) e
  where
    go : (t : Bool) → bytes_eq name (name_of w) ≡ t → (named name vs ≡ Some v → name ≡ name_of v) → cond t (Some w) (named name vs) ≡ Some v → name ≡ name_of v
    go true s else h = let same : w ≡ v = cc in (bytes_eq-Decides name (name_of w)).0 s ∙ ap name_of same
    go false s else h = else h

abbrev pub shown_if : Bool → ℕ → List ℕ
shown_if true n = decimal n
shown_if false n = blank

pub field_text : (want : Bool) (most : ℕ) (bs : List ℕ) → most < 2 ^ 32 → fits want (field_of most bs) ≡ true → (number_in (field_of most bs) ≤ most) × (bs ≡ shown_if want (number_in (field_of most bs)))
field_text want most bs h e = go want (bytes_eq bs blank) (within most (numeral bs)) refl refl e
  where
    go : (w t : Bool) (o : Option ℕ) → bytes_eq bs blank ≡ t → within most (numeral bs) ≡ o → fits w (cond t (Ok None) (number_or o)) ≡ true → (number_in (cond t (Ok None) (number_or o)) ≤ most) × (bs ≡ shown_if w (number_in (cond t (Ok None) (number_or o))))
    go true true o s r f = absurd (false≢true f)
    go true false (Some n) s r f = only_decimals most n bs h r
    go true false None s r f = absurd (false≢true f)
    go false true o s r f = (omega arith, (bytes_eq-Decides bs blank).0 s)
    go false false (Some n) s r f = absurd (false≢true f)
    go false false None s r f = absurd (false≢true f)

call_text_lem : (verb : Verb) (s g v : ℕ) → call_text (call_at verb s g v) ≡ row (name_of verb) (shown_if (wants_pointer verb) s) (shown_if (wants_pointer verb) g) (shown_if (wants_value verb) v)
call_text_lem Insert s g v = refl
call_text_lem Edit s g v = refl
call_text_lem Get s g v = refl
call_text_lem Remove s g v = refl
call_text_lem Trim s g v = refl
call_text_lem Reserve s g v = refl
call_text_lem Limit s g v = refl
call_text_lem Clear s g v = refl
call_text_lem Compress s g v = refl
call_text_lem Recast s g v = refl

call_range : (verb : Verb) (s g v : ℕ) → s ≤ 65535 → g ≤ 4294967295 → v ≤ 4294967295 → InRange (call_at verb s g v)
call_range Insert s g v p q r = (p, q, r)
call_range Edit s g v p q r = (p, q, r)
call_range Get s g v p q r = (p, q)
call_range Remove s g v p q r = (p, q)
call_range Trim s g v p q r = r
call_range Reserve s g v p q r = r
call_range Limit s g v p q r = r
call_range Clear s g v p q r = tt
call_range Compress s g v p q r = tt
call_range Recast s g v p q r = (p, q)

asked_back : (verb : Verb) (s g v : Field) (c : Call) → asked verb s g v ≡ Some c → (fits (wants_pointer verb) s ≡ true) × (fits (wants_pointer verb) g ≡ true) × (fits (wants_value verb) v ≡ true) × (call_at verb (number_in s) (number_in g) (number_in v) ≡ c)
asked_back verb s g v c e = go (fits (wants_pointer verb) s && (fits (wants_pointer verb) g && fits (wants_value verb) v)) refl e
  where
    go : (t : Bool) → (fits (wants_pointer verb) s && (fits (wants_pointer verb) g && fits (wants_value verb) v)) ≡ t → cond t (Some (call_at verb (number_in s) (number_in g) (number_in v))) None ≡ Some c → (fits (wants_pointer verb) s ≡ true) × (fits (wants_pointer verb) g ≡ true) × (fits (wants_value verb) v ≡ true) × (call_at verb (number_in s) (number_in g) (number_in v) ≡ c)
    go true a h = let p = and_parts _ _ a in let q = and_parts _ _ p.1 in (p.0, q.0, q.1, cc)
    go false a h = absurd (never h)

-- what a line says that asks for the call
abbrev Only : List ℕ → Call → Type 0
Only line c = InRange c × (line ≡ call_text c)

fields_text : (f : Four) (verb : Verb) (c : Call) → f.call ≡ name_of verb → asked verb (field_of 65535 f.slot) (field_of 4294967295 f.generation) (field_of 4294967295 f.value) ≡ Some c → Only (row_of f) c
fields_text f verb c n e =
    let p = asked_back verb _ _ _ c e in
    let a = field_text (wants_pointer verb) 65535 f.slot (omega arith) p.0 in
    let b = field_text (wants_pointer verb) 4294967295 f.generation (omega arith) p.1 in
    let d = field_text (wants_value verb) 4294967295 f.value (omega arith) p.2 in
    (subst InRange p.3 (call_range verb _ _ _ a.0 b.0 d.0), (λ i. row (n i) (a.1 i) (b.1 i) (d.1 i)) ∙ sym (call_text_lem verb _ _ _) ∙ ap call_text p.3)

pub err_ok : {X : Type 0} (l : LineError) (x : X) → ◌≡◌ {A = Result X LineError} (Err l) (Ok x) → ⊥
err_ok l x e = cc

unfit_back : (o : Option Call) (c : Call) → ok_or o Unfit ≡ Ok c → o ≡ Some c
unfit_back (Some d) c e = let same : d ≡ c = cc in ap Some same
unfit_back None c e = absurd (err_ok Unfit c e)

with_verb_lem : (f : Four) (o : Option Verb) (c : Call) → verb_of f.call ≡ o → with_verb o f ≡ Ok c → Only (row_of f) c
with_verb_lem f (Some verb) c n e = fields_text f verb c (verb_name f.call verbs verb n) (unfit_back _ c e)
with_verb_lem f None c n e = absurd (err_ok Unknown c e)

with_fields_lem : (line : List ℕ) (o : Option Four) (c : Call) → four_of (split 32 line) ≡ o → with_fields o ≡ Ok c → Only line c
with_fields_lem line (Some f) c h e =
    let p = with_verb_lem f (verb_of f.call) c refl e in
    (p.0, sym (join_split 32 line) ∙ four_row (split 32 line) f h ∙ p.1)
with_fields_lem line None c h e = absurd (err_ok Unknown c e)

one_text : (line : List ℕ) (c : Call) → meaning line ≡ Ok c → Only line c
one_text line c e = go (ltb 80 (length line)) e
  where
    go : (t : Bool) → cond t (Err Unknown) (with_fields (four_of (split 32 line))) ≡ Ok c → Only line c
    go true h = absurd (err_ok Unknown c h)
    go false h = with_fields_lem line (four_of (split 32 line)) c refl h

pub only_asks : {line : List ℕ} {r : Result Call LineError} → r ≡ meaning line → (c : Call) → r ≡ Ok c → Only line c
only_asks is c e = one_text _ c (sym is ∙ e)

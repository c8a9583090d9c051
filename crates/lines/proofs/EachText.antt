-- The text of a call in range asks for it.
use Rattle.std.proofs.Common.{◌≡◌, ℕ, ◌+◌, ◌^◌, ◌<◌, ◌≤◌, Bool, true, false, eqb, List, [], ◌∷◌, ◌++◌, length, Some, None, Ok, Result, decimal, sym, refl, ap, ◌∙◌, subst, arith, length-append}
use Rattle.std.specs.Char.{is_ascii_digit}
use Rattle.std.specs.Option.{ok_or}
use Rattle.std.specs.Str.{bytes_eq, all_ascii_digits}
use Rattle.std.proofs.lemmas.Fmt.{digits_decimal, length-decimal-le}
use Rattle.std.proofs.lemmas.Slice.Eq.{bytes_eq-Decides}
use Rattle.std.proofs.lemmas.Bool.{cond-false, ne_eqb, and_parts, false≢true, le-ltb}
use Rattle.lines.specs.Call.{Field, wants_pointer, wants_value, call_at, asked}
use Rattle.lines.specs.Meaning.{with_verb, with_fields, meaning}
use Rattle.text.specs.Number.{numeral, number_or, field_of}
use Rattle.text.specs.Split.{Four, onto, split, four_of}
use Rattle.lines.specs.Texts.{row, blank, call_text, InRange}
use Rattle.lines.specs.Verb.{name_of}
use Rattle.lines.specs.declared.call.Call.{Call}
use Rattle.lines.specs.declared.call.Call.TheVariants as call
use Rattle.lines.specs.declared.error.LineError.{LineError}
use Rattle.lines.specs.declared.error.LineError.TheVariants.{Unfit}
use Rattle.lines.specs.declared.verb.Verb.{Verb}
use Rattle.lines.specs.declared.verb.Verb.TheVariants.{Insert, Edit, Get, Remove, Trim, Reserve, Limit, Clear, Compress, Recast}
use Rattle.text.proofs.Exact.{own, never, numeral_reads, all_decimals}
use Rattle.lines.proofs.Names.{verb_named}
use Rattle.lines.proofs.OneText.{shown_if}

-- no space among the bytes
abbrev pub Solid : List ℕ → Type 0
Solid [] = Unit {0}
Solid (c ∷ cs) = (eqb c 32 ≡ false) × Solid cs

split_part : (a rest : List ℕ) → Solid a → split 32 (a ++ (32 ∷ rest)) ≡ a ∷ split 32 rest
split_part [] rest s = refl
split_part (c ∷ cs) rest s = cond-false _ _ _ s.0 ∙ ap (onto c) (split_part cs rest s.1)

split_last : (a : List ℕ) → Solid a → split 32 a ≡ a ∷ []
split_last [] s = refl
split_last (c ∷ cs) s = cond-false _ _ _ s.0 ∙ ap (onto c) (split_last cs s.1)

pub split_row : (a b c d : List ℕ) → Solid a → Solid b → Solid c → Solid d → split 32 (row a b c d) ≡ a ∷ b ∷ c ∷ d ∷ []
split_row a b c d p q r s =
    split_part a _ p ∙ ap (λ l. a ∷ l) (split_part b _ q ∙ ap (λ l. b ∷ l) (split_part c d r ∙ ap (λ l. c ∷ l) (split_last d s)))

solid_digits : (ds : List ℕ) → all_ascii_digits ds ≡ true → Solid ds
solid_digits [] h = tt
solid_digits (c ∷ cs) h =
    let p = and_parts (is_ascii_digit c) (all_ascii_digits cs) h in
    (ne_eqb c 32 (λ z. false≢true (subst (λ x. is_ascii_digit x ≡ true) z p.0)), solid_digits cs p.1)

pub solid_shown : (w : Bool) (n : ℕ) → n ≤ 4294967295 → Solid (shown_if w n)
solid_shown true n h = solid_digits (decimal n) (digits_decimal own n (omega arith))
solid_shown false n h = (refl, tt)

pub length_shown : (w : Bool) (n : ℕ) → n ≤ 4294967295 → length (shown_if w n) ≤ 10
length_shown true n h = length-decimal-le 10 n (omega arith) (omega arith) (omega arith)
length_shown false n h = omega arith

solid_name : (v : Verb) → Solid (name_of v)
solid_name Insert = (refl, (refl, (refl, (refl, (refl, (refl, tt))))))
solid_name Edit = (refl, (refl, (refl, (refl, tt))))
solid_name Get = (refl, (refl, (refl, tt)))
solid_name Remove = (refl, (refl, (refl, (refl, (refl, (refl, tt))))))
solid_name Trim = (refl, (refl, (refl, (refl, tt))))
solid_name Reserve = (refl, (refl, (refl, (refl, (refl, (refl, (refl, tt)))))))
solid_name Limit = (refl, (refl, (refl, (refl, (refl, tt)))))
solid_name Clear = (refl, (refl, (refl, (refl, (refl, tt)))))
solid_name Compress = (refl, (refl, (refl, (refl, (refl, (refl, (refl, (refl, tt))))))))
solid_name Recast = (refl, (refl, (refl, (refl, (refl, (refl, tt))))))

length_name : (v : Verb) → length (name_of v) ≤ 8
length_name Insert = omega arith
length_name Edit = omega arith
length_name Get = omega arith
length_name Remove = omega arith
length_name Trim = omega arith
length_name Reserve = omega arith
length_name Limit = omega arith
length_name Clear = omega arith
length_name Compress = omega arith
length_name Recast = omega arith

abbrev pub given : Bool → ℕ → Field
given true n = Ok (Some n)
given false n = Ok None

not_blank : (n : ℕ) → n < 2 ^ 64 → bytes_eq (decimal n) blank ≡ false
not_blank n h = go (bytes_eq (decimal n) blank) refl
  where
    go : (t : Bool) → bytes_eq (decimal n) blank ≡ t → t ≡ false
    go true s = absurd (never (sym (ap numeral ((bytes_eq-Decides (decimal n) blank).0 s)) ∙ numeral_reads n h))
    go false s = refl

pub field_given : (w : Bool) (most n : ℕ) → most < 2 ^ 32 → n ≤ most → field_of most (shown_if w n) ≡ given w n
field_given true most n h l = cond-false _ _ _ (not_blank n (omega arith)) ∙ ap number_or (all_decimals most n h l)
field_given false most n h l = refl

asked_given : (verb : Verb) (s g v : ℕ) → asked verb (given (wants_pointer verb) s) (given (wants_pointer verb) g) (given (wants_value verb) v) ≡ Some (call_at verb s g v)
asked_given Insert s g v = refl
asked_given Edit s g v = refl
asked_given Get s g v = refl
asked_given Remove s g v = refl
asked_given Trim s g v = refl
asked_given Reserve s g v = refl
asked_given Limit s g v = refl
asked_given Clear s g v = refl
asked_given Compress s g v = refl
asked_given Recast s g v = refl

pub length_row : (a b c d : List ℕ) → length (row a b c d) ≡ length a + (1 + (length b + (1 + (length c + (1 + length d)))))
length_row a b c d = omega (arith, length-append a (32 ∷ (b ++ (32 ∷ (c ++ (32 ∷ d))))), length-append b (32 ∷ (c ++ (32 ∷ d))), length-append c (32 ∷ d))

abbrev text : Verb → ℕ → ℕ → ℕ → List ℕ
text verb s g v = row (name_of verb) (shown_if (wants_pointer verb) s) (shown_if (wants_pointer verb) g) (shown_if (wants_value verb) v)

back : (verb : Verb) (s g v : ℕ) → s ≤ 65535 → g ≤ 4294967295 → v ≤ 4294967295 → meaning (text verb s g v) ≡ Ok (call_at verb s g v)
back verb s g v p q r =
    let a = shown_if (wants_pointer verb) s in
    let b = shown_if (wants_pointer verb) g in
    let d = shown_if (wants_value verb) v in
    let short : length (text verb s g v) ≤ 80 = omega (arith, length_row (name_of verb) a b d, length_name verb, length_shown (wants_pointer verb) s (omega arith), length_shown (wants_pointer verb) g q, length_shown (wants_value verb) v r) in
    let parts = split_row (name_of verb) a b d (solid_name verb) (solid_shown (wants_pointer verb) s (omega arith)) (solid_shown (wants_pointer verb) g q) (solid_shown (wants_value verb) v r) in
    let f : Four = record { call = name_of verb; slot = a; generation = b; value = d } in
    cond-false _ _ _ (le-ltb 80 (length (text verb s g v)) short)
    ∙ ap (λ ps. with_fields (four_of ps)) parts
    ∙ ap (λ o. with_verb o f) (verb_named verb)
    ∙ (λ i. ok_or (asked verb (field_given (wants_pointer verb) 65535 s (omega arith) p i) (field_given (wants_pointer verb) 4294967295 g (omega arith) q i) (field_given (wants_value verb) 4294967295 v (omega arith) r i)) Unfit)
    ∙ ap (λ o. ok_or o Unfit) (asked_given verb s g v)

each_text : (c : Call) → InRange c → meaning (call_text c) ≡ Ok c
each_text (call.Insert s g v) h = back Insert s g v h.0 h.1 h.2
each_text (call.Edit s g v) h = back Edit s g v h.0 h.1 h.2
each_text (call.Get s g) h = back Get s g 0 h.0 h.1 (omega arith)
each_text (call.Remove s g) h = back Remove s g 0 h.0 h.1 (omega arith)
each_text (call.Trim n) h = back Trim 0 0 n (omega arith) (omega arith) h
each_text (call.Reserve n) h = back Reserve 0 0 n (omega arith) (omega arith) h
each_text (call.Limit n) h = back Limit 0 0 n (omega arith) (omega arith) h
each_text call.Clear h = back Clear 0 0 0 (omega arith) (omega arith) (omega arith)
each_text call.Compress h = back Compress 0 0 0 (omega arith) (omega arith) (omega arith)
each_text (call.Recast s g) h = back Recast s g 0 h.0 h.1 (omega arith)

pub each_asks : {line : List ℕ} {r : Result Call LineError} → r ≡ meaning line → (c : Call) → InRange c → line ≡ call_text c → r ≡ Ok c
each_asks is c h e = is ∙ ap meaning e ∙ each_text c h

-- The text of a call in range asks for it.
use Rattle.std.proofs.Common.{◌≡◌, ℕ, ◌≤◌, true, cond, ◌&&◌, List, length, Some, Ok, Err, codes, Result, decimal, refl, ap, ◌∙◌, arith}
use Rattle.std.proofs.lemmas.Bool.{cond-false, le-ltb}
use Rattle.lines.specs.Call.{fits, number_in}
use Rattle.lines.specs.Texts.{row, blank}
use Rattle.lines.specs.declared.call.Call.TheVariants as shared
use Rattle.lines.specs.declared.error.LineError.{LineError}
use Rattle.lines.specs.declared.error.LineError.TheVariants.{Unfit}
use Rattle.lines.proofs.EachText.{Solid, split_row, solid_shown, length_shown, field_given, length_row, each_asks}
use Rattle.season.specs.Meaning.{of_line, with_name, meaning}
use Rattle.season.specs.Texts.{call_text, InRange}
use Rattle.season.specs.declared.call.Call.{Call}
use Rattle.season.specs.declared.call.Call.TheVariants.{Insert, Remove, Edit, Compress, Cite}
use Rattle.text.specs.Split.{four_of}

-- a field of a call's text: no space, and ten bytes at most
record Field (bs : List ℕ) : Type 0 where
  solid : Solid bs
  short : length bs ≤ 10

number_field : (n : ℕ) → n ≤ 4294967295 → Field (decimal n)
number_field n h = record { solid = solid_shown true n h; short = length_shown true n h }

blank_field : Field blank
blank_field = record { solid = (refl, tt); short = omega arith }

-- what a text of four such fields means
by_name : (name b c d : List ℕ) → Solid name → length name ≤ 10 → Field b → Field c → Field d → meaning (row name b c d) ≡ with_name (row name b c d) (Some (record { call = name; slot = b; generation = c; value = d }))
by_name name b c d n l p q r =
    let short : length (row name b c d) ≤ 80 = omega (arith, length_row name b c d, l, p.short, q.short, r.short) in
    cond-false _ _ _ (le-ltb 80 (length (row name b c d)) short) ∙ ap (λ ps. with_name (row name b c d) (four_of ps)) (split_row name b c d n p.solid q.solid r.solid)

each_text : (c : Call) → InRange c → meaning (call_text c) ≡ Ok c
each_text (Insert s g v) h =
    by_name (codes "insert") (decimal s) (decimal g) (decimal v) (refl, (refl, (refl, (refl, (refl, (refl, tt)))))) (omega arith) (number_field s (omega (arith, h.0))) (number_field g h.1) (number_field v h.2)
    ∙ ap of_line (each_asks refl (shared.Insert s g v) h refl)
each_text (Remove s g) h =
    by_name (codes "remove") (decimal s) (decimal g) blank (refl, (refl, (refl, (refl, (refl, (refl, tt)))))) (omega arith) (number_field s (omega (arith, h.0))) (number_field g h.1) blank_field
    ∙ ap of_line (each_asks refl (shared.Remove s g) h refl)
each_text (Edit s g v) h =
    by_name (codes "edit") (decimal s) (decimal g) (decimal v) (refl, (refl, (refl, (refl, tt)))) (omega arith) (number_field s (omega (arith, h.0))) (number_field g h.1) (number_field v h.2)
    ∙ ap of_line (each_asks refl (shared.Edit s g v) h refl)
each_text Compress h =
    by_name (codes "compress") blank blank blank (refl, (refl, (refl, (refl, (refl, (refl, (refl, (refl, tt)))))))) (omega arith) blank_field blank_field blank_field
    ∙ ap of_line (each_asks refl shared.Compress tt refl)
each_text (Cite s g) h =
    by_name (codes "cite") (decimal s) (decimal g) blank (refl, (refl, (refl, (refl, tt)))) (omega arith) (number_field s (omega (arith, h.0))) (number_field g h.1) blank_field
    ∙ (λ i. cond (fits true (field_given true 65535 s (omega arith) h.0 i) && (fits true (field_given true 4294967295 g (omega arith) h.1 i) && true)) (Ok (Cite (number_in (field_given true 65535 s (omega arith) h.0 i)) (number_in (field_given true 4294967295 g (omega arith) h.1 i)))) (Err Unfit))

pub each_asks_for : {line : List ℕ} {r : Result Call LineError} → r ≡ meaning line → (c : Call) → InRange c → line ≡ call_text c → r ≡ Ok c
each_asks_for is c h e = is ∙ ap meaning e ∙ each_text c h

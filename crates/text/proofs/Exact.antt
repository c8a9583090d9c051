-- A numeral is what is written of its number, and nothing else is.
use Rattle.std.proofs.Common.{◌≡◌, ℕ, ◌+◌, ◌-◌, ◌*◌, ◌^◌, ◌<◌, ◌≤◌, Bool, true, false, cond, ◌&&◌, eqb, leb, List, [], ◌∷◌, length, get_or, Some, None, decimal, Option, sym, refl, ap, ◌∙◌, ⊎_elim, arith, rules}
use Rattle.std.specs.Char.{is_ascii_digit}
use Rattle.std.specs.Str.{all_ascii_digits}
use Rattle.std.proofs.lemmas.Fmt.{decimal-digits_value, decimal_digit, digits_decimal, digits_value-decimal, decimal_nonempty, first_decimal}
use Rattle.std.proofs.lemmas.Str.Parse.{IsNumeralModel, numerals_by_fold, tells_all_ascii_digits}
use Rattle.std.proofs.lemmas.Bool.{cond-true, cond-false, eqb-false, ne_eqb, cases_eq, leb-true, le-leb}
use Rattle.text.specs.Number.{read_on, numeral, within}

abbrev pub value_on : ℕ → List ℕ → ℕ
value_on n [] = n
value_on n (c ∷ cs) = value_on (n * 10 + (c - 48)) cs

pub own : IsNumeralModel (λ ds. all_ascii_digits ds ≡ true) (value_on 0)
own = numerals_by_fold _ tells_all_ascii_digits value_on (search rules)

reads : (n : ℕ) (bs : List ℕ) → read_on n bs ≡ cond (all_ascii_digits bs) (Some (value_on n bs)) None
reads n [] = refl
reads n (c ∷ cs) = go (is_ascii_digit c) (reads (n * 10 + (c - 48)) cs)
  where
    go : (t : Bool) → read_on (n * 10 + (c - 48)) cs ≡ cond (all_ascii_digits cs) (Some (value_on (n * 10 + (c - 48)) cs)) None → cond t (read_on (n * 10 + (c - 48)) cs) None ≡ cond (t && all_ascii_digits cs) (Some (value_on (n * 10 + (c - 48)) cs)) None
    go true e = e
    go false e = refl

pub never : {X : Type 0} {x : X} → ◌≡◌ {A = Option X} None (Some x) → ⊥
never e = let z : ◌≡◌ {A = ℕ} 0 1 = cc in omega arith

read_back : (bs : List ℕ) (n : ℕ) → read_on 0 bs ≡ Some n → (all_ascii_digits bs ≡ true) × (value_on 0 bs ≡ n)
read_back bs n e = go (all_ascii_digits bs) refl (sym (reads 0 bs) ∙ e)
  where
    go : (t : Bool) → all_ascii_digits bs ≡ t → cond t (Some (value_on 0 bs)) None ≡ Some n → (all_ascii_digits bs ≡ true) × (value_on 0 bs ≡ n)
    go true d h = (d, cc)
    go false d h = absurd (never h)

written : (bs : List ℕ) (n : ℕ) → n < 2 ^ 64 → read_on 0 bs ≡ Some n → 0 < length bs → (get_or bs 0 0 ≡ 48 → length bs ≡ 1) → bs ≡ decimal n
written bs n h e some first =
    let p = read_back bs n e in
    sym (ap decimal (sym p.1) ∙ decimal-digits_value own bs p.0 some first (omega (arith, p.1, h)))

numeral_only : (bs : List ℕ) (n : ℕ) → n < 2 ^ 64 → numeral bs ≡ Some n → bs ≡ decimal n
numeral_only [] n h e = absurd (never e)
numeral_only (c ∷ []) n h e = written (c ∷ []) n h e (omega arith) (λ _. refl)
numeral_only (c ∷ d ∷ cs) n h e = go (eqb c 48) refl e
  where
    go : (t : Bool) → eqb c 48 ≡ t → cond t None (read_on 0 (c ∷ d ∷ cs)) ≡ Some n → c ∷ d ∷ cs ≡ decimal n
    go true z g = absurd (never g)
    go false z g = written (c ∷ d ∷ cs) n h g (omega arith) (λ x. absurd (eqb-false c 48 z x))

plain : (ds : List ℕ) → all_ascii_digits ds ≡ true → 0 < length ds → (get_or ds 0 0 ≡ 48 → length ds ≡ 1) → numeral ds ≡ Some (value_on 0 ds)
plain [] p some first = absurd (omega arith)
plain (c ∷ []) p some first = reads 0 (c ∷ []) ∙ cond-true _ _ _ p
plain (c ∷ d ∷ cs) p some first = cond-false _ _ _ (ne_eqb c 48 (λ z. absurd (omega (arith, first z)))) ∙ reads 0 (c ∷ d ∷ cs) ∙ cond-true _ _ _ p

pub numeral_reads : (n : ℕ) → n < 2 ^ 64 → numeral (decimal n) ≡ Some n
numeral_reads n h =
    plain (decimal n) (digits_decimal own n h) (decimal_nonempty n h) first ∙ ap Some (digits_value-decimal own n h)
  where
    first : get_or (decimal n) 0 0 ≡ 48 → length (decimal n) ≡ 1
    first z = ⊎_elim (λ e. ap (λ k. length (decimal k)) e ∙ ap length (decimal_digit 0 (omega arith))) (λ ne. absurd (omega (arith, first_decimal n (omega arith) h, z))) (cases_eq n 0)

within_back : (most n : ℕ) (o : Option ℕ) → within most o ≡ Some n → (n ≤ most) × (o ≡ Some n)
within_back most n None e = absurd (never e)
within_back most n (Some m) e = go (leb m most) refl e
  where
    go : (t : Bool) → leb m most ≡ t → cond t (Some m) None ≡ Some n → (n ≤ most) × (◌≡◌ {A = Option ℕ} (Some m) (Some n))
    go true l g = let same : m ≡ n = cc in (omega (arith, leb-true m most l), g)
    go false l g = absurd (never g)

pub only_decimals : (most n : ℕ) (bs : List ℕ) → most < 2 ^ 32 → within most (numeral bs) ≡ Some n → (n ≤ most) × (bs ≡ decimal n)
only_decimals most n bs h e = let p = within_back most n (numeral bs) e in (p.0, numeral_only bs n (omega (arith, p.0)) p.1)

pub all_decimals : (most n : ℕ) → most < 2 ^ 32 → n ≤ most → within most (numeral (decimal n)) ≡ Some n
all_decimals most n h l = ap (within most) (numeral_reads n (omega arith)) ∙ cond-true _ _ _ (le-leb n most l)

module _ {most : ℕ} {bs : List ℕ} {r : Option ℕ} (h : most < 2 ^ 32) (is : r ≡ within most (numeral bs)) where
  pub only_reads : (n : ℕ) → r ≡ Some n → (n ≤ most) × (bs ≡ decimal n)
  only_reads n e = only_decimals most n bs h (sym is ∙ e)

  pub each_reads : (n : ℕ) → n ≤ most → bs ≡ decimal n → r ≡ Some n
  each_reads n l e = is ∙ ap (λ ds. within most (numeral ds)) e ∙ all_decimals most n h l

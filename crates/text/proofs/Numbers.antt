-- A loop that reads a decimal.
use Rattle.std.proofs.Common.{◌≡◌, ℕ, ◌+◌, ◌-◌, ◌*◌, ◌<◌, ◌≤◌, Bool, true, false, cond, leb, List, [], ◌∷◌, length, get_or, drop, Some, None, sym, refl, ap, ◌∙◌, arith}
use Rattle.std.specs.Char.{is_ascii_digit}
use Rattle.std.proofs.lemmas.List.{drop_more}
use Rattle.std.proofs.lemmas.Bool.{cond-false, cond_both, leb-false, lt-leb}
use Rattle.text.specs.Number.{read_on, within}

-- digits never make a number smaller
past : (most n : ℕ) (bs : List ℕ) → most < n → within most (read_on n bs) ≡ None
past most n [] h = cond-false _ _ _ (lt-leb n most h)
past most n (c ∷ cs) h = cond_both (is_ascii_digit c) _ _ (λ o. within most o ≡ None) (λ _. past most (n * 10 + (c - 48)) cs (omega arith)) (λ _. refl)

-- no digit, or one too many
none : (most n c : ℕ) (cs : List ℕ) → within most (read_on n (c ∷ [])) ≡ None → within most (read_on n (c ∷ cs)) ≡ None
none most n c cs e = digit (is_ascii_digit c) e
  where
    k : ℕ
    k = n * 10 + (c - 48)

    beyond : (l : Bool) → leb k most ≡ l → cond l (Some k) None ≡ None → within most (read_on k cs) ≡ None
    beyond true l h = cc
    beyond false l h = past most k cs (leb-false k most l)

    digit : (t : Bool) → within most (cond t (Some k) None) ≡ None → within most (cond t (read_on k cs) None) ≡ None
    digit true h = beyond (leb k most) refl h
    digit false h = refl

-- n is what the first i digits write, and the rest decides
pub record Sofar (most : ℕ) (bs : List ℕ) (i n : ℕ) : Type 0 where
  pub small : n ≤ most
  pub rest : within most (read_on 0 bs) ≡ within most (read_on n (drop i bs))

module _ {most : ℕ} {bs : List ℕ} {i n : ℕ} (old : Sofar most bs i n) where
  next : i < length bs → within most (read_on 0 bs) ≡ within most (read_on n (get_or bs i 0 ∷ drop (i + 1) bs))
  next h = old.rest ∙ ap (λ l. within most (read_on n l)) (drop_more bs i 0 h)

  pub no_more : i < length bs → within most (read_on n (get_or bs i 0 ∷ [])) ≡ None → None ≡ within most (read_on 0 bs)
  no_more h e = sym (next h ∙ none most n (get_or bs i 0) (drop (i + 1) bs) e)

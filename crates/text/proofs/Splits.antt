-- Bytes cut at the first of a byte.
use Rattle.std.proofs.Common.{◌≡◌, ◌==◌, ℕ, zero, suc, ◌+◌, ◌<◌, ◌≤◌, Bool, true, false, cond, eqb, ltb, Option, MatchOption, Bor, List, [], ◌∷◌, length, get_or, take, drop, position, Some, None, sym, refl, ap, ◌∙◌, arith, add-one}
use Rattle.std.specs.List.{position_or_len}
use Rattle.std.specs.Option.{unwrap_or}
use Rattle.std.proofs.lemmas.List.Quantifiers.{position-Some}
use Rattle.std.proofs.lemmas.List.Sums.{fails_before_first}
use Rattle.std.proofs.lemmas.Bool.{cond-true, cond-false, cond_both, ltb-false}
use Rattle.text.specs.Split.{onto, split, four_of, ended, lines_of}

cut : (at : ℕ) (bs : List ℕ) (i : ℕ) → i < length bs → eqb (get_or bs i 0) at ≡ true → ((k : ℕ) → k < i → eqb (get_or bs k 0) at ≡ false) → split at bs ≡ take i bs ∷ split at (drop (suc i) bs)
cut at [] i h e before = absurd (omega arith)
cut at (x ∷ xs) zero h e before = cond-true _ _ _ e
cut at (x ∷ xs) (suc i) h e before =
    cond-false _ _ _ (before 0 (omega arith)) ∙ ap (onto x) (cut at xs i (omega arith) e (λ k l. before (suc k) (omega arith)))

-- cut at the first such byte
pub found : (at : ℕ) (bs : List ℕ) (i : ℕ) → position (λ b. b == at) bs ≡ Some i → (split at bs ≡ take i bs ∷ split at (drop (i + 1) bs)) × (i < length bs)
found at bs i e = let p = position-Some (λ b. b == at) bs i 0 e in (rw add-one (cut at bs i p.0 p.1 p.2), p.0)

whole : (at : ℕ) (bs : List ℕ) → ((k : ℕ) → k < length bs → eqb (get_or bs k 0) at ≡ false) → split at bs ≡ bs ∷ []
whole at [] none = refl
whole at (x ∷ xs) none =
    cond-false _ _ _ (none 0 (omega arith)) ∙ ap (onto x) (whole at xs (λ k l. none (suc k) (omega arith)))

beyond : (n m : ℕ) → ◌≡◌ {A = Option ℕ} (cond (ltb n m) (Some n) None) None → m ≤ n
beyond n m e = go (ltb n m) refl e
  where
    go : (t : Bool) → ltb n m ≡ t → ◌≡◌ {A = Option ℕ} (cond t (Some n) None) None → m ≤ n
    go true l h = cc
    go false l h = ltb-false n m l

-- no such byte
pub nowhere : (at : ℕ) (bs : List ℕ) → position (λ b. b == at) bs ≡ None → split at bs ≡ bs ∷ []
nowhere at bs e =
    whole at bs (λ k h. fails_before_first (λ b. b == at) bs k 0 (omega (arith, beyond (position_or_len (λ b. b == at) bs) (length bs) e)))

-- there is always a part
pub some_part : (at : ℕ) (bs : List ℕ) (P : List (List ℕ) → Type 0) → ((p : List ℕ) (ps : List (List ℕ)) → P (p ∷ ps)) → P (split at bs)
some_part at [] P any = any [] []
some_part at (x ∷ xs) P any = cond_both (eqb x at) _ _ P (λ _. any [] (split at xs)) (λ _. joined (split at xs))
  where
    joined : (ps : List (List ℕ)) → P (onto x ps)
    joined [] = any (x ∷ []) []
    joined (p ∷ ps) = any (x ∷ p) ps

-- a fourth part that is split again makes five or more
pub too_many : (a b c d : List ℕ) (at : ℕ) (bs : List ℕ) → four_of (a ∷ b ∷ c ∷ d ∷ split at bs) ≡ None
too_many a b c d at bs = some_part at bs (λ ps. four_of (a ∷ b ∷ c ∷ d ∷ ps) ≡ None) (λ _ _. refl)

-- a line that byte 10 ends
pub line_ends : (bs line rest : List ℕ) → split 10 bs ≡ line ∷ split 10 rest → lines_of bs ≡ line ∷ lines_of rest
line_ends bs line rest e = ap ended e ∙ some_part 10 rest (λ ps. ended (line ∷ ps) ≡ line ∷ ended ps) (λ _ _. refl)

-- a line that nothing ends
pub line_last : (bs : List ℕ) → 0 < length bs → split 10 bs ≡ bs ∷ [] → lines_of bs ≡ bs ∷ []
line_last [] h e = absurd (omega arith)
line_last (b ∷ bs) h e = ap ended e

-- the first line is what a cut gives, or the whole text
pub first_cut : (bs : List ℕ) (o : Option (Bor (List ℕ) × Bor (List ℕ))) (all : Bor (List ℕ) × Bor (List ℕ)) → all.0.now ≡ bs → all.1.now ≡ [] → 0 < length bs → MatchOption o (split 10 bs ≡ bs ∷ []) (λ p. split 10 bs ≡ p.0.now ∷ split 10 p.1.now) → lines_of bs ≡ (unwrap_or o all).0.now ∷ lines_of (unwrap_or o all).1.now
first_cut bs (Some p) all is none some parts = line_ends bs p.0.now p.1.now parts
first_cut bs None all is none some parts =
    line_last bs some parts ∙ ap (λ l. l ∷ []) (sym is) ∙ ap (λ l. all.0.now ∷ lines_of l) (sym none)

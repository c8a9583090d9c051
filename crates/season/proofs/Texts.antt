-- A line asks for a call only by the call's one text.
use Rattle.std.proofs.Common.{◌≡◌, ℕ, Bool, true, false, cond, ◌&&◌, ltb, List, length, Some, None, Ok, Err, codes, Option, Result, sym, refl, ◌∙◌, subst, arith}
use Rattle.std.specs.Str.{bytes_eq}
use Rattle.std.proofs.lemmas.Slice.Eq.{bytes_eq-Decides}
use Rattle.std.proofs.lemmas.Bool.{and_parts}
use Rattle.lines.specs.Call.{fits, number_in}
use Rattle.lines.specs.Meaning as runner
use Rattle.lines.specs.Texts as texts
use Rattle.lines.specs.Texts.{row}
use Rattle.lines.specs.declared.call.Call as runner_call
use Rattle.lines.specs.declared.call.Call.TheVariants as shared
use Rattle.lines.specs.declared.error.LineError.{LineError}
use Rattle.lines.specs.declared.error.LineError.TheVariants.{Unknown, Unfit}
use Rattle.lines.proofs.OneText.{join_split, row_of, four_row, field_text, err_ok, only_asks}
use Rattle.season.specs.Meaning.{of_runner, of_line, cited_by, is_shared, with_name, meaning}
use Rattle.season.specs.Texts.{call_text, InRange}
use Rattle.season.specs.declared.call.Call.{Call}
use Rattle.season.specs.declared.call.Call.TheVariants.{Insert, Remove, Edit, Compress, Cite}
use Rattle.text.specs.Number.{field_of}
use Rattle.text.specs.Split.{Four, split, four_of}

-- the runner's text of a call that a season has too is the season's
abbrev Only : List ℕ → Call → Type 0
Only line c = InRange c × (line ≡ call_text c)

of_runner_only : (line : List ℕ) (r : runner_call.Call) (c : Call) → texts.InRange r × (line ≡ texts.call_text r) → of_runner r ≡ Ok c → Only line c
of_runner_only line (shared.Insert s g v) c h e = let same : Insert s g v ≡ c = cc in subst (Only line) same h
of_runner_only line (shared.Edit s g v) c h e = let same : Edit s g v ≡ c = cc in subst (Only line) same h
of_runner_only line (shared.Get s g) c h e = absurd (err_ok Unknown c e)
of_runner_only line (shared.Remove s g) c h e = let same : Remove s g ≡ c = cc in subst (Only line) same h
of_runner_only line (shared.Trim n) c h e = absurd (err_ok Unknown c e)
of_runner_only line (shared.Reserve n) c h e = absurd (err_ok Unknown c e)
of_runner_only line (shared.Limit n) c h e = absurd (err_ok Unknown c e)
of_runner_only line shared.Clear c h e = absurd (err_ok Unknown c e)
of_runner_only line (shared.Recast s g) c h e = absurd (err_ok Unknown c e)
of_runner_only line shared.Compress c h e = let same : Compress ≡ c = cc in subst (Only line) same h

of_line_only : (line : List ℕ) (r : Result runner_call.Call LineError) (c : Call) → r ≡ runner.meaning line → of_line r ≡ Ok c → Only line c
of_line_only line (Ok r) c is e = of_runner_only line r c (only_asks is r refl) e
of_line_only line (Err l) c is e = absurd (err_ok l c e)

cited_only : (f : Four) (c : Call) → f.call ≡ codes "cite" → cited_by f ≡ Ok c → Only (row_of f) c
cited_only f c n e = go (fits true (field_of 65535 f.slot) && (fits true (field_of 4294967295 f.generation) && fits false (field_of 4294967295 f.value))) refl e
  where
    go : (t : Bool) → (fits true (field_of 65535 f.slot) && (fits true (field_of 4294967295 f.generation) && fits false (field_of 4294967295 f.value))) ≡ t → cond t (Ok (Cite (number_in (field_of 65535 f.slot)) (number_in (field_of 4294967295 f.generation)))) (Err Unfit) ≡ Ok c → Only (row_of f) c
    go true a h =
        let p = and_parts _ _ a in
        let q = and_parts _ _ p.1 in
        let s = field_text true 65535 f.slot (omega arith) p.0 in
        let g = field_text true 4294967295 f.generation (omega arith) q.0 in
        let v = field_text false 4294967295 f.value (omega arith) q.1 in
        let same : Cite (number_in (field_of 65535 f.slot)) (number_in (field_of 4294967295 f.generation)) ≡ c = cc in
        subst (Only (row_of f)) same ((s.0, g.0), (λ i. row (n i) (s.1 i) (g.1 i) (v.1 i)))
    go false a h = absurd (err_ok Unfit c h)

named_only : (line : List ℕ) (f : Four) (c : Call) → line ≡ row_of f → with_name line (Some f) ≡ Ok c → Only line c
named_only line f c is e = go (bytes_eq f.call (codes "cite")) (is_shared f.call) refl e
  where
    go : (t u : Bool) → bytes_eq f.call (codes "cite") ≡ t → cond t (cited_by f) (cond u (of_line (runner.meaning line)) (Err Unknown)) ≡ Ok c → Only line c
    go true u n h = subst (λ l. Only l c) (sym is) (cited_only f c ((bytes_eq-Decides f.call (codes "cite")).0 n) h)
    go false true n h = of_line_only line (runner.meaning line) c refl h
    go false false n h = absurd (err_ok Unknown c h)

fields_only : (line : List ℕ) (o : Option Four) (c : Call) → four_of (split 32 line) ≡ o → with_name line o ≡ Ok c → Only line c
fields_only line (Some f) c h e = named_only line f c (sym (join_split 32 line) ∙ four_row (split 32 line) f h) e
fields_only line None c h e = absurd (err_ok Unknown c e)

one_text : (line : List ℕ) (c : Call) → meaning line ≡ Ok c → Only line c
one_text line c e = go (ltb 80 (length line)) e
  where
    go : (t : Bool) → cond t (Err Unknown) (with_name line (four_of (split 32 line))) ≡ Ok c → Only line c
    go true h = absurd (err_ok Unknown c h)
    go false h = fields_only line (four_of (split 32 line)) c refl h

pub only_asks_for : {line : List ℕ} {r : Result Call LineError} → r ≡ meaning line → (c : Call) → r ≡ Ok c → Only line c
only_asks_for is c e = one_text _ c (sym is ∙ e)

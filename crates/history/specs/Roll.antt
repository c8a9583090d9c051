-- The roll of an arena's records: what each accepted call does to their lines. It is fed calls and whether they were
-- accepted, and never looks at the slots.
use Rattle.std.specs.Prelude.{ℕ, suc, ◌+◌, cond, not, is_some, List, [], ◌∷◌, filter, map, length, Some, None, Option, ◌==◌, nat_lt}
use Rattle.history.specs.Slots.{Held, revalued}
use Rattle.history.specs.Mapped.{in_place, moving, given_or, rest, those_named}
use Rattle.history.specs.Recasts.{Recasting, recast_or_kept}
use Rattle.history.specs.Calls.{slot_of, slots_of, Call, insert, edit, edit_all, remove, drain, clear, bring, hand_over, compress, recast, join, trim, reallocate, limit, Entry, recast_of}

-- A record: its number by arrival, and where it stands, under which generation, with which value.
pub record Line (G V : Type 0) : Type 0 where
  pub number : ℕ
  pub stand : Held G V

-- The lines by rising slot, and the number of the next arrival.
pub record Roll (G V : Type 0) : Type 0 where
  pub next : ℕ
  pub lines : List (Line G V)

-- what stands, by rising slot
abbrev pub standing : {G V : Type 0} → List (Line G V) → List (Held G V)
standing ls = map (λ l. l.stand) ls

-- the line goes in by its slot
abbrev pub enter : {G V : Type 0} → Line G V → List (Line G V) → List (Line G V)
enter l [] = l ∷ []
enter l (m ∷ ms) = cond (nat_lt l.stand.slot m.stand.slot) (l ∷ m ∷ ms) (m ∷ enter l ms)

abbrev pub valued : {G V : Type 0} → V → Line G V → Line G V
valued v l = record { number = l.number; stand = revalued v l.stand }

-- the line at slot n takes the value
abbrev pub put_in : {G V : Type 0} → ℕ → V → List (Line G V) → List (Line G V)
put_in n v ls = map (λ l. cond (l.stand.slot == n) (valued v l) l) ls

-- values put into the lines at these slots, in order
abbrev pub put_each : {G V : Type 0} → List ℕ → List V → List (Line G V) → List (Line G V)
put_each [] vs ls = ls
put_each (n ∷ ns) [] ls = ls
put_each (n ∷ ns) (v ∷ vs) ls = put_each ns vs (put_in n v ls)

-- the line at slot n ends
abbrev pub without : {G V : Type 0} → ℕ → List (Line G V) → List (Line G V)
without n ls = filter (λ l. not (l.stand.slot == n)) ls

-- the lines get the slots from k on, by rising slot, and these values
abbrev pub resettled : {G V : Type 0} → ℕ → List V → List (Line G V) → List (Line G V)
resettled k vs [] = []
resettled k vs (l ∷ ls) = record { number = l.number; stand = record { slot = k; gen = l.stand.gen; value = given_or l.stand.value vs } } ∷ resettled (suc k) (rest vs) ls

-- the line's value as its recast
abbrev pub recast_line : {G V : Type 0} → Recasting V → Line G V → Line G V
recast_line q l = valued (recast_or_kept q l.stand.value) l

-- the values before the first that is not held, each as its recast
abbrev pub recast_lines_until : {G V : Type 0} → Recasting V → List (Line G V) → List (Line G V)
recast_lines_until q [] = []
recast_lines_until q (l ∷ ls) = cond (is_some (q l.stand.value)) (recast_line q l ∷ recast_lines_until q ls) (l ∷ ls)

-- lines whose value is not held end
abbrev pub recastable : {G V : Type 0} → Recasting V → List (Line G V) → List (Line G V)
recastable q ls = filter (λ l. is_some (q l.stand.value)) ls

-- a line for each record, numbered as they come
abbrev pub numbered : {G V : Type 0} → ℕ → List (Held G V) → List (Line G V)
numbered k [] = []
numbered k (h ∷ hs) = record { number = k; stand = h } ∷ numbered (suc k) hs

abbrev pub told : {G V : Type 0} → Call G V → Roll G V → Roll G V
told (insert p v) r = record {
  next = suc r.next;
  lines = enter (record { number = r.next; stand = record { slot = p.slot; gen = p.gen; value = v } }) r.lines;
}
told (edit name v) r = record { next = r.next; lines = put_in (slot_of name) v r.lines }
told (edit_all names f) r = record {
  next = r.next;
  lines = put_each (slots_of names) (f (in_place (those_named (slots_of names) (standing r.lines)))) r.lines;
}
told (remove name) r = record { next = r.next; lines = without (slot_of name) r.lines }
told (drain None) r = r
told (drain (Some p)) r = record { next = r.next; lines = without p.slot r.lines }
told clear r = record { next = r.next; lines = [] }
told (bring hs) r = record { next = r.next + length hs; lines = numbered r.next hs }
told hand_over r = record { next = r.next; lines = [] }
told (compress f) r = record { next = r.next; lines = resettled 1 (f (moving 1 (standing r.lines))) r.lines }
told (recast q) r = record { next = r.next; lines = map (recast_line q) r.lines }
told (join q) r = record { next = r.next; lines = map (recast_line q) (recastable q r.lines) }
told (trim k) r = r
told (reallocate n) r = r
told (limit l) r = r

-- what a refused call tells the roll: nothing, but for a recast, which keeps what it did before the first value that is
-- not held
abbrev pub told_refused : {G V : Type 0} → Option (Recasting V) → Roll G V → Roll G V
told_refused None r = r
told_refused (Some q) r = record { next = r.next; lines = recast_lines_until q r.lines }

abbrev pub rolled : {G V : Type 0} → Entry G V → Roll G V → Roll G V
rolled e r = cond e.accepted (told e.call r) (told_refused (recast_of e.call) r)

-- the roll after a history, which has its newest call first
abbrev pub roll : {G V : Type 0} → List (Entry G V) → Roll G V
roll [] = record { next = 0; lines = [] }
roll (e ∷ h) = rolled e (roll h)

-- Spans of an arena's history: from its making or an accepted compression to the next accepted compression. And where the
-- joined directories of successive compressions lead a pointer.
use Rattle.std.specs.Prelude.{◌≡◌, ℕ, ◌+◌, Bool, true, false, ◌&&◌, not, ◌⊎◌, List, [], ◌∷◌, ◌++◌, map, Some}
use Rattle.std.specs.List.{list_all}
use Rattle.history.specs.Slots.{Slots, Ptr, Held, ptr, count}
use Rattle.history.specs.Records.{found}
use Rattle.history.specs.Mapped.{Mapping, report}
use Rattle.history.specs.Calls.{Call, compress, Entry, Leads}
use Rattle.history.specs.Roll.{Line, roll}
use Rattle.history.specs.Laws.{In, Brings, standing_after, Lawful}
use Rattle.history.specs.Directories.{Directory, Holds, recast_by, Brackets, bracketed, joined}

abbrev pub is_compress : {G V : Type 0} → Call G V → Bool
is_compress (compress f) = true
is_compress c = false

-- an accepted compression
abbrev pub compresses : {G V : Type 0} → Entry G V → Bool
compresses e = e.accepted && is_compress e.call

-- no accepted compression is among these calls
abbrev pub unbroken : {G V : Type 0} → List (Entry G V) → Bool
unbroken calls = list_all (λ e. not (compresses e)) calls

-- a span opens after this history: an arena's making, or an accepted compression
abbrev pub opens : {G V : Type 0} → List (Entry G V) → Bool
opens [] = true
opens (e ∷ h) = compresses e

-- the record of this number stands after a history
abbrev pub Stood : {G V : Type 0} → List (Entry G V) → ℕ → Type 0
Stood {G} {V} h number = (l : Line G V) × In l (roll h).lines × (l.number ≡ number)

-- and stands under this pointer
abbrev pub StoodAt : {G V : Type 0} → List (Entry G V) → ℕ → Ptr G → Type 0
StoodAt {G} {V} h number p = (l : Line G V) × In l (roll h).lines × (l.number ≡ number) × (ptr l.stand ≡ p)

-- One of the calls after a history adds the record of this number, under this pointer.
pub record Adds {G V : Type 0} (h calls : List (Entry G V)) (number : ℕ) (p : Ptr G) : Type 0 where
  pub by : Call G V
  pub before : List (Entry G V)
  pub since : List (Entry G V)
  pub whole : calls ≡ since ++ (record { call = by; accepted = true } ∷ before)
  pub place : ℕ
  pub first : Held G V
  pub brought : Brings by place first
  pub counted : number ≡ (roll (before ++ h)).next + place
  pub pointer : p ≡ ptr first

-- A span that opens after a history, and has had these calls, gives this pointer to the record of this number: by its
-- opening compression, or as the record was added.
abbrev pub Gives : {G V : Type 0} → (h calls : List (Entry G V)) → ℕ → Ptr G → Type 0
Gives h calls number p = StoodAt h number p ⊎ Adds h calls number p

-- it gives no pointer to two records
abbrev pub Apart : {G V : Type 0} → (h calls : List (Entry G V)) → Type 0
Apart {G} h calls = (m n : ℕ) (p : Ptr G) → Gives h calls m p → Gives h calls n p → m ≡ n

-- A span that ended: its calls, newest first, the mapper of the compression that ended it, and a directory.
pub record Span (G V P : Type 0) : Type 0 where
  pub calls : List (Entry G V)
  pub mapping : Mapping G V
  pub directory : Directory G P

-- the history up to the compression that ends the span, and with it
abbrev pub up_to : {G V P : Type 0} → Span G V P → List (Entry G V) → List (Entry G V)
up_to x h = x.calls ++ h

abbrev pub ended : {G V P : Type 0} → Span G V P → List (Entry G V) → List (Entry G V)
ended x h = record { call = compress x.mapping; accepted = true } ∷ up_to x h

-- the history with all these spans, one after the other
abbrev pub all_ended : {G V P : Type 0} → List (Span G V P) → List (Entry G V) → List (Entry G V)
all_ended [] h = h
all_ended (x ∷ xs) h = all_ended xs (ended x h)

-- the history up to the compression that ends the last of them
abbrev pub up_to_last : {G V P : Type 0} → Span G V P → List (Span G V P) → List (Entry G V) → List (Entry G V)
up_to_last x [] h = up_to x h
up_to_last x (y ∷ ys) h = up_to_last y ys (ended x h)

abbrev pub directories : {G V P : Type 0} → List (Span G V P) → List (Directory G P)
directories xs = map (λ x. x.directory) xs

module _ {G V P : Type 0} (view : P → Ptr G) where
  -- Spans one after the other: no compression is left out between them, and the directory of each holds exactly the
  -- report of the compression that ended it.
  abbrev pub Successive : List (Span G V P) → List (Entry G V) → Type 0
  Successive [] h = Unit {0}
  Successive (x ∷ xs) h = (unbroken x.calls ≡ true) × Holds view x.directory (report (standing_after (up_to x h))) × Successive xs (ended x h)

-- none of them gives one pointer to two records
abbrev pub AllApart : {G V P : Type 0} → List (Span G V P) → List (Entry G V) → Type 0
AllApart [] h = Unit {0}
AllApart (x ∷ xs) h = Apart h x.calls × AllApart xs (ended x h)

module _ {G V P : Type 0} (alike : G → G → Bool) (view : P → Ptr G) (d : Directory G P) where
  -- A pointer is recast exactly if the record of this number stood at the last of the spans' compressions, and comes out
  -- as the pointer that the record was given there.
  pub record Recasts (x : Span G V P) (xs : List (Span G V P)) (h : List (Entry G V)) (number : ℕ) (p : P) : Type 0 where
    pub there : Stood (up_to_last x xs h) number → (q : P) × (recast_by alike view d p ≡ Some q)
    pub stood : (q : P) → recast_by alike view d p ≡ Some q → Stood (up_to_last x xs h) number
    pub given : (q : P) → recast_by alike view d p ≡ Some q → StoodAt (all_ended (x ∷ xs) h) number (view q)

  -- Of slots that a history led to: the pointer leads to the record of this number, and to no other, exactly if that
  -- stands; and to what it is now.
  pub record Finds (s : Slots G V) (h : List (Entry G V)) (number : ℕ) (p : P) : Type 0 where
    pub there : (l : Line G V) → In l (roll h).lines → l.number ≡ number → (q : P) × (recast_by alike view d p ≡ Some q) × (found alike (view q) s ≡ Some l.stand)
    pub only : (q : P) (r : Held G V) → recast_by alike view d p ≡ Some q → found alike (view q) s ≡ Some r → (l : Line G V) × In l (roll h).lines × (l.number ≡ number) × (l.stand ≡ r)

  -- What a join of the directories of successive compressions says, of an arena with slots s: `later` came after the last
  -- of them, and h before the first span.
  pub record Traced (s : Slots G V) (x : Span G V P) (xs : List (Span G V P)) (h later : List (Entry G V)) : Type 0 where
    pub recasts : AllApart (x ∷ xs) h → (number : ℕ) (p : P) → Gives h x.calls number (view p) → Recasts x xs h number p
    pub finds : AllApart (x ∷ xs) h → unbroken later ≡ true → Apart (all_ended (x ∷ xs) h) later →
        (number : ℕ) (p : P) → Gives h x.calls number (view p) → Finds s (later ++ all_ended (x ∷ xs) h) number p

  -- The whole promise, of an arena with slots s and of a directory, whichever histories led to them.
  pub record Promise (s : Slots G V) : Type 0 where
    pub arena : Lawful alike s (count s)
    pub directory : Lawful alike d (count d)
    pub bracketing : (a b : Brackets G P) → bracketed a ≡ bracketed b → joined alike view a ≡ d → joined alike view b ≡ d
    pub traced : (x : Span G V P) (xs : List (Span G V P)) (h later : List (Entry G V)) → Leads alike (later ++ all_ended (x ∷ xs) h) s →
        opens h ≡ true → Successive view (x ∷ xs) h → (b : Brackets G P) → bracketed b ≡ directories (x ∷ xs) → joined alike view b ≡ d → Traced s x xs h later

-- The histories that a script adds are ones that lead there.
use Rattle.std.proofs.Common.{◌≡◌, ℕ, Bool, true, false, cond, ◌&&◌, leb, List, [], ◌∷◌, ◌++◌, Some, None, Ok, Err, Option, Result, sym, refl, ap, ◌∙◌, subst, append_assoc, arith}
use Rattle.answers.specs.declared.answer.Concerned.{Concerned}
use Rattle.answers.specs.declared.answer.Concerned.TheVariants.{Record}
use Rattle.arena.specs.Answers.{value_answer, edit_answer}
use Rattle.slots.specs.Inserted.{insert_answer}
use Rattle.slots.specs.Records.{match_in, found}
use Rattle.history.specs.Calls as history
use Rattle.history.specs.Calls.{Entry, went, asks, Leads, next, pointer}
use Rattle.history.specs.Mapped.{kept, records}
use Rattle.history.specs.Directories.{filling, filled_slots}
use Rattle.history.proofs.Fills.{then_through, filling_leads}
use Rattle.history.proofs.Moves.{records_rise}
use Rattle.directory.proofs.Reported.{report_rises}
use Rattle.history.specs.Slots.{Slots, Ptr, Held, at, is_free, has_gen}
use Rattle.numbering.specs.Kinds.{season_alike}
use Rattle.outcome.specs.Outcome.{Outcome, done, refused}
use Rattle.numbering.specs.declared.generation.SeasonGen.{SeasonGen}
use Rattle.kinds.specs.declared.slot.DirectSlot.{DirectSlot}
use Rattle.kinds.specs.declared.slot.DirectSlot.TheVariants.{Free, Allocated}
use Rattle.lines.specs.Meaning.{meaning}
use Rattle.lines.specs.declared.call.Call.{Call}
use Rattle.lines.specs.declared.call.Call.TheVariants.{Insert, Edit, Get, Remove, Trim, Reserve, Limit, Clear, Compress, Recast}
use Rattle.lines.specs.declared.error.LineError.{LineError}
use Rattle.numbering.specs.Pointers.{Pointer}
use Rattle.passages.specs.State.{State, capacity_of, short_point, cite}
use Rattle.steps.specs.Model.{shown, outcome, recorded, slots_by, entries, fills, report_of, after_line, adds, latest_adds}
use Rattle.runner.specs.Run.{lines_by, after_all, adds_all, latest_adds_all, state_by}
use Rattle.runner.specs.Led.{Led, Reached, Stopped}

-- an insertion that is accepted finds its slot vacant
insert_asked : (a b c : Bool) (f : Unit {0} → Concerned) → went (shown f (cond (a && b) (cond c (done tt) (refused 2)) (refused 1))) ≡ true → a && c ≡ true
insert_asked true true true f e = refl
insert_asked true true false f e = e
insert_asked true false c f e = absurd (let z : ◌≡◌ {A = ℕ} 0 1 = cc in omega arith)
insert_asked false b c f e = e

-- and a record that is found has its generation
match_asked : {X : Type 0} (n : ℕ) (x : DirectSlot SeasonGen ℕ) (g : SeasonGen) (f : X → Concerned) (answer : Option (Held SeasonGen ℕ) → Outcome X) → answer None ≡ refused 3 → went (shown f (answer (match_in season_alike n x g))) ≡ true → has_gen season_alike x g ≡ true
match_asked n Free g f answer miss e = ap (λ o. went (shown f o)) (sym miss) ∙ e
match_asked n (Allocated h v) g f answer miss e = go (season_alike h g) e
  where
    go : (b : Bool) → went (shown f (answer (cond b (Some (record { slot = n; gen = h; value = v })) None))) ≡ true → b ≡ true
    go true d = refl
    go false d = ap (λ o. went (shown f o)) (sym miss) ∙ d

vacant_asked : (k : ℕ) (p : Ptr SeasonGen) (s : Slots SeasonGen ℕ) (f : Unit {0} → Concerned) → went (shown f (insert_answer k p s)) ≡ true → leb 1 p.slot && is_free (at p.slot s) ≡ true
vacant_asked k p s f w = insert_asked (leb 1 p.slot) (leb p.slot k) (is_free (at p.slot s)) f w

found_asked : {X : Type 0} (p : Ptr SeasonGen) (s : Slots SeasonGen ℕ) (f : X → Concerned) (answer : Option (Held SeasonGen ℕ) → Outcome X) → answer None ≡ refused 3 → went (shown f (answer (found season_alike p s))) ≡ true → has_gen season_alike (at p.slot s) p.gen ≡ true
found_asked p s f answer miss w = match_asked p.slot (at p.slot s) p.gen f answer miss w

call_asked : (st : State) (c : Call) (h : history.Call SeasonGen ℕ) → recorded c ≡ Some h → went (outcome st c) ≡ true → asks season_alike h st.register.slots ≡ true
call_asked st (Insert s g v) h e w = let p : history.insert (cite s g) v ≡ h = cc in subst (λ x. asks season_alike x st.register.slots ≡ true) p (vacant_asked (capacity_of st.register) (cite s g) st.register.slots (λ _. Record s g v) w)
call_asked st (Edit s g v) h e w = let p : history.edit (pointer (cite s g)) v ≡ h = cc in subst (λ x. asks season_alike x st.register.slots ≡ true) p (found_asked (cite s g) st.register.slots (λ u. Record s g u) (edit_answer v) refl w)
call_asked st (Get s g) h e w = absurd (let z : ◌≡◌ {A = ℕ} 0 1 = cc in omega arith)
call_asked st (Remove s g) h e w = let p : history.remove (pointer (cite s g)) ≡ h = cc in subst (λ x. asks season_alike x st.register.slots ≡ true) p (found_asked (cite s g) st.register.slots (λ u. Record s g u) value_answer refl w)
call_asked st (Trim n) h e w = let p : history.trim n ≡ h = cc in subst (λ x. asks season_alike x st.register.slots ≡ true) p refl
call_asked st (Reserve n) h e w = let p : history.reallocate n ≡ h = cc in subst (λ x. asks season_alike x st.register.slots ≡ true) p refl
call_asked st (Limit n) h e w = let p : history.limit n ≡ h = cc in subst (λ x. asks season_alike x st.register.slots ≡ true) p refl
call_asked st Clear h e w = let p : history.clear ≡ h = cc in subst (λ x. asks season_alike x st.register.slots ≡ true) p refl
call_asked st Compress h e w = let p : history.compress kept ≡ h = cc in subst (λ x. asks season_alike x st.register.slots ≡ true) p refl
call_asked st (Recast s g) h e w = absurd (let z : ◌≡◌ {A = ℕ} 0 1 = cc in omega arith)

call_leads : (st : State) (c : Call) (past : List (Entry SeasonGen ℕ)) → Leads season_alike past st.register.slots → (r : Option (history.Call SeasonGen ℕ)) → recorded c ≡ r →
    Leads season_alike (entries r (outcome st c) ++ past) (slots_by r (outcome st c) st.register.slots)
call_leads st c past l None e = l
call_leads st c past l (Some h) e = next l (record { asked = call_asked st c h e; slots = refl })

line_leads : (st : State) (p : Result Call LineError) (past : List (Entry SeasonGen ℕ)) → Leads season_alike past st.register.slots → Leads season_alike (adds st p ++ past) (after_line st p).register.slots
line_leads st (Ok c) past l = call_leads st c past l (recorded c) refl
line_leads st (Err e) past l = l

all_lead : (st : State) (ls : List (List ℕ)) (past : List (Entry SeasonGen ℕ)) → Leads season_alike past st.register.slots → Leads season_alike (adds_all st ls ++ past) (after_all st ls).register.slots
all_lead st [] past l = l
all_lead st (b ∷ ls) past l =
    let k = all_lead (after_line st (meaning b)) ls (adds st (meaning b) ++ past) (line_leads st (meaning b) past l) in
    rw append_assoc k

-- the latest directory alters by a filling only, which its report can always be
filling_goes_on : (st : State) (b : Bool) (past : List (Entry SeasonGen Pointer)) → Leads season_alike past st.latest →
    Leads season_alike (cond b (filling short_point (report_of st)) [] ++ past) (cond b (filled_slots short_point (report_of st)) st.latest)
filling_goes_on st true past l =
    let s = st.register.slots in
    then_through season_alike past (filling short_point (report_of st)) l
    (filling_leads season_alike short_point st.latest (report_of st) (report_rises short_point 0 1 (records s) (records_rise 0 s)))
filling_goes_on st false past l = l

latest_line_leads : (st : State) (p : Result Call LineError) (past : List (Entry SeasonGen Pointer)) → Leads season_alike past st.latest → Leads season_alike (latest_adds st p ++ past) (after_line st p).latest
latest_line_leads st (Ok c) past l = filling_goes_on st (fills st c) past l
latest_line_leads st (Err e) past l = l

latest_all_lead : (st : State) (ls : List (List ℕ)) (past : List (Entry SeasonGen Pointer)) → Leads season_alike past st.latest → Leads season_alike (latest_adds_all st ls ++ past) (after_all st ls).latest
latest_all_lead st [] past l = l
latest_all_lead st (b ∷ ls) past l =
    let k = latest_all_lead (after_line st (meaning b)) ls (latest_adds st (meaning b) ++ past) (latest_line_leads st (meaning b) past l) in
    rw append_assoc k

pub script_leads : (st : State) (script : Option (List (List ℕ))) → Led st script (state_by st script)
script_leads st (Some ls) = record { register = all_lead st ls; latest = latest_all_lead st ls }
script_leads st None = record { register = λ past l. l; latest = λ past l. l }

pub none_reached : (st : State) (lines : List (List ℕ)) → Reached st lines st
none_reached st lines = record { front = []; back = lines; parts = refl; state = refl }

pub stopped_there : (st new : State) (script : Option (List (List ℕ))) → Reached st (lines_by script) new → Stopped st script new
stopped_there st new script r = record {
  reached = r;
  led = record { register = λ past l. rw r.state (all_lead st r.front past l); latest = λ past l. rw r.state (latest_all_lead st r.front past l) };
}

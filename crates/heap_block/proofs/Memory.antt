-- What the walks share, at any type of slots and any allocator. Assumes `Logic`.
--     room_out, slot_in      one place is taken out of a block's as room, and put back with a slot
--     of_room, all_room      room is places with no slot, and places are room
--     slot_seen              what is lent of the places has each slot
--     block_at, block_back   what a block of one place or more owns, taken apart and made
--     had, made              what is owned of the struct
--     opens_block, closes_block    a `&mut` to a block
use mathlib.Core.Path.{◌≡◌, refl, sym, ap, ◌∙◌}
use Prim.Native.Nat.{ℕ, zero, suc, ◌+◌, ◌*◌, ◌<◌, ◌≤◌, ◌^◌}
use native.Mathlib.Nat.{not-suc-le-zero, le_of_suc-le-suc}
use mathlib.Core.List.{List, [], ◌∷◌, ◌++◌}
use lib.ListN.{length, get_or}
use seplogic.Ra.Ura.{Ura}
use base.Fraction.{full_share}
use base.Logic.{SProp, ent, sep, id⊢, never}
use base.Stored.{Gv}
use base.Fml.{Fml, Lft, GName, Share, ftrue, fsep, fat, froom, flft, fobs, fauth, fbor, fobor}
use mir.Syntax.{Ty, Args, a_type, ty_array, dcons, dnil}
use mir.Raw.{raw as bare}
use mir.Val.{Val, vstruct, vcons, vnil, of_list}
use prog.Memory.{size, align, capped}
use prog.Capped.{capped_is}
use prog.RawLaws.{size-raw, align-raw}
use types.Logic.{Logic, sem}
use types.Kit.{Goal, Soaks, Step, step, Seq, Item, ‵, ◌⊛◌, some, given, ◌$◌, ◌∵◌, !, qed, by, move, keep, drop, use1, use2, split, pick, learn, rewrite, fsplit, fjoin, fpick, feq_l, flt_l, flt_i, frame, done}
use types.SemTy.{Body}
use denote.RattleType.{RattleType}
use denote.Memory.{cell_at, mem, part_at, hidden_shr}
use denote.RawPtr.{Ptr, block_ptr, ptr_val, in_a_block}
use denote.Index.{place_is}
use denote.Index as index
use denote.Param.{param, bounded}
use denote.Shadow.{pure_i}
use denote.Steps.{opens, closes}
use denote.Struct.Struct.{Struct}
use denote.Struct.Owning.{shape}
use Rattle.std.specs.Mem.{type_size}
use Rattle.std.proofs.mem.Param.{El, R, el_x, elτ, Good}
use Rattle.std.proofs.ptr.Rows.{one_below}
use Rattle.std.proofs.slice.Rows.{el_out, el_in}
use Rattle.std.proofs.alloc.Calls.{Al, token}
use Rattle.heap_block.specs.Written.{written}
use Rattle.heap_block.specs.Places.{rest, place, places, place_lent, places_lent, block_owns}
use Rattle.heap_block.specs.contracts.block.Block as C

-- a size of which some fit a word is its own cap
pub uncapped : (n k : ℕ) → 0 < n → n * k < 2 ^ 64 → n * capped k ≡ n * k
uncapped n k pos fits = ap (λ (j : ℕ). n * j) (capped_is k (one_below n k (2 ^ 64) pos fits))

module _ (E : El) where
  abbrev pub sz : ℕ
  sz = type_size (R E)

  -- what a block with room for n slots is asked for
  abbrev pub block_ty : ℕ → Ty
  block_ty n = bare (ty_array (elτ E) n)

  pub block_size : (n : ℕ) → n * sz < 2 ^ 64 → capped (size (block_ty n)) ≡ n * sz
  block_size n fits = ap capped (size-raw (ty_array (elτ E) n)) ∙ capped_is (n * sz) fits

  pub block_align : (n : ℕ) → capped (align (block_ty n)) ≡ capped (align (elτ E))
  block_align n = ap capped (align-raw (ty_array (elτ E) n))

  -- the places but the one that i others stand before
  abbrev pub besides : ℕ → ℕ → ℕ → List (el_x E) → ℕ → Fml
  besides b o zero xs i = ftrue
  besides b o (suc n) xs zero = places (R E) b (o + sz) n (rest xs)
  besides b o (suc n) xs (suc i) = fsep (place (R E) b o xs) (besides b (o + sz) n (rest xs) i)

module _ (E : El) {M : Type 1} {𝓤 : Ura M} (𝓛 : Logic 𝓤) (b : ℕ) where
  open 𝓛 use {H}

  abbrev ◌⊢◌ : SProp 𝓤 → SProp 𝓤 → Type 1
  P ⊢ Q = ent 𝓤 P Q

  abbrev ◌∗◌ : SProp 𝓤 → SProp 𝓤 → SProp 𝓤
  P ∗ Q = sep 𝓤 P Q

  abbrev ⟦◌⟧ : Fml → SProp 𝓤
  ⟦ P ⟧ = sem 𝓛 P

  infix 26 ◌⊢◌
  infixr 35 ◌∗◌
  abbrev τ : Ty
  τ = elτ E

  abbrev s : ℕ
  s = sz E

  abbrev one : ℕ → List (el_x E) → Fml
  one = place (R E) b

  abbrev all : ℕ → ℕ → List (el_x E) → Fml
  all = places (R E) b

  -- a slot may be let go, and its place is room
  emptied : (o : ℕ) (xs : List (el_x E)) → ⟦ one o xs ⟧ ⊢ H.room τ b o
  emptied o [] = 𝓛.laws.raw-room τ b o
  emptied o (x ∷ xs) = qed 𝓛 (‵ (part_at (R E) full_share x b o) ∷ []) ∵
      use1 𝓛 (some (λ (v : Val). given (Good E v) (‵ (fat full_share τ b o v) ⊛ ‵ (E.row.own_val x (v ∷ []))))) (el_out E 𝓛 b x o) $
      pick ! (λ v. learn ! (λ good. split ! $ keep ! (0 ∷ []) $ by ! (𝓛.laws.at_room τ b o v)))

  takes : (n : ℕ) (xs : List (el_x E)) (i o : ℕ) → i < n → ⟦ all o n xs ⟧ ⊢ H.room τ b (index.place s o i) ∗ ⟦ besides E b o n xs i ⟧
  takes zero xs i o lt = absurd (not-suc-le-zero lt)
  takes (suc n) xs zero o lt = qed 𝓛 (‵ (all o (suc n) xs) ∷ []) ∵ fsplit ! $ use1 𝓛 (‵ (froom τ b o)) (emptied o xs) $ done !
  takes (suc n) xs (suc i) o lt = qed 𝓛 (‵ (all o (suc n) xs) ∷ []) ∵ fsplit ! $ move ! (1 ∷ []) $
      use1 𝓛 (‵ (froom τ b (index.place s (o + s) i)) ⊛ ‵ (besides E b (o + s) n (rest xs) i)) (takes n (rest xs) i (o + s) (le_of_suc-le-suc lt)) $
      split ! $ frame ! $ move ! (1 ∷ 0 ∷ []) $ fjoin ! $ done !

  puts : (n : ℕ) (xs : List (el_x E)) (i : ℕ) (y : el_x E) (o : ℕ) → i < n → i ≤ length xs
      → ⟦ part_at (R E) full_share y b (index.place s o i) ⟧ ∗ ⟦ besides E b o n xs i ⟧ ⊢ ⟦ all o n (written xs i y) ⟧
  puts zero xs i y o lt le = absurd (not-suc-le-zero lt)
  puts (suc n) [] zero y o lt le = qed 𝓛 (‵ (part_at (R E) full_share y b o) ∷ ‵ (all (o + s) n []) ∷ []) ∵ fjoin ! $ done !
  puts (suc n) (x ∷ xs) zero y o lt le = qed 𝓛 (‵ (part_at (R E) full_share y b o) ∷ ‵ (all (o + s) n xs) ∷ []) ∵ fjoin ! $ done !
  puts (suc n) [] (suc i) y o lt le = absurd (not-suc-le-zero le)
  puts (suc n) (x ∷ xs) (suc i) y o lt le = qed 𝓛 (‵ (part_at (R E) full_share y b (index.place s (o + s) i)) ∷ ‵ (besides E b o (suc n) (x ∷ xs) (suc i)) ∷ []) ∵
      move ! (1 ∷ []) $ fsplit ! $ move ! (2 ∷ 1 ∷ []) $
      use2 𝓛 (‵ (all (o + s) n (written xs i y))) (puts n xs i y (o + s) (le_of_suc-le-suc lt) (le_of_suc-le-suc le)) $ move ! (1 ∷ 0 ∷ []) $ fjoin ! $ done !

  module _ (n : ℕ) (xs : List (el_x E)) (i o : ℕ) (lt : i < n) where
    pub room_out : ⟦ all o n xs ⟧ ⊢ H.room τ b (i * s + o) ∗ ⟦ besides E b o n xs i ⟧
    room_out = qed 𝓛 (‵ (all o n xs) ∷ []) ∵ use1 𝓛 (‵ (froom τ b (index.place s o i)) ⊛ ‵ (besides E b o n xs i)) (takes n xs i o lt) $ split ! $
        rewrite ! 0 (λ (k : ℕ). ‵ (froom τ b k)) (place_is s o i) refl $ done !

    pub slot_in : i ≤ length xs → (y : el_x E) (v : Val) → H.at full_share τ b (i * s + o) v ∗ ⟦ E.row.own_val y (v ∷ []) ⟧ ∗ ⟦ besides E b o n xs i ⟧ ⊢ ⟦ all o n (written xs i y) ⟧
    slot_in le y v = qed 𝓛 (‵ (fat full_share τ b (i * s + o) v) ∷ ‵ (E.row.own_val y (v ∷ [])) ∷ ‵ (besides E b o n xs i) ∷ []) ∵
        use2 𝓛 (‵ (part_at (R E) full_share y b (i * s + o))) (el_in E 𝓛 b y (i * s + o) v) $
        rewrite ! 0 (λ (k : ℕ). ‵ (part_at (R E) full_share y b k)) (sym (place_is s o i)) refl $ by ! (puts n xs i y o lt le)

  pub of_room : (n o : ℕ) → H.room (ty_array τ n) b o ⊢ ⟦ all o n [] ⟧
  of_room zero o = qed 𝓛 (‵ (froom (ty_array τ 0) b o) ∷ []) ∵ keep ! [] $ done !
  of_room (suc n) o = qed 𝓛 (‵ (froom (ty_array τ (suc n)) b o) ∷ []) ∵
      use1 𝓛 (‵ (froom τ b o) ⊛ ‵ (froom (ty_array τ n) b (o + s))) (𝓛.laws.room_uncons τ n b o) $ split ! $
      use1 𝓛 (‵ (one o [])) (𝓛.laws.room-raw τ b o) $ frame ! $ by ! (of_room n (o + s))

  pub all_room : (n : ℕ) (xs : List (el_x E)) (o : ℕ) → ⟦ all o n xs ⟧ ⊢ H.room (ty_array τ n) b o
  all_room zero xs o = 𝓛.laws.room_nil τ b o
  all_room (suc n) xs o = qed 𝓛 (‵ (one o xs) ∷ ‵ (all (o + s) n (rest xs)) ∷ []) ∵
      use1 𝓛 (‵ (froom τ b o)) (emptied o xs) $ move ! (1 ∷ []) $
      use1 𝓛 (‵ (froom (ty_array τ n) b (o + s))) (all_room n (rest xs) (o + s)) $ move ! (1 ∷ []) $ by ! (𝓛.laws.room_cons τ n b o)

  module _ (κ : Lft) where
    sees : (n : ℕ) (xs : List (el_x E)) (i : ℕ) (d : el_x E) (o : ℕ) → i < n → i < length xs → ⟦ places_lent (R E) b o n xs κ ⟧ ⊢ ⟦ hidden_shr (R E) κ (get_or xs i d) b (index.place s o i) ⟧
    sees zero xs i d o lt le = absurd (not-suc-le-zero lt)
    sees (suc n) [] i d o lt le = absurd (not-suc-le-zero le)
    sees (suc n) (x ∷ xs) zero d o lt le = qed 𝓛 (‵ (place_lent (R E) b o (x ∷ xs) κ) ∷ ‵ (places_lent (R E) b (o + s) n xs κ) ∷ []) ∵ keep ! (0 ∷ []) $ done !
    sees (suc n) (x ∷ xs) (suc i) d o lt le = qed 𝓛 (‵ (place_lent (R E) b o (x ∷ xs) κ) ∷ ‵ (places_lent (R E) b (o + s) n xs κ) ∷ []) ∵ drop ! $
        by ! (sees n xs i d (o + s) (le_of_suc-le-suc lt) (le_of_suc-le-suc le))

    pub slot_seen : (n : ℕ) (xs : List (el_x E)) (i : ℕ) (d : el_x E) (o : ℕ) → i < n → i < length xs → ⟦ places_lent (R E) b o n xs κ ⟧ ⊢ ⟦ hidden_shr (R E) κ (get_or xs i d) b (i * s + o) ⟧
    slot_seen n xs i d o lt le = qed 𝓛 (‵ (places_lent (R E) b o n xs κ) ∷ []) ∵
        use1 𝓛 (‵ (hidden_shr (R E) κ (get_or xs i d) b (index.place s o i))) (sees n xs i d o lt le) $ rewrite ! 0 (λ (k : ℕ). ‵ (hidden_shr (R E) κ (get_or xs i d) b k)) (place_is s o i) refl $ done !

abbrev pub block_val : Ptr → Val
block_val p = vstruct (vcons (ptr_val p) (vcons (vstruct vnil) vnil))

module _ (E : El) (Z : Al) where
  abbrev pub args : Args
  args = bounded (a_type ∷ a_type ∷ []) (E.row, (Z.row, tt)) (dcons Z.d (dcons Z.drops dnil))

  abbrev pub P : RattleType
  P = param 1 Z.row

  abbrev pub Br : RattleType
  Br = C.the_row (R E) P Z.g

  -- the two fields, as a plain struct
  abbrev pub Words : RattleType
  Words = Struct (shape (C.the_type (R E) P Z.g))

  abbrev pub Owns : Br.Denot → Fml
  Owns d = block_owns (R E) (token Z d.from) d.start d.room d.slots

module _ (E : El) (right : Ty → Ptr → Fml) {M : Type 1} {𝓤 : Ura M} {𝓛 : Logic 𝓤} {K : Type 0} {Γ : List (Item 𝓤)} {G : Goal 𝓤 𝓛.H} where
  pub block_at : K → (p : Ptr) (n : ℕ) (xs : List (el_x E)) → 0 < n
      → ((b o : ℕ) → p ≡ block_ptr b o → n * sz E < 2 ^ 63 → Seq K 𝓛 (‵ (places (R E) b o n xs) ∷ ‵ (right (block_ty E n) (block_ptr b o)) ∷ Γ) G)
      → Seq K 𝓛 (‵ (block_owns (R E) right p n xs) ∷ Γ) G
  block_at t p zero xs pos k = absurd (not-suc-le-zero pos)
  block_at t p (suc n) xs pos k = in_a_block t p (λ q. block_owns (R E) right q (suc n) xs) (id⊢ 𝓤 (never 𝓤)) (λ b o e. fsplit t $ flt_l t (λ fit. fsplit t $ k b o e fit))

  pub block_back : K → (p : Ptr) (b o n : ℕ) (xs : List (el_x E)) → p ≡ block_ptr b o → 0 < n → n * sz E < 2 ^ 63
      → Step K 𝓛 (‵ (block_owns (R E) right p n xs) ∷ Γ) G (‵ (places (R E) b o n xs) ∷ ‵ (right (block_ty E n) (block_ptr b o)) ∷ Γ) G
  block_back t p b o zero xs e pos fit = absurd (not-suc-le-zero pos)
  block_back t p b o (suc n) xs e pos fit = step (λ s. fjoin t $ flt_i t (suc n * sz E) (2 ^ 63) fit $ fjoin t $ rewrite t 0 (λ (q : Ptr). ‵ (block_owns (R E) right q (suc n) xs)) (sym e) refl $ s)

module _ (E : El) (Z : Al) {M : Type 1} {𝓤 : Ura M} {𝓛 : Logic 𝓤} {K : Type 0} {Γ : List (Item 𝓤)} {G : Goal 𝓤 𝓛.H} where
  pub had : K → (d : (Br E Z).Denot) (vs : List Val) → (vs ≡ block_val d.start ∷ [] → Seq K 𝓛 (‵ (Owns E Z d) ∷ Γ) G) → Seq K 𝓛 (‵ ((Br E Z).own_val d vs) ∷ Γ) G
  had t d vs k = fsplit t $ fpick t (λ vss. fsplit t $ feq_l t (λ all. fsplit t $ feq_l t (λ e₀. fsplit t $ fpick t (λ none. fsplit t $ feq_l t (λ e₁. drop t $ drop t $
      k (all ∙ (λ i. vstruct (of_list (e₀ i ++ (e₁ i ++ []))) ∷ [])))))))

  pub made : K → (d : (Br E Z).Denot) → Step K 𝓛 (‵ ((Br E Z).own_val d (block_val d.start ∷ [])) ∷ Γ) G (‵ (Owns E Z d) ∷ Γ) G
  made t d = step (λ s. pure_i t ((Words E Z).own_val (d.start, (tt, tt)) (block_val d.start ∷ [])) (λ vss. (tt, (tt, ((λ uss. (tt, tt)), tt))))
      ((ptr_val d.start ∷ [], (vstruct vnil ∷ [], tt)), (refl, (refl, ((tt, (refl, tt)), tt)))) $ fjoin t $ s)

module _ (E : El) (Z : Al) {M : Type 1} {𝓤 : Ura M} {𝓛 : Logic 𝓤} {K : Type 0} {Γ : List (Item 𝓤)} {G : Goal 𝓤 𝓛.H} where
  -- [what the block owns; the struct's cell; the open borrow; obs; auth]
  pub opens_block : K → Soaks G → {κ : Lft} {q : Share} {γ : GName} (d : (Br E Z).Denot) (rb ro : ℕ)
      → Step K 𝓛 (‵ (Owns E Z d) ∷ ‵ (cell_at full_share (Br E Z).mir (block_val d.start ∷ []) rb ro) ∷ ‵ (fobor κ q (Body (mem (Br E Z)) rb ro γ)) ∷ ‵ (fobs γ ((Br E Z).coded.code d)) ∷ ‵ (fauth γ ((Br E Z).coded.code d)) ∷ Γ) G
      (‵ (fobs γ ((Br E Z).coded.code d)) ∷ ‵ (fbor κ (Body (mem (Br E Z)) rb ro γ)) ∷ ‵ (flft κ q) ∷ Γ) G
  opens_block t z d rb ro = step (λ s. opens t z (Br E Z) {h = d} rb ro (λ vs. move t (1 ∷ []) $ had E Z t d vs (λ is.
      rewrite t 1 (λ (ws : List Val). ‵ (cell_at full_share (Br E Z).mir ws rb ro)) is refl $ s)))

  pub closes_block : K → Soaks G → {κ : Lft} {q : Share} {u v : Gv} {γ : GName} (d : (Br E Z).Denot) (rb ro : ℕ)
      → Step K 𝓛 (‵ (fobs γ ((Br E Z).coded.code d)) ∷ ‵ (fbor κ (Body (mem (Br E Z)) rb ro γ)) ∷ ‵ (flft κ q) ∷ Γ) G
      (‵ (Owns E Z d) ∷ ‵ (cell_at full_share (Br E Z).mir (block_val d.start ∷ []) rb ro) ∷ ‵ (fobor κ q (Body (mem (Br E Z)) rb ro γ)) ∷ ‵ (fobs γ u) ∷ ‵ (fauth γ v) ∷ Γ) G
  closes_block t z d rb ro = step (λ s. made E Z t d $ move t (1 ∷ 0 ∷ []) $ closes t z (Br E Z) d (block_val d.start ∷ []) rb ro $ s)

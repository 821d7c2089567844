-- The words of guards fit the checker's slots.
use Rattle.std.proofs.Common.{◌≡◌, ℕ, ◌+◌, ◌≤◌, ◌<◌, nat_eq, if◌then◌else◌, Bool, true, false, List, [], ◌∷◌, ◌++◌, ◌⊎◌, inl, inr, length, map, slice_index, pos, Option, None, Some, refl, sym, subst, ap, ◌∙◌, arith, rules}
use Rattle.std.proofs.lemmas.List.{append_assoc, length-append, length-map, map-append, get_or_at}
use Rattle.msp_encode.specs.declared.instr.Op2.TheVariants.{Add, Cmp}
use Rattle.msp_encode.specs.declared.instr.Cond.TheVariants as cond
use Rattle.msp_encode.specs.declared.instr.Cg.TheVariants.{Zero}
use Rattle.msp_encode.specs.declared.instr.Src.{Src}
use Rattle.msp_encode.specs.declared.instr.Src.TheVariants as src
use Rattle.msp_encode.specs.declared.instr.Dst.TheVariants as dst
use Rattle.code_model.specs.declared.object.Object.{Object}
use Rattle.code_model.specs.declared.parts.RelKind.{RelKind}
use Rattle.code_model.specs.declared.parts.RelKind.TheVariants.{Lo, Hi}
use Rattle.code_model.specs.Fields.{fields}
use Rattle.code_model.specs.declared.guards.GuardKind.{GuardKind}
use Rattle.code_model.specs.declared.guards.GuardKind.TheVariants as guard
use Rattle.code_model.specs.declared.guards.Slot.{Slot}
use Rattle.code_model.specs.declared.guards.Slot.TheVariants as slot
use Rattle.code_model.specs.Relocs.{HasReloc, Unrelocated}
use Rattle.code_model.specs.Guards.{high_word, region_slots, guard_words, IsLoad, Takes, FitAll}
use Rattle.insert_model.specs.declared.piece.Piece.{Piece}
use Rattle.insert_model.specs.declared.piece.Word.{Word}
use Rattle.msp_encode.specs.Spelled.{two_word, jump_word}
use Rattle.insert_model.specs.Words.{piece_words, unit_words}
use Rattle.insert_model.specs.Layout.{place_map}
use Rattle.insert_model.specs.Inserted.{moved, moved_value}
use Rattle.insert_model.specs.Guards.{save, mov, on_r4, jump, branch, restore, growth_guard, pop_guard, sp_guard}
use Rattle.insert_laws.specs.Pieces.{pieces}
use Rattle.insert_laws.specs.Laws.{kind_in, RelocsStand}
use Rattle.insert_laws.specs.Shapes.{IsGuard}
use Rattle.kernel_model.specs.declared.entries.TheConstants.{STORE_FAULT}

-- ---- words that fit slots

abbrev pub WordTakes : Word → Slot → Type 0
WordTakes w (slot.Word v) = (w.value ≡ v) × (w.kind ≡ None)
WordTakes w slot.Load = IsLoad w.value × (w.kind ≡ None)
WordTakes w slot.Free = Unit {0}
WordTakes w slot.Low = (w.value ≡ 0) × (w.kind ≡ Some Lo)
WordTakes w (slot.High v) = (w.value ≡ v) × (w.kind ≡ Some Hi)

abbrev pub WordsFit : List Word → List Slot → Type 0
WordsFit [] [] = Unit {0}
WordsFit [] (s ∷ ss) = ⊥
WordsFit (w ∷ ws) [] = ⊥
WordsFit (w ∷ ws) (s ∷ ss) = WordTakes w s × WordsFit ws ss

growth_words : WordsFit (unit_words growth_guard) (guard_words guard.Growth)
unfolding unit_words piece_words two_word jump_word
growth_words = search rules

pop_words : WordsFit (unit_words pop_guard) (guard_words guard.Pop)
unfolding unit_words piece_words two_word jump_word
pop_words = search rules

sp_words : WordsFit (unit_words sp_guard) (guard_words guard.Sp)
unfolding unit_words piece_words two_word jump_word
sp_words = search rules

load_reg : (n : ℕ) → n < 16 → (n ≡ 1) ⊎ (3 ≤ n) → IsLoad (two_word 4 0 n 0 4 0)
unfolding two_word
load_reg n h (inl e) = (omega arith, omega arith, inl (omega arith))
load_reg n h (inr e) = (omega arith, omega arith, inr (omega arith))

-- a guard of a region whose base is 0 or a register
abbrev based : Src → (x high : ℕ) → Option RelKind → List Piece
based s x high k =
    save ∷ mov s (dst.Reg 4) ∷ on_r4 Add x k ∷ on_r4 Cmp 0 (Some Lo) ∷ jump cond.Nc (pos 3) ∷ on_r4 Cmp high (Some Hi) ∷ jump cond.Nc (pos 2) ∷ branch STORE_FAULT None ∷ restore ∷ []

zero_words : (x high : ℕ) (k : Option RelKind) → WordsFit (unit_words (based (src.Const Zero) x high k)) (region_slots high)
unfolding unit_words piece_words two_word jump_word
zero_words x high k = search rules

reg_words : (n x high : ℕ) (k : Option RelKind) → IsLoad (two_word 4 0 n 0 4 0) → WordsFit (unit_words (based (src.Reg n) x high k)) (region_slots high)
unfolding unit_words piece_words two_word jump_word
reg_words n x high k load = search (rules, load)

region_by : (b : Bool) (n x high : ℕ) (k : Option RelKind) → IsLoad (two_word 4 0 n 0 4 0) → WordsFit (unit_words (based (if b then src.Const Zero else src.Reg n) x high k)) (region_slots high)
region_by true n x high k load = zero_words x high k
region_by false n x high k load = reg_words n x high k load

pub guard_fits : (g : GuardKind) (gs : List Piece) → IsGuard g gs → WordsFit (unit_words gs) (guard_words g)
guard_fits guard.Store gs h = subst (λ (ps : List Piece). WordsFit (unit_words ps) (guard_words guard.Store)) (sym h.are) (region_by (nat_eq h.base 3) h.base h.index 0 h.kind (load_reg h.base h.below h.register))
guard_fits (guard.Wide r) gs h =
    subst (λ (ps : List Piece). WordsFit (unit_words ps) (guard_words (guard.Wide r))) (sym h.are) (region_by (nat_eq h.base 3) h.base h.index (high_word r) h.kind (load_reg h.base h.below h.register))
guard_fits guard.Load gs h = absurd h
guard_fits guard.Growth gs h = subst (λ (ps : List Piece). WordsFit (unit_words ps) (guard_words guard.Growth)) (sym h) growth_words
guard_fits guard.Pop gs h = subst (λ (ps : List Piece). WordsFit (unit_words ps) (guard_words guard.Pop)) (sym h) pop_words
guard_fits guard.Sp gs h = subst (λ (ps : List Piece). WordsFit (unit_words ps) (guard_words guard.Sp)) (sym h) sp_words

fit_length : (ws : List Word) (ss : List Slot) → WordsFit ws ss → length ws ≡ length ss
fit_length [] [] h = refl
fit_length [] (s ∷ ss) h = absurd h
fit_length (w ∷ ws) [] h = absurd h
fit_length (w ∷ ws) (s ∷ ss) h = let e : length ws ≡ length ss = fit_length ws ss h.1 in omega arith

pub guard_length : (g : GuardKind) (gs : List Piece) → IsGuard g gs → length (unit_words gs) ≡ length (guard_words g)
guard_length g gs h = fit_length (unit_words gs) (guard_words g) (guard_fits g gs h)

-- ---- in an object

kind_at_end : (us : List Word) (w : Word) (bs : List Word) → kind_in (us ++ w ∷ bs) (length us) ≡ w.kind
kind_at_end [] w bs = refl
kind_at_end (a ∷ us) w bs = kind_at_end us w bs

pub record IsWordsOf (o q : Object) (ws : List Word) : Type 0 where
  pub code : q.code ≡ map (moved (place_map (fields o))) ws
  pub are : ws ≡ unit_words (pieces (fields o))
  pub relocs : RelocsStand o q

module _ (o q : Object) (ws : List Word) (is : IsWordsOf o q ws) where
  kind_is : (at : ℕ) (k : Option RelKind) → kind_in ws at ≡ k → kind_in (unit_words (pieces (fields o))) at ≡ k
  kind_is at k e = ap (λ (vs : List Word). kind_in vs at) (sym is.are) ∙ e

  pub no_reloc : (at : ℕ) → kind_in ws at ≡ None → Unrelocated q.relocs at
  no_reloc at e = is.relocs.none at (kind_is at None e)

  pub a_reloc : (at : ℕ) (k : RelKind) → kind_in ws at ≡ Some k → HasReloc q.relocs at k
  a_reloc at k e = is.relocs.some at k (kind_is at (Some k) e)

  pub code_word : (us : List Word) (w : Word) (bs : List Word) → ws ≡ us ++ w ∷ bs → slice_index q.code (length us) ≡ moved (place_map (fields o)) w
  code_word us w bs e =
      let go : ℕ → ℕ = place_map (fields o) in
      let f : q.code ≡ map (moved (place_map (fields o))) us ++ moved (place_map (fields o)) w ∷ map (moved (place_map (fields o))) bs =
      is.code ∙ ap (map (moved (place_map (fields o)))) e ∙ map-append (moved (place_map (fields o))) us (w ∷ bs) in
      ap (λ (vs : List ℕ). slice_index vs (length us)) f
      ∙ get_or_at (map (moved (place_map (fields o))) us) (moved (place_map (fields o)) w) (map (moved (place_map (fields o))) bs) 0 (length us) (length-map us (moved (place_map (fields o))))

  inside : (us : List Word) (w : Word) (bs : List Word) → ws ≡ us ++ w ∷ bs → length us < length q.code
  inside us w bs e = omega (arith, ap length is.code, length-map ws (moved (place_map (fields o))), ap length e, length-append us (w ∷ bs))

  moved_plain : (w : Word) (k : Option RelKind) → w.kind ≡ k → (moved_value (place_map (fields o)) w.value k ≡ w.value) → moved (place_map (fields o)) w ≡ w.value
  moved_plain w k e h = ap (moved_value (place_map (fields o)) w.value) e ∙ h

  takes : (us : List Word) (w : Word) (bs : List Word) (s : Slot) → ws ≡ us ++ w ∷ bs → WordTakes w s → Takes q (length us) (slice_index q.code (length us)) s
  takes us w bs (slot.Word v) e h =
      (code_word us w bs e ∙ moved_plain w None h.1 refl ∙ h.0, no_reloc (length us) (ap (λ (vs : List Word). kind_in vs (length us)) e ∙ kind_at_end us w bs ∙ h.1))
  takes us w bs slot.Load e h =
      (subst IsLoad (sym (code_word us w bs e ∙ moved_plain w None h.1 refl)) h.0, no_reloc (length us) (ap (λ (vs : List Word). kind_in vs (length us)) e ∙ kind_at_end us w bs ∙ h.1))
  takes us w bs slot.Free e h = tt
  takes us w bs slot.Low e h =
      (code_word us w bs e ∙ moved_plain w (Some Lo) h.1 refl ∙ h.0, a_reloc (length us) Lo (ap (λ (vs : List Word). kind_in vs (length us)) e ∙ kind_at_end us w bs ∙ h.1))
  takes us w bs (slot.High v) e h =
      (code_word us w bs e ∙ moved_plain w (Some Hi) h.1 refl ∙ h.0, a_reloc (length us) Hi (ap (λ (vs : List Word). kind_in vs (length us)) e ∙ kind_at_end us w bs ∙ h.1))

  pub fit_all : (us vs bs : List Word) (ss : List Slot) → ws ≡ us ++ (vs ++ bs) → WordsFit vs ss → FitAll q (length us) ss
  fit_all us [] bs [] e h = tt
  fit_all us [] bs (s ∷ ss) e h = absurd h
  fit_all us (v ∷ vs) bs [] e h = absurd h
  fit_all us (v ∷ vs) bs (s ∷ ss) e h =
      let f : ws ≡ (us ++ v ∷ []) ++ (vs ++ bs) = e ∙ sym (append_assoc us (v ∷ []) (vs ++ bs)) in
      let n : length (us ++ v ∷ []) ≡ length us + 1 = omega (arith, length-append us (v ∷ [])) in
      ((inside us v (vs ++ bs) e, takes us v (vs ++ bs) s e h.0), subst (λ (k : ℕ). FitAll q k ss) n (fit_all (us ++ v ∷ []) vs bs ss f h.1))

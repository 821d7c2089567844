-- What starts among a guard's words: no guard begins there.
use Rattle.std.proofs.Common.{◌≡◌, ℕ, ◌+◌, ◌≤◌, ◌<◌, ◌⊎◌, inl, inr, length, drop, slice_index, refl, sym, subst, ap, arith}
use Rattle.std.proofs.lemmas.Bool.{cases_order, cases_lt}
use Rattle.msp_encode.specs.declared.instr.Op2.{Op2}
use Rattle.msp_encode.specs.declared.instr.Op2.TheVariants as op
use Rattle.msp_encode.specs.declared.instr.Src.{Src}
use Rattle.msp_encode.specs.declared.instr.Src.TheVariants as src
use Rattle.msp_encode.specs.declared.instr.Dst.TheVariants as dst
use Rattle.msp_encode.specs.declared.instr.Instr.{Instr}
use Rattle.msp_encode.specs.declared.instr.Instr.TheVariants as instr
use Rattle.msp_encode.specs.Spelling.{First, SrcRow}
use Rattle.msp_encode.specs.Forms.{Writes, Tests}
use Rattle.code_model.specs.declared.object.Object.{Object}
use Rattle.code_model.specs.declared.guards.Reach.{Reach}
use Rattle.code_model.specs.declared.guards.Reach.TheVariants as reach
use Rattle.code_model.specs.declared.guards.GuardKind.{GuardKind}
use Rattle.code_model.specs.declared.guards.GuardKind.TheVariants as guard
use Rattle.code_model.specs.Starts.{Stands, Start}
use Rattle.code_model.specs.Guards.{Guarded, high_word, region_slots, guard_words, FitAll, IsStoreForm, IsLoadSrc, IsLoadForm, Serves}
use Rattle.code_laws.specs.Laws.{GuardsApart}
use Rattle.code_laws.specs.SecondWords.{SecondIs, HighIs}
use Rattle.code_laws.proofs.Standing.{same_instr}
use Rattle.code_laws.proofs.Begins.{stands_first, guard_begins, quiet_src}
use Rattle.code_laws.proofs.Lines.{on_later_line}
use Rattle.code_laws.proofs.Runs.{base_before, served_alone, also_guarded}

-- what a load guard reads isn't a register
not_load_src : (o : Object) (first : ℕ) (s : Src) → SrcRow s 2 0 → IsLoadSrc o first s → ⊥
not_load_src o first (src.Indirect n) row h = omega (arith, row.1)
not_load_src o first (src.AutoInc n) row h = omega (arith, row.1)
not_load_src o first (src.Reg n) row h = h
not_load_src o first (src.Indexed n x) row h = h
not_load_src o first (src.Symbolic x) row h = h
not_load_src o first (src.Absolute x) row h = h
not_load_src o first (src.Immediate x) row h = h
not_load_src o first (src.Const c) row h = h

not_loaded : (o : Object) (first at : ℕ) (i : Instr) → First i 0x4205 → IsLoadForm o first at i → ⊥
not_loaded o first at (instr.Two op w s (dst.Indexed n x)) f h = omega (arith, f.destination.1)
not_loaded o first at (instr.Two op w s (dst.Symbolic x)) f h = omega (arith, f.destination.1)
not_loaded o first at (instr.Two op w s (dst.Absolute x)) f h = omega (arith, f.destination.1)
not_loaded o first at (instr.Two op w s (dst.Reg n)) f (inl h) = not_load_src o first s f.source h.0
not_loaded o first at (instr.Two op w s (dst.Reg n)) f (inr h) = h.1
not_loaded o first at (instr.One op w s) f h = h
not_loaded o first at instr.Reti f h = h
not_loaded o first at (instr.Jump c k) f h = h

-- what a guard serves isn't the saving of the status
not_served : (o : Object) (first at : ℕ) (g : GuardKind) (i : Instr) → First i 0x4205 → Serves g o first at i → ⊥
not_served o first at guard.Store (instr.Two op w s (dst.Indexed n x)) f h = omega (arith, f.destination.1)
not_served o first at guard.Store (instr.Two op w s (dst.Reg n)) f h = h.1
not_served o first at guard.Store (instr.Two op w s (dst.Symbolic x)) f h = h.1
not_served o first at guard.Store (instr.Two op w s (dst.Absolute x)) f h = h.1
not_served o first at guard.Store (instr.One op w s) f h = omega (arith, f.form)
not_served o first at guard.Store instr.Reti f h = h
not_served o first at guard.Store (instr.Jump c k) f h = h
not_served o first at (guard.Wide r) (instr.Two op w s (dst.Indexed n x)) f h = omega (arith, f.destination.1)
not_served o first at (guard.Wide r) (instr.Two op w s (dst.Reg n)) f h = h.1
not_served o first at (guard.Wide r) (instr.Two op w s (dst.Symbolic x)) f h = h.1
not_served o first at (guard.Wide r) (instr.Two op w s (dst.Absolute x)) f h = h.1
not_served o first at (guard.Wide r) (instr.One op w s) f h = omega (arith, f.form)
not_served o first at (guard.Wide r) instr.Reti f h = h
not_served o first at (guard.Wide r) (instr.Jump c k) f h = h
not_served o first at guard.Load i f h = not_loaded o first at i f h
not_served o first at guard.Growth (instr.Two op w s d) f h = h
not_served o first at guard.Growth (instr.One op w s) f h = omega (arith, f.form)
not_served o first at guard.Growth instr.Reti f h = h
not_served o first at guard.Growth (instr.Jump c k) f h = h
not_served o first at guard.Pop (instr.Two op w s d) f h = quiet_src s f.source h.2
not_served o first at guard.Pop (instr.One op w s) f h = h
not_served o first at guard.Pop instr.Reti f h = h
not_served o first at guard.Pop (instr.Jump c k) f h = h
not_served o first at guard.Sp (instr.Two op w (src.Reg n) d) f h = omega (arith, f.source.0, h.2)
not_served o first at guard.Sp (instr.Two op w (src.Indexed n x) d) f h = h.2
not_served o first at guard.Sp (instr.Two op w (src.Symbolic x) d) f h = h.2
not_served o first at guard.Sp (instr.Two op w (src.Absolute x) d) f h = h.2
not_served o first at guard.Sp (instr.Two op w (src.Indirect n) d) f h = h.2
not_served o first at guard.Sp (instr.Two op w (src.AutoInc n) d) f h = h.2
not_served o first at guard.Sp (instr.Two op w (src.Immediate x) d) f h = h.2
not_served o first at guard.Sp (instr.Two op w (src.Const c) d) f h = h.2
not_served o first at guard.Sp (instr.One op w s) f h = h
not_served o first at guard.Sp instr.Reti f h = h
not_served o first at guard.Sp (instr.Jump c k) f h = h

-- no start behind a guard's first, up to an instruction that it serves, begins with a guard's first word
pub none_inside : (o : Object) (a x : ℕ) (g : GuardKind) (h : Guarded o a g) → Start o.code x → h.first < x → x ≤ a → slice_index o.code x ≡ 0x4205 → ⊥
none_inside o a x g h t less within saves =
    elim (cases_lt x h.base) [
      | inl before ↦
          let inside : h.first + length (guard_words g) < length o.code = omega (arith, h.ends, base_before o a g h, h.start.below) in
          let on = on_later_line o h.first g h.fit h.begins inside x t less (omega (arith, h.ends)) in
          on.later.other saves
      | inr behind ↦
          let also = also_guarded o a x g h t behind within in
          let j = also.guarded in
          let f : First j.instr (slice_index o.code x) = stands_first o.code x j.instr j.words j.stands in
          not_served o j.first x g j.instr (subst (λ (w : ℕ). First j.instr w) saves f) j.serves
    ]

-- ---- two guards

pub second_is : (o : Object) (at : ℕ) (g : GuardKind) → FitAll o at (guard_words g) → SecondIs g (slice_index o.code (at + 1))
second_is o at guard.Store f = f.1.0.1.0.0
second_is o at (guard.Wide r) f = f.1.0.1.0.0
second_is o at guard.Load f = f.1.0.1.0.0
second_is o at guard.Growth f = f.1.0.1.0
second_is o at guard.Pop f = f.1.0.1.0
second_is o at guard.Sp f = f.1.0.1.0

region_high : (o : Object) (at high : ℕ) → FitAll o at (region_slots high) → slice_index o.code (at + 8) ≡ high
region_high o at high (w0, (w1, (w2, (w3, (w4, (w5, (w6, (w7, (w8, rest))))))))) =
    let e : at + 1 + 1 + 1 + 1 + 1 + 1 + 1 + 1 ≡ at + 8 = omega arith in
    subst (λ (k : ℕ). slice_index o.code k ≡ high) e w8.1.0

pub high_is : (o : Object) (at : ℕ) (g : GuardKind) → FitAll o at (guard_words g) → HighIs g (slice_index o.code (at + 8))
high_is o at guard.Store f = region_high o at 0 f
high_is o at (guard.Wide r) f = region_high o at (high_word r) f
high_is o at guard.Load f = region_high o at 0 f
high_is o at guard.Growth f = tt
high_is o at guard.Pop f = tt
high_is o at guard.Sp f = tt

-- a store and a load guard have the same words
abbrev AreTwins : GuardKind → GuardKind → Type 0
AreTwins guard.Store guard.Load = Unit {0}
AreTwins guard.Load guard.Store = Unit {0}
AreTwins _ _ = ⊥

one_reach : (v : ℕ) (r q : Reach) → v ≡ high_word r → v ≡ high_word q → r ≡ q
one_reach v reach.Two reach.Two x y = refl
one_reach v reach.Two reach.Four x y = absurd (omega (arith, x, y))
one_reach v reach.Two reach.Six x y = absurd (omega (arith, x, y))
one_reach v reach.Four reach.Two x y = absurd (omega (arith, x, y))
one_reach v reach.Four reach.Four x y = refl
one_reach v reach.Four reach.Six x y = absurd (omega (arith, x, y))
one_reach v reach.Six reach.Two x y = absurd (omega (arith, x, y))
one_reach v reach.Six reach.Four x y = absurd (omega (arith, x, y))
one_reach v reach.Six reach.Six x y = refl

not_zero : (v : ℕ) (r : Reach) → v ≡ high_word r → v ≡ 0 → ⊥
not_zero v reach.Two x y = omega (arith, x, y)
not_zero v reach.Four x y = omega (arith, x, y)
not_zero v reach.Six x y = omega (arith, x, y)

-- the two words tell the kind, but for twins
one_kind : (w v : ℕ) (g k : GuardKind) → SecondIs g w → HighIs g v → SecondIs k w → HighIs k v → (g ≡ k) ⊎ AreTwins g k
one_kind w v guard.Store guard.Store x m y n = inl refl
one_kind w v guard.Store (guard.Wide q) x m y n = absurd (not_zero v q n m)
one_kind w v guard.Store guard.Load x m y n = inr tt
one_kind w v guard.Store guard.Growth x m y n = absurd (omega (arith, x, y))
one_kind w v guard.Store guard.Pop x m y n = absurd (omega (arith, x, y))
one_kind w v guard.Store guard.Sp x m y n = absurd (omega (arith, x, y))
one_kind w v (guard.Wide r) guard.Store x m y n = absurd (not_zero v r m n)
one_kind w v (guard.Wide r) (guard.Wide q) x m y n = inl (ap (λ (t : Reach). guard.Wide t) (one_reach v r q m n))
one_kind w v (guard.Wide r) guard.Load x m y n = absurd (not_zero v r m n)
one_kind w v (guard.Wide r) guard.Growth x m y n = absurd (omega (arith, x, y))
one_kind w v (guard.Wide r) guard.Pop x m y n = absurd (omega (arith, x, y))
one_kind w v (guard.Wide r) guard.Sp x m y n = absurd (omega (arith, x, y))
one_kind w v guard.Load guard.Store x m y n = inr tt
one_kind w v guard.Load (guard.Wide q) x m y n = absurd (not_zero v q n m)
one_kind w v guard.Load guard.Load x m y n = inl refl
one_kind w v guard.Load guard.Growth x m y n = absurd (omega (arith, x, y))
one_kind w v guard.Load guard.Pop x m y n = absurd (omega (arith, x, y))
one_kind w v guard.Load guard.Sp x m y n = absurd (omega (arith, x, y))
one_kind w v guard.Growth guard.Store x m y n = absurd (omega (arith, x, y))
one_kind w v guard.Growth (guard.Wide q) x m y n = absurd (omega (arith, x, y))
one_kind w v guard.Growth guard.Load x m y n = absurd (omega (arith, x, y))
one_kind w v guard.Growth guard.Growth x m y n = inl refl
one_kind w v guard.Growth guard.Pop x m y n = absurd (omega (arith, x, y))
one_kind w v guard.Growth guard.Sp x m y n = absurd (omega (arith, x, y))
one_kind w v guard.Pop guard.Store x m y n = absurd (omega (arith, x, y))
one_kind w v guard.Pop (guard.Wide q) x m y n = absurd (omega (arith, x, y))
one_kind w v guard.Pop guard.Load x m y n = absurd (omega (arith, x, y))
one_kind w v guard.Pop guard.Growth x m y n = absurd (omega (arith, x, y))
one_kind w v guard.Pop guard.Pop x m y n = inl refl
one_kind w v guard.Pop guard.Sp x m y n = absurd (omega (arith, x, y))
one_kind w v guard.Sp guard.Store x m y n = absurd (omega (arith, x, y))
one_kind w v guard.Sp (guard.Wide q) x m y n = absurd (omega (arith, x, y))
one_kind w v guard.Sp guard.Load x m y n = absurd (omega (arith, x, y))
one_kind w v guard.Sp guard.Growth x m y n = absurd (omega (arith, x, y))
one_kind w v guard.Sp guard.Pop x m y n = absurd (omega (arith, x, y))
one_kind w v guard.Sp guard.Sp x m y n = inl refl

writes_no_test : (op : Op2) → Writes op → Tests op → ⊥
writes_no_test op.Mov w t = t
writes_no_test op.Add w t = t
writes_no_test op.Addc w t = t
writes_no_test op.Subc w t = t
writes_no_test op.Sub w t = t
writes_no_test op.Cmp w t = w
writes_no_test op.Dadd w t = t
writes_no_test op.Bit w t = w
writes_no_test op.Bic w t = t
writes_no_test op.Bis w t = t
writes_no_test op.Xor w t = t
writes_no_test op.And w t = t

-- no instruction is both of a store guard and of a load guard
store_or_load : (o : Object) (first at : ℕ) (i : Instr) → IsStoreForm o at i → IsLoadForm o first at i → ⊥
store_or_load o first at (instr.Two op w s (dst.Indexed n x)) h (inl k) = k.1
store_or_load o first at (instr.Two op w s (dst.Indexed n x)) h (inr k) = writes_no_test op h.0 k.0
store_or_load o first at (instr.Two op w s (dst.Reg n)) h k = h.1
store_or_load o first at (instr.Two op w s (dst.Symbolic x)) h k = h.1
store_or_load o first at (instr.Two op w s (dst.Absolute x)) h k = h.1
store_or_load o first at (instr.One op w s) h k = k
store_or_load o first at instr.Reti h k = h
store_or_load o first at (instr.Jump c n) h k = h

twins_apart : (o : Object) (a b : ℕ) (h : Guarded o a guard.Store) (j : Guarded o b guard.Load) → h.first ≡ j.first → ⊥
twins_apart o a b h j same =
    let here : a ≡ h.base = served_alone o a guard.Store h refl in
    let there : b ≡ j.base = served_alone o b guard.Load j refl in
    let e : b ≡ a = omega (arith, here, there, h.ends, j.ends, same) in
    let st : Stands o.code a j.instr j.words = subst (λ (k : ℕ). Stands o.code k j.instr j.words) e j.stands in
    let one : j.instr ≡ h.instr = same_instr j.instr h.instr (drop a o.code) j.words h.words st h.stands in
    let load : IsLoadForm o j.first a j.instr = subst (λ (k : ℕ). IsLoadForm o j.first k j.instr) e j.serves in
    store_or_load o j.first a h.instr h.serves (subst (λ (i : Instr). IsLoadForm o j.first a i) one load)

no_twins : (o : Object) (a b : ℕ) (g k : GuardKind) (h : Guarded o a g) (j : Guarded o b k) → h.first ≡ j.first → AreTwins g k → ⊥
no_twins o a b guard.Store guard.Load h j same t = twins_apart o a b h j same
no_twins o a b guard.Load guard.Store h j same t = twins_apart o b a j h (sym same)
no_twins o a b guard.Store guard.Store h j same t = t
no_twins o a b guard.Store (guard.Wide q) h j same t = t
no_twins o a b guard.Store guard.Growth h j same t = t
no_twins o a b guard.Store guard.Pop h j same t = t
no_twins o a b guard.Store guard.Sp h j same t = t
no_twins o a b (guard.Wide r) guard.Store h j same t = t
no_twins o a b (guard.Wide r) (guard.Wide q) h j same t = t
no_twins o a b (guard.Wide r) guard.Load h j same t = t
no_twins o a b (guard.Wide r) guard.Growth h j same t = t
no_twins o a b (guard.Wide r) guard.Pop h j same t = t
no_twins o a b (guard.Wide r) guard.Sp h j same t = t
no_twins o a b guard.Load (guard.Wide q) h j same t = t
no_twins o a b guard.Load guard.Load h j same t = t
no_twins o a b guard.Load guard.Growth h j same t = t
no_twins o a b guard.Load guard.Pop h j same t = t
no_twins o a b guard.Load guard.Sp h j same t = t
no_twins o a b guard.Growth guard.Store h j same t = t
no_twins o a b guard.Growth (guard.Wide q) h j same t = t
no_twins o a b guard.Growth guard.Load h j same t = t
no_twins o a b guard.Growth guard.Growth h j same t = t
no_twins o a b guard.Growth guard.Pop h j same t = t
no_twins o a b guard.Growth guard.Sp h j same t = t
no_twins o a b guard.Pop guard.Store h j same t = t
no_twins o a b guard.Pop (guard.Wide q) h j same t = t
no_twins o a b guard.Pop guard.Load h j same t = t
no_twins o a b guard.Pop guard.Growth h j same t = t
no_twins o a b guard.Pop guard.Pop h j same t = t
no_twins o a b guard.Pop guard.Sp h j same t = t
no_twins o a b guard.Sp guard.Store h j same t = t
no_twins o a b guard.Sp (guard.Wide q) h j same t = t
no_twins o a b guard.Sp guard.Load h j same t = t
no_twins o a b guard.Sp guard.Growth h j same t = t
no_twins o a b guard.Sp guard.Pop h j same t = t
no_twins o a b guard.Sp guard.Sp h j same t = t

saves_at : (o : Object) (a : ℕ) (g : GuardKind) (h : Guarded o a g) → slice_index o.code h.first ≡ 0x4205
saves_at o a g h = guard_begins o h.first g h.fit

pub guards_apart : GuardsApart
guards_apart o a b p g k h j h_low h_high j_low j_high =
    elim (cases_order h.first j.first) [
      | inl same ↦
          let y : SecondIs k (slice_index o.code (h.first + 1)) = subst (λ (n : ℕ). SecondIs k (slice_index o.code (n + 1))) (sym same) (second_is o j.first k j.fit) in
          let z : HighIs k (slice_index o.code (h.first + 8)) = subst (λ (n : ℕ). HighIs k (slice_index o.code (n + 8))) (sym same) (high_is o j.first k j.fit) in
          elim (one_kind _ _ g k (second_is o h.first g h.fit) (high_is o h.first g h.fit) y z) [
            | inl kinds ↦ record { kind = kinds; first = same }
            | inr twins ↦ absurd (no_twins o a b g k h j same twins)
          ]
      | inr other ↦ elim other [
        | inl less ↦ absurd (none_inside o a j.first g h j.begins less (omega arith) (saves_at o b k j))
        | inr more ↦ absurd (none_inside o b h.first k j h.begins more (omega arith) (saves_at o a g h))
      ]
    ]

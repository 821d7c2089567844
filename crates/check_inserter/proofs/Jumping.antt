-- Jumps of one word, by the places of a layout.
use Rattle.std.proofs.Common.{◌≡◌, ℕ, ◌+◌, ◌-◌, ◌*◌, ◌≤◌, ◌<◌, nat_le, nat_lt, if◌then◌else◌, ◌&&◌, Bool, true, false, ℤ, pos, negsuc, ◌-ℤ◌, to_z, of_z, w16, SFits, None, Some, sym, subst, refl, ap, ◌∙◌, arith, rules}
use Rattle.std.proofs.lemmas.Bool.{and_parts, and_from, ltb-true, leb-true, lt-ltb, le-leb}
use Rattle.std.proofs.lemmas.Int.{ints, to_z-of_z}
use Rattle.msp_encode.specs.declared.instr.Cond.{Cond}
use Rattle.msp_encode.specs.declared.instr.Instr.{Instr}
use Rattle.msp_encode.specs.declared.instr.Instr.TheVariants as instr
use Rattle.msp_encode.specs.Spelling.{InstrFits}
use Rattle.code_model.specs.Fields.{Fields}
use Rattle.insert_model.specs.declared.line.Line.{Line}
use Rattle.insert_model.specs.Units.{target_offset}
use Rattle.insert_model.specs.Layout.{words_before, longest, span_between, is_near, is_near_in, is_short, sized, final_offset, final}
use Rattle.insert_model.specs.Laws.{ShortLaw}

-- ---- near places

same_bool : (a b : Bool) → (a ≡ true → b ≡ true) → (b ≡ true → a ≡ true) → a ≡ b
same_bool true b go back = sym (go refl)
same_bool false true go back = back refl
same_bool false false go back = refl

pub near_ahead : (p t : ℕ) → p < t → nat_le (t - p) 512 ≡ is_near p t
unfolding is_near
near_ahead p t h = same_bool _ _ go back
  where
    go : nat_le (t - p) 512 ≡ true → (nat_le t (p + 512) && nat_lt p (t + 512)) ≡ true
    go e = let n : t - p ≤ 512 = leb-true (t - p) 512 e in and_from _ _ (le-leb t (p + 512) (omega arith)) (lt-ltb p (t + 512) (omega arith))

    back : (nat_le t (p + 512) && nat_lt p (t + 512)) ≡ true → nat_le (t - p) 512 ≡ true
    back e = let n : t ≤ p + 512 = leb-true t (p + 512) (and_parts (nat_le t (p + 512)) (nat_lt p (t + 512)) e).0 in le-leb (t - p) 512 (omega arith)

pub near_back : (p t : ℕ) → t ≤ p → nat_lt (p - t) 512 ≡ is_near p t
unfolding is_near
near_back p t h = same_bool _ _ go back
  where
    go : nat_lt (p - t) 512 ≡ true → (nat_le t (p + 512) && nat_lt p (t + 512)) ≡ true
    go e = let n : p - t < 512 = ltb-true (p - t) 512 e in and_from _ _ (le-leb t (p + 512) (omega arith)) (lt-ltb p (t + 512) (omega arith))

    back : (nat_le t (p + 512) && nat_lt p (t + 512)) ≡ true → nat_lt (p - t) 512 ≡ true
    back e = let n : p < t + 512 = ltb-true p (t + 512) (and_parts (nat_le t (p + 512)) (nat_lt p (t + 512)) e).1 in lt-ltb (p - t) 512 (omega arith)

-- ---- spans

pub span_ahead : (p t : ℕ) → p < t → t ≤ p + 512 → to_z w16 (t - p - 1) ≡ span_between p t
unfolding span_between
span_ahead p t less near = let e : nat_lt p t ≡ true = lt-ltb p t less in rw e (let n : t - p - 1 < 512 = omega arith in omega (arith, ints))

pub span_back : (p t : ℕ) → t ≤ p → p < t + 512 → to_z w16 (of_z w16 (negsuc 0 -ℤ to_z w16 (p - t))) ≡ span_between p t
unfolding span_between
span_back p t more near = let e : nat_lt p t ≡ false = search rules in rw e (from (p - t) (omega arith))
  where
    from : (n : ℕ) → n < 512 → to_z w16 (of_z w16 (negsuc 0 -ℤ to_z w16 n)) ≡ negsuc n
    from n h =
        let a : to_z w16 n ≡ pos n = omega (arith, ints) in
        let b : (negsuc 0 -ℤ pos n) ≡ negsuc n = omega (arith, ints) in
        let f : SFits w16 (negsuc n) = search (arith, ints) in
        ap (λ (z : ℤ). to_z w16 (of_z w16 (negsuc 0 -ℤ z))) a ∙ ap (λ (z : ℤ). to_z w16 (of_z w16 z)) b ∙ to_z-of_z w16 (negsuc n) f

-- ---- short jumps

pub aim_is : (at x : ℕ) (k : ℤ) → SFits w16 k → x ≡ target_offset at (to_z w16 (of_z w16 k)) → x ≡ target_offset at k
aim_is at x k f e = e ∙ ap (target_offset at) (to_z-of_z w16 k f)

pub near_jump : (f : Fields) (l : Line) (c : Cond) (k : ℤ) (p t x : ℕ) (b : Bool) → l.instr ≡ instr.Jump c k → x ≡ target_offset l.at k → p ≡ words_before longest f (2 * l.at) → t ≡ words_before longest f x → b ≡ is_near p t
    → b ≡ is_near_in longest f l l.instr
near_jump f l c k p t x b e ex ep et eb =
    eb ∙ (λ j. is_near (ep j) ((et ∙ ap (words_before longest f) ex) j)) ∙ ap (is_near_in longest f l) (sym e)

short_is : (f : Fields) (l : Line) (b : Bool) → 2 ≤ f.version → b ≡ is_near_in longest f l l.instr → is_short f l ≡ b
unfolding is_short
short_is f l b v e = let h : nat_le 2 f.version ≡ true = le-leb 2 f.version v in rw h (sym e)

pub sized_short : (f : Fields) (l : Line) (b : Bool) → 2 ≤ f.version → b ≡ is_near_in longest f l l.instr → b ≡ true → Some (pos 0) ≡ sized f l
unfolding sized
sized_short f l b v e is = ap (λ (s : Bool). if s then Some (pos 0) else None) (sym (short_is f l b v e ∙ is))

pub sized_long : (f : Fields) (l : Line) (b : Bool) → 2 ≤ f.version → b ≡ is_near_in longest f l l.instr → b ≡ false → None ≡ sized f l
unfolding sized
sized_long f l b v e is = ap (λ (s : Bool). if s then Some (pos 0) else None) (sym (short_is f l b v e ∙ is))

by_sized : (b : Bool) (k : ℤ) → Some k ≡ (if b then Some (pos 0) else None) → b ≡ true
by_sized true k e = refl
by_sized false k e = absurd (cc)

by_long : (b : Bool) → None ≡ (if b then Some (pos 0) else None) → b ≡ false
by_long true e = absurd (cc)
by_long false e = refl

pub short_by : (f : Fields) (l : Line) (k : ℤ) → Some k ≡ sized f l → is_short f l ≡ true
unfolding sized
short_by f l k e = by_sized (is_short f l) k e

pub final_none : (f : Fields) (l : Line) → None ≡ sized f l → None ≡ final f l
unfolding sized final
final_none f l e = ap (λ (s : Bool). if s then Some (final_offset f l l.instr) else None) (sym (by_long (is_short f l) e))

pub final_some : (f : Fields) (l : Line) (k z : ℤ) → Some k ≡ sized f l → z ≡ final_offset f l l.instr → Some z ≡ final f l
unfolding final
final_some f l k z e ez = ap (λ (x : ℤ). Some x) ez ∙ ap (λ (s : Bool). if s then Some (final_offset f l l.instr) else None) (sym (short_by f l k e))

-- ---- offsets in the final layout

-- a span that can be spelled is near
pub record IsNear (p t : ℕ) : Type 0 where
  pub ahead : t ≤ p + 512
  pub back : p < t + 512

near_by : (p t : ℕ) (c : Cond) → InstrFits (instr.Jump c (span_between p t)) → IsNear p t
unfolding span_between
near_by p t c h = by (nat_lt p t) refl h
  where
    by : (b : Bool) → nat_lt p t ≡ b → InstrFits (instr.Jump c (if b then pos (t - p - 1) else negsuc (p - t))) → IsNear p t
    by true e g = let less : p < t = ltb-true p t e in record { ahead = omega (arith, ints, g.1); back = omega (arith) }
    by false e g = let more : t ≤ p = search rules in record { ahead = omega arith; back = omega (arith, ints, g.0) }

pub jump_near : (f : Fields) (l : Line) (c : Cond) (k : ℤ) (p t x : ℕ) → ShortLaw → l.instr ≡ instr.Jump c k → is_short f l ≡ true → x ≡ target_offset l.at k → p ≡ words_before (sized f) f (2 * l.at) → t ≡ words_before (sized f) f x → IsNear p t
jump_near f l c k p t x law e s ex ep et =
    let et' : t ≡ words_before (sized f) f (target_offset l.at k) = et ∙ ap (words_before (sized f) f) ex in
    let fits : InstrFits (instr.Jump c (final_offset f l (instr.Jump c k))) = subst (λ (i : Instr). InstrFits (instr.Jump c (final_offset f l i))) e (law f l c k e s) in
    near_by p t c (subst (λ (n : ℕ). InstrFits (instr.Jump c (span_between n t))) (sym ep) (subst (λ (n : ℕ). InstrFits (instr.Jump c (span_between (words_before (sized f) f (2 * l.at)) n))) (sym et') fits))

pub offset_is : (f : Fields) (l : Line) (c : Cond) (k : ℤ) (p t x : ℕ) (z : ℤ) → l.instr ≡ instr.Jump c k → x ≡ target_offset l.at k → p ≡ words_before (sized f) f (2 * l.at) → t ≡ words_before (sized f) f x → z ≡ span_between p t
    → z ≡ final_offset f l l.instr
offset_is f l c k p t x z e ex ep et ez =
    ez ∙ (λ j. span_between (ep j) ((et ∙ ap (words_before (sized f) f) ex) j)) ∙ ap (final_offset f l) (sym e)

-- Units of jumps.
use Rattle.std.proofs.Common.{◌≡◌, ℕ, ◌+◌, ◌-◌, ◌*◌, ◌<◌, nat_lt, Bool, true, false, List, [], ◌∷◌, set, ℤ, pos, negsuc, None, Some, refl, sym, ap, ◌∙◌, subst, inl, inr, arith}
use Rattle.std.specs.Prelude.{if◌then◌else◌}
use Rattle.std.proofs.lemmas.Bool.{ltb-true, ltb-false}
use Rattle.std.proofs.lemmas.Int.{ints}
use Rattle.std.proofs.lemmas.List.{set-get_or}
use Rattle.msp_encode.specs.declared.instr.Cond.{Cond}
use Rattle.msp_encode.specs.declared.instr.Cond.TheVariants as cond
use Rattle.msp_encode.specs.declared.instr.Instr.{Instr}
use Rattle.msp_encode.specs.declared.instr.Instr.TheVariants as instr
use Rattle.machine_model.specs.Context.{reg, set_reg}
use Rattle.machine_model.specs.Does.{Effect, holds, target}
use Rattle.msp_encode.specs.Spelling.{InstrFits}
use Rattle.code_model.specs.declared.object.Object.{Object}
use Rattle.code_model.specs.declared.parts.RelKind.TheVariants.{Code}
use Rattle.code_model.specs.Fields.{fields}
use Rattle.load_model.specs.Domains.{Domain}
use Rattle.insert_model.specs.declared.line.Line.{Line}
use Rattle.insert_model.specs.Words.{piece_words}
use Rattle.insert_model.specs.Guards as guard_piece
use Rattle.insert_model.specs.Units.{target_offset, jump_unit}
use Rattle.insert_model.specs.Layout.{words_before, span_between, is_short, sized, final_offset, place_map}
use Rattle.insert_model.specs.Faults.{IsStartOffset, IsJumpStart, JumpMisses}
use Rattle.insert_laws.specs.Shapes.{IsCleanLine}
use Rattle.unit_laws.specs.Running.{silent, RunsUnit}
use Rattle.unit_laws.specs.Frame.{spread_effect}
use Rattle.machine_model.specs.Fetching.{IsFetched}
use Rattle.unit_laws.specs.Rows.{branch, Follows}
use Rattle.placed_unit_laws.specs.Placed.{unit_address, unit_at, unit_behind, word_in_place, source_does, instr_does}
use Rattle.placed_unit_laws.specs.Checks.{Unchecked}
use Rattle.placed_unit_laws.specs.Ends.{Names, Lands, EndsWell}
use Rattle.placed_unit_laws.specs.Given.{RowLaws}
use Rattle.placed_unit_laws.proofs.Here.{IsHere, LineStands}
use Rattle.placed_unit_laws.proofs.Pieces.{Stands, head, end}
use Rattle.placed_unit_laws.proofs.Targets.{jump-start, jump-offset, jump-goes}
use Rattle.placed_unit_laws.proofs.Results.{Result, at-first, behind-even, code-word}
use Rattle.placed_unit_laws.proofs.Landing.{IsGoal, start-goal}

-- an effect is itself with its own R4 and R5
same-effect : (e : Effect) → spread_effect e (reg e.context 4) (reg e.context 5) ≡ e
same-effect e = ap (λ (c : List ℕ). record { context = c; written = e.written }) (ap (λ (q : List ℕ). set q 5 (reg e.context 5)) (set-get_or e.context 4 0) ∙ set-get_or e.context 5 0)

own-effect : (m r : List ℕ) (first past : ℕ) (e : Effect) → RunsUnit m first past r e → Follows m r first past e
own-effect m r first past e h = record { x = reg e.context 4; y = reg e.context 5; runs = subst (RunsUnit m first past r) (sym (same-effect e)) h }

module _ (g : RowLaws) (o : Object) (d : Domain) (low top : ℕ) (m r : List ℕ) (l : Line) (a : IsHere o d low top m r l) (st : LineStands o d m l) (c : Cond) (k : ℤ) (clean : IsCleanLine o l) (line : l.instr ≡ instr.Jump c k) where
  abbrev first : ℕ
  first = unit_at o d l

  abbrev past : ℕ
  past = unit_behind o d l

  -- the offset that the unit's branch names, and the one that the machine takes
  abbrev y : ℕ
  y = target_offset l.at k

  abbrev x : ℕ
  x = target (2 * l.at) k

  abbrev there : ℕ
  there = unit_address o d x

  found : IsJumpStart o.code l.at k
  found = jump-start o.code (g.decided o d.object a.inserted) l.at k (λ never. clean.lands (inl (subst (JumpMisses o.code l.at) (sym line) never)))

  -- both are the start's
  is-named : IsStartOffset o.code y
  unfolding IsJumpStart IsStartOffset
  is-named = (found.0, found.1, jump-offset l.at k found.0 found.2)

  goes-there : x ≡ y
  unfolding IsJumpStart
  goes-there = let fits = subst InstrFits line clean.fits in jump-goes l.at k found.0 (omega (arith, found.1.below, o.form.code_most)) fits.0 found.2

  is-start : IsStartOffset o.code x
  is-start = subst (IsStartOffset o.code) (sym goes-there) is-named

  named : Names l.at l.instr x
  named = subst (λ (i : Instr). Names l.at i x) (sym line) refl

  goal : IsGoal o d l there
  goal = start-goal g o d low top m r l a st x named is-start

  word : word_in_place o d y (Some Code) ≡ there
  word = code-word g o d low top m r l a st y (Some Code) refl ∙ ap (unit_address o d) (sym goes-there)

  does : source_does o d m r l ≡ silent (set_reg r 0 (if holds c (reg r 2) then there else past))
  unfolding source_does
  does = ap (instr_does o d m r l) line

  leads : (b : Bool) → holds c (reg r 2) ≡ b → Lands o d l (reg (set_reg r 0 (if b then there else past)) 0)
  leads true e = subst (Lands o d l) (sym ((g.pc_moves r there a.at.context goal.small).there ∙ omega (arith, goal.even))) goal.lands
  leads false e = inl ((g.pc_moves r past a.at.context (omega (arith, st.below))).there ∙ omega (arith, behind-even g o d low top m r l a st))

  ends : RunsUnit m first past r (silent (set_reg r 0 (if holds c (reg r 2) then there else past))) → EndsWell o d m r l
  ends h = record {
    follows = subst (Follows m r first past) (sym does) (own-effect m r first past (silent (set_reg r 0 (if holds c (reg r 2) then there else past))) h);
    lands = subst (λ (e : Effect). Lands o d l (reg e.context 0)) (sym does) (leads (holds c (reg r 2)) refl);
  }

  below : past < 65536
  below = omega (arith, st.below)

  over : Stands o d m first past (guard_piece.jump c (pos 1) ∷ guard_piece.jump cond.Always (pos 2) ∷ guard_piece.branch y (Some Code) ∷ []) → EndsWell o d m r l
  unfolding piece_words
  over h =
      let f1 = head g.spelling o d m first past (guard_piece.jump c (pos 1)) (guard_piece.jump cond.Always (pos 2) ∷ guard_piece.branch y (Some Code) ∷ []) h (omega (arith, ints), omega (arith, ints)) below in
      let f2 = head g.spelling o d m (first + 2) past (guard_piece.jump cond.Always (pos 2)) (guard_piece.branch y (Some Code) ∷ []) (subst (λ (n : ℕ). Stands o d m n past (guard_piece.jump cond.Always (pos 2) ∷ guard_piece.branch y (Some Code) ∷ [])) (omega arith) f1.1) (omega (arith, ints), omega (arith, ints)) below in
      let f3 = head g.spelling o d m (first + 4) past (guard_piece.branch y (Some Code)) [] (subst (λ (n : ℕ). Stands o d m n past (guard_piece.branch y (Some Code) ∷ [])) (omega arith) f2.1) (tt, omega arith) below in
      let z = end o d m (first + 8) past (subst (λ (n : ℕ). Stands o d m n past []) (omega arith) f3.1) in
      ends (g.jump m r first past there c (at-first g o d low top m r l a st) f1.0 f2.0 (subst (λ (v : ℕ). IsFetched m (first + 4) (branch v) 2) word f3.0) z goal.even goal.small goal.outside)

  alone : c ≡ cond.Always → Stands o d m first past (guard_piece.branch y (Some Code) ∷ []) → EndsWell o d m r l
  unfolding piece_words
  alone e h =
      let f = head g.spelling o d m first past (guard_piece.branch y (Some Code)) [] h (tt, omega arith) below in
      let z = end o d m (first + 4) past (subst (λ (n : ℕ). Stands o d m n past []) (omega arith) f.1) in
      let run = g.branch m r first past there (at-first g o d low top m r l a st) (subst (λ (v : ℕ). IsFetched m first (branch v) 2) word f.0) z goal.even goal.small goal.outside in
      ends (subst (λ (q : Cond). RunsUnit m first past r (silent (set_reg r 0 (if holds q (reg r 2) then there else past)))) (sym e) run)

  -- a jump of one word
  spanned : (at p q b : ℕ) → at ≡ b + 2 * p → b + 2 * q < 65536 → at < 65536 → target at (span_between p q) ≡ b + 2 * q
  unfolding span_between
  spanned at p q b e small low' = by (nat_lt p q) refl
    where
      by : (c : Bool) → nat_lt p q ≡ c → target at (if c then pos (q - p - 1) else negsuc (p - q)) ≡ b + 2 * q
      by true t = omega (arith, ltb-true p q t, e, small)
      by false t = omega (arith, ltb-false p q t, e, small, low')

  goes-over : target first (final_offset (fields o) l l.instr) ≡ there
  unfolding unit_address place_map
  goes-over =
      let wb = words_before (sized (fields o)) (fields o) in
      let small = goal.small in
      ap (λ (i : Instr). target first (final_offset (fields o) l i)) line
      ∙ spanned first (wb (2 * l.at)) (wb y) d.code_lo refl (subst (λ (z : ℕ). d.code_lo + 2 * wb z < 65536) goes-there small) (omega (arith, st.behind, st.below))
      ∙ ap (λ (z : ℕ). d.code_lo + 2 * wb z) (sym goes-there)

  pub short-row : is_short (fields o) l ≡ true → Stands o d m first past (guard_piece.jump c (final_offset (fields o) l l.instr) ∷ []) → EndsWell o d m r l
  unfolding piece_words
  short-row s h =
      let f = head g.spelling o d m first past (guard_piece.jump c (final_offset (fields o) l l.instr)) [] h (g.short_fits (fields o) l c k line s) below in
      let z = end o d m (first + 2) past (subst (λ (n : ℕ). Stands o d m n past []) (omega arith) f.1) in
      let run = g.short_jump m r first past c (final_offset (fields o) l l.instr) (at-first g o d low top m r l a st) f.0 z in
      ends (subst (λ (v : ℕ). RunsUnit m first past r (silent (set_reg r 0 (if holds c (reg r 2) then v else past)))) goes-over run)

  pub jump-row : Stands o d m first past (jump_unit y c) → Result o d low top m r l Unchecked r None
  jump-row h = inr ((λ q. q), by c refl h)
    where
      by : (q : Cond) → c ≡ q → Stands o d m first past (jump_unit y q) → EndsWell o d m r l
      by cond.Ne e k = over (subst (λ (z : Cond). Stands o d m first past (guard_piece.jump z (pos 1) ∷ guard_piece.jump cond.Always (pos 2) ∷ guard_piece.branch y (Some Code) ∷ [])) (sym e) k)
      by cond.Eq e k = over (subst (λ (z : Cond). Stands o d m first past (guard_piece.jump z (pos 1) ∷ guard_piece.jump cond.Always (pos 2) ∷ guard_piece.branch y (Some Code) ∷ [])) (sym e) k)
      by cond.Nc e k = over (subst (λ (z : Cond). Stands o d m first past (guard_piece.jump z (pos 1) ∷ guard_piece.jump cond.Always (pos 2) ∷ guard_piece.branch y (Some Code) ∷ [])) (sym e) k)
      by cond.C e k = over (subst (λ (z : Cond). Stands o d m first past (guard_piece.jump z (pos 1) ∷ guard_piece.jump cond.Always (pos 2) ∷ guard_piece.branch y (Some Code) ∷ [])) (sym e) k)
      by cond.N e k = over (subst (λ (z : Cond). Stands o d m first past (guard_piece.jump z (pos 1) ∷ guard_piece.jump cond.Always (pos 2) ∷ guard_piece.branch y (Some Code) ∷ [])) (sym e) k)
      by cond.Ge e k = over (subst (λ (z : Cond). Stands o d m first past (guard_piece.jump z (pos 1) ∷ guard_piece.jump cond.Always (pos 2) ∷ guard_piece.branch y (Some Code) ∷ [])) (sym e) k)
      by cond.L e k = over (subst (λ (z : Cond). Stands o d m first past (guard_piece.jump z (pos 1) ∷ guard_piece.jump cond.Always (pos 2) ∷ guard_piece.branch y (Some Code) ∷ [])) (sym e) k)
      by cond.Always e k = alone e k

-- Units of PUSH, of CALL, and of RRC, RRA, SWPB and SXT, by their operand.
use Rattle.std.proofs.Common.{◌≡◌, ℕ, ◌<◌, ◌≤◌, ◌⊎◌, Bool, true, false, List, [], ◌∷◌, ◌++◌, None, refl, sym, ap, ◌∙◌, subst, inl, inr, arith}
use Rattle.std.specs.Prelude.{if◌then◌else◌}
use Rattle.msp_encode.specs.declared.instr.Op1.{Op1}
use Rattle.msp_encode.specs.declared.instr.Op1.TheVariants.{Rrc, Swpb, Rra, Sxt, Push, Call}
use Rattle.msp_encode.specs.declared.instr.Width.{Width}
use Rattle.msp_encode.specs.declared.instr.Width.TheVariants.{Wide, Byte}
use Rattle.msp_encode.specs.declared.instr.Src.{Src}
use Rattle.msp_encode.specs.declared.instr.Src.TheVariants as src
use Rattle.msp_encode.specs.declared.instr.Instr.{Instr}
use Rattle.msp_encode.specs.declared.instr.Instr.TheVariants as instr
use Rattle.msp_encode.specs.Spelling.{TakesWidth}
use Rattle.msp_encode.specs.Forms.{changes}
use Rattle.machine_model.specs.Context.{reg}
use Rattle.machine_model.specs.Operands.{after_source}
use Rattle.machine_model.specs.Does.{Effect}
use Rattle.code_model.specs.declared.object.Object.{Object}
use Rattle.load_model.specs.Domains.{Domain}
use Rattle.insert_model.specs.declared.aim.Aim.TheVariants.{ToMemory, Elsewhere}
use Rattle.insert_model.specs.declared.line.Line.{Line}
use Rattle.insert_model.specs.Source.{own_piece, own}
use Rattle.insert_model.specs.Guards as guard_piece
use Rattle.insert_model.specs.Units.{is_static, aim_one, changing, calling, one_unit}
use Rattle.insert_model.specs.Faults.{UsesCheck, IsSourceCallee, TransferMisses}
use Rattle.unit_laws.specs.Rows.{GoesOn, ended, Follows}
use Rattle.placed_unit_laws.specs.Placed.{unit_at, unit_behind, word_in_place}
use Rattle.placed_unit_laws.specs.Checks.{OfGrowth, handed, check_of_operand, check_of_one}
use Rattle.placed_unit_laws.specs.Ends.{Names, Lands}
use Rattle.placed_unit_laws.specs.Given.{RowLaws}
use Rattle.placed_unit_laws.proofs.Here.{IsHere, LineStands}
use Rattle.placed_unit_laws.proofs.Pieces.{Stands}
use Rattle.placed_unit_laws.proofs.Clean.{IsOneLine, one-fits}
use Rattle.placed_unit_laws.proofs.Targets.{call-target}
use Rattle.placed_unit_laws.proofs.Results.{Result, Row, leads-behind, goes-behind}
use Rattle.placed_unit_laws.proofs.Landing.{IsGoal, start-word, entry-word, call-leads}
use Rattle.placed_unit_laws.proofs.WritingRows.{indexed}
use Rattle.placed_unit_laws.proofs.OneUnits.{here, size, source-is, free-source, few, row-own, change-row, growth-row, callee-row}

module _ (g : RowLaws) (o : Object) (d : Domain) (low top : ℕ) (m r : List ℕ) (l : Line) (a : IsHere o d low top m r l) (st : LineStands o d m l) (w : Width) where
  abbrev first : ℕ
  first = unit_at o d l

  abbrev past : ℕ
  past = unit_behind o d l

  push-row : (s : Src) → IsOneLine o l Push w s → Stands o d m first past (guard_piece.growth_guard ++ own l ∷ []) → Result o d low top m r l OfGrowth r None
  push-row s is h =
      let source = here g o d low top m r l a st Push w s is in
      let n = size g o d low top m r l a st Push w s is in
      let goes : GoesOn source = free-source g o d low top m r l a st Push w s is in
      let tiny : n ≤ 3 = omega (arith, few g o d low top m r l a st Push w s is) in
      growth-row g o d low top m r l a st Push w s is
      (λ z f e. goes-behind g o d low top m r l a st source n (source-is g o d low top m r l a st Push w s is) goes tiny (subst (Follows m r first past) e f))
      (λ i. omega (arith, i.1, leads-behind g o d low top m r l a st source n goes tiny)) h

  -- ---- a call of a place

  module _ (x : ℕ) (is : IsOneLine o l Call w (src.Immediate x)) where
    kind-is : (own l).source ≡ l.second
    kind-is = ap (λ (i : Instr). (own_piece i l.second l.third).source) is.line

    target : IsSourceCallee o x l.second
    target = call-target o (g.decided o d.object a.inserted) x l.second (λ never. is.clean.lands (inr (inl (subst (TransferMisses o l) (sym is.line) (tt, never)))))

    abbrev v : ℕ
    v = word_in_place o d x (own l).source

    named : Names l.at l.instr x
    named = subst (λ (i : Instr). Names l.at i x) (sym is.line) refl

    goal : IsGoal o d l v
    goal = elim target [ inl s ↦ start-word g o d low top m r l a st x (own l).source named (kind-is ∙ s.0) s.1 | inr e ↦ entry-word g o d low top m r l a st x (own l).source named (kind-is ∙ e.0) (inr e.1) ]

    wide : w ≡ Wide
    wide = by w (one-fits o l Call w (src.Immediate x) is).1
      where
        by : (w : Width) → TakesWidth Call w → w ≡ Wide
        by Wide q = refl
        by Byte q = absurd q

    place-row : Stands o d m first past (guard_piece.growth_guard ++ own l ∷ []) → Result o d low top m r l OfGrowth r None
    place-row h =
        let source = here g o d low top m r l a st Call w (src.Immediate x) is in
        let does = source-is g o d low top m r l a st Call w (src.Immediate x) is in
        let there : reg (ended past m r source 2).context 0 ≡ v = ap (λ (y : Width). reg (ended past m r (instr.One Call y (src.Immediate v)) 2).context 0) wide ∙ call-leads g o d low top m r l a st v goal.small goal.even in
        growth-row g o d low top m r l a st Call w (src.Immediate x) is
        (λ z f e. record { follows = subst (Follows m r first past) (e ∙ sym does) f; lands = subst (Lands o d l) (sym (ap (λ (y : Effect). reg y.context 0) does ∙ there)) goal.lands })
        (λ i. goal.outside (subst (λ (p : ℕ). (first < p) × (p < past)) there i)) h

  call-row : (s : Src) → IsOneLine o l Call w s → Stands o d m first past (calling s (own l)) → Row o d low top m r l OfGrowth (instr.One Call w s) (handed (instr.One Call w s))
  unfolding after_source
  call-row (src.Immediate x) is h = place-row x is h
  call-row (src.Reg n) is h = callee-row g o d low top m r l a st Call w (src.Reg n) is refl h
  call-row (src.Indexed n x) is h = callee-row g o d low top m r l a st Call w (src.Indexed n x) is refl h
  call-row (src.Symbolic x) is h = callee-row g o d low top m r l a st Call w (src.Symbolic x) is refl h
  call-row (src.Absolute x) is h = callee-row g o d low top m r l a st Call w (src.Absolute x) is refl h
  call-row (src.Indirect n) is h = callee-row g o d low top m r l a st Call w (src.Indirect n) is refl h
  call-row (src.AutoInc n) is h = callee-row g o d low top m r l a st Call w (src.AutoInc n) is refl h
  call-row (src.Const c) is h = callee-row g o d low top m r l a st Call w (src.Const c) is refl h

  -- ---- operations that change their operand

  changing-row : (bytes : ℕ) (op : Op1) (s : Src) → changes op ≡ true → IsOneLine o l op w s → Stands o d m first past (changing op w (own l) (aim_one bytes s (own l).source))
      → Row o d low top m r l (check_of_operand (aim_one bytes s (own l).source)) (instr.One op w s) None
  changing-row bytes op (src.Reg n) e is h = inr ((λ q. q), row-own g o d low top m r l a st op w (src.Reg n) is e h)
  changing-row bytes op (src.Indexed n x) e is h =
      let fits = (one-fits o l op w (src.Indexed n x) is).0 in
      let check = λ (q : (n ≡ 4) ⊎ (n ≡ 5)). is.clean.free (subst UsesCheck (sym is.line) q) in
      change-row g o d low top m r l a st op w (src.Indexed n x) is n x (own l).source e (indexed n fits.0 fits.1 (λ f. check (inl f)) (λ f. check (inr f))) (refl, refl) h
  changing-row bytes op (src.Symbolic x) e is h = inr ((λ q. q), row-own g o d low top m r l a st op w (src.Symbolic x) is e h)
  changing-row bytes op (src.Absolute x) e is h = by (is_static bytes x (own l).source) h
    where
      by : (b : Bool) → Stands o d m first past (changing op w (own l) (if b then Elsewhere else ToMemory 3 x (own l).source)) → Row o d low top m r l (check_of_operand (if b then Elsewhere else ToMemory 3 x (own l).source)) (instr.One op w (src.Absolute x)) None
      by true k = inr ((λ q. q), row-own g o d low top m r l a st op w (src.Absolute x) is e k)
      by false k = change-row g o d low top m r l a st op w (src.Absolute x) is 3 x (own l).source e (inr (inl refl)) (refl, refl) k
  changing-row bytes op (src.Indirect n) e is h =
      let fits = (one-fits o l op w (src.Indirect n) is).0 in
      let check = λ (q : (n ≡ 4) ⊎ (n ≡ 5)). is.clean.free (subst UsesCheck (sym is.line) q) in
      change-row g o d low top m r l a st op w (src.Indirect n) is n 0 None e (indexed n fits.0 fits.1 (λ f. check (inl f)) (λ f. check (inr f))) (refl, refl) h
  changing-row bytes op (src.AutoInc n) e is h = inr ((λ q. q), row-own g o d low top m r l a st op w (src.AutoInc n) is e h)
  changing-row bytes op (src.Immediate x) e is h = inr ((λ q. q), row-own g o d low top m r l a st op w (src.Immediate x) is e h)
  changing-row bytes op (src.Const c) e is h = inr ((λ q. q), row-own g o d low top m r l a st op w (src.Const c) is e h)

  pub one-row : (bytes : ℕ) (op : Op1) (s : Src) → IsOneLine o l op w s → Stands o d m first past (one_unit bytes op w s (own l)) → Row o d low top m r l (check_of_one bytes op s (own l)) (instr.One op w s) (handed (instr.One op w s))
  one-row bytes Rrc s is h = changing-row bytes Rrc s refl is h
  one-row bytes Swpb s is h = changing-row bytes Swpb s refl is h
  one-row bytes Rra s is h = changing-row bytes Rra s refl is h
  one-row bytes Sxt s is h = changing-row bytes Sxt s refl is h
  one-row bytes Push s is h = push-row s is h
  one-row bytes Call s is h = call-row s is h

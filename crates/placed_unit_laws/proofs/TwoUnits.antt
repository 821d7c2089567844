-- The unit of each operation of two operands.
use Rattle.std.proofs.Common.{◌≡◌, ◌≢◌, ℕ, ◌+◌, ◌*◌, ◌<◌, ◌⊎◌, nat_eq, Bool, true, false, not, ◌&&◌, List, [], ◌∷◌, None, Some, refl, sym, ap, ◌∙◌, subst, inl, inr, rules, eq-eqb}
use Rattle.std.specs.Prelude.{if◌then◌else◌}
use Rattle.msp_encode.specs.declared.instr.Op2.{Op2}
use Rattle.msp_encode.specs.declared.instr.Op2.TheVariants.{Mov, Add, Addc, Subc, Sub, Cmp, Dadd, Bit, Bic, Bis, Xor, And}
use Rattle.msp_encode.specs.declared.instr.Width.{Width}
use Rattle.msp_encode.specs.declared.instr.Src.{Src}
use Rattle.msp_encode.specs.declared.instr.Src.TheVariants as src
use Rattle.msp_encode.specs.declared.instr.Dst.{Dst}
use Rattle.msp_encode.specs.declared.instr.Dst.TheVariants as dst
use Rattle.msp_encode.specs.declared.instr.Instr.{Instr}
use Rattle.msp_encode.specs.declared.instr.Instr.TheVariants as instr
use Rattle.machine_model.specs.Context.{reg}
use Rattle.machine_model.specs.Does.{Effect}
use Rattle.code_model.specs.declared.object.Object.{Object}
use Rattle.load_model.specs.Domains.{Domain}
use Rattle.insert_model.specs.declared.aim.Aim.TheVariants.{ToPc, ToSp, ToMemory, Elsewhere}
use Rattle.insert_model.specs.declared.line.Line.{Line}
use Rattle.msp_encode.specs.Spelled.{count}
use Rattle.msp_encode.specs.Forms.{IsMov, IsWide, DstIs, Pops, writes, is_immediate}
use Rattle.insert_model.specs.Source.{own_piece, own}
use Rattle.insert_model.specs.Units.{is_static, aim, is_popped, is_pc, popping, writing, two_unit}
use Rattle.insert_model.specs.Faults.{IsSourceTarget, TransferMisses, UsesCheck}
use Rattle.unit_laws.specs.Rows.{ended, branch, Follows}
use Rattle.placed_unit_laws.specs.Placed.{unit_at, unit_behind, word_in_place, placed_dst, source_does}
use Rattle.placed_unit_laws.specs.Checks.{Unchecked, OfPop, handed, check_of_aim, check_of_two}
use Rattle.placed_unit_laws.specs.Ends.{Names, Lands, EndsWell}
use Rattle.placed_unit_laws.specs.Given.{RowLaws}
use Rattle.placed_unit_laws.proofs.Here.{IsHere, LineStands}
use Rattle.placed_unit_laws.proofs.Pieces.{Stands, end}
use Rattle.placed_unit_laws.proofs.Clean.{IsTwoLine, two-fits, two-target, reads-no-pc, stores-aright}
use Rattle.placed_unit_laws.proofs.Targets.{branch-target}
use Rattle.placed_unit_laws.proofs.Results.{Result, Row, at-first}
use Rattle.placed_unit_laws.proofs.Landing.{IsGoal, start-word, entry-word, branch-leads}
use Rattle.placed_unit_laws.proofs.TwoRows.{here, size, source-is, own-head, row-own}
use Rattle.placed_unit_laws.proofs.PoppingRows.{IsWideMove, pc-not, pc-so, pc-moves, popping-row}
use Rattle.placed_unit_laws.proofs.WritingRows.{writes-so, indexed, steps-base, steps-not-three, store-row, sp-row, computed-row}
use Rattle.kernel_model.specs.declared.entries.TheConstants.{GOES}

-- ---- a branch

module _ (g : RowLaws) (o : Object) (d : Domain) (low top : ℕ) (m r : List ℕ) (l : Line) (a : IsHere o d low top m r l) (st : LineStands o d m l) (op : Op2) (w : Width) (x : ℕ) (t : Dst) (is : IsTwoLine o l op w (src.Immediate x) t) (pc : t ≡ dst.Reg 0) where
  to-pc : DstIs t 0
  to-pc = subst (λ (y : Dst). DstIs y 0) (sym pc) refl

  move : IsWideMove op w
  move = pc-moves o l op w (src.Immediate x) t is to-pc

  kind-is : (own l).source ≡ l.second
  kind-is = ap (λ (i : Instr). (own_piece i l.second l.third).source) is.line

  target : IsSourceTarget o x l.second
  target = branch-target o (g.decided o d.object a.inserted) x l.second
      (λ never. is.clean.lands (inr (inl (subst (TransferMisses o l) (sym is.line) ((subst IsMov (sym move.move) tt, subst IsWide (sym move.wide) tt, to-pc), never)))))

  abbrev v : ℕ
  v = word_in_place o d x (own l).source

  named : Names l.at l.instr x
  named = subst (λ (i : Instr). Names l.at i x) (sym is.line) refl

  goal : IsGoal o d l v
  goal = elim target [ inl s ↦ start-word g o d low top m r l a st x (own l).source named (kind-is ∙ s.0) s.1 | inr e ↦ entry-word g o d low top m r l a st x (own l).source named (kind-is ∙ e.0) (inl e.1) ]

  branch-is : source_does o d m r l ≡ ended (unit_behind o d l) m r (branch v) 2
  branch-is = source-is g o d low top m r l a st op w (src.Immediate x) t is ∙ (λ j. ended (unit_behind o d l) m r (instr.Two (move.move j) (move.wide j) (src.Immediate v) (placed_dst o d (own l).destination (pc j))) (count (instr.Two (move.move j) (move.wide j) (src.Immediate x) (pc j))))

  pub branch-row : Stands o d m (unit_at o d l) (unit_behind o d l) (own l ∷ []) → EndsWell o d m r l
  branch-row h =
      let first = unit_at o d l in
      let past = unit_behind o d l in
      let source = here g o d low top m r l a st op w (src.Immediate x) t is in
      let n = size g o d low top m r l a st op w (src.Immediate x) t is in
      let f = own-head g o d low top m r l a st op w (src.Immediate x) t is first [] h in
      let does = source-is g o d low top m r l a st op w (src.Immediate x) t is in
      let leads : reg (source_does o d m r l).context 0 ≡ v = ap (λ (e : Effect). reg e.context 0) branch-is ∙ branch-leads g o d low top m r l a st v goal.small goal.even in
      let there : reg (ended past m r source n).context 0 ≡ v = ap (λ (e : Effect). reg e.context 0) (sym does) ∙ leads in
      record {
        follows = subst (Follows m r first past) (sym does) (g.own m r first past source n (at-first g o d low top m r l a st) f.0 (end o d m (first + 2 * n) past f.1) (λ i. goal.outside (subst (λ (p : ℕ). (first < p) × (p < past)) there i)));
        lands = subst (Lands o d l) (sym leads) goal.lands;
      }

-- ---- by the destination

module _ (g : RowLaws) (o : Object) (d : Domain) (low top : ℕ) (m r : List ℕ) (l : Line) (a : IsHere o d low top m r l) (st : LineStands o d m l) (op : Op2) (w : Width) where
  -- PC
  pc-row : (s : Src) (t : Dst) → IsTwoLine o l op w s t → t ≡ dst.Reg 0 → Stands o d m (unit_at o d l) (unit_behind o d l) (writing op w s (own l) ToPc) → Result o d low top m r l Unchecked r (if not (is_immediate s) then Some (GOES, s) else None)
  pc-row (src.Immediate x) t is e h = inr ((λ q. q), branch-row g o d low top m r l a st op w x t is e h)
  pc-row (src.Reg n) t is e h = computed-row g o d low top m r l a st op w (src.Reg n) t is e h
  pc-row (src.Indexed n x) t is e h = computed-row g o d low top m r l a st op w (src.Indexed n x) t is e h
  pc-row (src.Symbolic x) t is e h = computed-row g o d low top m r l a st op w (src.Symbolic x) t is e h
  pc-row (src.Absolute x) t is e h = computed-row g o d low top m r l a st op w (src.Absolute x) t is e h
  pc-row (src.Indirect n) t is e h = computed-row g o d low top m r l a st op w (src.Indirect n) t is e h
  pc-row (src.AutoInc n) t is e h = computed-row g o d low top m r l a st op w (src.AutoInc n) t is e h
  pc-row (src.Const c) t is e h = computed-row g o d low top m r l a st op w (src.Const c) t is e h

  eq-one : (n k : ℕ) → nat_eq n k ≡ true → n ≡ k
  eq-one n k e = search rules

  ne-one : (n k : ℕ) → nat_eq n k ≡ false → n ≢ k
  ne-one n k e f = let p : nat_eq n k ≡ true = eq-eqb n k f in let q : true ≡ false = sym p ∙ e in cc

  writing-row : (bytes : ℕ) (s : Src) (t : Dst) → IsTwoLine o l op w s t → (Pops s 1 → ⊥) → writes op ≡ true
      → Stands o d m (unit_at o d l) (unit_behind o d l) (writing op w s (own l) (aim bytes t (own l).destination))
      → Row o d low top m r l (check_of_aim op w s (own l).source (aim bytes t (own l).destination)) (instr.Two op w s t) (handed (instr.Two op w s t))
  writing-row bytes s (dst.Reg n) is pops wr h = by (nat_eq n 0) (nat_eq n 1) refl refl h
    where
      by : (b c : Bool) → nat_eq n 0 ≡ b → nat_eq n 1 ≡ c → Stands o d m (unit_at o d l) (unit_behind o d l) (writing op w s (own l) (if b then ToPc else (if c then ToSp else Elsewhere)))
          → Row o d low top m r l (check_of_aim op w s (own l).source (if b then ToPc else (if c then ToSp else Elsewhere))) (instr.Two op w s (dst.Reg n)) (if b && not (is_immediate s) then Some (GOES, s) else None)
      by true c e f h = pc-row s (dst.Reg n) is (ap (λ (k : ℕ). dst.Reg k) (eq-one n 0 e)) h
      by false true e f h = sp-row g o d low top m r l a st op w s (dst.Reg n) is (ap (λ (k : ℕ). dst.Reg k) (eq-one n 1 f)) wr pops h
      by false false e f h = inr ((λ q. q), row-own g o d low top m r l a st op w s (dst.Reg n) is (two-target o l op w s (dst.Reg n) is (ne-one n 0 e)) h)
  writing-row bytes s (dst.Indexed n x) is pops wr h =
      let fits = (two-fits o l op w s (dst.Indexed n x) is).1 in
      let check = λ (q : (n ≡ 4) ⊎ (n ≡ 5)). is.clean.free (subst UsesCheck (sym is.line) (inr q)) in
      store-row g o d low top m r l a st op w s (dst.Indexed n x) is n x (own l).destination (indexed n fits.0 fits.1 (λ e. check (inl e)) (λ e. check (inr e))) refl (refl, refl)
      (λ q. stores-aright o l op w s (dst.Indexed n x) is (writes-so op wr) (steps-base s n x q)) (two-target o l op w s (dst.Indexed n x) is (λ q. q)) h
  writing-row bytes s (dst.Symbolic x) is pops wr h = absurd (two-target o l op w s (dst.Symbolic x) is (λ q. q))
  writing-row bytes s (dst.Absolute x) is pops wr h = by (is_static bytes x (own l).destination) h
    where
      by : (b : Bool) → Stands o d m (unit_at o d l) (unit_behind o d l) (writing op w s (own l) (if b then Elsewhere else ToMemory 3 x (own l).destination))
          → Row o d low top m r l (check_of_aim op w s (own l).source (if b then Elsewhere else ToMemory 3 x (own l).destination)) (instr.Two op w s (dst.Absolute x)) None
      by true h = inr ((λ q. q), row-own g o d low top m r l a st op w s (dst.Absolute x) is tt h)
      by false h =
          store-row g o d low top m r l a st op w s (dst.Absolute x) is 3 x (own l).destination (inr (inl refl)) refl (refl, refl) (steps-not-three s (two-fits o l op w s (dst.Absolute x) is).0) tt h

  -- CMP and BIT
  reading-row : (s : Src) (t : Dst) → IsTwoLine o l op w s t → writes op ≡ false → Stands o d m (unit_at o d l) (unit_behind o d l) (own l ∷ []) → Result o d low top m r l Unchecked r (handed (instr.Two op w s t))
  reading-row s t is wr h = by (is_pc t) refl
    where
      not-move : (p : Op2) → writes p ≡ false → IsMov p → ⊥
      not-move Mov e q = let f : true ≡ false = e in absurd (cc)
      not-move Add e q = q
      not-move Addc e q = q
      not-move Subc e q = q
      not-move Sub e q = q
      not-move Cmp e q = q
      not-move Dadd e q = q
      not-move Bit e q = q
      not-move Bic e q = q
      not-move Bis e q = q
      not-move Xor e q = q
      not-move And e q = q

      by : (b : Bool) → is_pc t ≡ b → Result o d low top m r l Unchecked r (if b && not (is_immediate s) then Some (GOES, s) else None)
      by true e = absurd (reads-no-pc o l op w s t is (subst (λ (y : Dst). DstIs y 0) (sym (pc-so t e)) refl) (not-move op wr))
      by false e = inr ((λ q. q), row-own g o d low top m r l a st op w s t is (two-target o l op w s t is (pc-not t e)) h)

  -- ---- by the source

  popped-so : (s : Src) → is_popped s ≡ true → s ≡ src.AutoInc 1
  popped-so (src.AutoInc n) e = ap (λ (k : ℕ). src.AutoInc k) (eq-one n 1 e)
  popped-so (src.Reg n) e = let f : false ≡ true = e in absurd (cc)
  popped-so (src.Indexed n x) e = let f : false ≡ true = e in absurd (cc)
  popped-so (src.Symbolic x) e = let f : false ≡ true = e in absurd (cc)
  popped-so (src.Absolute x) e = let f : false ≡ true = e in absurd (cc)
  popped-so (src.Indirect n) e = let f : false ≡ true = e in absurd (cc)
  popped-so (src.Immediate x) e = let f : false ≡ true = e in absurd (cc)
  popped-so (src.Const c) e = let f : false ≡ true = e in absurd (cc)

  popped-not : (s : Src) → is_popped s ≡ false → Pops s 1 → ⊥
  popped-not (src.AutoInc n) e h = ne-one n 1 e h
  popped-not (src.Reg n) e h = h
  popped-not (src.Indexed n x) e h = h
  popped-not (src.Symbolic x) e h = h
  popped-not (src.Absolute x) e h = h
  popped-not (src.Indirect n) e h = h
  popped-not (src.Immediate x) e h = h
  popped-not (src.Const c) e h = h

  pub two-row : (bytes : ℕ) (s : Src) (t : Dst) → IsTwoLine o l op w s t → Stands o d m (unit_at o d l) (unit_behind o d l) (two_unit bytes op w s t (own l))
      → Row o d low top m r l (check_of_two bytes op w s t (own l)) (instr.Two op w s t) (handed (instr.Two op w s t))
  two-row bytes s t is h =
      by (is_popped s) (writes op) refl refl h
    where
      popped : s ≡ src.AutoInc 1 → Stands o d m (unit_at o d l) (unit_behind o d l) (popping op w t (own l)) → Result o d low top m r l OfPop r (handed (instr.Two op w s t))
      popped e = subst (λ (y : Src). IsTwoLine o l op w y t → Stands o d m (unit_at o d l) (unit_behind o d l) (popping op w t (own l)) → Result o d low top m r l OfPop r (handed (instr.Two op w y t))) (sym e)
          (λ i h. popping-row g o d low top m r l a st op w t i h) is

      by : (b c : Bool) → is_popped s ≡ b → writes op ≡ c
          → Stands o d m (unit_at o d l) (unit_behind o d l) (if b then popping op w t (own l) else (if c then writing op w s (own l) (aim bytes t (own l).destination) else own l ∷ []))
          → Row o d low top m r l (if b then OfPop else (if c then check_of_aim op w s (own l).source (aim bytes t (own l).destination) else Unchecked)) (instr.Two op w s t) (handed (instr.Two op w s t))
      by true c e f h = popped (popped-so s e) h
      by false true e f h = writing-row bytes s t is (popped-not s e) f h
      by false false e f h = reading-row s t is f h

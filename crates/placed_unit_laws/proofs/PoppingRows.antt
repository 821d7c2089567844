-- Units of operations whose source is @SP+.
use Rattle.std.proofs.Common.{◌≡◌, ◌≢◌, ℕ, ◌+◌, ◌*◌, nat_eq, Bool, true, false, ◌&&◌, List, [], ◌∷◌, ◌++◌, length, None, Some, refl, sym, ap, ◌∙◌, subst, arith, rules, eq-eqb}
use Rattle.std.specs.Prelude.{if◌then◌else◌}
use Rattle.msp_encode.specs.declared.instr.Op2.{Op2}
use Rattle.msp_encode.specs.declared.instr.Op2.TheVariants.{Mov, Add, Addc, Subc, Sub, Cmp, Dadd, Bit, Bic, Bis, Xor, And}
use Rattle.msp_encode.specs.declared.instr.Width.{Width}
use Rattle.msp_encode.specs.declared.instr.Width.TheVariants.{Wide, Byte}
use Rattle.msp_encode.specs.declared.instr.Src.{Src}
use Rattle.msp_encode.specs.declared.instr.Src.TheVariants as src
use Rattle.msp_encode.specs.declared.instr.Dst.{Dst}
use Rattle.msp_encode.specs.declared.instr.Dst.TheVariants as dst
use Rattle.msp_encode.specs.declared.instr.Instr.{Instr}
use Rattle.msp_encode.specs.declared.instr.Instr.TheVariants as instr
use Rattle.machine_model.specs.Memory.{word_at}
use Rattle.machine_model.specs.Context.{reg}
use Rattle.machine_model.specs.Operands.{source_value}
use Rattle.machine_model.specs.Does.{Effect}
use Rattle.machine_model.specs.Fetching.{IsFetched}
use Rattle.msp_encode.specs.Spelling.{InstrFits}
use Rattle.code_model.specs.declared.object.Object.{Object}
use Rattle.load_model.specs.Domains.{Domain}
use Rattle.insert_model.specs.declared.line.Line.{Line}
use Rattle.insert_model.specs.declared.piece.Piece.{Piece}
use Rattle.msp_encode.specs.Spelled.{count}
use Rattle.msp_encode.specs.Forms.{Writes, IsMov, DstIs}
use Rattle.insert_model.specs.Words.{piece_words}
use Rattle.insert_model.specs.Source.{own}
use Rattle.insert_model.specs.Guards as guard_piece
use Rattle.insert_model.specs.Units.{is_pc, is_wide_move, is_plain_pop, popping, from_r4}
use Rattle.unit_laws.specs.Guards.{WordsAt, pop_words}
use Rattle.unit_laws.specs.Rows.{GoesOn, DstFree, ended, pop_r4, Follows, Hands}
use Rattle.placed_unit_laws.specs.Placed.{unit_at, unit_behind, placed_dst, source_does}
use Rattle.placed_unit_laws.specs.Checks.{OfPop, handed}
use Rattle.placed_unit_laws.specs.Given.{RowLaws}
use Rattle.placed_unit_laws.proofs.Here.{IsHere, LineStands}
use Rattle.placed_unit_laws.proofs.Fetching.{count-place, dst-count}
use Rattle.placed_unit_laws.proofs.Pieces.{Stands, cut, head, end, pop-stands, pop-size}
use Rattle.placed_unit_laws.proofs.Clean.{IsTwoLine, dst-placed, src-avoids, dst-avoids, two-fits, two-target, reads-no-pc, moves-to-pc}
use Rattle.placed_unit_laws.proofs.Results.{Result, of-pop, at-first, leads-behind, goes-behind, checked}
use Rattle.placed_unit_laws.proofs.TwoRows.{here, size, source-is, free-source, below, own-head, few}
use Rattle.kernel_model.specs.declared.map.TheConstants.{STACK_TOP}
use Rattle.kernel_model.specs.declared.entries.TheConstants.{GOES}

-- ---- tests

ne-of : (a b : ℕ) → nat_eq a b ≡ false → a ≢ b
ne-of a b e f = let g : nat_eq a b ≡ true = eq-eqb a b f in let h : true ≡ false = sym g ∙ e in cc

eq-of : (a b : ℕ) → nat_eq a b ≡ true → a ≡ b
eq-of a b e = search rules

pub pc-so : (t : Dst) → is_pc t ≡ true → t ≡ dst.Reg 0
pc-so (dst.Reg n) e = ap (λ (k : ℕ). dst.Reg k) (eq-of n 0 e)
pc-so (dst.Indexed n x) e = let f : false ≡ true = e in absurd (cc)
pc-so (dst.Symbolic x) e = let f : false ≡ true = e in absurd (cc)
pc-so (dst.Absolute x) e = let f : false ≡ true = e in absurd (cc)

pub pc-not : (t : Dst) → is_pc t ≡ false → DstIs t 0 → ⊥
pc-not (dst.Reg n) e h = ne-of n 0 e h
pc-not (dst.Indexed n x) e h = h
pc-not (dst.Symbolic x) e h = h
pc-not (dst.Absolute x) e h = h

pub record IsWideMove (op : Op2) (w : Width) : Type 0 where
  pub move : op ≡ Mov
  pub wide : w ≡ Wide

pub wide-move-so : (op : Op2) (w : Width) → is_wide_move op w ≡ true → IsWideMove op w
wide-move-so Mov Wide e = record { move = refl; wide = refl }
wide-move-so Mov Byte e = let f : false ≡ true = e in absurd (cc)
wide-move-so Add w e = let f : false ≡ true = e in absurd (cc)
wide-move-so Addc w e = let f : false ≡ true = e in absurd (cc)
wide-move-so Subc w e = let f : false ≡ true = e in absurd (cc)
wide-move-so Sub w e = let f : false ≡ true = e in absurd (cc)
wide-move-so Cmp w e = let f : false ≡ true = e in absurd (cc)
wide-move-so Dadd w e = let f : false ≡ true = e in absurd (cc)
wide-move-so Bit w e = let f : false ≡ true = e in absurd (cc)
wide-move-so Bic w e = let f : false ≡ true = e in absurd (cc)
wide-move-so Bis w e = let f : false ≡ true = e in absurd (cc)
wide-move-so Xor w e = let f : false ≡ true = e in absurd (cc)
wide-move-so And w e = let f : false ≡ true = e in absurd (cc)

-- an operation that no operation but a MOV of a word has PC as destination
pub pc-moves : (o : Object) (l : Line) (op : Op2) (w : Width) (s : Src) (t : Dst) → IsTwoLine o l op w s t → DstIs t 0 → IsWideMove op w
pc-moves o l op w s t is h = by op refl
  where
    writes : Writes op → IsWideMove op w
    writes e = wide-move-so op w (moves-to-pc o l op w s t is e h)

    by : (p : Op2) → op ≡ p → IsWideMove op w
    by Mov e = writes (subst Writes (sym e) tt)
    by Add e = writes (subst Writes (sym e) tt)
    by Addc e = writes (subst Writes (sym e) tt)
    by Subc e = writes (subst Writes (sym e) tt)
    by Sub e = writes (subst Writes (sym e) tt)
    by Cmp e = absurd (reads-no-pc o l op w s t is h (λ m. subst IsMov e m))
    by Dadd e = writes (subst Writes (sym e) tt)
    by Bit e = absurd (reads-no-pc o l op w s t is h (λ m. subst IsMov e m))
    by Bic e = writes (subst Writes (sym e) tt)
    by Bis e = writes (subst Writes (sym e) tt)
    by Xor e = writes (subst Writes (sym e) tt)
    by And e = writes (subst Writes (sym e) tt)

-- ---- rows

module _ (g : RowLaws) (o : Object) (d : Domain) (low top : ℕ) (m r : List ℕ) (l : Line) (a : IsHere o d low top m r l) (st : LineStands o d m l) (op : Op2) (w : Width) (t : Dst) (is : IsTwoLine o l op w (src.AutoInc 1) t) where
  abbrev first : ℕ
  first = unit_at o d l

  abbrev past : ℕ
  past = unit_behind o d l

  abbrev dst_here : Dst
  dst_here = placed_dst o d (own l).destination t

  abbrev n_here : ℕ
  n_here = size g o d low top m r l a st op w (src.AutoInc 1) t is

  abbrev source : Instr
  source = here g o d low top m r l a st op w (src.AutoInc 1) t is

  does : source_does o d m r l ≡ ended past m r source n_here
  does = source-is g o d low top m r l a st op w (src.AutoInc 1) t is

  -- the guard's words, and what stands behind them
  guard-words : (ps : List Piece) → Stands o d m first past (guard_piece.pop_guard ++ ps) → WordsAt m first 0 pop_words × Stands o d m (first + 14) past ps
  guard-words ps h =
      let r = cut o d m first past guard_piece.pop_guard ps h in
      (subst (WordsAt m first 0) (pop-stands o d) r.0, subst (λ (k : ℕ). Stands o d m (first + 2 * k) past ps) pop-size r.1)

  -- a pop of a word into R6 to R15
  plain-row : DstFree t → Stands o d m first past (guard_piece.pop_guard ++ own l ∷ []) → Result o d low top m r l OfPop r None
  plain-row free h =
      let c = guard-words (own l ∷ []) h in
      let f = own-head g o d low top m r l a st op w (src.AutoInc 1) t is (first + 14) [] c.1 in
      let e = end o d m (first + 14 + 2 * n_here) past f.1 in
      let goes : GoesOn source = (free-source g o d low top m r l a st op w (src.AutoInc 1) t is, dst-placed o d (own l).destination t free) in
      let small = few g o d low top m r l a st op w (src.AutoInc 1) t is in
      let there = leads-behind g o d low top m r l a st source n_here goes small in
      let law = g.pop m r first past source n_here (at-first g o d low top m r l a st) c.0 f.0 (omega (arith, e)) (omega arith) (src-avoids (src.AutoInc 1) goes.0, dst-avoids dst_here goes.1)
      (λ i. omega (arith, i.1, there)) in
      checked g o d low top m r l a st OfPop r None (reg r 1 ≢ word_at m STACK_TOP) (reg r 1 ≡ word_at m STACK_TOP) (Follows m r first past (ended past m r source n_here)) law (of-pop (reg r 1) (word_at m STACK_TOP))
      (λ x. x ∙ a.at.last) (λ x. x ∙ sym a.at.last) (goes-behind g o d low top m r l a st source n_here does goes small)

  -- `MOV @SP+,R4` behind the guard
  pop-head : (ps : List Piece) → Stands o d m (first + 14) past (guard_piece.pop_r4 ∷ ps) → IsFetched m (first + 14) pop_r4 1 × Stands o d m (first + 16) past ps
  unfolding piece_words
  pop-head ps h =
      let r = head g.spelling o d m (first + 14) past guard_piece.pop_r4 ps h ((omega arith, ((λ e. omega (arith, e)), (λ e. omega (arith, e)), (λ e. omega (arith, e)))), omega arith) (below g o d low top m r l a st op w (src.AutoInc 1) t is) in
      (r.0, subst (λ (k : ℕ). Stands o d m k past ps) (omega arith) r.1)

  from-size : length (piece_words (from_r4 op w t (own l).destination)) ≡ n_here
  from-size = sym (count-place o d (from_r4 op w t (own l).destination)) ∙ ap (λ (k : ℕ). 1 + k) (dst-count o d (own l).destination t)

  -- an operation with the popped word by way of R4
  into-row : DstFree t → Stands o d m first past (guard_piece.pop_guard ++ guard_piece.pop_r4 ∷ from_r4 op w t (own l).destination ∷ []) → Result o d low top m r l OfPop r None
  into-row free h =
      let c = guard-words (guard_piece.pop_r4 ∷ from_r4 op w t (own l).destination ∷ []) h in
      let b = pop-head (from_r4 op w t (own l).destination ∷ []) c.1 in
      let fits : InstrFits (instr.Two op w (src.Reg 4) t) = ((omega arith, (λ e. omega (arith, e))), (two-fits o l op w (src.AutoInc 1) t is).1) in
      let f = head g.spelling o d m (first + 16) past (from_r4 op w t (own l).destination) [] b.1 fits (below g o d low top m r l a st op w (src.AutoInc 1) t is) in
      let e = end o d m (first + 16 + 2 * length (piece_words (from_r4 op w t (own l).destination))) past f.1 in
      let fetched = subst (IsFetched m (first + 16) (instr.Two op w (src.Reg 4) dst_here)) from-size f.0 in
      let goes : GoesOn source = (free-source g o d low top m r l a st op w (src.AutoInc 1) t is, dst-placed o d (own l).destination t free) in
      let small = few g o d low top m r l a st op w (src.AutoInc 1) t is in
      let law = g.pop_into m r first past op w dst_here n_here (at-first g o d low top m r l a st) c.0 b.0 fetched (omega (arith, e, from-size)) (omega arith) (dst-placed o d (own l).destination t free) in
      checked g o d low top m r l a st OfPop r None (reg r 1 ≢ word_at m STACK_TOP) (reg r 1 ≡ word_at m STACK_TOP) (Follows m r first past (ended past m r source n_here)) law (of-pop (reg r 1) (word_at m STACK_TOP))
      (λ x. x ∙ a.at.last) (λ x. x ∙ sym a.at.last) (goes-behind g o d low top m r l a st source n_here does goes small)

  returns-is : IsWideMove op w → t ≡ dst.Reg 0 → source_does o d m r l ≡ ended past m r (instr.Two Mov Wide (src.AutoInc 1) (dst.Reg 0)) 1
  returns-is v e =
      does ∙ (λ z. ended past m r (instr.Two (v.move z) (v.wide z) (src.AutoInc 1) (placed_dst o d (own l).destination (e z))) (count (instr.Two (v.move z) (v.wide z) (src.AutoInc 1) (e z))))

  -- a return
  return-row : t ≡ dst.Reg 0 → Stands o d m first past (guard_piece.pop_guard ++ guard_piece.pop_r4 ∷ guard_piece.branch GOES None ∷ []) → Result o d low top m r l OfPop r (Some (GOES, src.AutoInc 1))
  unfolding piece_words
  return-row e h =
      let c = guard-words (guard_piece.pop_r4 ∷ guard_piece.branch GOES None ∷ []) h in
      let b = pop-head (guard_piece.branch GOES None ∷ []) c.1 in
      let f = head g.spelling o d m (first + 16) past (guard_piece.branch GOES None) [] b.1 (tt, omega arith) (below g o d low top m r l a st op w (src.AutoInc 1) t is) in
      let z = end o d m (first + 20) past (subst (λ (k : ℕ). Stands o d m k past []) (omega arith) f.1) in
      let law = g.returns m r first past (at-first g o d low top m r l a st) c.0 b.0 f.0 z in
      let move = pc-moves o l op w (src.AutoInc 1) t is (subst (λ (y : Dst). DstIs y 0) (sym e) refl) in
      checked g o d low top m r l a st OfPop r (Some (GOES, src.AutoInc 1)) (reg r 1 ≢ word_at m STACK_TOP) (reg r 1 ≡ word_at m STACK_TOP)
      (Hands m r first past (ended past m r (instr.Two Mov Wide (src.AutoInc 1) (dst.Reg 0)) 1) GOES (source_value Wide (src.AutoInc 1) 0 m r)) law (of-pop (reg r 1) (word_at m STACK_TOP))
      (λ x. x ∙ a.at.last) (λ x. x ∙ sym a.at.last) (subst (λ (y : Effect). Hands m r first past y GOES (source_value Wide (src.AutoInc 1) 0 m r)) (sym (returns-is move e)))

  -- the three of them
  pub popping-row : Stands o d m first past (popping op w t (own l)) → Result o d low top m r l OfPop r (handed (instr.Two op w (src.AutoInc 1) t))
  popping-row = by (is_pc t) (is_plain_pop op w t) refl
    where
      by : (b c : Bool) → is_pc t ≡ b
          → Stands o d m first past (if b then guard_piece.pop_guard ++ guard_piece.pop_r4 ∷ guard_piece.branch GOES None ∷ [] else (if c then guard_piece.pop_guard ++ own l ∷ [] else guard_piece.pop_guard ++ guard_piece.pop_r4 ∷ from_r4 op w t (own l).destination ∷ []))
          → Result o d low top m r l OfPop r (if b && true then Some (GOES, src.AutoInc 1) else None)
      by true c e h = return-row (pc-so t e) h
      by false true e h = plain-row (two-target o l op w (src.AutoInc 1) t is (pc-not t e)) h
      by false false e h = into-row (two-target o l op w (src.AutoInc 1) t is (pc-not t e)) h

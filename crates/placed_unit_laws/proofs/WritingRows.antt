-- Units of operations that write, and whose source isn't @SP+.
use Rattle.std.proofs.Common.{◌≡◌, ◌≢◌, ℕ, ◌+◌, ◌*◌, ◌/◌, ◌<◌, ◌≤◌, true, List, [], ◌∷◌, ◌++◌, length, Option, None, Some, refl, sym, ap, ◌∙◌, subst, inl, inr, arith}
use Rattle.std.proofs.lemmas.Bool.{cases_lt}
use Rattle.std.proofs.lemmas.List.{length-append}
use Rattle.msp_encode.specs.declared.instr.Op2.{Op2}
use Rattle.msp_encode.specs.declared.instr.Op2.TheVariants.{Mov, Add, Addc, Subc, Sub, Cmp, Dadd, Bit, Bic, Bis, Xor, And}
use Rattle.msp_encode.specs.declared.instr.Width.{Width}
use Rattle.msp_encode.specs.declared.instr.Width.TheVariants.{Wide}
use Rattle.msp_encode.specs.declared.instr.Src.{Src}
use Rattle.msp_encode.specs.declared.instr.Src.TheVariants as src
use Rattle.msp_encode.specs.declared.instr.Dst.{Dst}
use Rattle.msp_encode.specs.declared.instr.Dst.TheVariants as dst
use Rattle.msp_encode.specs.declared.instr.Instr.{Instr}
use Rattle.msp_encode.specs.declared.instr.Instr.TheVariants as instr
use Rattle.msp_encode.specs.Spelling.{IsBase, SrcFits, InstrFits, src_words, dst_words}
use Rattle.msp_encode.specs.Forms.{Writes, DstIs, Pops, writes}
use Rattle.machine_model.specs.Memory.{word_at, IsMemory}
use Rattle.machine_model.specs.Context.{reg}
use Rattle.machine_model.specs.Operands.{sum_of, source_value, after_source}
use Rattle.machine_model.specs.Does.{Effect}
use Rattle.machine_model.specs.Fetching.{IsFetched}
use Rattle.code_model.specs.declared.object.Object.{Object}
use Rattle.code_model.specs.declared.parts.RelKind.{RelKind}
use Rattle.load_model.specs.Domains.{Domain}
use Rattle.insert_model.specs.declared.line.Line.{Line}
use Rattle.insert_model.specs.declared.piece.Piece.{Piece}
use Rattle.insert_model.specs.Words.{piece_words}
use Rattle.insert_model.specs.Source.{own}
use Rattle.insert_model.specs.Guards as guard_piece
use Rattle.insert_model.specs.Units.{into_r4, through_r4, setting_sp}
use Rattle.insert_model.specs.Faults.{StepsBase}
use Rattle.unit_laws.specs.Lines.{IsIndexed}
use Rattle.unit_laws.specs.Guards.{WordsAt, sp_words}
use Rattle.unit_laws.specs.Guarded.{IsCell, Steps}
use Rattle.unit_laws.specs.Rows.{GoesOn, DstFree, ended, Follows, Hands, IsAtStore, IsIn, IsOut, IsWithin, IsBeyond, new_sp}
use Rattle.placed_unit_laws.specs.Placed.{unit_at, unit_behind, word_in_place, placed_src, placed_dst, source_does}
use Rattle.placed_unit_laws.specs.Checks.{Unchecked, OfStore, OfSp}
use Rattle.placed_unit_laws.specs.Given.{RowLaws}
use Rattle.placed_unit_laws.proofs.Here.{IsHere, LineStands}
use Rattle.placed_unit_laws.proofs.Fetching.{count-place, src-count, src-fits}
use Rattle.placed_unit_laws.proofs.Pieces.{Stands, cut, head, end, sp-stands, sp-size, store-stands, store-size}
use Rattle.placed_unit_laws.proofs.Clean.{IsTwoLine, dst-placed, steps-placed, steps-pops, two-fits}
use Rattle.placed_unit_laws.proofs.Results.{Result, of-store, of-sp, at-first, goes-behind, checked}
use Rattle.placed_unit_laws.proofs.TwoRows.{here, size, source-is, free-source, below, few}
use Rattle.placed_unit_laws.proofs.PoppingRows.{pc-moves}
use Rattle.kernel_model.specs.declared.map.TheConstants.{STACK_LIMIT, STACK_TOP}
use Rattle.kernel_model.specs.declared.entries.TheConstants.{GOES}

-- ---- tests

pub writes-so : (op : Op2) → writes op ≡ true → Writes op
writes-so Mov e = tt
writes-so Add e = tt
writes-so Addc e = tt
writes-so Subc e = tt
writes-so Sub e = tt
writes-so Cmp e = cc
writes-so Dadd e = tt
writes-so Bit e = cc
writes-so Bic e = tt
writes-so Bis e = tt
writes-so Xor e = tt
writes-so And e = tt

-- a base register that isn't R4 or R5 makes addresses
pub indexed : (n : ℕ) → n < 16 → IsBase n → n ≢ 4 → n ≢ 5 → IsIndexed n
indexed n h b four five = elim (cases_lt n 6) [
  | inl l ↦ elim (cases_lt n 2) [ inl z ↦ inl (one n z b.0) | inr q ↦ absurd (between n l q b.1 b.2 four five) ]
  | inr m ↦ inr (inr (omega (arith, m), h))
]
  where
    one : (n : ℕ) → n < 2 → n ≢ 0 → n ≡ 1
    one n h z = grind (arith, h, z)

    between : (n : ℕ) → n < 6 → 2 ≤ n → n ≢ 2 → n ≢ 3 → n ≢ 4 → n ≢ 5 → ⊥
    between n h l a b c e = grind (arith, h, l, a, b, c, e)

pub steps-base : (s : Src) (n x : ℕ) → Steps s n → StepsBase s (dst.Indexed n x)
steps-base (src.AutoInc j) n x h = h
steps-base (src.Reg j) n x h = h
steps-base (src.Indexed j y) n x h = h
steps-base (src.Symbolic y) n x h = h
steps-base (src.Absolute y) n x h = h
steps-base (src.Indirect j) n x h = h
steps-base (src.Immediate y) n x h = h
steps-base (src.Const c) n x h = h

pub steps-not-three : (s : Src) → SrcFits s → Steps s 3 → ⊥
steps-not-three (src.AutoInc j) f h = f.1.2 h
steps-not-three (src.Reg j) f h = h
steps-not-three (src.Indexed j y) f h = h
steps-not-three (src.Symbolic y) f h = h
steps-not-three (src.Absolute y) f h = h
steps-not-three (src.Indirect j) f h = h
steps-not-three (src.Immediate y) f h = h
steps-not-three (src.Const c) f h = h

pub word-small : (m : List ℕ) (at : ℕ) → IsMemory m → word_at m at < 65536
unfolding word_at
word-small m at h = omega (arith, h.small (at / 2 * 2), h.small (at / 2 * 2 + 1))

-- ---- a store

module _ (g : RowLaws) (o : Object) (d : Domain) (low top : ℕ) (m r : List ℕ) (l : Line) (a : IsHere o d low top m r l) (st : LineStands o d m l) (op : Op2) (w : Width) (s : Src) (t : Dst) (is : IsTwoLine o l op w s t) where
  abbrev first : ℕ
  first = unit_at o d l

  abbrev past : ℕ
  past = unit_behind o d l

  abbrev s_here : Src
  s_here = placed_src o d (own l).source s

  abbrev n_here : ℕ
  n_here = size g o d low top m r l a st op w s t is

  abbrev source : Instr
  source = here g o d low top m r l a st op w s t is

  lo-word : d.lo < 65536
  lo-word = omega (arith, a.at.placed.statics, a.at.placed.hi_high)

  hi-word : d.hi < 65536
  hi-word = omega (arith, a.at.placed.hi_high)

  through-size : length (dst_words t) ≡ 1 → length (piece_words (through_r4 op w s (own l).source)) ≡ n_here
  through-size e =
      sym (count-place o d (through_r4 op w s (own l).source))
      ∙ omega (arith, length-append (src_words s_here) (0 ∷ []), length-append (src_words s) (dst_words t), src-count o d (own l).source s, e)

  pub store-row : (n x : ℕ) (k : Option RelKind) → IsIndexed n → length (dst_words t) ≡ 1 → IsCell (placed_dst o d (own l).destination t) n (word_in_place o d x k) → (Steps s n → ⊥) → DstFree t
      → Stands o d m first past (guard_piece.store_guard n x k ++ through_r4 op w s (own l).source ∷ []) → Result o d low top m r l (OfStore n x k) r None
  store-row n x k i one cell steps free h =
      let c = cut o d m first past (guard_piece.store_guard n x k) (through_r4 op w s (own l).source ∷ []) h in
      let words = subst (WordsAt m first 0) (store-stands o d n x k lo-word hi-word) c.0 in
      let rest = subst (λ (z : ℕ). Stands o d m (first + 2 * z) past (through_r4 op w s (own l).source ∷ [])) (store-size o d n x k lo-word hi-word) c.1 in
      let fits : InstrFits (instr.Two op w s (dst.Indexed 4 0)) = ((two-fits o l op w s t is).0, (omega arith, ((λ e. omega (arith, e)), (λ e. omega (arith, e)), (λ e. omega (arith, e))))) in
      let f = head g.spelling o d m (first + 26) past (through_r4 op w s (own l).source) [] rest fits (below g o d low top m r l a st op w s t is) in
      let e = end o d m (first + 26 + 2 * length (piece_words (through_r4 op w s (own l).source))) past f.1 in
      let fetched = subst (IsFetched m (first + 26) (instr.Two op w s_here (dst.Indexed 4 0))) (through-size one) f.0 in
      let goes : GoesOn source = (free-source g o d low top m r l a st op w s t is, dst-placed o d (own l).destination t free) in
      let tiny = few g o d low top m r l a st op w s t is in
      let v = word_in_place o d x k in
      let at : IsAtStore m r first past n v d.lo d.hi = record { at = at-first g o d low top m r l a st; words = words; register = i; index = omega (arith, words.1.1.1.0, word-small m (first + 6) a.at.memory); lo_word = lo-word; hi_word = hi-word } in
      let law = g.store m r first past n v d.lo d.hi op w s_here (placed_dst o d (own l).destination t) n_here at fetched (omega (arith, e, through-size one)) goes.0 cell (λ q. steps (steps-placed o d (own l).source s n q)) in
      checked g o d low top m r l a st (OfStore n x k) r None (IsIn d.lo d.hi (sum_of v (reg r n))) (IsOut d.lo d.hi (sum_of v (reg r n))) (Follows m r first past (ended past m r source n_here)) law
      (of-store d.lo d.hi (sum_of v (reg r n))) (λ q. q) (λ q. q) (goes-behind g o d low top m r l a st source n_here (source-is g o d low top m r l a st op w s t is) goes tiny)

  -- ---- SP

  into-size : length (dst_words t) ≡ 0 → (p : Op2) (v : Width) → length (piece_words (into_r4 p v s (own l).source)) ≡ n_here
  into-size e p v =
      sym (count-place o d (into_r4 p v s (own l).source))
      ∙ omega (arith, length-append (src_words s_here) [], length-append (src_words s) (dst_words t), src-count o d (own l).source s, e)

  pub into-head : length (dst_words t) ≡ 0 → (p : Op2) (v : Width) (at : ℕ) (ps : List Piece) → Stands o d m at past (into_r4 p v s (own l).source ∷ ps)
      → IsFetched m at (instr.Two p v s_here (dst.Reg 4)) n_here × Stands o d m (at + 2 * n_here) past ps
  into-head e p v at ps h =
      let fits : InstrFits (instr.Two p v s (dst.Reg 4)) = ((two-fits o l op w s t is).0, omega arith) in
      let f = head g.spelling o d m at past (into_r4 p v s (own l).source) ps h fits (below g o d low top m r l a st op w s t is) in (
        subst (IsFetched m at (instr.Two p v s_here (dst.Reg 4))) (into-size e p v) f.0,
        subst (λ (k : ℕ). Stands o d m (at + 2 * k) past ps) (into-size e p v) f.1,
      )

  pub sp-row : t ≡ dst.Reg 1 → writes op ≡ true → (Pops s 1 → ⊥) → Stands o d m first past (setting_sp op w s (own l).source) → Result o d low top m r l (OfSp op w s (own l).source) (after_source w s_here r) None
  unfolding piece_words
  sp-row e wr pops h =
      let none : length (dst_words t) ≡ 0 = ap (λ (y : Dst). length (dst_words y)) e in
      let f1 = head g.spelling o d m first past guard_piece.take_sp (into_r4 op w s (own l).source ∷ (guard_piece.sp_guard ++ guard_piece.give_sp ∷ [])) h ((omega arith, (λ q. omega (arith, q))), omega arith) (below g o d low top m r l a st op w s t is) in
      let f2 = into-head none op w (first + 2) (guard_piece.sp_guard ++ guard_piece.give_sp ∷ []) (subst (λ (k : ℕ). Stands o d m k past (into_r4 op w s (own l).source ∷ (guard_piece.sp_guard ++ guard_piece.give_sp ∷ []))) (omega arith) f1.1) in
      let c = cut o d m (first + 2 + 2 * n_here) past guard_piece.sp_guard (guard_piece.give_sp ∷ []) f2.1 in
      let words = subst (λ (k : ℕ). WordsAt m k 0 sp_words) (omega arith) (subst (WordsAt m (first + 2 + 2 * n_here) 0) (sp-stands o d) c.0) in
      let rest = subst (λ (k : ℕ). Stands o d m k past (guard_piece.give_sp ∷ [])) (omega (arith, sp-size)) c.1 in
      let f3 = head g.spelling o d m (first + (22 + 2 * n_here)) past guard_piece.give_sp [] rest ((omega arith, (λ q. omega (arith, q))), omega arith) (below g o d low top m r l a st op w s t is) in
      let z = end o d m (first + (24 + 2 * n_here)) past (subst (λ (k : ℕ). Stands o d m k past []) (omega arith) f3.1) in
      let free : DstFree t = subst DstFree (sym e) ((λ q. omega (arith, q)), ((λ q. omega (arith, q)), (λ q. omega (arith, q)))) in
      let goes : GoesOn source = (free-source g o d low top m r l a st op w s t is, dst-placed o d (own l).destination t free) in
      let same : instr.Two op w s_here (dst.Reg 1) ≡ source = ap (λ (y : Dst). instr.Two op w s_here (placed_dst o d (own l).destination y)) (sym e) in
      let v = new_sp m r op w s_here in
      let law = g.set_sp m r first past op w s_here n_here (at-first g o d low top m r l a st) f1.0 f2.0 (omega arith) words f3.0 z wr (src-fits o d (own l).source s (two-fits o l op w s t is).0) goes.0
      (λ q. pops (steps-pops s 1 (steps-placed o d (own l).source s 1 q))) in
      let tiny = few g o d low top m r l a st op w s t is in
      checked g o d low top m r l a st (OfSp op w s (own l).source) (after_source w s_here r) None (IsWithin m v) (IsBeyond m v) (Follows m r first past (ended past m r (instr.Two op w s_here (dst.Reg 1)) n_here)) law (of-sp (word_at m STACK_LIMIT) (word_at m STACK_TOP) v)
      (λ q. elim q [ inl x ↦ inl (omega (arith, x, a.at.limit)) | inr x ↦ inr (omega (arith, x, a.at.last)) ]) (λ q. elim q [ inl x ↦ inl (omega (arith, x, a.at.limit)) | inr x ↦ inr (omega (arith, x, a.at.last)) ])
      (λ q. goes-behind g o d low top m r l a st source n_here (source-is g o d low top m r l a st op w s t is) goes tiny (subst (λ (y : Instr). Follows m r first past (ended past m r y n_here)) same q))

  -- ---- PC

  -- a computed jump
  pub computed-row : t ≡ dst.Reg 0 → Stands o d m first past (into_r4 Mov Wide s (own l).source ∷ guard_piece.branch GOES None ∷ []) → Result o d low top m r l Unchecked r (Some (GOES, s))
  unfolding piece_words
  computed-row e h =
      let none : length (dst_words t) ≡ 0 = ap (λ (y : Dst). length (dst_words y)) e in
      let f1 = into-head none Mov Wide first (guard_piece.branch GOES None ∷ []) h in
      let f2 = head g.spelling o d m (first + 2 * n_here) past (guard_piece.branch GOES None) [] f1.1 (tt, omega arith) (below g o d low top m r l a st op w s t is) in
      let z = end o d m (first + (4 + 2 * n_here)) past (subst (λ (k : ℕ). Stands o d m k past []) (omega arith) f2.1) in
      let move = pc-moves o l op w s t is (subst (λ (y : Dst). DstIs y 0) (sym e) refl) in
      let same : source_does o d m r l ≡ ended past m r (instr.Two Mov Wide s_here (dst.Reg 0)) n_here =
      source-is g o d low top m r l a st op w s t is ∙ (λ j. ended past m r (instr.Two (move.move j) (move.wide j) s_here (placed_dst o d (own l).destination (e j))) n_here) in
      let law = g.computed m r first past s_here n_here (at-first g o d low top m r l a st) f1.0 f2.0 z (src-fits o d (own l).source s (two-fits o l op w s t is).0) (free-source g o d low top m r l a st op w s t is) in
      inr ((λ q. q), subst (λ (y : Effect). Hands m r first past y GOES (source_value Wide s_here 0 m r)) (sym same) law)

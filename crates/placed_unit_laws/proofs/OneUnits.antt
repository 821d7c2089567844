-- The unit of each operation of one operand.
use Rattle.std.proofs.Common.{◌≡◌, ℕ, ◌+◌, ◌*◌, ◌<◌, ◌≤◌, true, false, List, [], ◌∷◌, ◌++◌, length, Option, None, Some, refl, sym, ap, ◌∙◌, subst, arith}
use Rattle.msp_encode.specs.declared.instr.Op1.{Op1}
use Rattle.msp_encode.specs.declared.instr.Op1.TheVariants.{Rrc, Swpb, Rra, Sxt, Push, Call}
use Rattle.msp_encode.specs.declared.instr.Op2.TheVariants.{Mov}
use Rattle.msp_encode.specs.declared.instr.Width.{Width}
use Rattle.msp_encode.specs.declared.instr.Width.TheVariants.{Wide, Byte}
use Rattle.msp_encode.specs.declared.instr.Src.{Src}
use Rattle.msp_encode.specs.declared.instr.Src.TheVariants as src
use Rattle.msp_encode.specs.declared.instr.Dst.TheVariants as dst
use Rattle.msp_encode.specs.declared.instr.Instr.{Instr}
use Rattle.msp_encode.specs.declared.instr.Instr.TheVariants as instr
use Rattle.std.proofs.lemmas.List.{length-append}
use Rattle.msp_encode.specs.Spelling.{InstrFits, TakesWidth, src_words}
use Rattle.machine_model.specs.Memory.{word_at}
use Rattle.machine_model.specs.Context.{reg}
use Rattle.machine_model.specs.Operands.{sum_of, source_value, after_source}
use Rattle.machine_model.specs.Does.{Effect}
use Rattle.machine_model.specs.Fetching.{IsFetched}
use Rattle.code_model.specs.declared.object.Object.{Object}
use Rattle.code_model.specs.declared.parts.RelKind.{RelKind}
use Rattle.load_model.specs.Domains.{Domain}
use Rattle.insert_model.specs.declared.line.Line.{Line}
use Rattle.insert_model.specs.declared.piece.Piece.{Piece}
use Rattle.msp_encode.specs.Spelled.{count}
use Rattle.msp_encode.specs.Forms.{Stacks, changes}
use Rattle.insert_model.specs.Words.{piece_words}
use Rattle.insert_model.specs.Source.{own}
use Rattle.insert_model.specs.Guards as guard_piece
use Rattle.insert_model.specs.Units.{into_r4, calling_value}
use Rattle.unit_laws.specs.Lines.{IsIndexed}
use Rattle.unit_laws.specs.Guards.{WordsAt, growth_words}
use Rattle.unit_laws.specs.Guarded.{IsCellOperand}
use Rattle.unit_laws.specs.Rows.{GoesOn, SrcFree, ended, Follows, Hands, IsAtStore, IsIn, IsOut}
use Rattle.placed_unit_laws.specs.Placed.{unit_at, unit_behind, word_in_place, placed_src, placed_instr, placed, source_does, instr_does}
use Rattle.placed_unit_laws.specs.Checks.{OfStore, OfGrowth}
use Rattle.placed_unit_laws.specs.Ends.{EndsWell}
use Rattle.placed_unit_laws.specs.Given.{RowLaws}
use Rattle.placed_unit_laws.proofs.Here.{IsHere, LineStands}
use Rattle.placed_unit_laws.proofs.Fetching.{count-place, src-count, few-src, src-fits, own-instr}
use Rattle.placed_unit_laws.proofs.Pieces.{Stands, cut, head, end, growth-stands, growth-size, store-stands, store-size}
use Rattle.placed_unit_laws.proofs.Clean.{IsOneLine, src-placed, src-avoids, steps-placed, steps-pops, one-fits, one-source, one-pops-not}
use Rattle.placed_unit_laws.proofs.Results.{Result, of-store, of-growth, at-first, leads-behind, goes-behind, checked}
use Rattle.placed_unit_laws.proofs.WritingRows.{word-small}
use Rattle.kernel_model.specs.declared.map.TheConstants.{STACK_LIMIT}
use Rattle.kernel_model.specs.declared.entries.TheConstants.{CALLS}

pub changes-goes-on : (op : Op1) (w : Width) (s : Src) → changes op ≡ true → SrcFree s → GoesOn (instr.One op w s)
changes-goes-on Rrc w s e f = f
changes-goes-on Swpb w s e f = f
changes-goes-on Rra w s e f = f
changes-goes-on Sxt w s e f = f
changes-goes-on Push w s e f = f
changes-goes-on Call w s e f = let q : false ≡ true = e in absurd (cc)

-- its operand on @R4 has every width and form that it takes
at-r4-fits : (op : Op1) (w : Width) (s : Src) → InstrFits (instr.One op w s) → InstrFits (instr.One op w (src.Indirect 4))
at-r4-fits op w s f = ((omega arith, ((λ e. omega (arith, e)), (λ e. omega (arith, e)), (λ e. omega (arith, e)))), f.1, tt)

module _ (g : RowLaws) (o : Object) (d : Domain) (low top : ℕ) (m r : List ℕ) (l : Line) (a : IsHere o d low top m r l) (st : LineStands o d m l) (op : Op1) (w : Width) (s : Src) (is : IsOneLine o l op w s) where
  abbrev first : ℕ
  first = unit_at o d l

  abbrev past : ℕ
  past = unit_behind o d l

  abbrev pub s_here : Src
  s_here = placed_src o d (own l).source s

  abbrev pub here : Instr
  here = instr.One op w s_here

  abbrev pub size : ℕ
  size = count (instr.One op w s)

  own-is : (own l).instr ≡ instr.One op w s
  own-is = own-instr l.instr l.second l.third ∙ is.line

  own-placed : placed o d (own l) ≡ here
  own-placed = ap (placed_instr o d (own l).source (own l).destination) own-is

  pub source-is : source_does o d m r l ≡ ended past m r here size
  unfolding source_does
  source-is = ap (instr_does o d m r l) is.line ∙ (ap (λ (i : Instr). ended past m r i (count l.instr)) own-placed ∙ ap (λ (i : Instr). ended past m r here (count i)) is.line)

  pub free-source : SrcFree s_here
  free-source = src-placed o d (own l).source s (one-source o l op w s is)

  below : past < 65536
  below = omega (arith, st.below)

  pub few : size ≤ 2
  few = omega (arith, few-src s)

  pub own-head : (at : ℕ) (ps : List Piece) → Stands o d m at past (own l ∷ ps) → IsFetched m at here size × Stands o d m (at + 2 * size) past ps
  own-head at ps h =
      let r = head g.spelling o d m at past (own l) ps h (subst InstrFits (sym own-is) (one-fits o l op w s is)) below in
      let n : length (piece_words (own l)) ≡ size = sym (count-place o d (own l)) ∙ (ap count own-placed ∙ ap (λ (k : ℕ). 1 + k) (src-count o d (own l).source s)) in (
        subst (IsFetched m at here) n (subst (λ (i : Instr). IsFetched m at i (length (piece_words (own l)))) own-placed r.0),
        subst (λ (k : ℕ). Stands o d m (at + 2 * k) past ps) n r.1,
      )

  -- the instruction as its own unit
  pub row-own : changes op ≡ true → Stands o d m first past (own l ∷ []) → EndsWell o d m r l
  row-own e h =
      let goes : GoesOn here = changes-goes-on op w s_here e free-source in
      let f = own-head first [] h in
      let tiny : size ≤ 3 = omega (arith, few) in
      goes-behind g o d low top m r l a st here size source-is goes tiny
      (g.own m r first past here size (at-first g o d low top m r l a st) f.0 (end o d m (first + 2 * size) past f.1) (λ i. omega (arith, i.1, leads-behind g o d low top m r l a st here size goes tiny)))

  lo-word : d.lo < 65536
  lo-word = omega (arith, a.at.placed.statics, a.at.placed.hi_high)

  hi-word : d.hi < 65536
  hi-word = omega (arith, a.at.placed.hi_high)

  -- behind a store guard
  pub change-row : (n x : ℕ) (k : Option RelKind) → changes op ≡ true → IsIndexed n → IsCellOperand s_here n (word_in_place o d x k)
      → Stands o d m first past (guard_piece.store_guard n x k ++ guard_piece.plain (instr.One op w (src.Indirect 4)) ∷ []) → Result o d low top m r l (OfStore n x k) r None
  unfolding piece_words
  change-row n x k e i cell h =
      let last = guard_piece.plain (instr.One op w (src.Indirect 4)) in
      let c = cut o d m first past (guard_piece.store_guard n x k) (last ∷ []) h in
      let words = subst (WordsAt m first 0) (store-stands o d n x k lo-word hi-word) c.0 in
      let rest = subst (λ (z : ℕ). Stands o d m (first + 2 * z) past (last ∷ [])) (store-size o d n x k lo-word hi-word) c.1 in
      let f = head g.spelling o d m (first + 26) past last [] rest (at-r4-fits op w s (one-fits o l op w s is)) below in
      let z = end o d m (first + 28) past (subst (λ (q : ℕ). Stands o d m q past []) (omega arith) f.1) in
      let goes : GoesOn here = changes-goes-on op w s_here e free-source in
      let v = word_in_place o d x k in
      let at : IsAtStore m r first past n v d.lo d.hi = record { at = at-first g o d low top m r l a st; words = words; register = i; index = omega (arith, words.1.1.1.0, word-small m (first + 6) a.at.memory); lo_word = lo-word; hi_word = hi-word } in
      let law = g.change m r first past n v d.lo d.hi op w s_here size at f.0 z e cell (omega arith) few in
      checked g o d low top m r l a st (OfStore n x k) r None (IsIn d.lo d.hi (sum_of v (reg r n))) (IsOut d.lo d.hi (sum_of v (reg r n))) (Follows m r first past (ended past m r here size)) law
      (of-store d.lo d.hi (sum_of v (reg r n))) (λ q. q) (λ q. q) (goes-behind g o d low top m r l a st here size source-is goes (omega (arith, few)))

  -- ---- a growth guard

  guard-words : (at : ℕ) (ps : List Piece) → Stands o d m at past (guard_piece.growth_guard ++ ps) → WordsAt m at 0 growth_words × Stands o d m (at + 14) past ps
  guard-words at ps h =
      let r = cut o d m at past guard_piece.growth_guard ps h in
      (subst (WordsAt m at 0) (growth-stands o d) r.0, subst (λ (k : ℕ). Stands o d m (at + 2 * k) past ps) growth-size r.1)

  -- behind it the source's own instruction
  pub growth-row : ((z : Effect) → Follows m r first past z → z ≡ ended past m r here size → EndsWell o d m r l) → ((first < reg (ended past m r here size).context 0) × (reg (ended past m r here size).context 0 < past) → ⊥)
      → Stands o d m first past (guard_piece.growth_guard ++ own l ∷ []) → Result o d low top m r l OfGrowth r None
  growth-row ends out h =
      let c = guard-words first (own l ∷ []) h in
      let f = own-head (first + 14) [] c.1 in
      let z = end o d m (first + 14 + 2 * size) past f.1 in
      let law = g.growth m r first past here size (at-first g o d low top m r l a st) c.0 f.0 (omega (arith, z)) (omega arith) (src-avoids s_here free-source) out in
      checked g o d low top m r l a st OfGrowth r None (word_at m STACK_LIMIT ≤ reg r 1) (reg r 1 < word_at m STACK_LIMIT) (Follows m r first past (ended past m r here size)) law (of-growth (word_at m STACK_LIMIT) (reg r 1))
      (λ q. omega (arith, q, a.at.limit)) (λ q. omega (arith, q, a.at.limit)) (λ q. ends (ended past m r here size) q refl)

  -- a computed call
  pub callee-row : op ≡ Call → Stands o d m first past (calling_value s (own l).source) → Result o d low top m r l OfGrowth (after_source Wide s_here r) (Some (CALLS, s))
  unfolding piece_words
  callee-row e h =
      let last = guard_piece.plain (instr.One Call Wide (src.Immediate CALLS)) in
      let into = into_r4 Mov Wide s (own l).source in
      let f1 = head g.spelling o d m first past into (guard_piece.growth_guard ++ last ∷ []) h ((one-fits o l op w s is).0, omega arith) below in
      let n : length (piece_words into) ≡ size = sym (count-place o d into) ∙ ap (λ (k : ℕ). 1 + k) (into-words ∙ src-count o d (own l).source s) in
      let fetched = subst (IsFetched m first (instr.Two Mov Wide s_here (dst.Reg 4))) n f1.0 in
      let c = guard-words (first + 2 * size) (last ∷ []) (subst (λ (k : ℕ). Stands o d m (first + 2 * k) past (guard_piece.growth_guard ++ last ∷ [])) n f1.1) in
      let f2 = head g.spelling o d m (first + (14 + 2 * size)) past last [] (subst (λ (k : ℕ). Stands o d m k past (last ∷ [])) (omega arith) c.1) (tt, tt, tt) below in
      let z = end o d m (first + (18 + 2 * size)) past (subst (λ (k : ℕ). Stands o d m k past []) (omega arith) f2.1) in
      let stacks : Stacks op = subst Stacks (sym e) tt in
      let law = g.callee m r first past s_here size (at-first g o d low top m r l a st) fetched (omega arith) c.0 f2.0 z (src-fits o d (own l).source s (one-fits o l op w s is).0) free-source
      (λ q. one-pops-not o l op w s is stacks (steps-pops s 1 (steps-placed o d (own l).source s 1 q))) in
      let wide : w ≡ Wide = call-wide w (subst (λ (p : Op1). InstrFits (instr.One p w s)) e (one-fits o l op w s is)).1 in
      let same : source_does o d m r l ≡ ended past m r (instr.One Call Wide s_here) size = source-is ∙ (λ j. ended past m r (instr.One (e j) (wide j) s_here) size) in
      checked g o d low top m r l a st OfGrowth (after_source Wide s_here r) (Some (CALLS, s)) (word_at m STACK_LIMIT ≤ reg r 1) (reg r 1 < word_at m STACK_LIMIT) (Hands m r first past (ended past m r (instr.One Call Wide s_here) size) CALLS (source_value Wide s_here 0 m r)) law
      (of-growth (word_at m STACK_LIMIT) (reg r 1)) (λ q. omega (arith, q, a.at.limit)) (λ q. omega (arith, q, a.at.limit)) (subst (λ (y : Effect). Hands m r first past y CALLS (source_value Wide s_here 0 m r)) (sym same))
    where
      into-words : length (src_words s_here ++ []) ≡ length (src_words s_here)
      into-words = omega (arith, length-append (src_words s_here) [])

      call-wide : (w : Width) → TakesWidth Call w → w ≡ Wide
      call-wide Wide q = refl
      call-wide Byte q = absurd q

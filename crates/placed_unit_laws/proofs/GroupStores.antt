-- Where running the unit of a group of stores ends.
use Rattle.std.proofs.Common.{◌≡◌, ℕ, ◌+◌, ◌-◌, ◌*◌, ◌%◌, ◌<◌, ◌≤◌, Bool, true, false, List, [], ◌∷◌, length, map, Option, None, Some, refl, sym, ap, ◌∙◌, subst, inl, inr, arith}
use Rattle.std.specs.List.{AllByRecursion}
use Rattle.std.proofs.lemmas.Bool.{cases_lt, eqb-true}
use Rattle.std.proofs.lemmas.List.{length-append}
use Rattle.std.proofs.lemmas.List.Elements.{All-contains, recursion_from_All}
use Rattle.msp_encode.specs.declared.instr.Src.{Src}
use Rattle.msp_encode.specs.declared.instr.Src.TheVariants as src
use Rattle.msp_encode.specs.declared.instr.Dst.TheVariants as dst
use Rattle.msp_encode.specs.declared.instr.Instr.{Instr}
use Rattle.msp_encode.specs.declared.instr.Instr.TheVariants as instr
use Rattle.msp_encode.specs.Spelling.{DstFits, InstrFits, src_words}
use Rattle.machine_model.specs.Context.{reg}
use Rattle.machine_model.specs.Does.{Effect, memory_after}
use Rattle.machine_model.specs.Operands.{sum_of}
use Rattle.machine_model.specs.Fetching.{IsFetched}
use Rattle.code_model.specs.declared.object.Object.{Object}
use Rattle.code_model.specs.declared.parts.RelKind.{RelKind}
use Rattle.code_model.specs.declared.parts.RelKind.TheVariants.{Code, Data, Lo, Hi}
use Rattle.code_model.specs.declared.guards.Reach.{Reach}
use Rattle.code_model.specs.declared.guards.Reach.TheVariants as reach
use Rattle.code_model.specs.Guards.{reach_bytes, high_word}
use Rattle.code_model.specs.Fields.{fields}
use Rattle.load_model.specs.Domains.{Domain}
use Rattle.insert_model.specs.declared.line.Line.{Line}
use Rattle.insert_model.specs.declared.piece.Piece.{Piece}
use Rattle.msp_encode.specs.Spelled.{count}
use Rattle.msp_encode.specs.Forms.{Pops}
use Rattle.insert_model.specs.Words.{piece_words}
use Rattle.insert_model.specs.Source.{own}
use Rattle.insert_model.specs.Guards.{wide_guard}
use Rattle.insert_model.specs.Units.{static_bytes, is_popped}
use Rattle.insert_model.specs.Faults.{UsesCheck, DstUsesCheck}
use Rattle.insert_model.specs.Groups.{Cell, difference, Group, members, last_of}
use Rattle.insert_model.specs.Layout.{beside_by, beside}
use Rattle.insert_laws.specs.Stores.{IsIndexKind, StoresBehind, StoresTogether, GroupsStore}
use Rattle.unit_laws.specs.Lines.{IsIndexed}
use Rattle.unit_laws.specs.Groups.{Store, at_base, at_r4, stores_after, IsStoreAt, StoresAt, Last, Before, Reaches, GroupUnitLaw}
use Rattle.unit_laws.specs.Guards.{WordsAt, store_words}
use Rattle.unit_laws.specs.Rows.{ended, Checked, IsAtStore, IsIn, IsOut}
use Rattle.placed_unit_laws.specs.Placed.{unit_address, unit_at, unit_behind, word_in_place, placed_src, placed_instr, instr_does, source_does, source_after}
use Rattle.placed_unit_laws.specs.Checks.{OfStore, check_of_two, check_of_instr, check_of, Fails}
use Rattle.placed_unit_laws.specs.Ends.{group_behind, AnyFails, Works, GroupEnds, Stopped, Worked, UnitStands, UnitStandsLaw, GroupEndsLaw}
use Rattle.placed_unit_laws.specs.Given.{RowLaws}
use Rattle.placed_unit_laws.proofs.Here.{IsHereOf, here_of}
use Rattle.placed_unit_laws.proofs.Fetching.{count-place, src-count, own-instr}
use Rattle.placed_unit_laws.proofs.Pieces.{Stands, cut, head, end, region-stands, region-size}
use Rattle.placed_unit_laws.proofs.Clean.{IsTwoLine, src-placed, steps-placed, two-fits, two-source, pops-aright, stores-aright}
use Rattle.placed_unit_laws.proofs.Results.{Outcome, of-store}
use Rattle.placed_unit_laws.proofs.WritingRows.{writes-so, indexed, steps-base, word-small}
use Rattle.kernel_model.specs.declared.entries.TheConstants.{STORE_FAULT}

-- ---- numbers

-- an index as it stands is as far from the first as it is in the source
ahead-placed : (o : Object) (d : Domain) (a b : ℕ) (k : Option RelKind) → IsIndexKind k → a < 65536 → b < 65536 → word_in_place o d b k ≡ sum_of (word_in_place o d a k) (difference a b)
ahead-placed o d a b None h p q = omega (arith, p, q)
ahead-placed o d a b (Some Code) h p q = absurd h
ahead-placed o d a b (Some Data) h p q = omega (arith, p, q)
ahead-placed o d a b (Some Lo) h p q = absurd h
ahead-placed o d a b (Some Hi) h p q = absurd h

high-is : (r : Reach) → high_word r + reach_bytes r ≡ 65536
high-is reach.Two = refl
high-is reach.Four = refl
high-is reach.Six = refl

near-is : (r : Reach) → reach_bytes r ≤ 6
near-is reach.Two = omega arith
near-is reach.Four = omega arith
near-is reach.Six = omega arith

popped : (s : Src) → is_popped s ≡ true → Pops s 1
popped (src.AutoInc n) e = eqb-true n 1 e
popped (src.Reg n) e = let f : false ≡ true = e in absurd (cc)
popped (src.Indexed n x) e = let f : false ≡ true = e in absurd (cc)
popped (src.Symbolic x) e = let f : false ≡ true = e in absurd (cc)
popped (src.Absolute x) e = let f : false ≡ true = e in absurd (cc)
popped (src.Indirect n) e = let f : false ≡ true = e in absurd (cc)
popped (src.Immediate x) e = let f : false ≡ true = e in absurd (cc)
popped (src.Const c) e = let f : false ≡ true = e in absurd (cc)

-- ---- a store of a group

module _ (o : Object) (d : Domain) (from : Cell) (most : ℕ) where
  -- the store as the laws over numbers have it
  abbrev store-of : (l : Line) → StoresBehind o from most l → Store
  store-of l h = record {
    op = h.op;
    width = h.width;
    source = placed_src o d (own l).source h.source;
    index = word_in_place o d h.index (own l).destination;
    ahead = difference from.index h.index;
    words = count (instr.Two h.op h.width h.source (dst.Indexed from.base h.index));
    past = unit_behind o d l;
  }

  pub stores-of : (ls : List Line) → AllByRecursion (StoresBehind o from most) ls → List Store
  stores-of [] h = []
  stores-of (l ∷ ls) h = store-of l h.0 ∷ stores-of ls h.1

  module _ (l : Line) (h : StoresBehind o from most l) where
    two-line : IsTwoLine o l h.op h.width h.source (dst.Indexed from.base h.index)
    two-line = record { clean = h.clean; line = h.line }

    own-is : (own l).instr ≡ instr.Two h.op h.width h.source (dst.Indexed from.base h.index)
    own-is = own-instr l.instr l.second l.third ∙ h.line

    -- what the source does is what the store does
    pub does-store : (m r : List ℕ) → source_does o d m r l ≡ ended (unit_behind o d l) m r (at_base from.base (store-of l h)) (store-of l h).words
    unfolding source_does
    does-store m r =
        ap (instr_does o d m r l) h.line
        ∙ (ap (λ (i : Instr). ended (unit_behind o d l) m r i (count l.instr)) (ap (placed_instr o d (own l).source (own l).destination) own-is)
        ∙ ap (λ (i : Instr). ended (unit_behind o d l) m r (at_base from.base (store-of l h)) (count i)) h.line)

    -- the piece that stands for it
    abbrev piece : Piece
    piece = record { instr = instr.Two h.op h.width h.source (dst.Indexed 4 (difference from.index h.index)); source = (own l).source; destination = None }

    pub piece-is : beside from l ≡ piece
    unfolding beside
    piece-is = ap (beside_by from l (own l)) h.line ∙ ap (λ (x : ℕ). record { instr = instr.Two h.op h.width h.source (dst.Indexed 4 x); source = (own l).source; destination = None }) h.ahead

    pub piece-size : length (piece_words piece) ≡ (store-of l h).words
    piece-size =
        sym (count-place o d piece)
        ∙ omega (arith, length-append (src_words (placed_src o d (own l).source h.source)) (difference from.index h.index ∷ []), length-append (src_words h.source) (h.index ∷ []), src-count o d (own l).source h.source)

    pub piece-fits : InstrFits piece.instr
    piece-fits = ((two-fits o l h.op h.width h.source (dst.Indexed from.base h.index) two-line).0, (omega arith, ((λ e. omega (arith, e)), (λ e. omega (arith, e)), (λ e. omega (arith, e)))))

    -- its check is of its own address
    pub check-is : check_of o l ≡ OfStore from.base h.index (own l).destination
    unfolding check_of
    check-is = ap (check_of_instr (static_bytes (fields o)) (own l)) h.line ∙ by (is_popped h.source) refl
      where
        by : (b : Bool) → is_popped h.source ≡ b
            → check_of_two (static_bytes (fields o)) h.op h.width h.source (dst.Indexed from.base h.index) (own l) ≡ OfStore from.base h.index (own l).destination
        by true e = absurd (pops-aright o l h.op h.width h.source (dst.Indexed from.base h.index) two-line (popped h.source e) (writes-so h.op h.stores) (inr (inr tt)))
        by false e = rw (e, h.stores) refl

  -- one after another
  pub after-is : (ls : List Line) (hs : AllByRecursion (StoresBehind o from most) ls) (m r : List ℕ) → source_after o d m r ls ≡ stores_after from.base m r (stores-of ls hs)
  unfolding source_after stores_after stores-of
  after-is [] hs m r = refl
  after-is (l ∷ ls) hs m r =
      ap (λ (e : Effect). source_after o d (memory_after m e) e.context ls) (does-store l hs.0 m r)
      ∙ after-is ls hs.1 (memory_after m (ended (unit_behind o d l) m r (at_base from.base (store-of l hs.0)) (store-of l hs.0).words)) (ended (unit_behind o d l) m r (at_base from.base (store-of l hs.0)) (store-of l hs.0).words).context

-- ---- a group's unit

module _ (g : RowLaws) (group : GroupUnitLaw) (o : Object) (d : Domain) (low top : ℕ) (m r : List ℕ) (gr : Group) (a : IsHereOf o d low top m r gr) (st : UnitStands o d m gr) (s : StoresTogether o gr) where
  abbrev first : ℕ
  first = unit_at o d gr.head

  abbrev past : ℕ
  past = group_behind o d gr

  abbrev most : ℕ
  most = reach_bytes s.reach

  abbrev n : ℕ
  n = s.from.base

  abbrev x : ℕ
  x = word_in_place o d s.from.index s.from.kind

  -- the end that the guard tests
  abbrev end-less : ℕ
  end-less = d.hi - most

  small : past < 65536
  small = omega (arith, st.below)

  each : AllByRecursion (StoresBehind o s.from most) (members gr)
  each = recursion_from_All (StoresBehind o s.from most) (members gr) s.each

  behind-low : (l : Line) → unit_behind o d l < 65536
  unfolding unit_address
  behind-low l = omega (arith, a.at.placed.code_high, (g.places o d.object a.inserted (2 * (l.at + count l.instr))).below)

  store-at : (l : Line) (h : StoresBehind o s.from most l) (at : ℕ) → IsFetched m at (at_r4 (store-of o d s.from most l h)) (store-of o d s.from most l h).words → IsStoreAt m n x most at (store-of o d s.from most l h)
  store-at l h at f =
      let two = two-line o d s.from most l h in
      record {
        fetched = f;
        free = src-placed o d (own l).source h.source (two-source o l h.op h.width h.source (dst.Indexed n h.index) two);
        steps = λ q. stores-aright o l h.op h.width h.source (dst.Indexed n h.index) two (writes-so h.op h.stores) (steps-base h.source n h.index (steps-placed o d (own l).source h.source n q));
        index = subst (λ (k : Option RelKind). word_in_place o d h.index k ≡ sum_of x (difference s.from.index h.index)) (sym h.kind) (ahead-placed o d s.from.index h.index s.from.kind s.kind s.word h.word);
        near = h.near;
        below = behind-low l;
      }

  -- the first of the pieces is fetched
  fetched : (l : Line) (h : StoresBehind o s.from most l) (at : ℕ) (ps : List Piece) → Stands o d m at past (beside s.from l ∷ ps)
      → IsFetched m at (at_r4 (store-of o d s.from most l h)) (store-of o d s.from most l h).words × Stands o d m (at + 2 * (store-of o d s.from most l h).words) past ps
  fetched l h at ps stands =
      let q = piece o d s.from most l h in
      let f = head g.spelling o d m at past q ps (subst (λ (p : Piece). Stands o d m at past (p ∷ ps)) (piece-is o d s.from most l h) stands) (piece-fits o d s.from most l h) small in (
        subst (IsFetched m at (at_r4 (store-of o d s.from most l h))) (piece-size o d s.from most l h) f.0,
        subst (λ (k : ℕ). Stands o d m (at + 2 * k) past ps) (piece-size o d s.from most l h) f.1,
      )

  stores-at : (l : Line) (ls : List Line) (hs : AllByRecursion (StoresBehind o s.from most) (l ∷ ls)) (at : ℕ) → Stands o d m at past (map (beside s.from) (l ∷ ls)) → unit_behind o d (last_of l ls) ≡ past
      → StoresAt m n x most past at (stores-of o d s.from most (l ∷ ls) hs)
  unfolding last_of stores-of
  stores-at l [] hs at stands e =
      let f = fetched l hs.0 at [] stands in
      Last at (store-of o d s.from most l hs.0) (store-at l hs.0 at f.0) (end o d m (at + 2 * (store-of o d s.from most l hs.0).words) past f.1) e
  stores-at l (k ∷ ks) hs at stands e =
      let f = fetched l hs.0 at (map (beside s.from) (k ∷ ks)) stands in
      Before at (store-of o d s.from most l hs.0) (stores-of o d s.from most (k ∷ ks) hs.1) (store-at l hs.0 at f.0) (stores-at k ks hs.1 (at + 2 * (store-of o d s.from most l hs.0).words) f.1 e)

  lo-word : d.lo < 65536
  lo-word = omega (arith, a.at.placed.statics, a.at.placed.hi_high)

  tested : (high_word s.reach + d.hi) % 65536 ≡ end-less
  tested = omega (arith, high-is s.reach, near-is s.reach, a.at.placed.hi_high, a.at.placed.lo_low, a.at.placed.statics)

  parts : WordsAt m first 0 (store_words n x d.lo end-less) × Stands o d m (first + 26) past (map (beside s.from) (members gr))
  parts =
      let c = cut o d m first past (wide_guard s.reach n s.from.index s.from.kind) (map (beside s.from) (members gr)) (subst (Stands o d m first past) s.are (st.words, st.behind)) in (
        subst (WordsAt m first 0) (region-stands o d n s.from.index (high_word s.reach) end-less s.from.kind lo-word tested) c.0,
        subst (λ (z : ℕ). Stands o d m (first + 2 * z) past (map (beside s.from) (members gr))) (region-size o d n s.from.index (high_word s.reach) end-less s.from.kind lo-word tested) c.1,
      )

  register : IsIndexed n
  register =
      let h : StoresBehind o s.from most gr.head = each.0 in
      let two = two-line o d s.from most gr.head h in
      let fits : DstFits (dst.Indexed n h.index) = (two-fits o gr.head h.op h.width h.source (dst.Indexed n h.index) two).1 in
      let check : DstUsesCheck (dst.Indexed n h.index) → ⊥ = λ c. h.clean.free (subst UsesCheck (sym h.line) (inr c)) in
      indexed n fits.0 fits.1 (λ e. check (inl e)) (λ e. check (inr e))

  at-store : IsAtStore m r first past n x d.lo end-less
  at-store = record {
    at = record { memory = a.at.memory; context = a.at.context; pc = a.at.pc; below = omega (arith, st.below) };
    words = parts.0;
    register = register;
    index = omega (arith, parts.0.1.1.1.0, word-small m (first + 6) a.at.memory);
    lo_word = lo-word;
    hi_word = omega (arith, a.at.placed.hi_high);
  }

  room : end-less + most ≤ first
  unfolding unit_address
  room = omega (arith, near-is s.reach, a.at.placed.hi_high, a.at.placed.lo_low, a.at.placed.statics, a.at.placed.code_low)

  stores : List Store
  stores = stores-of o d s.from most (members gr) each

  law : Checked m r first past STORE_FAULT r (IsIn d.lo end-less (sum_of x (reg r n))) (IsOut d.lo end-less (sum_of x (reg r n))) (Reaches m r first past (stores_after n m r stores).0 (stores_after n m r stores).1)
  unfolding stores
  law = group m r first past n x d.lo end-less most stores at-store room (stores-at gr.head gr.rest each (first + 26) parts.1 refl)

  -- ---- where the check fails

  -- that of a line's store
  fails-by : (l : Line) (h : StoresBehind o s.from most l) → Fails o d low top m r (check_of o l) ≡ IsOut d.lo d.hi (sum_of (sum_of x (difference s.from.index h.index)) (reg r n))
  fails-by l h =
      ap (Fails o d low top m r) (check-is o d s.from most l h)
      ∙ ap (λ (v : ℕ). IsOut d.lo d.hi (sum_of v (reg r n))) (subst (λ (k : Option RelKind). word_in_place o d h.index k ≡ sum_of x (difference s.from.index h.index)) (sym h.kind) (ahead-placed o d s.from.index h.index s.from.kind s.kind s.word h.word))

  bounds : (d.hi ≤ 65529) × (most ≤ 6)
  bounds = (omega (arith, a.at.placed.hi_high), near-is s.reach)

  -- the first store's
  first-fails : IsOut d.lo d.hi (sum_of x (reg r n)) → AnyFails o d low top m r gr
  first-fails out =
      let h : StoresBehind o s.from most gr.head = each.0 in
      let zero' : difference s.from.index h.index ≡ 0 = sym h.ahead ∙ s.first in
      let same : sum_of (sum_of x (difference s.from.index h.index)) (reg r n) ≡ sum_of x (reg r n) = omega (arith, zero') in
      (0, gr.head, omega arith, refl, subst (λ (T : Type 0). T) (sym (fails-by gr.head h)) (subst (IsOut d.lo d.hi) (sym same) out))

  -- the farthest one's
  last-fails : end-less ≤ sum_of x (reg r n) → sum_of x (reg r n) < d.hi → AnyFails o d low top m r gr
  last-fails more less =
      let f = s.reached in
      let l : Line = f.1 in
      let h : StoresBehind o s.from most l = All-contains (StoresBehind o s.from most) (members gr) l s.each (f.0, f.2, f.3) in
      let far : difference s.from.index h.index ≡ most = sym h.ahead ∙ f.4 in
      let out : d.hi ≤ sum_of (sum_of x (difference s.from.index h.index)) (reg r n) = omega (arith, far, more, less, bounds.0, bounds.1) in
      (f.0, l, f.2, f.3, subst (λ (T : Type 0). T) (sym (fails-by l h)) (inr out))

  some-fails : IsOut d.lo end-less (sum_of x (reg r n)) → AnyFails o d low top m r gr
  some-fails (inl below) = first-fails (inl below)
  some-fails (inr above) = elim (cases_lt (sum_of x (reg r n)) d.hi) [ inl less ↦ last-fails above less | inr more ↦ first-fails (inr more) ]

  none-fails : IsIn d.lo end-less (sum_of x (reg r n)) → AnyFails o d low top m r gr → ⊥
  none-fails in' f =
      let l : Line = f.1 in
      let h : StoresBehind o s.from most l = All-contains (StoresBehind o s.from most) (members gr) l s.each (f.0, f.2, f.3) in
      let out : IsOut d.lo d.hi (sum_of (sum_of x (difference s.from.index h.index)) (reg r n)) = subst (λ (T : Type 0). T) (fails-by l h) f.4 in
      elim out [ inl b ↦ omega (arith, b, in'.0, in'.1, h.near, bounds.0, bounds.1) | inr b ↦ omega (arith, b, in'.0, in'.1, h.near, bounds.0, bounds.1) ]

  worked : Reaches m r first past (stores_after n m r stores).0 (stores_after n m r stores).1 → Works o d m r gr
  unfolding stores
  worked e =
      let same : source_after o d m r (members gr) ≡ stores_after n m r (stores-of o d s.from most (members gr) each) = after-is o d s.from most (members gr) each m r in
      subst (λ (t : List ℕ × List ℕ). Reaches m r first past t.0 t.1 → Works o d m r gr) same (λ w. record { x = w.x; y = w.y; runs = w.runs; lands = w.there }) e

  ends : Outcome (IsIn d.lo end-less (sum_of x (reg r n))) (IsOut d.lo end-less (sum_of x (reg r n))) → GroupEnds o d low top m r gr
  ends (inl out) = Stopped (some-fails out) (law.halts out)
  ends (inr in') = Worked (none-fails in'.0) (worked (law.goes in'.0))

pub groups-end : RowLaws → GroupUnitLaw → GroupsStore → UnitStandsLaw → GroupEndsLaw
groups-end g group store stand o q i d low top m r gr e at more =
    let here : IsHereOf o d low top m r gr = here_of o q i d low top m r gr e at in
    let s : StoresTogether o gr = store o d.object here.inserted gr at.group more in
    ends g group o d low top m r gr here (stand o q i d low top m r gr e at) s (of-store d.lo (d.hi - reach_bytes s.reach) (sum_of (word_in_place o d s.from.index s.from.kind) (reg r s.from.base)))

-- Where units start no guard lies over the place; what a guard stands before is guarded.
use Rattle.std.proofs.Common.{◌≡◌, ℕ, zero, suc, ◌+◌, ◌<◌, ◌≤◌, List, [], ◌∷◌, ◌++◌, length, take, drop, get_or, slice_index, Option, None, refl, sym, subst, ap, ◌∙◌, arith}
use Rattle.std.specs.List.{AllByRecursion, flat_map}
use Rattle.std.proofs.lemmas.List.{append_assoc, append-nil, length-append, drop_more}
use Rattle.std.proofs.lemmas.List.Concat.{flat_map-append}
use Rattle.msp_encode.specs.declared.instr.Op2.{Op2}
use Rattle.msp_encode.specs.declared.instr.Width.{Width}
use Rattle.msp_encode.specs.declared.instr.Src.{Src}
use Rattle.msp_encode.specs.declared.instr.Src.TheVariants as src
use Rattle.msp_encode.specs.declared.instr.Dst.{Dst}
use Rattle.msp_encode.specs.declared.instr.Dst.TheVariants as dst
use Rattle.msp_encode.specs.declared.instr.Instr.{Instr}
use Rattle.msp_encode.specs.declared.instr.Instr.TheVariants as instr
use Rattle.msp_encode.specs.Spelling.{Spells, src_words}
use Rattle.msp_decode.specs.Laws.{OneInstruction, FirstWordDecides}
use Rattle.code_model.specs.declared.object.Object.{Object}
use Rattle.code_model.specs.declared.parts.RelKind.{RelKind}
use Rattle.code_model.specs.Fields.{fields}
use Rattle.code_model.specs.declared.guards.GuardKind.{GuardKind}
use Rattle.code_model.specs.declared.guards.GuardKind.TheVariants as guard
use Rattle.code_model.specs.Starts.{Begins, Stands, Start}
use Rattle.code_model.specs.Relocs.{Unrelocated}
use Rattle.code_model.specs.Rules.{WritesMemory}
use Rattle.code_model.specs.Guards.{reach_bytes, guard_words, FitAll, ServesAt, Run, Guarded, CoversBy, Covers, Covered, OwnBy, Own, UnitStart}
use Rattle.code_laws.specs.Laws.{IsSame, OneStands, IsOneGuard, GuardsApart}
use Rattle.code_laws.proofs.Begins.{guard_begins}
use Rattle.code_laws.proofs.Runs.{first_before, served_alone, AlsoGuarded, also_guarded}
use Rattle.insert_model.specs.declared.piece.Piece.{Piece}
use Rattle.insert_model.specs.declared.piece.Word.{Word}
use Rattle.msp_encode.specs.Spelled.{count}
use Rattle.insert_model.specs.Words.{piece_words, unit_words}
use Rattle.insert_model.specs.Layout.{place_map}
use Rattle.insert_model.specs.Guards.{save}
use Rattle.insert_laws.specs.Pieces.{pieces, standing, PieceAt}
use Rattle.insert_laws.specs.Laws.{kind_in, PiecesStand}
use Rattle.insert_laws.specs.Shapes.{saving, IsGuard, IsServed, Shaped}
use Rattle.insert_laws.proofs.GuardWords.{guard_fits, guard_length, IsWordsOf, no_reloc, fit_all}
use Rattle.insert_laws.proofs.Standing.{count_piece}
use Rattle.insert_laws.proofs.Guarding.{heads, tails, HasTail, guard_tail, unit_words_append, span, span_append, span_cons, span_none, piece_least, size_span, Found, save_found, IsServedBy, first_served}
use Rattle.insert_laws.proofs.Roles.{memory_back}
use Rattle.insert_laws.proofs.ServedForms.{LastPlain, IsStoreTo, serves_at, wide_memory}

-- ---- two cuts of one list

record Within (a x : List Piece) (r : Piece) : Type 0 where
  more : List Piece
  are : a ≡ x ++ r ∷ more

within : (a c x : List Piece) (r : Piece) (y : List Piece) → a ++ c ≡ x ++ r ∷ y → span x < span a → Within a x r
within [] c x r y e less = absurd (omega (arith, span_none))
within (m ∷ a) c [] r y e less = record { more = a; are = ap (λ (n : Piece). n ∷ a) (heads m r (a ++ c) y e) }
within (m ∷ a) c (n ∷ x) r y e less =
    let h : m ≡ n = heads m n (a ++ c) (x ++ r ∷ y) e in
    let same : length (piece_words m) ≡ length (piece_words n) = ap (λ (p : Piece). length (piece_words p)) h in
    let w : Within a x r = within a c x r y (tails m n (a ++ c) (x ++ r ∷ y) e) (omega (arith, span_cons m a, span_cons n x, same)) in
    record { more = w.more; are = λ j. h j ∷ w.are j }

-- ---- the instruction 4205

saving_spelled : Spells saving (0x4205 ∷ [])
saving_spelled = spells_saving
  where
    spells_saving : Spells saving (0x4205 ∷ [])
    spells_saving = (record { op_code = refl; width_bit = refl; source = (refl, refl, λ e. omega arith); destination = (refl, refl) }, refl)

is_saving : OneInstruction → FirstWordDecides → (i : Instr) (w : ℕ) (ws : List ℕ) → Spells i (w ∷ ws) → w ≡ 0x4205 → i ≡ saving
is_saving one decides i w ws h e =
    let s : Spells i (0x4205 ∷ ws) = subst (λ (x : ℕ). Spells i (x ∷ ws)) e h in
    let none : List ℕ = [] in let n : length ws ≡ length none = sym ((decides i 0x4205 ws [] s).0 (saving, saving_spelled)) in
    empty ws (omega arith) s
  where
    empty : (vs : List ℕ) → length vs ≡ 0 → Spells i (0x4205 ∷ vs) → i ≡ saving
    empty [] n s = one i saving (0x4205 ∷ []) s saving_spelled
    empty (v ∷ vs) n s = absurd (omega arith)

stands_saving : OneInstruction → FirstWordDecides → (code : List ℕ) (at : ℕ) (i : Instr) (n : ℕ) → at < length code → Stands code at i n → slice_index code at ≡ 0x4205 → i ≡ saving
stands_saving one decides code at i n inside h e =
    let cut : drop at code ≡ get_or code at 0 ∷ drop (at + 1) code = drop_more code at 0 inside in
    let b : Begins (get_or code at 0 ∷ drop (at + 1) code) i n = subst (λ (ws : List ℕ). Begins ws i n) cut h in
    by n b
  where
    by : (n : ℕ) → Begins (get_or code at 0 ∷ drop (at + 1) code) i n → i ≡ saving
    by zero b = absurd b.1
    by (suc n) b = is_saving one decides i (get_or code at 0) (take n (drop (at + 1) code)) b.1 e

-- ---- the relocations of a piece's words

kind_past : (us vs : List Word) (m : ℕ) → kind_in (us ++ vs) (length us + m) ≡ kind_in vs m
kind_past [] vs m = let e : 0 + m ≡ m = omega arith in ap (kind_in vs) e
kind_past (u ∷ us) vs m = let e : length (u ∷ us) + m ≡ suc (length us + m) = omega arith in ap (kind_in (u ∷ (us ++ vs))) e ∙ kind_past us vs m

kind_front : (us vs : List Word) (m : ℕ) → m < length us → kind_in (us ++ vs) m ≡ kind_in us m
kind_front [] vs m h = absurd (omega arith)
kind_front (u ∷ us) vs zero h = refl
kind_front (u ∷ us) vs (suc m) h = kind_front us vs m (omega arith)

pub kind_of_piece : (a : List Piece) (p : Piece) (b : List Piece) (m : ℕ) → m < length (piece_words p) → kind_in (unit_words (a ++ p ∷ b)) (span a + m) ≡ kind_in (piece_words p) m
unfolding span unit_words
kind_of_piece a p b m h =
    ap (λ (ws : List Word). kind_in ws (length (flat_map piece_words a) + m)) (flat_map-append piece_words a (p ∷ b))
    ∙ kind_past (flat_map piece_words a) (piece_words p ++ flat_map piece_words b) m ∙ kind_front (piece_words p) (flat_map piece_words b) m h

index_kind : (op : Op2) (w : Width) (s : Src) (x : ℕ) (j k : Option RelKind)
    → kind_in (piece_words (record { instr = instr.Two op w s (dst.Indexed 4 x); source = j; destination = k })) (1 + length (src_words s)) ≡ k
unfolding piece_words
index_kind op w (src.Reg n) x j k = refl
index_kind op w (src.Indexed n y) x j k = refl
index_kind op w (src.Symbolic y) x j k = refl
index_kind op w (src.Absolute y) x j k = refl
index_kind op w (src.Indirect n) x j k = refl
index_kind op w (src.AutoInc n) x j k = refl
index_kind op w (src.Immediate y) x j k = refl
index_kind op w (src.Const c) x j k = refl

index_inside : (op : Op2) (w : Width) (s : Src) (x : ℕ) (j k : Option RelKind)
    → 1 + length (src_words s) < length (piece_words (record { instr = instr.Two op w s (dst.Indexed 4 x); source = j; destination = k }))
unfolding piece_words
index_inside op w (src.Reg n) x j k = omega arith
index_inside op w (src.Indexed n y) x j k = omega arith
index_inside op w (src.Symbolic y) x j k = omega arith
index_inside op w (src.Absolute y) x j k = omega arith
index_inside op w (src.Indirect n) x j k = omega arith
index_inside op w (src.AutoInc n) x j k = omega arith
index_inside op w (src.Immediate y) x j k = omega arith
index_inside op w (src.Const c) x j k = omega arith

module _ (one : OneInstruction) (decides : FirstWordDecides) (F : Piece → Type 0) (o q : Object) (stand : PiecesStand o q) (words : IsWordsOf o q (unit_words (pieces (fields o))))
    (free_not : (p : Piece) → F p → standing (place_map (fields o)) p ≡ saving → ⊥) where
  piece_at : (a : List Piece) (p : Piece) (b : List Piece) → pieces (fields o) ≡ a ++ p ∷ b → PieceAt (fields o) (span a)
  piece_at a p b e = record { before = a; piece = p; after = b; are = e; place = sym (size_span (place_map (fields o)) a) }

  pub starts_at : (a : List Piece) (p : Piece) (b : List Piece) → pieces (fields o) ≡ a ++ p ∷ b → Start q.code (span a)
  starts_at a p b e = stand.begins (span a) (piece_at a p b e)

  pub stands_at : (a : List Piece) (p : Piece) (b : List Piece) → pieces (fields o) ≡ a ++ p ∷ b → Stands q.code (span a) (standing (place_map (fields o)) p) (count (standing (place_map (fields o)) p))
  unfolding piece_at
  stands_at a p b e = stand.stands (span a) (piece_at a p b e)

  -- a guard's words fit where its pieces stand
  pub guard_fit : (a : List Piece) (g : GuardKind) (gs : List Piece) (b : List Piece) → IsGuard g gs → pieces (fields o) ≡ a ++ (gs ++ b) → FitAll q (span a) (guard_words g)
  unfolding span
  guard_fit a g gs b is e =
      let f : unit_words (pieces (fields o)) ≡ unit_words a ++ (unit_words gs ++ unit_words b) =
      ap unit_words e ∙ unit_words_append a (gs ++ b) ∙ ap (λ (ws : List Word). unit_words a ++ ws) (unit_words_append gs b) in
      fit_all o q (unit_words (pieces (fields o))) words (unit_words a) (unit_words gs) (unit_words b) (guard_words g) f (guard_fits g gs is)

  last_plain : (a : List Piece) (i : Instr) (j k : Option RelKind) (b : List Piece) → pieces (fields o) ≡ a ++ record { instr = i; source = j; destination = k } ∷ b → (x : ℕ) → IsStoreTo x k i → LastPlain q (span a) i
  last_plain a (instr.Two op w s d) j k b e x h =
      let f : pieces (fields o) ≡ a ++ record { instr = instr.Two op w s (dst.Indexed 4 x); source = j; destination = k } ∷ b =
      e ∙ ap (λ (y : Dst). a ++ record { instr = instr.Two op w s y; source = j; destination = k } ∷ b) h.0 in
      let n : span a + (1 + length (src_words s)) ≡ span a + 1 + length (src_words s) = omega arith in
      let g : kind_in (unit_words (pieces (fields o))) (span a + (1 + length (src_words s))) ≡ None =
      ap (λ (ps : List Piece). kind_in (unit_words ps) (span a + (1 + length (src_words s)))) f
      ∙ kind_of_piece a (record { instr = instr.Two op w s (dst.Indexed 4 x); source = j; destination = k }) b (1 + length (src_words s)) (index_inside op w s x j k) ∙ index_kind op w s x j k ∙ h.1 in
      subst (Unrelocated q.relocs) n (no_reloc o q (unit_words (pieces (fields o))) words (span a + (1 + length (src_words s))) g)
  last_plain a (instr.One op w s) j k b e x h = tt
  last_plain a instr.Reti j k b e x h = tt
  last_plain a (instr.Jump c n) j k b e x h = tt

  guard_starts : (a : List Piece) (g : GuardKind) (gs : List Piece) (b : List Piece) → IsGuard g gs → pieces (fields o) ≡ a ++ (gs ++ b) → Start q.code (span a)
  guard_starts a g gs b is e =
      let t : HasTail (place_map (fields o)) gs = guard_tail (place_map (fields o)) g gs is in
      starts_at a save (t.behind ++ b) (e ∙ ap (λ (ys : List Piece). a ++ (ys ++ b)) t.are)

  guard_end : (a : List Piece) (g : GuardKind) (gs : List Piece) → IsGuard g gs → span a + length (guard_words g) ≡ span (a ++ gs)
  unfolding span
  guard_end a g gs is = omega (arith, ap length (unit_words_append a gs), length-append (unit_words a) (unit_words gs), guard_length g gs is)

  -- a piece that a guard serves, where it stands
  serves_here : (g : GuardKind) (first : ℕ) (x : List Piece) (p : Piece) (b : List Piece) → IsServed g p → pieces (fields o) ≡ x ++ p ∷ b → ServesAt g q first (span x)
  serves_here g first x p b h e = record {
    instr = standing (place_map (fields o)) p;
    words = count (standing (place_map (fields o)) p);
    stands = stands_at x p b e;
    serves = serves_at q first (span x) (place_map (fields o)) g p h (last_plain x p.instr p.source p.destination b e);
  }

  -- those that it serves are a run
  run_on : (g : GuardKind) (first base n : ℕ) (x post rest : List Piece) → AllByRecursion (IsServed g) post → pieces (fields o) ≡ (x ++ post) ++ rest → Run g q first base n (span x)
      → Run g q first base (n + length post) (span (x ++ post))
  unfolding serves_here
  run_on g first base n x [] rest h e r =
      let m : n ≡ n + 0 = omega arith in
      subst (λ (ys : List Piece). Run g q first base (n + 0) (span ys)) (sym (append-nil x)) (subst (λ (k : ℕ). Run g q first base k (span x)) m r)
  run_on g first base n x (p ∷ post) rest h e r =
      let cut : (x ++ p ∷ []) ++ post ≡ x ++ p ∷ post = append_assoc x (p ∷ []) post in
      let at : pieces (fields o) ≡ x ++ p ∷ (post ++ rest) = e ∙ append_assoc x (p ∷ post) rest in
      let s : ServesAt g q first (span x) = serves_here g first x p (post ++ rest) h.0 at in
      let ends : span (x ++ p ∷ []) ≡ span x + count (standing (place_map (fields o)) p) =
      omega (arith, span_append x (p ∷ []), span_cons p [], span_none, count_piece (place_map (fields o)) p) in
      let next : Run g q first base (suc n + length post) (span ((x ++ p ∷ []) ++ post)) =
      run_on g first base (suc n) (x ++ p ∷ []) post rest h.1 (e ∙ ap (λ (ys : List Piece). ys ++ rest) (sym cut)) (on g first base n x p (post ++ rest) h.0 at ends r) in
      let m : suc n + length post ≡ n + length (p ∷ post) = omega arith in
      subst (λ (ys : List Piece). Run g q first base (n + length (p ∷ post)) (span ys)) cut (subst (λ (k : ℕ). Run g q first base k (span ((x ++ p ∷ []) ++ post))) m next)
    where
      on : (g : GuardKind) (first base n : ℕ) (x : List Piece) (p : Piece) (b : List Piece) (h : IsServed g p) (e : pieces (fields o) ≡ x ++ p ∷ b) → span (x ++ p ∷ []) ≡ span x + count (standing (place_map (fields o)) p)
          → Run g q first base n (span x) → Run g q first base (suc n) (span (x ++ p ∷ []))
      on g first base n x p b h e ends r = (span x, r, (serves_here g first x p b h e, ends))

  -- what a guard serves is guarded
  pub served_guarded : (x a : List Piece) (g : GuardKind) (gs done : List Piece) (p : Piece) (b : List Piece) → IsServedBy q.version g gs done p → pieces (fields o) ≡ x ++ p ∷ b → x ≡ a ++ (gs ++ done)
      → Guarded q (span x) g
  served_guarded x a g gs done p b h e ex =
      let behind : pieces (fields o) ≡ ((a ++ gs) ++ done) ++ p ∷ b = e ∙ ap (λ (ys : List Piece). ys ++ p ∷ b) (ex ∙ sym (append_assoc a gs done)) in
      let whole : pieces (fields o) ≡ a ++ (gs ++ (done ++ p ∷ b)) = behind ∙ append_assoc (a ++ gs) done (p ∷ b) ∙ append_assoc a gs (done ++ p ∷ b) in
      let run : Run g q (span a) (span (a ++ gs)) (0 + length done) (span ((a ++ gs) ++ done)) = run_on g (span a) (span (a ++ gs)) 0 (a ++ gs) done (p ∷ b) h.before behind refl in
      let n : 0 + length done ≡ length done = omega arith in
      record {
        start = starts_at x p b e;
        first = span a;
        base = span (a ++ gs);
        ends = guard_end a g gs h.is;
        begins = guard_starts a g gs (done ++ p ∷ b) h.is whole;
        fit = guard_fit a g gs (done ++ p ∷ b) h.is whole;
        known = h.known;
        before = length done;
        few = h.few;
        run = subst (λ (ys : List Piece). Run g q (span a) (span (a ++ gs)) (length done) (span ys)) (append_assoc a gs done ∙ sym ex)
            (subst (λ (k : ℕ). Run g q (span a) (span (a ++ gs)) k (span ((a ++ gs) ++ done))) n run);
        instr = standing (place_map (fields o)) p;
        words = count (standing (place_map (fields o)) p);
        stands = stands_at x p b e;
        serves = serves_at q (span a) (span x) (place_map (fields o)) g p h.serves (last_plain x p.instr p.source p.destination b e);
      }

  served_first : (x a : List Piece) (g : GuardKind) (gs done : List Piece) (p : Piece) (b : List Piece) (h : IsServedBy q.version g gs done p) (e : pieces (fields o) ≡ x ++ p ∷ b) (ex : x ≡ a ++ (gs ++ done))
      → (served_guarded x a g gs done p b h e ex).first ≡ span a
  unfolding served_guarded
  served_first x a g gs done p b h e ex = refl

  served_base : (x a : List Piece) (g : GuardKind) (gs done : List Piece) (p : Piece) (b : List Piece) (h : IsServedBy q.version g gs done p) (e : pieces (fields o) ≡ x ++ p ∷ b) (ex : x ≡ a ++ (gs ++ done))
      → (served_guarded x a g gs done p b h e ex).base ≡ span (a ++ gs)
  unfolding served_guarded
  served_base x a g gs done p b h e ex = refl

  -- what stands directly behind a guard
  behind_guard : (a gs : List Piece) → a ++ gs ≡ a ++ (gs ++ [])
  behind_guard a gs = ap (λ (ys : List Piece). a ++ ys) (sym (append-nil gs))

  pub next_guarded : (a : List Piece) (g : GuardKind) (gs : List Piece) (p : Piece) (b : List Piece) → IsServedBy q.version g gs [] p → pieces (fields o) ≡ a ++ (gs ++ p ∷ b) → Guarded q (span (a ++ gs)) g
  next_guarded a g gs p b h e = served_guarded (a ++ gs) a g gs [] p b h (e ∙ sym (append_assoc a gs (p ∷ b))) (behind_guard a gs)

  pub next_first : (a : List Piece) (g : GuardKind) (gs : List Piece) (p : Piece) (b : List Piece) (h : IsServedBy q.version g gs [] p) (e : pieces (fields o) ≡ a ++ (gs ++ p ∷ b)) → (next_guarded a g gs p b h e).first ≡ span a
  unfolding next_guarded
  next_first a g gs p b h e = served_first (a ++ gs) a g gs [] p b h (e ∙ sym (append_assoc a gs (p ∷ b))) (behind_guard a gs)

  next_base : (a : List Piece) (g : GuardKind) (gs : List Piece) (p : Piece) (b : List Piece) (h : IsServedBy q.version g gs [] p) (e : pieces (fields o) ≡ a ++ (gs ++ p ∷ b)) → (next_guarded a g gs p b h e).base ≡ span (a ++ gs)
  unfolding next_guarded
  next_base a g gs p b h e = served_base (a ++ gs) a g gs [] p b h (e ∙ sym (append_assoc a gs (p ∷ b))) (behind_guard a gs)

  -- a guard's own words are its own
  pub own_covered : (a : List Piece) (g : GuardKind) (x : List Piece) (m : Piece) (y : List Piece) (p : Piece) (b : List Piece) → IsServedBy q.version g (x ++ m ∷ y) [] p
      → pieces (fields o) ≡ a ++ ((x ++ m ∷ y) ++ p ∷ b) → Own q (span (a ++ x))
  unfolding Own OwnBy
  own_covered a g x m y p b h e =
      let s : Guarded q (span (a ++ (x ++ m ∷ y))) g = next_guarded a g (x ++ m ∷ y) p b h e in
      let first : s.first ≡ span a = next_first a g (x ++ m ∷ y) p b h e in
      let base : s.base ≡ span (a ++ (x ++ m ∷ y)) = next_base a g (x ++ m ∷ y) p b h e in (
        span (a ++ (x ++ m ∷ y)),
        (g, (s, (omega (arith, first, span_append a x), omega (arith, base, span_append a (x ++ m ∷ y), span_append x (m ∷ y), span_cons m y, piece_least m, span_append a x)))),
      )

  -- the piece where a guard begins saves the status
  pub saves_at : (at : ℕ) (g : GuardKind) (h : Guarded q at g) (p : PieceAt (fields o) h.first) → standing (place_map (fields o)) p.piece ≡ saving
  saves_at at g h p =
      stands_saving one decides q.code h.first (standing (place_map (fields o)) p.piece) (count (standing (place_map (fields o)) p.piece)) h.begins.below (stand.stands h.first p) (guard_begins q h.first g h.fit)

  module _ (same : OneStands) (apart : GuardsApart) where
    -- a guard of another kind than a wide one serves what stands directly behind it, and a wide one only what writes memory
    not_served : (at : ℕ) (p : Piece) (k : GuardKind) (gs : List Piece) → IsGuard k gs → (WritesMemory p.instr → ⊥) → Stands q.code at (standing (place_map (fields o)) p) (count (standing (place_map (fields o)) p))
        → (j : Guarded q at k) → j.base < at → ⊥
    not_served at p guard.Store gs is quiet st j less = omega (arith, less, served_alone q at guard.Store j refl)
    not_served at p (guard.Wide r) gs is quiet st j less =
        let s : IsSame j.instr (standing (place_map (fields o)) p) j.words (count (standing (place_map (fields o)) p)) =
        same q.code at j.instr (standing (place_map (fields o)) p) j.words (count (standing (place_map (fields o)) p)) j.stands st in
        quiet (memory_back (place_map (fields o)) p (subst WritesMemory s.instr (wide_memory (reach_bytes r) q at j.instr j.serves)))
    not_served at p guard.Load gs is quiet st j less = is
    not_served at p guard.Growth gs is quiet st j less = omega (arith, less, served_alone q at guard.Growth j refl)
    not_served at p guard.Pop gs is quiet st j less = omega (arith, less, served_alone q at guard.Pop j refl)
    not_served at p guard.Sp gs is quiet st j less = omega (arith, less, served_alone q at guard.Sp j refl)

    -- a guard that begins in front of a place, where shaped pieces end, serves nothing there or behind, if what stands there
    -- doesn't write memory
    over_found : (a : List Piece) (p : Piece) (b x : List Piece) → pieces (fields o) ≡ a ++ p ∷ b → (WritesMemory p.instr → ⊥) → Found q.version a x → (guarded : ℕ) (g : GuardKind) (h : Guarded q guarded g) → h.first ≡ span x
        → span a ≤ guarded → ⊥
    over_found a p b x e quiet f guarded g h place late =
        let served : List Piece = f.piece ∷ f.more in
        let whole : pieces (fields o) ≡ x ++ (f.guards ++ (f.piece ∷ ((f.more ++ f.rest) ++ p ∷ b))) =
        e ∙ ap (λ (ys : List Piece). ys ++ p ∷ b) f.are ∙ append_assoc x (f.guards ++ (f.piece ∷ (f.more ++ f.rest))) (p ∷ b)
        ∙ ap (λ (ys : List Piece). x ++ ys) (append_assoc f.guards (f.piece ∷ (f.more ++ f.rest)) (p ∷ b)) in
        let by : IsServedBy q.version f.kind f.guards [] f.piece = first_served q.version f.kind f.guards f.piece f.more f.serves in
        let s : Guarded q (span (x ++ f.guards)) f.kind = next_guarded x f.kind f.guards f.piece ((f.more ++ f.rest) ++ p ∷ b) by whole in
        let first : s.first ≡ span x = next_first x f.kind f.guards f.piece ((f.more ++ f.rest) ++ p ∷ b) by whole in
        let is : IsOneGuard q guarded (span (x ++ f.guards)) g f.kind h s =
        apart q guarded (span (x ++ f.guards)) h.first g f.kind h s (omega arith) (omega (arith, first_before q guarded g h)) (omega (arith, first, place)) (omega (arith, place, span_append x f.guards)) in
        let long : span a ≡ span x + (span f.guards + (length (piece_words f.piece) + span (f.more ++ f.rest))) =
        ap span f.are ∙ span_append x (f.guards ++ (f.piece ∷ (f.more ++ f.rest)))
        ∙ ap (λ (n : ℕ). span x + n) (span_append f.guards (f.piece ∷ (f.more ++ f.rest)) ∙ ap (λ (n : ℕ). span f.guards + n) (span_cons f.piece (f.more ++ f.rest))) in
        by_kind f.kind is.kind (guard_end x f.kind f.guards by.is) by.is (omega (arith, long, span_append x f.guards, piece_least f.piece))
      where
        served_not : (k : GuardKind) → g ≡ k → IsGuard k f.guards → (j : Guarded q (span a) g) → j.base < span a → ⊥
        served_not k same' is j less = not_served (span a) p g f.guards (subst (λ (c : GuardKind). IsGuard c f.guards) (sym same') is) quiet (stands_at a p b e) j less

        by_kind : (k : GuardKind) → g ≡ k → span x + length (guard_words k) ≡ span (x ++ f.guards) → IsGuard k f.guards → span (x ++ f.guards) < span a → ⊥
        by_kind k same' ends is less =
            let words : length (guard_words g) ≡ length (guard_words k) = ap (λ (c : GuardKind). length (guard_words c)) same' in
            let base : h.base ≡ span (x ++ f.guards) = omega (arith, h.ends, words, place, ends) in
            let also : AlsoGuarded q guarded (span a) g h = also_guarded q guarded (span a) g h (starts_at a p b e) (omega (arith, base, less)) late in
            let ends' : also.guarded.first + length (guard_words g) ≡ also.guarded.base = also.guarded.ends in
            served_not k same' is also.guarded (omega (arith, ends', also.first, h.ends, base, less))

    not_covered : (a : List Piece) (p : Piece) (b : List Piece) → pieces (fields o) ≡ a ++ p ∷ b → Shaped F q.version a → (WritesMemory p.instr → ⊥) → Covered q (span a) → ⊥
    unfolding Covered Covers CoversBy
    not_covered a p b e shape quiet (guarded, late, (g, (h, early))) =
        let pa : PieceAt (fields o) h.first = stand.starts h.first h.begins in
        let place : h.first ≡ span pa.before = pa.place ∙ size_span (place_map (fields o)) pa.before in
        let w : Within a pa.before pa.piece = within a (p ∷ b) pa.before pa.piece pa.after (sym e ∙ pa.are) (omega (arith, place, early)) in
        let f : Found q.version a pa.before = save_found (place_map (fields o)) q.version F free_not a pa.before pa.piece w.more shape w.are (saves_at guarded g h pa) in
        over_found a p b pa.before e quiet f guarded g h place late

    -- so a unit starts there
    pub unit_start : (a : List Piece) (p : Piece) (b : List Piece) → pieces (fields o) ≡ a ++ p ∷ b → Shaped F q.version a → (WritesMemory p.instr → ⊥) → UnitStart q (span a)
    unit_start a p b e shape quiet = (starts_at a p b e, λ i. not_covered a p b e shape quiet i.1)

-- What is fetched where the words of a piece stand.
use Rattle.std.proofs.Common.{◌≡◌, ℕ, ◌+◌, ◌*◌, ◌≤◌, nat_eq, Bool, true, false, List, [], ◌∷◌, ◌++◌, length, map, take, Option, None, refl, sym, ap, ◌∙◌, subst, arith}
use Rattle.std.specs.Prelude.{if◌then◌else◌}
use Rattle.std.proofs.lemmas.List.{map-append, length-map}
use Rattle.msp_encode.specs.declared.instr.Src.{Src}
use Rattle.msp_encode.specs.declared.instr.Src.TheVariants as src
use Rattle.msp_encode.specs.declared.instr.Dst.{Dst}
use Rattle.msp_encode.specs.declared.instr.Dst.TheVariants as dst
use Rattle.msp_encode.specs.declared.instr.Op1.{Op1}
use Rattle.msp_encode.specs.declared.instr.Instr.{Instr}
use Rattle.msp_encode.specs.declared.instr.Instr.TheVariants as instr
use Rattle.msp_encode.specs.Spelling.{op2_code, op1_code, width_code, First, Spells, SrcFits, DstFits, Takes, InstrFits, words_after, src_words, dst_words}
use Rattle.machine_model.specs.Memory.{word_at}
use Rattle.machine_model.specs.Operands.{sum_of}
use Rattle.machine_model.specs.Fetching.{IsFetched}
use Rattle.code_model.specs.declared.object.Object.{Object}
use Rattle.code_model.specs.declared.parts.RelKind.{RelKind}
use Rattle.load_model.specs.Domains.{Domain}
use Rattle.insert_model.specs.declared.piece.Piece.{Piece}
use Rattle.msp_encode.specs.Spelled.{src_register, src_mode, dst_register, dst_mode, two_word, one_word, first_word, spelling, count}
use Rattle.insert_model.specs.Words.{with_kind, operand_words, piece_words}
use Rattle.insert_model.specs.Source.{own_piece}
use Rattle.msp_encode.specs.Laws.{SpellingLaw}
use Rattle.unit_laws.specs.Guards.{WordsAt}
use Rattle.placed_unit_laws.specs.Placed.{placed_word, placed_src, placed_dst, placed_instr, placed}

-- ---- lists of words in memory

pub words-append : (m : List ℕ) (at k : ℕ) (xs ys : List ℕ) → WordsAt m at k (xs ++ ys) → WordsAt m at k xs × WordsAt m at (k + 2 * length xs) ys
words-append m at k [] ys h = (tt, subst (λ (j : ℕ). WordsAt m at j ys) (omega arith) h)
words-append m at k (x ∷ xs) ys h =
    let r = words-append m at (k + 2) xs ys h.1 in
    ((h.0, r.0), subst (λ (j : ℕ). WordsAt m at j ys) (omega arith) r.1)

pub words-from : (m : List ℕ) (at k j : ℕ) (ws : List ℕ) → WordsAt m at (k + j) ws → WordsAt m (at + k) j ws
words-from m at k j [] h = tt
words-from m at k j (w ∷ ws) h =
    (ap (word_at m) (omega arith) ∙ h.0, words-from m at k (j + 2) ws (subst (λ (i : ℕ). WordsAt m at i ws) (omega arith) h.1))

-- the words behind others
pub words-behind : (m : List ℕ) (at next : ℕ) (xs ys : List ℕ) → WordsAt m at 0 (xs ++ ys) → next ≡ at + 2 * length xs → WordsAt m next 0 ys
words-behind m at next xs ys h e =
    subst (λ (a : ℕ). WordsAt m a 0 ys) (sym e) (words-from m at (2 * length xs) 0 ys (subst (λ (j : ℕ). WordsAt m at j ys) (omega arith) (words-append m at 0 xs ys h).1))

-- ---- an instruction is fetched where its words are

pub few-src : (s : Src) → length (src_words s) ≤ 1
few-src (src.Reg n) = omega arith
few-src (src.Indexed n x) = omega arith
few-src (src.Symbolic x) = omega arith
few-src (src.Absolute x) = omega arith
few-src (src.Indirect n) = omega arith
few-src (src.AutoInc n) = omega arith
few-src (src.Immediate x) = omega arith
few-src (src.Const c) = omega arith

few-dst : (d : Dst) → length (dst_words d) ≤ 1
few-dst (dst.Reg n) = omega arith
few-dst (dst.Indexed n x) = omega arith
few-dst (dst.Symbolic x) = omega arith
few-dst (dst.Absolute x) = omega arith

few-append : (xs ys : List ℕ) → length xs ≤ 1 → length ys ≤ 1 → length (xs ++ ys) ≤ 2
few-append [] ys h g = omega (arith, g)
few-append (x ∷ []) ys h g = omega (arith, g)
few-append (x ∷ (y ∷ xs)) ys h g = absurd (omega (arith, h))

pub few-words : (i : Instr) → length (words_after i) ≤ 2
few-words (instr.Two op w s d) = few-append (src_words s) (dst_words d) (few-src s) (few-dst d)
few-words (instr.One op w s) = omega (arith, few-src s)
few-words instr.Reti = omega arith
few-words (instr.Jump c k) = omega arith

behind : (m : List ℕ) (at : ℕ) (ws : List ℕ) → length ws ≤ 2 → WordsAt m at 2 ws → at + 2 * (1 + length ws) ≤ 65536 → take (length ws) (word_at m (sum_of at 2) ∷ word_at m (sum_of at 4) ∷ []) ≡ ws
behind m at [] f h b = refl
behind m at (x ∷ []) f h b = ap (λ (v : ℕ). v ∷ []) (ap (word_at m) (omega (arith, b)) ∙ h.0)
behind m at (x ∷ (y ∷ [])) f h b =
    ap (λ (v : ℕ). v ∷ word_at m (sum_of at 4) ∷ []) (ap (word_at m) (omega (arith, b)) ∙ h.0)
    ∙ ap (λ (v : ℕ). x ∷ v ∷ []) (ap (word_at m) (omega (arith, b)) ∙ h.1.0)
behind m at (x ∷ (y ∷ (z ∷ ws))) f h b = absurd (omega (arith, f))

pub spelled : SpellingLaw → (m : List ℕ) (at : ℕ) (i : Instr) → InstrFits i → WordsAt m at 0 (spelling i) → at + 2 * count i ≤ 65536 → IsFetched m at i (count i)
unfolding spelling
spelled law m at i f h b =
    let few = few-words i in
    let first = subst (First i) (sym (ap (word_at m) (omega arith) ∙ h.0)) (law i f).0 in
    from-three (word_at m at) (word_at m (sum_of at 2)) (word_at m (sum_of at 4)) i (words_after i) few first (behind m at (words_after i) few h.1 b) refl
  where
    from-three : (u v w : ℕ) (i : Instr) (ws : List ℕ) → length ws ≤ 2 → First i u → take (length ws) (v ∷ w ∷ []) ≡ ws → ws ≡ words_after i → (1 + length ws ≤ 3) × Spells i (take (1 + length ws) (u ∷ v ∷ w ∷ []))
    from-three u v w i [] few f e g = (omega arith, (f, g))
    from-three u v w i (x ∷ []) few f e g = (omega arith, (f, e ∙ g))
    from-three u v w i (x ∷ (y ∷ [])) few f e g = (omega arith, (f, e ∙ g))
    from-three u v w i (x ∷ (y ∷ (z ∷ ws))) few f e g = absurd (omega (arith, few))

-- ---- pieces

pub src-fits : (o : Object) (d : Domain) (k : Option RelKind) (s : Src) → SrcFits s → SrcFits (placed_src o d k s)
src-fits o d k (src.Reg n) f = f
src-fits o d k (src.Indexed n x) f = f
src-fits o d k (src.Symbolic x) f = f
src-fits o d k (src.Absolute x) f = f
src-fits o d k (src.Indirect n) f = f
src-fits o d k (src.AutoInc n) f = f
src-fits o d k (src.Immediate x) f = f
src-fits o d k (src.Const c) f = f

dst-fits : (o : Object) (d : Domain) (k : Option RelKind) (t : Dst) → DstFits t → DstFits (placed_dst o d k t)
dst-fits o d k (dst.Reg n) f = f
dst-fits o d k (dst.Indexed n x) f = f
dst-fits o d k (dst.Symbolic x) f = f
dst-fits o d k (dst.Absolute x) f = f

takes-placed : (o : Object) (d : Domain) (k : Option RelKind) (op : Op1) (s : Src) → Takes op s → Takes op (placed_src o d k s)
takes-placed o d k op (src.Reg n) f = f
takes-placed o d k op (src.Indexed n x) f = f
takes-placed o d k op (src.Symbolic x) f = f
takes-placed o d k op (src.Absolute x) f = f
takes-placed o d k op (src.Indirect n) f = f
takes-placed o d k op (src.AutoInc n) f = f
takes-placed o d k op (src.Immediate x) f = f
takes-placed o d k op (src.Const c) f = f

instr-fits : (o : Object) (d : Domain) (j k : Option RelKind) (i : Instr) → InstrFits i → InstrFits (placed_instr o d j k i)
instr-fits o d j k (instr.Two op w s t) f = (src-fits o d j s f.0, dst-fits o d k t f.1)
instr-fits o d j k (instr.One op w s) f = (src-fits o d j s f.0, f.1, takes-placed o d j op s f.2)
instr-fits o d j k instr.Reti f = f
instr-fits o d j k (instr.Jump c n) f = f

src-place : (o : Object) (d : Domain) (k : Option RelKind) (s : Src) → map (placed_word o d) (with_kind k (src_words s)) ≡ src_words (placed_src o d k s)
src-place o d k (src.Reg n) = refl
src-place o d k (src.Indexed n x) = refl
src-place o d k (src.Symbolic x) = refl
src-place o d k (src.Absolute x) = refl
src-place o d k (src.Indirect n) = refl
src-place o d k (src.AutoInc n) = refl
src-place o d k (src.Immediate x) = refl
src-place o d k (src.Const c) = refl

dst-place : (o : Object) (d : Domain) (k : Option RelKind) (t : Dst) → map (placed_word o d) (with_kind k (dst_words t)) ≡ dst_words (placed_dst o d k t)
dst-place o d k (dst.Reg n) = refl
dst-place o d k (dst.Indexed n x) = refl
dst-place o d k (dst.Symbolic x) = refl
dst-place o d k (dst.Absolute x) = refl

src-register : (o : Object) (d : Domain) (k : Option RelKind) (s : Src) → src_register s ≡ src_register (placed_src o d k s)
src-register o d k (src.Reg n) = refl
src-register o d k (src.Indexed n x) = refl
src-register o d k (src.Symbolic x) = refl
src-register o d k (src.Absolute x) = refl
src-register o d k (src.Indirect n) = refl
src-register o d k (src.AutoInc n) = refl
src-register o d k (src.Immediate x) = refl
src-register o d k (src.Const c) = refl

src-mode : (o : Object) (d : Domain) (k : Option RelKind) (s : Src) → src_mode s ≡ src_mode (placed_src o d k s)
src-mode o d k (src.Reg n) = refl
src-mode o d k (src.Indexed n x) = refl
src-mode o d k (src.Symbolic x) = refl
src-mode o d k (src.Absolute x) = refl
src-mode o d k (src.Indirect n) = refl
src-mode o d k (src.AutoInc n) = refl
src-mode o d k (src.Immediate x) = refl
src-mode o d k (src.Const c) = refl

dst-register : (o : Object) (d : Domain) (k : Option RelKind) (t : Dst) → dst_register t ≡ dst_register (placed_dst o d k t)
dst-register o d k (dst.Reg n) = refl
dst-register o d k (dst.Indexed n x) = refl
dst-register o d k (dst.Symbolic x) = refl
dst-register o d k (dst.Absolute x) = refl

dst-mode : (o : Object) (d : Domain) (k : Option RelKind) (t : Dst) → dst_mode t ≡ dst_mode (placed_dst o d k t)
dst-mode o d k (dst.Reg n) = refl
dst-mode o d k (dst.Indexed n x) = refl
dst-mode o d k (dst.Symbolic x) = refl
dst-mode o d k (dst.Absolute x) = refl

first-place : (o : Object) (d : Domain) (j k : Option RelKind) (i : Instr) → first_word i ≡ first_word (placed_instr o d j k i)
first-place o d j k (instr.Two op w s t) = λ z. two_word (op2_code op) (width_code w) (src-register o d j s z) (src-mode o d j s z) (dst-register o d k t z) (dst-mode o d k t z)
first-place o d j k (instr.One op w s) = λ z. one_word (op1_code op) (width_code w) (src-register o d j s z) (src-mode o d j s z)
first-place o d j k instr.Reti = refl
first-place o d j k (instr.Jump c n) = refl

operands-place : (o : Object) (d : Domain) (j k : Option RelKind) (i : Instr) → map (placed_word o d) (operand_words i j k) ≡ words_after (placed_instr o d j k i)
operands-place o d j k (instr.Two op w s t) = map-append (placed_word o d) (with_kind j (src_words s)) (with_kind k (dst_words t)) ∙ (λ z. src-place o d j s z ++ dst-place o d k t z)
operands-place o d j k (instr.One op w s) = src-place o d j s
operands-place o d j k instr.Reti = refl
operands-place o d j k (instr.Jump c n) = refl

-- the words of a piece in place are those of its instruction there
pub piece-place : (o : Object) (d : Domain) (p : Piece) → map (placed_word o d) (piece_words p) ≡ spelling (placed o d p)
unfolding piece_words spelling
piece-place o d p = λ z. first-place o d p.source p.destination p.instr z ∷ operands-place o d p.source p.destination p.instr z

pub src-count : (o : Object) (d : Domain) (k : Option RelKind) (s : Src) → length (src_words (placed_src o d k s)) ≡ length (src_words s)
src-count o d k (src.Reg n) = refl
src-count o d k (src.Indexed n x) = refl
src-count o d k (src.Symbolic x) = refl
src-count o d k (src.Absolute x) = refl
src-count o d k (src.Indirect n) = refl
src-count o d k (src.AutoInc n) = refl
src-count o d k (src.Immediate x) = refl
src-count o d k (src.Const c) = refl

pub dst-count : (o : Object) (d : Domain) (k : Option RelKind) (t : Dst) → length (dst_words (placed_dst o d k t)) ≡ length (dst_words t)
dst-count o d k (dst.Reg n) = refl
dst-count o d k (dst.Indexed n x) = refl
dst-count o d k (dst.Symbolic x) = refl
dst-count o d k (dst.Absolute x) = refl

pub count-place : (o : Object) (d : Domain) (p : Piece) → count (placed o d p) ≡ length (piece_words p)
unfolding spelling
count-place o d p = omega (arith, ap length (sym (piece-place o d p)) ∙ length-map (piece_words p) (placed_word o d))

pub piece-fetched : SpellingLaw → (o : Object) (d : Domain) (m : List ℕ) (at : ℕ) (p : Piece) → InstrFits p.instr → WordsAt m at 0 (map (placed_word o d) (piece_words p)) → at + 2 * length (piece_words p) ≤ 65536
    → IsFetched m at (placed o d p) (length (piece_words p))
piece-fetched law o d m at p f h b =
    let n = count-place o d p in
    subst (IsFetched m at (placed o d p)) n (spelled law m at (placed o d p) (instr-fits o d p.source p.destination p.instr f) (subst (WordsAt m at 0) (piece-place o d p) h) (omega (arith, n, b)))

same-either : (b : Bool) (p q : Piece) (i : Instr) → p.instr ≡ i → q.instr ≡ i → (if b then p else q).instr ≡ i
same-either true p q i e f = e
same-either false p q i e f = f

-- a line's own piece has its instruction
pub own-instr : (i : Instr) (j k : Option RelKind) → (own_piece i j k).instr ≡ i
own-instr (instr.Two op w s t) j k =
    same-either (nat_eq (length (src_words s)) 0) (record { instr = instr.Two op w s t; source = None; destination = j }) (record { instr = instr.Two op w s t; source = j; destination = k }) (instr.Two op w s t) refl refl
own-instr (instr.One op w s) j k = refl
own-instr instr.Reti j k = refl
own-instr (instr.Jump c n) j k = refl

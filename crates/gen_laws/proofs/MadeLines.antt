-- The starts and the lines of the code of blocks.
use Rattle.std.proofs.Common.{◌≡◌, ℕ, ◌+◌, ◌<◌, List, [], ◌∷◌, ◌++◌, length, drop, slice_index, refl, sym, ap, subst, ◌∙◌, append_assoc, length-append, arith}
use Rattle.std.proofs.lemmas.List.{append-nil, drop_all}
use Rattle.std.proofs.lemmas.List.Concat.{flat_map-append}
use Rattle.kernel_model.specs.declared.kinds.Kind.TheVariants.{App}
use Rattle.msp_encode.specs.declared.instr.Instr.{Instr}
use Rattle.code_model.specs.declared.object.Object.{Object}
use Rattle.code_model.specs.declared.parts.Reloc.{Reloc}
use Rattle.code_model.specs.Fields.{fields}
use Rattle.code_model.specs.Starts.{Stands, Start}
use Rattle.code_model.specs.Verdicts.{AllSpelled}
use Rattle.code_laws.specs.Laws.{OneStands}
use Rattle.insert_model.specs.declared.line.Line.{Line}
use Rattle.msp_encode.specs.Spelled.{count, spelling}
use Rattle.insert_model.specs.Source.{line_at, lines_from, lines}
use Rattle.insert_model.specs.Faults.{IsStartOffset}
use Rattle.insert_model.specs.Laws.{LineLaw}
use Rattle.insert_laws.specs.Pieces.{size_of}
use Rattle.insert_laws.proofs.Streams.{FitEach, words_of, size_push, size_none, size_is, spelling_length, stands_at, Cut, start_cut, cut_start, cut_stands}
use Rattle.insert_laws.proofs.CleanLines.{AllClean}
use Rattle.gen_model.specs.declared.block.Block as blocks
use Rattle.gen_model.specs.declared.block.Block.TheVariants as block
use Rattle.gen_model.specs.Blocks.{words}
use Rattle.gen_model.specs.Generated.{code_of, relocs_from}
use Rattle.gen_model.proofs.Sizes.{code_next, code_append}
use Rattle.gen_laws.specs.Instructions.{instrs, all_instrs, Suits, AllSuit}
use Rattle.gen_laws.proofs.Suiting.{Closed}
use Rattle.gen_laws.proofs.Words.{all_words, all_size, block_size, instrs_append, all_fit}
use Rattle.gen_laws.proofs.SecondWords.{KindsAre, kinds_are}
use Rattle.gen_laws.proofs.CleanBlocks.{lines_for, After, goes_on, block_clean}

-- ---- lines one behind another

below_end : (a : List Instr) (i : Instr) (b : List Instr) → size_of a < length (words_of (a ++ i ∷ b))
below_end a i b =
    omega (arith, ap length (flat_map-append spelling a (i ∷ b)), length-append (words_of a) (words_of (i ∷ b)), length-append (spelling i) (words_of b), size_is a, spelling_length i)

module _ (line : LineLaw) (relocs : List Reloc) where
  lines_behind : (a is : List Instr) → FitEach (a ++ is) → ((k : ℕ) → slice_index (words_of (a ++ is)) k < 65536)
      → lines_from relocs (size_of a) 0 (drop (size_of a) (words_of (a ++ is))) ≡ lines_for relocs (size_of a) is
  unfolding lines_from
  lines_behind a [] f small =
      let e : words_of (a ++ []) ≡ words_of a = ap words_of (append-nil a) in
      ap (lines_from relocs (size_of a) 0) (ap (drop (size_of a)) e ∙ drop_all (size_of a) (words_of a) (omega (arith, size_is a)))
  lines_behind a (i ∷ is) f small =
      let st = stands_at a i is f in
      let split : (a ++ i ∷ []) ++ is ≡ a ++ i ∷ is = append_assoc a (i ∷ []) is in
      let next : lines_from relocs (size_of (a ++ i ∷ [])) 0 (drop (size_of (a ++ i ∷ [])) (words_of ((a ++ i ∷ []) ++ is))) ≡ lines_for relocs (size_of (a ++ i ∷ [])) is =
      lines_behind (a ++ i ∷ []) is (subst FitEach (sym split) f) (subst (λ (js : List Instr). (k : ℕ) → slice_index (words_of js) k < 65536) (sym split) small) in
      let same : lines_from relocs (size_of a + count i) 0 (drop (size_of a + count i) (words_of (a ++ i ∷ is))) ≡ lines_for relocs (size_of a + count i) is =
      subst (λ (n : ℕ). lines_from relocs n 0 (drop n (words_of (a ++ i ∷ is))) ≡ lines_for relocs n is) (size_push a i)
      (subst (λ (js : List Instr). lines_from relocs (size_of (a ++ i ∷ [])) 0 (drop (size_of (a ++ i ∷ [])) (words_of js)) ≡ lines_for relocs (size_of (a ++ i ∷ [])) is) split next) in
      line relocs (words_of (a ++ i ∷ is)) (size_of a) i (count i) small (below_end a i is) st ∙ ap (λ (ls : List Line). line_at relocs (size_of a) i ∷ ls) same

pub lines_apart : (relocs : List Reloc) (at : ℕ) (xs ys : List Instr) → lines_for relocs at (xs ++ ys) ≡ lines_for relocs at xs ++ lines_for relocs (at + size_of xs) ys
unfolding size_of
lines_apart relocs at [] ys = let e : at + 0 ≡ at = omega arith in ap (λ (n : ℕ). lines_for relocs n ys) (sym e)
lines_apart relocs at (x ∷ xs) ys =
    let e : (at + count x) + size_of xs ≡ at + size_of (x ∷ xs) = omega (arith, length-append (spelling x) (words_of xs), spelling_length x) in
    ap (λ (ls : List Line). line_at relocs at x ∷ ls) (lines_apart relocs (at + count x) xs ys ∙ ap (λ (n : ℕ). lines_for relocs (at + count x) xs ++ lines_for relocs n ys) e)

-- ---- an object of blocks

pub record Made (o : Object) (whole : List blocks.Block) : Type 0 where
  pub code_is : o.code ≡ code_of whole
  pub relocs_are : o.relocs ≡ relocs_from 0 whole
  pub app : o.kind ≡ App
  pub suit : AllSuit whole
  pub closed : Closed whole

record Head (is : List Instr) : Type 0 where
  first : Instr
  rest : List Instr
  are : is ≡ first ∷ rest

head_of : (b : blocks.Block) → Head (instrs b)
head_of (block.Set to value) = record { first = _; rest = _; are = refl }
head_of (block.Add from to) = record { first = _; rest = _; are = refl }
head_of (block.Xor from to) = record { first = _; rest = _; are = refl }
head_of (block.Keep from place) = record { first = _; rest = _; are = refl }
head_of (block.Store from place) = record { first = _; rest = _; are = refl }
head_of (block.Pass from to) = record { first = _; rest = _; are = refl }
head_of (block.Halve to) = record { first = _; rest = _; are = refl }
head_of (block.Skip from to) = record { first = _; rest = _; are = refl }
head_of (block.Emit from) = record { first = _; rest = _; are = refl }
head_of block.Restart = record { first = _; rest = _; are = refl }

block_head : (b : blocks.Block) (c : List blocks.Block) → Head (all_instrs (b ∷ c))
unfolding all_instrs
block_head b c = let h : Head (instrs b) = head_of b in record { first = h.first; rest = h.rest ++ all_instrs c; are = ap (λ (is : List Instr). is ++ all_instrs c) h.are }

module _ (o : Object) (whole : List blocks.Block) (made : Made o whole) where
  code_words : o.code ≡ words_of (all_instrs whole)
  code_words = made.code_is ∙ all_words whole

  fit : FitEach (all_instrs whole)
  fit = all_fit whole made.suit

  -- each block begins with a start
  pub block_start : (a : List blocks.Block) (b : blocks.Block) (c : List blocks.Block) → whole ≡ a ++ b ∷ c → Start o.code (length (code_of a))
  block_start a b c e =
      let h : Head (all_instrs (b ∷ c)) = block_head b c in
      let are : all_instrs whole ≡ all_instrs a ++ h.first ∷ h.rest = ap all_instrs e ∙ instrs_append a (b ∷ c) ∙ ap (λ (is : List Instr). all_instrs a ++ is) h.are in
      subst (λ (ws : List ℕ). Start ws (length (code_of a))) (sym code_words)
      (cut_start (all_instrs whole) (length (code_of a)) fit (record { before = all_instrs a; instr = h.first; after = h.rest; are = are; place = all_size a }))

  pub spelled : OneStands → AllSpelled o
  spelled one at s =
      let c : Cut (all_instrs whole) at = start_cut one (all_instrs whole) at fit (subst (λ (ws : List ℕ). Start ws at) code_words s) in
      record { instr = c.instr; words = count c.instr; stands = subst (λ (ws : List ℕ). Stands ws at c.instr (count c.instr)) (sym code_words) (cut_stands (all_instrs whole) at fit c) }

  pub lines_are : LineLaw → lines (fields o) ≡ lines_for o.relocs 0 (all_instrs whole)
  unfolding lines
  lines_are line =
      let small : (k : ℕ) → slice_index (words_of (all_instrs whole)) k < 65536 = subst (λ (ws : List ℕ). (k : ℕ) → slice_index ws k < 65536) code_words o.form.words_small in
      ap (lines_from o.relocs 0 0) code_words
      ∙ subst (λ (n : ℕ). lines_from o.relocs n 0 (drop n (words_of (all_instrs whole))) ≡ lines_for o.relocs n (all_instrs whole)) size_none
      (lines_behind line o.relocs [] (all_instrs whole) fit small)

  -- ---- no line has a fault

  begin : (ws : List blocks.Block) → whole ≡ ws → Closed ws → IsStartOffset o.code 0
  unfolding IsStartOffset code_of
  begin [] e h = absurd h
  begin (b ∷ bs) e h = (0, block_start [] b bs e, refl)

  clean_append : (xs ys : List Line) → AllClean o xs → AllClean o ys → AllClean o (xs ++ ys)
  clean_append [] ys h k = k
  clean_append (x ∷ xs) ys h k = (h.0, clean_append xs ys h.1 k)

  push_size : (a : List blocks.Block) (b : blocks.Block) → length (code_of (a ++ b ∷ [])) ≡ length (code_of a) + length (words b)
  unfolding code_of
  push_size a b = omega (arith, ap length (code_append a (b ∷ [])), length-append (code_of a) (code_of (b ∷ [])), code_next b [])

  suits_in : (a : List blocks.Block) (b : blocks.Block) (c : List blocks.Block) → AllSuit (a ++ b ∷ c) → Suits b
  suits_in [] b c h = h.0
  suits_in (x ∷ a) b c h = suits_in a b c h.1

  here_clean : (a : List blocks.Block) (b : blocks.Block) (c : List blocks.Block) → whole ≡ a ++ b ∷ c → After o (length (code_of a)) b → AllClean o (lines_for o.relocs (length (code_of a)) (instrs b))
  here_clean a b c e after =
      block_clean o (length (code_of a)) b (suits_in a b c (subst AllSuit e made.suit)) (record {
        kinds_are = subst (λ (rs : List Reloc). KindsAre rs (length (code_of a)) b) (sym (made.relocs_are ∙ ap (relocs_from 0) e)) (kinds_are a b c);
        after = after;
        begin = begin whole refl made.closed;
        app = made.app;
      })

  block_and : (at : ℕ) (b : blocks.Block) (c : List blocks.Block) → AllClean o (lines_for o.relocs at (instrs b)) → AllClean o (lines_for o.relocs (at + length (words b)) (all_instrs c))
      → AllClean o (lines_for o.relocs at (all_instrs (b ∷ c)))
  unfolding all_instrs
  block_and at b c h k =
      subst (AllClean o) (sym (lines_apart o.relocs at (instrs b) (all_instrs c)))
      (clean_append (lines_for o.relocs at (instrs b)) (lines_for o.relocs (at + size_of (instrs b)) (all_instrs c)) h
      (subst (λ (n : ℕ). AllClean o (lines_for o.relocs (at + n) (all_instrs c))) (block_size b) k))

  after_last : (at : ℕ) (b : blocks.Block) → b ≡ block.Restart → After o at b
  after_last at b e = subst (After o at) (sym e) tt

  after_next : (a : List blocks.Block) (b c : blocks.Block) (cs : List blocks.Block) → whole ≡ (a ++ b ∷ []) ++ c ∷ cs → After o (length (code_of a)) b
  after_next a b c cs e =
      let start : Start o.code (length (code_of a) + length (words b)) = subst (Start o.code) (push_size a b) (block_start (a ++ b ∷ []) c cs e) in
      goes_on o (length (code_of a)) b (record { inside = start.below; start = start })

  clean_from : (a bs : List blocks.Block) → whole ≡ a ++ bs → Closed bs → AllClean o (lines_for o.relocs (length (code_of a)) (all_instrs bs))
  unfolding all_instrs
  clean_from a [] e h = absurd h
  clean_from a (b ∷ []) e h = block_and (length (code_of a)) b [] (here_clean a b [] e (after_last (length (code_of a)) b h)) tt
  clean_from a (b ∷ c ∷ cs) e h =
      let split : whole ≡ (a ++ b ∷ []) ++ c ∷ cs = e ∙ sym (append_assoc a (b ∷ []) (c ∷ cs)) in
      block_and (length (code_of a)) b (c ∷ cs) (here_clean a b (c ∷ cs) e (after_next a b c cs split))
      (subst (λ (n : ℕ). AllClean o (lines_for o.relocs n (all_instrs (c ∷ cs)))) (push_size a b) (clean_from (a ++ b ∷ []) (c ∷ cs) split h))

  pub all_clean : LineLaw → AllClean o (lines (fields o))
  unfolding code_of
  all_clean line = subst (AllClean o) (sym (lines_are line)) (clean_from [] whole refl made.closed)

  pub first_offset : IsStartOffset o.code 0
  first_offset = begin whole refl made.closed

-- Lines and words that are cut off a text.
use Rattle.std.proofs.Common.{◌≡◌, ℕ, ◌+◌, ◌-◌, not, ◌≤◌, ◌<◌, ◌==◌, Bool, true, false, List, [], ◌∷◌, length, take, drop, get_or, eqb, suc, subst, refl, ap, sym, ◌∙◌, arith, cond, add-one, drop-cons}
use Rattle.std.specs.Prelude.{filter}
use Rattle.std.specs.List.{slice_split, position_or_len, onto_first}
use Rattle.std.specs.Str.Lines.{lines, lines_of_parts, strip_carriage_return}
use Rattle.std.proofs.lemmas.List.Splits.{slice_split_first}
use Rattle.std.proofs.lemmas.Grind.{common_steps}
use Rattle.std.proofs.lemmas.Bool.Decides.{nat_tests}
use Rattle.trace_model.specs.Grammar.{is_blank, is_word, words_of}

-- where no byte passes there is one part
cut_nowhere : (p : ℕ → Bool) (xs : List ℕ) → length xs ≤ position_or_len p xs → slice_split p xs ≡ xs ∷ []
cut_nowhere p [] h = refl
cut_nowhere p (x ∷ xs) h =
    let P : Bool → Type 0 = λ b. length (x ∷ xs) ≤ cond (not b) (1 + position_or_len p xs) 0 → cond b ([] ∷ slice_split p xs) (onto_first x (slice_split p xs)) ≡ (x ∷ xs) ∷ [] in
    let each : (b : Bool) → P b = λ b. elim b as P [ true ↦ λ k. absurd (omega (arith, k)) | false ↦ λ k. ap (onto_first x) (cut_nowhere p xs (omega (arith, k))) ] in
    each (p x) h

-- ---- lines

abbrev is_feed : ℕ → Bool
is_feed b = b == 10

-- the parts of a text begin with one
pub record Parts (p : ℕ → Bool) (xs : List ℕ) : Type 0 where
  pub first : List ℕ
  pub rest : List (List ℕ)
  pub same : slice_split p xs ≡ first ∷ rest

parts_by : (p : ℕ → Bool) (x : ℕ) (xs : List ℕ) (b : Bool) → p x ≡ b → Parts p xs → Parts p (x ∷ xs)
parts_by p x xs true e q = record { first = []; rest = slice_split p xs; same = rw e refl }
parts_by p x xs false e q = record { first = x ∷ q.first; rest = q.rest; same = rw (e, q.same) refl }

parts : (p : ℕ → Bool) (xs : List ℕ) → Parts p xs
parts p [] = record { first = []; rest = []; same = refl }
parts p (x ∷ xs) = parts_by p x xs (p x) refl (parts p xs)

-- a line that was ended by LF
pub line_ended : (front behind : List ℕ) → lines_of_parts (front ∷ slice_split is_feed behind) ≡ strip_carriage_return front ∷ lines_of_parts (slice_split is_feed behind)
line_ended front behind = let q = parts is_feed behind in rw q.same refl

-- the last line, without LF
pub last_line : (text : List ℕ) → 0 < length text → length text ≤ position_or_len is_feed text → lines text ≡ text ∷ []
last_line [] some h = absurd (omega arith)
last_line (x ∷ xs) some h =
    let filled : eqb (length (x ∷ xs)) 0 ≡ false = grind (arith, nat_tests) in
    rw (cut_nowhere is_feed (x ∷ xs) h) (rw filled refl)

-- ---- words

pub words_of-blank : (b : ℕ) (bs : List ℕ) → is_blank b ≡ true → words_of (b ∷ bs) ≡ words_of bs
unfolding words_of
words_of-blank b bs e = rw e refl

pub blank_passed : (text : List ℕ) (i : ℕ) → i < length text → is_blank (get_or text i 0) ≡ true → words_of (drop (i + 1) text) ≡ words_of (drop i text)
blank_passed text i below e =
    let split : drop i text ≡ get_or text i 0 ∷ drop (i + 1) text = rw add-one (drop-cons text i 0 below) in
    sym (ap words_of split ∙ words_of-blank (get_or text i 0) (drop (i + 1) text) e)

pub no_words : (line text : List ℕ) → words_of text ≡ words_of line → eqb (length text) 0 ≡ true → words_of line ≡ []
unfolding words_of
no_words line [] same empty = sym same
no_words line (x ∷ xs) same empty = let filled : eqb (length (x ∷ xs)) 0 ≡ false = grind (arith, nat_tests) in cc

-- a text is cut at its first blank
record WordCut (text : List ℕ) (at : ℕ) : Type 0 where
  parts : List (List ℕ)
  same : slice_split is_blank text ≡ take at text ∷ parts
  rest : filter is_word parts ≡ words_of (drop at text)

cut_here : (x : ℕ) (xs : List ℕ) → is_blank x ≡ true → WordCut (x ∷ xs) 0
unfolding words_of
cut_here x xs e = record { parts = slice_split is_blank xs; same = rw e refl; rest = rw e refl }

cut_later : (x : ℕ) (xs : List ℕ) (at : ℕ) → is_blank x ≡ false → WordCut xs at → WordCut (x ∷ xs) (suc at)
cut_later x xs at e cut = record { parts = cut.parts; same = rw e (rw cut.same refl); rest = cut.rest }

word_cut_by : (x : ℕ) (xs : List ℕ) (b : Bool) → is_blank x ≡ b → WordCut xs (position_or_len is_blank xs) → WordCut (x ∷ xs) (cond (not b) (1 + position_or_len is_blank xs) 0)
word_cut_by x xs true e cut = cut_here x xs e
word_cut_by x xs false e cut =
    let one : suc (position_or_len is_blank xs) ≡ 1 + position_or_len is_blank xs = omega arith in
    subst (WordCut (x ∷ xs)) one (cut_later x xs (position_or_len is_blank xs) e cut)

word_cut : (text : List ℕ) → WordCut text (position_or_len is_blank text)
unfolding words_of
word_cut [] = record { parts = []; same = refl; rest = refl }
word_cut (x ∷ xs) = word_cut_by x xs (is_blank x) refl (word_cut xs)

-- a text that begins with a word
first_is_word : (x : ℕ) (xs : List ℕ) (b : Bool) → b ≡ false → is_word (take (cond (not b) (1 + position_or_len is_blank xs) 0) (x ∷ xs)) ≡ true
first_is_word x xs true e = cc
first_is_word x xs false e =
    let one : 1 + position_or_len is_blank xs ≡ suc (position_or_len is_blank xs) = omega arith in
    rw one refl

filter_first : (word : List ℕ) (words more : List (List ℕ)) → is_word word ≡ true → filter is_word words ≡ more → filter is_word (word ∷ words) ≡ word ∷ more
filter_first word words more e h = rw e (ap (λ rest. word ∷ rest) h)

word_first : (text : List ℕ) → 0 < length text → is_blank (get_or text 0 0) ≡ false → words_of text ≡ take (position_or_len is_blank text) text ∷ words_of (drop (position_or_len is_blank text) text)
unfolding words_of
word_first [] some h = absurd (omega arith)
word_first (x ∷ xs) some h =
    let cut : WordCut (x ∷ xs) (position_or_len is_blank (x ∷ xs)) = word_cut (x ∷ xs) in
    ap (filter is_word) cut.same ∙ filter_first (take (position_or_len is_blank (x ∷ xs)) (x ∷ xs)) cut.parts (words_of (drop (position_or_len is_blank (x ∷ xs)) (x ∷ xs))) (first_is_word x xs (is_blank x) h) cut.rest

pub next_word_cut : (line text : List ℕ) (end : ℕ) → words_of text ≡ words_of line → eqb (length text) 0 ≡ false → (0 < length text → is_blank (get_or text 0 0) ≡ false) → end ≡ position_or_len is_blank text →
    words_of line ≡ take end text ∷ words_of (take (length text - end) (drop end text))
next_word_cut line text end same filled word place =
    let some : 0 < length text = grind (arith, nat_tests) in
    let all : take (length text - end) (drop end text) ≡ drop end text = grind (arith, common_steps) in
    let first : words_of text ≡ take (position_or_len is_blank text) text ∷ words_of (drop (position_or_len is_blank text) text) = word_first text some (word some) in
    sym same ∙ rw (all, place) first

-- a text's first line, which LF ends
pub line_cut : (text front : List ℕ) (end : ℕ) → end ≡ position_or_len is_feed text → end < length text → front ≡ strip_carriage_return (take end text) →
    lines text ≡ front ∷ lines (take (length text - (end + 1)) (drop (end + 1) text))
line_cut text front end place below stripped =
    let split : slice_split is_feed text ≡ take end text ∷ slice_split is_feed (take (length text - (end + 1)) (drop (end + 1) text)) = grind (arith, common_steps, slice_split_first is_feed text 0) in
    ap lines_of_parts split ∙ (line_ended (take end text) (take (length text - (end + 1)) (drop (end + 1) text)) ∙ ap (λ x. x ∷ lines (take (length text - (end + 1)) (drop (end + 1) text))) (sym stripped))

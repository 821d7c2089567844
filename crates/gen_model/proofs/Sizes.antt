-- How many words and relocations blocks have.
use Rattle.std.proofs.Common.{◌≡◌, ℕ, ◌+◌, ◌*◌, ◌≤◌, List, [], ◌∷◌, ◌++◌, length, Option, None, Some, ◌∙◌, sym, ap, arith, length-append}
use Rattle.std.proofs.lemmas.List.{append_assoc}
use Rattle.std.proofs.lemmas.List.Concat.{flat_map-append}
use Rattle.code_model.specs.declared.parts.Reloc.{Reloc}
use Rattle.std.proofs.lemmas.List.FromFn.{length-map-range_with_len}
use Rattle.code_model.specs.declared.parts.RelKind.{RelKind}
use Rattle.gen_model.specs.declared.block.Block.{Block}
use Rattle.gen_model.specs.declared.block.Block.TheVariants.{Set, Add, Xor, Keep, Store, Pass, Halve, Skip, Emit, Restart}
use Rattle.gen_model.specs.Blocks.{words, second, second_at, relocs_at}
use Rattle.gen_model.specs.Generated.{setting, drawn, settings, drawn_blocks, blocks, code_of, relocs_from}

-- the words that a block with this relocation has at least
abbrev pub needed : Option RelKind → ℕ
needed None = 1
needed (Some k) = 2

pub record Sized (b : Block) : Type 0 where
  pub least : needed (second b) ≤ length (words b)
  pub some : 1 ≤ length (words b)
  pub most : length (words b) ≤ 4

pub sized : (b : Block) → Sized b
sized (Set to value) = record { least = omega arith; some = omega arith; most = omega arith }
sized (Add from to) = record { least = omega arith; some = omega arith; most = omega arith }
sized (Xor from to) = record { least = omega arith; some = omega arith; most = omega arith }
sized (Keep from place) = record { least = omega arith; some = omega arith; most = omega arith }
sized (Store from place) = record { least = omega arith; some = omega arith; most = omega arith }
sized (Pass from to) = record { least = omega arith; some = omega arith; most = omega arith }
sized (Halve to) = record { least = omega arith; some = omega arith; most = omega arith }
sized (Skip from to) = record { least = omega arith; some = omega arith; most = omega arith }
sized (Emit from) = record { least = omega arith; some = omega arith; most = omega arith }
sized Restart = record { least = omega arith; some = omega arith; most = omega arith }

pub code_next : (b : Block) (bs : List Block) → length (code_of (b ∷ bs)) ≡ length (words b) + length (code_of bs)
unfolding code_of
code_next b bs = length-append (words b) (code_of bs)

pub code_least : (bs : List Block) → length bs ≤ length (code_of bs)
unfolding code_of
code_least [] = omega arith
code_least (b ∷ bs) = omega (arith, code_next b bs, code_least bs, (sized b).some)

pub code_most : (bs : List Block) → length (code_of bs) ≤ 4 * length bs
unfolding code_of
code_most [] = omega arith
code_most (b ∷ bs) = omega (arith, code_next b bs, code_most bs, (sized b).most)

at_most_one : (at : ℕ) (k : Option RelKind) → length (second_at at k) ≤ 1
at_most_one at None = omega arith
at_most_one at (Some k) = omega arith

pub relocs_most : (at : ℕ) (bs : List Block) → length (relocs_from at bs) ≤ length bs
unfolding relocs_from
relocs_most at [] = omega arith
relocs_most at (b ∷ bs) =
    omega (arith, length-append (relocs_at at b) (relocs_from (at + length (words b)) bs), at_most_one at (second b), relocs_most (at + length (words b)) bs)

pub blocks_many : (n : ℕ) → length (blocks n) ≡ 457
unfolding blocks settings drawn_blocks
blocks_many n =
    omega (
      arith,
      length-append (settings n 0 6) (drawn_blocks n 0 450 ++ Restart ∷ []),
      length-append (drawn_blocks n 0 450) (Restart ∷ []),
      length-map-range_with_len (setting n) 0 6,
      length-map-range_with_len (drawn n) 0 450,
    )

-- ---- blocks behind others

pub code_append : (xs ys : List Block) → code_of (xs ++ ys) ≡ code_of xs ++ code_of ys
unfolding code_of
code_append xs ys = flat_map-append words xs ys

pub relocs_append : (at : ℕ) (xs ys : List Block) → relocs_from at (xs ++ ys) ≡ relocs_from at xs ++ relocs_from (at + length (code_of xs)) ys
unfolding relocs_from code_of
relocs_append at [] ys =
    let e : at + 0 ≡ at = omega arith in
    ap (λ (x : ℕ). relocs_from x ys) (sym e)
relocs_append at (x ∷ xs) ys =
    let e : (at + length (words x)) + length (code_of xs) ≡ at + length (code_of (x ∷ xs)) = omega (arith, code_next x xs) in
    ap (λ (rs : List Reloc). relocs_at at x ++ rs) (relocs_append (at + length (words x)) xs ys ∙ ap (λ (k : ℕ). relocs_from (at + length (words x)) xs ++ relocs_from k ys) e)
    ∙ sym (append_assoc (relocs_at at x) (relocs_from (at + length (words x)) xs) (relocs_from (at + length (code_of (x ∷ xs))) ys))

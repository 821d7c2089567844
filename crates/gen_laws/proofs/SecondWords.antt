-- Which relocation stands on each word of a block.
use Rattle.std.proofs.Common.{◌≡◌, ◌≢◌, ℕ, ◌+◌, ◌*◌, ◌≤◌, ◌<◌, nat_eq, true, false, List, [], ◌∷◌, ◌++◌, length, Option, None, Some, refl, ap, ◌∙◌, arith, rules}
use Rattle.std.specs.List.{fold}
use Rattle.std.proofs.lemmas.List.Sums.{fold-append}
use Rattle.code_model.specs.declared.parts.RelKind.{RelKind}
use Rattle.code_model.specs.declared.parts.Reloc.{Reloc}
use Rattle.insert_model.specs.Source.{on_word, kind_at}
use Rattle.gen_model.specs.declared.block.Block.{Block}
use Rattle.gen_model.specs.Blocks.{words, second, second_at, relocs_at}
use Rattle.gen_model.specs.Generated.{code_of, relocs_from}
use Rattle.gen_model.proofs.Sizes.{needed, sized, code_next, relocs_append}

-- a block's relocation stands on its second word
on_second : (at : ℕ) (k : Option RelKind) (known : Option RelKind) → known ≡ None → fold (on_word (at + 1)) known (second_at at k) ≡ k
on_second at None known e = e
on_second at (Some k) known e = let same : nat_eq (2 * (at + 1)) (2 * (at + 1)) ≡ true = search rules in rw same refl

-- and on no other
on_other : (at x : ℕ) (k : Option RelKind) (known : Option RelKind) → (needed k ≡ 2 → x ≢ at + 1) → fold (on_word x) known (second_at at k) ≡ known
on_other at x None known h = refl
on_other at x (Some k) known h =
    let apart : x ≢ at + 1 = h refl in
    let other : nat_eq (2 * (at + 1)) (2 * x) ≡ false = differ (2 * (at + 1)) (2 * x) (λ e. apart (omega arith)) in
    rw other refl
  where
    differ : (a b : ℕ) → a ≢ b → nat_eq a b ≡ false
    differ a b h = search rules

-- no relocation of blocks behind a word stands on it
on_before : (at x : ℕ) (bs : List Block) (known : Option RelKind) → x ≤ at → fold (on_word x) known (relocs_from at bs) ≡ known
unfolding relocs_from
on_before at x [] known h = refl
on_before at x (b ∷ bs) known h =
    fold-append (on_word x) known (relocs_at at b) (relocs_from (at + length (words b)) bs)
    ∙ on_before (at + length (words b)) x bs (fold (on_word x) known (relocs_at at b)) (omega arith)
    ∙ on_other at x (second b) known (λ n e. omega arith)

-- nor one of blocks in front of it
on_behind : (at x : ℕ) (bs : List Block) (known : Option RelKind) → at + length (code_of bs) ≤ x → fold (on_word x) known (relocs_from at bs) ≡ known
unfolding relocs_from
on_behind at x [] known h = refl
on_behind at x (b ∷ bs) known h =
    fold-append (on_word x) known (relocs_at at b) (relocs_from (at + length (words b)) bs)
    ∙ on_behind (at + length (words b)) x bs (fold (on_word x) known (relocs_at at b)) (omega (arith, code_next b bs))
    ∙ on_other at x (second b) known (λ n e. omega (arith, n, (sized b).least, code_next b bs))

-- the relocation of each word of a block at its place
pub record KindsAre (relocs : List Reloc) (at : ℕ) (b : Block) : Type 0 where
  pub first : kind_at relocs at ≡ None
  pub next : 1 < length (words b) → kind_at relocs (at + 1) ≡ second b
  pub more : (x : ℕ) → at + 2 ≤ x → x < at + length (words b) → kind_at relocs x ≡ None

kinds_at : (a : List Block) (b : Block) (c : List Block) (x : ℕ) → length (code_of a) ≤ x → x ≤ length (code_of a) + length (words b)
    → kind_at (relocs_from 0 (a ++ b ∷ c)) x ≡ fold (on_word x) None (relocs_at (length (code_of a)) b)
unfolding kind_at relocs_from
kinds_at a b c x low high =
    let at : ℕ = length (code_of a) in
    ap (fold (on_word x) None) (relocs_append 0 a (b ∷ c))
    ∙ fold-append (on_word x) None (relocs_from 0 a) (relocs_from (0 + at) (b ∷ c))
    ∙ ap (λ (k : Option RelKind). fold (on_word x) k (relocs_from (0 + at) (b ∷ c))) (on_behind 0 x a None (omega arith))
    ∙ ap (λ (p : ℕ). fold (on_word x) None (relocs_from p (b ∷ c))) (zero_more at)
    ∙ fold-append (on_word x) None (relocs_at at b) (relocs_from (at + length (words b)) c)
    ∙ on_before (at + length (words b)) x c (fold (on_word x) None (relocs_at at b)) (omega arith)
  where
    zero_more : (p : ℕ) → 0 + p ≡ p
    zero_more p = omega arith

pub kinds_are : (a : List Block) (b : Block) (c : List Block) → KindsAre (relocs_from 0 (a ++ b ∷ c)) (length (code_of a)) b
kinds_are a b c = record {
  first = kinds_at a b c (length (code_of a)) (omega arith) (omega arith) ∙ on_other (length (code_of a)) (length (code_of a)) (second b) None (λ n e. omega arith);
  next = λ h. kinds_at a b c (length (code_of a) + 1) (omega arith) (omega arith) ∙ on_second (length (code_of a)) (second b) None refl;
  more = λ x low high. kinds_at a b c x (omega arith) (omega arith) ∙ on_other (length (code_of a)) x (second b) None (λ n e. omega arith);
}

-- How far the code has come.
use Rattle.std.proofs.Common.{◌≡◌, ℕ, suc, ◌+◌, ◌-◌, ◌*◌, ◌/◌, ◌<◌, ◌≤◌, List, [], ◌∷◌, ◌++◌, length, slice_index, refl, sym, ap, subst, ◌∙◌, arith, length-append}
use Rattle.std.proofs.lemmas.List.{append_assoc, append-nil}
use Rattle.kernel_model.specs.declared.kinds.Kind.TheVariants.{App}
use Rattle.code_model.specs.declared.parts.Reloc.{Reloc}
use Rattle.code_model.specs.declared.parts.Export.{Export}
use Rattle.code_model.specs.Form.{MeetsForm}
use Rattle.code_model.specs.Fields.{Fields, fields_by, Meets}
use Rattle.gen_model.specs.declared.block.Block.{Block}
use Rattle.gen_model.specs.declared.block.Block.TheVariants.{Set, Restart}
use Rattle.gen_model.specs.Draws.{stepped, state, draw}
use Rattle.gen_model.specs.Blocks.{words, relocs_at, chosen}
use Rattle.gen_model.specs.Generated.{setting, drawn, settings, drawn_blocks, blocks, code_of, relocs_from, generated}
use Rattle.gen_model.specs.Laws.{GeneratedMeetsTheForm}
use Rattle.gen_model.proofs.Sizes.{sized, code_append, relocs_append}
use Rattle.object_gen.specs.declared.source.Source.{Source}

-- what is left of blocks, behind the code so far
pub record Left (whole rest : List Block) (s : Source) : Type 0 where
  pub code_is : code_of whole ≡ s.code ++ code_of rest
  pub relocs_are : relocs_from 0 whole ≡ s.relocs ++ relocs_from (length s.code) rest

-- a block is put behind the code so far
pub record Puts (b : Block) (s t : Source) : Type 0 where
  pub code : t.code ≡ s.code ++ words b
  pub relocs : t.relocs ≡ s.relocs ++ relocs_at (length s.code) b

pub none_put : (whole : List Block) (s : Source) → s.code ≡ [] → s.relocs ≡ [] → Left whole whole s
none_put whole s e f = record {
  code_is = ap (λ (ws : List ℕ). ws ++ code_of whole) (sym e);
  relocs_are = (λ i. sym f i ++ relocs_from (length (sym e i)) whole);
}

pub one_put : (whole : List Block) (b : Block) (rest : List Block) (s t : Source) → Left whole (b ∷ rest) s → Puts b s t → Left whole rest t
unfolding code_of relocs_from
one_put whole b rest s t l p =
    let long : length t.code ≡ length s.code + length (words b) = ap length p.code ∙ length-append s.code (words b) in
    record {
      code_is = l.code_is ∙ sym (append_assoc s.code (words b) (code_of rest)) ∙ ap (λ (ws : List ℕ). ws ++ code_of rest) (sym p.code);
      relocs_are = l.relocs_are ∙ sym (append_assoc s.relocs (relocs_at (length s.code) b) (relocs_from (length s.code + length (words b)) rest))
          ∙ (λ i. sym p.relocs i ++ relocs_from (sym long i) rest);
    }

pub all_put : (whole : List Block) (s : Source) → Left whole [] s → (s.code ≡ code_of whole) × (s.relocs ≡ relocs_from 0 whole)
unfolding code_of relocs_from
all_put whole s l = (sym (l.code_is ∙ append-nil s.code), sym (l.relocs_are ∙ append-nil s.relocs))

-- ---- draws

pub state_start : (n : ℕ) → n ≡ state n 0
unfolding state
state_start n = refl

pub state_next : (n k x : ℕ) → x ≡ state n k → stepped x ≡ state n (k + 1)
unfolding state
state_next n k x e = let s : k + 1 ≡ suc k = omega arith in ap stepped e ∙ ap (state n) (sym s)

pub draw_is : (n k x : ℕ) → x ≡ state n k → stepped x / 65536 ≡ draw n k
unfolding draw
draw_is n k x e = ap (λ (y : ℕ). y / 65536) (state_next n k x e)

-- ---- settings

settings_next : (n k many : ℕ) → settings n k (suc many) ≡ setting n k ∷ settings n (k + 1) many
unfolding settings
settings_next n k many = refl

pub first_setting : (n k : ℕ) → k < 6 → settings n k (6 - k) ≡ setting n k ∷ settings n (k + 1) (6 - (k + 1))
first_setting n k h = let e : 6 - k ≡ suc (6 - (k + 1)) = omega arith in ap (settings n k) e ∙ settings_next n k (6 - (k + 1))

pub last_setting : (n k : ℕ) → 6 - k ≡ 0 → settings n k (6 - k) ≡ []
unfolding settings
last_setting n k e = ap (settings n k) e

pub setting_put : (whole : List Block) (n k x : ℕ) (s t : Source) → k < 6 → x ≡ state n k → Left whole (settings n k (6 - k)) s → Puts (Set (6 + k) (stepped x / 65536)) s t
    → Left whole (settings n (k + 1) (6 - (k + 1))) t
setting_put whole n k x s t h e l p =
    one_put whole (setting n k) (settings n (k + 1) (6 - (k + 1))) s t (subst (λ (bs : List Block). Left whole bs s) (first_setting n k h) l)
    (subst (λ (v : ℕ). Puts (Set (6 + k) v) s t) (draw_is n k x e) p)

pub settings_done : (n k : ℕ) (s : Source) → 6 - k ≡ 0 → Left (settings n 0 6) (settings n k (6 - k)) s → (s.code ≡ code_of (settings n 0 6)) × (s.relocs ≡ relocs_from 0 (settings n 0 6))
settings_done n k s e l = all_put (settings n 0 6) s (subst (λ (bs : List Block). Left (settings n 0 6) bs s) (last_setting n k e) l)

-- ---- drawn blocks

-- the drawn blocks from block j on, and the last
abbrev pub behind : (n j : ℕ) → List Block
behind n j = drawn_blocks n j (450 - j) ++ Restart ∷ []

drawn_next : (n j many : ℕ) → drawn_blocks n j (suc many) ≡ drawn n j ∷ drawn_blocks n (j + 1) many
unfolding drawn_blocks
drawn_next n j many = refl

pub first_drawn : (n j : ℕ) → j < 450 → behind n j ≡ drawn n j ∷ behind n (j + 1)
first_drawn n j h =
    let e : 450 - j ≡ suc (450 - (j + 1)) = omega arith in
    ap (λ (bs : List Block). bs ++ Restart ∷ []) (ap (drawn_blocks n j) e ∙ drawn_next n j (450 - (j + 1)))

pub last_drawn : (n j : ℕ) → 450 - j ≡ 0 → behind n j ≡ Restart ∷ []
unfolding drawn_blocks
last_drawn n j e = ap (λ (m : ℕ). drawn_blocks n j m ++ Restart ∷ []) e

-- the states of a block's draws
pub record Drawn (n j x : ℕ) : Type 0 where
  pub next : stepped (stepped (stepped x)) ≡ state n (6 + 3 * (j + 1))
  pub is : chosen (stepped x / 65536) (stepped (stepped x) / 65536) (stepped (stepped (stepped x)) / 65536) ≡ drawn n j

pub three_drawn : (n j x : ℕ) → x ≡ state n (6 + 3 * j) → Drawn n j x
three_drawn n j x e =
    let e1 : 6 + 3 * j + 1 ≡ 7 + 3 * j = omega arith in
    let e2 : 7 + 3 * j + 1 ≡ 8 + 3 * j = omega arith in
    let e3 : 8 + 3 * j + 1 ≡ 6 + 3 * (j + 1) = omega arith in
    let s1 : stepped x ≡ state n (7 + 3 * j) = state_next n (6 + 3 * j) x e ∙ ap (state n) e1 in
    let s2 : stepped (stepped x) ≡ state n (8 + 3 * j) = state_next n (7 + 3 * j) (stepped x) s1 ∙ ap (state n) e2 in
    record {
      next = state_next n (8 + 3 * j) (stepped (stepped x)) s2 ∙ ap (state n) e3;
      is = (λ i. chosen (draw_is n (6 + 3 * j) x e i) (draw_is n (7 + 3 * j) (stepped x) s1 i) (draw_is n (8 + 3 * j) (stepped (stepped x)) s2 i));
    }

pub drawn_put : (n j : ℕ) (b : Block) (s t : Source) → j < 450 → b ≡ drawn n j → Left (blocks n) (behind n j) s → Puts b s t → Left (blocks n) (behind n (j + 1)) t
drawn_put n j b s t h e l p =
    one_put (blocks n) (drawn n j) (behind n (j + 1)) s t (subst (λ (bs : List Block). Left (blocks n) bs s) (first_drawn n j h) l) (subst (λ (c : Block). Puts c s t) e p)

-- the settings are put
pub settings_put : (n : ℕ) (s : Source) → s.code ≡ code_of (settings n 0 6) → s.relocs ≡ relocs_from 0 (settings n 0 6) → Left (blocks n) (behind n 0) s
unfolding blocks
settings_put n s e f = record {
  code_is = code_append (settings n 0 6) (behind n 0) ∙ ap (λ (ws : List ℕ). ws ++ code_of (behind n 0)) (sym e);
  relocs_are = relocs_append 0 (settings n 0 6) (behind n 0) ∙ (λ i. sym f i ++ relocs_from (long i) (behind n 0));
}
  where
    long : 0 + length (code_of (settings n 0 6)) ≡ length s.code
    long = omega (arith, ap length e)

-- no words are none
pub none_long : (ws : List ℕ) → ws ≡ [] → length ws ≡ 0
none_long ws e = ap length e

pub settings_long : (n : ℕ) (ws : List ℕ) → ws ≡ code_of (settings n 0 6) → length ws ≤ 12
unfolding code_of settings
settings_long n ws e = omega (arith, ap length e)

-- a block has at most four words
pub put_long : (b : Block) (s t : Source) (most : ℕ) → length s.code ≤ most → Puts b s t → length t.code ≤ most + 4
put_long b s t most h p = omega (arith, ap length p.code, length-append s.code (words b), (sized b).most)

pub setting_long : (to value : ℕ) (s t : Source) → Puts (Set to value) s t → length t.code ≡ length s.code + 2
setting_long to value s t p = ap length p.code ∙ length-append s.code (words (Set to value))

pub restart_put : (whole : List Block) (n j : ℕ) (s t : Source) → 450 - j ≡ 0 → Left whole (behind n j) s → Puts Restart s t → Left whole [] t
restart_put whole n j s t e l p = one_put whole Restart [] s t (subst (λ (bs : List Block). Left whole bs s) (last_drawn n j e) l) p

-- ---- the object

-- lists of a generated object
pub record Lists (n : ℕ) (code init : List ℕ) (relocs : List Reloc) (exports : List Export) : Type 0 where
  pub code_is : code ≡ code_of (blocks n)
  pub relocs_are : relocs ≡ relocs_from 0 (blocks n)
  pub no_init : init ≡ []
  pub no_exports : exports ≡ []

pub lists_made : (n : ℕ) (code init : List ℕ) (relocs : List Reloc) (exports : List Export) → Lists n code init relocs exports
    → fields_by App 1 code init 64 256 1 0 relocs exports ≡ generated n
unfolding generated
lists_made n code init relocs exports l = (λ i. fields_by App 1 (l.code_is i) (l.no_init i) 64 256 1 0 (l.relocs_are i) (l.no_exports i))

pub lists_formed : GeneratedMeetsTheForm → (n : ℕ) (code init : List ℕ) (relocs : List Reloc) (exports : List Export) → Lists n code init relocs exports
    → ((k : ℕ) → slice_index code k < 65536) → MeetsForm App 1 code init 64 256 1 0 relocs exports
lists_formed law n code init relocs exports l small =
    let e : fields_by App 1 code init 64 256 1 0 relocs exports ≡ generated n = lists_made n code init relocs exports l in
    subst Meets (sym e) (law n (subst (λ (f : Fields). (k : ℕ) → slice_index f.code k < 65536) e small))

-- What a guard serves is served where it stands.
use Rattle.std.proofs.Common.{◌≡◌, ℕ, ◌+◌, ◌%◌, ◌≤◌, length, Option, None, refl, sym, subst}
use Rattle.msp_encode.specs.declared.instr.Src.{Src}
use Rattle.msp_encode.specs.declared.instr.Src.TheVariants as src
use Rattle.msp_encode.specs.declared.instr.Dst.{Dst}
use Rattle.msp_encode.specs.declared.instr.Dst.TheVariants as dst
use Rattle.msp_encode.specs.declared.instr.Instr.{Instr}
use Rattle.msp_encode.specs.declared.instr.Instr.TheVariants as instr
use Rattle.msp_encode.specs.Spelling.{src_words}
use Rattle.code_model.specs.declared.object.Object.{Object}
use Rattle.code_model.specs.declared.parts.RelKind.{RelKind}
use Rattle.code_model.specs.declared.guards.GuardKind.{GuardKind}
use Rattle.code_model.specs.declared.guards.GuardKind.TheVariants as guard
use Rattle.code_model.specs.Relocs.{Unrelocated}
use Rattle.code_model.specs.Rules.{IsMemoryDst, WritesMemory}
use Rattle.code_model.specs.Guards.{reach_bytes, StepsNoPointer, IsAtR4, IsPlainStore, IsNearStore, IsStoreForm, IsWideForm, IsGrowthForm, IsPopForm, IsSpForm, Serves}
use Rattle.insert_model.specs.declared.piece.Piece.{Piece}
use Rattle.insert_laws.specs.Pieces.{moved_src, moved_dst, moved_instr, standing}
use Rattle.insert_laws.specs.Shapes.{IsThroughR4, IsNearR4, IsServed}

src_quiet : (go : ℕ → ℕ) (k : Option RelKind) (s : Src) → StepsNoPointer s → StepsNoPointer (moved_src go k s)
src_quiet go k (src.Reg n) h = h
src_quiet go k (src.Indexed n x) h = h
src_quiet go k (src.Symbolic x) h = h
src_quiet go k (src.Absolute x) h = h
src_quiet go k (src.Indirect n) h = h
src_quiet go k (src.AutoInc n) h = h
src_quiet go k (src.Immediate x) h = h
src_quiet go k (src.Const c) h = h

pub src_count : (go : ℕ → ℕ) (k : Option RelKind) (s : Src) → length (src_words (moved_src go k s)) ≡ length (src_words s)
src_count go k (src.Reg n) = refl
src_count go k (src.Indexed n x) = refl
src_count go k (src.Symbolic x) = refl
src_count go k (src.Absolute x) = refl
src_count go k (src.Indirect n) = refl
src_count go k (src.AutoInc n) = refl
src_count go k (src.Immediate x) = refl
src_count go k (src.Const c) = refl

growth_serves : (o : Object) (at : ℕ) (go : ℕ → ℕ) (j k : Option RelKind) (i : Instr) → IsGrowthForm i → IsGrowthForm (moved_instr go j k i)
growth_serves o at go j k (instr.Two op w s d) h = h
growth_serves o at go j k (instr.One op w s) h = (h.0, src_quiet go j s h.1)
growth_serves o at go j k instr.Reti h = h
growth_serves o at go j k (instr.Jump c n) h = h

pop_serves : (go : ℕ → ℕ) (j k : Option RelKind) (i : Instr) → IsPopForm i → IsPopForm (moved_instr go j k i)
pop_serves go j k (instr.Two op w (src.AutoInc n) (dst.Reg m)) h = h
pop_serves go j k (instr.Two op w (src.AutoInc n) (dst.Indexed m x)) h = h
pop_serves go j k (instr.Two op w (src.AutoInc n) (dst.Symbolic x)) h = h
pop_serves go j k (instr.Two op w (src.AutoInc n) (dst.Absolute x)) h = h
pop_serves go j k (instr.Two op w (src.Reg n) d) h = absurd h.2
pop_serves go j k (instr.Two op w (src.Indexed n x) d) h = absurd h.2
pop_serves go j k (instr.Two op w (src.Symbolic x) d) h = absurd h.2
pop_serves go j k (instr.Two op w (src.Absolute x) d) h = absurd h.2
pop_serves go j k (instr.Two op w (src.Indirect n) d) h = absurd h.2
pop_serves go j k (instr.Two op w (src.Immediate x) d) h = absurd h.2
pop_serves go j k (instr.Two op w (src.Const c) d) h = absurd h.2
pop_serves go j k (instr.One op w s) h = h
pop_serves go j k instr.Reti h = h
pop_serves go j k (instr.Jump c n) h = h

sp_serves : (go : ℕ → ℕ) (j k : Option RelKind) (i : Instr) → IsSpForm i → IsSpForm (moved_instr go j k i)
sp_serves go j k (instr.Two op w (src.Reg n) (dst.Reg m)) h = h
sp_serves go j k (instr.Two op w (src.Reg n) (dst.Indexed m x)) h = h
sp_serves go j k (instr.Two op w (src.Reg n) (dst.Symbolic x)) h = h
sp_serves go j k (instr.Two op w (src.Reg n) (dst.Absolute x)) h = h
sp_serves go j k (instr.Two op w (src.AutoInc n) d) h = absurd h.2
sp_serves go j k (instr.Two op w (src.Indexed n x) d) h = absurd h.2
sp_serves go j k (instr.Two op w (src.Symbolic x) d) h = absurd h.2
sp_serves go j k (instr.Two op w (src.Absolute x) d) h = absurd h.2
sp_serves go j k (instr.Two op w (src.Indirect n) d) h = absurd h.2
sp_serves go j k (instr.Two op w (src.Immediate x) d) h = absurd h.2
sp_serves go j k (instr.Two op w (src.Const c) d) h = absurd h.2
sp_serves go j k (instr.One op w s) h = h
sp_serves go j k instr.Reti h = h
sp_serves go j k (instr.Jump c n) h = h

store_dst : (q : Object) (at : ℕ) (go : ℕ → ℕ) (k : Option RelKind) (d : Dst) → d ≡ dst.Indexed 4 0 → k ≡ None → Unrelocated q.relocs at → IsPlainStore q at (moved_dst go k d)
store_dst q at go k d e f un =
    let g : moved_dst go k d ≡ dst.Indexed 4 0 = (λ t. moved_dst go (f t) (e t)) in
    subst (IsPlainStore q at) (sym g) (refl, refl, un)

at_r4_moved : (go : ℕ → ℕ) (j : Option RelKind) (s : Src) → IsAtR4 s → IsAtR4 (moved_src go j s)
at_r4_moved go j (src.Reg n) h = h
at_r4_moved go j (src.Indexed n x) h = h
at_r4_moved go j (src.Symbolic x) h = h
at_r4_moved go j (src.Absolute x) h = h
at_r4_moved go j (src.Indirect n) h = h
at_r4_moved go j (src.AutoInc n) h = h
at_r4_moved go j (src.Immediate x) h = h
at_r4_moved go j (src.Const c) h = h

-- the word behind the source's has no relocation
abbrev pub LastPlain : Object → ℕ → Instr → Type 0
LastPlain q at (instr.Two op w s d) = Unrelocated q.relocs (at + 1 + length (src_words s))
LastPlain q at (instr.One op w s) = Unit {0}
LastPlain q at instr.Reti = Unit {0}
LastPlain q at (instr.Jump c n) = Unit {0}

-- a store through x(R4), where x isn't relocated
abbrev pub IsStoreTo : ℕ → Option RelKind → Instr → Type 0
IsStoreTo x k (instr.Two op w s d) = (d ≡ dst.Indexed 4 x) × (k ≡ None)
IsStoreTo x k (instr.One op w s) = ⊥
IsStoreTo x k instr.Reti = ⊥
IsStoreTo x k (instr.Jump c n) = ⊥

store_serves : (q : Object) (at : ℕ) (go : ℕ → ℕ) (j k : Option RelKind) (i : Instr) → IsThroughR4 k i → LastPlain q at i → IsStoreForm q at (moved_instr go j k i)
store_serves q at go j k (instr.Two op w s d) h un =
    let un' : Unrelocated q.relocs (at + 1 + length (src_words (moved_src go j s))) = subst (λ (n : ℕ). Unrelocated q.relocs (at + 1 + n)) (sym (src_count go j s)) un in
    (h.0, store_dst q (at + 1 + length (src_words (moved_src go j s))) go k d h.1 h.2 un', src_quiet go j s h.3)
store_serves q at go j k (instr.One op w s) h un = (h.0, at_r4_moved go j s h.1)
store_serves q at go j k instr.Reti h un = h
store_serves q at go j k (instr.Jump c n) h un = h

near_dst : (most : ℕ) (q : Object) (at : ℕ) (go : ℕ → ℕ) (k : Option RelKind) (d : Dst) (x : ℕ) → d ≡ dst.Indexed 4 x → x % 2 ≡ 0 → x ≤ most → k ≡ None → Unrelocated q.relocs at
    → IsNearStore most q at (moved_dst go k d)
near_dst most q at go k d x e even near f un =
    let g : moved_dst go k d ≡ dst.Indexed 4 x = (λ t. moved_dst go (f t) (e t)) in
    subst (IsNearStore most q at) (sym g) (refl, even, near, un)

near_serves : (most : ℕ) (q : Object) (at : ℕ) (go : ℕ → ℕ) (j k : Option RelKind) (i : Instr) → IsNearR4 most k i → LastPlain q at i → IsWideForm most q at (moved_instr go j k i)
near_serves most q at go j k (instr.Two op w s d) h un =
    let un' : Unrelocated q.relocs (at + 1 + length (src_words (moved_src go j s))) = subst (λ (n : ℕ). Unrelocated q.relocs (at + 1 + n)) (sym (src_count go j s)) un in
    (h.0, near_dst most q (at + 1 + length (src_words (moved_src go j s))) go k d h.1.0 h.1.1.0 h.1.1.1.0 h.1.1.1.1 h.2 un', src_quiet go j s h.3)
near_serves most q at go j k (instr.One op w s) h un = h
near_serves most q at go j k instr.Reti h un = h
near_serves most q at go j k (instr.Jump c n) h un = h

-- what a guard serves that stores leaves its last word as it is
through_plain : (q : Object) (at : ℕ) (k : Option RelKind) (i : Instr) → IsThroughR4 k i → ((x : ℕ) → IsStoreTo x k i → LastPlain q at i) → LastPlain q at i
through_plain q at k (instr.Two op w s d) h plain = plain 0 (h.1, h.2)
through_plain q at k (instr.One op w s) h plain = tt
through_plain q at k instr.Reti h plain = tt
through_plain q at k (instr.Jump c n) h plain = tt

near_plain : (q : Object) (at most : ℕ) (k : Option RelKind) (i : Instr) → IsNearR4 most k i → ((x : ℕ) → IsStoreTo x k i → LastPlain q at i) → LastPlain q at i
near_plain q at most k (instr.Two op w s d) h plain = plain h.1.0 (h.1.1.0, h.2)
near_plain q at most k (instr.One op w s) h plain = tt
near_plain q at most k instr.Reti h plain = tt
near_plain q at most k (instr.Jump c n) h plain = tt

pub serves_at : (q : Object) (first at : ℕ) (go : ℕ → ℕ) (g : GuardKind) (p : Piece) → IsServed g p → ((x : ℕ) → IsStoreTo x p.destination p.instr → LastPlain q at p.instr) → Serves g q first at (standing go p)
unfolding standing
serves_at q first at go guard.Store p h plain = store_serves q at go p.source p.destination p.instr h (through_plain q at p.destination p.instr h plain)
serves_at q first at go (guard.Wide r) p h plain =
    near_serves (reach_bytes r) q at go p.source p.destination p.instr h (near_plain q at (reach_bytes r) p.destination p.instr h plain)
serves_at q first at go guard.Load p h plain = absurd h
serves_at q first at go guard.Growth p h plain = growth_serves q at go p.source p.destination p.instr h
serves_at q first at go guard.Pop p h plain = pop_serves go p.source p.destination p.instr h
serves_at q first at go guard.Sp p h plain = sp_serves go p.source p.destination p.instr h

near_writes : (most : ℕ) (q : Object) (at : ℕ) (d : Dst) → IsNearStore most q at d → IsMemoryDst d
near_writes most q at (dst.Reg n) h = h
near_writes most q at (dst.Indexed n x) h = tt
near_writes most q at (dst.Symbolic x) h = tt
near_writes most q at (dst.Absolute x) h = h

-- what a wide guard serves writes memory
pub wide_memory : (most : ℕ) (q : Object) (at : ℕ) (i : Instr) → IsWideForm most q at i → WritesMemory i
wide_memory most q at (instr.Two op w s d) h = (h.0, near_writes most q (at + 1 + length (src_words s)) d h.1)
wide_memory most q at (instr.One op w s) h = absurd h
wide_memory most q at instr.Reti h = absurd h
wide_memory most q at (instr.Jump c n) h = absurd h

-- What is fetched where accepted code stands.
use Rattle.std.proofs.Common.{◌≡◌, ℕ, ◌+◌, ◌*◌, ◌<◌, ◌≤◌, ◌⊎◌, List, [], ◌∷◌, length, get_or, drop, refl, sym, ap, ◌∙◌, subst, inl, inr, arith}
use Rattle.std.proofs.lemmas.Bool.{cases_lt}
use Rattle.std.proofs.lemmas.List.{length-drop, length-append}
use Rattle.msp_encode.specs.declared.instr.Src.{Src}
use Rattle.msp_encode.specs.declared.instr.Src.TheVariants as src
use Rattle.msp_encode.specs.declared.instr.Dst.{Dst}
use Rattle.msp_encode.specs.declared.instr.Dst.TheVariants as dst
use Rattle.msp_encode.specs.declared.instr.Instr.{Instr}
use Rattle.msp_encode.specs.declared.instr.Instr.TheVariants as instr
use Rattle.msp_encode.specs.Spelling.{First, words_after, src_words, dst_words}
use Rattle.msp_encode.specs.Forms.{IsJmp}
use Rattle.code_model.specs.declared.object.Object.{Object}
use Rattle.code_model.specs.declared.parts.RelKind.{RelKind}
use Rattle.code_model.specs.declared.guards.GuardKind.{GuardKind}
use Rattle.code_model.specs.declared.guards.Slot.{Slot}
use Rattle.code_model.specs.declared.guards.Slot.TheVariants as slot
use Rattle.code_model.specs.declared.rules.Rule.TheVariants as rule
use Rattle.code_model.specs.Relocs.{HasReloc, Unrelocated}
use Rattle.code_model.specs.Starts.{Begins, Stands, Start}
use Rattle.code_model.specs.Guards.{IsLoad, guard_words, Fits, Guarded}
use Rattle.code_model.specs.Rules.{SrcCarries, DstCarries, Carries, IsRightWord, IsBranch}
use Rattle.code_model.specs.Verdicts.{IsAccepted}
use Rattle.code_laws.proofs.Standing.{size_most, same_instr, same_size}
use Rattle.code_laws.proofs.Starting.{starts_apart, next_start}
use Rattle.code_laws.proofs.Runs.{base_before}
use Rattle.machine_model.specs.Memory.{word_at}
use Rattle.machine_model.specs.Operands.{sum_of}
use Rattle.machine_model.specs.Fetching.{words_from, IsFetched}
use Rattle.machine_laws.specs.Places.{GuardPlace, place_offset}
use Rattle.load_model.specs.Domains.{Domain, addend}
use Rattle.node_model.specs.Placed.{IsWellPlaced, CodeStands, StandsIn, address}
use Rattle.node_model.specs.Good.{guard_of, IsOf}
use Rattle.confinement_laws.proofs.Lines.{line, line_words, IsLine, SlotWord, Worded, worded-as, words-as, begins-line}
use Rattle.confinement_laws.proofs.Runs.{fit-at, line-least, line-few, line-ends}
use Rattle.code_laws.proofs.Begins.{stands_first}
use Rattle.confinement_laws.proofs.Placing.{placed, placed-begins, size-is}

-- one instruction is fetched at an address
pub fetched-same : (m : List ℕ) (pc : ℕ) (i j : Instr) (n k : ℕ) → IsFetched m pc i n → IsFetched m pc j k → (i ≡ j) × (n ≡ k)
fetched-same m pc i j n k g h = (same_instr i j (words_from m pc) n k g h, same_size i j (words_from m pc) n k g h)

-- ---- a guard's own words in memory

slot-in : (d : Domain) (m : List ℕ) (at : ℕ) (s : Slot) → CodeStands d m → Fits d.object at s → SlotWord s (word_at m (address d at))
slot-in d m at (slot.Word v) c f = c.plain at f.0 f.1.1 ∙ f.1.0
slot-in d m at slot.Load c f = subst IsLoad (sym (c.plain at f.0 f.1.1)) f.1.0
slot-in d m at slot.Free c f = tt
slot-in d m at slot.Low c f = tt
slot-in d m at (slot.High v) c f = tt

-- word k of a guard in memory
abbrev pub words_in : Domain → List ℕ → ℕ → ℕ → ℕ
words_in d m first k = word_at m (address d (first + k))

pub worded-in : (d : Domain) (m : List ℕ) (guarded : ℕ) (g : GuardKind) (h : Guarded d.object guarded g) → CodeStands d m → Worded g (words_in d m h.first)
worded-in d m guarded g h c k l = slot-in d m (h.first + k) (get_or (guard_words g) k slot.Free) c (fit-at d.object (guard_words g) h.first k h.fit l)

-- a word that was relocated from 0
pub moved-zero : (d : Domain) (m : List ℕ) (at : ℕ) (k : RelKind) → CodeStands d m → at < length d.object.code → get_or d.object.code at 0 ≡ 0 → HasReloc d.object.relocs at k → addend d k < 65536
    → word_at m (address d at) ≡ addend d k
moved-zero d m at k c l z h b = c.moved at k l h ∙ omega (arith, z)

-- the next words of code
next-word : (d : Domain) (m : List ℕ) (at k : ℕ) → IsWellPlaced d → at < length d.object.code → k ≤ 2 → word_at m (sum_of (address d at) (2 * k)) ≡ word_at m (address d (at + k))
next-word d m at k w l h =
    let e : sum_of (address d at) (2 * k) ≡ address d (at + k) = omega (arith, w.code_high) in
    ap (word_at m) e

-- what is fetched at a place of one of a guard's own instructions
pub line-fetched : (d : Domain) (m : List ℕ) (guarded : ℕ) (p : GuardPlace) (k : GuardKind) (of : IsOf k (guard_of p)) (h : Guarded d.object guarded k) (pc : ℕ) → StandsIn d m → IsLine p
    → pc ≡ address d (h.first + place_offset p) → IsFetched m pc (line p (words_in d m h.first)) (line_words p)
line-fetched d m guarded p k of h pc s t e =
    let l : h.first + place_offset p < length d.object.code = omega (arith, line-ends p t, line-least p t, words-as k (guard_of p) of, h.ends, base_before d.object guarded k h, h.start.below) in
    let a : address d (h.first + place_offset p + 1) ≡ address d (h.first + (place_offset p + 1)) = omega arith in
    begins-line p (words_in d m h.first) (words_from m pc) t (worded-as k (guard_of p) (words_in d m h.first) of (worded-in d m guarded k h s.code)) (line-few p t) (ap (word_at m) e)
    (λ _. ap (λ (x : ℕ). word_at m (sum_of x 2)) e ∙ (next-word d m (h.first + place_offset p) 1 s.placed l (omega arith) ∙ ap (word_at m) a))

-- ---- the object's instruction in memory

src-one : (s : Src) (k : RelKind) → SrcCarries s k → length (src_words s) ≡ 1
src-one (src.Indexed n x) k h = refl
src-one (src.Absolute x) k h = refl
src-one (src.Immediate x) k h = refl
src-one (src.Symbolic x) k h = absurd h
src-one (src.Reg n) k h = absurd h
src-one (src.Indirect n) k h = absurd h
src-one (src.AutoInc n) k h = absurd h
src-one (src.Const c) k h = absurd h

dst-one : (d : Dst) (k : RelKind) → DstCarries d k → length (dst_words d) ≡ 1
dst-one (dst.Indexed n x) k h = refl
dst-one (dst.Absolute x) k h = refl
dst-one (dst.Symbolic x) k h = absurd h
dst-one (dst.Reg n) k h = absurd h

carries-within : (i : Instr) (w : ℕ) (k : RelKind) → Carries i w k → (1 ≤ w) × (w < 1 + length (words_after i))
carries-within (instr.Two op v s d) w k (inl h) = (omega (arith, h.0), omega (arith, h.0, src-one s k h.1, length-append (src_words s) (dst_words d)))
carries-within (instr.Two op v s d) w k (inr h) = (omega (arith, h.0), omega (arith, h.0, dst-one d k h.1, length-append (src_words s) (dst_words d)))
carries-within (instr.One op v s) w k h = (omega (arith, h.0), omega (arith, h.0, src-one s k h.1))
carries-within instr.Reti w k h = absurd h
carries-within (instr.Jump c z) w k h = absurd h

pub first-unrelocated : (o : Object) (marks : List ℕ) (at : ℕ) → IsAccepted o marks → Start o.code at → Unrelocated o.relocs at
unfolding Unrelocated
first-unrelocated o marks at a s = λ k h. a.none at rule.Reloc record { kind = k; has = h; wrong = λ r. wrong k r }
  where
    wrong : (k : RelKind) → IsRightWord o at k → ⊥
    wrong k r =
        let f = r.from in
        let b = carries-within f.instr r.word k f.carries in
        let n = size-is (drop r.start o.code) f.instr f.words f.stands in
        omega (arith, b.0, b.1, r.is, starts_apart o.code r.start at f.instr f.words f.starts f.stands s (omega (arith, b.0, r.is)))

-- the instruction that stands at a start is fetched there, with its operand words as they stand in memory
pub placed-fetched : (d : Domain) (m : List ℕ) (at : ℕ) (i : Instr) (n pc : ℕ) → StandsIn d m → Start d.object.code at → Stands d.object.code at i n → pc ≡ address d at
    → IsFetched m pc (placed i (words_in d m at)) n
placed-fetched d m at i n pc s t st e =
    let f = words_in d m at in
    let w = word_at m (address d at) in
    let p1 = next-word d m at 1 s.placed t.below (omega arith) in
    let p2 = next-word d m at 2 s.placed t.below (omega arith) in
    let same : words_from m (address d at) ≡ word_at m (address d at) ∷ words_in d m at 1 ∷ words_in d m at 2 ∷ [] =
    ap (λ (x : ℕ). word_at m (address d at) ∷ x ∷ word_at m (sum_of (address d at) 4) ∷ []) p1 ∙ ap (λ (x : ℕ). word_at m (address d at) ∷ words_in d m at 1 ∷ x ∷ []) p2 in
    let plain = s.code.plain at t.below (first-unrelocated d.object d.units at s.accepted t) in
    let begun = placed-begins i (words_in d m at) (word_at m (address d at)) n (subst (First i) (sym plain) (stands_first d.object.code at i n st))
    (size-is (drop at d.object.code) i n st) (size_most i (drop at d.object.code) n st) in
    subst (λ (x : ℕ). IsFetched m x (placed i (words_in d m at)) n) (sym e) (subst (λ (l : List ℕ). Begins l (placed i (words_in d m at)) n) (sym same) begun)

-- what is fetched at a start is the instruction that stands there, placed
pub fetched-is : (d : Domain) (m : List ℕ) (at : ℕ) (i j : Instr) (n k pc : ℕ) → StandsIn d m → Start d.object.code at → Stands d.object.code at i n → pc ≡ address d at
    → IsFetched m pc j k → (j ≡ placed i (words_in d m at)) × (k ≡ n)
fetched-is d m at i j n k pc s t st e f = fetched-same m pc j (placed i (words_in d m at)) k n f (placed-fetched d m at i n pc s t st e)

-- an instruction that is no jump and no branch has one behind it
pub runs-on : (o : Object) (marks : List ℕ) (at : ℕ) (i : Instr) (n : ℕ) → IsAccepted o marks → Start o.code at → Stands o.code at i n → (IsJmp i → ⊥) → (IsBranch i → ⊥) → Start o.code (at + n)
runs-on o marks at i n a s st j b = next_start o.code at i n s st (below (cases_lt (at + n) (length o.code)))
  where
    below : (at + n < length o.code) ⊎ (length o.code ≤ at + n) → at + n < length o.code
    below (inl h) = h
    below (inr h) = absurd (a.none at rule.End record { start = s; instr = i; words = n; stands = st; breaks = (omega (arith, h, st.0, s.below, length-drop at o.code), j, b) })

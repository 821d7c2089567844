-- What an operation into a register does, exactly, and into R4.
use Rattle.std.proofs.Common.{◌≡◌, ◌≢◌, ℕ, zero, suc, ◌+◌, ◌*◌, ◌%◌, ◌<◌, ◌≤◌, Bool, true, false, List, [], refl, sym, ap, ◌∙◌, subst, arith}
use Rattle.std.specs.Prelude.{if◌then◌else◌, ◌==◌}
use Rattle.std.proofs.lemmas.Bool.Decides.{nat_tests}
use Rattle.machine_model.specs.Context.{reg, set_reg, IsContext}
use Rattle.machine_model.specs.Operands.{sum_of, low, load, step, source_value, after_source, place_to, value_in, put_context, put_pairs}
use Rattle.machine_model.specs.Alu.{alu}
use Rattle.machine_model.specs.Does.{does, two, passed}
use Rattle.machine_model.specs.Fetching.{IsFetched}
use Rattle.machine_model.specs.declared.place.Place.TheVariants.{InReg}
use Rattle.msp_encode.specs.declared.instr.Width.{Width}
use Rattle.msp_encode.specs.declared.instr.Width.TheVariants.{Wide}
use Rattle.msp_encode.specs.declared.instr.Op2.{Op2}
use Rattle.msp_encode.specs.declared.instr.Op2.TheVariants.{Mov}
use Rattle.msp_encode.specs.declared.instr.Src.{Src}
use Rattle.msp_encode.specs.declared.instr.Src.TheVariants as src
use Rattle.msp_encode.specs.declared.instr.Dst.TheVariants as dst
use Rattle.msp_encode.specs.declared.instr.Instr.TheVariants as instr
use Rattle.msp_encode.specs.Spelling.{IsBase, SrcFits}
use Rattle.msp_encode.specs.Forms.{writes}
use Rattle.unit_laws.specs.Running.{held, silent, Runs, Stays, Goes}
use Rattle.unit_laws.specs.Frame.{SrcAvoids}
use Rattle.unit_laws.specs.Rows.{IsFree, SrcFree}
use Rattle.unit_laws.proofs.Contexts.{as_held}
use Rattle.unit_laws.proofs.Frame.{source-spread, two_from, effect_of}
use Rattle.unit_laws.proofs.Guarded.{reg-other, held-spread}
use Rattle.kernel_model.specs.declared.entries.TheConstants.{FIRST_ENTRY}

-- ---- a source that a unit may move

pub free-avoids : (s : Src) → SrcFree s → SrcAvoids s
free-avoids (src.Reg n) a = a.1
free-avoids (src.Indexed n x) a = a.1
free-avoids (src.Symbolic x) a = absurd a
free-avoids (src.Absolute x) a = tt
free-avoids (src.Indirect n) a = a.1
free-avoids (src.AutoInc n) a = a.1
free-avoids (src.Immediate x) a = tt
free-avoids (src.Const k) a = tt

not-zero : (n : ℕ) → n ≢ 0 → (n == 0) ≡ false
not-zero n h = grind (arith, nat_tests, h)

-- its value doesn't depend on PC
pub source-pc : (w : Width) (s : Src) (at : ℕ) (m r : List ℕ) (p : ℕ) → SrcFree s → source_value w s at m (set_reg r 0 p) ≡ source_value w s 0 m r
unfolding source_value
source-pc w (src.Reg n) at m r p a =
    let e = not-zero n a.0 in
    ap (λ (b : Bool). low w (if b then at else reg (set_reg r 0 p) n)) e ∙ (ap (low w) (reg-other r 0 p n a.0) ∙ sym (ap (λ (b : Bool). low w (if b then 0 else reg r n)) e))
source-pc w (src.Indexed n x) at m r p a = ap (λ (v : ℕ). load w m (sum_of x v)) (reg-other r 0 p n a.0)
source-pc w (src.Symbolic x) at m r p a = absurd a
source-pc w (src.Absolute x) at m r p a = refl
source-pc w (src.Indirect n) at m r p a = ap (load w m) (reg-other r 0 p n a.0)
source-pc w (src.AutoInc n) at m r p a = ap (load w m) (reg-other r 0 p n a.0)
source-pc w (src.Immediate x) at m r p a = refl
source-pc w (src.Const k) at m r p a = refl

-- nor on R4 and R5
pub source-held : (w : Width) (s : Src) (at : ℕ) (m r : List ℕ) (p x y : ℕ) → IsContext r → p % 2 ≡ 0 → SrcFree s → source_value w s at m (held r p (reg r 2) x y) ≡ source_value w s 0 m r
source-held w s at m r p x y h e a =
    ap (source_value w s at m) (held-spread r p x y h e) ∙ (source-spread w s at m (set_reg r 0 p) x y (free-avoids s a) ∙ source-pc w s at m r p a)

-- the registers that autoincrement steps are others than PC, SR, R4 and R5
stepped : (w : Width) (j : ℕ) (r : List ℕ) (p sr x y a b c d : ℕ) → j < 16 → IsFree j → IsBase j
    → set_reg (held r p sr x y) j (sum_of (reg (held r p sr x y) j) (step w j)) ≡ held (set_reg (held r a b c d) j (sum_of (reg (held r a b c d) j) (step w j))) p sr x y
unfolding set_reg
stepped w zero r p sr x y a b c d l f e = absurd (f.0 refl)
stepped w (suc zero) r p sr x y a b c d l f e = refl
stepped w (suc (suc zero)) r p sr x y a b c d l f e = absurd (e.1 refl)
stepped w (suc (suc (suc zero))) r p sr x y a b c d l f e = absurd (e.2 refl)
stepped w (suc (suc (suc (suc zero)))) r p sr x y a b c d l f e = absurd (f.1.0 refl)
stepped w (suc (suc (suc (suc (suc zero))))) r p sr x y a b c d l f e = absurd (f.1.1 refl)
stepped w (suc (suc (suc (suc (suc (suc zero)))))) r p sr x y a b c d l f e = refl
stepped w (suc (suc (suc (suc (suc (suc (suc zero))))))) r p sr x y a b c d l f e = refl
stepped w (suc (suc (suc (suc (suc (suc (suc (suc zero)))))))) r p sr x y a b c d l f e = refl
stepped w (suc (suc (suc (suc (suc (suc (suc (suc (suc zero))))))))) r p sr x y a b c d l f e = refl
stepped w (suc (suc (suc (suc (suc (suc (suc (suc (suc (suc zero)))))))))) r p sr x y a b c d l f e = refl
stepped w (suc (suc (suc (suc (suc (suc (suc (suc (suc (suc (suc zero))))))))))) r p sr x y a b c d l f e = refl
stepped w (suc (suc (suc (suc (suc (suc (suc (suc (suc (suc (suc (suc zero)))))))))))) r p sr x y a b c d l f e = refl
stepped w (suc (suc (suc (suc (suc (suc (suc (suc (suc (suc (suc (suc (suc zero))))))))))))) r p sr x y a b c d l f e = refl
stepped w (suc (suc (suc (suc (suc (suc (suc (suc (suc (suc (suc (suc (suc (suc zero)))))))))))))) r p sr x y a b c d l f e = refl
stepped w (suc (suc (suc (suc (suc (suc (suc (suc (suc (suc (suc (suc (suc (suc (suc zero))))))))))))))) r p sr x y a b c d l f e = refl
stepped w (suc (suc (suc (suc (suc (suc (suc (suc (suc (suc (suc (suc (suc (suc (suc (suc n)))))))))))))))) r p sr x y a b c d l f e = absurd (omega (arith, l))

-- the source steps the same register, whatever PC, SR, R4 and R5 hold
pub after-held : (w : Width) (s : Src) (r : List ℕ) (p sr x y : ℕ) → IsContext r → SrcFits s → SrcFree s → after_source w s (held r p sr x y) ≡ held (after_source w s r) p sr x y
unfolding after_source
after-held w (src.AutoInc j) r p sr x y h f a =
    subst (λ (q : List ℕ). set_reg (held r p sr x y) j (sum_of (reg (held r p sr x y) j) (step w j)) ≡ held (set_reg q j (sum_of (reg q j) (step w j))) p sr x y) (as_held r (reg r 0) h refl)
    (stepped w j r p sr x y (reg r 0) (reg r 2) (reg r 4) (reg r 5) f.0 a f.1)
after-held w (src.Reg n) r p sr x y h f a = refl
after-held w (src.Indexed n k) r p sr x y h f a = refl
after-held w (src.Symbolic k) r p sr x y h f a = refl
after-held w (src.Absolute k) r p sr x y h f a = refl
after-held w (src.Indirect n) r p sr x y h f a = refl
after-held w (src.Immediate k) r p sr x y h f a = refl
after-held w (src.Const k) r p sr x y h f a = refl

-- ---- an operation into a register

pub passed-held : (r : List ℕ) (at n sr x y : ℕ) → at % 2 ≡ 0 → at + 2 * n < 65536 → passed (held r at sr x y) n ≡ held r (at + 2 * n) sr x y
unfolding set_reg
passed-held r at n sr x y e l = ap (λ (p : ℕ). held r p sr x y) (omega (arith, e, l))

-- it writes the register
written : (op : Op2) (w : Width) (d v k : ℕ) (q : List ℕ) → writes op ≡ true → two_from op w (InReg d) v k q ≡ silent (set_reg (set_reg q 2 (alu op w v k (reg q 2)).status) d (alu op w v k (reg q 2)).value)
unfolding put_context put_pairs
written op w d v k q h =
    let o = alu op w v k (reg q 2) in
    let r3 = set_reg q 2 o.status in
    ap (λ (b : Bool). effect_of (if b then put_context (InReg d) o.value r3 else r3) (if b then put_pairs w (InReg d) o.value else [])) h

-- from a context on, whose registers but PC, R4 and R5 are those of r
pub to-register : (op : Op2) (w : Width) (s : Src) (d n : ℕ) (m r : List ℕ) (at x y : ℕ) → IsContext r → SrcFits s → SrcFree s → writes op ≡ true → at % 2 ≡ 0 → at + 2 * n < 65536
    → does m (held r at (reg r 2) x y) (instr.Two op w s (dst.Reg d)) n
    ≡ (let o = alu op w (source_value w s 0 m r) (low w (reg (held (after_source w s r) (at + 2 * n) (reg r 2) x y) d)) (reg r 2) in
    silent (set_reg (held (after_source w s r) (at + 2 * n) o.status x y) d o.value))
unfolding does two place_to value_in set_reg
to-register op w s d n m r at x y h f a t e l =
    let p = at + 2 * n in
    let c1 = held r p (reg r 2) x y in
    let c2 = held (after_source w s r) p (reg r 2) x y in
    let pe : p % 2 ≡ 0 = omega (arith, e) in
    ap (λ (q1 : List ℕ). let q2 = after_source w s q1 in two_from op w (InReg d) (source_value w s (sum_of at 2) m q1) (low w (reg q2 d)) q2) (passed-held r at n (reg r 2) x y e l)
    ∙ (ap (λ (v : ℕ). let q2 = after_source w s c1 in two_from op w (InReg d) v (low w (reg q2 d)) q2) (source-held w s (sum_of at 2) m r p x y h pe a)
    ∙ (ap (λ (q2 : List ℕ). two_from op w (InReg d) (source_value w s 0 m r) (low w (reg q2 d)) q2) (after-held w s r p (reg r 2) x y h f a)
    ∙ written op w d (source_value w s 0 m r) (low w (reg c2 d)) c2 t))

-- ---- into R4

into-r4 : (op : Op2) (w : Width) (s : Src) (n : ℕ) (m r : List ℕ) (at x y : ℕ) → IsContext r → SrcFits s → SrcFree s → writes op ≡ true → at % 2 ≡ 0 → at + 2 * n < 65536
    → does m (held r at (reg r 2) x y) (instr.Two op w s (dst.Reg 4)) n
    ≡ (let o = alu op w (source_value w s 0 m r) (low w x) (reg r 2) in silent (held (after_source w s r) (at + 2 * n) o.status o.value y))
unfolding set_reg
into-r4 op w s n m r at x y h f a t e l = to-register op w s 4 n m r at x y h f a t e l

-- ---- as a step inside a unit

pub operates : (m r : List ℕ) (first past at next n : ℕ) (op : Op2) (w : Width) (s : Src) (x y : ℕ) → IsContext r → SrcFits s → SrcFree s → writes op ≡ true → at % 2 ≡ 0 → next ≡ at + 2 * n → 1 ≤ n
    → first ≤ at → next < past → past ≤ FIRST_ENTRY → IsFetched m at (instr.Two op w s (dst.Reg 4)) n
    → Runs m first past 1 (held r at (reg r 2) x y) (let o = alu op w (source_value w s 0 m r) (low w x) (reg r 2) in held (after_source w s r) next o.status o.value y)
operates m r first past at next n op w s x y h f a t e g some b i l fetched =
    let o = alu op w (source_value w s 0 m r) (low w x) (reg r 2) in
    let c = held r at (reg r 2) x y in
    let q = held (after_source w s r) next o.status o.value y in
    let does-so = subst (λ (p : ℕ). does m c (instr.Two op w s (dst.Reg 4)) n ≡ silent (held (after_source w s r) p o.status o.value y)) (sym g) (into-r4 op w s n m r at x y h f a t e (omega (arith, g, i, l))) in
    Goes 0 c q q (instr.Two op w s (dst.Reg 4)) n fetched does-so (omega (arith, some, b, g), i) (Stays q)

pub moves : (m r : List ℕ) (first past at next n : ℕ) (s : Src) (x y : ℕ) → IsContext r → SrcFits s → SrcFree s → at % 2 ≡ 0 → next ≡ at + 2 * n → 1 ≤ n
    → first ≤ at → next < past → past ≤ FIRST_ENTRY → IsFetched m at (instr.Two Mov Wide s (dst.Reg 4)) n
    → Runs m first past 1 (held r at (reg r 2) x y) (held (after_source Wide s r) next (reg r 2) (source_value Wide s 0 m r) y)
unfolding alu
moves m r first past at next n s x y h f a e g some b i l fetched = operates m r first past at next n Mov Wide s x y h f a refl e g some b i l fetched

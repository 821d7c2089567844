-- Operations as one step behind their source.
use Rattle.std.proofs.Common.{◌≡◌, ℕ, ◌-◌, ◌*◌, ◌%◌, ◌<◌, ◌≤◌, Bool, true, false, List, [], refl, ap, arith}
use Rattle.std.specs.Prelude.{if◌then◌else◌}
use Rattle.std.specs.List.{AllByRecursion}
use Rattle.std.proofs.lemmas.Bool.{false≢true}
use Rattle.machine_model.specs.Context.{reg, set_reg}
use Rattle.machine_model.specs.Operands.{sum_of, source_value, after_source, place_to, value_in, put_context, put_pairs, stored}
use Rattle.machine_model.specs.Alu.{alu}
use Rattle.machine_model.specs.Does.{does, two, one, change, passed, Effect}
use Rattle.machine_model.specs.declared.place.Outcome.{Outcome}
use Rattle.msp_encode.specs.declared.instr.Width.{Width}
use Rattle.msp_encode.specs.declared.instr.Width.TheVariants.{Wide, Byte}
use Rattle.msp_encode.specs.declared.instr.Op2.{Op2}
use Rattle.msp_encode.specs.declared.instr.Op1.{Op1}
use Rattle.msp_encode.specs.declared.instr.Op1.TheVariants.{Rrc, Swpb, Rra, Sxt, Push, Call}
use Rattle.msp_encode.specs.declared.instr.Src.{Src}
use Rattle.msp_encode.specs.declared.instr.Dst.{Dst}
use Rattle.msp_encode.specs.declared.instr.Instr.TheVariants as instr
use Rattle.msp_encode.specs.Forms.{writes, changes}

-- the context behind a source
abbrev pub behind : Width → Src → ℕ → List ℕ → List ℕ
behind w s n r = after_source w s (passed r n)

abbrev pub outcome : Op2 → Width → Src → Dst → ℕ → (m r : List ℕ) → Outcome
outcome op w s d n m r =
    alu op w (source_value w s (sum_of (reg r 0) 2) m (passed r n))
    (value_in w (place_to d (sum_of (reg r 0) (2 * n - 2)) (behind w s n r)) m (behind w s n r)) (reg (behind w s n r) 2)

pub two-writes : (op : Op2) (w : Width) (s : Src) (d : Dst) (n : ℕ) (m r : List ℕ) → writes op ≡ true → does m r (instr.Two op w s d) n
    ≡ record {
      context = put_context (place_to d (sum_of (reg r 0) (2 * n - 2)) (behind w s n r)) (outcome op w s d n m r).value (set_reg (behind w s n r) 2 (outcome op w s d n m r).status);
      written = put_pairs w (place_to d (sum_of (reg r 0) (2 * n - 2)) (behind w s n r)) (outcome op w s d n m r).value;
    }
unfolding does two
two-writes op w s d n m r h =
    let q = behind w s n r in
    let p = place_to d (sum_of (reg r 0) (2 * n - 2)) q in
    let o = outcome op w s d n m r in
    let make : Bool → Effect = λ b. record {
      context = if b then put_context p o.value (set_reg q 2 o.status) else set_reg q 2 o.status;
      written = if b then put_pairs w p o.value else [];
    } in
    ap make h

pub two-tests : (op : Op2) (w : Width) (s : Src) (d : Dst) (n : ℕ) (m r : List ℕ) → writes op ≡ false → does m r (instr.Two op w s d) n
    ≡ record { context = set_reg (behind w s n r) 2 (outcome op w s d n m r).status; written = [] }
unfolding does two
two-tests op w s d n m r h =
    let q = behind w s n r in
    let p = place_to d (sum_of (reg r 0) (2 * n - 2)) q in
    let o = outcome op w s d n m r in
    let make : Bool → Effect = λ b. record {
      context = if b then put_context p o.value (set_reg q 2 o.status) else set_reg q 2 o.status;
      written = if b then put_pairs w p o.value else [];
    } in
    ap make h

pub one-changes : (op : Op1) (w : Width) (s : Src) (n : ℕ) (m r : List ℕ) → changes op ≡ true → does m r (instr.One op w s) n ≡ change op w s n m r
unfolding does one
one-changes Rrc w s n m r h = refl
one-changes Swpb w s n m r h = refl
one-changes Rra w s n m r h = refl
one-changes Sxt w s n m r h = refl
one-changes Push w s n m r h = absurd (false≢true h)
one-changes Call w s n m r h = absurd (false≢true h)

-- a write at an address between even ends stays between them
pub stored-inside : (w : Width) (lo hi a v : ℕ) → lo % 2 ≡ 0 → hi % 2 ≡ 0 → lo ≤ a → a < hi → AllByRecursion (λ (p : ℕ × ℕ). (lo ≤ p.0) × (p.0 < hi)) (stored w a v)
stored-inside Wide lo hi a v e f g h = ((omega arith, omega arith), ((omega arith, omega arith), tt))
stored-inside Byte lo hi a v e f g h = ((g, h), tt)

-- What a comparison tells, and that operations change only the four flags of SR.
use Rattle.std.proofs.Common.{◌≡◌, ℕ, ◌+◌, ◌-◌, ◌%◌, ◌<◌, Bool, eqb, leb, refl, ◌∙◌, arith}
use Rattle.std.proofs.lemmas.Bool.Decides.{nat_tests}
use Rattle.machine_model.specs.Status.{Flags, with_flags}
use Rattle.machine_model.specs.Alu.{alu, added, logical}
use Rattle.msp_encode.specs.declared.instr.Width.{Width}
use Rattle.msp_encode.specs.declared.instr.Op2.{Op2}
use Rattle.msp_encode.specs.declared.instr.Op2.TheVariants.{Mov, Add, Addc, Subc, Sub, Cmp, Dadd, Bit, Bic, Bis, Xor, And}
use Rattle.machine_model.proofs.Flags.{bit_small, carry-with_flags, is_zero-with_flags}
use Rattle.unit_laws.specs.Lines.{compared, ComparedLaw}

at_least : (d s : ℕ) → s < 65536 → leb 65536 (d + (65535 - s) + 1) ≡ leb s d
at_least d s h = grind (arith, nat_tests)

equal : (d s : ℕ) → d < 65536 → s < 65536 → eqb ((d + (65535 - s) + 1) % 65536) 0 ≡ eqb d s
equal d s h k = grind (arith, nat_tests)

pub compared-tells : ComparedLaw
unfolding alu added
compared-tells s d sr h k = record {
  least = carry-with_flags _ _ _ _ _ ∙ at_least d s h;
  same = is_zero-with_flags _ _ _ _ _ ∙ equal d s k h;
}

-- ---- the other bits of SR

-- flags over flags
with_flags-twice : (sr : ℕ) (c z n v c2 z2 n2 v2 : Bool) → with_flags (with_flags sr c z n v) c2 z2 n2 v2 ≡ with_flags sr c2 z2 n2 v2
unfolding with_flags
with_flags-twice sr c z n v c2 z2 n2 v2 = omega (arith, bit_small c, bit_small z, bit_small n, bit_small v)

-- a status is another but for the four flags
abbrev pub SameButFlags : (a b : ℕ) → Type 0
SameButFlags a b = (c z n v : Bool) → with_flags a c z n v ≡ with_flags b c z n v

pub same-self : (a : ℕ) → SameButFlags a a
same-self a c z n v = refl

-- a status is another with four flags over it
pub record IsFlagged (a b : ℕ) : Type 0 where
  pub flags : Flags
  pub is : a ≡ with_flags b flags.c flags.z flags.n flags.v

flagged : (a b : ℕ) (c z n v : Bool) → SameButFlags a b → IsFlagged (with_flags a c z n v) b
flagged a b c z n v h = record { flags = record { c = c; z = z; n = n; v = v }; is = h c z n v }

-- an operation gives SR other flags at most
pub operation-same : (op : Op2) (w : Width) (s d sr : ℕ) → SameButFlags (alu op w s d sr).status sr
unfolding alu added logical
operation-same Mov w s d sr c z n v = refl
operation-same Bic w s d sr c z n v = refl
operation-same Bis w s d sr c z n v = refl
operation-same Add w s d sr c z n v = with_flags-twice sr _ _ _ _ c z n v
operation-same Addc w s d sr c z n v = with_flags-twice sr _ _ _ _ c z n v
operation-same Sub w s d sr c z n v = with_flags-twice sr _ _ _ _ c z n v
operation-same Cmp w s d sr c z n v = with_flags-twice sr _ _ _ _ c z n v
operation-same Subc w s d sr c z n v = with_flags-twice sr _ _ _ _ c z n v
operation-same Dadd w s d sr c z n v = with_flags-twice sr _ _ _ _ c z n v
operation-same And w s d sr c z n v = with_flags-twice sr _ _ _ _ c z n v
operation-same Bit w s d sr c z n v = with_flags-twice sr _ _ _ _ c z n v
operation-same Xor w s d sr c z n v = with_flags-twice sr _ _ _ _ c z n v

-- so does a comparison, after which SR is what it was with flags over it
pub compared-same : (s d a b : ℕ) → SameButFlags a b → SameButFlags (compared s d a) b
unfolding alu added
compared-same s d a b h c z n v = with_flags-twice a _ _ _ _ c z n v ∙ h c z n v

pub compared-flagged : (s d a b : ℕ) → SameButFlags a b → IsFlagged (compared s d a) b
unfolding alu added
compared-flagged s d a b h = flagged a b _ _ _ _ h

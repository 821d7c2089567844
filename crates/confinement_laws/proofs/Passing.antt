-- From an instruction that passes to a safe context.
use Rattle.std.proofs.Common.{◌≡◌, ℕ, ◌<◌, ◌≤◌, ◌⊎◌, true, false, List, [], ◌∷◌, refl, sym, ◌∙◌, subst, inl, inr, arith}
use Rattle.std.specs.List.{AllByRecursion}
use Rattle.msp_encode.specs.declared.instr.Op2.{Op2}
use Rattle.msp_encode.specs.declared.instr.Op2.TheVariants.{Mov, Add, Addc, Subc, Sub, Cmp, Dadd, Bit, Bic, Bis, Xor, And}
use Rattle.msp_encode.specs.declared.instr.Op1.{Op1}
use Rattle.msp_encode.specs.declared.instr.Op1.TheVariants.{Rrc, Swpb, Rra, Sxt, Push, Call}
use Rattle.msp_encode.specs.declared.instr.Src.{Src}
use Rattle.msp_encode.specs.declared.instr.Src.TheVariants as src
use Rattle.msp_encode.specs.Spelling.{SrcRow}
use Rattle.msp_encode.specs.Forms.{Writes, Changes, Pops, writes, changes}
use Rattle.code_model.specs.Guards.{UnitStart}
use Rattle.code_model.specs.Guards as guards
use Rattle.machine_model.specs.Does.{Effect}
use Rattle.machine_laws.specs.Guarded.{StepsHigh, Passes}
use Rattle.machine_laws.specs.Plain.{IsCalm, Goes}
use Rattle.load_model.specs.Domains.{Domain}
use Rattle.node_model.specs.Placed.{bits, address}
use Rattle.node_model.specs.Good.{AtUnit, bounds}
use Rattle.node_model.specs.Instructions.{Inside, Leads}
use Rattle.confinement_laws.proofs.Placing.{placed_src}

pub in-region : (d : Domain) (low top : ℕ) (ws : List (ℕ × ℕ)) → AllByRecursion (λ (w : ℕ × ℕ). (d.lo ≤ w.0) × (w.0 < d.hi)) ws → AllByRecursion (Inside d low top) ws
in-region d low top [] h = tt
in-region d low top (w ∷ ws) h = (inl h.0, in-region d low top ws h.1)

pub in-stack : (d : Domain) (low top : ℕ) (ws : List (ℕ × ℕ)) → AllByRecursion (λ (w : ℕ × ℕ). (low ≤ w.0) × (w.0 < top)) ws → AllByRecursion (Inside d low top) ws
in-stack d low top [] h = tt
in-stack d low top (w ∷ ws) h = (inr h.0, in-stack d low top ws h.1)

-- to a unit start, with writes in the region or in the stack
pub region-leads : (d : Domain) (low top next t : ℕ) (e : Effect) → Passes d.lo d.hi (bounds d low top) (bits d) next e → next ≡ address d t → UnitStart d.object t → Leads d low top e
region-leads d low top next t e p a u = record {
  good = record { steady = p.steady; somewhere = AtUnit t u (p.pc ∙ a) };
  inside = in-region d low top e.written p.inside;
}

pub stack-leads : (d : Domain) (low top next t : ℕ) (e : Effect) → Passes low top (bounds d low top) (bits d) next e → next ≡ address d t → UnitStart d.object t → Leads d low top e
stack-leads d low top next t e p a u = record {
  good = record { steady = p.steady; somewhere = AtUnit t u (p.pc ∙ a) };
  inside = in-stack d low top e.written p.inside;
}

pub silent-leads : (d : Domain) (low top a t : ℕ) (e : Effect) → Goes a (bounds d low top) (bits d) e → a ≡ address d t → UnitStart d.object t → Leads d low top e
silent-leads d low top a t e p q u = record {
  good = record { steady = p.steady; somewhere = AtUnit t u (p.pc ∙ q) };
  inside = subst (AllByRecursion (Inside d low top)) (sym p.silent) tt;
}

-- ---- operations that write, as tests

pub writes-true : (op : Op2) → Writes op → writes op ≡ true
writes-true Cmp h = absurd h
writes-true Bit h = absurd h
writes-true Mov h = refl
writes-true Add h = refl
writes-true Addc h = refl
writes-true Subc h = refl
writes-true Sub h = refl
writes-true Dadd h = refl
writes-true Bic h = refl
writes-true Bis h = refl
writes-true Xor h = refl
writes-true And h = refl

pub writes-or-not : (op : Op2) → Writes op ⊎ (writes op ≡ false)
writes-or-not Cmp = inr refl
writes-or-not Bit = inr refl
writes-or-not Mov = inl tt
writes-or-not Add = inl tt
writes-or-not Addc = inl tt
writes-or-not Subc = inl tt
writes-or-not Sub = inl tt
writes-or-not Dadd = inl tt
writes-or-not Bic = inl tt
writes-or-not Bis = inl tt
writes-or-not Xor = inl tt
writes-or-not And = inl tt

pub changes-true : (op : Op1) → Changes op → changes op ≡ true
changes-true Push h = absurd h
changes-true Call h = absurd h
changes-true Rrc h = refl
changes-true Swpb h = refl
changes-true Rra h = refl
changes-true Sxt h = refl

-- ---- sources that a word spells

base-high : (n r m : ℕ) → SrcRow (src.AutoInc n) r m → r < 16 → (n ≡ 1 → ⊥) → (3 < n) × (n < 16)
base-high n r m h l one = (omega (arith, one, h.2.0, h.2.1, h.2.2), omega (arith, h.0))

pub calm-src : (s : Src) (v r m : ℕ) → SrcRow s r m → r < 16 → (Pops s 1 → ⊥) → IsCalm (placed_src s v)
calm-src (src.AutoInc n) v r m h l p = base-high n r m h l p
calm-src (src.Reg n) v r m h l p = tt
calm-src (src.Indexed n x) v r m h l p = tt
calm-src (src.Symbolic x) v r m h l p = tt
calm-src (src.Absolute x) v r m h l p = tt
calm-src (src.Indirect n) v r m h l p = tt
calm-src (src.Immediate x) v r m h l p = tt
calm-src (src.Const k) v r m h l p = tt

not-four : (n : ℕ) → (3 < n) × (n < 16) → (n ≡ 4 → ⊥) → (4 < n) × (n < 16)
not-four n h four = (omega (arith, four, h.0), h.1)

pub quiet-src : (s : Src) (v r m : ℕ) → SrcRow s r m → r < 16 → guards.StepsNoPointer s → StepsHigh (placed_src s v)
quiet-src (src.AutoInc n) v r m h l p = not-four n (base-high n r m h l p.1) p.0
quiet-src (src.Reg n) v r m h l p = tt
quiet-src (src.Indexed n x) v r m h l p = tt
quiet-src (src.Symbolic x) v r m h l p = tt
quiet-src (src.Absolute x) v r m h l p = tt
quiet-src (src.Indirect n) v r m h l p = tt
quiet-src (src.Immediate x) v r m h l p = tt
quiet-src (src.Const k) v r m h l p = tt

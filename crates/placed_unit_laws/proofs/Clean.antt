-- Facts of clean source instructions.
use Rattle.std.proofs.Common.{◌≡◌, ℕ, Bool, true, false, Option, refl, sym, subst, inl, inr}
use Rattle.msp_encode.specs.declared.instr.Op2.{Op2}
use Rattle.msp_encode.specs.declared.instr.Op2.TheVariants.{Mov, Add, Addc, Subc, Sub, Cmp, Dadd, Bit, Bic, Bis, Xor, And}
use Rattle.msp_encode.specs.declared.instr.Op1.{Op1}
use Rattle.msp_encode.specs.declared.instr.Width.{Width}
use Rattle.msp_encode.specs.declared.instr.Width.TheVariants.{Wide, Byte}
use Rattle.msp_encode.specs.declared.instr.Src.{Src}
use Rattle.msp_encode.specs.declared.instr.Src.TheVariants as src
use Rattle.msp_encode.specs.declared.instr.Dst.{Dst}
use Rattle.msp_encode.specs.declared.instr.Dst.TheVariants as dst
use Rattle.msp_encode.specs.declared.instr.Instr.{Instr}
use Rattle.msp_encode.specs.declared.instr.Instr.TheVariants as instr
use Rattle.msp_encode.specs.Spelling.{SrcFits, DstFits, InstrFits}
use Rattle.msp_encode.specs.Forms.{Writes, Stacks, IsMov, IsWide, SrcIs, DstIs, Pops, WritesReg}
use Rattle.code_model.specs.declared.object.Object.{Object}
use Rattle.code_model.specs.declared.parts.RelKind.{RelKind}
use Rattle.load_model.specs.Domains.{Domain}
use Rattle.insert_model.specs.declared.line.Line.{Line}
use Rattle.insert_model.specs.Units.{is_wide_move}
use Rattle.insert_model.specs.Faults.{UsesCheck, SrcUsesCheck, DstUsesCheck, SetsPc, ReadsPc, IsSymbolicSrc, IsSymbolicDst, HasSymbolic, IsNoPopTarget, HasForbiddenPop, StepsBase, HasForbiddenStore}
use Rattle.insert_laws.specs.Shapes.{IsCleanLine}
use Rattle.unit_laws.specs.Frame.{SrcAvoids, DstAvoids}
use Rattle.unit_laws.specs.Guarded.{Steps}
use Rattle.unit_laws.specs.Rows.{SrcFree, DstFree}
use Rattle.placed_unit_laws.specs.Placed.{placed_src, placed_dst}

-- ---- operands

src-free : (s : Src) → SrcFits s → (SrcUsesCheck s → ⊥) → (SrcIs s 0 → ⊥) → (IsSymbolicSrc s → ⊥) → SrcFree s
src-free (src.Reg n) f c pc y = (pc, ((λ e. c (inl e)), (λ e. c (inr e))))
src-free (src.Indexed n x) f c pc y = (f.1.0, ((λ e. c (inl e)), (λ e. c (inr e))))
src-free (src.Symbolic x) f c pc y = y tt
src-free (src.Absolute x) f c pc y = tt
src-free (src.Indirect n) f c pc y = (f.1.0, ((λ e. c (inl e)), (λ e. c (inr e))))
src-free (src.AutoInc n) f c pc y = (f.1.0, ((λ e. c (inl e)), (λ e. c (inr e))))
src-free (src.Immediate x) f c pc y = tt
src-free (src.Const k) f c pc y = tt

dst-free : (t : Dst) → DstFits t → (DstUsesCheck t → ⊥) → (DstIs t 0 → ⊥) → (IsSymbolicDst t → ⊥) → DstFree t
dst-free (dst.Reg n) f c pc y = (pc, ((λ e. c (inl e)), (λ e. c (inr e))))
dst-free (dst.Indexed n x) f c pc y = (f.1.0, ((λ e. c (inl e)), (λ e. c (inr e))))
dst-free (dst.Symbolic x) f c pc y = y tt
dst-free (dst.Absolute x) f c pc y = tt

-- so are they where they are placed
pub src-placed : (o : Object) (d : Domain) (k : Option RelKind) (s : Src) → SrcFree s → SrcFree (placed_src o d k s)
src-placed o d k (src.Reg n) f = f
src-placed o d k (src.Indexed n x) f = f
src-placed o d k (src.Symbolic x) f = f
src-placed o d k (src.Absolute x) f = f
src-placed o d k (src.Indirect n) f = f
src-placed o d k (src.AutoInc n) f = f
src-placed o d k (src.Immediate x) f = f
src-placed o d k (src.Const c) f = f

pub dst-placed : (o : Object) (d : Domain) (k : Option RelKind) (t : Dst) → DstFree t → DstFree (placed_dst o d k t)
dst-placed o d k (dst.Reg n) f = f
dst-placed o d k (dst.Indexed n x) f = f
dst-placed o d k (dst.Symbolic x) f = f
dst-placed o d k (dst.Absolute x) f = f

pub src-avoids : (s : Src) → SrcFree s → SrcAvoids s
src-avoids (src.Reg n) f = f.1
src-avoids (src.Indexed n x) f = f.1
src-avoids (src.Symbolic x) f = absurd f
src-avoids (src.Absolute x) f = tt
src-avoids (src.Indirect n) f = f.1
src-avoids (src.AutoInc n) f = f.1
src-avoids (src.Immediate x) f = tt
src-avoids (src.Const k) f = tt

pub dst-avoids : (t : Dst) → DstFree t → DstAvoids t
dst-avoids (dst.Reg n) f = f.1
dst-avoids (dst.Indexed n x) f = f.1
dst-avoids (dst.Symbolic x) f = absurd f
dst-avoids (dst.Absolute x) f = tt

-- a source in place steps the register that it steps
pub steps-placed : (o : Object) (d : Domain) (k : Option RelKind) (s : Src) (n : ℕ) → Steps (placed_src o d k s) n → Steps s n
steps-placed o d k (src.Reg j) n h = h
steps-placed o d k (src.Indexed j x) n h = h
steps-placed o d k (src.Symbolic x) n h = h
steps-placed o d k (src.Absolute x) n h = h
steps-placed o d k (src.Indirect j) n h = h
steps-placed o d k (src.AutoInc j) n h = h
steps-placed o d k (src.Immediate x) n h = h
steps-placed o d k (src.Const c) n h = h

pub steps-pops : (s : Src) (n : ℕ) → Steps s n → Pops s n
steps-pops (src.Reg j) n h = h
steps-pops (src.Indexed j x) n h = h
steps-pops (src.Symbolic x) n h = h
steps-pops (src.Absolute x) n h = h
steps-pops (src.Indirect j) n h = h
steps-pops (src.AutoInc j) n h = h
steps-pops (src.Immediate x) n h = h
steps-pops (src.Const c) n h = h

-- ---- a MOV of a word

wide-move : (op : Op2) (w : Width) → IsMov op → IsWide w → is_wide_move op w ≡ true
wide-move Mov Wide a b = refl
wide-move Mov Byte a b = absurd b
wide-move Add w a b = absurd a
wide-move Addc w a b = absurd a
wide-move Subc w a b = absurd a
wide-move Sub w a b = absurd a
wide-move Cmp w a b = absurd a
wide-move Dadd w a b = absurd a
wide-move Bit w a b = absurd a
wide-move Bic w a b = absurd a
wide-move Bis w a b = absurd a
wide-move Xor w a b = absurd a
wide-move And w a b = absurd a

-- what isn't false is true
sure : (b : Bool) → (b ≡ false → ⊥) → b ≡ true
sure true h = refl
sure false h = absurd (h refl)

true-not-false : (b : Bool) → b ≡ true → b ≡ false → ⊥
true-not-false true e f = let g : true ≡ false = f in cc
true-not-false false e f = let g : false ≡ true = e in cc

-- ---- two operands

pub record IsTwoLine (o : Object) (l : Line) (op : Op2) (w : Width) (s : Src) (t : Dst) : Type 0 where
  pub clean : IsCleanLine o l
  pub line : l.instr ≡ instr.Two op w s t

module _ (o : Object) (l : Line) (op : Op2) (w : Width) (s : Src) (t : Dst) (is : IsTwoLine o l op w s t) where
  pub two-fits : InstrFits (instr.Two op w s t)
  two-fits = subst InstrFits is.line is.clean.fits

  pub two-source : SrcFree s
  two-source = src-free s two-fits.0 (λ h. is.clean.free (subst UsesCheck (sym is.line) (inl h)))
      (λ h. is.clean.allowed (inr (inl (inl (subst ReadsPc (sym is.line) (inl h)))))) (λ h. is.clean.allowed (inr (inl (inr (inl (subst HasSymbolic (sym is.line) (inl h)))))))

  pub two-target : (DstIs t 0 → ⊥) → DstFree t
  two-target pc = dst-free t two-fits.1 (λ h. is.clean.free (subst UsesCheck (sym is.line) (inr h))) pc (λ h. is.clean.allowed (inr (inl (inr (inl (subst HasSymbolic (sym is.line) (inr h)))))))

  -- PC is read by no operation
  pub reads-no-pc : DstIs t 0 → (IsMov op → ⊥) → ⊥
  reads-no-pc h other = is.clean.allowed (inr (inl (inl (subst ReadsPc (sym is.line) (inr (h, other))))))

  -- and written by a MOV of a word
  pub moves-to-pc : Writes op → DstIs t 0 → is_wide_move op w ≡ true
  moves-to-pc writes h = sure (is_wide_move op w) (λ e. is.clean.allowed (inl (inr (inr (subst (λ (i : Instr). WritesReg i 0 × (SetsPc i → ⊥)) (sym is.line) ((writes, h), (λ m. true-not-false (is_wide_move op w) (wide-move op w m.0 m.1) e)))))))

  pub pops-aright : Pops s 1 → Writes op → IsNoPopTarget t → ⊥
  pops-aright pops writes h = is.clean.allowed (inr (inr (inl (subst HasForbiddenPop (sym is.line) (pops, writes, h)))))

  pub stores-aright : Writes op → StepsBase s t → ⊥
  stores-aright writes h = is.clean.allowed (inr (inr (inr (inl (subst HasForbiddenStore (sym is.line) (writes, h))))))

-- ---- one operand

pub record IsOneLine (o : Object) (l : Line) (op : Op1) (w : Width) (s : Src) : Type 0 where
  pub clean : IsCleanLine o l
  pub line : l.instr ≡ instr.One op w s

module _ (o : Object) (l : Line) (op : Op1) (w : Width) (s : Src) (is : IsOneLine o l op w s) where
  pub one-fits : InstrFits (instr.One op w s)
  one-fits = subst InstrFits is.line is.clean.fits

  pub one-source : SrcFree s
  one-source = src-free s one-fits.0 (λ h. is.clean.free (subst UsesCheck (sym is.line) h))
      (λ h. is.clean.allowed (inr (inl (inl (subst ReadsPc (sym is.line) h))))) (λ h. is.clean.allowed (inr (inl (inr (inl (subst HasSymbolic (sym is.line) h))))))

  pub one-pops-not : Stacks op → Pops s 1 → ⊥
  one-pops-not h pops = is.clean.allowed (inr (inr (inl (subst HasForbiddenPop (sym is.line) (h, pops)))))

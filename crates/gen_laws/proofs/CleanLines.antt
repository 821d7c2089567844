-- Nothing is wrong with a line of a generated object, by the form of its instruction.
use Rattle.std.proofs.Common.{◌≡◌, ℕ, ◌+◌, ◌<◌, ◌⊎◌, inl, inr, length, pos, Option, None, Some, refl, sym, subst, arith}
use Rattle.std.proofs.lemmas.Int.{ints}
use Rattle.msp_encode.specs.declared.instr.Op2.{Op2}
use Rattle.msp_encode.specs.declared.instr.Op2.TheVariants.{Mov}
use Rattle.msp_encode.specs.declared.instr.Op1.TheVariants.{Rra, Push, Call}
use Rattle.msp_encode.specs.declared.instr.Cond.TheVariants.{Ne}
use Rattle.msp_encode.specs.declared.instr.Width.TheVariants.{Wide}
use Rattle.msp_encode.specs.declared.instr.Src.TheVariants as src
use Rattle.msp_encode.specs.declared.instr.Dst.TheVariants as dst
use Rattle.msp_encode.specs.declared.instr.Instr.{Instr}
use Rattle.msp_encode.specs.declared.instr.Instr.TheVariants as instr
use Rattle.code_model.specs.declared.object.Object.{Object}
use Rattle.kernel_model.specs.declared.entries.TheConstants.{EMITS}
use Rattle.kernel_model.specs.declared.kinds.Kind.{Kind}
use Rattle.kernel_model.specs.declared.kinds.Kind.TheVariants.{App}
use Rattle.code_model.specs.declared.parts.RelKind.{RelKind}
use Rattle.code_model.specs.declared.parts.RelKind.TheVariants.{Code, Data}
use Rattle.code_model.specs.Starts.{Start}
use Rattle.insert_model.specs.declared.line.Line.{Line}
use Rattle.insert_model.specs.Faults.{IsStartOffset, IsJumpStart, IsSourceCall, IsWrongWord}
use Rattle.insert_laws.specs.Shapes.{IsCleanLine}
use Rattle.gen_laws.specs.Instructions.{IsFree}

neither : {A B : Type 0} → (A → ⊥) → (B → ⊥) → A ⊎ B → ⊥
neither f g (inl a) = f a
neither f g (inr b) = g b

no : ⊥ → ⊥
no h = h

-- an instruction at a place, with the relocation of its second word
abbrev pub line_of : ℕ → Instr → Option RelKind → Line
line_of at i k = record { at = at; instr = i; first = None; second = k; third = None }

-- no code word's relocation
abbrev pub NotCode : Option RelKind → Type 0
NotCode k = k ≡ Some Code → ⊥

pub no_code_none : NotCode None
no_code_none e = cc

pub no_code_data : NotCode (Some Data)
no_code_data e = cc

module _ (o : Object) (at : ℕ) where
  -- `op Rfrom,Rto`
  pub registers_clean : (op : Op2) (from to : ℕ) → IsFree from → IsFree to → at + 1 < length o.code → IsCleanLine o (line_of at (instr.Two op Wide (src.Reg from) (dst.Reg to)) None)
  registers_clean op from to f t inside = record {
    fits = ((omega (arith, f.most), λ e. omega (arith, f.least)), omega (arith, t.most));
    free = neither (neither (λ e. omega (arith, f.least)) (λ e. omega (arith, f.least))) (neither (λ e. omega (arith, t.least)) (λ e. omega (arith, t.least)));
    allowed = neither (neither no (neither (λ h. omega (arith, h.0.1, t.least)) (λ h. omega (arith, h.0.1, t.least))))
        (neither (neither (neither (λ e. omega (arith, f.least)) (λ h. omega (arith, h.0, t.least))) (neither (neither no no) no))
        (neither (λ h. h.0) (neither (λ h. h.1) (neither (λ h. h.1) (neither (λ h. h.1) (λ h. h.1))))));
    lands = neither no (neither (λ h. omega (arith, h.0.2, t.least)) (neither (neither no no) (λ h. omega (arith, h.0))));
  }

  -- `op #x,Rto` with no relocation of code
  pub immediate_clean : (op : Op2) (x to : ℕ) (k : Option RelKind) → NotCode k → IsFree to → at + 2 < length o.code → IsCleanLine o (line_of at (instr.Two op Wide (src.Immediate x) (dst.Reg to)) k)
  immediate_clean op x to k no_code t inside = record {
    fits = (tt, omega (arith, t.most));
    free = neither no (neither (λ e. omega (arith, t.least)) (λ e. omega (arith, t.least)));
    allowed = neither (neither no (neither (λ h. omega (arith, h.0.1, t.least)) (λ h. omega (arith, h.0.1, t.least))))
        (neither (neither (neither no (λ h. omega (arith, h.0, t.least))) (neither (neither no no) no))
        (neither (λ h. h.0) (neither (λ h. h.1) (neither (λ h. h.1) (neither (λ h. carried k h.1) (λ h. h.1))))));
    lands = neither no (neither (λ h. omega (arith, h.0.2, t.least)) (neither (neither (λ h. no_code h.0) no) (λ h. omega (arith, h.0))));
  }
    where
      carried : (k : Option RelKind) → IsWrongWord (line_of at (instr.Two op Wide (src.Immediate x) (dst.Reg to)) k) 1 → ⊥
      carried None h = h
      carried (Some j) h = h (inl (refl, tt))

  -- `MOV Rfrom,&x`
  pub keep_clean : (from x : ℕ) → IsFree from → at + 2 < length o.code → IsCleanLine o (line_of at (instr.Two Mov Wide (src.Reg from) (dst.Absolute x)) (Some Data))
  keep_clean from x f inside = record {
    fits = ((omega (arith, f.most), λ e. omega (arith, f.least)), tt);
    free = neither (neither (λ e. omega (arith, f.least)) (λ e. omega (arith, f.least))) no;
    allowed = neither (neither no (neither (λ h. h.0.1) (λ h. h.0.1)))
        (neither (neither (neither (λ e. omega (arith, f.least)) (λ h. h.0)) (neither (neither no no) no))
        (neither (λ h. h.0) (neither (λ h. h.1) (neither (λ h. h.1) (neither (λ h. h.1 (inr (refl, tt))) (λ h. h.1))))));
    lands = neither no (neither (λ h. h.0.2) (neither (neither no (λ h. no_code_data h.0)) (λ h. omega (arith, h.0))));
  }

  -- `MOV Rfrom,0(R12)`
  pub store_clean : (from : ℕ) → IsFree from → at + 2 < length o.code → IsCleanLine o (line_of at (instr.Two Mov Wide (src.Reg from) (dst.Indexed 12 0)) None)
  store_clean from f inside = record {
    fits = ((omega (arith, f.most), λ e. omega (arith, f.least)), (omega arith, ((λ e. omega arith), (λ e. omega arith), (λ e. omega arith))));
    free = neither (neither (λ e. omega (arith, f.least)) (λ e. omega (arith, f.least))) (neither (λ e. omega arith) (λ e. omega arith));
    allowed = neither (neither no (neither (λ h. h.0.1) (λ h. h.0.1)))
        (neither (neither (neither (λ e. omega (arith, f.least)) (λ h. h.0)) (neither (neither no no) no))
        (neither (λ h. h.0) (neither (λ h. h.1) (neither (λ h. h.1) (neither (λ h. h.1) (λ h. h.1))))));
    lands = neither no (neither (λ h. h.0.2) (neither (neither no (λ h. no_code_none h.0)) (λ h. omega (arith, h.0))));
  }

  -- `PUSH Rfrom`
  pub push_clean : (from : ℕ) → IsFree from → at + 1 < length o.code → IsCleanLine o (line_of at (instr.One Push Wide (src.Reg from)) None)
  push_clean from f inside = record {
    fits = ((omega (arith, f.most), λ e. omega (arith, f.least)), tt, tt);
    free = neither (λ e. omega (arith, f.least)) (λ e. omega (arith, f.least));
    allowed = neither (neither no (neither (λ h. h.0.0) (λ h. h.0.0)))
        (neither (neither (λ e. omega (arith, f.least)) (neither no (λ h. h.0)))
        (neither (λ h. h.1) (neither no (neither (λ h. h.1) (neither (λ h. h.1) (λ h. h.1))))));
    lands = neither no (neither (λ h. h.0) (neither no (λ h. omega (arith, h.0))));
  }

  -- `MOV @SP+,Rto`
  pub pop_clean : (to : ℕ) → IsFree to → at + 1 < length o.code → IsCleanLine o (line_of at (instr.Two Mov Wide (src.AutoInc 1) (dst.Reg to)) None)
  pop_clean to t inside = record {
    fits = ((omega arith, ((λ e. omega arith), (λ e. omega arith), (λ e. omega arith))), omega (arith, t.most));
    free = neither (neither (λ e. omega arith) (λ e. omega arith)) (neither (λ e. omega (arith, t.least)) (λ e. omega (arith, t.least)));
    allowed = neither (neither no (neither (λ h. omega (arith, h.0.1, t.least)) (λ h. omega (arith, h.0.1, t.least))))
        (neither (neither (neither no (λ h. omega (arith, h.0, t.least))) (neither (neither no no) no))
        (neither (λ h. neither (λ e. omega (arith, t.least)) (neither (λ e. omega (arith, t.least)) no) h.2) (neither (λ h. h.1) (neither (λ h. h.1) (neither (λ h. h.1) (λ h. h.1))))));
    lands = neither no (neither (λ h. omega (arith, h.0.2, t.least)) (neither (neither no no) (λ h. omega (arith, h.0))));
  }

  -- `RRA Rto`
  pub halve_clean : (to : ℕ) → IsFree to → at + 1 < length o.code → IsCleanLine o (line_of at (instr.One Rra Wide (src.Reg to)) None)
  halve_clean to t inside = record {
    fits = ((omega (arith, t.most), λ e. omega (arith, t.least)), tt, tt);
    free = neither (λ e. omega (arith, t.least)) (λ e. omega (arith, t.least));
    allowed = neither (neither no (neither (λ h. omega (arith, h.0.1, t.least)) (λ h. omega (arith, h.0.1, t.least))))
        (neither (neither (λ e. omega (arith, t.least)) (neither no (λ h. neither (neither (λ e. omega (arith, t.least)) (neither (λ e. omega (arith, t.least)) (λ e. omega (arith, t.least)))) no h.1)))
        (neither (λ h. h.0) (neither no (neither (λ h. h.1) (neither (λ h. h.1) (λ h. h.1))))));
    lands = neither no (neither (λ h. h.0) (neither no (λ h. omega (arith, h.0))));
  }

  -- JNE over one word
  pub skip_clean : Start o.code (at + 2) → at + 1 < length o.code → IsCleanLine o (line_of at (instr.Jump Ne (pos 1)) None)
  unfolding IsJumpStart
  skip_clean start inside = record {
    fits = (omega (arith, ints), omega (arith, ints));
    free = no;
    allowed = neither (neither no (neither (λ h. h.0) (λ h. h.0))) (neither (neither no (neither no no)) (neither no (neither no (neither (λ h. h.1) (neither (λ h. h.1) (λ h. h.1))))));
    lands = neither (λ h. h (at + 2, start, omega (arith, ints))) (neither no (neither no (λ h. omega (arith, h.0))));
  }

  emits : (k : Kind) → k ≡ App → IsSourceCall k EMITS
  emits k e = subst (λ (j : Kind). IsSourceCall j EMITS) (sym e) ((omega arith, omega arith, omega arith), λ f. omega arith)

  -- a call of the kernel's entry `emit`
  pub emit_clean : o.kind ≡ App → at + 2 < length o.code → IsCleanLine o (line_of at (instr.One Call Wide (src.Immediate EMITS)) None)
  emit_clean app inside = record {
    fits = (tt, tt, tt);
    free = no;
    allowed = neither (neither no (neither (λ h. h.0.0) (λ h. h.0.0)))
        (neither (neither no (neither no (λ h. h.0))) (neither (λ h. h.1) (neither no (neither (λ h. h.1) (neither (λ h. h.1) (λ h. h.1))))));
    lands = neither no (neither (λ h. h.1 (inr (refl, emits o.kind app))) (neither (λ h. no_code_none h.0) (λ h. omega (arith, h.0))));
  }

  -- the branch to the first instruction
  pub restart_clean : IsStartOffset o.code 0 → IsCleanLine o (line_of at (instr.Two Mov Wide (src.Immediate 0) (dst.Reg 0)) (Some Code))
  restart_clean start = record {
    fits = (tt, omega arith);
    free = neither no (neither (λ e. omega arith) (λ e. omega arith));
    allowed = neither (neither no (neither (λ h. omega (arith, h.0.1)) (λ h. h.1 (tt, tt, refl))))
        (neither (neither (neither no (λ h. h.1 tt)) (neither (neither no no) no))
        (neither (λ h. h.0) (neither (λ h. h.1) (neither (λ h. h.1) (neither (λ h. h.1 (inl (refl, tt))) (λ h. h.1))))));
    lands = neither no (neither (λ h. h.1 (inl (refl, start))) (neither (neither (λ h. h.1 start) no) (λ h. h.2 (tt, tt, refl))));
  }

-- What written bytes leave.
use Rattle.std.proofs.Common.{◌≡◌, ◌≢◌, ℕ, ◌+◌, ◌*◌, ◌/◌, ◌<◌, ◌≤◌, ◌⊎◌, List, [], ◌∷◌, length, get_or, set, refl, sym, ap, ◌∙◌, subst, inl, inr, arith}
use Rattle.std.specs.List.{AllByRecursion}
use Rattle.std.proofs.lemmas.List.{length-set, get_or-set_same, get_or-set_other, get_or_past}
use Rattle.std.proofs.lemmas.Bool.{cases_eq, cases_lt, cases_Bool}
use Rattle.machine_model.specs.Memory.{word_at, put_all, IsMemory}
use Rattle.machine_model.specs.Context.{reg, IsContext}
use Rattle.machine_model.specs.Operands.{sum_of, put_pairs, stored}
use Rattle.machine_model.specs.Does.{does, one, change, push, call, reti, jump, lowered, Effect, passed}
use Rattle.machine_model.specs.declared.place.Place.{Place}
use Rattle.machine_model.specs.declared.place.Place.TheVariants.{InReg, At}
use Rattle.msp_encode.specs.declared.instr.Width.{Width}
use Rattle.msp_encode.specs.declared.instr.Width.TheVariants.{Wide, Byte}
use Rattle.msp_encode.specs.declared.instr.Op2.{Op2}
use Rattle.msp_encode.specs.declared.instr.Op1.{Op1}
use Rattle.msp_encode.specs.declared.instr.Op1.TheVariants.{Rrc, Swpb, Rra, Sxt, Push, Call}
use Rattle.msp_encode.specs.declared.instr.Src.{Src}
use Rattle.msp_encode.specs.declared.instr.Dst.{Dst}
use Rattle.msp_encode.specs.declared.instr.Instr.TheVariants as instr
use Rattle.msp_encode.specs.Forms.{writes}
use Rattle.machine_laws.specs.Writes.{MemoryLaw, PartLaw, WordLaw, WrittenLaw}
use Rattle.machine_model.proofs.Values.{alu-small, one-small, source-small, value-small, size-word}
use Rattle.machine_model.proofs.Contexts.{set-context, after-context}
use Rattle.machine_laws.proofs.Operations.{behind, two-writes, two-tests}

-- ---- bytes stay bytes

abbrev Small : ℕ × ℕ → Type 0
Small w = w.1 < 256

small-after : (m : List ℕ) (a v : ℕ) → ((k : ℕ) → get_or m k 0 < 256) → v < 256 → (k : ℕ) → get_or (set m a v) k 0 < 256
small-after m a v h b k = elim (cases_eq k a) [ inl e ↦ there e | inr d ↦ rw (get_or-set_other m a k v 0 d) (h k) ]
  where
    there : k ≡ a → get_or (set m a v) k 0 < 256
    there e = elim (cases_lt a (length m)) [
      | inl i ↦ rw e (rw (get_or-set_same m a v 0 i) b)
      | inr i ↦ rw (get_or_past (set m a v) k 0 (omega (arith, length-set m a v))) (omega arith)
    ]

memory-after : (ws : List (ℕ × ℕ)) (m : List ℕ) → IsMemory m → AllByRecursion Small ws → IsMemory (put_all m ws)
memory-after [] m h s = h
memory-after (w ∷ ws) m h s = memory-after ws (set m w.0 w.1) record { bytes = length-set m w.0 w.1 ∙ h.bytes; small = small-after m w.0 w.1 h.small s.0 } s.1

stored-small : (w : Width) (a v : ℕ) → v < 65536 → AllByRecursion Small (stored w a v)
stored-small Wide a v h = (omega arith, (omega arith, tt))
stored-small Byte a v h = (omega arith, tt)

put-small : (w : Width) (p : Place) (v : ℕ) → v < 65536 → AllByRecursion Small (put_pairs w p v)
unfolding put_pairs
put-small w (InReg n) v h = tt
put-small w (At a) v h = stored-small w a v h

two-small : (m r : List ℕ) (op : Op2) (w : Width) (s : Src) (d : Dst) (n : ℕ) → IsMemory m → AllByRecursion Small (does m r (instr.Two op w s d) n).written
two-small m r op w s d n h = elim (cases_Bool (writes op)) [
  | inl t ↦ subst (λ (e : Effect). AllByRecursion Small e.written) (sym (two-writes op w s d n m r t)) (put-small w _ _ (size-word w _ (alu-small op w _ _ _ (source-small w s _ m _ h) (value-small w _ m _ h))))
  | inr f ↦ subst (λ (e : Effect). AllByRecursion Small e.written) (sym (two-tests op w s d n m r f)) tt
]

change-small : (m r : List ℕ) (op : Op1) (w : Width) (s : Src) (n : ℕ) → IsMemory m → AllByRecursion Small (change op w s n m r).written
unfolding change
change-small m r op w s n h = put-small w _ _ (one-small op w _ _ (source-small w s _ m _ h))

push-small : (m r : List ℕ) (w : Width) (s : Src) (n : ℕ) → IsMemory m → AllByRecursion Small (push w s n m r).written
unfolding push
push-small m r w s n h = stored-small w _ _ (size-word w _ (source-small w s _ m _ h))

call-small : (m r : List ℕ) (s : Src) (n : ℕ) → IsContext r → AllByRecursion Small (call s n m r).written
unfolding call
call-small m r s n c =
    stored-small Wide (reg (lowered (behind Wide s n r)) 1) (reg (lowered (behind Wide s n r)) 0) ((set-context (behind Wide s n r) 1 (sum_of (reg (behind Wide s n r) 1) 65534) (after-context Wide s (passed r n) (set-context r 0 _ c (omega arith))) (omega arith)).small 0)

one-written : (m r : List ℕ) (op : Op1) (w : Width) (s : Src) (n : ℕ) → IsMemory m → IsContext r → AllByRecursion Small (one op w s n m r).written
unfolding one
one-written m r Rrc w s n h c = change-small m r Rrc w s n h
one-written m r Swpb w s n h c = change-small m r Swpb w s n h
one-written m r Rra w s n h c = change-small m r Rra w s n h
one-written m r Sxt w s n h c = change-small m r Sxt w s n h
one-written m r Push w s n h c = push-small m r w s n h
one-written m r Call w s n h c = call-small m r s n c

pub does-small : WrittenLaw
unfolding does reti jump
does-small m r (instr.Two op w s d) n h c = two-small m r op w s d n h
does-small m r (instr.One op w s) n h c = one-written m r op w s n h c
does-small m r instr.Reti n h c = tt
does-small m r (instr.Jump k z) n h c = tt

pub memory-stays : MemoryLaw
memory-stays m r i n h c = memory-after (does m r i n).written m h (does-small m r i n h c)

-- ---- parts that writes avoid

apart-from : (from to a k : ℕ) → (a < from) ⊎ (to ≤ a) → from ≤ k → k < to → k ≢ a
apart-from from to a k (inl h) l u = omega arith
apart-from from to a k (inr h) l u = omega arith

pub part-stays : PartLaw
part-stays from to m [] h k l u = refl
part-stays from to m (w ∷ ws) h k l u = part-stays from to (set m w.0 w.1) ws h.1 k l u ∙ get_or-set_other m w.0 k w.1 0 (apart-from from to w.0 k h.0 l u)

pub word-stays : WordLaw
unfolding word_at
word-stays from to m n a h l u = ap (λ (x : ℕ). x + 256 * get_or n (a / 2 * 2 + 1) 0) (h (a / 2 * 2) l (omega arith)) ∙ ap (λ (x : ℕ). get_or m (a / 2 * 2) 0 + 256 * x) (h (a / 2 * 2 + 1) (omega arith) u)

-- Contexts as sixteen words.
use Rattle.std.proofs.Common.{◌≡◌, ℕ, zero, suc, ◌+◌, ◌<◌, ◌≤◌, List, [], ◌∷◌, length, get_or, set, drop, sym, ap, ◌∙◌, subst, inl, inr, arith}
use Rattle.std.proofs.lemmas.List.{drop_more, drop_all, length-set, get_or-set_same, get_or-set_other, get_or_past}
use Rattle.std.proofs.lemmas.Bool.{cases_eq, cases_lt}
use Rattle.std.proofs.lemmas.Bool.Decides.{nat_tests}
use Rattle.machine_model.specs.Memory.{even}
use Rattle.machine_model.specs.Context.{reg, set_reg, IsContext}
use Rattle.machine_model.specs.Operands.{after_source}
use Rattle.msp_encode.specs.declared.instr.Width.{Width}
use Rattle.msp_encode.specs.declared.instr.Src.{Src}
use Rattle.msp_encode.specs.declared.instr.Src.TheVariants as src

-- the sixteen registers, one by one
abbrev pub words : List ℕ → List ℕ
words r = reg r 0 ∷ reg r 1 ∷ reg r 2 ∷ reg r 3 ∷ reg r 4 ∷ reg r 5 ∷ reg r 6 ∷ reg r 7 ∷ reg r 8 ∷ reg r 9 ∷ reg r 10 ∷ reg r 11 ∷ reg r 12 ∷ reg r 13 ∷ reg r 14 ∷ reg r 15 ∷ []

step : (k : ℕ) (l rest : List ℕ) → k < length l → drop (k + 1) l ≡ rest → drop k l ≡ get_or l k 0 ∷ rest
step k l rest h e = drop_more l k 0 h ∙ ap (λ t. get_or l k 0 ∷ t) e

pub as_words : (r : List ℕ) → length r ≡ 16 → words r ≡ r
as_words r e =
    let s15 = step 15 r [] (omega arith) (drop_all 16 r (omega arith)) in
    let s14 = step 14 r _ (omega arith) s15 in
    let s13 = step 13 r _ (omega arith) s14 in
    let s12 = step 12 r _ (omega arith) s13 in
    let s11 = step 11 r _ (omega arith) s12 in
    let s10 = step 10 r _ (omega arith) s11 in
    let s9 = step 9 r _ (omega arith) s10 in
    let s8 = step 8 r _ (omega arith) s9 in
    let s7 = step 7 r _ (omega arith) s8 in
    let s6 = step 6 r _ (omega arith) s7 in
    let s5 = step 5 r _ (omega arith) s6 in
    let s4 = step 4 r _ (omega arith) s5 in
    let s3 = step 3 r _ (omega arith) s4 in
    let s2 = step 2 r _ (omega arith) s3 in
    let s1 = step 1 r _ (omega arith) s2 in
    sym (step 0 r _ (omega arith) s1)

-- ---- a context after one register was set

small-set : (l : List ℕ) (n v : ℕ) → ((k : ℕ) → get_or l k 0 < 65536) → v < 65536 → (k : ℕ) → get_or (set l n v) k 0 < 65536
small-set l n v h b k = elim (cases_eq k n) [ inl e ↦ at_n e | inr d ↦ rw (get_or-set_other l n k v 0 d) (h k) ]
  where
    at_n : k ≡ n → get_or (set l n v) k 0 < 65536
    at_n e = elim (cases_lt n (length l)) [
      | inl i ↦ rw e (rw (get_or-set_same l n v 0 i) b)
      | inr i ↦ rw (get_or_past (set l n v) k 0 (omega (arith, length-set l n v))) (omega arith)
    ]

pub set_reg-high : (r : List ℕ) (n v : ℕ) → 4 ≤ n → set_reg r n v ≡ set r n v
unfolding set_reg
set_reg-high r n v h = grind (arith, nat_tests)

-- a context stays one
pub set-context : (r : List ℕ) (n v : ℕ) → IsContext r → v < 65536 → IsContext (set_reg r n v)
unfolding set_reg
set-context r zero v h b = record {
  words = length-set r 0 (even v) ∙ h.words;
  pc_even = rw (get_or-set_same r 0 (even v) 0 (omega (arith, h.words))) (omega arith);
  sp_even = rw (get_or-set_other r 0 1 (even v) 0 (omega arith)) h.sp_even;
  zero = rw (get_or-set_other r 0 3 (even v) 0 (omega arith)) h.zero;
  small = small-set r 0 (even v) h.small (omega arith);
}
set-context r (suc zero) v h b = record {
  words = length-set r 1 (even v) ∙ h.words;
  pc_even = rw (get_or-set_other r 1 0 (even v) 0 (omega arith)) h.pc_even;
  sp_even = rw (get_or-set_same r 1 (even v) 0 (omega (arith, h.words))) (omega arith);
  zero = rw (get_or-set_other r 1 3 (even v) 0 (omega arith)) h.zero;
  small = small-set r 1 (even v) h.small (omega arith);
}
set-context r (suc (suc zero)) v h b = record {
  words = length-set r 2 v ∙ h.words;
  pc_even = rw (get_or-set_other r 2 0 v 0 (omega arith)) h.pc_even;
  sp_even = rw (get_or-set_other r 2 1 v 0 (omega arith)) h.sp_even;
  zero = rw (get_or-set_other r 2 3 v 0 (omega arith)) h.zero;
  small = small-set r 2 v h.small b;
}
set-context r (suc (suc (suc zero))) v h b = h
set-context r (suc (suc (suc (suc n)))) v h b = subst IsContext (sym (set_reg-high r (suc (suc (suc (suc n)))) v (omega arith))) record {
  words = length-set r (suc (suc (suc (suc n)))) v ∙ h.words;
  pc_even = rw (get_or-set_other r (suc (suc (suc (suc n)))) 0 v 0 (omega arith)) h.pc_even;
  sp_even = rw (get_or-set_other r (suc (suc (suc (suc n)))) 1 v 0 (omega arith)) h.sp_even;
  zero = rw (get_or-set_other r (suc (suc (suc (suc n)))) 3 v 0 (omega arith)) h.zero;
  small = small-set r (suc (suc (suc (suc n)))) v h.small b;
}

-- behind any source
pub after-context : (w : Width) (s : Src) (r : List ℕ) → IsContext r → IsContext (after_source w s r)
unfolding after_source
after-context w (src.AutoInc n) r h = set-context r n _ h (omega arith)
after-context w (src.Reg n) r h = h
after-context w (src.Indexed n x) r h = h
after-context w (src.Symbolic x) r h = h
after-context w (src.Absolute x) r h = h
after-context w (src.Indirect n) r h = h
after-context w (src.Immediate x) r h = h
after-context w (src.Const k) r h = h

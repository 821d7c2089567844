-- The guarded instruction at a unit's end.
use Rattle.std.proofs.Common.{◌≡◌, ◌≢◌, ℕ, zero, suc, ◌-◌, ◌*◌, ◌%◌, ◌<◌, List, length, set, refl, sym, ap, ◌∙◌, subst, arith}
use Rattle.std.proofs.lemmas.List.{length-set, get_or-set_same, get_or-set_other}
use Rattle.machine_model.specs.Memory.{even}
use Rattle.machine_model.specs.Context.{reg, set_reg, IsContext}
use Rattle.machine_model.specs.Operands.{sum_of, source_value, after_source, place_to, value_in}
use Rattle.machine_model.specs.Does.{does, two, passed}
use Rattle.machine_model.specs.Fetching.{IsFetched}
use Rattle.machine_model.specs.declared.place.Place.{Place}
use Rattle.machine_model.specs.declared.place.Place.TheVariants.{At}
use Rattle.msp_encode.specs.declared.instr.Width.{Width}
use Rattle.msp_encode.specs.declared.instr.Src.{Src}
use Rattle.msp_encode.specs.declared.instr.Src.TheVariants as src
use Rattle.msp_encode.specs.declared.instr.Dst.{Dst}
use Rattle.msp_encode.specs.declared.instr.Dst.TheVariants as dst
use Rattle.unit_laws.specs.Running.{held, Runs, IsInside}
use Rattle.unit_laws.specs.Frame.{spread, spread_effect}
use Rattle.unit_laws.specs.Guarded.{GuardedLaw, ThroughLaw, IsCell, Steps}
use Rattle.unit_laws.proofs.Contexts.{as_held}
use Rattle.unit_laws.proofs.Frame.{spread-reg, none, frame, passed-spread, source-spread, after-spread, two_from, from-spread}

-- ---- behind a guard

sixteen : (r : List ℕ) (next x y : ℕ) → spread (set_reg (held r (reg r 0) (reg r 2) (reg r 4) (reg r 5)) 0 next) x y ≡ held r (even next) (reg r 2) x y
unfolding set_reg
sixteen r next x y = refl

pub held-spread : (r : List ℕ) (next x y : ℕ) → IsContext r → next % 2 ≡ 0 → held r next (reg r 2) x y ≡ spread (set_reg r 0 next) x y
held-spread r next x y h e =
    ap (λ (p : ℕ). held r p (reg r 2) x y) (omega (arith, e)) ∙ (sym (sixteen r next x y) ∙ ap (λ (q : List ℕ). spread (set_reg q 0 next) x y) (as_held r (reg r 0) h refl))

pub guarded : GuardedLaw
guarded m r first past steps next x i n h e run a f out =
    let b = spread (set_reg r 0 next) x (reg r 2) in
    let eq = held-spread r next x (reg r 2) h e in
    let fetched = subst (λ (q : List ℕ). IsFetched m (reg q 0) i n) eq f in
    record {
      steps = steps;
      before = b;
      runs = subst (λ (q : List ℕ). Runs m first past steps r q) eq run;
      instr = i;
      words = n;
      fetched = fetched;
      last = frame m (set_reg r 0 next) i n x (reg r 2) a;
      leaves = λ q. out (subst (IsInside first past) (spread-reg (does m (set_reg r 0 next) i n).context x (reg r 2) 0 none) q);
    }

-- ---- through R4

pub set-length : (r : List ℕ) (n v : ℕ) → length (set_reg r n v) ≡ length r
unfolding set_reg
set-length r zero v = length-set r 0 _
set-length r (suc zero) v = length-set r 1 _
set-length r (suc (suc zero)) v = length-set r 2 v
set-length r (suc (suc (suc zero))) v = refl
set-length r (suc (suc (suc (suc n)))) v = grind (arith, length-set r (suc (suc (suc (suc n)))) v)

pub reg-other : (r : List ℕ) (n v k : ℕ) → k ≢ n → reg (set_reg r n v) k ≡ reg r k
unfolding set_reg
reg-other r zero v k d = get_or-set_other r 0 k (even v) 0 d
reg-other r (suc zero) v k d = get_or-set_other r 1 k (even v) 0 d
reg-other r (suc (suc zero)) v k d = get_or-set_other r 2 k v 0 d
reg-other r (suc (suc (suc zero))) v k d = refl
reg-other r (suc (suc (suc (suc n)))) v k d = grind (arith, get_or-set_other r (suc (suc (suc (suc n)))) k v 0 d)

after-length : (w : Width) (s : Src) (r : List ℕ) → length (after_source w s r) ≡ length r
unfolding after_source
after-length w (src.AutoInc n) r = set-length r n _
after-length w (src.Reg n) r = refl
after-length w (src.Indexed n k) r = refl
after-length w (src.Symbolic k) r = refl
after-length w (src.Absolute k) r = refl
after-length w (src.Indirect n) r = refl
after-length w (src.Immediate k) r = refl
after-length w (src.Const k) r = refl

pub after-other : (w : Width) (s : Src) (r : List ℕ) (n : ℕ) → (Steps s n → ⊥) → reg (after_source w s r) n ≡ reg r n
unfolding after_source
after-other w (src.AutoInc j) r n a = reg-other r j _ n (λ e. a (sym e))
after-other w (src.Reg j) r n a = refl
after-other w (src.Indexed j k) r n a = refl
after-other w (src.Symbolic k) r n a = refl
after-other w (src.Absolute k) r n a = refl
after-other w (src.Indirect j) r n a = refl
after-other w (src.Immediate k) r n a = refl
after-other w (src.Const k) r n a = refl

pub spread-four : (r : List ℕ) (x y : ℕ) → length r ≡ 16 → reg (spread r x y) 4 ≡ x
spread-four r x y h = get_or-set_other (set r 4 x) 5 4 y 0 (omega arith) ∙ get_or-set_same r 4 x 0 (omega (arith, h))

through-place : (r : List ℕ) (at z x y : ℕ) → length r ≡ 16 → place_to (dst.Indexed 4 z) at (spread r x y) ≡ At (sum_of z x)
unfolding place_to
through-place r at z x y h = ap (λ (v : ℕ). At (sum_of z v)) (spread-four r x y h)

cell-place : (d : Dst) (n x at : ℕ) (r q : List ℕ) → IsCell d n x → reg q n ≡ reg r n → reg r 3 ≡ 0 → x < 65536 → At (sum_of x (reg r n)) ≡ place_to d at q
unfolding place_to
cell-place (dst.Indexed j z) n x at r q c e t b = ap (λ (v : ℕ). At (sum_of x v)) (sym e) ∙ (ap (λ (v : ℕ). At (sum_of v (reg q n))) c.1 ∙ ap (λ (v : ℕ). At (sum_of z (reg q v))) c.0)
cell-place (dst.Absolute z) n x at r q c e t b = ap (λ (v : ℕ). At (sum_of x (reg r v))) c.0 ∙ (ap (λ (v : ℕ). At (sum_of x v)) t ∙ ap At (omega (arith, b, c.1)))
cell-place (dst.Reg j) n x at r q c e t b = absurd c
cell-place (dst.Symbolic z) n x at r q c e t b = absurd c

cell-value : (w : Width) (a : ℕ) (m r : List ℕ) (x y : ℕ) → value_in w (At a) m (spread r x y) ≡ value_in w (At a) m r
unfolding value_in
cell-value w a m r x y = refl

pub through : ThroughLaw
unfolding does two
through m r op w s d k n x z c y h a cell nz b steps same =
    let pc = reg r 0 in
    let r1 = passed r k in
    let v = source_value w s (sum_of pc 2) m r1 in
    let r2 = after_source w s r1 in
    let at = sum_of pc (2 * k - 2) in
    let p = At (sum_of x (reg r n)) in
    let long : length r2 ≡ 16 = after-length w s r1 ∙ (set-length r 0 _ ∙ h.words) in
    let kept : reg r2 n ≡ reg r n = after-other w s r1 n steps ∙ reg-other r 0 _ n nz in
    let there : place_to (dst.Indexed 4 z) at (spread r2 c y) ≡ p = through-place r2 at z c y long ∙ ap At same in
    ap (λ (u : ℕ). let q1 = passed (spread r c y) k in let q2 = after_source w s q1 in let p = place_to (dst.Indexed 4 z) (sum_of u (2 * k - 2)) q2 in two_from op w p (source_value w s (sum_of u 2) m q1) (value_in w p m q2) q2) (spread-reg r c y 0 none)
    ∙ (ap (λ (q1 : List ℕ). let q2 = after_source w s q1 in let p = place_to (dst.Indexed 4 z) at q2 in two_from op w p (source_value w s (sum_of pc 2) m q1) (value_in w p m q2) q2) (passed-spread r c y k)
    ∙ (ap (λ (u : ℕ). let q2 = after_source w s (spread r1 c y) in let p = place_to (dst.Indexed 4 z) at q2 in two_from op w p u (value_in w p m q2) q2) (source-spread w s (sum_of pc 2) m r1 c y a)
    ∙ (ap (λ (q2 : List ℕ). let p = place_to (dst.Indexed 4 z) at q2 in two_from op w p v (value_in w p m q2) q2) (after-spread w s r1 c y a)
    ∙ (ap (λ (p : Place). two_from op w p v (value_in w p m (spread r2 c y)) (spread r2 c y)) there
    ∙ (ap (λ (u : ℕ). two_from op w p v u (spread r2 c y)) (cell-value w (sum_of x (reg r n)) m r2 c y)
    ∙ (from-spread op w p v (value_in w p m r2) r2 c y tt
    ∙ ap (λ (p : Place). spread_effect (two_from op w p v (value_in w p m r2) r2) c y) (cell-place d n x at r r2 cell kept h.zero b)))))))

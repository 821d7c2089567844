-- The guards among the pieces are the checker's.
use Rattle.std.proofs.Common.{◌≡◌, ℕ, ◌+◌, ◌≤◌, ◌<◌, List, [], ◌∷◌, ◌++◌, length, map, Option, refl, sym, subst, ap, ◌∙◌, arith}
use Rattle.std.specs.List.{AllByRecursion, flat_map}
use Rattle.std.proofs.lemmas.List.{append_assoc, length-append, length-map}
use Rattle.std.proofs.lemmas.List.Concat.{flat_map-append}
use Rattle.msp_encode.specs.declared.instr.Src.TheVariants as src
use Rattle.msp_encode.specs.declared.instr.Dst.TheVariants as dst
use Rattle.msp_encode.specs.declared.instr.Instr.{Instr}
use Rattle.msp_encode.specs.declared.instr.Instr.TheVariants as instr
use Rattle.code_model.specs.declared.parts.RelKind.{RelKind}
use Rattle.code_model.specs.declared.guards.GuardKind.{GuardKind}
use Rattle.code_model.specs.declared.guards.GuardKind.TheVariants as guard
use Rattle.code_model.specs.Guards.{high_word, reach_bytes, IsGrowthForm, IsPopForm, IsSpForm, most_served, least_version}
use Rattle.insert_model.specs.declared.piece.Piece.{Piece}
use Rattle.insert_model.specs.Words.{piece_words, unit_words}
use Rattle.insert_model.specs.Inserted.{moved}
use Rattle.insert_model.specs.Guards.{save, region_guard, growth_guard, pop_guard, sp_guard}
use Rattle.insert_laws.specs.Pieces.{moved_instr, standing, size_of}
use Rattle.insert_laws.specs.Shapes.{saving, IsGuard, IsThroughR4, IsNearR4, IsServed, IsGuarding, Shaped, Ends, Free, Guards}
use Rattle.insert_laws.proofs.Standing.{unit_same}

-- ---- places of pieces

unfoldable pub span : List Piece → ℕ
span ps = length (unit_words ps)

pub span_append : (xs ys : List Piece) → span (xs ++ ys) ≡ span xs + span ys
unfolding span unit_words
span_append xs ys = ap length (flat_map-append piece_words xs ys) ∙ length-append (flat_map piece_words xs) (flat_map piece_words ys)

pub span_cons : (p : Piece) (ps : List Piece) → span (p ∷ ps) ≡ length (piece_words p) + span ps
unfolding span unit_words
span_cons p ps = length-append (piece_words p) (flat_map piece_words ps)

pub piece_least : (p : Piece) → 1 ≤ length (piece_words p)
unfolding piece_words
piece_least p = omega arith

pub span_none : span [] ≡ 0
unfolding span unit_words
span_none = refl

pub size_span : (go : ℕ → ℕ) (ps : List Piece) → size_of (map (standing go) ps) ≡ span ps
unfolding size_of span
size_span go ps = ap length (sym (unit_same go ps)) ∙ length-map (unit_words ps) (moved go)

pub unit_words_append : (xs ys : List Piece) → unit_words (xs ++ ys) ≡ unit_words xs ++ unit_words ys
unfolding unit_words
unit_words_append xs ys = flat_map-append piece_words xs ys

-- ---- instructions that don't save the status

dst_reg : Instr → ℕ
dst_reg (instr.Two op w s (dst.Reg n)) = n
dst_reg _ = 99

src_reg : Instr → ℕ
src_reg (instr.Two op w (src.Reg n) d) = n
src_reg _ = 99

pub NotSaves : (ℕ → ℕ) → List Piece → Type 0
NotSaves go [] = Unit {0}
NotSaves go (p ∷ ps) = (standing go p ≡ saving → ⊥) × NotSaves go ps

pub record HasTail (go : ℕ → ℕ) (gs : List Piece) : Type 0 where
  pub behind : List Piece
  pub are : gs ≡ save ∷ behind
  pub others : NotSaves go behind

region_tail : (go : ℕ → ℕ) (n x high : ℕ) (k : Option RelKind) → HasTail go (region_guard n x high k)
unfolding NotSaves standing dst_reg
region_tail go n x high k = record {
  behind = _;
  are = refl;
  others = (
    (λ e. omega (arith, ap dst_reg e)),
    (
      (λ e. omega (arith, ap dst_reg e)),
      (
        (λ e. omega (arith, ap dst_reg e)),
        (
          (λ e. omega (arith, ap dst_reg e)),
          (
            (λ e. omega (arith, ap dst_reg e)),
            ((λ e. omega (arith, ap dst_reg e)), ((λ e. omega (arith, ap dst_reg e)), ((λ e. omega (arith, ap dst_reg e)), tt))),
          ),
        ),
      ),
    ),
  );
}

growth_tail : (go : ℕ → ℕ) → HasTail go growth_guard
unfolding NotSaves standing dst_reg
growth_tail go = record {
  behind = _;
  are = refl;
  others = ((λ e. omega (arith, ap dst_reg e)), ((λ e. omega (arith, ap dst_reg e)), ((λ e. omega (arith, ap dst_reg e)), ((λ e. omega (arith, ap dst_reg e)), tt))));
}

pop_tail : (go : ℕ → ℕ) → HasTail go pop_guard
unfolding NotSaves standing dst_reg
pop_tail go = record {
  behind = _;
  are = refl;
  others = ((λ e. omega (arith, ap dst_reg e)), ((λ e. omega (arith, ap dst_reg e)), ((λ e. omega (arith, ap dst_reg e)), ((λ e. omega (arith, ap dst_reg e)), tt))));
}

sp_tail : (go : ℕ → ℕ) → HasTail go sp_guard
unfolding NotSaves standing dst_reg
sp_tail go = record {
  behind = _;
  are = refl;
  others = (
    (λ e. omega (arith, ap dst_reg e)),
    (
      (λ e. omega (arith, ap dst_reg e)),
      (
        (λ e. omega (arith, ap dst_reg e)),
        (
          (λ e. omega (arith, ap dst_reg e)),
          (
            (λ e. omega (arith, ap dst_reg e)),
            ((λ e. omega (arith, ap dst_reg e)), tt),
          ),
        ),
      ),
    ),
  );
}

pub guard_tail : (go : ℕ → ℕ) (g : GuardKind) (gs : List Piece) → IsGuard g gs → HasTail go gs
guard_tail go guard.Store gs h = subst (HasTail go) (sym h.are) (region_tail go h.base h.index 0 h.kind)
guard_tail go (guard.Wide r) gs h = subst (HasTail go) (sym h.are) (region_tail go h.base h.index (high_word r) h.kind)
guard_tail go guard.Load gs h = absurd h
guard_tail go guard.Growth gs h = subst (HasTail go) (sym h) (growth_tail go)
guard_tail go guard.Pop gs h = subst (HasTail go) (sym h) (pop_tail go)
guard_tail go guard.Sp gs h = subst (HasTail go) (sym h) (sp_tail go)

saves_r5 : (i : Instr) → i ≡ saving → dst_reg i ≡ 5
unfolding dst_reg
saves_r5 i e = ap dst_reg e

saves_sr : (i : Instr) → i ≡ saving → src_reg i ≡ 2
unfolding src_reg
saves_sr i e = ap src_reg e

through_not : (go : ℕ → ℕ) (j k : Option RelKind) (i : Instr) → IsThroughR4 k i → moved_instr go j k i ≡ saving → ⊥
unfolding dst_reg
through_not go j k (instr.Two op w s (dst.Reg n)) h e = let f : dst.Reg n ≡ dst.Indexed 4 0 = h.1 in cc
through_not go j k (instr.Two op w s (dst.Indexed n x)) h e = omega (arith, saves_r5 _ e)
through_not go j k (instr.Two op w s (dst.Symbolic x)) h e = omega (arith, saves_r5 _ e)
through_not go j k (instr.Two op w s (dst.Absolute x)) h e = omega (arith, saves_r5 _ e)
through_not go j k (instr.One op w s) h e = omega (arith, saves_r5 _ e)
through_not go j k instr.Reti h e = h
through_not go j k (instr.Jump c n) h e = h

near_not : (go : ℕ → ℕ) (most : ℕ) (j k : Option RelKind) (i : Instr) → IsNearR4 most k i → moved_instr go j k i ≡ saving → ⊥
unfolding dst_reg
near_not go most j k (instr.Two op w s (dst.Reg n)) h e = let f : dst.Reg n ≡ dst.Indexed 4 h.1.0 = h.1.1.0 in cc
near_not go most j k (instr.Two op w s (dst.Indexed n x)) h e = omega (arith, saves_r5 _ e)
near_not go most j k (instr.Two op w s (dst.Symbolic x)) h e = omega (arith, saves_r5 _ e)
near_not go most j k (instr.Two op w s (dst.Absolute x)) h e = omega (arith, saves_r5 _ e)
near_not go most j k (instr.One op w s) h e = h
near_not go most j k instr.Reti h e = h
near_not go most j k (instr.Jump c n) h e = h

growth_not : (go : ℕ → ℕ) (j k : Option RelKind) (i : Instr) → IsGrowthForm i → moved_instr go j k i ≡ saving → ⊥
unfolding dst_reg
growth_not go j k (instr.Two op w s d) h e = h
growth_not go j k (instr.One op w s) h e = omega (arith, saves_r5 _ e)
growth_not go j k instr.Reti h e = h
growth_not go j k (instr.Jump c n) h e = h

pop_not : (go : ℕ → ℕ) (j k : Option RelKind) (i : Instr) → IsPopForm i → moved_instr go j k i ≡ saving → ⊥
unfolding src_reg
pop_not go j k (instr.Two op w (src.AutoInc n) d) h e = omega (arith, saves_sr _ e)
pop_not go j k (instr.Two op w (src.Reg n) d) h e = h.2
pop_not go j k (instr.Two op w (src.Indexed n x) d) h e = h.2
pop_not go j k (instr.Two op w (src.Symbolic x) d) h e = h.2
pop_not go j k (instr.Two op w (src.Absolute x) d) h e = h.2
pop_not go j k (instr.Two op w (src.Indirect n) d) h e = h.2
pop_not go j k (instr.Two op w (src.Immediate x) d) h e = h.2
pop_not go j k (instr.Two op w (src.Const c) d) h e = h.2
pop_not go j k (instr.One op w s) h e = h
pop_not go j k instr.Reti h e = h
pop_not go j k (instr.Jump c n) h e = h

sp_not : (go : ℕ → ℕ) (j k : Option RelKind) (i : Instr) → IsSpForm i → moved_instr go j k i ≡ saving → ⊥
unfolding src_reg
sp_not go j k (instr.Two op w (src.Reg n) d) h e = omega (arith, saves_sr _ e, h.2)
sp_not go j k (instr.Two op w (src.AutoInc n) d) h e = h.2
sp_not go j k (instr.Two op w (src.Indexed n x) d) h e = h.2
sp_not go j k (instr.Two op w (src.Symbolic x) d) h e = h.2
sp_not go j k (instr.Two op w (src.Absolute x) d) h e = h.2
sp_not go j k (instr.Two op w (src.Indirect n) d) h e = h.2
sp_not go j k (instr.Two op w (src.Immediate x) d) h e = h.2
sp_not go j k (instr.Two op w (src.Const c) d) h e = h.2
sp_not go j k (instr.One op w s) h e = h
sp_not go j k instr.Reti h e = h
sp_not go j k (instr.Jump c n) h e = h

served_not : (go : ℕ → ℕ) (g : GuardKind) (p : Piece) → IsServed g p → standing go p ≡ saving → ⊥
unfolding standing
served_not go guard.Store p h e = through_not go p.source p.destination p.instr h e
served_not go (guard.Wide r) p h e = near_not go (reach_bytes r) p.source p.destination p.instr h e
served_not go guard.Load p h e = h
served_not go guard.Growth p h e = growth_not go p.source p.destination p.instr h e
served_not go guard.Pop p h e = pop_not go p.source p.destination p.instr h e
served_not go guard.Sp p h e = sp_not go p.source p.destination p.instr h e

all_not : (go : ℕ → ℕ) (g : GuardKind) (ss : List Piece) → AllByRecursion (IsServed g) ss → NotSaves go ss
unfolding NotSaves
all_not go g [] h = tt
all_not go g (p ∷ ss) h = (served_not go g p h.0, all_not go g ss h.1)

not_append : (go : ℕ → ℕ) (xs ys : List Piece) → NotSaves go xs → NotSaves go ys → NotSaves go (xs ++ ys)
unfolding NotSaves
not_append go [] ys hx hy = hy
not_append go (x ∷ xs) ys hx hy = (hx.0, not_append go xs ys hx.1 hy)

-- ---- a piece that saves the status begins a guard

pub record Found (version : ℕ) (xs : List Piece) (x : List Piece) : Type 0 where
  pub kind : GuardKind
  pub guards : List Piece
  pub piece : Piece
  pub more : List Piece
  pub rest : List Piece
  pub serves : IsGuarding version kind guards (piece ∷ more)
  pub are : xs ≡ x ++ (guards ++ (piece ∷ (more ++ rest)))

found_after : (version : ℕ) (front xs x : List Piece) → Found version xs x → Found version (front ++ xs) (front ++ x)
found_after version front xs x f = record {
  kind = f.kind;
  guards = f.guards;
  piece = f.piece;
  more = f.more;
  rest = f.rest;
  serves = f.serves;
  are = ap (λ (ys : List Piece). front ++ ys) f.are ∙ sym (append_assoc front x (f.guards ++ (f.piece ∷ (f.more ++ f.rest))));
}

pub heads : (m n : Piece) (xs ys : List Piece) → m ∷ xs ≡ n ∷ ys → m ≡ n
heads m n xs ys e = cc

pub tails : (m n : Piece) (xs ys : List Piece) → m ∷ xs ≡ n ∷ ys → xs ≡ ys
tails m n xs ys e = cc

pub no_cut : (x : List Piece) (r : Piece) (z : List Piece) → [] ≡ x ++ r ∷ z → ⊥
no_cut [] r z e = cc
no_cut (n ∷ x) r z e = cc

-- what is cut off lies behind pieces that don't save the status
record Past (t ps x : List Piece) (r : Piece) (z : List Piece) : Type 0 where
  more : List Piece
  front : x ≡ t ++ more
  back : ps ≡ more ++ r ∷ z

peel : (go : ℕ → ℕ) (t ps x : List Piece) (r : Piece) (z : List Piece) → NotSaves go t → standing go r ≡ saving → t ++ ps ≡ x ++ r ∷ z → Past t ps x r z
unfolding NotSaves
peel go [] ps x r z not same e = record { more = x; front = refl; back = e }
peel go (m ∷ t) ps [] r z not same e = absurd (not.0 (ap (standing go) (heads m r (t ++ ps) z e) ∙ same))
peel go (m ∷ t) ps (n ∷ x) r z not same e =
    let h : m ≡ n = heads m n (t ++ ps) (x ++ r ∷ z) e in
    let q : Past t ps x r z = peel go t ps x r z not.1 same (tails m n (t ++ ps) (x ++ r ∷ z) e) in
    record { more = q.more; front = λ j. sym h j ∷ q.front j; back = q.back }

module _ (go : ℕ → ℕ) (version : ℕ) (F : Piece → Type 0) (free_not : (p : Piece) → F p → standing go p ≡ saving → ⊥) where
  pub save_found : (xs x : List Piece) (r : Piece) (z : List Piece) → Shaped F version xs → xs ≡ x ++ r ∷ z → standing go r ≡ saving → Found version xs x
  save_found xs x r z (Ends _ empty) e same = absurd (no_cut x r z (sym empty ∙ e))
  save_found xs [] r z (Free _ p ps is f rest) e same = absurd (free_not p f (ap (standing go) (heads p r ps z (sym is ∙ e)) ∙ same))
  save_found xs (n ∷ x) r z (Free _ p ps is f rest) e same =
      let h : p ≡ n = heads p n ps (x ++ r ∷ z) (sym is ∙ e) in
      let g : Found version ps x = save_found ps x r z rest (tails p n ps (x ++ r ∷ z) (sym is ∙ e)) same in
      subst (λ (ys : List Piece). Found version ys (n ∷ x)) (sym is) (subst (λ (m : Piece). Found version (p ∷ ps) (m ∷ x)) h (found_after version (p ∷ []) ps x g))
  save_found xs [] r z (Guards _ g gs p more ps are is rest) e same = record { kind = g; guards = gs; piece = p; more = more; rest = ps; serves = is; are = are }
  save_found xs (n ∷ x) r z (Guards _ g gs p more ps are is rest) e same =
      let t : HasTail go gs = guard_tail go g gs is.is in
      let served : List Piece = p ∷ more in
      let whole : xs ≡ (gs ++ served) ++ ps = are ∙ sym (append_assoc gs served ps) in
      let split : (gs ++ served) ++ ps ≡ save ∷ ((t.behind ++ served) ++ ps) = ap (λ (ys : List Piece). (ys ++ served) ++ ps) t.are in
      let all : save ∷ ((t.behind ++ served) ++ ps) ≡ n ∷ (x ++ r ∷ z) = sym split ∙ sym whole ∙ e in
      let first : save ≡ n = heads save n ((t.behind ++ served) ++ ps) (x ++ r ∷ z) all in
      let q : Past (t.behind ++ served) ps x r z =
      peel go (t.behind ++ served) ps x r z (not_append go t.behind served t.others (all_not go g served is.each)) same (tails save n ((t.behind ++ served) ++ ps) (x ++ r ∷ z) all) in
      let f : Found version ps q.more = save_found ps q.more r z rest q.back same in
      let front : n ∷ x ≡ (gs ++ served) ++ q.more = (λ j. sym first j ∷ q.front j) ∙ ap (λ (ys : List Piece). (ys ++ served) ++ q.more) (sym t.are) in
      subst (λ (ys : List Piece). Found version ys (n ∷ x)) (sym whole) (subst (λ (ys : List Piece). Found version ((gs ++ served) ++ ps) ys) (sym front) (found_after version (gs ++ served) ps q.more f))

-- ---- a piece behind others that its guard serves

pub record IsServedBy (version : ℕ) (g : GuardKind) (gs done : List Piece) (p : Piece) : Type 0 where
  pub known : least_version g ≤ version
  pub is : IsGuard g gs
  pub few : length done < most_served g
  pub before : AllByRecursion (IsServed g) done
  pub serves : IsServed g p

served_parts : (g : GuardKind) (done : List Piece) (p : Piece) (rest : List Piece) → AllByRecursion (IsServed g) (done ++ p ∷ rest) → AllByRecursion (IsServed g) done × IsServed g p
served_parts g [] p rest h = (tt, h.0)
served_parts g (d ∷ done) p rest h = let r = served_parts g done p rest h.1 in ((h.0, r.0), r.1)

pub served_of : (version : ℕ) (g : GuardKind) (gs done : List Piece) (p : Piece) (rest : List Piece) → IsGuarding version g gs (done ++ p ∷ rest) → IsServedBy version g gs done p
served_of version g gs done p rest h =
    let parts = served_parts g done p rest h.each in
    record { known = h.known; is = h.is; few = omega (arith, h.few, length-append done (p ∷ rest)); before = parts.0; serves = parts.1 }

-- the first of them
pub first_served : (version : ℕ) (g : GuardKind) (gs : List Piece) (p : Piece) (rest : List Piece) → IsGuarding version g gs (p ∷ rest) → IsServedBy version g gs [] p
first_served version g gs p rest h = served_of version g gs [] p rest h

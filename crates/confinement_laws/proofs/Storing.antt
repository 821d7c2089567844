-- The store guard.
use Rattle.std.proofs.Common.{◌≡◌, ℕ, ◌+◌, ◌*◌, ◌<◌, ◌⊎◌, List, [], ◌∷◌, length, drop, refl, sym, ◌∙◌, subst, inl, inr, arith}
use Rattle.std.proofs.lemmas.Bool.{false≢true}
use Rattle.std.proofs.lemmas.List.{length-drop, length-append, get_or_at}
use Rattle.msp_encode.specs.declared.instr.Op2.{Op2}
use Rattle.msp_encode.specs.declared.instr.Width.{Width}
use Rattle.msp_encode.specs.declared.instr.Src.{Src}
use Rattle.msp_encode.specs.declared.instr.Src.TheVariants as src
use Rattle.msp_encode.specs.declared.instr.Dst.{Dst}
use Rattle.msp_encode.specs.declared.instr.Dst.TheVariants as dst
use Rattle.msp_encode.specs.declared.instr.Instr.{Instr}
use Rattle.msp_encode.specs.declared.instr.Instr.TheVariants as instr
use Rattle.msp_encode.specs.Spelling.{src_words}
use Rattle.msp_encode.specs.Forms.{IsJmp, IsImmediate}
use Rattle.code_model.specs.declared.object.Object.{Object}
use Rattle.code_model.specs.declared.guards.Reach.TheVariants as reach
use Rattle.code_model.specs.declared.guards.GuardKind.{GuardKind}
use Rattle.code_model.specs.declared.guards.GuardKind.TheVariants as guard
use Rattle.code_model.specs.Starts.{Stands, Start}
use Rattle.code_model.specs.Relocs.{Unrelocated}
use Rattle.code_model.specs.Guards.{IsStoreForm, IsWideForm, IsLoadSrc, Serves, reach_bytes, most_served, Guarded, Interior, UnitStart}
use Rattle.code_model.specs.Rules.{IsBranch, KeepsStores}
use Rattle.machine_model.specs.Context.{reg}
use Rattle.machine_model.specs.Does.{does}
use Rattle.machine_model.specs.Fetching.{IsFetched}
use Rattle.machine_laws.specs.Steady.{IsSteady}
use Rattle.machine_laws.specs.Places.{Stores, place_fact}
use Rattle.machine_laws.specs.Guarded.{IsStore, Passes, StoreLaw, StoreLeavesLaw}
use Rattle.confinement_laws.specs.Given.{CheckerLaws}
use Rattle.load_model.specs.Domains.{Domain}
use Rattle.node_model.specs.Placed.{CodeStands, StandsIn, address, bits}
use Rattle.node_model.specs.Good.{KeepsRegion, kept_end, kept_bounds, IsAtPlace, Within, bounds}
use Rattle.node_model.specs.Instructions.{Leads}
use Rattle.confinement_laws.proofs.Placing.{placed, size-is, operand-word}
use Rattle.code_laws.proofs.Begins.{stands_first}
use Rattle.confinement_laws.proofs.Fetching.{words_in, fetched-is, runs-on}
use Rattle.confinement_laws.proofs.Leading.{are-bounds}
use Rattle.confinement_laws.proofs.Passing.{in-region, region-leads, writes-true, changes-true, quiet-src}

-- a guarded instruction is no jump and no branch
pub serves-no_jump : (g : GuardKind) (o : Object) (first at : ℕ) (i : Instr) → Serves g o first at i → IsJmp i → ⊥
serves-no_jump g o first at (instr.Two op w s d) h j = j
serves-no_jump g o first at (instr.One op w s) h j = j
serves-no_jump g o first at instr.Reti h j = j
serves-no_jump guard.Store o first at (instr.Jump c k) h j = h
serves-no_jump (guard.Wide r) o first at (instr.Jump c k) h j = h
serves-no_jump guard.Load o first at (instr.Jump c k) h j = h
serves-no_jump guard.Growth o first at (instr.Jump c k) h j = h
serves-no_jump guard.Pop o first at (instr.Jump c k) h j = h
serves-no_jump guard.Sp o first at (instr.Jump c k) h j = h

not-immediate : (o : Object) (first : ℕ) (s : Src) → IsLoadSrc o first s → IsImmediate s → ⊥
not-immediate o first (src.Immediate x) h i = h
not-immediate o first (src.Reg n) h i = i
not-immediate o first (src.Indexed n x) h i = i
not-immediate o first (src.Symbolic x) h i = i
not-immediate o first (src.Absolute x) h i = i
not-immediate o first (src.Indirect n) h i = i
not-immediate o first (src.AutoInc n) h i = i
not-immediate o first (src.Const c) h i = i

two-no_branch : (g : GuardKind) (o : Object) (first at : ℕ) (op : Op2) (w : Width) (s : Src) (d : Dst) → Serves g o first at (instr.Two op w s d) → IsBranch (instr.Two op w s d) → ⊥
two-no_branch guard.Store o first at op w s (dst.Reg n) h b = h.1
two-no_branch (guard.Wide r) o first at op w s (dst.Reg n) h b = h.1
two-no_branch guard.Load o first at op w s (dst.Reg n) (inl h) b = not-immediate o first s h.0 b.2
two-no_branch guard.Load o first at op w s (dst.Reg n) (inr h) b = h.1
two-no_branch guard.Pop o first at op w s (dst.Reg n) h b = omega (arith, h.3.0, b.3)
two-no_branch guard.Sp o first at op w s (dst.Reg n) h b = omega (arith, h.3, b.3)
two-no_branch guard.Growth o first at op w s (dst.Reg n) h b = h
two-no_branch g o first at op w s (dst.Indexed n x) h b = b.3
two-no_branch g o first at op w s (dst.Symbolic x) h b = b.3
two-no_branch g o first at op w s (dst.Absolute x) h b = b.3

pub serves-no_branch : (g : GuardKind) (o : Object) (first at : ℕ) (i : Instr) → Serves g o first at i → IsBranch i → ⊥
serves-no_branch g o first at (instr.Two op w s d) h b = two-no_branch g o first at op w s d h b
serves-no_branch g o first at (instr.One op w s) h b = b
serves-no_branch g o first at instr.Reti h b = b
serves-no_branch g o first at (instr.Jump c k) h b = b

-- behind a guarded instruction another stands
pub guarded-runs : (d : Domain) (m : List ℕ) (guarded : ℕ) (g : GuardKind) (h : Guarded d.object guarded g) → StandsIn d m → Start d.object.code (guarded + h.words)
guarded-runs d m guarded g h s =
    runs-on d.object d.units guarded h.instr h.words s.accepted h.start h.stands (serves-no_jump g d.object h.first guarded h.instr h.serves) (serves-no_branch g d.object h.first guarded h.instr h.serves)

-- behind the instruction of a guard that serves no other a unit starts
pub guarded-next : CheckerLaws → (d : Domain) (m : List ℕ) (guarded : ℕ) (g : GuardKind) (h : Guarded d.object guarded g) → most_served g ≡ 1 → StandsIn d m → UnitStart d.object (guarded + h.words)
guarded-next laws d m guarded g h alone s = laws.leaves d.object guarded g h alone (guarded-runs d m guarded g h s).below

-- the word of a destination in memory, where it isn't relocated
pub dst-word : (d : Domain) (m : List ℕ) (at : ℕ) (op : Op2) (w : Width) (s : Src) (k x n : ℕ) → CodeStands d m → Start d.object.code at → Stands d.object.code at (instr.Two op w s (dst.Indexed k x)) n
    → Unrelocated d.object.relocs (at + 1 + length (src_words s)) → words_in d m at (1 + length (src_words s)) ≡ x
dst-word d m at op w s k x n c st h u =
    let i = instr.Two op w s (dst.Indexed k x) in
    let size = size-is (drop at d.object.code) (instr.Two op w s (dst.Indexed k x)) n h in
    let len = length-append (src_words s) (x ∷ []) in
    let a : at + 1 + length (src_words s) ≡ at + (1 + length (src_words s)) = omega arith in
    c.plain (at + (1 + length (src_words s))) (omega (arith, size, len, h.0, length-drop at d.object.code, st.below)) (subst (Unrelocated d.object.relocs) a u)
    ∙ (operand-word d.object.code at (instr.Two op w s (dst.Indexed k x)) n (length (src_words s)) h (omega (arith, len)) ∙ get_or_at (src_words s) x [] 0 (length (src_words s)) refl)

-- how far beyond the tested address a guard's stores may go
abbrev pub reach_of : GuardKind → ℕ
reach_of (guard.Wide r) = reach_bytes r
reach_of _ = 0

near-store : (d : Domain) (m : List ℕ) (at most : ℕ) (i : Instr) (n : ℕ) → CodeStands d m → Start d.object.code at → Stands d.object.code at i n → IsWideForm most d.object at i → IsStore most (placed i (words_in d m at))
near-store d m at most (instr.Two op w s (dst.Indexed k x)) n c st h f = (
  writes-true op f.0,
  f.1.0,
  omega (arith, dst-word d m at op w s k x n c st h f.1.3, f.1.2),
  quiet-src s (words_in d m at 1) _ _ (stands_first d.object.code at (instr.Two op w s (dst.Indexed k x)) n h).source (omega arith) f.2,
)
near-store d m at most (instr.Two op w s (dst.Reg k)) n c st h f = absurd f.1
near-store d m at most (instr.Two op w s (dst.Symbolic x)) n c st h f = absurd f.1
near-store d m at most (instr.Two op w s (dst.Absolute x)) n c st h f = absurd f.1
near-store d m at most (instr.One op w s) n c st h f = absurd f
near-store d m at most instr.Reti n c st h f = absurd f
near-store d m at most (instr.Jump k z) n c st h f = absurd f

exact-store : (d : Domain) (m : List ℕ) (at : ℕ) (i : Instr) (n : ℕ) → CodeStands d m → Start d.object.code at → Stands d.object.code at i n → IsStoreForm d.object at i → IsStore 0 (placed i (words_in d m at))
exact-store d m at (instr.Two op w s (dst.Indexed k x)) n c st h f = (
  writes-true op f.0,
  f.1.0,
  omega (arith, dst-word d m at op w s k x n c st h f.1.2, f.1.1),
  quiet-src s (words_in d m at 1) _ _ (stands_first d.object.code at (instr.Two op w s (dst.Indexed k x)) n h).source (omega arith) f.2,
)
exact-store d m at (instr.Two op w s (dst.Reg k)) n c st h f = absurd f.1
exact-store d m at (instr.Two op w s (dst.Symbolic x)) n c st h f = absurd f.1
exact-store d m at (instr.Two op w s (dst.Absolute x)) n c st h f = absurd f.1
exact-store d m at (instr.One op w (src.Indirect k)) n c st h f = (changes-true op f.0, f.1)
exact-store d m at (instr.One op w (src.Reg k)) n c st h f = absurd f.1
exact-store d m at (instr.One op w (src.Indexed k x)) n c st h f = absurd f.1
exact-store d m at (instr.One op w (src.Symbolic x)) n c st h f = absurd f.1
exact-store d m at (instr.One op w (src.Absolute x)) n c st h f = absurd f.1
exact-store d m at (instr.One op w (src.AutoInc k)) n c st h f = absurd f.1
exact-store d m at (instr.One op w (src.Immediate x)) n c st h f = absurd f.1
exact-store d m at (instr.One op w (src.Const k)) n c st h f = absurd f.1
exact-store d m at instr.Reti n c st h f = absurd f
exact-store d m at (instr.Jump k z) n c st h f = absurd f

pub is-store : (d : Domain) (m : List ℕ) (at first : ℕ) (g : GuardKind) (i : Instr) (n : ℕ) → KeepsStores g → CodeStands d m → Start d.object.code at → Stands d.object.code at i n → Serves g d.object first at i
    → IsStore (reach_of g) (placed i (words_in d m at))
is-store d m at first guard.Store i n g c st h f = exact-store d m at i n c st h f
is-store d m at first (guard.Wide r) i n g c st h f = near-store d m at (reach_bytes r) i n c st h f
is-store d m at first guard.Load i n g c st h f = absurd g
is-store d m at first guard.Growth i n g c st h f = absurd g
is-store d m at first guard.Pop i n g c st h f = absurd g
is-store d m at first guard.Sp i n g c st h f = absurd g

-- the address leaves room for what the guard's stores add
room-for : (g : GuardKind) (a hi : ℕ) → KeepsStores g → a < kept_end g hi → a + reach_of g < hi
room-for guard.Store a hi g h = omega (arith, h)
room-for (guard.Wide reach.Two) a hi g h = omega (arith, h)
room-for (guard.Wide reach.Four) a hi g h = omega (arith, h)
room-for (guard.Wide reach.Six) a hi g h = omega (arith, h)
room-for guard.Load a hi g h = absurd g
room-for guard.Growth a hi g h = absurd g
room-for guard.Pop a hi g h = absurd g
room-for guard.Sp a hi g h = absurd g

not-load : (g : GuardKind) → KeepsStores g → g ≡ guard.Load → ⊥
not-load g h e = subst KeepsStores e h

keeps-region : (g : GuardKind) → KeepsStores g → KeepsRegion g
keeps-region guard.Store h = tt
keeps-region (guard.Wide r) h = tt
keeps-region guard.Load h = absurd h
keeps-region guard.Growth h = absurd h
keeps-region guard.Pop h = absurd h
keeps-region guard.Sp h = absurd h

-- behind a guarded store another stands under the same guard, or a unit starts
stored-leads : CheckerLaws → StoreLaw → StoreLeavesLaw → (d : Domain) (low top : ℕ) (m c : List ℕ) (i : Instr) (n guarded : ℕ) (g : GuardKind) (h : Guarded d.object guarded g) → KeepsStores g → StandsIn d m
    → IsSteady (bits d) low top c → reg c 0 ≡ address d guarded → place_fact Stores (kept_bounds g (bounds d low top)) c → IsFetched m (reg c 0) i n → Leads d low top (does m c i n)
stored-leads laws store-stays store-leaves d low top m c i n guarded g h keeps s st here known f = from (s.accepted.each (guarded + h.words) (guarded-runs d m guarded g h s))
  where
    same : (i ≡ placed h.instr (words_in d m guarded)) × (n ≡ h.words)
    same = fetched-is d m guarded h.instr i h.words n (reg c 0) s h.start h.stands here f

    form : IsStore (reach_of g) i
    form = subst (IsStore (reach_of g)) (sym same.0) (is-store d m guarded h.first g h.instr h.words keeps s.code h.start h.stands h.serves)

    fits : reg c 0 + 2 * n < 65536
    fits = omega (arith, here, same.1, s.placed.code_high, (guarded-runs d m guarded g h s).below)

    passes : Passes d.lo d.hi (bounds d low top) (bits d) (reg c 0 + 2 * n) (does m c i n)
    passes = store-stays (bounds d low top) (bits d) (reach_of g) m c i n (are-bounds d low top s.placed) st fits form known.0 (room-for g (reg c 4) d.hi keeps known.1)

    behind : reg c 0 + 2 * n ≡ address d (guarded + h.words)
    behind = omega (arith, here, same.1)

    from : Interior d.object (guarded + h.words) ⊎ UnitStart d.object (guarded + h.words) → Leads d low top (does m c i n)
    from (inr next) = region-leads d low top (reg c 0 + 2 * n) (guarded + h.words) (does m c i n) passes behind next
    from (inl interior) =
        let on = laws.goes_on d.object guarded g h interior in
        let four : reg (does m c i n).context 4 ≡ reg c 4 = store-leaves (reach_of g) m c i n form in
        record {
          good = record {
            steady = passes.steady;
            somewhere = Within Stores record {
              guarded = guarded + h.words;
              kind = g;
              of = keeps-region g keeps;
              by = on.guarded;
              pc = passes.pc ∙ behind;
              saved = λ t. absurd (false≢true t);
              known = (omega (arith, four, known.0), omega (arith, four, known.1));
              same = λ r load has t. absurd (not-load g keeps load);
            };
          };
          inside = in-region d low top (does m c i n).written passes.inside;
        }

pub stores-lead : CheckerLaws → StoreLaw → StoreLeavesLaw → (d : Domain) (low top : ℕ) (m c : List ℕ) (i : Instr) (n : ℕ) → StandsIn d m
    → IsSteady (bits d) low top c → (at : IsAtPlace d (bounds d low top) c Stores) → KeepsStores at.kind → IsFetched m (reg c 0) i n → Leads d low top (does m c i n)
stores-lead laws store-stays store-leaves d low top m c i n s st at keeps f =
    stored-leads laws store-stays store-leaves d low top m c i n at.guarded at.kind at.by keeps s st at.pc at.known f

-- The unit of a group of stores.
use Rattle.std.proofs.Common.{◌≡◌, ◌≢◌, ℕ, zero, suc, ◌+◌, ◌-◌, ◌*◌, ◌%◌, ◌<◌, ◌≤◌, Bool, true, false, List, [], ◌∷◌, set, slice_index, refl, sym, ap, ◌∙◌, subst, inl, inr, arith}
use Rattle.std.specs.Prelude.{if◌then◌else◌}
use Rattle.std.proofs.lemmas.List.{get_or-set_other}
use Rattle.machine_model.specs.Memory.{even, word_at, put_all}
use Rattle.machine_model.specs.Context.{reg, set_reg, IsContext}
use Rattle.machine_model.specs.Operands.{sum_of, after_source, place_to, put_context, put_pairs, stored}
use Rattle.machine_model.specs.Does.{does, two, passed, memory_after, Effect}
use Rattle.machine_model.specs.Fetching.{IsFetched}
use Rattle.msp_encode.specs.declared.instr.Op2.{Op2}
use Rattle.msp_encode.specs.declared.instr.Width.{Width}
use Rattle.msp_encode.specs.declared.instr.Width.TheVariants.{Wide, Byte}
use Rattle.msp_encode.specs.declared.instr.Src.{Src}
use Rattle.msp_encode.specs.declared.instr.Dst.TheVariants as dst
use Rattle.msp_encode.specs.declared.instr.Instr.{Instr}
use Rattle.msp_encode.specs.declared.instr.Instr.TheVariants as instr
use Rattle.msp_encode.specs.Spelling.{Spells}
use Rattle.msp_encode.specs.Forms.{writes}
use Rattle.unit_laws.specs.Running.{IsInside, Runs, Stays, Goes}
use Rattle.unit_laws.specs.Lines.{IsIndexed}
use Rattle.unit_laws.specs.Guards.{store_words, Passes, StoreEnds}
use Rattle.unit_laws.specs.Frame.{spread, spread_effect}
use Rattle.unit_laws.specs.Guarded.{Steps}
use Rattle.unit_laws.specs.Rows.{GoesOn, ended, SameButPc}
use Rattle.unit_laws.specs.Groups.{Works, Rests, Does, WorksUnit, Reaches, Store, at_base, at_r4, stores_after, IsStoreAt, StoresAt, Last, Before, GroupUnitLaw}
use Rattle.machine_model.proofs.Contexts.{set-context, after-context}
use Rattle.machine_model.proofs.Values.{status-small}
use Rattle.unit_laws.proofs.Frame.{spread-reg, none}
use Rattle.unit_laws.proofs.Guarded.{reg-other, after-other, held-spread, through}
use Rattle.unit_laws.proofs.GoingOn.{pc-set, goes-on}
use Rattle.unit_laws.proofs.Guards.{store-ends}
use Rattle.unit_laws.proofs.GuardedUnits.{stopped, at-guard, indexed-free, source-avoids, fetched-some, ended-past}
use Rattle.unit_laws.proofs.OwnUnits.{pc-again}
use Rattle.unit_laws.proofs.Placing.{forgets, place}
use Rattle.kernel_model.specs.declared.entries.TheConstants.{FIRST_ENTRY, STORE_FAULT}

-- ---- runs

-- a step inside the unit, and then the rest
worked : (m c n d : List ℕ) (first past : ℕ) (i : Instr) (k : ℕ) (m1 c1 : List ℕ) → IsFetched m (reg c 0) i k → memory_after m (does m c i k) ≡ m1 → (does m c i k).context ≡ c1 → IsInside first past (reg c1 0)
    → WorksUnit m1 c1 first past n d → WorksUnit m c first past n d
worked m c n d first past i k m1 c1 f e g a w = record {
  memory = w.memory;
  context = w.context;
  works = Does m c w.memory w.context i k f (subst (λ (q : List ℕ). IsInside first past (reg q 0)) (sym g) a) (subst (λ (q : List ℕ). Works first past q (does m c i k).context w.memory w.context) (sym e) (subst (λ (q : List ℕ). Works first past m1 q w.memory w.context) (sym g) w.works));
  instr = w.instr;
  words = w.words;
  fetched = w.fetched;
  written = w.written;
  leads = w.leads;
  leaves = w.leaves;
}

-- steps that write nothing, and then the rest
after-runs : (m n d : List ℕ) (first past k : ℕ) (c q : List ℕ) → Runs m first past k c q → WorksUnit m q first past n d → WorksUnit m c first past n d
after-runs m n d first past zero _ _ (Stays c) w = w
after-runs m n d first past (suc _) _ _ (Goes k c p q i j f e a rest) w =
    worked m c n d first past i j m p f (ap (memory_after m) e) (ap (λ (x : Effect). x.context) e) a (after-runs m n d first past k p q rest w)

-- ---- bytes that writes leave

-- the bytes from an address on are the same
abbrev SameFrom : ℕ → (m n : List ℕ) → Type 0
SameFrom b m n = (k : ℕ) → b ≤ k → slice_index n k ≡ slice_index m k

abbrev AreBelow : ℕ → List (ℕ × ℕ) → Type 0
AreBelow b [] = Unit {0}
AreBelow b (w ∷ ws) = (w.0 < b) × AreBelow b ws

below-leaves : (ws : List (ℕ × ℕ)) (b : ℕ) (m : List ℕ) → AreBelow b ws → SameFrom b m (put_all m ws)
below-leaves [] b m h k l = refl
below-leaves (w ∷ ws) b m h k l = below-leaves ws b (set m w.0 w.1) h.1 k l ∙ get_or-set_other m w.0 k w.1 0 (λ e. omega (arith, e, l, h.0))

stored-below : (w : Width) (a v b : ℕ) → a < b → b % 2 ≡ 0 → AreBelow b (stored w a v)
stored-below Wide a v b l e = (omega (arith, l), (omega (arith, l, e), tt))
stored-below Byte a v b l e = (l, tt)

word-left : (m n : List ℕ) (b a : ℕ) → SameFrom b m n → b ≤ a → a % 2 ≡ 0 → word_at n a ≡ word_at m a
unfolding word_at
word-left m n b a h l e = λ j. h (even a) (omega (arith, l, e)) j + 256 * h (even a + 1) (omega (arith, l, e)) j

-- what is fetched there is fetched still
fetched-left : (m n : List ℕ) (b pc : ℕ) (i : Instr) (k : ℕ) → SameFrom b m n → b ≤ pc → pc % 2 ≡ 0 → pc + 2 * k ≤ 65536 → IsFetched m pc i k → IsFetched n pc i k
fetched-left m n b pc i zero h l e t f = f
fetched-left m n b pc i (suc zero) h l e t f = (f.0, subst (λ (u : ℕ). Spells i (u ∷ [])) (sym (word-left m n b pc h l e)) f.1)
fetched-left m n b pc i (suc (suc zero)) h l e t f =
    let one = sym (word-left m n b pc h l e) in
    let two = sym (word-left m n b (sum_of pc 2) h (omega (arith, l, t)) (omega (arith, e))) in
    (f.0, subst (λ (u : ℕ). Spells i (u ∷ word_at n (sum_of pc 2) ∷ [])) one (subst (λ (u : ℕ). Spells i (word_at m pc ∷ u ∷ [])) two f.1))
fetched-left m n b pc i (suc (suc (suc zero))) h l e t f =
    let one = sym (word-left m n b pc h l e) in
    let two = sym (word-left m n b (sum_of pc 2) h (omega (arith, l, t)) (omega (arith, e))) in
    let three = sym (word-left m n b (sum_of pc 4) h (omega (arith, l, t)) (omega (arith, e))) in (
      f.0,
      subst (λ (u : ℕ). Spells i (u ∷ word_at n (sum_of pc 2) ∷ word_at n (sum_of pc 4) ∷ [])) one (subst (λ (u : ℕ). Spells i (word_at m pc ∷ u ∷ word_at n (sum_of pc 4) ∷ [])) two
          (subst (λ (u : ℕ). Spells i (word_at m pc ∷ word_at m (sum_of pc 2) ∷ u ∷ [])) three f.1)),
    )
fetched-left m n b pc i (suc (suc (suc (suc k)))) h l e t f = absurd (omega (arith, f.0))

-- ---- one store

either-context : (b : Bool) (q : List ℕ) → IsContext q → IsContext (if b then q else q)
either-context true q h = h
either-context false q h = h

either-reg : (b : Bool) (q : List ℕ) (n v : ℕ) → reg q n ≡ v → reg (if b then q else q) n ≡ v
either-reg true q n v e = e
either-reg false q n v e = e

either-below : (b : Bool) (k : ℕ) (ws : List (ℕ × ℕ)) → AreBelow k ws → AreBelow k (if b then ws else [])
either-below true k ws h = h
either-below false k ws h = tt

module _ (op : Op2) (w : Width) (s : Src) (n x k : ℕ) (m r : List ℕ) where
  store-context : IsContext r → IsContext (does m r (instr.Two op w s (dst.Indexed n x)) k).context
  unfolding does two place_to put_context
  store-context h =
      let r2 = after_source w s (passed r k) in
      let c : IsContext r2 = after-context w s (passed r k) (set-context r 0 _ h (omega arith)) in
      either-context (writes op) _ (set-context r2 2 _ c (status-small op w _ _ _ (c.small 2)))

  -- the base register isn't changed
  base-left : n ≢ 0 → n ≢ 2 → (Steps s n → ⊥) → reg (does m r (instr.Two op w s (dst.Indexed n x)) k).context n ≡ reg r n
  unfolding does two place_to put_context
  base-left a b t = either-reg (writes op) _ n (reg r n) (reg-other (after_source w s (passed r k)) 2 _ n b ∙ (after-other w s (passed r k) n t ∙ reg-other r 0 _ n a))

  -- bytes are written below an even address that is above the store's
  writes-below : (b : ℕ) → n ≢ 0 → (Steps s n → ⊥) → sum_of x (reg r n) < b → b % 2 ≡ 0 → AreBelow b (does m r (instr.Two op w s (dst.Indexed n x)) k).written
  unfolding does two place_to put_pairs
  writes-below b a t l e =
      let kept : reg (after_source w s (passed r k)) n ≡ reg r n = after-other w s (passed r k) n t ∙ reg-other r 0 _ n a in
      either-below (writes op) b _ (stored-below w (sum_of x (reg (after_source w s (passed r k)) n)) _ b (omega (arith, kept, l)) e)

-- ---- a store of a group

not-two : (n : ℕ) → IsIndexed n → n ≢ 2
not-two n (inl e) = omega (arith, e)
not-two n (inr (inl e)) = omega (arith, e)
not-two n (inr (inr e)) = omega (arith, e.0)

-- what is known of the unit: it begins above each store, and ends at the most where no code is
record IsUnit (first past n x most a : ℕ) : Type 0 where
  even_first : first % 2 ≡ 0
  below : past ≤ FIRST_ENTRY
  register : IsIndexed n
  apart : a + most < first

-- and in a memory, of a context and an address within the unit
record IsThere (first past n x a : ℕ) (m0 m r : List ℕ) (at : ℕ) : Type 0 where
  context : IsContext r
  address : sum_of x (reg r n) ≡ a
  same : SameFrom first m0 m
  even_at : at % 2 ≡ 0
  begins : first < at

-- a store at least stands before the unit's end
ends-behind : (m : List ℕ) (n x most past at : ℕ) (ss : List Store) → StoresAt m n x most past at ss → at < past
ends-behind m n x most past at _ (Last _ s i e p) = omega (arith, fetched-some m at (at_r4 s) s.words i.fetched, e)
ends-behind m n x most past at _ (Before _ s ss i rest) = omega (arith, ends-behind m n x most past (at + 2 * s.words) ss rest)

module _ (m0 : List ℕ) (first past n x most a y : ℕ) (u : IsUnit first past n x most a) where
  -- the context within the unit beside a source's context
  abbrev here : List ℕ → ℕ → List ℕ
  here r at = spread (set_reg r 0 at) a y

  abbrev after : (m r : List ℕ) → Store → Effect
  after m r s = ended s.past m r (at_base n s) s.words

  not-pc : n ≢ 0
  not-pc = (indexed-free n u.register).0

  pc-there : (r m : List ℕ) (at : ℕ) → IsThere first past n x a m0 m r at → reg (here r at) 0 ≡ at
  pc-there r m at h = spread-reg (set_reg r 0 at) a y 0 none ∙ (pc-set r at h.context.words ∙ omega (arith, h.even_at))

  module _ (m r : List ℕ) (at : ℕ) (s : Store) (h : IsThere first past n x a m0 m r at) (i : IsStoreAt m0 n x most at s) (room : at + 2 * s.words ≤ past) where
    abbrev beside : Effect
    beside = does m (set_reg r 0 at) (at_base n s) s.words

    goes : GoesOn (at_base n s)
    goes = (i.free, indexed-free n u.register)

    at-context : IsContext (set_reg r 0 at)
    at-context = set-context r 0 at h.context (omega (arith, room, u.below))

    past-context : IsContext (set_reg r 0 (s.past - 2 * s.words))
    past-context = set-context r 0 (s.past - 2 * s.words) h.context (omega (arith, i.below))

    index-small : s.index < 65536
    index-small = omega (arith, i.index)

    -- both name one address
    same-address : sum_of s.ahead a ≡ sum_of s.index (reg (set_reg r 0 at) n)
    same-address = omega (arith, i.index, h.address, reg-other r 0 at n not-pc)

    -- the store through R4 does what that through the base does
    through-r4 : does m (here r at) (at_r4 s) s.words ≡ spread_effect beside a y
    through-r4 = through m (set_reg r 0 at) s.op s.width s.source (dst.Indexed n s.index) s.words n s.index s.ahead a y at-context (source-avoids s.source i.free) (refl, refl) not-pc index-small i.steps same-address

    -- wherever it stands
    placed : SameButPc beside (after m r s)
    placed = place m r at (s.past - 2 * s.words) (at_base n s) s.words goes

    written-same : memory_after m (does m (here r at) (at_r4 s) s.words) ≡ memory_after m (after m r s)
    written-same = ap (memory_after m) through-r4 ∙ ap (put_all m) placed.written

    pc-behind : reg beside.context 0 ≡ at + 2 * s.words
    pc-behind = goes-on m (set_reg r 0 at) (at_base n s) s.words at-context goes ∙ omega (arith, pc-set r at h.context.words, h.even_at, room, u.below)

    context-behind : beside.context ≡ set_reg (after m r s).context 0 (at + 2 * s.words)
    context-behind =
        let own : set_reg beside.context 0 (at + 2 * s.words) ≡ beside.context = pc-again beside.context (at + 2 * s.words) (store-context s.op s.width s.source n s.index s.words m (set_reg r 0 at) at-context) pc-behind in
        sym own ∙ (sym (forgets beside.context 0 (at + 2 * s.words)) ∙ (ap (λ (q : List ℕ). set_reg q 0 (at + 2 * s.words)) placed.context ∙ forgets (after m r s).context 0 (at + 2 * s.words)))

    leads-same : (does m (here r at) (at_r4 s) s.words).context ≡ here (after m r s).context (at + 2 * s.words)
    leads-same = ap (λ (e : Effect). e.context) through-r4 ∙ ap (λ (q : List ℕ). spread q a y) context-behind

    fetched-here : IsFetched m (reg (here r at) 0) (at_r4 s) s.words
    fetched-here = subst (λ (p : ℕ). IsFetched m p (at_r4 s) s.words) (sym (pc-there r m at h)) (fetched-left m0 m first at (at_r4 s) s.words h.same (omega (arith, h.begins)) h.even_at (omega (arith, room, u.below)) i.fetched)

    some : 1 ≤ s.words
    some = fetched-some m0 at (at_r4 s) s.words i.fetched

    base-same : reg (set_reg r 0 (s.past - 2 * s.words)) n ≡ reg r n
    base-same = reg-other r 0 (s.past - 2 * s.words) n not-pc

    next-there : IsThere first past n x a m0 (memory_after m (after m r s)) (after m r s).context (at + 2 * s.words)
    next-there =
        let low : sum_of s.index (reg (set_reg r 0 (s.past - 2 * s.words)) n) < first = omega (arith, i.index, h.address, base-same, i.near, u.apart) in
        let writes = writes-below s.op s.width s.source n s.index s.words m (set_reg r 0 (s.past - 2 * s.words)) first not-pc i.steps low u.even_first in
        record {
          context = store-context s.op s.width s.source n s.index s.words m (set_reg r 0 (s.past - 2 * s.words)) past-context;
          address = ap (sum_of x) (base-left s.op s.width s.source n s.index s.words m (set_reg r 0 (s.past - 2 * s.words)) not-pc (not-two n u.register) i.steps ∙ base-same) ∙ h.address;
          same = λ k l. below-leaves (after m r s).written first m writes k l ∙ h.same k l;
          even_at = omega (arith, h.even_at);
          begins = omega (arith, h.begins);
        }

  -- ---- all of them

  stores-reach : (at : ℕ) (ss : List Store) (m r : List ℕ) → StoresAt m0 n x most past at ss → IsThere first past n x a m0 m r at → Reaches m (here r at) first past (stores_after n m r ss).0 (stores_after n m r ss).1
  unfolding stores_after
  stores-reach at _ m r (Last _ s i e p) h =
      let room : at + 2 * s.words ≤ past = omega (arith, e) in
      let there : at ≡ s.past - 2 * s.words = omega (arith, e, p) in
      let same : does m (here r at) (at_r4 s) s.words ≡ spread_effect (after m r s) a y = through-r4 m r at s h i room ∙ ap (λ (z : ℕ). spread_effect (does m (set_reg r 0 z) (at_base n s) s.words) a y) there in
      let leads : reg (after m r s).context 0 ≡ past =
      ended-past m r s.past (at_base n s) s.words h.context (goes m r at s h i room) (omega (arith, p, e, h.even_at)) i.below (omega (arith, p, e)) ∙ p in
      record {
        x = a;
        y = y;
        runs = record {
          memory = m;
          context = here r at;
          works = Rests m (here r at);
          instr = at_r4 s;
          words = s.words;
          fetched = fetched-here m r at s h i room;
          written = ap (memory_after m) same;
          leads = ap (λ (z : Effect). z.context) same;
          leaves = λ q. omega (arith, q.1, spread-reg (after m r s).context a y 0 none, leads);
        };
        there = leads;
      }
  stores-reach at _ m r (Before _ s ss i rest) h =
      let next = at + 2 * s.words in
      let within : next < past = ends-behind m0 n x most past next ss rest in
      let room : next ≤ past = omega (arith, within) in
      let beyond = next-there m r at s h i room in
      let ends = stores-reach next ss (memory_after m (after m r s)) (after m r s).context rest beyond in
      let inside : IsInside first past (reg (here (after m r s).context next) 0) = (omega (arith, h.begins, pc-there (after m r s).context (memory_after m (after m r s)) next beyond), omega (arith, within, pc-there (after m r s).context (memory_after m (after m r s)) next beyond)) in
      record {
        x = ends.x;
        y = ends.y;
        runs = worked m (here r at) (stores_after n m r (s ∷ ss)).0 (spread (stores_after n m r (s ∷ ss)).1 ends.x ends.y) first past (at_r4 s) s.words (memory_after m (after m r s)) (here (after m r s).context next)
            (fetched-here m r at s h i room) (written-same m r at s h i room) (leads-same m r at s h i room) inside ends.runs;
        there = ends.there;
      }

-- ---- behind the guard

pub group-unit : GroupUnitLaw
group-unit m r first past n x lo hi most ss g apart st = record {
  goes = λ p. passes (ends.passes p.0 p.1) (omega (arith, p.1, apart));
  halts = λ p. stopped m r first past STORE_FAULT (sum_of x (reg r n)) (ends.stops p);
}
  where
    even_first : first % 2 ≡ 0
    even_first = omega (arith, g.at.pc, g.at.context.pc_even)

    ends : StoreEnds m r first past first lo hi (sum_of x (reg r n))
    ends = store-ends m r first past first n x lo hi (at-guard m r first past (store_words n x lo hi) g.at g.words (ends-behind m n x most past (first + 26) ss st)) g.register g.index g.lo_word g.hi_word

    passes : Passes m r first past 8 (first + 26) (sum_of x (reg r n)) → sum_of x (reg r n) + most < first → Reaches m r first past (stores_after n m r ss).0 (stores_after n m r ss).1
    passes run low =
        let even_next : (first + 26) % 2 ≡ 0 = omega (arith, even_first) in
        let u : IsUnit first past n x most (sum_of x (reg r n)) = record { even_first = even_first; below = g.at.below; register = g.register; apart = low } in
        let there : IsThere first past n x (sum_of x (reg r n)) m m r (first + 26) = record { context = g.at.context; address = refl; same = λ k l. refl; even_at = even_next; begins = omega arith } in
        let done = stores-reach m first past n x most (sum_of x (reg r n)) (reg r 2) u (first + 26) ss m r st there in
        let start = subst (λ (q : List ℕ). Runs m first past 8 r q) (held-spread r (first + 26) (sum_of x (reg r n)) (reg r 2) g.at.context even_next) run in
        record { x = done.x; y = done.y; runs = after-runs m (stores_after n m r ss).0 (spread (stores_after n m r ss).1 done.x done.y) first past 8 r (spread (set_reg r 0 (first + 26)) (sum_of x (reg r n)) (reg r 2)) start done.runs; there = done.there }

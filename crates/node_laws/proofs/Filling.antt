-- A kernel that objects are placed in: with an application, and with a module and its exports.
use Rattle.std.proofs.Common.{◌≡◌, ◌≢◌, ℕ, suc, ◌+◌, ◌-◌, ◌/◌, ◌%◌, ◌<◌, ◌≤◌, List, [], ◌∷◌, true, length, set, refl, sym, ap, ◌∙◌, subst, inl, inr, arith, Contains, Option, Some, Result, Ok, Err, None}
use Rattle.std.specs.Prelude.{nat_lt}
use Rattle.std.specs.List.{fold}
use Rattle.std.proofs.lemmas.Bool.{cases_eq, le-ltb, cond-false}
use Rattle.std.proofs.lemmas.List.{get_or-set_same, get_or-set_other}
use Rattle.machine_model.specs.Context.{reg}
use Rattle.kernel_model.specs.declared.kinds.Kind.{Kind}
use Rattle.kernel_model.specs.declared.kinds.Kind.TheVariants.{App, Module}
use Rattle.kernel_model.specs.Kernel.{Kernel, word_of, with_app, app_at, with_module, module_at, thread_at, function_at, free_app, free_module, free_thread, free_function}
use Rattle.kernel_model.specs.Words.{free, live, none, identity, tick_number, saved_register}
use Rattle.kernel_model.specs.Running.{NoneRuns}
use Rattle.kernel_model.specs.declared.rows.SysWord.TheVariants.{Budget}
use Rattle.kernel_model.specs.declared.rows.AppRow.{AppRow}
use Rattle.kernel_model.specs.declared.rows.FnRow.{FnRow}
use Rattle.kernel_model.specs.declared.rows.ModuleRow.{ModuleRow}
use Rattle.kernel_model.specs.declared.rows.ThreadRow.{ThreadRow}
use Rattle.code_model.specs.declared.object.Object.{Object}
use Rattle.code_model.specs.declared.parts.Export.{Export}
use Rattle.code_model.specs.Form.{IsInCode}
use Rattle.code_model.specs.Guards.{UnitStart}
use Rattle.code_model.specs.Rules.{IsExported}
use Rattle.code_model.specs.Verdicts.{IsAccepted}
use Rattle.code_laws.specs.Laws.{NamedUnits}
use Rattle.place_model.specs.declared.places.Regions.{Regions}
use Rattle.place_model.specs.declared.places.NoRoom.{NoRoom}
use Rattle.place_model.specs.declared.places.NoRoom.TheVariants.{Slots, Code as NoCode, Region as NoRegion, Taken}
use Rattle.place_model.specs.Placing.{domain_at, placing, with_places, placed_app, placed_module, IsPlacing, IsInPools}
use Rattle.place_model.specs.Settled.{IsSettledKernel}
use Rattle.place_model.proofs.PlacingLemmas.{placing_is, placing_inside}
use Rattle.place_model.proofs.SettledLemmas.{placing_even, placing_settled}
use Rattle.load_model.specs.Domains.{Domain, code_length, region_length}
use Rattle.node_model.specs.Systems.{domain_in, is_mark, is_mark_in, is_unit_address}
use Rattle.node_model.specs.Steps.{pending}
use Rattle.load_model.specs.Loading.{Loadable, domain_of, loaded_app, loaded_module, loaded_kernel, with_export, unless_taken, taken_number, places_of}
use Rattle.node_model.specs.Sound.{AreDomains, AreFunctions}
use Rattle.node_laws.proofs.Domains.{even-times}
use Rattle.load_model.proofs.AppRows.{app_row, settled_app}
use Rattle.load_model.proofs.ExportRows.{settled_export}
use Rattle.node_laws.proofs.FillingKernels.{settled-register}
use Rattle.node_laws.proofs.FillingRows.{free-row, free-app, domain-old, HasLengths, domains-with, new-app, new-module, functions-stay, is-unit, is-mark}

-- what holds of a kernel while objects are placed
pub record IsFilling (k : Kernel) (ds : List (Option Domain)) : Type 0 where
  pub settled : IsSettledKernel k
  pub domains : AreDomains k.apps k.modules ds
  pub functions : AreFunctions k.functions ds
  pub none_runs : NoneRuns k
  pub unborn : (t : ℕ) → t < 32 → (thread_at k t).state ≡ free
  pub entries : (a : ℕ) (d : Domain) → a < 8 → domain_in ds a ≡ Some d
      → is_mark ds a (reg (thread_at k (identity a 0)).regs 0) ≡ true
  pub all_live : (a : ℕ) → a < 8 → (app_at k a).state ≢ free → (app_at k a).state ≡ live
  pub fresh : (tick_number k ≡ 0) × (word_of k Budget ≡ 0) × (pending k ≡ 0)

-- ---- where an object is placed

pub record IsPlacedAt (k : Kernel) (kind : Kind) (o : Loadable) (r : Regions) : Type 0 where
  pub pools : IsInPools kind r
  pub code_even : r.code_lo % 2 ≡ 0
  pub settled : IsSettledKernel (with_places k r)
  pub was_free : (domain_at k r.dom).state ≡ free
  pub lengths : HasLengths o r

not-taken : (t : Option ℕ) (p : Result Regions NoRoom) (r : Regions) → unless_taken t p ≡ Ok r → p ≡ Ok r
not-taken None p r e = e
not-taken (Some f) (Ok x) r e = absurd (cc)
not-taken (Some f) (Err Slots) r e = absurd (cc)
not-taken (Some f) (Err (NoCode a b)) r e = absurd (cc)
not-taken (Some f) (Err (NoRegion a b)) r e = absurd (cc)
not-taken (Some f) (Err (Taken g)) r e = absurd (cc)

even-stack : (kind : Kind) (o : Object) → o.kind ≡ kind → o.stack % 2 ≡ 0
even-stack App o e = (o.form.app e).stack_even
even-stack Module o e = ap (λ (s : ℕ). s % 2) (o.form.of_module e).no_stack

even-region : (o : Object) → region_length o % 2 ≡ 0
even-region o = omega (arith, even-times o.threads o.stack (even-stack o.kind o refl))

pub placed-at : (k : Kernel) (o : Loadable) (r : Regions) → IsSettledKernel k → places_of k o.object ≡ Ok r
    → IsPlacedAt k o.object.kind o r
unfolding places_of
placed-at k o r h e =
    let c : ℕ = code_length o.object in
    let l : ℕ = region_length o.object in
    let p : placing k o.object.kind c l ≡ Ok r = not-taken (taken_number k o.object) (placing k o.object.kind c l) r e in
    let lowest : IsPlacing k o.object.kind c l r = placing_is k o.object.kind c l r p in
    record {
      pools = placing_inside k o.object.kind c l r p;
      code_even = (placing_even k o.object.kind c l r h p).0;
      settled = placing_settled k o.object.kind c l r h (omega arith) (even-region o.object) p;
      was_free = free-row k o.object.kind c l r h lowest;
      lengths = record { code = lowest.code_end; region = lowest.region_end };
    }

-- ---- an application

pub filling-app : (k : Kernel) (ds : List (Option Domain)) (o : Loadable) (r : Regions) → NamedUnits → IsFilling k ds
    → IsAccepted o.object o.units → o.object.kind ≡ App → IsPlacedAt k App o r
    → IsFilling (loaded_app k o.object r) (set ds r.dom (Some (domain_of o r)))
filling-app k ds o r named h a kind p = record {
  settled = settled-register k1 t 0 v (omega (arith, below)) (h.unborn t (omega (arith, below)))
      (settled_app k o.object r h.settled kind below (free-app k r.dom below p.was_free) p.lengths.region p.settled);
  domains = domains-with k.apps k1.apps k.modules k.modules ds r.dom d
      (new-app k.apps k.modules o r h.settled.orderly.shape.app_rows below a kind p.lengths) h.domains;
  functions = functions-stay k ds r.dom d h.settled p.was_free h.functions;
  none_runs = record { no_thread = h.none_runs.no_thread; no_module = h.none_runs.no_module };
  unborn = λ u l. elim (cases_eq u t) [
    | inl q ↦ ap (λ (x : ℕ). (thread_at k2 x).state) q ∙ ap (λ (x : ThreadRow). x.state) here ∙ h.unborn t (omega (arith, below))
    | inr ne ↦ ap (λ (x : ThreadRow). x.state) (other u ne) ∙ h.unborn u l
  ];
  entries = λ b x l e. elim (cases_eq b r.dom) [
    | inl q ↦ subst (λ (c : ℕ). is_mark ds1 c (reg (thread_at k2 (identity c 0)).regs 0) ≡ true) (sym q)
        (ap (λ (x : ℕ). is_mark ds1 r.dom x) entry ∙ is-mark ds r.dom d v size unit)
    | inr ne ↦ entry-stays b x l e ne
  ];
  all_live = λ b l u. elim (cases_eq b r.dom) [
    | inl q ↦ ap (λ (c : ℕ). (app_at k1 c).state) q ∙ ap (λ (x : AppRow). x.state)
        (get_or-set_same k.apps r.dom (app_row o.object r) free_app (omega (arith, below, h.settled.orderly.shape.app_rows)))
    | inr ne ↦
        let old : app_at k1 b ≡ app_at k b = get_or-set_other k.apps r.dom b (app_row o.object r) free_app ne in
        ap (λ (x : AppRow). x.state) old ∙ h.all_live b l (subst (λ (x : AppRow). x.state ≢ free) old u)
  ];
  fresh = h.fresh;
}
  where
    d : Domain
    d = domain_of o r

    ds1 : List (Option Domain)
    ds1 = set ds r.dom (Some (domain_of o r))

    k1 : Kernel
    k1 = with_app k r.dom (app_row o.object r)

    t : ℕ
    t = identity r.dom 0

    v : ℕ
    v = r.code_lo + o.object.entry

    k2 : Kernel
    k2 = saved_register k1 t 0 v

    below : r.dom < 8
    below = omega (arith, p.pools.number_to)

    size : r.dom < length ds
    size = omega (arith, below, h.domains.twelve)

    here : thread_at k2 t ≡ record (thread_at k t) { regs = set (thread_at k t).regs 0 v }
    here = get_or-set_same k.threads t _ free_thread (omega (arith, below, h.settled.orderly.shape.thread_rows))

    other : (u : ℕ) → u ≢ t → thread_at k2 u ≡ thread_at k u
    other u ne = get_or-set_other k.threads t u _ free_thread ne

    entry : reg (thread_at k2 t).regs 0 ≡ v
    entry = ap (λ (x : ThreadRow). reg x.regs 0) here
        ∙ get_or-set_same (thread_at k t).regs 0 v 0
        (omega (arith, below, (h.settled.orderly.rows t (omega (arith, below))).registers))

    unit : is_unit_address d v ≡ true
    unit =
        let in' : IsInCode o.object.code o.object.entry = (o.object.form.app kind).entry_in_code in
        is-unit d o.object.entry a p.code_even in'.even in'.below
        (named o.object o.units (o.object.entry / 2) a (inl (kind, omega (arith, in'.even))))

    entry-stays : (b : ℕ) (x : Domain) → b < 8 → domain_in ds1 b ≡ Some x → b ≢ r.dom
        → is_mark ds1 b (reg (thread_at k2 (identity b 0)).regs 0) ≡ true
    entry-stays b x l e ne =
        let same : domain_in ds1 b ≡ domain_in ds b = domain-old ds r.dom b d ne in
        ap (λ (y : Option Domain). is_mark_in y (reg (thread_at k2 (identity b 0)).regs 0)) same
        ∙ ap (λ (y : ThreadRow). is_mark ds b (reg y.regs 0)) (other (identity b 0) (λ q. ne (omega arith)))
        ∙ h.entries b x l (sym same ∙ e)

-- ---- a module

module-row : (k : Kernel) (ds : List (Option Domain)) (o : Loadable) (r : Regions) → IsFilling k ds
    → IsAccepted o.object o.units → o.object.kind ≡ Module → IsPlacedAt k Module o r
    → IsFilling (with_module k (r.dom - 8) (placed_module r)) (set ds r.dom (Some (domain_of o r)))
module-row k ds o r h a kind p = record {
  settled = subst (λ (x : Kernel). IsSettledKernel x)
      (cond-false (nat_lt r.dom 8) (with_app k r.dom (placed_app r)) k1 (le-ltb r.dom 8 from)) p.settled;
  domains = domains-with k.apps k.apps k.modules k1.modules ds r.dom d
      (new-module k.apps k.modules o r h.settled.orderly.shape.module_rows from below a kind p.lengths) h.domains;
  functions = functions-stay k ds r.dom d h.settled p.was_free h.functions;
  none_runs = record { no_thread = h.none_runs.no_thread; no_module = h.none_runs.no_module };
  unborn = h.unborn;
  entries = λ b x l e.
      let same : domain_in ds1 b ≡ domain_in ds b = domain-old ds r.dom b d (λ q. omega (arith, from)) in
      ap (λ (y : Option Domain). is_mark_in y (reg (thread_at k (identity b 0)).regs 0)) same ∙ h.entries b x l (sym same ∙ e);
  all_live = h.all_live;
  fresh = h.fresh;
}
  where
    d : Domain
    d = domain_of o r

    ds1 : List (Option Domain)
    ds1 = set ds r.dom (Some (domain_of o r))

    k1 : Kernel
    k1 = with_module k (r.dom - 8) (placed_module r)

    from : 8 ≤ r.dom
    from = omega (arith, p.pools.number_from)

    below : r.dom < 12
    below = omega (arith, p.pools.number_to)

-- an export of the module at a place is a mark of it
record IsFit (ds : List (Option Domain)) (i at : ℕ) (e : Export) : Type 0 where
  even : (at + e.offset) % 2 ≡ 0
  mark : is_mark ds (8 + i) (at + e.offset) ≡ true

one-export : (k : Kernel) (ds : List (Option Domain)) (i at : ℕ) (e : Export) → IsFilling k ds → (module_at k i).state ≢ free
    → IsFit ds i at e → IsFilling (with_export i at k e) ds
one-export k ds i at e h used fit = record {
  settled = settled_export k i at e h.settled used fit.even;
  domains = h.domains;
  functions = λ f l some. elim (cases_eq f e.number) [
    | inl q ↦ subst (λ (x : FnRow). is_mark ds (8 + x.module) x.address ≡ true) (sym (here f l q)) fit.mark
    | inr ne ↦ subst (λ (x : FnRow). is_mark ds (8 + x.module) x.address ≡ true) (sym (other f ne))
        (h.functions f l (subst (λ (x : FnRow). x.module ≢ none) (other f ne) some))
  ];
  none_runs = record { no_thread = h.none_runs.no_thread; no_module = h.none_runs.no_module };
  unborn = h.unborn;
  entries = h.entries;
  all_live = h.all_live;
  fresh = h.fresh;
}
  where
    new : FnRow
    new = record { «module» = i; address = at + e.offset }

    here : (f : ℕ) → f < 64 → f ≡ e.number → function_at (with_export i at k e) f ≡ new
    here f l q = ap (λ (x : ℕ). function_at (with_export i at k e) x) q
        ∙ get_or-set_same k.functions e.number new free_function (omega (arith, h.settled.orderly.shape.function_rows))

    other : (f : ℕ) → f ≢ e.number → function_at (with_export i at k e) f ≡ function_at k f
    other f ne = get_or-set_other k.functions e.number f new free_function ne

all-exports : (es : List Export) (k : Kernel) (ds : List (Option Domain)) (i at : ℕ) → IsFilling k ds
    → (module_at k i).state ≢ free → ((e : Export) → Contains es e → IsFit ds i at e)
    → IsFilling (fold (with_export i at) k es) ds
all-exports [] k ds i at h used fit = h
all-exports (e ∷ es) k ds i at h used fit =
    all-exports es (with_export i at k e) ds i at (one-export k ds i at e h used (fit e (0, omega arith, refl))) used
    (λ x c. fit x (suc c.0, omega (arith, c.1), c.2))

export-fits : (ds : List (Option Domain)) (o : Loadable) (r : Regions) → NamedUnits → IsAccepted o.object o.units
    → r.code_lo % 2 ≡ 0 → 8 ≤ r.dom → r.dom < length ds → (e : Export) → Contains o.object.exports e
    → IsFit (set ds r.dom (Some (domain_of o r))) (r.dom - 8) r.code_lo e
unfolding IsExported
export-fits ds o r named a even from size e c =
    let in' : IsInCode o.object.code e.offset = subst (λ (x : Export). IsInCode o.object.code x.offset) c.2
    (o.object.form.exports_fit c.0 e c.1) in
    let unit : UnitStart o.object (e.offset / 2) =
    named o.object o.units (e.offset / 2) a (inr (e, c, omega (arith, in'.even))) in
    let mark : is_mark (set ds r.dom (Some (domain_of o r))) r.dom (r.code_lo + e.offset) ≡ true =
    is-mark ds r.dom (domain_of o r) (r.code_lo + e.offset) size
    (is-unit (domain_of o r) e.offset a even in'.even in'.below unit) in
    let number : r.dom ≡ 8 + (r.dom - 8) = omega arith in
    record {
      even = omega (arith, in'.even);
      mark = subst (λ (n : ℕ). is_mark (set ds r.dom (Some (domain_of o r))) n (r.code_lo + e.offset) ≡ true) number mark;
    }

pub filling-module : (k : Kernel) (ds : List (Option Domain)) (o : Loadable) (r : Regions) → NamedUnits → IsFilling k ds
    → IsAccepted o.object o.units → o.object.kind ≡ Module → IsPlacedAt k Module o r
    → IsFilling (loaded_module k o.object r) (set ds r.dom (Some (domain_of o r)))
filling-module k ds o r named h a kind p =
    let from : 8 ≤ r.dom = omega (arith, p.pools.number_from) in
    let below : r.dom < 12 = omega (arith, p.pools.number_to) in
    let k1 : Kernel = with_module k (r.dom - 8) (placed_module r) in
    let row : module_at k1 (r.dom - 8) ≡ placed_module r =
    get_or-set_same k.modules (r.dom - 8) (placed_module r) free_module (omega (arith, h.settled.orderly.shape.module_rows)) in
    all-exports o.object.exports k1 (set ds r.dom (Some (domain_of o r))) (r.dom - 8) r.code_lo (module-row k ds o r h a kind p)
    (subst (λ (x : ModuleRow). x.state ≢ free) (sym row) (λ e. omega (arith, e)))
    (export-fits ds o r named a p.code_even from (omega (arith, h.domains.twelve)))

-- ---- either

pub filling-with : (kind : Kind) (k : Kernel) (ds : List (Option Domain)) (o : Loadable) (r : Regions) → NamedUnits → IsFilling k ds
    → IsAccepted o.object o.units → o.object.kind ≡ kind → IsPlacedAt k kind o r
    → IsFilling (loaded_kernel kind k o.object r) (set ds r.dom (Some (domain_of o r)))
filling-with App k ds o r named h a e p = filling-app k ds o r named h a e p
filling-with Module k ds o r named h a e p = filling-module k ds o r named h a e p

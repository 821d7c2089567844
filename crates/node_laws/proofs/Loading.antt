-- An object is placed in a system that is being loaded.
use Rattle.std.proofs.Common.{◌≡◌, ◌≢◌, ℕ, ◌+◌, ◌-◌, ◌<◌, ◌≤◌, List, length, set, refl, sym, ◌∙◌, subst, inl, inr, arith, Option, Some}
use Rattle.std.specs.Prelude.{slice_index}
use Rattle.std.proofs.lemmas.Bool.{cases_eq}
use Rattle.kernel_model.specs.declared.map.TheConstants.{CODE_POOL, CODE_POOL_END}
use Rattle.kernel_model.specs.declared.kinds.Kind.{Kind}
use Rattle.kernel_model.specs.declared.kinds.Kind.TheVariants.{App, Module}
use Rattle.kernel_model.specs.Kernel.{Kernel}
use Rattle.code_laws.specs.Laws.{NamedUnits}
use Rattle.place_model.specs.declared.places.Regions.{Regions}
use Rattle.place_model.specs.Placing.{IsInPools}
use Rattle.place_model.specs.Settled.{IsSettledKernel}
use Rattle.load_model.specs.Domains.{Domain, code_length}
use Rattle.load_model.specs.Images.{code_image, region_image}
use Rattle.load_model.specs.Standing.{HasBytes}
use Rattle.node_model.specs.Systems.{System, domain_in}
use Rattle.load_model.specs.Loading.{Loadable, domain_of, loaded_kernel, with_images}
use Rattle.node_model.specs.Sound.{AreDomains, IsCodeInPlace}
use Rattle.node_model.specs.Laws.{IsLoading, LoadedLaw}
use Rattle.node_laws.proofs.Stepping.{code-in-pool, code-apart}
use Rattle.node_laws.proofs.Images.{IsImaged, is-memory, code-stands, beside-images, high-words}
use Rattle.node_laws.proofs.FillingRows.{domain-new, domain-put, domain-old}
use Rattle.node_laws.proofs.Filling.{IsFilling, IsPlacedAt, placed-at, filling-with}

-- the laws of other crates that are used
pub record ImageLaws : Type 0 where
  pub code_size : (d : Domain) → length (code_image d) ≡ code_length d.object
  pub region_size : (d : Domain) → length d.object.init ≤ d.hi - d.lo → length (region_image d) ≡ d.hi - d.lo
  pub code_small : (d : Domain) (k : ℕ) → slice_index (code_image d) k < 256
  pub region_small : (d : Domain) (k : ℕ) → slice_index (region_image d) k < 256
  pub named : NamedUnits

-- ---- memory

pub imaged : ImageLaws → (k : Kernel) (o : Loadable) (r : Regions) → IsPlacedAt k o.object.kind o r → IsImaged (domain_of o r)
imaged laws k o r p = record {
  code_size = laws.code_size (domain_of o r);
  region_size = laws.region_size (domain_of o r) (omega (arith, p.lengths.region));
  code_small = laws.code_small (domain_of o r);
  region_small = laws.region_small (domain_of o r);
  code_low = p.pools.code_from;
  code_high = omega (arith, p.pools.code_to, p.lengths.code);
  lo_low = p.pools.region_from;
  up = p.pools.region_up;
  hi_high = p.pools.region_to;
}

-- the placed object's code stands, that of each other domain is left, and so are the vectors
code-in-place : ImageLaws → (m : List ℕ) (j : Kernel) (ds : List (Option Domain)) (dom : ℕ) (d : Domain) → dom < length ds
    → IsSettledKernel j → AreDomains j.apps j.modules (set ds dom (Some d)) → IsImaged d → IsCodeInPlace m ds
    → IsCodeInPlace (with_images m d) (set ds dom (Some d))
code-in-place laws m j ds dom d size h domains i c = record {
  memory = is-memory m d c.memory i;
  code = λ n x e. elim (cases_eq n dom) [
    | inl q ↦ subst (λ (y : Domain). HasBytes (with_images m d) y.code_lo (code_image y)) (domain-new ds dom n d x size q e)
        (code-stands m d c.memory.bytes i)
    | inr ne ↦ left n x e ne
  ];
  vectors = λ n l. high-words m d n c.memory.bytes i l ∙ c.vectors n l;
}
  where
    left : (n : ℕ) (x : Domain) → domain_in (set ds dom (Some d)) n ≡ Some x → n ≢ dom
        → HasBytes (with_images m d) x.code_lo (code_image x)
    left n x e ne k l =
        let pool : (CODE_POOL ≤ x.code_lo) × (x.code_lo + code_length x.object ≤ CODE_POOL_END) =
        code-in-pool j n x h (domains.placed n x e) in
        beside-images m d (x.code_lo + k) c.memory.bytes i (omega (arith, pool.0))
        (code-apart j (set ds dom (Some d)) n dom x d h domains e (domain-put ds dom dom d size refl) ne (x.code_lo + k)
        (omega arith) (omega (arith, l, laws.code_size x)))
        ∙ c.code n x (sym (domain-old ds dom n d ne) ∙ e) k l

-- ---- the system

pub below-twelve : (kind : Kind) (r : Regions) → IsInPools kind r → r.dom < 12
below-twelve App r i = omega (arith, i.number_to)
below-twelve Module r i = omega (arith, i.number_to)

filling-of : (s : System) → IsLoading s → IsFilling s.kernel s.placed
filling-of s h = record {
  settled = h.settled;
  domains = h.domains;
  functions = h.functions;
  none_runs = h.none_runs;
  unborn = h.unborn;
  entries = h.entries;
  all_live = h.all_live;
  fresh = h.fresh;
}

pub loaded-loading : ImageLaws → LoadedLaw
loaded-loading laws s n o r h a e =
    let p : IsPlacedAt s.kernel o.object.kind o r = placed-at s.kernel o r h.settled e in
    let j : Kernel = loaded_kernel o.object.kind s.kernel o.object r in
    let ds : List (Option Domain) = set s.placed r.dom (Some (domain_of o r)) in
    let f : IsFilling j ds = filling-with o.object.kind s.kernel s.placed o r laws.named (filling-of s h) a refl p in
    record {
      code = code-in-place laws s.memory j s.placed r.dom (domain_of o r)
          (omega (arith, below-twelve o.object.kind r p.pools, h.domains.twelve)) f.settled f.domains
          (imaged laws s.kernel o r p) h.code;
      settled = f.settled;
      domains = f.domains;
      functions = f.functions;
      none_runs = f.none_runs;
      unborn = f.unborn;
      entries = f.entries;
      all_live = f.all_live;
      fresh = f.fresh;
      made = h.made;
    }

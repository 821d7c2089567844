-- What a node's memory shows, and that the kernel's calls find it as they want it.
use Rattle.std.proofs.Common.{◌≡◌, ◌≢◌, ℕ, ◌+◌, ◌<◌, ◌≤◌, List, length, get_or, inl, inr, refl, sym, ap, ◌∙◌, subst, arith, All, Option}
use Rattle.std.proofs.lemmas.Bool.{cases_lt, cases_eq}
use Rattle.std.proofs.lemmas.Grind.{same_number_lists}
use Rattle.std.proofs.lemmas.List.{get_or_past}
use Rattle.std.proofs.lemmas.List.Elements.{All-from_get_or}
use Rattle.machine_model.specs.Memory.{IsMemory}
use Rattle.kernel_model.specs.declared.states.TheConstants.{ENDED}
use Rattle.kernel_model.specs.Kernel.{Kernel, module_at}
use Rattle.kernel_model.specs.Layout.{kernel_in, kernel_of, layout, written, table_bytes, Fits, IsLaidOut}
use Rattle.kernel_model.specs.Queues.{Leaves}
use Rattle.kernel_model.specs.Words.{free}
use Rattle.kernel_model.proofs.FitLemmas.{memory_fits_lem}
use Rattle.kernel_model.proofs.LayoutLemmas.{parts_of_layout, layout_from_laid_out}
use Rattle.kernel_model.proofs.SmallLemmas.{layout_size, layout_small}
use Rattle.place_model.specs.Settled.{IsSettled, IsSettledKernel}
use Rattle.load_model.specs.Domains.{Domain}
use Rattle.node_model.specs.Systems.{System, seen, seen_in}
use Rattle.node_model.specs.Sound.{IsSound, HasDomain, IsDomain}
use Rattle.node_model.specs.Code.{Shows, ShownLaw, SettledLaw, KnownLaw}
use Rattle.node_model.specs.BootCode.{LoadingSettledLaw}
use Rattle.node_laws.proofs.Seeing.{sees, seen-memory, seen-tables}
use Rattle.node_laws.proofs.Representing.{part-byte, tables-size, seen-length, whole, seen-leaves}
use Rattle.node_laws.proofs.Stepping.{of-module}

-- ---- kernels that a memory can have

pub record IsHeld (k : Kernel) : Type 0 where
  pub fits : Fits k
  pub size : length (layout k) ≡ 3584
  pub small : (a : ℕ) → get_or (layout k) a 0 < 256

pub held : (m : List ℕ) → IsMemory m → IsHeld (kernel_of m)
held m h =
    let all : All (λ b. b < 256) m = All-from_get_or (λ b. b < 256) m 0 (λ i l. h.small i) in
    let fits : Fits (kernel_of m) = memory_fits_lem m h.bytes all in
    record {
      fits = fits;
      size = layout_size (kernel_of m) fits;
      small = λ a. elim (cases_lt a (length (layout (kernel_of m)))) [
        | inl l ↦ layout_small m h.bytes all a 0 l
        | inr u ↦ rw (get_or_past (layout (kernel_of m)) a 0 u) (omega arith)
      ];
    }

-- the tables that are seen are such a kernel's layout
tables-seen : (m : List ℕ) (k : Kernel) (ds : List (Option Domain)) → length m ≡ 65536 → IsHeld k
    → table_bytes (seen_in m k ds) ≡ layout k
tables-seen m k ds e h = same_number_lists (table_bytes (seen_in m k ds)) (layout k) (size ∙ sym h.size) (λ a l. each a (omega (arith, l, size)))
  where
    size : length (table_bytes (seen_in m k ds)) ≡ 3584
    size = tables-size (seen_in m k ds) (seen-length m k ds e)

    each : (a : ℕ) → a < 3584 → get_or (table_bytes (seen_in m k ds)) a 0 ≡ get_or (layout k) a 0
    each a l = part-byte (seen_in m k ds) a l ∙ seen-tables m k ds a e l ∙ whole k a h.size (h.small a) l

-- where the kernel is read back from its layout's parts, the memory that is seen has it
pub seen-kernel : (m : List ℕ) (k : Kernel) (ds : List (Option Domain)) → length m ≡ 65536 → IsHeld k → kernel_in (written k) ≡ k
    → kernel_of (seen_in m k ds) ≡ k
unfolding kernel_of
seen-kernel m k ds e h back = ap (λ (ps : List (List ℕ)). kernel_in ps) (sym (parts_of_layout (seen_in m k ds) k h.fits (tables-seen m k ds e h))) ∙ back

seen-laid : (m : List ℕ) (k : Kernel) (ds : List (Option Domain)) → length m ≡ 65536 → IsHeld k → kernel_in (written k) ≡ k → IsLaidOut (seen_in m k ds)
unfolding IsLaidOut
seen-laid m k ds e h back =
    ap (λ (j : Kernel). written j) (seen-kernel m k ds e h back) ∙ parts_of_layout (seen_in m k ds) k h.fits (tables-seen m k ds e h)

-- a laid-out memory has the tables that are seen with its kernel
pub tables-shown : (after m : List ℕ) (j : Kernel) (ds : List (Option Domain)) (a : ℕ) → IsMemory after → IsLaidOut after
    → kernel_of after ≡ j → length m ≡ 65536 → a < 3584 → get_or after (512 + a) 0 ≡ get_or (seen_in m j ds) (512 + a) 0
tables-shown after m j ds a h laid e size l =
    let x : IsHeld j = subst (λ (k : Kernel). IsHeld k) e (held after h) in
    sym (part-byte after a l)
    ∙ ap (λ (bs : List ℕ). get_or bs a 0) (layout_from_laid_out after laid ∙ ap (λ (k : Kernel). layout k) e)
    ∙ sym (whole j a x.size (x.small a) l)
    ∙ sym (seen-tables m j ds a size l)

-- ---- a memory that is shown

pub held-shown : (m : List ℕ) (s : System) → Shows m s → IsHeld s.kernel
held-shown m s w = subst (λ (k : Kernel). IsHeld k) w.kernel (held m w.memory)

-- a kernel that is shown is read back: the memory that is seen has it
pub back-shown : (m : List ℕ) (s : System) → Shows m s → IsMemory s.memory → kernel_in (written s.kernel) ≡ s.kernel
unfolding kernel_of
back-shown m s w h =
    ap (λ (ps : List (List ℕ)). kernel_in ps) (parts_of_layout (seen s) s.kernel (held-shown m s w).fits (tables-seen s.memory s.kernel s.placed h.bytes (held-shown m s w)))
    ∙ ap (λ (x : List ℕ). kernel_of x) (sym w.bytes) ∙ w.kernel

pub laid-shown : (m : List ℕ) (s : System) → Shows m s → IsMemory s.memory → IsLaidOut m
laid-shown m s w h = subst (λ (x : List ℕ). IsLaidOut x) (sym w.bytes)
    (seen-laid s.memory s.kernel s.placed h.bytes (held-shown m s w) (back-shown m s w h))

pub settled-shown : (m : List ℕ) (s : System) → Shows m s → IsMemory s.memory → IsSettledKernel s.kernel → IsSettled m
settled-shown m s w h k = record {
  laid_out = laid-shown m s w h;
  kernel = subst (λ (x : Kernel). IsSettledKernel x) (sym w.kernel) k;
}

pub shown : ShownLaw
shown n os s r h = record {
  memory = subst (λ (x : List ℕ). IsMemory x) (sym r.memory) (sees s h).memory;
  bytes = r.memory;
  kernel = r.kernel;
}

pub settled : SettledLaw
settled m s w h = settled-shown m s w h.code.memory h.kernel.settled

pub loading-settled : LoadingSettledLaw
loading-settled m s w h = settled-shown m s w h.code.memory h.settled

-- what is seen of another system with the same kernel is shown where the kernel is
pub shows-seen : (m : List ℕ) (s x : System) → Shows m s → IsMemory s.memory → IsMemory x.memory → x.kernel ≡ s.kernel → Shows (seen x) x
shows-seen m s x w g h e = record {
  memory = seen-memory x.memory x.kernel x.placed h;
  bytes = refl;
  kernel = seen-kernel x.memory x.kernel x.placed h.bytes (subst (λ (k : Kernel). IsHeld k) (sym e) (held-shown m s w))
      (subst (λ (k : Kernel). kernel_in (written k) ≡ k) (sym e) (back-shown m s w g));
}

-- behind a call of the kernel
pub leaves-bytes : (before after : List ℕ) (s : System) (j : Kernel) → Shows before s → IsMemory s.memory → IsMemory after
    → Leaves before after j → after ≡ seen_in s.memory j s.placed
leaves-bytes before after s j w h a left =
    seen-leaves s.memory before after s.kernel j s.placed h w.memory a (laid-shown before s w h) w.bytes left

-- ---- modules

known-state : (s : System) (i : ℕ) → IsSound s → i < 4 → (module_at s.kernel i).state ≢ free → (module_at s.kernel i).state ≤ ENDED
known-state s i h l u =
    let has : HasDomain s.placed (8 + i) = h.kernel.domains.modules_used i l u in
    let is : IsDomain s.kernel.apps s.kernel.modules (8 + i) has.0 = h.kernel.domains.placed (8 + i) has.0 has.1 in
    (of-module s.kernel i has.0 is).1.known

pub known : KnownLaw
known s h i l = elim (cases_eq (module_at s.kernel i).state free) [
  | inl e ↦ omega (arith, e)
  | inr u ↦ known-state s i h l u
]

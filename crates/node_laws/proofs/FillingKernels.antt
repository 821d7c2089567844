-- A settled kernel with another register saved for a thread that isn't live.
use Rattle.std.proofs.Common.{◌≡◌, ◌≢◌, ℕ, ◌+◌, ◌-◌, ◌%◌, ◌<◌, length, set, refl, sym, ap, ◌∙◌, subst, inl, inr, arith, Contains, length-set}
use Rattle.std.specs.Prelude.{nat_lt, if◌then◌else◌}
use Rattle.std.proofs.lemmas.Bool.{cases_eq, lt-ltb, cond-true}
use Rattle.std.proofs.lemmas.List.{get_or-set_same, get_or-set_other}
use Rattle.kernel_model.specs.declared.kinds.Kind.TheVariants.{App}
use Rattle.kernel_model.specs.Kernel.{Kernel, with_app, app_at, with_module, module_at, thread_at, with_thread, function_at, free_app, free_function}
use Rattle.kernel_model.specs.Words.{free, live, none, saved_register}
use Rattle.kernel_model.specs.Orderly.{Spot, spot_of, listed, IsThreadRow, IsOrderly}
use Rattle.kernel_model.specs.Orderly.Spot.{Nowhere}
use Rattle.kernel_model.specs.declared.rows.AppRow.{AppRow}
use Rattle.kernel_model.specs.declared.rows.FnRow.{FnRow}
use Rattle.kernel_model.specs.declared.rows.ThreadRow.{ThreadRow}
use Rattle.code_model.specs.declared.object.Object.{Object}
use Rattle.code_model.specs.declared.parts.Export.{Export}
use Rattle.code_model.specs.Statics.{static_size}
use Rattle.place_model.specs.declared.places.DomainRow.{DomainRow}
use Rattle.place_model.specs.declared.places.Regions.{Regions}
use Rattle.place_model.specs.Placing.{app_domain, module_domain, domain_at, pool_range, range_in, with_places, placed_app, placed_module}
use Rattle.place_model.specs.Settled.{IsInPool, AreApart, IsAppPlace, IsInUse, IsSettledKernel}
use Rattle.place_model.proofs.OrderlyPlaced.{orderly_app}
use Rattle.thread_laws.proofs.Moving.{IsOrderlyBut, order_of, orderly_from}
use Rattle.thread_laws.proofs.MovingRows.{MayHave, moving_with_row}
use Rattle.thread_laws.proofs.Spots.{spot_nowhere}
use Rattle.load_model.specs.Domains.{region_length}
use Rattle.load_model.specs.Loading.{with_export}

unlisted : (k : Kernel) (t : ℕ) → IsOrderly k → (thread_at k t).state ≡ free → (s : Spot) → Contains (listed k s) t → ⊥
unlisted k t h e s c =
    let here : s ≡ Nowhere = sym (h.placed.nowhere_else s t c).1 ∙ spot_nowhere _ _ _ e in
    none-there (subst (λ (x : Spot). Contains (listed k x) t) here c)
  where
    none-there : Contains (listed k Nowhere) t → ⊥
    none-there x = omega (arith, x.1)

moves : (k : Kernel) (t : ℕ) → IsOrderly k → (thread_at k t).state ≡ free → IsOrderlyBut k t
moves k t h e = record {
  order = order_of k h;
  placed = record {
    there = λ u l _ n. h.placed.there u l n;
    nowhere_else = h.placed.nowhere_else;
    unlisted = unlisted k t h e;
    once = h.placed.once;
  };
}

rests : (k : Kernel) (t : ℕ) → IsOrderlyBut k t → spot_of k t ≡ Nowhere → IsOrderly k
rests k t h e = orderly_from k h.order record {
  there = λ u l n. elim (cases_eq u t) [
    | inl q ↦ absurd (n (ap (λ (x : ℕ). spot_of k x) q ∙ e))
    | inr ne ↦ h.placed.there u l ne n
  ];
  nowhere_else = h.placed.nowhere_else;
  once = h.placed.once;
}

abbrev pub register_row : Kernel → (t n v : ℕ) → ThreadRow
register_row k t n v = record (thread_at k t) { regs = set (thread_at k t).regs n v }

pub settled-register : (k : Kernel) (t n v : ℕ) → t < 32 → (thread_at k t).state ≡ free → IsSettledKernel k
    → IsSettledKernel (saved_register k t n v)
settled-register k t n v l e h =
    let old : IsThreadRow (thread_at k t) = h.orderly.rows t l in
    let row : ThreadRow = register_row k t n v in
    let l32 : t < length k.threads = omega (arith, h.orderly.shape.thread_rows) in
    let still : row.state ≡ free = e in
    let fields : IsThreadRow row = record {
      registers = length-set (thread_at k t).regs n v ∙ old.registers;
      state = old.state;
      priority = old.priority;
      waits = old.waits;
      takes = old.takes;
      wakes = old.wakes;
    } in
    let may : MayHave k t row = record {
      fields = fields;
      live = λ u. absurd (u still);
      stays = λ u. u;
      waits = λ x. absurd (omega arith);
    } in
    let now : (thread_at (with_thread k t row) t).state ≡ free =
    ap (λ (x : ThreadRow). x.state) (get_or-set_same k.threads t row _ l32) ∙ e in
    record {
      orderly = rests (with_thread k t row) t (moving_with_row k t row l (moves k t h.orderly e) may) (spot_nowhere _ _ _ now);
      inside = h.inside;
      apart = h.apart;
      apps = h.apps;
      functions = h.functions;
    }

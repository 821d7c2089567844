-- A settled kernel with the functions of a module.
use Rattle.std.proofs.Common.{◌≡◌, ◌≢◌, ℕ, suc, ◌+◌, ◌%◌, ◌<◌, List, [], ◌∷◌, length, get_or, sym, ap, ◌∙◌, subst, inl, inr, arith, length-set}
use Rattle.std.specs.List.{fold}
use Rattle.std.proofs.lemmas.Bool.{cases_eq}
use Rattle.std.proofs.lemmas.List.{get_or-set_same, get_or-set_other}
use Rattle.kernel_model.specs.Kernel.{Kernel, module_at, function_at, free_function}
use Rattle.kernel_model.specs.Words.{free, none}
use Rattle.kernel_model.specs.declared.rows.FnRow.{FnRow}
use Rattle.code_model.specs.declared.parts.Export.{Export}
use Rattle.place_model.specs.Settled.{IsSettledKernel}
use Rattle.load_model.specs.Loading.{with_export}

pub settled_export : (k : Kernel) (i at : ℕ) (e : Export) → IsSettledKernel k → (module_at k i).state ≢ free
    → (at + e.offset) % 2 ≡ 0 → IsSettledKernel (with_export i at k e)
settled_export k i at e h used even = record {
  orderly = record {
    shape = record {
      app_rows = h.orderly.shape.app_rows;
      module_rows = h.orderly.shape.module_rows;
      function_rows = length-set k.functions e.number new ∙ h.orderly.shape.function_rows;
      thread_rows = h.orderly.shape.thread_rows;
      mutex_rows = h.orderly.shape.mutex_rows;
      condition_lists = h.orderly.shape.condition_lists;
      line_lists = h.orderly.shape.line_lists;
    };
    limit = h.orderly.limit;
    top = h.orderly.top;
    rows = h.orderly.rows;
    threads = h.orderly.threads;
    placed = record {
      there = h.orderly.placed.there;
      nowhere_else = λ s. h.orderly.placed.nowhere_else s;
      once = λ s. h.orderly.placed.once s;
    };
    caller = h.orderly.caller;
    callee = h.orderly.callee;
    mutexes = h.orderly.mutexes;
    conditions = h.orderly.conditions;
    by_priority = h.orderly.by_priority;
    by_wake_time = h.orderly.by_wake_time;
    later = h.orderly.later;
    functions = λ f l some. elim (cases_eq f e.number) [
      | inl q ↦ subst (λ (x : FnRow). (module_at k x.module).state ≢ free) (sym (here f l q)) used
      | inr ne ↦ subst (λ (x : FnRow). (module_at k x.module).state ≢ free) (sym (other f ne))
          (h.orderly.functions f l (subst (λ (x : FnRow). x.module ≢ none) (other f ne) some))
    ];
  };
  inside = h.inside;
  apart = h.apart;
  apps = h.apps;
  functions = λ f l. elim (cases_eq f e.number) [
    | inl q ↦ ap (λ (x : FnRow). x.address % 2) (here f l q) ∙ even
    | inr ne ↦ ap (λ (x : FnRow). x.address % 2) (other f ne) ∙ h.functions f l
  ];
}
  where
    new : FnRow
    new = record { «module» = i; address = at + e.offset }

    here : (f : ℕ) → f < 64 → f ≡ e.number → function_at (with_export i at k e) f ≡ new
    here f l q = ap (λ (x : ℕ). function_at (with_export i at k e) x) q
        ∙ get_or-set_same k.functions e.number new free_function (omega (arith, h.orderly.shape.function_rows))

    other : (f : ℕ) → f ≢ e.number → function_at (with_export i at k e) f ≡ function_at k f
    other f ne = get_or-set_other k.functions e.number f new free_function ne

pub settled_exports : (k : Kernel) (i at : ℕ) (es : List Export) → IsSettledKernel k → (module_at k i).state ≢ free → at % 2 ≡ 0
    → ((j : ℕ) (d : Export) → j < length es → (get_or es j d).offset % 2 ≡ 0) → IsSettledKernel (fold (with_export i at) k es)
settled_exports k i at [] h used even offsets = h
settled_exports k i at (e ∷ es) h used even offsets =
    let first : e.offset % 2 ≡ 0 = offsets 0 e (omega arith) in
    settled_exports (with_export i at k e) i at es (settled_export k i at e h used (omega arith)) used even
    (λ j d l. offsets (suc j) d (omega arith))

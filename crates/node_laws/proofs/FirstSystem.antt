-- The system that nothing was placed in.
use Rattle.std.proofs.Common.{◌≡◌, ℕ, zero, suc, ◌<◌, List, [], ◌∷◌, length, get_or, replicate, refl, sym, ap, ◌∙◌, None, Some, arith}
use Rattle.std.specs.List.{AllByRecursion}
use Rattle.std.proofs.lemmas.List.{length-replicate}
use Rattle.flat_mem.specs.Bytes.{patch}
use Rattle.kernel_model.specs.declared.map.TheConstants.{VECTORS}
use Rattle.kernel_model.specs.Kernel.{free_thread, free_app, free_module, free_function, empty_row}
use Rattle.kernel_model.specs.Words.{free}
use Rattle.kernel_model.specs.Layout.{empty}
use Rattle.kernel_model.specs.declared.rows.AppRow.{AppRow}
use Rattle.kernel_model.specs.declared.rows.ModuleRow.{ModuleRow}
use Rattle.kernel_model.specs.declared.rows.FnRow.{FnRow}
use Rattle.load_model.specs.Domains.{Domain}
use Rattle.node_model.specs.Systems.{domain_in}
use Rattle.node_model.specs.Booting.{vectors, first_memory, empty_system}
use Rattle.node_model.specs.Sound.{IsCodeInPlace}
use Rattle.node_model.specs.Laws.{EmptyLaw}
use Rattle.node_laws.proofs.Seeing.{SmallAll, length-patch, small-patch, small-zeros}
use Rattle.node_laws.proofs.Vectors.{vectors-stand}
use Rattle.kernel_model.proofs.EmptyLemmas.{same_row}
use Rattle.node_laws.proofs.EmptyKernel.{empty-settled}

small-list : (xs : List ℕ) → AllByRecursion (λ x. x < 256) xs → (k : ℕ) → get_or xs k 0 < 256
small-list [] h k = omega arith
small-list (x ∷ xs) h zero = h.0
small-list (x ∷ xs) h (suc k) = small-list xs h.1 k

small-vectors : SmallAll vectors
unfolding SmallAll
small-vectors = small-list vectors
    ((
      omega arith,
      (
        omega arith,
        (
          omega arith,
          (
            omega arith,
            (
              omega arith,
              (
                omega arith,
                (
                  omega arith,
                  (
                    omega arith,
                    (
                      omega arith,
                      (
                        omega arith,
                        (
                          omega arith,
                          (
                            omega arith,
                            (
                              omega arith,
                              (
                                omega arith,
                                (
                                  omega arith,
                                  (
                                    omega arith,
                                    (
                                      omega arith,
                                      (
                                        omega arith,
                                        (
                                          omega arith,
                                          (
                                            omega arith,
                                            (
                                              omega arith,
                                              (
                                                omega arith,
                                                (
                                                  omega arith,
                                                  (
                                                    omega arith,
                                                    (omega arith, (omega arith, (omega arith, (omega arith, tt)))),
                                                  ),
                                                ),
                                              ),
                                            ),
                                          ),
                                        ),
                                      ),
                                    ),
                                  ),
                                ),
                              ),
                            ),
                          ),
                        ),
                      ),
                    ),
                  ),
                ),
              ),
            ),
          ),
        ),
      ),
    ))

free-row : (n i : ℕ) → (get_or (replicate n empty_row) i free_thread).state ≡ free
free-row zero i = refl
free-row (suc n) zero = refl
free-row (suc n) (suc i) = free-row n i

nobody-placed : (n : ℕ) (d : Domain) → domain_in (replicate 12 None) n ≡ Some d → ⊥
nobody-placed n d e = (let clash : None ≡ Some d = sym (same_row 12 n None) ∙ e in cc clash)

in-place : (m : List ℕ) → length m ≡ 65536 → SmallAll m → IsCodeInPlace (patch m VECTORS vectors) (replicate 12 None)
unfolding SmallAll
in-place m e small = record {
  memory = record {
    bytes = length-patch m vectors VECTORS 28 refl (omega arith) ∙ e;
    small =
        small-patch m vectors VECTORS small small-vectors;
  };
  code = λ n d f. absurd (nobody-placed n d f);
  vectors = λ n l. vectors-stand m n e l;
}

pub first-loading : EmptyLaw
unfolding empty_system first_memory empty
first-loading = record {
  code = in-place (replicate 65536 0) (length-replicate {A = ℕ} 65536 0) (small-zeros 65536);
  settled = empty-settled;
  domains = record {
    twelve = refl;
    placed = λ n d e. absurd (nobody-placed n d e);
    apps_used = λ a l used. absurd (used (ap (λ (r : AppRow). r.state) (same_row 8 a free_app)));
    modules_used = λ i l used. absurd (used (ap (λ (r : ModuleRow). r.state) (same_row 4 i free_module)));
  };
  functions = λ f l some. absurd (some (ap (λ (r : FnRow). r.module) (same_row 64 f free_function)));
  none_runs = record { no_thread = refl; no_module = refl };
  unborn = λ t l. free-row 32 t;
  entries = λ a d l e. absurd (nobody-placed a d e);
  all_live = λ a l used. absurd (used (ap (λ (r : AppRow). r.state) (same_row 8 a free_app)));
  fresh = (refl, refl, refl);
  made = refl;
}

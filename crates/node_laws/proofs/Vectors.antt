-- The vectors of the first memory.
use Rattle.std.proofs.Common.{◌≡◌, ℕ, zero, suc, ◌+◌, ◌*◌, ◌<◌, List, ◌++◌, length, get_or, take, drop, refl, sym, ap, ◌∙◌, arith, length-take}
use Rattle.std.proofs.lemmas.List.{get_or-append-add, get_or_append_left}
use Rattle.flat_mem.specs.Bytes.{patch}
use Rattle.machine_model.specs.Memory.{word_at, even}
use Rattle.node_model.specs.Booting.{vectors}
use Rattle.kernel_model.specs.declared.map.TheConstants.{FIRST_ROUTINE, VECTORS}

in-vectors : (m : List ℕ) (j : ℕ) → length m ≡ 65536 → j < 28
    → get_or (patch m VECTORS vectors) (VECTORS + j) 0 ≡ get_or vectors j 0
unfolding patch
in-vectors m j e l =
    let size : length (take VECTORS m) ≡ VECTORS = omega (arith, length-take VECTORS m) in
    ap (λ (n : ℕ). get_or (take VECTORS m ++ (vectors ++ drop (VECTORS + length vectors) m)) (n + j) 0) (sym size)
    ∙ get_or-append-add (take VECTORS m) (vectors ++ drop (VECTORS + length vectors) m) j 0
    ∙ get_or_append_left vectors (drop (VECTORS + length vectors) m) 0 j l

of-vectors : (n : ℕ) → n < 14 → get_or vectors (2 * n) 0 + 256 * get_or vectors (2 * n + 1) 0 ≡ FIRST_ROUTINE + 2 * n
of-vectors zero h = refl
of-vectors (suc zero) h = refl
of-vectors (suc (suc zero)) h = refl
of-vectors (suc (suc (suc zero))) h = refl
of-vectors (suc (suc (suc (suc zero)))) h = refl
of-vectors (suc (suc (suc (suc (suc zero))))) h = refl
of-vectors (suc (suc (suc (suc (suc (suc zero)))))) h = refl
of-vectors (suc (suc (suc (suc (suc (suc (suc zero))))))) h = refl
of-vectors (suc (suc (suc (suc (suc (suc (suc (suc zero)))))))) h = refl
of-vectors (suc (suc (suc (suc (suc (suc (suc (suc (suc zero))))))))) h = refl
of-vectors (suc (suc (suc (suc (suc (suc (suc (suc (suc (suc zero)))))))))) h = refl
of-vectors (suc (suc (suc (suc (suc (suc (suc (suc (suc (suc (suc zero))))))))))) h = refl
of-vectors (suc (suc (suc (suc (suc (suc (suc (suc (suc (suc (suc (suc zero)))))))))))) h = refl
of-vectors (suc (suc (suc (suc (suc (suc (suc (suc (suc (suc (suc (suc (suc zero))))))))))))) h = refl
of-vectors (suc (suc (suc (suc (suc (suc (suc (suc (suc (suc (suc (suc (suc (suc n)))))))))))))) h = absurd (omega arith)

pub vectors-stand : (m : List ℕ) (n : ℕ) → length m ≡ 65536 → n < 14
    → word_at (patch m VECTORS vectors) (VECTORS + 2 * n) ≡ FIRST_ROUTINE + 2 * n
unfolding word_at
vectors-stand m n e l =
    let at : even (VECTORS + 2 * n) ≡ VECTORS + 2 * n = omega arith in
    let low : get_or (patch m VECTORS vectors) (VECTORS + 2 * n) 0 ≡ get_or vectors (2 * n) 0 =
    in-vectors m (2 * n) e (omega arith) in
    let high : get_or (patch m VECTORS vectors) (VECTORS + (2 * n + 1)) 0 ≡ get_or vectors (2 * n + 1) 0 =
    in-vectors m (2 * n + 1) e (omega arith) in
    let there : get_or (patch m VECTORS vectors) (VECTORS + 2 * n + 1) 0 ≡ get_or vectors (2 * n + 1) 0 =
    (let same : VECTORS + 2 * n + 1 ≡ VECTORS + (2 * n + 1) = omega arith in
    ap (λ (a : ℕ). get_or (patch m VECTORS vectors) a 0) same ∙ high) in
    ap (λ (a : ℕ). get_or (patch m VECTORS vectors) a 0 + 256 * get_or (patch m VECTORS vectors) (a + 1) 0) at
    ∙ ap (λ (b : ℕ). b + 256 * get_or (patch m VECTORS vectors) (VECTORS + 2 * n + 1) 0) low
    ∙ ap (λ (b : ℕ). get_or vectors (2 * n) 0 + 256 * b) there
    ∙ of-vectors n l

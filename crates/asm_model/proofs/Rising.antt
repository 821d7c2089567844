-- Relocations and exports that rise.
use Rattle.std.proofs.Common.{◌≡◌, ℕ, zero, suc, ◌+◌, ◌*◌, ◌%◌, ◌<◌, ◌≤◌, Bool, true, false, List, [], ◌∷◌, ◌++◌, length, Option, Some, None, slice_index_or, refl, sym, subst, arith}
use Rattle.code_model.specs.declared.parts.RelKind.{RelKind}
use Rattle.code_model.specs.declared.parts.Reloc.{Reloc}
use Rattle.code_model.specs.declared.parts.Export.{Export}
use Rattle.code_model.specs.Form.{kind_code, key, InOrder, NumbersRise, RelocFits}
use Rattle.asm_model.specs.SecondPass.{relocation_at}

-- relocations of one section, each at an even offset that is 2 or more behind the one before, between these offsets
pub record Here (b : Bool) (low : ℕ) (r : Reloc) : Type 0 where
  pub least : low ≤ r.offset
  pub even : r.offset % 2 ≡ 0
  pub section : r.in_code ≡ b
  pub of_data : b ≡ false → kind_code r.kind ≤ 2

abbrev pub Rising : Bool → (low high : ℕ) → List Reloc → Type 0
Rising b low high [] = low ≤ high
Rising b low high (r ∷ rs) = Here b low r × Rising b (r.offset + 2) high rs

pub rising_from : (b : Bool) (low more high : ℕ) (rs : List Reloc) → low ≤ more → Rising b more high rs → Rising b low high rs
rising_from b low more high [] le h = omega arith
rising_from b low more high (r ∷ rs) le h = (record { least = omega (arith, h.0.least); even = h.0.even; section = h.0.section; of_data = h.0.of_data }, h.1)

pub rising_append : (b : Bool) (rs ss : List Reloc) (low mid high : ℕ) → Rising b low mid rs → Rising b mid high ss → Rising b low high (rs ++ ss)
rising_append b [] ss low mid high h k = rising_from b low mid high ss h k
rising_append b (r ∷ rs) ss low mid high h k = (h.0, rising_append b rs ss (r.offset + 2) mid high h.1 k)

pub rising_count : (b : Bool) (rs : List Reloc) (low high : ℕ) → Rising b low high rs → low + 2 * length rs ≤ high
rising_count b [] low high h = omega (arith, h)
rising_count b (r ∷ rs) low high h = let k : (r.offset + 2) + 2 * length rs ≤ high = rising_count b rs (r.offset + 2) high h.1 in omega (arith, h.0.least, k)

-- the relocation of one word
pub rising_one : (b : Bool) (at high : ℕ) (o : Option RelKind) → at % 2 ≡ 0 → at + 2 ≤ high → ((k : RelKind) → o ≡ Some k → b ≡ false → kind_code k ≤ 2) → Rising b at high (relocation_at b at o)
rising_one b at high None even le kinds = omega arith
rising_one b at high (Some k) even le kinds = (record { least = omega arith; even = even; section = refl; of_data = kinds k refl }, le)

-- ---- by index

abbrev pub AllFit : (code init : List ℕ) → ℕ → List Reloc → Type 0
AllFit code init low [] = Unit {0}
AllFit code init low (r ∷ rs) = (low ≤ key r) × RelocFits code init r × AllFit code init (key r + 1) rs

fit_from : (code init : List ℕ) (low more : ℕ) (rs : List Reloc) → low ≤ more → AllFit code init more rs → AllFit code init low rs
fit_from code init low more [] le h = tt
fit_from code init low more (r ∷ rs) le h = (omega (arith, h.0), h.1, h.2)

code_key : (r : Reloc) → r.in_code ≡ true → key r ≡ r.offset
code_key r e = rw e refl

data_key : (r : Reloc) → r.in_code ≡ false → key r ≡ r.offset + 65536
data_key r e = rw e refl

not_both : (b : Bool) → b ≡ true → b ≡ false → ⊥
not_both b h k = cc

pub data_fit : (code init : List ℕ) (rs : List Reloc) (low high : ℕ) → Rising false low high rs → high ≤ length init → AllFit code init (low + 65536) rs
data_fit code init [] low high h le = tt
data_fit code init (r ∷ rs) low high h le =
    let key_is : key r ≡ r.offset + 65536 = data_key r h.0.section in
    let count : (r.offset + 2) + 2 * length rs ≤ high = rising_count false rs (r.offset + 2) high h.1 in
    let next : AllFit code init ((r.offset + 2) + 65536) rs = data_fit code init rs (r.offset + 2) high h.1 le in (
      omega (arith, key_is, h.0.least),
      record { even = h.0.even; in_code = λ e. absurd (not_both r.in_code e h.0.section); in_init = λ e. omega (arith, count, le); init_kind = λ e. h.0.of_data refl },
      fit_from code init (key r + 1) ((r.offset + 2) + 65536) rs (omega (arith, key_is)) next,
    )

pub code_fit : (code init : List ℕ) (rs rest : List Reloc) (low high : ℕ) → Rising true low high rs → high ≤ 2 * length code → high ≤ 65536 → AllFit code init 65536 rest → AllFit code init low (rs ++ rest)
code_fit code init [] rest low high h le most k = fit_from code init low 65536 rest (omega (arith, h)) k
code_fit code init (r ∷ rs) rest low high h le most k =
    let key_is : key r ≡ r.offset = code_key r h.0.section in
    let count : (r.offset + 2) + 2 * length rs ≤ high = rising_count true rs (r.offset + 2) high h.1 in
    let next : AllFit code init (r.offset + 2) (rs ++ rest) = code_fit code init rs rest (r.offset + 2) high h.1 le most k in (
      omega (arith, key_is, h.0.least),
      record { even = h.0.even; in_code = λ e. omega (arith, count, le); in_init = λ e. absurd (not_both r.in_code h.0.section e); init_kind = λ e. absurd (not_both r.in_code h.0.section e) },
      fit_from code init (key r + 1) (r.offset + 2) (rs ++ rest) (omega (arith, key_is)) next,
    )

pub fit_at : (code init : List ℕ) (rs : List Reloc) (low k : ℕ) (d : Reloc) → AllFit code init low rs → k < length rs → RelocFits code init (slice_index_or rs k d)
fit_at code init [] low k d h below = absurd (omega (arith, below))
fit_at code init (r ∷ rs) low zero d h below = h.1
fit_at code init (r ∷ rs) low (suc k) d h below = fit_at code init rs (key r + 1) k d h.2 (omega (arith, below))

key_from : (code init : List ℕ) (rs : List Reloc) (low k : ℕ) (d : Reloc) → AllFit code init low rs → k < length rs → low ≤ key (slice_index_or rs k d)
key_from code init [] low k d h below = absurd (omega (arith, below))
key_from code init (r ∷ rs) low zero d h below = h.0
key_from code init (r ∷ rs) low (suc k) d h below =
    let next : key r + 1 ≤ key (slice_index_or rs k d) = key_from code init rs (key r + 1) k d h.2 (omega (arith, below)) in
    omega (arith, next, h.0)

pub fit_rises : (code init : List ℕ) (rs : List Reloc) (low : ℕ) → AllFit code init low rs → InOrder rs
fit_rises code init [] low h j k d less below = absurd (omega (arith, below))
fit_rises code init (r ∷ rs) low h j zero d less below = absurd (omega (arith, less))
fit_rises code init (r ∷ rs) low h zero (suc k) d less below =
    let next : key r + 1 ≤ key (slice_index_or rs k d) = key_from code init rs (key r + 1) k d h.2 (omega (arith, below)) in
    omega (arith, next)
fit_rises code init (r ∷ rs) low h (suc j) (suc k) d less below = fit_rises code init rs (key r + 1) h.2 j k d (omega (arith, less)) (omega (arith, below))

-- ---- exports

-- exports whose numbers rise from one number to below another, and which lead into the code
pub record Leads (code low : ℕ) (e : Export) : Type 0 where
  pub least : low ≤ e.number
  pub most : e.number ≤ 63
  pub even : e.offset % 2 ≡ 0
  pub below : e.offset < 2 * code

abbrev pub ExportsRise : (code low high : ℕ) → List Export → Type 0
ExportsRise code low high [] = low ≡ high
ExportsRise code low high (e ∷ es) = Leads code low e × ExportsRise code (e.number + 1) high es

pub exports_append : (code : ℕ) (es fs : List Export) (low mid high : ℕ) → ExportsRise code low mid es → ExportsRise code mid high fs → ExportsRise code low high (es ++ fs)
exports_append code [] fs low mid high h k = subst (λ (n : ℕ). ExportsRise code n high fs) (sym h) k
exports_append code (e ∷ es) fs low mid high h k = (h.0, exports_append code es fs (e.number + 1) mid high h.1 k)

pub exports_count : (code : ℕ) (es : List Export) (low high : ℕ) → low ≤ 64 → ExportsRise code low high es → low + length es ≤ 64
exports_count code [] low high le h = omega (arith, le)
exports_count code (e ∷ es) low high le h =
    let next : (e.number + 1) + length es ≤ 64 = exports_count code es (e.number + 1) high (omega (arith, h.0.most)) h.1 in
    omega (arith, next, h.0.least)

pub export_leads : (code : ℕ) (es : List Export) (low high k : ℕ) (d : Export) → ExportsRise code low high es → k < length es → Leads code low (slice_index_or es k d)
export_leads code [] low high k d h below = absurd (omega (arith, below))
export_leads code (e ∷ es) low high zero d h below = h.0
export_leads code (e ∷ es) low high (suc k) d h below =
    let next = export_leads code es (e.number + 1) high k d h.1 (omega (arith, below)) in
    record { least = omega (arith, next.least, h.0.least); most = next.most; even = next.even; below = next.below }

pub exports_rise : (code : ℕ) (es : List Export) (low high : ℕ) → ExportsRise code low high es → NumbersRise es
exports_rise code [] low high h j k d less below = absurd (omega (arith, below))
exports_rise code (e ∷ es) low high h j zero d less below = absurd (omega (arith, less))
exports_rise code (e ∷ es) low high h zero (suc k) d less below =
    let next = export_leads code es (e.number + 1) high k d h.1 (omega (arith, below)) in
    omega (arith, next.least)
exports_rise code (e ∷ es) low high h (suc j) (suc k) d less below = exports_rise code es (e.number + 1) high h.1 j k d (omega (arith, less)) (omega (arith, below))

-- A memory whose thread rows and queues were written anew.
use Rattle.std.proofs.Common.{◌≡◌, ◌≢◌, ℕ, ◌+◌, ◌-◌, ◌*◌, ◌<◌, ◌≤◌, List, [], ◌∷◌, ◌++◌, length, get_or, refl, ap, sym, ◌∙◌, subst, arith, ◌⊎◌, ⊎_elim, inl, inr}
use Rattle.std.proofs.lemmas.Bool.{cases_eq}
use Rattle.kernel_model.specs.declared.map.TheConstants.{TABLES_END}
use Rattle.kernel_model.specs.Bytes.{part, words_of, before_none, rows}
use Rattle.kernel_model.specs.Kernel.{Kernel, free_thread}
use Rattle.kernel_model.specs.Links.{gathered}
use Rattle.kernel_model.specs.Layout.{written, tables, nth, kernel_in, kernel_of, IsLaidOut, outside, app_read, module_read, function_read, thread_read, mutex_read, thread_bytes, links_of, walked, Fits}
use Rattle.kernel_model.specs.Queues.{HasQueues, HasQueueBytes, Leaves}
use Rattle.kernel_model.specs.declared.rows.ThreadRow.{ThreadRow}
use Rattle.kernel_model.proofs.LayoutLemmas.{same_kernel, threads_back, ready_back, sleepers_back, front_laid, link_laid}
use Rattle.kernel_model.proofs.StandLemmas.{rows_back, table_row_byte}
use Rattle.kernel_tables.proofs.Patches.{part_same}

-- a byte in neither the queues' ends nor the threads' rows
abbrev pub Elsewhere : ℕ → Type 0
Elsewhere a = (a < 544) ⊎ (((576 ≤ a) × (a < 1056)) ⊎ (2592 ≤ a))

-- the second memory has the first one's bytes elsewhere, and the ends and rows of a kernel
pub record Relaid (m m' : List ℕ) (k : Kernel) : Type 0 where
  pub size : length m' ≡ 65536
  pub same : (a : ℕ) → Elsewhere a → get_or m' a 0 ≡ get_or m a 0
  pub ends : nth (written k) 2 ≡ nth (tables m') 2
  pub rows : nth (written k) 7 ≡ nth (tables m') 7

-- a memory's kernel with other rows and lists
abbrev pub relisted : (m : List ℕ) → List ThreadRow → (ready sleepers : List ℕ) → Kernel
relisted m ts rs ss = record (kernel_of m) { threads = ts; ready = rs; sleepers = ss }

stays : (m m' : List ℕ) (k : Kernel) (a n : ℕ) → length m ≡ 65536 → Relaid m m' k → a + n ≤ 65536 → ((i : ℕ) → i < n → Elsewhere (a + i)) → part m' a n ≡ part m a n
stays m m' k a n e r w h = part_same m m' a n e r.size w (λ i l. r.same (a + i) (h i l))

low : (a n i : ℕ) → a + n ≤ 544 → i < n → Elsewhere (a + i)
low a n i h l = inl (omega arith)

mid : (a n i : ℕ) → 576 ≤ a → a + n ≤ 1056 → i < n → Elsewhere (a + i)
mid a n i h w l = inr (inl (omega arith, omega arith))

high : (a i : ℕ) → 2592 ≤ a → Elsewhere (a + i)
high a i h = inr (inr (omega arith))

relaid_kernel : (m m' : List ℕ) (ts : List ThreadRow) (rs ss : List ℕ) → length m ≡ 65536 → Fits (relisted m ts rs ss) → HasQueues (relisted m ts rs ss)
    → Relaid m m' (relisted m ts rs ss) → kernel_of m' ≡ relisted m ts rs ss
unfolding kernel_of kernel_in tables
relaid_kernel m m' ts rs ss e f q r =
    let k : Kernel = relisted m ts rs ss in
    let es : List ℕ = part m' 544 32 in let rows' : List ℕ = part m' 1056 1536 in
    let stay : (a n : ℕ) → a + n ≤ 65536 → ((i : ℕ) → i < n → Elsewhere (a + i)) → part m' a n ≡ part m a n = λ a n w h. stays m m' k a n e r w h in
    let words : words_of (part m' 512 16) ≡ words_of (part m 512 16) = ap (λ bs. words_of bs) (stay 512 16 (omega arith) (λ i l. low 512 16 i (omega arith) l)) in
    let ready : gathered (walked es rows') 8 ≡ rs =
    ap (λ bs. gathered (walked bs rows') 8) (sym r.ends) ∙ ap (λ bs. gathered (walked (nth (written k) 2) bs) 8) (sym r.rows) ∙ ready_back k f q in
    let sleepers : walked es rows' 8 ≡ ss =
    ap (λ bs. walked bs rows' 8) (sym r.ends) ∙ ap (λ bs. walked (nth (written k) 2) bs 8) (sym r.rows) ∙ sleepers_back k f q in
    let threads : rows thread_read 48 32 rows' ≡ ts =
    ap (λ bs. rows thread_read 48 32 bs) (sym r.rows) ∙ threads_back (links_of ts rs ss) ts (λ s. refl) f.threads f.thread_rows in
    same_kernel words ready sleepers
    (ap (λ bs. rows app_read 16 8 bs) (stay 608 128 (omega arith) (λ i l. mid 608 128 i (omega arith) (omega arith) l)))
    (ap (λ bs. rows module_read 16 4 bs) (stay 736 64 (omega arith) (λ i l. mid 736 64 i (omega arith) (omega arith) l)))
    (ap (λ bs. rows function_read 4 64 bs) (stay 800 256 (omega arith) (λ i l. mid 800 256 i (omega arith) (omega arith) l)))
    threads
    (ap (λ bs. rows mutex_read 8 32 bs) (stay 2592 256 (omega arith) (λ i l. high 2592 i (omega arith))))
    (ap (λ bs. rows before_none 4 32 bs) (stay 2848 128 (omega arith) (λ i l. high 2848 i (omega arith))))
    (ap (λ bs. rows before_none 32 14 bs) (stay 2976 448 (omega arith) (λ i l. high 2976 i (omega arith))))

same_parts : {a b c d e f g h i j k l a' b' c' d' e' f' g' h' i' j' k' l' : List ℕ} → a ≡ a' → b ≡ b' → c ≡ c' → d ≡ d' → e ≡ e' → f ≡ f' → g ≡ g' → h ≡ h' → i ≡ i' → j ≡ j' → k ≡ k' → l ≡ l'
    → a ∷ b ∷ c ∷ d ∷ e ∷ f ∷ g ∷ h ∷ i ∷ j ∷ k ∷ l ∷ [] ≡ a' ∷ b' ∷ c' ∷ d' ∷ e' ∷ f' ∷ g' ∷ h' ∷ i' ∷ j' ∷ k' ∷ l' ∷ []
same_parts e1 e2 e3 e4 e5 e6 e7 e8 e9 e10 e11 e12 = cc

relaid_written : (m m' : List ℕ) (ts : List ThreadRow) (rs ss : List ℕ) → length m ≡ 65536 → Relaid m m' (relisted m ts rs ss) → written (kernel_of m) ≡ tables m → written (relisted m ts rs ss) ≡ tables m'
unfolding tables
relaid_written m m' ts rs ss e r laid =
    let k : Kernel = relisted m ts rs ss in
    let stay : (a n : ℕ) → a + n ≤ 65536 → ((i : ℕ) → i < n → Elsewhere (a + i)) → part m a n ≡ part m' a n = λ a n w h. sym (stays m m' k a n e r w h) in
    let at : (i : ℕ) → nth (written (kernel_of m)) i ≡ nth (tables m) i = λ i. ap (λ ps. nth ps i) laid in
    same_parts
    (at 0 ∙ stay 512 16 (omega arith) (λ i l. low 512 16 i (omega arith) l))
    (at 1 ∙ stay 528 16 (omega arith) (λ i l. low 528 16 i (omega arith) l))
    r.ends
    (at 3 ∙ stay 576 32 (omega arith) (λ i l. mid 576 32 i (omega arith) (omega arith) l))
    (at 4 ∙ stay 608 128 (omega arith) (λ i l. mid 608 128 i (omega arith) (omega arith) l))
    (at 5 ∙ stay 736 64 (omega arith) (λ i l. mid 736 64 i (omega arith) (omega arith) l))
    (at 6 ∙ stay 800 256 (omega arith) (λ i l. mid 800 256 i (omega arith) (omega arith) l))
    r.rows
    (at 8 ∙ stay 2592 256 (omega arith) (λ i l. high 2592 i (omega arith)))
    (at 9 ∙ stay 2848 128 (omega arith) (λ i l. high 2848 i (omega arith)))
    (at 10 ∙ stay 2976 448 (omega arith) (λ i l. high 2976 i (omega arith)))
    (at 11 ∙ stay 3424 672 (omega arith) (λ i l. high 3424 i (omega arith)))

relaid_outside : (m m' : List ℕ) (k : Kernel) → length m ≡ 65536 → Relaid m m' k → outside m' ≡ outside m
unfolding outside
relaid_outside m m' k e r =
    ap (λ bs. bs ++ part m' TABLES_END (65536 - TABLES_END))
    (stays m m' k 0 512 e r (omega arith) (λ i l. low 0 512 i (omega arith) l))
    ∙ ap (λ bs. part m 0 512 ++ bs)
    (stays m m' k TABLES_END (65536 - TABLES_END) e r (omega arith) (λ i l. high TABLES_END i (omega arith)))

relaid_bytes : (m m' : List ℕ) (ts : List ThreadRow) (rs ss : List ℕ) → length m ≡ 65536 → Relaid m m' (relisted m ts rs ss) → kernel_of m' ≡ relisted m ts rs ss → HasQueueBytes m → HasQueueBytes m'
unfolding HasQueueBytes tables
relaid_bytes m m' ts rs ss e r kernel h =
    let k : Kernel = relisted m ts rs ss in (
      ap (λ j. nth (written j) 2) kernel ∙ r.ends,
      (
        ap (λ j. nth (written j) 3) kernel ∙ h.1.0 ∙ sym (stays m m' k 576 32 e r (omega arith) (λ i l. mid 576 32 i (omega arith) (omega arith) l)),
        ap (λ j. nth (written j) 7) kernel ∙ r.rows,
      ),
    )

pub leaves_relaid : (m m' : List ℕ) (ts : List ThreadRow) (rs ss : List ℕ) → length m ≡ 65536 → Fits (relisted m ts rs ss) → HasQueues (relisted m ts rs ss)
    → Relaid m m' (relisted m ts rs ss) → Leaves m m' (relisted m ts rs ss)
unfolding IsLaidOut
leaves_relaid m m' ts rs ss e f q r =
    let kernel : kernel_of m' ≡ relisted m ts rs ss = relaid_kernel m m' ts rs ss e f q r in
    record {
      kernel = kernel;
      others = relaid_outside m m' (relisted m ts rs ss) e r;
      laid_out = λ laid. ap (λ j. written j) kernel ∙ relaid_written m m' ts rs ss e r laid;
      queues = λ h. record { bytes = relaid_bytes m m' ts rs ss e r kernel h.bytes; lists = subst (λ j. HasQueues j) (sym kernel) q };
    }

-- ---- one row replaced

-- the bytes of a kernel's rows, from those of another memory's
pub laid_front : (m : List ℕ) (k : Kernel) (t o : ℕ) → Fits k → nth (written k) 7 ≡ nth (tables m) 7 → t < 32 → o < 44 → get_or m (1056 + (48 * t + o)) 0 ≡ get_or (thread_bytes (get_or k.threads t free_thread)) o 0
laid_front m k t o f h l lo = sym (table_row_byte m (48 * t + o) (omega arith)) ∙ ap (λ bs. get_or bs (48 * t + o) 0) (sym h) ∙ front_laid k f t o l lo

laid_link : (m : List ℕ) (k : Kernel) (t j : ℕ) → Fits k → nth (written k) 7 ≡ nth (tables m) 7 → t < 32 → j < 4 → get_or m (1056 + (48 * t + (44 + j))) 0 ≡ get_or (links_of k.threads k.ready k.sleepers t) j 0
laid_link m k t j f h l lj = sym (table_row_byte m (48 * t + (44 + j)) (omega arith)) ∙ ap (λ bs. get_or bs (48 * t + (44 + j)) 0) (sym h) ∙ link_laid k f t j l lj

-- row t has other bytes, and all links stay
pub record Rowed (m m' : List ℕ) (k k' : Kernel) (t : ℕ) : Type 0 where
  pub size : length m' ≡ 65536
  pub fits : Fits k'
  pub bytes : (s o : ℕ) → s < 32 → o < 48 → (s ≡ t → o < 44 → ⊥) → get_or m' (1056 + (48 * s + o)) 0 ≡ get_or m (1056 + (48 * s + o)) 0
  pub others : (s : ℕ) → s < 32 → s ≢ t → get_or k'.threads s free_thread ≡ get_or k.threads s free_thread
  pub own : (o : ℕ) → o < 44 → get_or m' (1056 + (48 * t + o)) 0 ≡ get_or (thread_bytes (get_or k'.threads t free_thread)) o 0
  pub links : (s : ℕ) → s < 32 → links_of k'.threads k'.ready k'.sleepers s ≡ links_of k.threads k.ready k.sleepers s

pub rows_kept : (m m' : List ℕ) (k k' : Kernel) (t : ℕ) → Fits k → nth (written k) 7 ≡ nth (tables m) 7 → Rowed m m' k k' t → nth (written k') 7 ≡ nth (tables m') 7
rows_kept m m' k k' t f h r =
    rows_back m' k' r.size r.fits
    (λ s o l lo. ⊎_elim
    (λ (same : s ≡ t). subst (λ n. get_or m' (1056 + (48 * n + o)) 0 ≡ get_or (thread_bytes (get_or k'.threads n free_thread)) o 0) (sym same) (r.own o lo))
    (λ (other : s ≢ t). r.bytes s o l (omega arith) (λ e w. absurd (other e)) ∙ laid_front m k s o f h l lo ∙ ap (λ row. get_or (thread_bytes row) o 0) (sym (r.others s l other)))
    (cases_eq s t))
    (λ s j l lj. r.bytes s (44 + j) l (omega arith) (λ e w. absurd (omega arith)) ∙ laid_link m k s j f h l lj ∙ ap (λ bs. get_or bs j 0) (sym (r.links s l)))

-- Runs of the four guards.
use Rattle.std.proofs.Common.{◌≡◌, ◌≢◌, ℕ, suc, ◌+◌, ◌*◌, ◌%◌, ◌<◌, ◌≤◌, ◌⊎◌, not, true, false, eqb, leb, List, [], ◌∷◌, length, refl, sym, ap, ◌∙◌, subst, inl, inr, arith}
use Rattle.std.proofs.lemmas.Bool.Decides.{nat_tests}
use Rattle.std.proofs.lemmas.Bool.{cases_lt}
use Rattle.machine_model.specs.Memory.{word_at}
use Rattle.machine_model.specs.Context.{reg}
use Rattle.machine_model.specs.Operands.{sum_of}
use Rattle.machine_model.specs.Alu.{alu}
use Rattle.machine_model.specs.Fetching.{IsFetched}
use Rattle.msp_encode.specs.declared.instr.Instr.{Instr}
use Rattle.msp_encode.specs.declared.instr.Width.TheVariants.{Wide}
use Rattle.msp_encode.specs.declared.instr.Op2.TheVariants.{Add}
use Rattle.msp_encode.specs.declared.instr.Cond.TheVariants.{Ne, Nc, C}
use Rattle.msp_encode.specs.Spelling.{First, words_after}
use Rattle.unit_laws.specs.Running.{held, silent, Runs, Stays, RunsUnit}
use Rattle.unit_laws.specs.Lines.{Line, Saves, Loads, Adds, Compares, ComparesSp, ComparesTop, ComparesNew, ComparesNewTop, Jumps, Branches, Restores, instr_of, words_of, IsIndexed, IsLine, compared, pc_after, sr_after, r4_after, r5_after}
use Rattle.unit_laws.specs.Guards.{store_words, growth_words, pop_words, sp_words, IsAtGuard, Passes, Stops, StoreGuardLaw, GrowthGuardLaw, PopGuardLaw, SpGuardLaw}
use Rattle.machine_model.proofs.Values.{word-small}
use Rattle.unit_laws.proofs.Flags.{compared-tells, IsFlagged, same-self, operation-same, compared-same, compared-flagged}
use Rattle.unit_laws.proofs.Fetched.{fetched-one, fetched-two, first-saves, first-loads, loads-alone, first-adds, first-compares, first-sp, first-top, first-new, first-new_top, first-nc3, first-nc2, first-c2, first-ne2, first-branches, first-restores}
use Rattle.unit_laws.proofs.Contexts.{as_held, compared-small, added-small, line-runs, branch-ends, jump-taken, jump-passed}
use Rattle.kernel_model.specs.declared.map.TheConstants.{STACK_LIMIT, STACK_TOP}
use Rattle.kernel_model.specs.declared.entries.TheConstants.{FIRST_ENTRY, STACK_FAULT, STORE_FAULT}

at_least : (a b : ℕ) → a ≤ b → leb a b ≡ true
at_least a b h = grind (arith, nat_tests, h)

not_least : (a b : ℕ) → b < a → leb a b ≡ false
not_least a b h = grind (arith, nat_tests, h)

equal : (a b : ℕ) → a ≡ b → eqb a b ≡ true
equal a b h = grind (arith, nat_tests, h)

apart : (a b : ℕ) → a ≢ b → eqb a b ≡ false
apart a b h = grind (arith, nat_tests, h)

at-even : (m r : List ℕ) (first past at : ℕ) (ws : List ℕ) → IsAtGuard m r first past at ws → at % 2 ≡ 0
at-even m r first past at ws g = omega (arith, g.pc, g.context.pc_even)

-- the line i bytes behind the guard's first word leads j bytes behind it
line : (m r : List ℕ) (first past at : ℕ) (ws : List ℕ) (g : IsAtGuard m r first past at ws) (l : Line) (i j k sr x y : ℕ) (d : List ℕ) → IsLine l → i % 2 ≡ 0 → 0 < j → i ≤ 2 * length ws → j ≤ 2 * length ws
    → sr < 65536 → x < 65536 → y < 65536 → IsFetched m (at + i) (instr_of l) (words_of l) → pc_after l (at + i) sr ≡ at + j
    → Runs m first past k (held r (at + j) (sr_after l m r sr x y) (r4_after l r x) (r5_after l sr y)) d → Runs m first past (suc k) (held r (at + i) sr x y) d
line m r first past at ws g l i j k sr x y d t e a b c s u w f q rest =
    line-runs l m r first past k (at + i) (at + j) sr x y d g.context t (omega (arith, e, at-even m r first past at ws g)) s u w f q
    (omega (arith, g.begins, a)) (omega (arith, g.within, c)) (omega (arith, g.within, b)) (omega (arith, g.below)) rest

one : (m r : List ℕ) (first past at : ℕ) (ws : List ℕ) (g : IsAtGuard m r first past at ws) (l : Instr) (i w : ℕ) → word_at m (at + i) ≡ w → First l w → words_after l ≡ [] → IsFetched m (at + i) l 1
one m r first past at ws g l i w e f a = fetched-one m (at + i) w l e f a

two : (m r : List ℕ) (first past at : ℕ) (ws : List ℕ) (g : IsAtGuard m r first past at ws) (l : Instr) (i w v : ℕ) → word_at m (at + i) ≡ w → word_at m (at + (i + 2)) ≡ v → i + 2 ≤ 2 * length ws → First l w → words_after l ≡ v ∷ [] → IsFetched m (at + i) l 2
two m r first past at ws g l i w v e h b f a = fetched-two m (at + i) (at + (i + 2)) w v l e h (omega arith) (omega (arith, g.within, g.below, b)) f a

start : (m r : List ℕ) (first past at : ℕ) (ws : List ℕ) (g : IsAtGuard m r first past at ws) (k : ℕ) (d : List ℕ) → Runs m first past k (held r (at + 0) (reg r 2) (reg r 4) (reg r 5)) d → Runs m first past k r d
start m r first past at ws g k d h = subst (λ (q : List ℕ). Runs m first past k q d) (as_held r (at + 0) g.context (omega (arith, g.pc))) h

-- the branch of a guard to an entry
stop : (m r : List ℕ) (first past at : ℕ) (ws : List ℕ) (g : IsAtGuard m r first past at ws) (v i k sr x y : ℕ) → v % 2 ≡ 0 → v < 65536 → FIRST_ENTRY ≤ v → i % 2 ≡ 0 → i ≤ 2 * length ws → sr < 65536 → IsFlagged sr (reg r 2) → x < 65536 → y ≡ reg r 2
    → IsFetched m (at + i) (instr_of (Branches v)) 2 → Runs m first past k r (held r (at + i) sr x y) → Stops m r first past v x
stop m r first past at ws g v i k sr x y t b z e a s c u w f rest =
    let kept = subst (λ (n : ℕ). Runs m first past k r (held r (at + i) sr x n)) w rest in
    let ends = branch-ends v m r first past k (at + i) sr x (reg r 2) r g.context t b (omega (arith, g.below, z)) (omega (arith, e, at-even m r first past at ws g)) (omega (arith, g.within, a)) s u (g.context.small 2) f kept in
    record { flags = c.flags; ends = subst (λ (n : ℕ). RunsUnit m first past r (silent (held r v n x (reg r 2)))) c.is ends }

-- ---- the store guard

store-passes : (m r : List ℕ) (first past at n x lo hi : ℕ) → IsAtGuard m r first past at (store_words n x lo hi) → IsIndexed n → x < 65536 → lo < 65536 → hi < 65536 → lo ≤ (sum_of x (reg r n)) → (sum_of x (reg r n)) < hi → Passes m r first past 8 (at + 26) (sum_of x (reg r n))
store-passes m r first past at n x lo hi g indexed xb lob hib h z = start m r first past at (store_words n x lo hi) g 8 (held r (at + 26) (reg r 2) (sum_of x (reg r n)) (reg r 2))
    (line m r first past at (store_words n x lo hi) g Saves 0 2 7 (reg r 2) (reg r 4) (reg r 5) (held r (at + 26) (reg r 2) (sum_of x (reg r n)) (reg r 2)) tt refl (omega arith) (omega arith) (omega arith) (g.context.small 2) (g.context.small 4) (g.context.small 5)
    (one m r first past at (store_words n x lo hi) g (instr_of Saves) 0 0x4205 g.words.0 first-saves refl) (omega arith)
    (line m r first past at (store_words n x lo hi) g (Loads n) 2 4 6 (reg r 2) (reg r 4) (reg r 2) (held r (at + 26) (reg r 2) (sum_of x (reg r n)) (reg r 2)) indexed refl (omega arith) (omega arith) (omega arith) (g.context.small 2) (g.context.small 4) (g.context.small 2)
    (one m r first past at (store_words n x lo hi) g (instr_of (Loads n)) 2 (0x4004 + 256 * n) g.words.1.0 (first-loads n indexed) (loads-alone n indexed)) (omega arith)
    (line m r first past at (store_words n x lo hi) g (Adds x) 4 8 5 (reg r 2) (reg r n) (reg r 2) (held r (at + 26) (reg r 2) (sum_of x (reg r n)) (reg r 2)) xb refl (omega arith) (omega arith) (omega arith) (g.context.small 2) (g.context.small n) (g.context.small 2)
    (two m r first past at (store_words n x lo hi) g (instr_of (Adds x)) 4 0x5034 x g.words.1.1.0 g.words.1.1.1.0 (omega arith) (first-adds x) refl) (omega arith)
    (line m r first past at (store_words n x lo hi) g (Compares lo) 8 12 4 ((alu Add Wide x (reg r n) (reg r 2)).status) (sum_of x (reg r n)) (reg r 2) (held r (at + 26) (reg r 2) (sum_of x (reg r n)) (reg r 2)) lob refl (omega arith) (omega arith) (omega arith) (added-small x (reg r n) (reg r 2) (g.context.small 2)) (omega arith) (g.context.small 2)
    (two m r first past at (store_words n x lo hi) g (instr_of (Compares lo)) 8 0x9034 lo g.words.1.1.1.1.0 g.words.1.1.1.1.1.0 (omega arith) (first-compares lo) refl) (omega arith)
    (line m r first past at (store_words n x lo hi) g (Jumps Nc 3) 12 14 3 (compared lo (sum_of x (reg r n)) ((alu Add Wide x (reg r n) (reg r 2)).status)) (sum_of x (reg r n)) (reg r 2) (held r (at + 26) (reg r 2) (sum_of x (reg r n)) (reg r 2)) tt refl (omega arith) (omega arith) (omega arith) (compared-small lo (sum_of x (reg r n)) ((alu Add Wide x (reg r n) (reg r 2)).status) (added-small x (reg r n) (reg r 2) (g.context.small 2))) (omega arith) (g.context.small 2)
    (one m r first past at (store_words n x lo hi) g (instr_of (Jumps Nc 3)) 12 0x2803 g.words.1.1.1.1.1.1.0 first-nc3 refl) (jump-passed Nc 3 (at + 12) (compared lo (sum_of x (reg r n)) ((alu Add Wide x (reg r n) (reg r 2)).status)) (ap not ((compared-tells lo (sum_of x (reg r n)) ((alu Add Wide x (reg r n) (reg r 2)).status) lob (omega arith)).least ∙ at_least lo (sum_of x (reg r n)) h)) ∙ omega arith)
    (line m r first past at (store_words n x lo hi) g (Compares hi) 14 18 2 (compared lo (sum_of x (reg r n)) ((alu Add Wide x (reg r n) (reg r 2)).status)) (sum_of x (reg r n)) (reg r 2) (held r (at + 26) (reg r 2) (sum_of x (reg r n)) (reg r 2)) hib refl (omega arith) (omega arith) (omega arith) (compared-small lo (sum_of x (reg r n)) ((alu Add Wide x (reg r n) (reg r 2)).status) (added-small x (reg r n) (reg r 2) (g.context.small 2))) (omega arith) (g.context.small 2)
    (two m r first past at (store_words n x lo hi) g (instr_of (Compares hi)) 14 0x9034 hi g.words.1.1.1.1.1.1.1.0 g.words.1.1.1.1.1.1.1.1.0 (omega arith) (first-compares hi) refl) (omega arith)
    (line m r first past at (store_words n x lo hi) g (Jumps Nc 2) 18 24 1 (compared hi (sum_of x (reg r n)) (compared lo (sum_of x (reg r n)) ((alu Add Wide x (reg r n) (reg r 2)).status))) (sum_of x (reg r n)) (reg r 2) (held r (at + 26) (reg r 2) (sum_of x (reg r n)) (reg r 2)) tt refl (omega arith) (omega arith) (omega arith) (compared-small hi (sum_of x (reg r n)) (compared lo (sum_of x (reg r n)) ((alu Add Wide x (reg r n) (reg r 2)).status)) (compared-small lo (sum_of x (reg r n)) ((alu Add Wide x (reg r n) (reg r 2)).status) (added-small x (reg r n) (reg r 2) (g.context.small 2)))) (omega arith) (g.context.small 2)
    (one m r first past at (store_words n x lo hi) g (instr_of (Jumps Nc 2)) 18 0x2802 g.words.1.1.1.1.1.1.1.1.1.0 first-nc2 refl) (jump-taken Nc 2 (at + 18) (compared hi (sum_of x (reg r n)) (compared lo (sum_of x (reg r n)) ((alu Add Wide x (reg r n) (reg r 2)).status))) (ap not ((compared-tells hi (sum_of x (reg r n)) (compared lo (sum_of x (reg r n)) ((alu Add Wide x (reg r n) (reg r 2)).status)) hib (omega arith)).least ∙ not_least hi (sum_of x (reg r n)) z)) ∙ omega arith)
    (line m r first past at (store_words n x lo hi) g Restores 24 26 0 (compared hi (sum_of x (reg r n)) (compared lo (sum_of x (reg r n)) ((alu Add Wide x (reg r n) (reg r 2)).status))) (sum_of x (reg r n)) (reg r 2) (held r (at + 26) (reg r 2) (sum_of x (reg r n)) (reg r 2)) tt refl (omega arith) (omega arith) (omega arith) (compared-small hi (sum_of x (reg r n)) (compared lo (sum_of x (reg r n)) ((alu Add Wide x (reg r n) (reg r 2)).status)) (compared-small lo (sum_of x (reg r n)) ((alu Add Wide x (reg r n) (reg r 2)).status) (added-small x (reg r n) (reg r 2) (g.context.small 2)))) (omega arith) (g.context.small 2)
    (one m r first past at (store_words n x lo hi) g (instr_of Restores) 24 0x4502 g.words.1.1.1.1.1.1.1.1.1.1.1.1.0 first-restores refl) (omega arith)
    (Stays _)))))))))

store-below : (m r : List ℕ) (first past at n x lo hi : ℕ) → IsAtGuard m r first past at (store_words n x lo hi) → IsIndexed n → x < 65536 → lo < 65536 → hi < 65536 → (sum_of x (reg r n)) < lo → Stops m r first past STORE_FAULT (sum_of x (reg r n))
store-below m r first past at n x lo hi g indexed xb lob hib h = stop m r first past at (store_words n x lo hi) g STORE_FAULT 20 5 (compared lo (sum_of x (reg r n)) ((alu Add Wide x (reg r n) (reg r 2)).status)) (sum_of x (reg r n)) (reg r 2) refl (omega arith) (omega arith) refl (omega arith) (compared-small lo (sum_of x (reg r n)) ((alu Add Wide x (reg r n) (reg r 2)).status) (added-small x (reg r n) (reg r 2) (g.context.small 2))) (compared-flagged lo (sum_of x (reg r n)) ((alu Add Wide x (reg r n) (reg r 2)).status) (reg r 2) (operation-same Add Wide x (reg r n) (reg r 2))) (omega arith) refl (two m r first past at (store_words n x lo hi) g (instr_of (Branches STORE_FAULT)) 20 0x4030 STORE_FAULT g.words.1.1.1.1.1.1.1.1.1.1.0 g.words.1.1.1.1.1.1.1.1.1.1.1.0 (omega arith) (first-branches STORE_FAULT) refl)
    (start m r first past at (store_words n x lo hi) g 5 (held r (at + 20) (compared lo (sum_of x (reg r n)) ((alu Add Wide x (reg r n) (reg r 2)).status)) (sum_of x (reg r n)) (reg r 2))
    (line m r first past at (store_words n x lo hi) g Saves 0 2 4 (reg r 2) (reg r 4) (reg r 5) (held r (at + 20) (compared lo (sum_of x (reg r n)) ((alu Add Wide x (reg r n) (reg r 2)).status)) (sum_of x (reg r n)) (reg r 2)) tt refl (omega arith) (omega arith) (omega arith) (g.context.small 2) (g.context.small 4) (g.context.small 5)
    (one m r first past at (store_words n x lo hi) g (instr_of Saves) 0 0x4205 g.words.0 first-saves refl) (omega arith)
    (line m r first past at (store_words n x lo hi) g (Loads n) 2 4 3 (reg r 2) (reg r 4) (reg r 2) (held r (at + 20) (compared lo (sum_of x (reg r n)) ((alu Add Wide x (reg r n) (reg r 2)).status)) (sum_of x (reg r n)) (reg r 2)) indexed refl (omega arith) (omega arith) (omega arith) (g.context.small 2) (g.context.small 4) (g.context.small 2)
    (one m r first past at (store_words n x lo hi) g (instr_of (Loads n)) 2 (0x4004 + 256 * n) g.words.1.0 (first-loads n indexed) (loads-alone n indexed)) (omega arith)
    (line m r first past at (store_words n x lo hi) g (Adds x) 4 8 2 (reg r 2) (reg r n) (reg r 2) (held r (at + 20) (compared lo (sum_of x (reg r n)) ((alu Add Wide x (reg r n) (reg r 2)).status)) (sum_of x (reg r n)) (reg r 2)) xb refl (omega arith) (omega arith) (omega arith) (g.context.small 2) (g.context.small n) (g.context.small 2)
    (two m r first past at (store_words n x lo hi) g (instr_of (Adds x)) 4 0x5034 x g.words.1.1.0 g.words.1.1.1.0 (omega arith) (first-adds x) refl) (omega arith)
    (line m r first past at (store_words n x lo hi) g (Compares lo) 8 12 1 ((alu Add Wide x (reg r n) (reg r 2)).status) (sum_of x (reg r n)) (reg r 2) (held r (at + 20) (compared lo (sum_of x (reg r n)) ((alu Add Wide x (reg r n) (reg r 2)).status)) (sum_of x (reg r n)) (reg r 2)) lob refl (omega arith) (omega arith) (omega arith) (added-small x (reg r n) (reg r 2) (g.context.small 2)) (omega arith) (g.context.small 2)
    (two m r first past at (store_words n x lo hi) g (instr_of (Compares lo)) 8 0x9034 lo g.words.1.1.1.1.0 g.words.1.1.1.1.1.0 (omega arith) (first-compares lo) refl) (omega arith)
    (line m r first past at (store_words n x lo hi) g (Jumps Nc 3) 12 20 0 (compared lo (sum_of x (reg r n)) ((alu Add Wide x (reg r n) (reg r 2)).status)) (sum_of x (reg r n)) (reg r 2) (held r (at + 20) (compared lo (sum_of x (reg r n)) ((alu Add Wide x (reg r n) (reg r 2)).status)) (sum_of x (reg r n)) (reg r 2)) tt refl (omega arith) (omega arith) (omega arith) (compared-small lo (sum_of x (reg r n)) ((alu Add Wide x (reg r n) (reg r 2)).status) (added-small x (reg r n) (reg r 2) (g.context.small 2))) (omega arith) (g.context.small 2)
    (one m r first past at (store_words n x lo hi) g (instr_of (Jumps Nc 3)) 12 0x2803 g.words.1.1.1.1.1.1.0 first-nc3 refl) (jump-taken Nc 3 (at + 12) (compared lo (sum_of x (reg r n)) ((alu Add Wide x (reg r n) (reg r 2)).status)) (ap not ((compared-tells lo (sum_of x (reg r n)) ((alu Add Wide x (reg r n) (reg r 2)).status) lob (omega arith)).least ∙ not_least lo (sum_of x (reg r n)) h)) ∙ omega arith)
    (Stays _)))))))

store-above : (m r : List ℕ) (first past at n x lo hi : ℕ) → IsAtGuard m r first past at (store_words n x lo hi) → IsIndexed n → x < 65536 → lo < 65536 → hi < 65536 → lo ≤ (sum_of x (reg r n)) → hi ≤ (sum_of x (reg r n)) → Stops m r first past STORE_FAULT (sum_of x (reg r n))
store-above m r first past at n x lo hi g indexed xb lob hib h z = stop m r first past at (store_words n x lo hi) g STORE_FAULT 20 7 (compared hi (sum_of x (reg r n)) (compared lo (sum_of x (reg r n)) ((alu Add Wide x (reg r n) (reg r 2)).status))) (sum_of x (reg r n)) (reg r 2) refl (omega arith) (omega arith) refl (omega arith) (compared-small hi (sum_of x (reg r n)) (compared lo (sum_of x (reg r n)) ((alu Add Wide x (reg r n) (reg r 2)).status)) (compared-small lo (sum_of x (reg r n)) ((alu Add Wide x (reg r n) (reg r 2)).status) (added-small x (reg r n) (reg r 2) (g.context.small 2)))) (compared-flagged hi (sum_of x (reg r n)) (compared lo (sum_of x (reg r n)) ((alu Add Wide x (reg r n) (reg r 2)).status)) (reg r 2) (compared-same lo (sum_of x (reg r n)) ((alu Add Wide x (reg r n) (reg r 2)).status) (reg r 2) (operation-same Add Wide x (reg r n) (reg r 2)))) (omega arith) refl (two m r first past at (store_words n x lo hi) g (instr_of (Branches STORE_FAULT)) 20 0x4030 STORE_FAULT g.words.1.1.1.1.1.1.1.1.1.1.0 g.words.1.1.1.1.1.1.1.1.1.1.1.0 (omega arith) (first-branches STORE_FAULT) refl)
    (start m r first past at (store_words n x lo hi) g 7 (held r (at + 20) (compared hi (sum_of x (reg r n)) (compared lo (sum_of x (reg r n)) ((alu Add Wide x (reg r n) (reg r 2)).status))) (sum_of x (reg r n)) (reg r 2))
    (line m r first past at (store_words n x lo hi) g Saves 0 2 6 (reg r 2) (reg r 4) (reg r 5) (held r (at + 20) (compared hi (sum_of x (reg r n)) (compared lo (sum_of x (reg r n)) ((alu Add Wide x (reg r n) (reg r 2)).status))) (sum_of x (reg r n)) (reg r 2)) tt refl (omega arith) (omega arith) (omega arith) (g.context.small 2) (g.context.small 4) (g.context.small 5)
    (one m r first past at (store_words n x lo hi) g (instr_of Saves) 0 0x4205 g.words.0 first-saves refl) (omega arith)
    (line m r first past at (store_words n x lo hi) g (Loads n) 2 4 5 (reg r 2) (reg r 4) (reg r 2) (held r (at + 20) (compared hi (sum_of x (reg r n)) (compared lo (sum_of x (reg r n)) ((alu Add Wide x (reg r n) (reg r 2)).status))) (sum_of x (reg r n)) (reg r 2)) indexed refl (omega arith) (omega arith) (omega arith) (g.context.small 2) (g.context.small 4) (g.context.small 2)
    (one m r first past at (store_words n x lo hi) g (instr_of (Loads n)) 2 (0x4004 + 256 * n) g.words.1.0 (first-loads n indexed) (loads-alone n indexed)) (omega arith)
    (line m r first past at (store_words n x lo hi) g (Adds x) 4 8 4 (reg r 2) (reg r n) (reg r 2) (held r (at + 20) (compared hi (sum_of x (reg r n)) (compared lo (sum_of x (reg r n)) ((alu Add Wide x (reg r n) (reg r 2)).status))) (sum_of x (reg r n)) (reg r 2)) xb refl (omega arith) (omega arith) (omega arith) (g.context.small 2) (g.context.small n) (g.context.small 2)
    (two m r first past at (store_words n x lo hi) g (instr_of (Adds x)) 4 0x5034 x g.words.1.1.0 g.words.1.1.1.0 (omega arith) (first-adds x) refl) (omega arith)
    (line m r first past at (store_words n x lo hi) g (Compares lo) 8 12 3 ((alu Add Wide x (reg r n) (reg r 2)).status) (sum_of x (reg r n)) (reg r 2) (held r (at + 20) (compared hi (sum_of x (reg r n)) (compared lo (sum_of x (reg r n)) ((alu Add Wide x (reg r n) (reg r 2)).status))) (sum_of x (reg r n)) (reg r 2)) lob refl (omega arith) (omega arith) (omega arith) (added-small x (reg r n) (reg r 2) (g.context.small 2)) (omega arith) (g.context.small 2)
    (two m r first past at (store_words n x lo hi) g (instr_of (Compares lo)) 8 0x9034 lo g.words.1.1.1.1.0 g.words.1.1.1.1.1.0 (omega arith) (first-compares lo) refl) (omega arith)
    (line m r first past at (store_words n x lo hi) g (Jumps Nc 3) 12 14 2 (compared lo (sum_of x (reg r n)) ((alu Add Wide x (reg r n) (reg r 2)).status)) (sum_of x (reg r n)) (reg r 2) (held r (at + 20) (compared hi (sum_of x (reg r n)) (compared lo (sum_of x (reg r n)) ((alu Add Wide x (reg r n) (reg r 2)).status))) (sum_of x (reg r n)) (reg r 2)) tt refl (omega arith) (omega arith) (omega arith) (compared-small lo (sum_of x (reg r n)) ((alu Add Wide x (reg r n) (reg r 2)).status) (added-small x (reg r n) (reg r 2) (g.context.small 2))) (omega arith) (g.context.small 2)
    (one m r first past at (store_words n x lo hi) g (instr_of (Jumps Nc 3)) 12 0x2803 g.words.1.1.1.1.1.1.0 first-nc3 refl) (jump-passed Nc 3 (at + 12) (compared lo (sum_of x (reg r n)) ((alu Add Wide x (reg r n) (reg r 2)).status)) (ap not ((compared-tells lo (sum_of x (reg r n)) ((alu Add Wide x (reg r n) (reg r 2)).status) lob (omega arith)).least ∙ at_least lo (sum_of x (reg r n)) h)) ∙ omega arith)
    (line m r first past at (store_words n x lo hi) g (Compares hi) 14 18 1 (compared lo (sum_of x (reg r n)) ((alu Add Wide x (reg r n) (reg r 2)).status)) (sum_of x (reg r n)) (reg r 2) (held r (at + 20) (compared hi (sum_of x (reg r n)) (compared lo (sum_of x (reg r n)) ((alu Add Wide x (reg r n) (reg r 2)).status))) (sum_of x (reg r n)) (reg r 2)) hib refl (omega arith) (omega arith) (omega arith) (compared-small lo (sum_of x (reg r n)) ((alu Add Wide x (reg r n) (reg r 2)).status) (added-small x (reg r n) (reg r 2) (g.context.small 2))) (omega arith) (g.context.small 2)
    (two m r first past at (store_words n x lo hi) g (instr_of (Compares hi)) 14 0x9034 hi g.words.1.1.1.1.1.1.1.0 g.words.1.1.1.1.1.1.1.1.0 (omega arith) (first-compares hi) refl) (omega arith)
    (line m r first past at (store_words n x lo hi) g (Jumps Nc 2) 18 20 0 (compared hi (sum_of x (reg r n)) (compared lo (sum_of x (reg r n)) ((alu Add Wide x (reg r n) (reg r 2)).status))) (sum_of x (reg r n)) (reg r 2) (held r (at + 20) (compared hi (sum_of x (reg r n)) (compared lo (sum_of x (reg r n)) ((alu Add Wide x (reg r n) (reg r 2)).status))) (sum_of x (reg r n)) (reg r 2)) tt refl (omega arith) (omega arith) (omega arith) (compared-small hi (sum_of x (reg r n)) (compared lo (sum_of x (reg r n)) ((alu Add Wide x (reg r n) (reg r 2)).status)) (compared-small lo (sum_of x (reg r n)) ((alu Add Wide x (reg r n) (reg r 2)).status) (added-small x (reg r n) (reg r 2) (g.context.small 2)))) (omega arith) (g.context.small 2)
    (one m r first past at (store_words n x lo hi) g (instr_of (Jumps Nc 2)) 18 0x2802 g.words.1.1.1.1.1.1.1.1.1.0 first-nc2 refl) (jump-passed Nc 2 (at + 18) (compared hi (sum_of x (reg r n)) (compared lo (sum_of x (reg r n)) ((alu Add Wide x (reg r n) (reg r 2)).status))) (ap not ((compared-tells hi (sum_of x (reg r n)) (compared lo (sum_of x (reg r n)) ((alu Add Wide x (reg r n) (reg r 2)).status)) hib (omega arith)).least ∙ at_least hi (sum_of x (reg r n)) z)) ∙ omega arith)
    (Stays _)))))))))

pub store-ends : StoreGuardLaw
store-ends m r first past at n x lo hi g indexed xb lob hib = record { passes = store-passes m r first past at n x lo hi g indexed xb lob hib; stops = ends }
  where
    ends : ((sum_of x (reg r n)) < lo) ⊎ (hi ≤ (sum_of x (reg r n))) → Stops m r first past STORE_FAULT (sum_of x (reg r n))
    ends (inl h) = store-below m r first past at n x lo hi g indexed xb lob hib h
    ends (inr h) = elim (cases_lt (sum_of x (reg r n)) lo) [ inl b ↦ store-below m r first past at n x lo hi g indexed xb lob hib b | inr b ↦ store-above m r first past at n x lo hi g indexed xb lob hib b h ]

-- ---- the growth guard

growth-passes : (m r : List ℕ) (first past at : ℕ) → IsAtGuard m r first past at growth_words → (word_at m STACK_LIMIT) ≤ reg r 1 → Passes m r first past 4 (at + 14) (reg r 4)
growth-passes m r first past at g h = start m r first past at growth_words g 4 (held r (at + 14) (reg r 2) (reg r 4) (reg r 2))
    (line m r first past at growth_words g Saves 0 2 3 (reg r 2) (reg r 4) (reg r 5) (held r (at + 14) (reg r 2) (reg r 4) (reg r 2)) tt refl (omega arith) (omega arith) (omega arith) (g.context.small 2) (g.context.small 4) (g.context.small 5)
    (one m r first past at growth_words g (instr_of Saves) 0 0x4205 g.words.0 first-saves refl) (omega arith)
    (line m r first past at growth_words g ComparesSp 2 6 2 (reg r 2) (reg r 4) (reg r 2) (held r (at + 14) (reg r 2) (reg r 4) (reg r 2)) tt refl (omega arith) (omega arith) (omega arith) (g.context.small 2) (g.context.small 4) (g.context.small 2)
    (two m r first past at growth_words g (instr_of ComparesSp) 2 0x9211 STACK_LIMIT g.words.1.0 g.words.1.1.0 (omega arith) first-sp refl) (omega arith)
    (line m r first past at growth_words g (Jumps C 2) 6 12 1 (compared (word_at m STACK_LIMIT) (reg r 1) (reg r 2)) (reg r 4) (reg r 2) (held r (at + 14) (reg r 2) (reg r 4) (reg r 2)) tt refl (omega arith) (omega arith) (omega arith) (compared-small _ _ (reg r 2) (g.context.small 2)) (g.context.small 4) (g.context.small 2)
    (one m r first past at growth_words g (instr_of (Jumps C 2)) 6 0x2C02 g.words.1.1.1.0 first-c2 refl) (jump-taken C 2 (at + 6) (compared (word_at m STACK_LIMIT) (reg r 1) (reg r 2)) ((compared-tells (word_at m STACK_LIMIT) (reg r 1) (reg r 2) (word-small m STACK_LIMIT g.memory) (g.context.small 1)).least ∙ at_least (word_at m STACK_LIMIT) (reg r 1) h) ∙ omega arith)
    (line m r first past at growth_words g Restores 12 14 0 (compared (word_at m STACK_LIMIT) (reg r 1) (reg r 2)) (reg r 4) (reg r 2) (held r (at + 14) (reg r 2) (reg r 4) (reg r 2)) tt refl (omega arith) (omega arith) (omega arith) (compared-small _ _ (reg r 2) (g.context.small 2)) (g.context.small 4) (g.context.small 2)
    (one m r first past at growth_words g (instr_of Restores) 12 0x4502 g.words.1.1.1.1.1.1.0 first-restores refl) (omega arith)
    (Stays _)))))

growth-stops : (m r : List ℕ) (first past at : ℕ) → IsAtGuard m r first past at growth_words → reg r 1 < (word_at m STACK_LIMIT) → Stops m r first past STACK_FAULT (reg r 4)
growth-stops m r first past at g h = stop m r first past at growth_words g STACK_FAULT 8 3 (compared (word_at m STACK_LIMIT) (reg r 1) (reg r 2)) (reg r 4) (reg r 2) refl (omega arith) (omega arith) refl (omega arith) (compared-small _ _ (reg r 2) (g.context.small 2)) (compared-flagged (word_at m STACK_LIMIT) (reg r 1) (reg r 2) (reg r 2) (same-self (reg r 2))) (g.context.small 4) refl (two m r first past at growth_words g (instr_of (Branches STACK_FAULT)) 8 0x4030 STACK_FAULT g.words.1.1.1.1.0 g.words.1.1.1.1.1.0 (omega arith) (first-branches STACK_FAULT) refl)
    (start m r first past at growth_words g 3 (held r (at + 8) (compared (word_at m STACK_LIMIT) (reg r 1) (reg r 2)) (reg r 4) (reg r 2))
    (line m r first past at growth_words g Saves 0 2 2 (reg r 2) (reg r 4) (reg r 5) (held r (at + 8) (compared (word_at m STACK_LIMIT) (reg r 1) (reg r 2)) (reg r 4) (reg r 2)) tt refl (omega arith) (omega arith) (omega arith) (g.context.small 2) (g.context.small 4) (g.context.small 5)
    (one m r first past at growth_words g (instr_of Saves) 0 0x4205 g.words.0 first-saves refl) (omega arith)
    (line m r first past at growth_words g ComparesSp 2 6 1 (reg r 2) (reg r 4) (reg r 2) (held r (at + 8) (compared (word_at m STACK_LIMIT) (reg r 1) (reg r 2)) (reg r 4) (reg r 2)) tt refl (omega arith) (omega arith) (omega arith) (g.context.small 2) (g.context.small 4) (g.context.small 2)
    (two m r first past at growth_words g (instr_of ComparesSp) 2 0x9211 STACK_LIMIT g.words.1.0 g.words.1.1.0 (omega arith) first-sp refl) (omega arith)
    (line m r first past at growth_words g (Jumps C 2) 6 8 0 (compared (word_at m STACK_LIMIT) (reg r 1) (reg r 2)) (reg r 4) (reg r 2) (held r (at + 8) (compared (word_at m STACK_LIMIT) (reg r 1) (reg r 2)) (reg r 4) (reg r 2)) tt refl (omega arith) (omega arith) (omega arith) (compared-small _ _ (reg r 2) (g.context.small 2)) (g.context.small 4) (g.context.small 2)
    (one m r first past at growth_words g (instr_of (Jumps C 2)) 6 0x2C02 g.words.1.1.1.0 first-c2 refl) (jump-passed C 2 (at + 6) (compared (word_at m STACK_LIMIT) (reg r 1) (reg r 2)) ((compared-tells (word_at m STACK_LIMIT) (reg r 1) (reg r 2) (word-small m STACK_LIMIT g.memory) (g.context.small 1)).least ∙ not_least (word_at m STACK_LIMIT) (reg r 1) h) ∙ omega arith)
    (Stays _)))))

pub growth-ends : GrowthGuardLaw
growth-ends m r first past at g = record { passes = growth-passes m r first past at g; stops = growth-stops m r first past at g }

-- ---- the pop guard

pop-passes : (m r : List ℕ) (first past at : ℕ) → IsAtGuard m r first past at pop_words → reg r 1 ≢ (word_at m STACK_TOP) → Passes m r first past 4 (at + 14) (reg r 4)
pop-passes m r first past at g h = start m r first past at pop_words g 4 (held r (at + 14) (reg r 2) (reg r 4) (reg r 2))
    (line m r first past at pop_words g Saves 0 2 3 (reg r 2) (reg r 4) (reg r 5) (held r (at + 14) (reg r 2) (reg r 4) (reg r 2)) tt refl (omega arith) (omega arith) (omega arith) (g.context.small 2) (g.context.small 4) (g.context.small 5)
    (one m r first past at pop_words g (instr_of Saves) 0 0x4205 g.words.0 first-saves refl) (omega arith)
    (line m r first past at pop_words g ComparesTop 2 6 2 (reg r 2) (reg r 4) (reg r 2) (held r (at + 14) (reg r 2) (reg r 4) (reg r 2)) tt refl (omega arith) (omega arith) (omega arith) (g.context.small 2) (g.context.small 4) (g.context.small 2)
    (two m r first past at pop_words g (instr_of ComparesTop) 2 0x9182 STACK_TOP g.words.1.0 g.words.1.1.0 (omega arith) first-top refl) (omega arith)
    (line m r first past at pop_words g (Jumps Ne 2) 6 12 1 (compared (reg r 1) (word_at m STACK_TOP) (reg r 2)) (reg r 4) (reg r 2) (held r (at + 14) (reg r 2) (reg r 4) (reg r 2)) tt refl (omega arith) (omega arith) (omega arith) (compared-small _ _ (reg r 2) (g.context.small 2)) (g.context.small 4) (g.context.small 2)
    (one m r first past at pop_words g (instr_of (Jumps Ne 2)) 6 0x2002 g.words.1.1.1.0 first-ne2 refl) (jump-taken Ne 2 (at + 6) (compared (reg r 1) (word_at m STACK_TOP) (reg r 2)) (ap not ((compared-tells (reg r 1) (word_at m STACK_TOP) (reg r 2) (g.context.small 1) (word-small m STACK_TOP g.memory)).same ∙ apart (word_at m STACK_TOP) (reg r 1) (λ e. h (sym e)))) ∙ omega arith)
    (line m r first past at pop_words g Restores 12 14 0 (compared (reg r 1) (word_at m STACK_TOP) (reg r 2)) (reg r 4) (reg r 2) (held r (at + 14) (reg r 2) (reg r 4) (reg r 2)) tt refl (omega arith) (omega arith) (omega arith) (compared-small _ _ (reg r 2) (g.context.small 2)) (g.context.small 4) (g.context.small 2)
    (one m r first past at pop_words g (instr_of Restores) 12 0x4502 g.words.1.1.1.1.1.1.0 first-restores refl) (omega arith)
    (Stays _)))))

pop-stops : (m r : List ℕ) (first past at : ℕ) → IsAtGuard m r first past at pop_words → reg r 1 ≡ (word_at m STACK_TOP) → Stops m r first past STACK_FAULT (reg r 4)
pop-stops m r first past at g h = stop m r first past at pop_words g STACK_FAULT 8 3 (compared (reg r 1) (word_at m STACK_TOP) (reg r 2)) (reg r 4) (reg r 2) refl (omega arith) (omega arith) refl (omega arith) (compared-small _ _ (reg r 2) (g.context.small 2)) (compared-flagged (reg r 1) (word_at m STACK_TOP) (reg r 2) (reg r 2) (same-self (reg r 2))) (g.context.small 4) refl (two m r first past at pop_words g (instr_of (Branches STACK_FAULT)) 8 0x4030 STACK_FAULT g.words.1.1.1.1.0 g.words.1.1.1.1.1.0 (omega arith) (first-branches STACK_FAULT) refl)
    (start m r first past at pop_words g 3 (held r (at + 8) (compared (reg r 1) (word_at m STACK_TOP) (reg r 2))
    (reg r 4) (reg r 2))
    (line m r first past at pop_words g Saves 0 2 2 (reg r 2) (reg r 4) (reg r 5) (held r (at + 8) (compared (reg r 1) (word_at m STACK_TOP) (reg r 2)) (reg r 4) (reg r 2)) tt refl (omega arith) (omega arith) (omega arith) (g.context.small 2) (g.context.small 4) (g.context.small 5)
    (one m r first past at pop_words g (instr_of Saves) 0 0x4205 g.words.0 first-saves refl) (omega arith)
    (line m r first past at pop_words g ComparesTop 2 6 1 (reg r 2) (reg r 4) (reg r 2) (held r (at + 8) (compared (reg r 1) (word_at m STACK_TOP) (reg r 2)) (reg r 4) (reg r 2)) tt refl (omega arith) (omega arith) (omega arith) (g.context.small 2) (g.context.small 4) (g.context.small 2)
    (two m r first past at pop_words g (instr_of ComparesTop) 2 0x9182 STACK_TOP g.words.1.0 g.words.1.1.0 (omega arith) first-top refl) (omega arith)
    (line m r first past at pop_words g (Jumps Ne 2) 6 8 0 (compared (reg r 1) (word_at m STACK_TOP) (reg r 2)) (reg r 4) (reg r 2) (held r (at + 8) (compared (reg r 1) (word_at m STACK_TOP) (reg r 2)) (reg r 4) (reg r 2)) tt refl (omega arith) (omega arith) (omega arith) (compared-small _ _ (reg r 2) (g.context.small 2)) (g.context.small 4) (g.context.small 2)
    (one m r first past at pop_words g (instr_of (Jumps Ne 2)) 6 0x2002 g.words.1.1.1.0 first-ne2 refl) (jump-passed Ne 2 (at + 6) (compared (reg r 1) (word_at m STACK_TOP) (reg r 2)) (ap not ((compared-tells (reg r 1) (word_at m STACK_TOP) (reg r 2) (g.context.small 1) (word-small m STACK_TOP g.memory)).same ∙ equal (word_at m STACK_TOP) (reg r 1) (sym h))) ∙ omega arith)
    (Stays _)))))

pub pop-ends : PopGuardLaw
pop-ends m r first past at g = record { passes = pop-passes m r first past at g; stops = pop-stops m r first past at g }

-- ---- the SP guard

sp-passes : (m r : List ℕ) (first past at : ℕ) → IsAtGuard m r first past at sp_words → (word_at m STACK_LIMIT) ≤ reg r 4 → reg r 4 ≤ (word_at m STACK_TOP) → Passes m r first past 6 (at + 20) (reg r 4)
sp-passes m r first past at g h z = start m r first past at sp_words g 6 (held r (at + 20) (reg r 2) (reg r 4) (reg r 2))
    (line m r first past at sp_words g Saves 0 2 5 (reg r 2) (reg r 4) (reg r 5) (held r (at + 20) (reg r 2) (reg r 4) (reg r 2)) tt refl (omega arith) (omega arith) (omega arith) (g.context.small 2) (g.context.small 4) (g.context.small 5)
    (one m r first past at sp_words g (instr_of Saves) 0 0x4205 g.words.0 first-saves refl) (omega arith)
    (line m r first past at sp_words g ComparesNew 2 6 4 (reg r 2) (reg r 4) (reg r 2) (held r (at + 20) (reg r 2) (reg r 4) (reg r 2)) tt refl (omega arith) (omega arith) (omega arith) (g.context.small 2) (g.context.small 4) (g.context.small 2)
    (two m r first past at sp_words g (instr_of ComparesNew) 2 0x9214 STACK_LIMIT g.words.1.0 g.words.1.1.0 (omega arith) first-new refl) (omega arith)
    (line m r first past at sp_words g (Jumps Nc 3) 6 8 3 (compared (word_at m STACK_LIMIT) (reg r 4) (reg r 2)) (reg r 4) (reg r 2) (held r (at + 20) (reg r 2) (reg r 4) (reg r 2)) tt refl (omega arith) (omega arith) (omega arith) (compared-small (word_at m STACK_LIMIT) (reg r 4) (reg r 2) (g.context.small 2)) (g.context.small 4) (g.context.small 2)
    (one m r first past at sp_words g (instr_of (Jumps Nc 3)) 6 0x2803 g.words.1.1.1.0 first-nc3 refl) (jump-passed Nc 3 (at + 6) (compared (word_at m STACK_LIMIT) (reg r 4) (reg r 2)) (ap not ((compared-tells (word_at m STACK_LIMIT) (reg r 4) (reg r 2) (word-small m STACK_LIMIT g.memory) (g.context.small 4)).least ∙ at_least (word_at m STACK_LIMIT) (reg r 4) h)) ∙ omega arith)
    (line m r first past at sp_words g ComparesNewTop 8 12 2 (compared (word_at m STACK_LIMIT) (reg r 4) (reg r 2)) (reg r 4) (reg r 2) (held r (at + 20) (reg r 2) (reg r 4) (reg r 2)) tt refl (omega arith) (omega arith) (omega arith) (compared-small (word_at m STACK_LIMIT) (reg r 4) (reg r 2) (g.context.small 2)) (g.context.small 4) (g.context.small 2)
    (two m r first past at sp_words g (instr_of ComparesNewTop) 8 0x9482 STACK_TOP g.words.1.1.1.1.0 g.words.1.1.1.1.1.0 (omega arith) first-new_top refl) (omega arith)
    (line m r first past at sp_words g (Jumps C 2) 12 18 1 (compared (reg r 4) (word_at m STACK_TOP) (compared (word_at m STACK_LIMIT) (reg r 4) (reg r 2))) (reg r 4) (reg r 2) (held r (at + 20) (reg r 2) (reg r 4) (reg r 2)) tt refl (omega arith) (omega arith) (omega arith) (compared-small (reg r 4) (word_at m STACK_TOP) (compared (word_at m STACK_LIMIT) (reg r 4) (reg r 2)) (compared-small (word_at m STACK_LIMIT) (reg r 4) (reg r 2) (g.context.small 2))) (g.context.small 4) (g.context.small 2)
    (one m r first past at sp_words g (instr_of (Jumps C 2)) 12 0x2C02 g.words.1.1.1.1.1.1.0 first-c2 refl) (jump-taken C 2 (at + 12) (compared (reg r 4) (word_at m STACK_TOP) (compared (word_at m STACK_LIMIT) (reg r 4) (reg r 2))) ((compared-tells (reg r 4) (word_at m STACK_TOP) (compared (word_at m STACK_LIMIT) (reg r 4) (reg r 2)) (g.context.small 4) (word-small m STACK_TOP g.memory)).least ∙ at_least (reg r 4) (word_at m STACK_TOP) z) ∙ omega arith)
    (line m r first past at sp_words g Restores 18 20 0 (compared (reg r 4) (word_at m STACK_TOP) (compared (word_at m STACK_LIMIT) (reg r 4) (reg r 2))) (reg r 4) (reg r 2) (held r (at + 20) (reg r 2) (reg r 4) (reg r 2)) tt refl (omega arith) (omega arith) (omega arith) (compared-small (reg r 4) (word_at m STACK_TOP) (compared (word_at m STACK_LIMIT) (reg r 4) (reg r 2)) (compared-small (word_at m STACK_LIMIT) (reg r 4) (reg r 2) (g.context.small 2))) (g.context.small 4) (g.context.small 2)
    (one m r first past at sp_words g (instr_of Restores) 18 0x4502 g.words.1.1.1.1.1.1.1.1.1.0 first-restores refl) (omega arith)
    (Stays _)))))))

sp-below : (m r : List ℕ) (first past at : ℕ) → IsAtGuard m r first past at sp_words → reg r 4 < (word_at m STACK_LIMIT) → Stops m r first past STACK_FAULT (reg r 4)
sp-below m r first past at g h = stop m r first past at sp_words g STACK_FAULT 14 3 (compared (word_at m STACK_LIMIT) (reg r 4) (reg r 2)) (reg r 4) (reg r 2) refl (omega arith) (omega arith) refl (omega arith) (compared-small (word_at m STACK_LIMIT) (reg r 4) (reg r 2) (g.context.small 2)) (compared-flagged (word_at m STACK_LIMIT) (reg r 4) (reg r 2) (reg r 2) (same-self (reg r 2))) (g.context.small 4) refl (two m r first past at sp_words g (instr_of (Branches STACK_FAULT)) 14 0x4030 STACK_FAULT g.words.1.1.1.1.1.1.1.0 g.words.1.1.1.1.1.1.1.1.0 (omega arith) (first-branches STACK_FAULT) refl)
    (start m r first past at sp_words g 3 (held r (at + 14) (compared (word_at m STACK_LIMIT) (reg r 4) (reg r 2))
    (reg r 4) (reg r 2))
    (line m r first past at sp_words g Saves 0 2 2 (reg r 2) (reg r 4) (reg r 5) (held r (at + 14) (compared (word_at m STACK_LIMIT) (reg r 4) (reg r 2)) (reg r 4) (reg r 2)) tt refl (omega arith) (omega arith) (omega arith) (g.context.small 2) (g.context.small 4) (g.context.small 5)
    (one m r first past at sp_words g (instr_of Saves) 0 0x4205 g.words.0 first-saves refl) (omega arith)
    (line m r first past at sp_words g ComparesNew 2 6 1 (reg r 2) (reg r 4) (reg r 2) (held r (at + 14) (compared (word_at m STACK_LIMIT) (reg r 4) (reg r 2)) (reg r 4) (reg r 2)) tt refl (omega arith) (omega arith) (omega arith) (g.context.small 2) (g.context.small 4) (g.context.small 2)
    (two m r first past at sp_words g (instr_of ComparesNew) 2 0x9214 STACK_LIMIT g.words.1.0 g.words.1.1.0 (omega arith) first-new refl) (omega arith)
    (line m r first past at sp_words g (Jumps Nc 3) 6 14 0 (compared (word_at m STACK_LIMIT) (reg r 4) (reg r 2)) (reg r 4) (reg r 2) (held r (at + 14) (compared (word_at m STACK_LIMIT) (reg r 4) (reg r 2)) (reg r 4) (reg r 2)) tt refl (omega arith) (omega arith) (omega arith) (compared-small (word_at m STACK_LIMIT) (reg r 4) (reg r 2) (g.context.small 2)) (g.context.small 4) (g.context.small 2)
    (one m r first past at sp_words g (instr_of (Jumps Nc 3)) 6 0x2803 g.words.1.1.1.0 first-nc3 refl) (jump-taken Nc 3 (at + 6) (compared (word_at m STACK_LIMIT) (reg r 4) (reg r 2)) (ap not ((compared-tells (word_at m STACK_LIMIT) (reg r 4) (reg r 2) (word-small m STACK_LIMIT g.memory) (g.context.small 4)).least ∙ not_least (word_at m STACK_LIMIT) (reg r 4) h)) ∙ omega arith)
    (Stays _)))))

sp-above : (m r : List ℕ) (first past at : ℕ) → IsAtGuard m r first past at sp_words → (word_at m STACK_LIMIT) ≤ reg r 4 → (word_at m STACK_TOP) < reg r 4 → Stops m r first past STACK_FAULT (reg r 4)
sp-above m r first past at g h z = stop m r first past at sp_words g STACK_FAULT 14 5 (compared (reg r 4) (word_at m STACK_TOP) (compared (word_at m STACK_LIMIT) (reg r 4) (reg r 2))) (reg r 4) (reg r 2) refl (omega arith) (omega arith) refl (omega arith) (compared-small (reg r 4) (word_at m STACK_TOP) (compared (word_at m STACK_LIMIT) (reg r 4) (reg r 2)) (compared-small (word_at m STACK_LIMIT) (reg r 4) (reg r 2) (g.context.small 2))) (compared-flagged (reg r 4) (word_at m STACK_TOP) (compared (word_at m STACK_LIMIT) (reg r 4) (reg r 2)) (reg r 2) (compared-same (word_at m STACK_LIMIT) (reg r 4) (reg r 2) (reg r 2) (same-self (reg r 2)))) (g.context.small 4) refl (two m r first past at sp_words g (instr_of (Branches STACK_FAULT)) 14 0x4030 STACK_FAULT g.words.1.1.1.1.1.1.1.0 g.words.1.1.1.1.1.1.1.1.0 (omega arith) (first-branches STACK_FAULT) refl)
    (start m r first past at sp_words g 5 (held r (at + 14) (compared (reg r 4) (word_at m STACK_TOP) (compared (word_at m STACK_LIMIT) (reg r 4) (reg r 2))) (reg r 4) (reg r 2))
    (line m r first past at sp_words g Saves 0 2 4 (reg r 2) (reg r 4) (reg r 5) (held r (at + 14) (compared (reg r 4) (word_at m STACK_TOP) (compared (word_at m STACK_LIMIT) (reg r 4) (reg r 2))) (reg r 4) (reg r 2)) tt refl (omega arith) (omega arith) (omega arith) (g.context.small 2) (g.context.small 4) (g.context.small 5)
    (one m r first past at sp_words g (instr_of Saves) 0 0x4205 g.words.0 first-saves refl) (omega arith)
    (line m r first past at sp_words g ComparesNew 2 6 3 (reg r 2) (reg r 4) (reg r 2) (held r (at + 14) (compared (reg r 4) (word_at m STACK_TOP) (compared (word_at m STACK_LIMIT) (reg r 4) (reg r 2))) (reg r 4) (reg r 2)) tt refl (omega arith) (omega arith) (omega arith) (g.context.small 2) (g.context.small 4) (g.context.small 2)
    (two m r first past at sp_words g (instr_of ComparesNew) 2 0x9214 STACK_LIMIT g.words.1.0 g.words.1.1.0 (omega arith) first-new refl) (omega arith)
    (line m r first past at sp_words g (Jumps Nc 3) 6 8 2 (compared (word_at m STACK_LIMIT) (reg r 4) (reg r 2)) (reg r 4) (reg r 2) (held r (at + 14) (compared (reg r 4) (word_at m STACK_TOP) (compared (word_at m STACK_LIMIT) (reg r 4) (reg r 2))) (reg r 4) (reg r 2)) tt refl (omega arith) (omega arith) (omega arith) (compared-small (word_at m STACK_LIMIT) (reg r 4) (reg r 2) (g.context.small 2)) (g.context.small 4) (g.context.small 2)
    (one m r first past at sp_words g (instr_of (Jumps Nc 3)) 6 0x2803 g.words.1.1.1.0 first-nc3 refl) (jump-passed Nc 3 (at + 6) (compared (word_at m STACK_LIMIT) (reg r 4) (reg r 2)) (ap not ((compared-tells (word_at m STACK_LIMIT) (reg r 4) (reg r 2) (word-small m STACK_LIMIT g.memory) (g.context.small 4)).least ∙ at_least (word_at m STACK_LIMIT) (reg r 4) h)) ∙ omega arith)
    (line m r first past at sp_words g ComparesNewTop 8 12 1 (compared (word_at m STACK_LIMIT) (reg r 4) (reg r 2)) (reg r 4) (reg r 2) (held r (at + 14) (compared (reg r 4) (word_at m STACK_TOP) (compared (word_at m STACK_LIMIT) (reg r 4) (reg r 2))) (reg r 4) (reg r 2)) tt refl (omega arith) (omega arith) (omega arith) (compared-small (word_at m STACK_LIMIT) (reg r 4) (reg r 2) (g.context.small 2)) (g.context.small 4) (g.context.small 2)
    (two m r first past at sp_words g (instr_of ComparesNewTop) 8 0x9482 STACK_TOP g.words.1.1.1.1.0 g.words.1.1.1.1.1.0 (omega arith) first-new_top refl) (omega arith)
    (line m r first past at sp_words g (Jumps C 2) 12 14 0 (compared (reg r 4) (word_at m STACK_TOP) (compared (word_at m STACK_LIMIT) (reg r 4) (reg r 2))) (reg r 4) (reg r 2) (held r (at + 14) (compared (reg r 4) (word_at m STACK_TOP) (compared (word_at m STACK_LIMIT) (reg r 4) (reg r 2))) (reg r 4) (reg r 2)) tt refl (omega arith) (omega arith) (omega arith) (compared-small (reg r 4) (word_at m STACK_TOP) (compared (word_at m STACK_LIMIT) (reg r 4) (reg r 2)) (compared-small (word_at m STACK_LIMIT) (reg r 4) (reg r 2) (g.context.small 2))) (g.context.small 4) (g.context.small 2)
    (one m r first past at sp_words g (instr_of (Jumps C 2)) 12 0x2C02 g.words.1.1.1.1.1.1.0 first-c2 refl) (jump-passed C 2 (at + 12) (compared (reg r 4) (word_at m STACK_TOP) (compared (word_at m STACK_LIMIT) (reg r 4) (reg r 2))) ((compared-tells (reg r 4) (word_at m STACK_TOP) (compared (word_at m STACK_LIMIT) (reg r 4) (reg r 2)) (g.context.small 4) (word-small m STACK_TOP g.memory)).least ∙ not_least (reg r 4) (word_at m STACK_TOP) z) ∙ omega arith)
    (Stays _)))))))

pub sp-ends : SpGuardLaw
sp-ends m r first past at g = record { passes = sp-passes m r first past at g; stops = ends }
  where
    ends : (reg r 4 < (word_at m STACK_LIMIT)) ⊎ ((word_at m STACK_TOP) < reg r 4) → Stops m r first past STACK_FAULT (reg r 4)
    ends (inl h) = sp-below m r first past at g h
    ends (inr h) = elim (cases_lt (reg r 4) (word_at m STACK_LIMIT)) [ inl b ↦ sp-below m r first past at g b | inr b ↦ sp-above m r first past at g b h ]

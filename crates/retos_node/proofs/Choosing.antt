-- Which case a step is, by the line to accept and by PC.
use Rattle.std.proofs.Common.{◌≡◌, ◌≢◌, ℕ, ◌+◌, ◌*◌, ◌%◌, ◌<◌, ◌≤◌, ◌⊎◌, inl, inr, Bool, false, cond, ◌&&◌, nat_le, eqb, List, [], ◌∷◌, Option, Some, None, refl, ap, ◌∙◌, arith}
use Rattle.std.specs.List.{find, AllByRecursion}
use Rattle.std.proofs.lemmas.Bool.{cases_eq, cond-false, ne_eqb}
use Rattle.machine_model.specs.Context.{reg}
use Rattle.kernel_model.specs.declared.map.TheConstants.{FIRST_ROUTINE, IDLE, LAST_ROUTINE}
use Rattle.kernel_model.specs.declared.entries.TheConstants.{FIRST_ENTRY, GOES, LAST_ENTRY, LEAVE, STACK_FAULT, STORE_FAULT}
use Rattle.kernel_model.specs.declared.kinds.Kind.TheVariants.{App}
use Rattle.kernel_model.specs.Kernel.{Kernel, word_of}
use Rattle.kernel_model.specs.declared.rows.SysWord.TheVariants.{Budget}
use Rattle.kernel_model.specs.Words.{none}
use Rattle.node_model.specs.Entries.{Call, StoreFault, StackFault, Goes, Leave, calls, entry_address, module_runs}
use Rattle.node_model.specs.Steps.{Accepts, IsIdle, OverBudget, Runs, Serves, case_of, case_by_line, case_at, case_in_code, entry_at, lines_down, most_instructions, routine_at}
use Rattle.node_laws.proofs.Casing.{StandsAt, named, entry-least, entry-found, enters-at, find-none}
use Rattle.node_laws.proofs.Composing.{routine-found}
use Rattle.retos_node.specs.Cases.{line_to_accept, IsAtEntry}

-- ---- the case

by_line : (k : Kernel) (r : List ℕ) (o : Option ℕ) → line_to_accept k r ≡ o → case_of k r ≡ case_by_line k (reg r 0) o
unfolding case_of
by_line k r o e = ap (λ (x : Option ℕ). case_by_line k (reg r 0) x) e

pub accepts : (k : Kernel) (r : List ℕ) (n : ℕ) → line_to_accept k r ≡ Some n → case_of k r ≡ Accepts n
accepts k r n e = by_line k r (Some n) e

pub idles : (k : Kernel) (r : List ℕ) → line_to_accept k r ≡ None → reg r 0 ≡ IDLE → case_of k r ≡ IsIdle
idles k r e at = by_line k r None e ∙ ap (λ (pc : ℕ). case_by_line k pc None) at

no_entry : (pc : ℕ) → (pc < FIRST_ENTRY) ⊎ (LAST_ENTRY < pc) → entry_at pc ≡ None
no_entry pc h = find-none (λ c. eqb (entry_address c) pc) calls (λ c. ne_eqb (entry_address c) pc (apart c h))
  where
    apart : (c : Call) → (pc < FIRST_ENTRY) ⊎ (LAST_ENTRY < pc) → entry_address c ≢ pc
    apart c (inl l) e = omega (arith, (entry-least c).0)
    apart c (inr u) e = omega (arith, (entry-least c).1)

pub serves : (k : Kernel) (r : List ℕ) (n : ℕ) → line_to_accept k r ≡ None → n < 14 → reg r 0 ≡ FIRST_ROUTINE + 2 * n
    → case_of k r ≡ Serves n
serves k r n e l at =
    by_line k r None e
    ∙ ap (λ (pc : ℕ). case_by_line k pc None) at
    ∙ cond-false (eqb (FIRST_ROUTINE + 2 * n) IDLE) IsIdle _ (ne_eqb (FIRST_ROUTINE + 2 * n) IDLE (λ e. omega arith))
    ∙ ap (λ (o : Option Call). case_at k o (routine_at (FIRST_ROUTINE + 2 * n)))
    (no_entry (FIRST_ROUTINE + 2 * n) (inr (omega arith)))
    ∙ ap (λ (o : Option ℕ). case_at k None o) (routine-found n l)

-- no entry, no routine, and not where the machine idles
abbrev pub IsNowhere : (pc : ℕ) → Type 0
IsNowhere pc = (pc < FIRST_ENTRY) ⊎ ((LAST_ENTRY < pc) × (pc ≢ IDLE) × ((pc < FIRST_ROUTINE) ⊎ (LAST_ROUTINE < pc)))

find_none_in : (p : ℕ → Bool) (xs : List ℕ) → AllByRecursion (λ x. p x ≡ false) xs → find p xs ≡ None
find_none_in p [] h = refl
find_none_in p (x ∷ xs) h = cond-false (p x) (Some x) (find p xs) h.0 ∙ find_none_in p xs h.1

no_routine : (pc : ℕ) → (pc < FIRST_ROUTINE) ⊎ (LAST_ROUTINE < pc) → routine_at pc ≡ None
no_routine pc h = find_none_in (λ n. eqb (FIRST_ROUTINE + 2 * n) pc) lines_down
    (at 13 (omega arith), (at 12 (omega arith), (at 11 (omega arith), (at 10 (omega arith), (at 9 (omega arith), (at 8 (omega arith), (at 7 (omega arith), (at 6 (omega arith), (at 5 (omega arith), (at 4 (omega arith), (at 3 (omega arith), (at 2 (omega arith), (at 1 (omega arith), (at 0 (omega arith), tt))))))))))))))
  where
    at : (n : ℕ) → n < 14 → eqb (FIRST_ROUTINE + 2 * n) pc ≡ false
    at n l = ne_eqb (FIRST_ROUTINE + 2 * n) pc (λ e. elim h [ inl a ↦ omega arith | inr b ↦ omega arith ])

pub in_code : (k : Kernel) (r : List ℕ) → line_to_accept k r ≡ None → IsNowhere (reg r 0) → case_of k r ≡ case_in_code k
in_code k r e h = by_line k r None e ∙ elim h [
  | inl l ↦ at (reg r 0) (λ f. omega arith) (inl l) (inl (omega arith))
  | inr u ↦ at (reg r 0) u.1 (inr u.0) u.2
]
  where
    at : (pc : ℕ) → pc ≢ IDLE → (pc < FIRST_ENTRY) ⊎ (LAST_ENTRY < pc) → (pc < FIRST_ROUTINE) ⊎ (LAST_ROUTINE < pc)
        → case_by_line k pc None ≡ case_in_code k
    at pc n a b =
        cond-false (eqb pc IDLE) IsIdle _ (ne_eqb pc IDLE n)
        ∙ ap (λ (o : Option Call). case_at k o (routine_at pc)) (no_entry pc a)
        ∙ ap (λ (o : Option ℕ). case_at k None o) (no_routine pc b)

-- ---- the entry

named_entry : (pc : ℕ) → FIRST_ENTRY ≤ pc → pc ≤ LAST_ENTRY → pc % 2 ≡ 0 → (c : Call) × (pc ≡ entry_address c)
named_entry pc l u e = elim (cases_eq pc STORE_FAULT) [
  | inl h ↦ (StoreFault, h)
  | inr n0 ↦ elim (cases_eq pc STACK_FAULT) [
    | inl h ↦ (StackFault, h)
    | inr n2 ↦ elim (cases_eq pc GOES) [
      | inl h ↦ (Goes, h)
      | inr n4 ↦ elim (cases_eq pc LEAVE) [
        | inl h ↦ (Leave, h)
        | inr n26 ↦ (let s : StandsAt pc = named App pc refl (inr (omega arith, omega arith, e)) in (s.entry, s.at))
      ]
    ]
  ]
]

pub at_entry : (k : Kernel) (r : List ℕ) → line_to_accept k r ≡ None → FIRST_ENTRY ≤ reg r 0 → reg r 0 ≤ LAST_ENTRY
    → reg r 0 % 2 ≡ 0
    → IsAtEntry k r
at_entry k r none l u e =
    let c : (c : Call) × (reg r 0 ≡ entry_address c) = named_entry (reg r 0) l u e in
    record {
      call = c.0;
      at = ap entry_at c.1 ∙ entry-found c.0;
      enters = by_line k r None none ∙ enters-at k (reg r 0) c.0 c.1;
    }

-- an application's instruction is next where no line is accepted, PC lies below the entries and no module runs
pub runs_plainly : (k : Kernel) (r : List ℕ) → line_to_accept k r ≡ None → reg r 0 < FIRST_ENTRY → module_runs k ≡ false → case_of k r ≡ Runs
runs_plainly k r none low e = in_code k r none (inl low) ∙ ap (λ (b : Bool). cond (b && nat_le most_instructions (word_of k Budget)) OverBudget Runs) e

-- How far a run has come, a step further and at its end.
use Rattle.std.proofs.Common.{◌≡◌, ℕ, suc, zero, ◌<◌, ◌≤◌, ◌+◌, ◌-◌, Bool, true, false, cond, not, ◌&&◌, List, [], ◌∷◌, ◌++◌, length, map, Option, ap, ◌∙◌, sym, refl, subst, arith, append_assoc, length-append}
use Rattle.std.specs.List.{concat, filter, flat_map}
use Rattle.std.proofs.lemmas.List.{append-nil}
use Rattle.std.proofs.lemmas.List.Folds.{concat-append}
use Rattle.std.proofs.lemmas.List.Elements.{filter-append}
use Rattle.trace_model.specs.declared.records.Record.{Record}
use Rattle.trace_model.specs.declared.records.Who.{Who}
use Rattle.trace_model.specs.declared.scripts.Script.{Script}
use Rattle.trace_model.specs.Texts.{is_emit, is_fault, is_instr, last_instrs, shown_text, shown_after, shown_texts, tail_line, tail_text, record_text, is_always_shown}
use Rattle.trace_model.specs.declared.records.Record.TheVariants as record_of
use Rattle.load_model.specs.Loading.{Loadable}
use Rattle.node_model.specs.Systems.{System}
use Rattle.node_model.specs.Runs.{Run, run, next, is_quiet, ended_run, after}
use Rattle.node_model.specs.Sound.{IsSound}
use Rattle.kernel_model.specs.Kernel.{Kernel}
use Rattle.kernel_model.specs.Layout.{kernel_of}
use Rattle.trace_model.specs.Draws.{raised_at, pick_at}
use Rattle.trace_print.specs.Named.{HasLine}
use Rattle.retos_node.proofs.Naming.{step_has_line}
use Rattle.node_model.specs.Nodes.{Parts, Represents, Steps, Stepped, IsEnd, placement_line, placement_text, end_line, in_order, trace_text}
use Rattle.retos_node.specs.declared.running.Counts.{Counts}
use Rattle.trace_print.specs.declared.show.Show.{Show}
use Rattle.retos_node.specs.Printing.{placement_lines, shown_line, tail_lines, told_lines, lines_after, shown_lines, trace_lines}
use Rattle.trace_print.specs.Shown.{kept_of, kept_with, last_kept}
use Rattle.retos_node.specs.Underway.{one_if, AreCounted, AreWithin, IsNext, behind, quiet_in, IsUnderWay, HasReached, HasEnded}

-- ---- the run, a step further

abbrev run_of : List Record → System → Run
run_of rs s = record { records = rs; last = s }

run-on : (n : ℕ) (t : Script) (s : System) → is_quiet t s ≡ false → run (suc n) t s ≡ after (next t s).shown (run n t (next t s).system)
unfolding run
run-on n t s e = ap (λ b. cond b (ended_run s) (after (next t s).shown (run n t (next t s).system))) e

run-quiet : (n : ℕ) (t : Script) (s : System) → is_quiet t s ≡ true → run n t s ≡ ended_run s
unfolding run
run-quiet zero t s e = refl
run-quiet (suc n) t s e = ap (λ b. cond b (ended_run s) (after (next t s).shown (run n t (next t s).system))) e

run-none : (t : Script) (s : System) → run 0 t s ≡ ended_run s
unfolding run
run-none t s = refl

same-run : (a b : Run) → a.records ≡ b.records → a.last ≡ b.last → a ≡ b
same-run a b e f = ap (λ (rs : List Record). run_of rs a.last) e ∙ ap (λ (x : System). run_of b.records x) f

part-by : (n : ℕ) (t : Script) (s : System) (made : List Record) (now : System) (b : Bool) → is_quiet t s ≡ b
    → run (suc n) t s ≡ run_of made now → length made ≡ suc n
    → ((rest : List Record) → run n t (next t s).system ≡ run_of rest now → length rest ≡ n
    → run (suc n) t (next t s).system ≡ run_of (rest ++ (next t now).shown ∷ []) (next t now).system)
    → run (suc (suc n)) t s ≡ run_of (made ++ (next t now).shown ∷ []) (next t now).system
part-by n t s made now true h e l more =
    let none : made ≡ [] = ap (λ (r : Run). r.records) (sym e ∙ run-quiet (suc n) t s h) in
    absurd (omega (arith, ap length none, l))
part-by n t s made now false h e l more =
    let first : Record = (next t s).shown in
    let then : System = (next t s).system in
    let cut : run_of made now ≡ after first (run n t then) = sym e ∙ run-on n t s h in
    let made_is : made ≡ first ∷ (run n t then).records = ap (λ (r : Run). r.records) cut in
    let rest : run n t then ≡ run_of (run n t then).records now =
    same-run (run n t then) (run_of (run n t then).records now) refl (sym (ap (λ (r : Run). r.last) cut)) in
    let long : length (run n t then).records ≡ n = omega (arith, ap length made_is, l) in
    run-on (suc n) t s h ∙ ap (λ (r : Run). after first r) (more (run n t then).records rest long)
    ∙ ap (λ (m : List Record). run_of (m ++ (next t now).shown ∷ []) (next t now).system) (sym made_is)

-- so many steps were made, and the next one too
part-more : (n : ℕ) (t : Script) (s : System) (made : List Record) (now : System) → run n t s ≡ run_of made now → length made ≡ n
    → is_quiet t now ≡ false → run (suc n) t s ≡ run_of (made ++ (next t now).shown ∷ []) (next t now).system
part-more zero t s made now e l q =
    let start : run_of made now ≡ ended_run s = sym e ∙ run-none t s in
    let same : now ≡ s = ap (λ (r : Run). r.last) start in
    let none : made ≡ [] = ap (λ (r : Run). r.records) start in
    let quiet : is_quiet t s ≡ false = ap (λ x. is_quiet t x) (sym same) ∙ q in
    run-on 0 t s quiet ∙ ap (λ (r : Run). after (next t s).shown r) (run-none t (next t s).system)
    ∙ ap (λ (x : System). run_of ((next t x).shown ∷ []) (next t x).system) (sym same)
    ∙ ap (λ (m : List Record). run_of (m ++ (next t now).shown ∷ []) (next t now).system) (sym none)
part-more (suc n) t s made now e l q =
    part-by n t s made now (is_quiet t s) refl e l (λ rest r k. part-more n t (next t s).system rest now r k q)

filter-more : (p : Record → Bool) (made : List Record) (r : Record)
    → length (filter p (made ++ r ∷ [])) ≡ length (filter p made) + one_if (p r)
filter-more p made r =
    ap (λ (l : List Record). length l) (filter-append p made (r ∷ [])) ∙ length-append (filter p made) (filter p (r ∷ []))
    ∙ ap (λ n. length (filter p made) + n) (one (p r))
  where
    one : (b : Bool) → length (cond b (r ∷ []) []) ≡ one_if b
    one true = refl
    one false = refl

lines-split : (show : Show) (earlier xs ys : List Record)
    → lines_after show earlier (xs ++ ys) ≡ lines_after show earlier xs ++ lines_after show (earlier ++ xs) ys
unfolding lines_after
lines-split show earlier [] ys = ap (λ (l : List Record). lines_after show l ys) (sym (append-nil earlier))
lines-split show earlier (x ∷ xs) ys =
    let first : List (List ℕ) = told_lines show (last_instrs earlier) x in
    ap (λ (l : List (List ℕ)). first ++ l)
    (lines-split show (earlier ++ x ∷ []) xs ys
    ∙ ap (λ (l : List Record). lines_after show (earlier ++ x ∷ []) xs ++ lines_after show l ys) (append_assoc earlier (x ∷ []) xs))
    ∙ sym (append_assoc first (lines_after show (earlier ++ x ∷ []) xs) (lines_after show (earlier ++ x ∷ xs) ys))

line-after : (show : Show) (earlier : List Record) (r : Record) → lines_after show earlier (r ∷ []) ≡ told_lines show (last_instrs earlier) r
unfolding lines_after
line-after show earlier r = append-nil (told_lines show (last_instrs earlier) r)

lines-joined : (show : Show) (made rest : List Record) → shown_lines show made ++ lines_after show made rest ≡ shown_lines show (made ++ rest)
unfolding shown_lines
lines-joined show made rest = sym (lines-split show [] made rest)

lines-more : (show : Show) (made : List Record) (r : Record)
    → shown_lines show made ++ told_lines show (last_instrs made) r ≡ shown_lines show (made ++ r ∷ [])
lines-more show made r =
    ap (λ (l : List (List ℕ)). shown_lines show made ++ l) (sym (line-after show made r)) ∙ lines-joined show made (r ∷ [])

behind-more : (made : List Record) (r : Record) (rest : Run) → behind made (after r rest) ≡ behind (made ++ r ∷ []) rest
behind-more made r rest = ap (λ (l : List Record). run_of l rest.last) (sym (append_assoc made (r ∷ []) rest.records))

whole-more : (limit n m : ℕ) (t : Script) (first : System) (made : List Record) (now : System)
    → run limit t first ≡ behind made (run (limit - n) t now) → is_quiet t now ≡ false → n < limit → m ≡ n + 1
    → run limit t first ≡ behind (made ++ (next t now).shown ∷ []) (run (limit - m) t (next t now).system)
whole-more limit n m t first made now e q l is =
    let left : limit - n ≡ suc (limit - m) = omega (arith, l, is) in
    e ∙ ap (λ (r : Run). behind made r) (ap (λ k. run k t now) left ∙ run-on (limit - m) t now q)
    ∙ behind-more made (next t now).shown (run (limit - m) t (next t now).system)

-- ---- the invariant

pub course_start : (os : List Loadable) (limit : ℕ) (t : Script) (s : System) (n : Parts) (c : Counts) (Told : List Record → Type 0)
    → n.steps ≡ 0 → Represents n os s → IsSound s → c.emits ≡ 0 → c.faults ≡ 0 → Told [] → IsUnderWay os limit t s n c Told
course_start os limit t s n c Told e r h z y told = record {
  made = [];
  now = s;
  whole_is = let whole : limit ≡ limit - n.steps = omega (arith, e) in ap (λ k. run k t s) whole;
  part_is = ap (λ k. run k t s) e ∙ run-none t s;
  count = sym e;
  represents = r;
  sound = h;
  emits = z;
  faults = y;
  told = told;
}

pub course_more : (os : List Loadable) (limit : ℕ) (t : Script) (first : System) (n m : Parts) (c d : Counts)
    (Told Tells : List Record → Type 0) (u : IsUnderWay os limit t first n c Told) → is_quiet t u.now ≡ false → n.steps < limit
    → m.steps ≡ n.steps + 1 → IsNext t u.now os m c d → Tells (u.made ++ (next t u.now).shown ∷ [])
    → IsUnderWay os limit t first m d Tells
course_more os limit t first n m c d Told Tells u q l e x told =
    let up : m.steps ≡ suc n.steps = omega (arith, e) in
    record {
      made = u.made ++ (next t u.now).shown ∷ [];
      now = (next t u.now).system;
      whole_is = whole-more limit n.steps m.steps t first u.made u.now u.whole_is q l e;
      part_is = ap (λ k. run k t first) up ∙ part-more n.steps t first u.made u.now u.part_is u.count q;
      count = omega (arith, length-append u.made ((next t u.now).shown ∷ []), u.count, e);
      represents = x.represents;
      sound = x.sound;
      emits = omega (arith, x.counted.emits, u.emits, filter-more is_emit u.made (next t u.now).shown);
      faults = omega (arith, x.counted.faults, u.faults, filter-more is_fault u.made (next t u.now).shown);
      told = told;
    }

pub reached : (os : List Loadable) (limit : ℕ) (t : Script) (first : System) (n : Parts) (c : Counts) (Told : List Record → Type 0)
    → IsUnderWay os limit t first n c Told → HasReached os limit t first n
reached os limit t first n c Told u =
    let whole : (run limit t first).records ≡ u.made ++ (run (limit - n.steps) t u.now).records = ap (λ (r : Run). r.records) u.whole_is in
    record {
      within = omega (arith, ap length whole, length-append u.made (run (limit - n.steps) t u.now).records, u.count);
      reached = subst (λ (s : System). Represents n os s) (sym (ap (λ (r : Run). r.last) u.part_is)) u.represents;
    }

-- the tail holds the last instructions of so many steps
pub kept_so_far : (os : List Loadable) (limit : ℕ) (t : Script) (first : System) (n : Parts) (c : Counts) (Told : List Record → Type 0)
    (show : Show) (kept : List Record) (u : IsUnderWay os limit t first n c Told) → kept ≡ kept_of show u.made
    → kept ≡ kept_of show (run n.steps t first).records
kept_so_far os limit t first n c Told show kept u e = e ∙ ap (λ (r : Run). kept_of show r.records) (sym u.part_is)

-- the run is at its end where it is quiet or has made all steps
pub record IsOver (limit : ℕ) (t : Script) (now : System) (steps : ℕ) : Type 0 where
  pub rest : run (limit - steps) t now ≡ ended_run now

pub over_quiet : (limit : ℕ) (t : Script) (now : System) (steps : ℕ) → is_quiet t now ≡ true → IsOver limit t now steps
over_quiet limit t now steps q = record { rest = run-quiet (limit - steps) t now q }

pub over_limit : (limit : ℕ) (t : Script) (now : System) (steps : ℕ) → limit ≤ steps → IsOver limit t now steps
over_limit limit t now steps l =
    let none : limit - steps ≡ 0 = omega (arith, l) in record { rest = ap (λ k. run k t now) none ∙ run-none t now }

whole-is-made : (limit n : ℕ) (t : Script) (first : System) (made : List Record) (now : System)
    → run limit t first ≡ behind made (run (limit - n) t now) → IsOver limit t now n → run limit t first ≡ run_of made now
whole-is-made limit n t first made now e o =
    e ∙ ap (λ (r : Run). behind made r) o.rest ∙ ap (λ (l : List Record). run_of l now) (append-nil made)

pub ended : (os : List Loadable) (limit : ℕ) (t : Script) (first : System) (n : Parts) (c : Counts) (Told : List Record → Type 0)
    (quiet : Bool) (u : IsUnderWay os limit t first n c Told) → quiet ≡ is_quiet t u.now → IsOver limit t u.now n.steps
    → HasEnded os limit t first n quiet c
ended os limit t first n c Told quiet u q o =
    let whole : run limit t first ≡ run_of u.made u.now = whole-is-made limit n.steps t first u.made u.now u.whole_is o in
    record {
      last = subst (λ (r : Run). Represents n os r.last) (sym whole) u.represents;
      end = subst (λ (r : Run). IsEnd t r quiet n.steps c.emits c.faults) (sym whole)
          (record { reason = q; steps = sym u.count; emit_count = u.emits; fault_count = u.faults });
      reached = reached os limit t first n c Told u;
    }

pub told_all : (os : List Loadable) (limit : ℕ) (t : Script) (first : System) (n : Parts) (c : Counts) (Told : List Record → Type 0)
    (u : IsUnderWay os limit t first n c Told) → IsOver limit t u.now n.steps → Told (run limit t first).records
told_all os limit t first n c Told u o =
    subst (λ (r : Run). Told r.records) (sym (whole-is-made limit n.steps t first u.made u.now u.whole_is o)) u.told

-- a step more is within the run
pub lines_within : (os : List Loadable) (limit : ℕ) (t : Script) (first : System) (n : Parts) (c : Counts) (Told : List Record → Type 0)
    (show : Show) (u : IsUnderWay os limit t first n c Told) → is_quiet t u.now ≡ false → n.steps < limit → (rest : List (List ℕ))
    × ((shown_lines show u.made ++ told_lines show (last_instrs u.made) (next t u.now).shown) ++ rest ≡ shown_lines show (run limit t first).records)
lines_within os limit t first n c Told show u q l =
    let rest : List Record = (run (limit - (n.steps + 1)) t (next t u.now).system).records in
    let made : List Record = u.made ++ (next t u.now).shown ∷ [] in
    let whole : (run limit t first).records ≡ made ++ rest =
    ap (λ (r : Run). r.records) (whole-more limit n.steps (n.steps + 1) t first u.made u.now u.whole_is q l refl) in (
      lines_after show made rest,
      ap (λ (x : List (List ℕ)). x ++ lines_after show made rest) (lines-more show u.made (next t u.now).shown)
          ∙ lines-joined show made rest
          ∙ ap (λ (x : List Record). shown_lines show x) (sym whole),
    )

-- before the first step no line was printed
pub no_lines : (show : Show) → shown_lines show [] ≡ []
unfolding shown_lines lines_after
no_lines show = refl

-- ---- the lines of a step

kept-lines : (b : Bool) (made : List Record) (r : Record) → tail_lines b (cond b (last_instrs made) []) r ≡ tail_lines b (last_instrs made) r
unfolding tail_lines
kept-lines true made r = refl
kept-lines false made r = refl

-- where the tail holds the last instructions, its lines are theirs
pub told_as : (show : Show) (kept made : List Record) (r : Record) → kept ≡ kept_of show made
    → told_lines show kept r ≡ told_lines show (last_instrs made) r
unfolding told_lines
told_as show kept made r e =
    ap (λ (l : List (List ℕ)). l ++ shown_line show.all r)
    (ap (λ (ks : List Record). tail_lines show.tail ks r) e ∙ kept-lines show.tail made r)

pub lines_more : (show : Show) (kept made : List Record) (r : Record) → kept ≡ kept_of show made
    → shown_lines show made ++ told_lines show kept r ≡ shown_lines show (made ++ r ∷ [])
lines_more show kept made r e = ap (λ (l : List (List ℕ)). shown_lines show made ++ l) (told_as show kept made r e) ∙ lines-more show made r

-- a fault isn't kept, so its lines are those of the tail before it and after it
same-tail : (b : Bool) (kept : List Record) (r : Record) → tail_lines b (cond (b && is_instr r) (last_kept (kept ++ r ∷ [])) kept) r ≡ tail_lines b kept r
unfolding tail_lines
same-tail false kept r = refl
same-tail true kept (record_of.Instr n w pc word ws) = refl
same-tail true kept (record_of.Entry n w e) = refl
same-tail true kept (record_of.Emit n w v) = refl
same-tail true kept (record_of.Exit n w l) = refl
same-tail true kept (record_of.Fault n w k v) = refl
same-tail true kept (record_of.Accept n w l pc ws) = refl
same-tail true kept (record_of.Vector n l) = refl
same-tail true kept (record_of.IdleTurn n) = refl

-- the lines of the record of a step, by the tail behind it
pub told_behind : (show after : Show) (kept new : List Record) (x y : Record) → after ≡ show → new ≡ kept_with show kept x → x ≡ y
    → told_lines after new x ≡ told_lines show kept y
unfolding told_lines
told_behind show after kept new x y e f g =
    ap (λ (v : Show). told_lines v new x) e ∙ ap (λ (ks : List Record). told_lines show ks x) f
    ∙ ap (λ (l : List (List ℕ)). l ++ shown_line show.all x) (same-tail show.tail kept x) ∙ ap (λ (r : Record). told_lines show kept r) g

none-kept : (b : Bool) → cond b (last_instrs []) [] ≡ []
none-kept true = refl
none-kept false = refl

-- before the first step none is kept
pub none_kept : (show : Show) → [] ≡ kept_of show []
none_kept show = sym (none-kept show.tail)

pub none_kept_yet : (n : Parts) (t : Script) (s : System) (show : Show) (kept : List Record) → n.steps ≡ 0 → kept ≡ []
    → kept ≡ kept_of show (run n.steps t s).records
none_kept_yet n t s show kept e f =
    f ∙ none_kept show ∙ ap (λ (r : Run). kept_of show r.records) (sym (ap (λ k. run k t s) e ∙ run-none t s))

-- ---- the text

line-text : (all : Bool) (r : Record) → concat (shown_line all r) ≡ shown_text all r
unfolding shown_line
line-text true r = append-nil (record_text r)
line-text false r = by (is_always_shown r)
  where
    by : (b : Bool) → concat (cond b (record_text r ∷ []) []) ≡ cond b (record_text r) []
    by true = append-nil (record_text r)
    by false = refl

mapped : {A : Type 0} (f : A → List ℕ) (xs : List A) → concat (map f xs) ≡ flat_map f xs
mapped f [] = refl
mapped f (x ∷ xs) = ap (λ (l : List ℕ). f x ++ l) (mapped f xs)

tail-by : (b : Bool) (ks : List Record) → concat (cond b (map tail_line ks) []) ≡ cond b (flat_map tail_line ks) []
tail-by true ks = mapped tail_line ks
tail-by false ks = refl

tail-is : (tail : Bool) (earlier : List Record) (r : Record) → concat (tail_lines tail (last_instrs earlier) r) ≡ tail_text tail earlier r
unfolding tail_lines
tail-is tail earlier r = tail-by (tail && is_fault r) (last_instrs earlier)

told-is : (show : Show) (earlier : List Record) (r : Record)
    → concat (told_lines show (last_instrs earlier) r) ≡ tail_text show.tail earlier r ++ shown_text show.all r
unfolding told_lines
told-is show earlier r =
    concat-append (tail_lines show.tail (last_instrs earlier) r) (shown_line show.all r)
    ∙ ap (λ (x : List ℕ). x ++ concat (shown_line show.all r)) (tail-is show.tail earlier r)
    ∙ ap (λ (x : List ℕ). tail_text show.tail earlier r ++ x) (line-text show.all r)

lines-text : (show : Show) (earlier rs : List Record) → concat (lines_after show earlier rs) ≡ shown_after show.all show.tail earlier rs
unfolding lines_after
lines-text show earlier [] = refl
lines-text show earlier (r ∷ rs) =
    concat-append (told_lines show (last_instrs earlier) r) (lines_after show (earlier ++ r ∷ []) rs)
    ∙ ap (λ (x : List ℕ). x ++ concat (lines_after show (earlier ++ r ∷ []) rs)) (told-is show earlier r)
    ∙ ap (λ (x : List ℕ). (tail_text show.tail earlier r ++ shown_text show.all r) ++ x) (lines-text show (earlier ++ r ∷ []) rs)

shown-is : (show : Show) (rs : List Record) → concat (shown_lines show rs) ≡ shown_texts show.all show.tail rs
unfolding shown_lines shown_texts
shown-is show rs = lines-text show [] rs

placement-is : (s : System) (count : ℕ) → concat (placement_lines s.kernel s.owner count) ≡ placement_text s count
unfolding placement_lines
placement-is s count = mapped (placement_line s.kernel) (in_order s.owner count)

pub trace_is : (show : Show) (count : ℕ) (t : Script) (s : System) (r : Run)
    → concat (trace_lines show count t s r) ≡ trace_text show.all show.tail count t s r
unfolding trace_lines trace_text
trace_is show count t s r =
    concat-append (placement_lines s.kernel s.owner count) (shown_lines show r.records ++ end_line t r ∷ [])
    ∙ ap (λ (x : List ℕ). x ++ concat (shown_lines show r.records ++ end_line t r ∷ [])) (placement-is s count)
    ∙ ap (λ (x : List ℕ). placement_text s count ++ x)
    (concat-append (shown_lines show r.records) (end_line t r ∷ [])
    ∙ ap (λ (x : List ℕ). x ++ concat (end_line t r ∷ [])) (shown-is show r.records)
    ∙ ap (λ (x : List ℕ). shown_texts show.all show.tail r.records ++ x) (append-nil (end_line t r)))

-- ---- a step, and the quiet test

pub stepped_next : (t : Script) (old new : Parts) (os : List Loadable) (s : System) (raised : ℕ) (pick : Option ℕ) (told : Record)
    → Steps old new os raised pick told → raised ≡ raised_at t (old.steps + 1) → pick ≡ pick_at t (old.steps + 1) → Represents old os s
    → IsSound s → Stepped new os s (raised_at t (s.steps + 1)) (pick_at t (s.steps + 1)) told
stepped_next t old new os s raised pick told h e f r k =
    let one : raised ≡ raised_at t (s.steps + 1) = e ∙ ap (λ n. raised_at t (n + 1)) r.steps in
    let two : pick ≡ pick_at t (s.steps + 1) = f ∙ ap (λ n. pick_at t (n + 1)) r.steps in
    subst (λ p. Stepped new os s (raised_at t (s.steps + 1)) p told) two (subst (λ n. Stepped new os s n pick told) one (h s r k))

pub told_has_line : (new : Parts) (os : List Loadable) (s : System) (raised : ℕ) (pick : Option ℕ) (told : Record)
    → Stepped new os s raised pick told → HasLine told
told_has_line new os s raised pick told h = subst HasLine (sym h.shown) (step_has_line s raised pick)

pub quiet_is : (n : Parts) (os : List Loadable) (t : Script) (s : System) → Represents n os s
    → quiet_in t n.steps (kernel_of n.mem) n.regs ≡ is_quiet t s
unfolding is_quiet
quiet_is n os t s r =
    ap (λ (k : Kernel). quiet_in t n.steps k n.regs) r.kernel ∙ ap (λ (c : List ℕ). quiet_in t n.steps s.kernel c) r.context
    ∙ ap (λ m. quiet_in t m s.kernel s.context) r.steps

pub next_counted : (t : Script) (old new : Parts) (os : List Loadable) (s : System) (raised : ℕ) (pick : Option ℕ) (told : Record)
    (c d : Counts) → Steps old new os raised pick told → raised ≡ raised_at t (old.steps + 1) → pick ≡ pick_at t (old.steps + 1)
    → Represents old os s → IsSound s → AreCounted c d told → IsNext t s os new c d
next_counted t old new os s raised pick told c d h e f r k counted =
    let x : Stepped new os s (raised_at t (s.steps + 1)) (pick_at t (s.steps + 1)) told =
    stepped_next t old new os s raised pick told h e f r k in
    record { represents = x.represents; sound = x.sound; counted = subst (λ (y : Record). AreCounted c d y) x.shown counted }

pub not_true : (b : Bool) → not b ≡ true → b ≡ false
not_true true h = cc
not_true false h = refl

pub not_false : (b : Bool) → not b ≡ false → b ≡ true
not_false true h = refl
not_false false h = cc

-- an instruction's record isn't counted
pub uncounted : (c : Counts) (step : ℕ) (w : Who) (pc word : ℕ) (writes : List (ℕ × ℕ)) → AreCounted c c (record_of.Instr step w pc word writes)
uncounted c step w pc word writes = record { emits = omega arith; faults = omega arith }

-- nor is a turn of the idle machine
pub idle_uncounted : (c : Counts) (step : ℕ) → AreCounted c c (record_of.IdleTurn step)
idle_uncounted c step = record { emits = omega arith; faults = omega arith }

one_at_most : (b : Bool) → one_if b ≤ 1
one_at_most true = omega arith
one_at_most false = omega arith

pub within_more : (n m : ℕ) (c d : Counts) (r : Record) → AreWithin n c → AreCounted c d r → m ≡ n + 1 → AreWithin m d
within_more n m c d r w k e = record {
  emits = omega (arith, w.emits, k.emits, one_at_most (is_emit r), e);
  faults = omega (arith, w.faults, k.faults, one_at_most (is_fault r), e);
}

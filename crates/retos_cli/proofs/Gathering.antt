-- Inputs that are taken one by one, and the lines of objects.
use Rattle.std.proofs.Common.{◌≡◌, ℕ, ◌<◌, ◌≤◌, ◌+◌, List, [], ◌∷◌, ◌++◌, length, drop, zero, suc, slice_get, Some, Ok, Err, refl, ap, sym, subst, ◌∙◌, inl, inr, append_assoc, codes, decimal, arith}
use Rattle.std.specs.declared.option.Option.{Option}
use Rattle.std.proofs.Math.Seq.{drop-cons}
use Rattle.std.proofs.lemmas.Option.{unwrap_or-slice_get, get_or_from_slice_get, slice_get_within}
use Rattle.std.proofs.lemmas.List.{append-nil, drop_all}
use Rattle.edge_io.specs.Known.{Files, FolderState, appended, GotPrefix, held}
use Rattle.load_model.specs.Loading.{Loadable}
use Rattle.code_model.specs.declared.object.Object.{Object}
use Rattle.retos_cli.specs.declared.purpose.Purpose.{Purpose}
use Rattle.retos_cli.specs.declared.purpose.Purpose.TheVariants.{Checked, Application, Source, Plain, Script as Scripted}
use Rattle.retos_cli.specs.declared.outcome.Refused.{Refused}
use Rattle.retos_cli.specs.declared.outcome.Stop.{Stop}
use Rattle.retos_cli.specs.declared.outcome.Stop.TheVariants.{Refuse, ReadFault, NoMemory}
use Rattle.retos_cli.specs.Words.{word}
use Rattle.retos_cli.specs.Meaning.{Input, AsksCheck, Taken, AreTaken, IsTaken, IsFirstRefused, IsReached, named_inputs}
use Rattle.retos_cli.specs.Lines.{accepted_line, accepted_lines, marked_below}
use Rattle.retos_cli.specs.Ends.{Told, IsHeld, RefusesInput, InputEnds, StopCause, OnlyRead}
use Rattle.retos_cli.proofs.Told.{told_map, told_same, told_all, told_both, rose_before, read_none, read_more}
use Rattle.retos_cli.proofs.Pieces.{GotBefore, before_start, before_more, before_cut}

abbrev input-of : Purpose → List ℕ → Input
input-of purpose name = record { name = name; purpose = purpose }

-- of the inputs so far each is taken, and what ends those that are left ends all
pub record Gathered (purpose : Purpose) (m : Files) (names : List (List ℕ)) (os : List Loadable) (left : List (List ℕ)) : Type 0 where
  pub taken : (more : List Loadable) → AreTaken purpose m left more → AreTaken purpose m names (os ++ more)
  pub refused : (r : Refused) → IsFirstRefused m (named_inputs purpose left) r → IsFirstRefused m (named_inputs purpose names) r
  pub reached : (n : List ℕ) → IsReached m (named_inputs purpose left) n → IsReached m (named_inputs purpose names) n

pub record Gathering (purpose : Purpose) (f0 f1 : FolderState) (names : List (List ℕ)) (os : List Loadable) (at : ℕ) : Type 0 where
  pub read : OnlyRead f0 f1
  pub count : length os ≡ at
  pub within : at ≤ length names
  pub told : Told f0.files (λ m. Gathered purpose m names os (drop at names))

start-gathered : (purpose : Purpose) (m : Files) (names : List (List ℕ)) → Gathered purpose m names [] names
start-gathered purpose m names = record { taken = λ more h. h; refused = λ r h. h; reached = λ n h. h }

pub gathering_start : (purpose : Purpose) (f : FolderState) (names : List (List ℕ)) (os : List Loadable) → os ≡ [] → Gathering purpose f f names os 0
gathering_start purpose f names os e =
    let P : List Loadable → Type 0 = λ xs. Gathering purpose f f names xs 0 in
    subst P (sym e) (record {
      read = read_none f;
      count = refl;
      within = omega arith;
      told = told_all f.files (λ m. Gathered purpose m names [] (drop 0 names)) (λ m x. start-gathered purpose m names);
    })

pub split-names : (names : List (List ℕ)) (at : ℕ) → at < length names → drop at names ≡ word names at ∷ drop (at + 1) names
split-names names at h = grind (arith, drop-cons, unwrap_or-slice_get)

taken-is : (purpose : Purpose) (m : Files) (name : List ℕ) (o : Loadable) → AsksCheck purpose → Taken purpose (held m name) o.object o.units → IsTaken m (input-of purpose name)
unfolding IsTaken
taken-is Checked m name o a h = (o.object, o.units, h)
taken-is Application m name o a h = (o.object, o.units, h)
taken-is Source m name o a h = absurd a
taken-is Plain m name o a h = absurd a
taken-is Scripted m name o a h = absurd a

pub refused_later : (m : Files) (i : Input) (others : List Input) (r : Refused) → IsTaken m i → IsFirstRefused m others r → IsFirstRefused m (i ∷ others) r
unfolding IsFirstRefused
refused_later m i others r t h = inr (t, h)

pub refused_here : (m : Files) (i : Input) (others : List Input) (r : Refused) → RefusesInput m i r → IsFirstRefused m (i ∷ others) r
unfolding IsFirstRefused
refused_here m i others r h = inl (h.name_is, h.refuses)

pub reached_later : (m : Files) (i : Input) (others : List Input) (n : List ℕ) → IsTaken m i → IsReached m others n → IsReached m (i ∷ others) n
unfolding IsReached
reached_later m i others n t h = inr (t, h)

pub reached_here : (m : Files) (i : Input) (others : List Input) (n : List ℕ) → n ≡ i.name → IsReached m (i ∷ others) n
unfolding IsReached
reached_here m i others n e = inl e

taken-cons : (purpose : Purpose) (m : Files) (name : List ℕ) (names : List (List ℕ)) (o : Loadable) (os : List Loadable) → Taken purpose (held m name) o.object o.units → AreTaken purpose m names os → AreTaken purpose m (name ∷ names) (o ∷ os)
unfolding AreTaken
taken-cons purpose m name names o os h t = (h, t)

more : (purpose : Purpose) (m : Files) (names : List (List ℕ)) (os : List Loadable) (name : List ℕ) (rest : List (List ℕ)) (o : Loadable)
    → AsksCheck purpose → Gathered purpose m names os (name ∷ rest) → Taken purpose (held m name) o.object o.units → Gathered purpose m names (os ++ o ∷ []) rest
more purpose m names os name rest o a g h = record {
  taken = λ xs t. let P : List Loadable → Type 0 = λ ys. AreTaken purpose m names ys in subst P (sym (append_assoc os (o ∷ []) xs)) (g.taken (o ∷ xs) (taken-cons purpose m name rest o xs h t));
  refused = λ r t. g.refused r (refused_later m (input-of purpose name) (named_inputs purpose rest) r (taken-is purpose m name o a h) t);
  reached = λ n t. g.reached n (reached_later m (input-of purpose name) (named_inputs purpose rest) n (taken-is purpose m name o a h) t);
}

longer : (os : List Loadable) (o : Loadable) → length (os ++ o ∷ []) ≡ length os + 1
longer [] o = refl
longer (x ∷ os) o = omega (arith, longer os o)

pub gathering_more : (purpose : Purpose) (f0 f1 f2 : FolderState) (names : List (List ℕ)) (name : List ℕ) (os new : List Loadable) (at : ℕ) (o : Object) (units : List ℕ)
    → AsksCheck purpose → Gathering purpose f0 f1 names os at → at < length names → name ≡ word names at → InputEnds f1 f2 (record { name = name; purpose = purpose }) (Ok (o, units)) → OnlyRead f1 f2
    → new ≡ os ++ (record { object = o; units = units }) ∷ [] → Gathering purpose f0 f2 names new (at + 1)
gathering_more purpose f0 f1 f2 names name os new at o units a g h n e r w =
    let item : Loadable = record { object = o; units = units } in
    let P : List Loadable → Type 0 = λ xs. Gathering purpose f0 f2 names xs (at + 1) in
    let N : List ℕ → Type 0 = λ x. Told f1.files (λ m. Taken purpose (held m x) o units) in
    let here : Told f0.files (λ m. Taken purpose (held m (word names at)) o units) = told_same f0.files f1.files (λ m. Taken purpose (held m (word names at)) o units) g.read.files (subst N n e) in
    subst P (sym w) (record {
      read = read_more f0 f1 f2 g.read r;
      count = omega (arith, longer os item, g.count);
      within = omega (arith, h);
      told = told_both f0.files (λ m. Gathered purpose m names os (drop at names)) (λ m. Taken purpose (held m (word names at)) o units) (λ m. Gathered purpose m names (os ++ item ∷ []) (drop (at + 1) names))
          (λ m s x y. let Q : List (List ℕ) → Type 0 = λ xs. Gathered purpose m names os xs in more purpose m names os (word names at) (drop (at + 1) names) item a (subst Q (split-names names at h) x) y) g.told here;
    })

stop-refused : (purpose : Purpose) (m : Files) (names : List (List ℕ)) (os : List Loadable) (name : List ℕ) (rest : List (List ℕ)) (r : Refused)
    → Gathered purpose m names os (name ∷ rest) → RefusesInput m (input-of purpose name) r → IsFirstRefused m (named_inputs purpose names) r
stop-refused purpose m names os name rest r g h = g.refused r (refused_here m (input-of purpose name) (named_inputs purpose rest) r h)

stops-at : (purpose : Purpose) (f0 f1 f2 : FolderState) (names : List (List ℕ)) (os : List Loadable) (at : ℕ) (stop : Stop)
    → Gathering purpose f0 f1 names os at → at < length names → InputEnds f1 f2 (input-of purpose (word names at)) (Err stop) → StopCause (named_inputs purpose names) f0 f2 stop
stops-at purpose f0 f1 f2 names os at (Refuse r) g h e =
    told_both f0.files (λ m. Gathered purpose m names os (drop at names)) (λ m. RefusesInput m (input-of purpose (word names at)) r) (λ m. IsFirstRefused m (named_inputs purpose names) r)
    (λ m s x y. let Q : List (List ℕ) → Type 0 = λ xs. Gathered purpose m names os xs in stop-refused purpose m names os (word names at) (drop (at + 1) names) r (subst Q (split-names names at h) x) y)
    g.told (told_same f0.files f1.files (λ m. RefusesInput m (input-of purpose (word names at)) r) g.read.files e)
stops-at purpose f0 f1 f2 names os at (ReadFault n) g h e = record {
  is_held = told_same f0.files f1.files (λ m. IsHeld m n) g.read.files e.is_held;
  rose = rose_before f0.read_faults f1.read_faults f2.read_faults g.read.later e.rose;
  last = e.last;
  reached = told_map f0.files (λ m. Gathered purpose m names os (drop at names)) (λ m. IsReached m (named_inputs purpose names) n)
      (λ m s x. let Q : List (List ℕ) → Type 0 = λ xs. Gathered purpose m names os xs in (subst Q (split-names names at h) x).reached n (reached_here m (input-of purpose (word names at)) (named_inputs purpose (drop (at + 1) names)) n e.name_is)) g.told;
}
stops-at purpose f0 f1 f2 names os at NoMemory g h e = tt

pub gathering_stops : (purpose : Purpose) (f0 f1 f2 : FolderState) (names : List (List ℕ)) (name : List ℕ) (os : List Loadable) (at : ℕ) (stop : Stop)
    → Gathering purpose f0 f1 names os at → at < length names → name ≡ word names at → InputEnds f1 f2 (record { name = name; purpose = purpose }) (Err stop) → StopCause (named_inputs purpose names) f0 f2 stop
gathering_stops purpose f0 f1 f2 names name os at stop g h n e =
    let N : List ℕ → Type 0 = λ x. InputEnds f1 f2 (input-of purpose x) (Err stop) in stops-at purpose f0 f1 f2 names os at stop g h (subst N n e)

none-taken : (purpose : Purpose) (m : Files) → AreTaken purpose m [] []
unfolding AreTaken
none-taken purpose m = tt

none-left : (purpose : Purpose) (m : Files) (names : List (List ℕ)) (at : ℕ) → length names ≤ at → AreTaken purpose m (drop at names) []
none-left purpose m names at h = let P : List (List ℕ) → Type 0 = λ xs. AreTaken purpose m xs [] in subst P (sym (drop_all at names h)) (none-taken purpose m)

pub gathering_all : (purpose : Purpose) (f0 f1 : FolderState) (names : List (List ℕ)) (os : List Loadable) (at : ℕ) → Gathering purpose f0 f1 names os at → length names ≤ at → Told f0.files (λ m. AreTaken purpose m names os)
gathering_all purpose f0 f1 names os at g h =
    told_map f0.files (λ m. Gathered purpose m names os (drop at names)) (λ m. AreTaken purpose m names os)
    (λ m s x. let P : List Loadable → Type 0 = λ xs. AreTaken purpose m names xs in subst P (append-nil os) (x.taken [] (none-left purpose m names at h))) g.told

-- ---- the lines

split-objects : (os : List Loadable) (at : ℕ) (o : Loadable) → slice_get os at ≡ Some o → drop at os ≡ o ∷ drop (at + 1) os
split-objects os at o e =
    let next : suc at ≡ at + 1 = omega arith in
    drop-cons os at o (slice_get_within os at o e) ∙ ap (λ (x : Loadable). x ∷ drop (suc at) os) (get_or_from_slice_get os at o o e) ∙ ap (λ (n : ℕ). o ∷ drop n os) next

text-of : List ℕ → ℕ → ℕ → List ℕ
text-of name words units = name ++ codes ": accepted " ++ decimal words ++ codes " words " ++ decimal units ++ codes " units" ++ 10 ∷ []

same-item : (x o : Loadable) → Some x ≡ Some o → x ≡ o
same-item x o e = cc e

-- the line of the object at a place
pub line_is : (os : List Loadable) (at : ℕ) (name named : List ℕ) (x y : Loadable) (words units : ℕ) (line : List ℕ) → slice_get os at ≡ Some x → slice_get os at ≡ Some y → named ≡ name
    → words ≡ length x.object.code → units ≡ marked_below y.units (length x.object.code)
    → line ≡ named ++ codes ": accepted " ++ decimal words ++ codes " words " ++ decimal units ++ codes " units" ++ 10 ∷ []
    → (o : Loadable) → slice_get os at ≡ Some o → line ≡ accepted_line name o.object o.units
unfolding accepted_line text-of
line_is os at name named x y words units line ex ey n w u l o e =
    l ∙ ap (λ (t : List ℕ). text-of t words units) n ∙ ap (λ (k : ℕ). text-of name k units) w ∙ ap (λ (k : ℕ). text-of name (length x.object.code) k) u
    ∙ ap (λ (z : Loadable). text-of name (length z.object.code) (marked_below y.units (length z.object.code))) (same-item x o (sym ex ∙ e))
    ∙ ap (λ (z : Loadable). text-of name (length o.object.code) (marked_below z.units (length o.object.code))) (same-item y o (sym ey ∙ e))

lines_more : (names : List (List ℕ)) (os : List Loadable) (at : ℕ) (o : Loadable) → at < length names → slice_get os at ≡ Some o
    → accepted_lines (drop at names) (drop at os) ≡ accepted_line (word names at) o.object o.units ++ accepted_lines (drop (at + 1) names) (drop (at + 1) os)
unfolding accepted_lines
lines_more names os at o h e =
    ap (λ (xs : List (List ℕ)). accepted_lines xs (drop at os)) (split-names names at h)
    ∙ ap (λ (xs : List Loadable). accepted_lines (word names at ∷ drop (at + 1) names) xs) (split-objects os at o e)

no-names : (os : List Loadable) → accepted_lines [] os ≡ []
unfolding accepted_lines
no-names os = refl

no-objects : (names : List (List ℕ)) → accepted_lines names [] ≡ []
unfolding accepted_lines
no-objects [] = refl
no-objects (n ∷ ns) = refl

abbrev Before : (old new : Option (List ℕ)) → List ℕ → List (List ℕ) → List Loadable → ℕ → Type 0
Before old new whole names os at = GotBefore old new whole (accepted_lines (drop at names) (drop at os))

pub lines_start : (old : Option (List ℕ)) (names : List (List ℕ)) (os : List Loadable) → Before old old (accepted_lines names os) names os 0
lines_start old names os = before_start old (accepted_lines names os)

some-at : (os : List Loadable) (at : ℕ) → at < length os → (o : Loadable) × (slice_get os at ≡ Some o)
some-at [] at h = absurd (omega (arith, h))
some-at (o ∷ os) zero h = (o, refl)
some-at (o ∷ os) (suc k) h = some-at os k (omega (arith, h))

pub lines_step : (old mid new : Option (List ℕ)) (whole line : List ℕ) (names : List (List ℕ)) (os : List Loadable) (at : ℕ)
    → Before old mid whole names os at → at < length names → at < length os → ((o : Loadable) → slice_get os at ≡ Some o → line ≡ accepted_line (word names at) o.object o.units)
    → new ≡ appended mid line → Before old new whole names os (at + 1)
lines_step old mid new whole line names os at b h k l e =
    let found : (o : Loadable) × (slice_get os at ≡ Some o) = some-at os at k in
    let o : Loadable = found.0 in
    let P : List ℕ → Type 0 = λ t. GotBefore old mid whole t in
    before_more old mid new whole (accepted_line (word names at) o.object o.units) (accepted_lines (drop (at + 1) names) (drop (at + 1) os)) (subst P (lines_more names os at o h found.1) b)
    (e ∙ ap (λ (t : List ℕ). appended mid t) (l o found.1))

pub lines_cut : (old mid new : Option (List ℕ)) (whole line : List ℕ) (names : List (List ℕ)) (os : List Loadable) (at : ℕ)
    → Before old mid whole names os at → at < length names → at < length os → ((o : Loadable) → slice_get os at ≡ Some o → line ≡ accepted_line (word names at) o.object o.units)
    → GotPrefix mid new line → GotPrefix old new whole
lines_cut old mid new whole line names os at b h k l g =
    let found : (o : Loadable) × (slice_get os at ≡ Some o) = some-at os at k in
    let o : Loadable = found.0 in
    let P : List ℕ → Type 0 = λ t. GotBefore old mid whole t in
    let Q : List ℕ → Type 0 = λ t. GotPrefix mid new t in
    before_cut old mid new whole (accepted_line (word names at) o.object o.units) (accepted_lines (drop (at + 1) names) (drop (at + 1) os)) (subst P (lines_more names os at o h found.1) b) (subst Q (l o found.1) g)

before-all : (old new : Option (List ℕ)) (whole rest : List ℕ) → GotBefore old new whole rest → rest ≡ [] → new ≡ appended old whole
before-all old new whole rest b e = b.got ∙ ap (λ (t : List ℕ). appended old t) (sym (append-nil b.part) ∙ ap (λ (t : List ℕ). b.part ++ t) (sym e) ∙ b.whole_is)

pub lines_end_names : (old new : Option (List ℕ)) (whole : List ℕ) (names : List (List ℕ)) (os : List Loadable) (at : ℕ) → Before old new whole names os at → length names ≤ at → new ≡ appended old whole
lines_end_names old new whole names os at b h = before-all old new whole (accepted_lines (drop at names) (drop at os)) b (ap (λ (xs : List (List ℕ)). accepted_lines xs (drop at os)) (drop_all at names h) ∙ no-names (drop at os))

pub lines_end_objects : (old new : Option (List ℕ)) (whole : List ℕ) (names : List (List ℕ)) (os : List Loadable) (at : ℕ) → Before old new whole names os at → length os ≤ at → new ≡ appended old whole
lines_end_objects old new whole names os at b h = before-all old new whole (accepted_lines (drop at names) (drop at os)) b (ap (λ (xs : List Loadable). accepted_lines (drop at names) xs) (drop_all at os h) ∙ no-objects (drop at names))

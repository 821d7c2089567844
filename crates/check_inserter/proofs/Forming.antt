-- The object with guards meets the form.
use Rattle.std.proofs.Common.{◌≡◌, ℕ, zero, suc, ◌+◌, ◌-◌, ◌*◌, ◌/◌, ◌%◌, ◌≤◌, ◌<◌, nat_lt, if◌then◌else◌, Bool, true, false, not, List, [], ◌∷◌, ◌++◌, inl, inr, length, map, fold, flat_map, slice_index, slice_index_or, Option, None, Some, sym, subst, refl, ap, ◌∙◌, arith, rules}
use Rattle.std.proofs.lemmas.Bool.{cases_lt}
use Rattle.std.proofs.lemmas.List.{length-append, length-map, get_or-map, get_or_default}
use Rattle.code_model.specs.declared.object.TheConstants.{CODE_WORDS_MAX, RELOCS_MAX, STATIC_BYTES_MAX}
use Rattle.code_model.specs.declared.object.Object.{Object}
use Rattle.kernel_model.specs.declared.kinds.Kind.TheVariants.{App, Module}
use Rattle.code_model.specs.declared.parts.Reloc.{Reloc}
use Rattle.code_model.specs.declared.parts.Export.{Export}
use Rattle.code_model.specs.declared.parts.RelKind.{RelKind}
use Rattle.code_model.specs.Fields.{fields, fields_by}
use Rattle.code_model.specs.Form.{key, InOrder, IsInCode, RelocFits, AppForm, ModuleForm, MeetsForm}
use Rattle.code_model.specs.Starts.{Start}
use Rattle.insert_model.specs.declared.fault.InsertKind.TheVariants.{BadTarget}
use Rattle.insert_model.specs.declared.line.Line.{Line}
use Rattle.insert_model.specs.declared.piece.Word.{Word}
use Rattle.insert_model.specs.Source.{lines}
use Rattle.insert_model.specs.Units.{static_bytes}
use Rattle.insert_model.specs.Inserted.{moved, with_reloc, relocs_from, moved_data, of_data, moved_export, with_guards, inserted}
use Rattle.insert_model.specs.Groups.{is_target, Group, members, groups}
use Rattle.insert_model.specs.Layout.{units, before, words_before, sized, final_units, place_map}
use Rattle.insert_model.specs.Laws.{GroupsStand}
use Rattle.insert_model.specs.Faults.{NoHit, IsStartOffset, ExportsMiss, most_words, IsInserted}
use Rattle.check_inserter.specs.declared.laying.Laid.{Laid}
use Rattle.source_faults.specs.Read.{StartsIn, IsSource}
use Rattle.check_inserter.specs.Places.{IsLaid}
use Rattle.check_inserter.proofs.Naming.{entry_named, export_named}
use Rattle.check_inserter.proofs.UnitSizes.{head_moves, target_begins, some_units}
use Rattle.insert_laws.proofs.Static.{init_length}

pub source_of : (o : Object) (ls : List Line) → IsSource o ls → IsSource o (lines (fields o))
source_of o ls s = subst (IsSource o) s.are s

-- ---- facts of each relocation

Each : (Reloc → Type 0) → List Reloc → Type 0
Each P [] = Unit {0}
Each P (r ∷ rs) = P r × Each P rs

each_at : (P : Reloc → Type 0) (rs : List Reloc) (k : ℕ) (d : Reloc) → Each P rs → k < length rs → P (slice_index_or rs k d)
unfolding Each
each_at P [] k d all h = absurd (omega arith)
each_at P (r ∷ rs) zero d all h = all.0
each_at P (r ∷ rs) (suc k) d all h = each_at P rs k d all.1 (omega arith)

at_each : (P : Reloc → Type 0) (rs : List Reloc) → ((k : ℕ) (d : Reloc) → k < length rs → P (slice_index_or rs k d)) → Each P rs
unfolding Each
at_each P [] all = tt
at_each P (r ∷ rs) all = (all 0 r (omega arith), at_each P rs (λ k d h. all (suc k) d (omega arith)))

each_append : (P : Reloc → Type 0) (xs ys : List Reloc) → Each P xs → Each P ys → Each P (xs ++ ys)
unfolding Each
each_append P [] ys a b = b
each_append P (x ∷ xs) ys a b = (a.0, each_append P xs ys a.1 b)

dropped : (x : Reloc) (rs : List Reloc) (P : List Reloc → Type 0) → x.in_code ≡ true → P (of_data rs) → P (of_data (x ∷ rs))
dropped x rs P e h = subst (λ (b : Bool). P (if not b then x ∷ of_data rs else of_data rs)) (sym e) h

kept : (x : Reloc) (rs : List Reloc) (P : List Reloc → Type 0) → x.in_code ≡ false → P (x ∷ of_data rs) → P (of_data (x ∷ rs))
kept x rs P e h = subst (λ (b : Bool). P (if not b then x ∷ of_data rs else of_data rs)) (sym e) h

each_cons : (Q : Reloc → Type 0) (r : Reloc) (rs : List Reloc) (b : Bool) → r.in_code ≡ b → (r.in_code ≡ false → Q r) → Each Q (of_data rs) → Each Q (of_data (r ∷ rs))
unfolding Each
each_cons Q r rs true e here rest = dropped r rs (Each Q) e rest
each_cons Q r rs false e here rest = kept r rs (Each Q) e (here e, rest)

-- those of static data
each_data : (P Q : Reloc → Type 0) (rs : List Reloc) → ((r : Reloc) → r.in_code ≡ false → P r → Q r) → Each P rs → Each Q (of_data rs)
unfolding Each
each_data P Q [] go all = tt
each_data P Q (r ∷ rs) go all = each_cons Q r rs r.in_code refl (λ e. go r e all.0) (each_data P Q rs go all.1)

-- ---- the order of relocations

Rises : ℕ → List Reloc → Type 0
Rises low [] = Unit {0}
Rises low (r ∷ rs) = (low ≤ key r) × Rises (key r + 1) rs

rises_less : (a b : ℕ) (rs : List Reloc) → a ≤ b → Rises b rs → Rises a rs
unfolding Rises
rises_less a b [] h r = tt
rises_less a b (x ∷ rs) h r = (omega (arith, r.0), r.1)

rises_at : (low : ℕ) (rs : List Reloc) (k : ℕ) (d : Reloc) → Rises low rs → k < length rs → low ≤ key (slice_index_or rs k d)
unfolding Rises
rises_at low [] k d r h = absurd (omega arith)
rises_at low (x ∷ rs) zero d r h = r.0
rises_at low (x ∷ rs) (suc k) d r h = let m : key x + 1 ≤ key (slice_index_or rs k d) = rises_at (key x + 1) rs k d r.1 (omega arith) in omega (arith, r.0)

rises_order : (low : ℕ) (rs : List Reloc) → Rises low rs → InOrder rs
unfolding Rises
rises_order low [] r j k d less h = absurd (omega arith)
rises_order low (x ∷ rs) r j zero d less h = absurd (omega arith)
rises_order low (x ∷ rs) r zero (suc k) d less h = let m : key x + 1 ≤ key (slice_index_or rs k d) = rises_at (key x + 1) rs k d r.1 (omega arith) in omega arith
rises_order low (x ∷ rs) r (suc j) (suc k) d less h = rises_order (key x + 1) rs r.1 j k d (omega arith) (omega arith)

order_rises : (rs : List Reloc) (low : ℕ) → InOrder rs → ((d : Reloc) → 0 < length rs → low ≤ key (slice_index_or rs 0 d)) → Rises low rs
unfolding Rises
order_rises [] low order first = tt
order_rises (r ∷ rs) low order first =
    (first r (omega arith), order_rises rs (key r + 1) (λ j k d less h. order (suc j) (suc k) d (omega arith) (omega arith)) (λ d h. let m : key r < key (slice_index_or rs 0 d) = order 0 1 d (omega arith) (omega arith) in omega arith))

data_key : (r : Reloc) → r.in_code ≡ false → key r ≡ r.offset + 65536
data_key r e = rw e refl

code_key : (r : Reloc) → r.in_code ≡ true → key r ≡ r.offset
code_key r e = rw e refl

rises_cons : (x : Reloc) (rs : List Reloc) (low : ℕ) (b : Bool) → x.in_code ≡ b → low ≤ key x → Rises (key x + 1) (of_data rs) → Rises low (of_data (x ∷ rs))
unfolding Rises
rises_cons x rs low true e least rest = dropped x rs (Rises low) e (rises_less low (key x + 1) (of_data rs) (omega (arith, least)) rest)
rises_cons x rs low false e least rest = kept x rs (Rises low) e (least, rest)

data_rises : (rs : List Reloc) (low : ℕ) → Rises low rs → Rises low (of_data rs)
unfolding Rises
data_rises [] low r = tt
data_rises (x ∷ rs) low r = rises_cons x rs low x.in_code refl r.0 (data_rises rs (key x + 1) r.1)

high_rises : (rs : List Reloc) (low : ℕ) → Each (λ r. 65536 ≤ key r) rs → Rises low rs → Rises 65536 rs
unfolding Rises Each
high_rises [] low all r = tt
high_rises (x ∷ rs) low all r = (all.0, r.1)

rises_append : (low mid : ℕ) (xs ys : List Reloc) → Rises low xs → Each (λ r. key r < mid) xs → Rises mid ys → low ≤ mid → Rises low (xs ++ ys)
unfolding Rises Each
rises_append low mid [] ys r all s h = rises_less low mid ys h s
rises_append low mid (x ∷ xs) ys r all s h = (r.0, rises_append (key x + 1) mid xs ys r.1 all.1 s (omega (arith, all.0)))

-- ---- the relocations of new code words

IsCodeBelow : ℕ → Reloc → Type 0
IsCodeBelow end r = (r.in_code ≡ true) × (r.offset % 2 ≡ 0) × (r.offset < 2 * end)

code_rises_cons : (at : ℕ) (k : Option RelKind) (rs : List Reloc) → Rises (2 * (at + 1)) rs → Rises (2 * at) (with_reloc at k rs)
unfolding Rises
code_rises_cons at None rs rest = rises_less (2 * at) (2 * (at + 1)) rs (omega arith) rest
code_rises_cons at (Some k) rs rest = (omega arith, rises_less (2 * at + 1) (2 * (at + 1)) rs (omega arith) rest)

code_rises : (ws : List Word) (at : ℕ) → Rises (2 * at) (relocs_from at ws)
unfolding Rises
code_rises [] at = tt
code_rises (w ∷ ws) at = code_rises_cons at w.kind (relocs_from (at + 1) ws) (code_rises ws (at + 1))

code_each_cons : (at end : ℕ) (k : Option RelKind) (rs : List Reloc) → at < end → Each (IsCodeBelow end) rs → Each (IsCodeBelow end) (with_reloc at k rs)
unfolding Each IsCodeBelow
code_each_cons at end None rs h rest = rest
code_each_cons at end (Some k) rs h rest = ((refl, omega arith, omega arith), rest)

code_each : (ws : List Word) (at end : ℕ) → at + length ws ≤ end → Each (IsCodeBelow end) (relocs_from at ws)
unfolding Each IsCodeBelow
code_each [] at end h = tt
code_each (w ∷ ws) at end h = code_each_cons at end w.kind (relocs_from (at + 1) ws) (omega arith) (code_each ws (at + 1) end (omega arith))

count_cons : (at : ℕ) (k : Option RelKind) (rs : List Reloc) → length (with_reloc at k rs) ≤ 1 + length rs
count_cons at None rs = omega arith
count_cons at (Some k) rs = omega arith

code_count : (ws : List Word) (at : ℕ) → length (relocs_from at ws) ≤ length ws
code_count [] at = omega arith
code_count (w ∷ ws) at = omega (arith, count_cons at w.kind (relocs_from (at + 1) ws), code_count ws (at + 1))

-- ---- how many relocations static data has

IsEvenBelow : ℕ → Reloc → Type 0
IsEvenBelow top r = (key r % 2 ≡ 0) × (key r + 2 ≤ top)

even_rises : (low top : ℕ) (rs : List Reloc) → low % 2 ≡ 1 → Each (IsEvenBelow top) rs → Rises low rs → Rises (low + 1) rs
unfolding Rises Each IsEvenBelow
even_rises low top [] odd all r = tt
even_rises low top (x ∷ rs) odd all r = (omega (arith, r.0, all.0.0), r.1)

even_count : (rs : List Reloc) (low top : ℕ) → low % 2 ≡ 0 → Each (IsEvenBelow top) rs → Rises low rs → 2 * length rs ≤ top - low
unfolding Rises Each IsEvenBelow
even_count [] low top even all r = omega arith
even_count (x ∷ rs) low top even all r =
    let next : 2 * length rs ≤ top - (key x + 1 + 1) = even_count rs (key x + 1 + 1) top (omega (arith, all.0.0)) all.1 (even_rises (key x + 1) top rs (omega (arith, all.0.0)) all.1 r.1) in
    omega (arith, all.0.1, r.0)

-- ---- places

no_before : (gs : List Group) → before 0 gs ≡ []
unfolding before
no_before [] = refl
no_before (g ∷ gs) = let e : nat_lt g.head.at 0 ≡ false = search rules in rw e (no_before gs)

first_place : (o : Object) → place_map (fields o) 0 ≡ 0
unfolding place_map words_before units
first_place o = rw no_before refl

place_even : (o : Object) (x : ℕ) → place_map (fields o) x % 2 ≡ 0
unfolding place_map
place_even o x = omega arith

line_starts : (o : Object) (t : ℕ) → GroupsStand (fields o) → IsSource o (lines (fields o)) → Start o.code t → StartsIn (flat_map members (groups (fields o))) t
line_starts o t stand source start = subst (λ (ls : List Line). StartsIn ls t) (sym stand.are) ((source.starts t).0 start)

-- a target that is a start begins a group
place_below : (o : Object) (x : ℕ) → GroupsStand (fields o) → IsSource o (lines (fields o)) → is_target (fields o) x ≡ true → IsStartOffset o.code x
    → place_map (fields o) x < 2 * length (units (sized (fields o)) (static_bytes (fields o)) (groups (fields o)))
unfolding place_map words_before IsStartOffset
place_below o x stand source target (t, start, e) =
    let half : x / 2 ≡ t = omega arith in
    let aimed : is_target (fields o) (2 * t) ≡ true = ap (is_target (fields o)) (sym e) ∙ target in
    let less : length (units (sized (fields o)) (static_bytes (fields o)) (before t (groups (fields o)))) < length (units (sized (fields o)) (static_bytes (fields o)) (groups (fields o))) =
    head_moves (fields o) (sized (fields o)) (static_bytes (fields o)) t (groups (fields o)) stand.each (target_begins (fields o) t (groups (fields o)) stand.each aimed (line_starts o t stand source start)) in
    subst (λ (k : ℕ). 2 * length (units (sized (fields o)) (static_bytes (fields o)) (before k (groups (fields o)))) < 2 * length (units (sized (fields o)) (static_bytes (fields o)) (groups (fields o)))) (sym half) (omega arith)

-- where it can't fail, it holds
below_sure : (a b : ℕ) (P : Type 0) → ((P → ⊥) → ⊥) → (P → a < b) → a < b
below_sure a b P sure go = elim (cases_lt a b) [ inl less ↦ less | inr more ↦ absurd (sure (λ p. let less : a < b = go p in omega arith)) ]

export_hit : (o : Object) (k : ℕ) (d : Export) → k < length o.exports → (IsStartOffset o.code (slice_index_or o.exports k d).offset → ⊥) → ExportsMiss o o.exports (slice_index_or o.exports k d).offset
unfolding ExportsMiss
export_hit o k d h never = (k, slice_index_or o.exports k d, h, get_or_default o.exports k (slice_index_or o.exports k d) d h, (never, refl))

module _ (o : Object) (laid : Laid) (is : IsLaid o laid) (stand : GroupsStand (fields o)) (source : IsSource o (lines (fields o))) (clean : NoHit o) where
  words_length : length laid.words.items ≡ length (units (sized (fields o)) (static_bytes (fields o)) (groups (fields o)))
  words_length = is.final.size

  words_most : length laid.words.items ≤ CODE_WORDS_MAX
  unfolding most_words
  words_most = is.fits

  words_least : 1 ≤ length laid.words.items
  words_least =
      let start : Start o.code 0 = record { count = 0; reached = refl; below = omega (arith, o.form.code_least) } in
      omega (arith, words_length, some_units (fields o) (sized (fields o)) (static_bytes (fields o)) 0 (groups (fields o)) stand.each (line_starts o 0 stand source start))

  entry_below : o.kind ≡ App → place_map (fields o) o.entry < 2 * length laid.words.items
  entry_below app =
      below_sure (place_map (fields o) o.entry) (2 * length laid.words.items) (IsStartOffset o.code o.entry)
      (λ never. clean BadTarget o.entry (inr (refl, inl (app, never, refl))))
      (λ start. omega (arith, place_below o o.entry stand source (entry_named (fields o)) start, words_length))

  export_below : (k : ℕ) (d : Export) → k < length o.exports → place_map (fields o) (slice_index_or o.exports k d).offset < 2 * length laid.words.items
  export_below k d h =
      below_sure (place_map (fields o) (slice_index_or o.exports k d).offset) (2 * length laid.words.items) (IsStartOffset o.code (slice_index_or o.exports k d).offset)
      (λ never. clean BadTarget (slice_index_or o.exports k d).offset (inr (refl, inr (inl (export_hit o k d h never)))))
      (λ start. omega (arith, place_below o (slice_index_or o.exports k d).offset stand source (export_named (fields o) k d h) start, words_length))

  module _ (code init : List ℕ) (entry : ℕ) (relocs : List Reloc) (exports : List Export)
      (ecode : code ≡ map (moved (place_map (fields o))) laid.words.items) (small : (k : ℕ) → slice_index code k < 65536)
      (einit : init ≡ fold (moved_data (place_map (fields o))) o.init o.relocs) (bytes : (k : ℕ) → slice_index init k < 256)
      (erelocs : relocs ≡ relocs_from 0 laid.words.items ++ of_data o.relocs) (eexports : exports ≡ map (moved_export (place_map (fields o))) o.exports)
      (eentry : entry ≡ place_map (fields o) o.entry) where
    code_length : length code ≡ length laid.words.items
    code_length = ap length ecode ∙ length-map laid.words.items (moved (place_map (fields o)))

    bytes_length : length init ≡ length o.init
    bytes_length = ap length einit ∙ init_length (place_map (fields o)) o.relocs o.init

    exports_length : length exports ≡ length o.exports
    exports_length = ap length eexports ∙ length-map o.exports (moved_export (place_map (fields o)))

    entry_in : o.kind ≡ App → IsInCode code entry
    entry_in app = record { even = ap (λ (n : ℕ). n % 2) eentry ∙ place_even o o.entry; below = omega (arith, entry_below app, code_length) }

    app_form : o.kind ≡ App → AppForm code o.stack o.threads entry exports
    app_form app = let f = o.form.app app in record {
      stack_even = f.stack_even;
      stack_least = f.stack_least;
      stack_most = f.stack_most;
      threads_least = f.threads_least;
      threads_most = f.threads_most;
      no_exports = exports_length ∙ f.no_exports;
      entry_in_code = entry_in app;
    }

    module_form : o.kind ≡ Module → ModuleForm o.stack o.threads entry exports
    module_form m = let f = o.form.of_module m in record {
      no_stack = f.no_stack;
      no_threads = f.no_threads;
      entry_zero = eentry ∙ ap (place_map (fields o)) f.entry_zero ∙ first_place o;
      exports_least = omega (arith, f.exports_least, exports_length);
      exports_most = omega (arith, f.exports_most, exports_length);
    }

    export_is : (k : ℕ) (d : Export) → k < length exports → slice_index_or exports k d ≡ moved_export (place_map (fields o)) (slice_index_or o.exports k d)
    export_is k d h = ap (λ (es : List Export). slice_index_or es k d) eexports ∙ get_or-map (moved_export (place_map (fields o))) o.exports k d d (omega (arith, exports_length))

    export_in : (k : ℕ) (d : Export) → k < length exports → IsInCode code (slice_index_or exports k d).offset
    export_in k d h =
        let e : (slice_index_or exports k d).offset ≡ place_map (fields o) (slice_index_or o.exports k d).offset = ap (λ (x : Export). x.offset) (export_is k d h) in
        record {
          even = ap (λ (n : ℕ). n % 2) e ∙ place_even o (slice_index_or o.exports k d).offset;
          below = omega (arith, export_below k d (omega (arith, exports_length)), code_length);
        }

    export_number : (k : ℕ) (d : Export) → k < length exports → (slice_index_or exports k d).number ≡ (slice_index_or o.exports k d).number
    export_number k d h = ap (λ (x : Export). x.number) (export_is k d h)

    -- relocations
    fits_code : (r : Reloc) → IsCodeBelow (length laid.words.items) r → RelocFits code init r
    unfolding IsCodeBelow
    fits_code r h = record {
      even = h.1;
      in_code = λ e. omega (arith, h.2, code_length);
      in_init = λ e. let never : true ≡ false = sym h.0 ∙ e in cc;
      init_kind = λ e. let never : true ≡ false = sym h.0 ∙ e in cc;
    }

    fits_data : (r : Reloc) → r.in_code ≡ false → RelocFits o.code o.init r → RelocFits code init r
    fits_data r e h = record {
      even = h.even;
      in_code = λ f. let never : false ≡ true = sym e ∙ f in cc;
      in_init = λ f. let least : r.offset + 2 ≤ length o.init = h.in_init f in omega (arith, bytes_length);
      init_kind = h.init_kind;
    }

    old_fit : Each (RelocFits o.code o.init) o.relocs
    old_fit = at_each (RelocFits o.code o.init) o.relocs o.form.relocs_fit

    code_below : Each (IsCodeBelow (length laid.words.items)) (relocs_from 0 laid.words.items)
    code_below = code_each laid.words.items 0 (length laid.words.items) (omega arith)

    each_weaker : (P Q : Reloc → Type 0) (rs : List Reloc) → ((r : Reloc) → P r → Q r) → Each P rs → Each Q rs
    unfolding Each
    each_weaker P Q [] go all = tt
    each_weaker P Q (r ∷ rs) go all = (go r all.0, each_weaker P Q rs go all.1)

    new_fit : Each (RelocFits code init) (relocs_from 0 laid.words.items ++ of_data o.relocs)
    new_fit =
        each_append (RelocFits code init) (relocs_from 0 laid.words.items) (of_data o.relocs)
        (each_weaker (IsCodeBelow (length laid.words.items)) (RelocFits code init) (relocs_from 0 laid.words.items) fits_code code_below)
        (each_data (RelocFits o.code o.init) (RelocFits code init) o.relocs fits_data old_fit)

    old_rises : Rises 0 o.relocs
    old_rises = order_rises o.relocs 0 o.form.relocs_rise (λ d h. omega arith)

    high : Each (λ r. 65536 ≤ key r) (of_data o.relocs)
    high = each_data (RelocFits o.code o.init) (λ r. 65536 ≤ key r) o.relocs (λ r e f. omega (arith, data_key r e)) old_fit

    code_keys : Each (λ r. key r < 65536) (relocs_from 0 laid.words.items)
    unfolding IsCodeBelow
    code_keys = each_weaker (IsCodeBelow (length laid.words.items)) (λ r. key r < 65536) (relocs_from 0 laid.words.items) (λ r h. omega (arith, code_key r h.0, h.2, words_most)) code_below

    new_rises : Rises 0 (relocs_from 0 laid.words.items ++ of_data o.relocs)
    new_rises =
        rises_append 0 65536 (relocs_from 0 laid.words.items) (of_data o.relocs) (rises_less 0 (2 * 0) (relocs_from 0 laid.words.items) (omega arith) (code_rises laid.words.items 0)) code_keys
        (high_rises (of_data o.relocs) 0 high (data_rises o.relocs 0 old_rises)) (omega arith)

    even_below : (r : Reloc) → r.in_code ≡ false → RelocFits o.code o.init r → IsEvenBelow (65536 + STATIC_BYTES_MAX) r
    unfolding IsEvenBelow
    even_below r e f = let least : r.offset + 2 ≤ length o.init = f.in_init e in (omega (arith, data_key r e, f.even), omega (arith, data_key r e, o.form.static_most))

    data_count : length (of_data o.relocs) ≤ STATIC_BYTES_MAX / 2
    data_count =
        let h : 2 * length (of_data o.relocs) ≤ 65536 + STATIC_BYTES_MAX - 65536 =
        even_count (of_data o.relocs) 65536 (65536 + STATIC_BYTES_MAX) (omega arith) (each_data (RelocFits o.code o.init) (IsEvenBelow (65536 + STATIC_BYTES_MAX)) o.relocs even_below old_fit)
        (high_rises (of_data o.relocs) 0 high (data_rises o.relocs 0 old_rises)) in
        omega arith

    relocs_count : length relocs ≤ RELOCS_MAX
    relocs_count = omega (arith, ap length erelocs, length-append (relocs_from 0 laid.words.items) (of_data o.relocs), code_count laid.words.items 0, data_count, words_most)

    pub meets : MeetsForm o.kind o.version code init o.zeroed o.stack o.threads entry relocs exports
    meets = record {
      version_least = o.form.version_least;
      version_most = o.form.version_most;
      code_least = omega (arith, code_length, words_least);
      code_most = omega (arith, code_length, words_most);
      static_most = omega (arith, bytes_length, o.form.static_most);
      app = app_form;
      of_module = module_form;
      relocs_most = relocs_count;
      relocs_fit = λ k d h. subst (λ (rs : List Reloc). k < length rs → RelocFits code init (slice_index_or rs k d)) (sym erelocs)
          (each_at (RelocFits code init) (relocs_from 0 laid.words.items ++ of_data o.relocs) k d new_fit) h;
      relocs_rise = subst InOrder (sym erelocs) (rises_order 0 (relocs_from 0 laid.words.items ++ of_data o.relocs) new_rises);
      exports_fit = export_in;
      exports_small = λ k d h. omega (arith, export_number k d h, o.form.exports_small k d (omega (arith, exports_length)));
      exports_rise = λ j k d less h. omega (arith, export_number j d (omega arith), export_number k d h, o.form.exports_rise j k d less (omega (arith, exports_length)));
      words_small = small;
      bytes_small = bytes;
    }

    pub fields_are : fields_by o.kind o.version code init o.zeroed o.stack o.threads entry relocs exports ≡ inserted o
    unfolding inserted with_guards
    fields_are =
        let ec : code ≡ map (moved (place_map (fields o))) (final_units (fields o)) = ecode ∙ ap (map (moved (place_map (fields o)))) is.final.words in
        let er : relocs ≡ relocs_from 0 (final_units (fields o)) ++ of_data o.relocs = erelocs ∙ ap (λ (ws : List Word). relocs_from 0 ws ++ of_data o.relocs) is.final.words in
        λ i. fields_by o.kind o.version (ec i) (einit i) o.zeroed o.stack o.threads (eentry i) (er i) (eexports i)

    pub answer_is : (q : Object) → fields q ≡ fields_by o.kind o.version code init o.zeroed o.stack o.threads entry relocs exports → IsInserted o q
    answer_is q e = record {
      spelled = source.spelled;
      clean = clean;
      fits = subst (λ (ws : List Word). length ws ≤ most_words) is.final.words is.fits;
      is = e ∙ fields_are;
    }
